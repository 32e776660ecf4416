-- The end of a drawing, from the memory that it took, its put, and what was done by the put's answer.
use Rattle.std.proofs.Common.{◌≡◌, ℕ, Bool, true, false, not, List, Some, None, refl, sym, ap, ◌∙◌, subst}
use Rattle.std.specs.Prelude.{Result, Ok, Err, if◌then◌else◌}
use Rattle.farm_base.specs.Outside.{Outside}
use Rattle.tile_store.specs.declared.stores.StoreFault.{StoreFault}
use Rattle.tile_store.specs.declared.stores.StoreFault.TheVariants.{Failed, NoMemory}
use Rattle.tile_store.specs.Stores.{StoreTold, StorePuts}
use Rattle.farm_history.specs.declared.keys.Key.{Key}
use Rattle.farm_history.specs.declared.queues.Outcome.{Outcome}
use Rattle.farm_history.specs.declared.answers.Finished.{Finished}
use Rattle.farm_history.specs.Plans.{same_key}
use Rattle.render_queues.specs.Tables.{after_end}
use Rattle.expiry_lists.specs.Marks.{mark_of}
use Rattle.farm_plan.specs.Drawings.{key_path}
use Rattle.farm_plan.specs.Jobs.{JobSeen, job_key, job_text}
use Rattle.farm_refinement.specs.Seen.{FarmSeen}
use Rattle.farm_refinement.specs.inner.Events.{stale_tables, untaken}
use Rattle.farm_core.specs.declared.finishes.Drawn.{Drawn}
use Rattle.farm_core.specs.Answers.{IsDrawingOf, PutsBytes, PutsDrawing, drawn_bytes, is_drawn}
use Rattle.farm_core.specs.inner.Effects.{EndsPut, EndsDrawing, finished_by, one_stored, turn}

module _ {D : Type 0} (state : D → Outside StoreTold) where
  -- the put was one of the farm as it was before its memory was taken
  puts_from : (old mid put new : FarmSeen D) (key : Key) (bytes : List ℕ) (answer : Result (Unit {0}) StoreFault) → mid ≡ record old { marks = mid.marks } → new.store ≡ put.store → StorePuts (state mid.store) (state put.store) (key_path mid.plan key) bytes answer → StorePuts (state old.store) (state new.store) (key_path old.plan key) bytes answer
  puts_from old mid put new key bytes answer taken same p =
      subst (λ (d : D). StorePuts (state old.store) (state d) (key_path old.plan key) bytes answer) (sym same)
      (subst (λ (f : FarmSeen D). StorePuts (state f.store) (state put.store) (key_path f.plan key) bytes answer) taken p)

  -- and the farm after it has the same as before but its store and the room of its marks
  put_from : (old mid put : FarmSeen D) → mid ≡ record old { marks = mid.marks } → put ≡ record mid { store = put.store } → put ≡ record old { marks = mid.marks; store = put.store }
  put_from old mid put taken stored = stored ∙ ap {A = FarmSeen D} (λ f. record f { store = put.store }) taken

  pub put_kept : (old mid put new : FarmSeen D) (key : Key) (version : ℕ) (touched : Bool) (bytes : List ℕ) (answer : Result (Unit {0}) StoreFault) → mid ≡ record old { marks = mid.marks } → mid.marks.shown ≡ old.marks.shown →
      StorePuts (state mid.store) (state put.store) (key_path mid.plan key) bytes answer → put ≡ record mid { store = put.store } → EndsPut put new key version touched answer → EndsDrawing state old new key version touched bytes (finished_by touched answer)
  put_kept old mid put new key version touched bytes (Ok done) taken shown p stored e =
      let same : new.store ≡ put.store = ap (λ (f : FarmSeen D). f.store) e.1 in (
        refl,
        puts_from old mid put new key bytes (Ok done) taken same p,
        subst (λ ms. (k : Key) → mark_of new.marks.shown k ≡ (if same_key key k then Some (record { version = version; clean = not touched }) else mark_of ms k)) (ap (λ (f : FarmSeen D). f.marks.shown) stored ∙ shown) e.0,
        e.1 ∙ ap {A = FarmSeen D} (λ f. record f { marks = new.marks; queues = stale_tables (not touched) (after_end f.queues key Outcome.Done) key; counts = one_stored f.counts }) (put_from old mid put taken stored)
            ∙ ap {B = FarmSeen D} (λ (d : D). record old { store = d; marks = new.marks; queues = stale_tables (not touched) (after_end old.queues key Outcome.Done) key; counts = one_stored old.counts }) (sym same),
      )
  put_kept old mid put new key version touched bytes (Err Failed) taken shown p stored e =
      let same : new.store ≡ put.store = ap (λ (f : FarmSeen D). f.store) e.1 in (
        puts_from old mid put new key bytes (Err Failed) taken same p,
        subst (λ ms. (k : Key) → mark_of new.marks.shown k ≡ (if same_key key k then None else mark_of ms k)) (ap (λ (f : FarmSeen D). f.marks.shown) stored ∙ shown) e.0,
        e.1 ∙ ap {A = FarmSeen D} (λ f. record f { marks = new.marks; queues = after_end f.queues key Outcome.NotDone }) (put_from old mid put taken stored)
            ∙ ap {B = FarmSeen D} (λ (d : D). record old { store = d; marks = new.marks; queues = after_end old.queues key Outcome.NotDone }) (sym same),
      )
  put_kept old mid put new key version touched bytes (Err NoMemory) taken shown p stored e =
      let same : new.store ≡ put.store = ap (λ (f : FarmSeen D). f.store) e in
      let marks : new.marks ≡ mid.marks = ap (λ (f : FarmSeen D). f.marks) e ∙ ap (λ (f : FarmSeen D). f.marks) stored in (
        ap state same ∙ p ∙ ap (λ (f : FarmSeen D). state f.store) taken,
        ap (λ ms. ms.shown) marks ∙ shown,
        e ∙ ap {A = FarmSeen D} (λ f. record f { queues = after_end f.queues key Outcome.Cut }) (put_from old mid put taken stored)
            ∙ ap {B = FarmSeen D} (λ ms. record old { marks = ms; store = put.store; queues = after_end old.queues key Outcome.Cut }) (sym marks)
            ∙ ap {B = FarmSeen D} (λ (d : D). record old { marks = new.marks; store = d; queues = after_end old.queues key Outcome.Cut }) (sym same),
      )

-- What the end of a drawing puts.
module _ {D : Type 0} (state : D → Outside StoreTold) (old new : FarmSeen D) (job : JobSeen) (version : ℕ) (touched : Bool) (bytes : List ℕ) where
  -- the farm as the call finds it, but for the ticket
  abbrev released : FarmSeen D
  released = record (turn old) { taken = untaken job.ticket old.taken }

  puts_released : (answer : Finished) → EndsDrawing state released new (job_key job) version touched bytes answer → PutsBytes state old new job bytes answer
  puts_released (Finished.Stored clean) k = k.1
  puts_released Finished.PutFailed k = k.0
  puts_released Finished.NoMemory k = k.0

  pub puts_bytes : (mid : FarmSeen D) (key : Key) (answer : Finished) → mid ≡ released → key ≡ job_key job → EndsDrawing state mid new key version touched bytes answer → PutsBytes state old new job bytes answer
  puts_bytes mid key answer mid_is key_is k =
      puts_released answer
      (subst (λ (x : Key). EndsDrawing state released new x version touched bytes answer) key_is
      (subst (λ (f : FarmSeen D). EndsDrawing state f new key version touched bytes answer) mid_is k))

-- a drawing whose bytes are at hand is its job's container
pub drawn_text : (job : JobSeen) (drawn : Drawn) → is_drawn drawn ≡ true → IsDrawingOf job drawn → drawn_bytes drawn ≡ job_text job
drawn_text job (Drawn.Bytes bytes) is d = d
drawn_text job (Drawn.Staged staged) is d = d.0
drawn_text job Drawn.NoMemory is d = let wrong : false ≡ true = is in cc

module _ {D : Type 0} (state : D → Outside StoreTold) (old new : FarmSeen D) (job : JobSeen) where
  -- what the end of a drawing puts is its bytes
  pub puts_drawn : (drawn : Drawn) (answer : Finished) → is_drawn drawn ≡ true → PutsBytes state old new job (drawn_bytes drawn) answer → PutsDrawing state old new job drawn answer
  puts_drawn (Drawn.Bytes bytes) answer is p = p
  puts_drawn (Drawn.Staged staged) answer is p = p
  puts_drawn Drawn.NoMemory answer is p = let wrong : false ≡ true = is in cc

  -- and without a drawing nothing is put
  pub puts_none : (drawn : Drawn) (answer : Finished) → is_drawn drawn ≡ false → state new.store ≡ state old.store → PutsDrawing state old new job drawn answer
  puts_none (Drawn.Bytes bytes) answer is p = let wrong : true ≡ false = is in cc
  puts_none (Drawn.Staged staged) answer is p = let wrong : true ≡ false = is in cc
  puts_none Drawn.NoMemory answer is p = p
