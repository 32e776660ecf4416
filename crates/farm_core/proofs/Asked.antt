-- An ask, from what its parts do, to the history with it.
use Rattle.std.proofs.Common.{◌≡◌, ◌+◌, Bool, true, false, ◌&&◌, not, cond, if◌then◌else◌, List, ◌∷◌, Option, Some, None, refl, sym, ap, ◌∙◌, subst, arith}
use Rattle.std.specs.Prelude.{is_some, IfSome, MatchBool}
use Rattle.farm_base.specs.Outside.{Outside}
use Rattle.tile_store.specs.Stores.{StoreTold}
use Rattle.farm_history.specs.declared.keys.Key.{Key}
use Rattle.farm_history.specs.declared.queues.Conn.{Conn}
use Rattle.farm_history.specs.declared.asks.Cmd.{Cmd}
use Rattle.farm_history.specs.declared.asks.Spot.{Spot}
use Rattle.farm_history.specs.declared.asks.Why.TheVariants.{Stopping, Unservable}
use Rattle.farm_history.specs.declared.asks.AskAnswer.{AskAnswer}
use Rattle.farm_history.specs.declared.asks.AskAnswer.TheVariants.{NotDone, Silent}
use Rattle.farm_history.specs.Entries.{Entry, Ask}
use Rattle.farm_history.specs.Plans.{is_servable, is_dirty_command, key_of, own_queue, same_key}
use Rattle.farm_history.specs.Past.{number_in, is_done_answer}
use Rattle.farm_history.specs.inner.Asks.{answer_by}
use Rattle.farm_plan.specs.Drawings.{plan_of}
use Rattle.render_queues.specs.Tables.{Tables}
use Rattle.expiry_lists.specs.Marks.{mark_of}
use Rattle.farm_refinement.specs.Seen.{FarmSeen}
use Rattle.farm_refinement.specs.Stands.{StandsFor}
use Rattle.farm_refinement.specs.inner.Events.{tests_at, asked_tables, one_turn_more}
use Rattle.farm_refinement.proofs.Asking.{ask_render_step, ask_unmarked_step, ask_marked_step}
use Rattle.farm_refinement.proofs.Marking.{dirtied_at}
use Rattle.farm_core.specs.inner.Asks.{answer_at, rendered_at, rendered_counts, noted_tables, DirtiesKey, Dirtied}
use Rattle.farm_core.specs.inner.Effects.{turn}

pub if_first : {X : Type 0} (P Q : X → Type 0) (o : Option X) → IfSome o (λ x. P x × Q x) → IfSome o P
if_first P Q None h = tt
if_first P Q (Some x) h = h.0

module _ {D : Type 0} (state : D → Outside StoreTold) where
  -- what an ask is answered is the rule's answer
  rendered_is : (old : FarmSeen D) (conn : Conn) (command : Cmd) (spot : Spot) (served : Option Key) → is_some served ≡ is_servable (plan_of old.plan) spot → IfSome served (λ k. k ≡ key_of spot) →
      rendered_at (turn old) conn command served ≡ answer_by (tests_at old conn command spot) old.counts.numbers
  unfolding answer_by
  rendered_is old conn command spot None on key = ap (λ b. cond old.counts.stopped (NotDone Stopping) (cond (not b) (NotDone Unservable) (answer_at old conn command (key_of spot)))) on
  rendered_is old conn command spot (Some k) on key =
      ap (λ (x : Key). cond old.counts.stopped (NotDone Stopping) (answer_at old conn command x)) key
      ∙ ap (λ b. cond old.counts.stopped (NotDone Stopping) (cond (not b) (NotDone Unservable) (answer_at old conn command (key_of spot)))) on

  -- where the spot cannot be served the tables stay
  unserved_tables : (old : FarmSeen D) (conn : Conn) (command : Cmd) (spot : Spot) (answer : AskAnswer) → answer ≡ rendered_at (turn old) conn command None → asked_tables old.queues (own_queue command) (key_of spot) conn answer ≡ old.queues
  unserved_tables old conn command spot answer is = ap (asked_tables old.queues (own_queue command) (key_of spot) conn) is ∙ go old.counts.stopped
    where
      go : (b : Bool) → asked_tables old.queues (own_queue command) (key_of spot) conn (cond b (NotDone Stopping) (NotDone Unservable)) ≡ old.queues
      go true = refl
      go false = refl

  noted_is : (old : FarmSeen D) (conn : Conn) (command : Cmd) (spot : Spot) (served : Option Key) (answer : AskAnswer) → IfSome served (λ k. k ≡ key_of spot) → answer ≡ rendered_at (turn old) conn command served →
      noted_tables old.queues (own_queue command) conn served answer ≡ asked_tables old.queues (own_queue command) (key_of spot) conn answer
  noted_is old conn command spot None answer key is = sym (unserved_tables old conn command spot answer is)
  noted_is old conn command spot (Some k) answer key is = ap (λ (x : Key). asked_tables old.queues (own_queue command) x conn answer) key

  pub ask_rendered : (told : Bool) (old new : FarmSeen D) (h : List Entry) (conn : Conn) (command : Cmd) (spot : Spot) (served : Option Key) (answer : AskAnswer) → is_dirty_command command ≡ false →
      is_some served ≡ is_servable (plan_of old.plan) spot → IfSome served (λ k. k ≡ key_of spot) → answer ≡ rendered_at (turn old) conn command served →
      new ≡ record (turn old) { counts = rendered_counts answer (one_turn_more old.counts); queues = noted_tables old.queues (own_queue command) conn served answer } → StandsFor state told old h → StandsFor state told new (Ask conn command spot answer ∷ h)
  ask_rendered told old new h conn command spot served answer render on key is same s =
      subst (λ (f : FarmSeen D). StandsFor state told f (Ask conn command spot answer ∷ h)) (sym same)
      (subst (λ (q : Tables). StandsFor state told (record old { counts = rendered_counts answer (one_turn_more old.counts); queues = q }) (Ask conn command spot answer ∷ h)) (sym (noted_is old conn command spot served answer key is))
      (subst (λ (b : Bool). StandsFor state told (record old {
        counts = record old.counts {
          turns = old.counts.turns + 1;
          numbers = if is_some (number_in answer) then old.counts.numbers + 1 else old.counts.numbers;
          asks = if b then old.counts.asks else old.counts.asks + 1;
          done = if is_done_answer answer then old.counts.done + 1 else old.counts.done;
        };
        queues = asked_tables old.queues (own_queue command) (key_of spot) conn answer;
      }) (Ask conn command spot answer ∷ h)) render
      (ask_render_step state told old h conn command spot answer render (is ∙ rendered_is old conn command spot served on key) s)))

  -- nothing is touched after a Stop, or where the spot cannot be served
  unmarked : (told : Bool) (old new : FarmSeen D) (h : List Entry) (conn : Conn) (command : Cmd) (spot : Spot) → is_dirty_command command ≡ true → not old.counts.stopped && is_servable (plan_of old.plan) spot ≡ false → new ≡ turn old →
      StandsFor state told old h → StandsFor state told new (Ask conn command spot Silent ∷ h)
  unmarked told old new h conn command spot dirty off same s =
      subst (λ (f : FarmSeen D). StandsFor state told f (Ask conn command spot Silent ∷ h)) (sym same) (ask_unmarked_step state told old h conn command spot dirty off s)

  marked : (told : Bool) (old new : FarmSeen D) (h : List Entry) (conn : Conn) (command : Cmd) (spot : Spot) → is_dirty_command command ≡ true → old.counts.stopped ≡ false → is_servable (plan_of old.plan) spot ≡ true → DirtiesKey (key_of spot) (turn old) new →
      StandsFor state told old h → StandsFor state told new (Ask conn command spot Silent ∷ h)
  marked told old new h conn command spot dirty running on d s =
      subst (λ (f : FarmSeen D). StandsFor state told f (Ask conn command spot Silent ∷ h)) (sym d.rest)
      (ask_marked_step state told old h conn command spot new.marks dirty running on (λ k. ap (λ ms. mark_of ms k) d.shown ∙ dirtied_at (same_key (key_of spot)) old.marks.shown k) s)

  pub ask_dirty : (told : Bool) (old new : FarmSeen D) (h : List Entry) (conn : Conn) (command : Cmd) (spot : Spot) (served : Option Key) → is_dirty_command command ≡ true →
      is_some served ≡ is_servable (plan_of old.plan) spot → IfSome served (λ k. k ≡ key_of spot) → Dirtied (turn old) new served → StandsFor state told old h → StandsFor state told new (Ask conn command spot Silent ∷ h)
  ask_dirty told old new h conn command spot None dirty on key d s =
      unmarked told old new h conn command spot dirty (let off : is_servable (plan_of old.plan) spot ≡ false = sym on in grind arith) d s
  ask_dirty told old new h conn command spot (Some k) dirty on key d s = go old.counts.stopped refl d
    where
      go : (b : Bool) → old.counts.stopped ≡ b → MatchBool b (new ≡ turn old) (DirtiesKey k (turn old) new) → StandsFor state told new (Ask conn command spot Silent ∷ h)
      go true stopped same = unmarked told old new h conn command spot dirty (ap (λ b. not b && is_servable (plan_of old.plan) spot) stopped) same s
      go false running d = marked told old new h conn command spot dirty running (sym on) (subst (λ (x : Key). DirtiesKey x (turn old) new) key d) s
