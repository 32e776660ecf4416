-- Steps one after another.
use Rattle.std.proofs.Common.{◌≡◌, ℕ, zero, suc, ◌+◌, ◌*◌, ◌<◌, ◌≤◌, Bool, false, List, [], ◌∷◌, ◌++◌, length, take, get_or, refl, sym, ap, subst, ◌∙◌, arith}
use Rattle.std.specs.Prelude.{Option, Some, None, Result, Ok, Err, slice_get}
use Rattle.std.proofs.lemmas.List.{take_all, take_more, length-append}
use Rattle.std.proofs.lemmas.Option.{slice_get_read, slice_get-get_or}
use Rattle.farm_base.specs.Outside.{Outside, Puts}
use Rattle.farm_base.specs.declared.memory.NoMemory.{NoMemory}
use Rattle.farm_base.specs.declared.sinks.SinkFault.{SinkFault}
use Rattle.farm_base.specs.declared.sinks.SinkFault.TheVariants.{Failed}
use Rattle.tile_store.specs.Stores.{StoreTold}
use Rattle.farm_history.specs.Entries.{Entry}
use Rattle.farm_history.specs.Past.{open_asks}
use Rattle.farm_history.specs.Lists.{Each}
use Rattle.farm_refinement.specs.Seen.{FarmSeen}
use Rattle.farm_refinement.specs.Stands.{StandsFor}
use Rattle.exit_status.specs.Ends.{SinkAt}
use Rattle.exit_status.specs.declared.stops.Stop.{Stop}
use Rattle.exit_status.specs.declared.stops.Stop.TheVariants as stop
use Rattle.script_text.specs.ScriptTexts.{has_failed}
use Rattle.work_gen.specs.Work.{step_at, steps_of}
use Rattle.work_gen.specs.declared.stepping.Step.{Step}
use Rattle.load_command.specs.declared.totals.Totals.{Totals}
use Rattle.load_command.specs.declared.steps.StepSeen.{StepSeen}
use Rattle.load_command.specs.Loads.{IsStep, IsLoad, IsEventOf, load_text}
use Rattle.load_command.specs.Runs.{LoadsOn, IsEventAt}
use Rattle.load_command.specs.inner.Progress.{weight, Grows, Steps, Adds, Tells, Summed, LoadsShort, Runs, TellsLine}
use Rattle.load_command.proofs.Summing.{tells_more}

load_then : (xs : List Step) (s : Step) (a b c : List Entry) → IsLoad xs a b → IsStep s b c → IsLoad (xs ++ s ∷ []) a c
load_then [] s a b c run step = (c, subst (λ (x : List Entry). IsStep s x c) run step, refl)
load_then (x ∷ xs) s a b c run step = (run.0, run.1, load_then xs s run.0 b c run.2 step)

load_more : (steps : List Step) (i : ℕ) (s : Step) (a b c : List Entry) → i < length steps → s ≡ get_or steps i s → IsLoad (take i steps) a b → IsStep s b c → IsLoad (take (i + 1) steps) a c
load_more steps i s a b c inside is run step =
    subst (λ (xs : List Step). IsLoad xs a c) (sym (take_more steps i s inside ∙ ap (λ (x : Step). take i steps ++ x ∷ []) (sym is))) (load_then (take i steps) s a b c run step)

each-over : (P Q : Entry → Type 0) (xs : List Entry) → ((e : Entry) → P e → Q e) → Each P xs → Each Q xs
each-over P Q [] to h = tt
each-over P Q (e ∷ es) to h = (to e h.0, each-over P Q es to h.1)

pub each_get : {X : Type 0} (P : X → Type 0) (xs : List X) (i : ℕ) (x : X) → i < length xs → x ≡ get_or xs i x → Each P xs → P x
each_get P [] i x inside is each = absurd (omega (arith, inside))
each_get P (y ∷ ys) zero x inside is each = subst P (sym is) each.0
each_get P (y ∷ ys) (suc i) x inside is each = each_get P ys i x (omega (arith, inside)) is each.1

-- there are so many steps
few_steps : (seed n k : ℕ) → length (steps_of seed n k) ≤ k
unfolding steps_of
few_steps seed n zero = omega arith
few_steps seed n (suc k) =
    let few = few_steps seed n k in
    let both = length-append (steps_of seed n k) (step_at seed n k ∷ []) in
    omega (arith, few, both)

-- an item inside is the same whatever stands for one outside
pub own_get : {X : Type 0} (xs : List X) (i : ℕ) (d : X) → i < length xs → get_or xs i d ≡ get_or xs i (get_or xs i d)
own_get xs i d inside =
    let both : Some (get_or xs i d) ≡ Some (get_or xs i (get_or xs i d)) = sym (slice_get-get_or xs i d inside) ∙ slice_get-get_or xs i (get_or xs i d) inside in
    cc

-- the step outside of all
abbrev pub no_step : Step
no_step = record { spot = record { map = None; z = 0; x = 0; y = 0 }; expire = false }

module _ {D : Type 0} (state : D → Outside StoreTold) (told : Bool) where
  pub begun : (steps : List Step) (totals : Totals) (farm : FarmSeen D) → Tells totals 0 [] → StandsFor state told farm [] → Grows state told farm 0 (Summed steps 0 totals)
  unfolding open_asks
  begun steps totals farm tells stands = record { after = []; stands = stands; small = omega arith; held = (refl, tells) }

  pub run_more : (steps : List Step) (i : ℕ) (s : Step) (totals totals' : Totals) (seen : StepSeen) (old farm : FarmSeen D) → i < length steps → s ≡ get_or steps i s → Adds totals totals' seen
      → (goes : Grows state told old (7 * i) (Summed steps i totals)) → Grows state told farm (weight goes.after + 7) (Steps s goes.after (Ok seen)) → Grows state told farm (7 * (i + 1)) (Summed steps (i + 1) totals')
  run_more steps i s totals totals' seen old farm inside is adds goes step = record {
    after = step.after;
    stands = step.stands;
    small = let a = goes.small in let b = step.small in omega (arith, a, b);
    held = (load_more steps i s [] goes.after step.after inside is goes.held.0 step.held.0, tells_more totals totals' seen s i goes.after step.after adds goes.held.1 step.held);
  }

  pub run_short : (steps : List Step) (i : ℕ) (s : Step) (totals : Totals) (wanting : NoMemory) (old farm : FarmSeen D) → i < length steps → s ≡ get_or steps i s
      → (goes : Grows state told old (7 * i) (Summed steps i totals)) → Grows state told farm (weight goes.after + 7) (Steps s goes.after (Err wanting)) → LoadsShort steps (λ h. StandsFor state told farm h)
  run_short steps i s totals wanting old farm inside is goes step =
      let at : slice_get steps i ≡ Some s = slice_get_read steps (length steps) i s refl inside is in
      record {
        count = i;
        middle = goes.after;
        run = goes.held.0;
        rest = step.held.0;
        events = each-over (IsEventOf s) (IsEventAt (slice_get steps i)) step.held.0 (λ e h. subst (λ (o : Option Step). IsEventAt o e) (sym at) h) step.held.2;
        stood_for = subst (λ (h : List Entry). StandsFor state told farm h) step.held.1 step.stands;
      }

  pub run_all : (steps : List Step) (i : ℕ) (totals : Totals) (farm : FarmSeen D) → length steps ≤ i → i ≤ length steps → Grows state told farm (7 * i) (Summed steps i totals) → Runs state told farm steps (Ok totals)
  run_all steps i totals farm past within goes =
      let same : i ≡ length steps = omega (arith, past, within) in
      (goes.after, goes.stands, subst (λ (xs : List Step). IsLoad xs [] goes.after) (take_all i steps past) goes.held.0, subst (λ (n : ℕ). Tells totals n goes.after) same goes.held.1)

  -- ---- the whole work

  short_on : (seed n : ℕ) (farm : FarmSeen D) (out : SinkAt) → LoadsShort (steps_of seed n 32) (λ h. StandsFor state told farm h) → LoadsOn seed n (λ h. StandsFor state told farm h) out out (Err stop.NoMemory)
  short_on seed n farm out short = record {
    count = short.count;
    middle = short.middle;
    run = short.run;
    after = short.rest ++ short.middle;
    stood_for = short.stood_for;
    loaded = (refl, (short.rest, refl, short.events));
  }

  pub short_work : (seed n : ℕ) (steps : List Step) (farm : FarmSeen D) (out : SinkAt) → steps ≡ steps_of seed n 32 → LoadsShort steps (λ h. StandsFor state told farm h)
      → LoadsOn seed n (λ h. StandsFor state told farm h) out out (Err stop.NoMemory)
  short_work seed n steps farm out is short = short_on seed n farm out (subst (λ (xs : List Step). LoadsShort xs (λ h. StandsFor state told farm h)) is short)

  pub lineless_work : (seed n : ℕ) (steps : List Step) (totals : Totals) (farm : FarmSeen D) (out : SinkAt) → steps ≡ steps_of seed n 32 → Runs state told farm steps (Ok totals)
      → LoadsOn seed n (λ h. StandsFor state told farm h) out out (Err stop.NoMemory)
  lineless_work seed n steps totals farm out is run =
      short_work seed n steps farm out is (record {
        count = length steps;
        middle = run.0;
        run = subst (λ (xs : List Step). IsLoad xs [] run.0) (sym (take_all (length steps) steps (omega arith))) run.2;
        rest = [];
        events = tt;
        stood_for = run.1;
      })

  pub told_work : (seed n : ℕ) (steps : List Step) (totals : Totals) (farm : FarmSeen D) (line : List ℕ) (failed : Bool) (out out' : SinkAt) (end : Result (Unit {0}) Stop) → steps ≡ steps_of seed n 32
      → failed ≡ totals.failed → ((count : ℕ) (h : List Entry) → Tells totals count h → line ≡ load_text n h) → Runs state told farm steps (Ok totals) → TellsLine out out' line failed end
      → LoadsOn seed n (λ h. StandsFor state told farm h) out out' end
  told_work seed n steps totals farm line failed out out' end is failed_is text run tells = by_end end tells
    where
      ran : IsLoad (steps_of seed n 32) [] run.0
      ran = subst (λ (xs : List Step). IsLoad xs [] run.0) is run.2

      noted : has_failed run.0 ≡ failed
      noted = sym (failed_is ∙ run.3.failed_is)

      line_is : line ≡ load_text n run.0
      line_is = text (length steps) run.0 run.3

      all : IsLoad (take 32 (steps_of seed n 32)) [] run.0
      all = subst (λ (xs : List Step). IsLoad xs [] run.0) (sym (take_all 32 (steps_of seed n 32) (few_steps seed n 32))) ran

      put : (answer : Result (Unit {0}) SinkFault) → Puts out out' line answer → Puts out out' (load_text n run.0) answer
      put answer puts = subst (λ (x : List ℕ). Puts out out' x answer) line_is puts

      by_end : (end : Result (Unit {0}) Stop) → TellsLine out out' line failed end → LoadsOn seed n (λ h. StandsFor state told farm h) out out' end
      by_end (Ok u) t = record { count = 32; middle = run.0; run = all; after = run.0; stood_for = run.1; loaded = (refl, refl, noted ∙ t.1, put (Ok tt) t.0) }
      by_end (Err stop.StoreFailed) t = record { count = 32; middle = run.0; run = all; after = run.0; stood_for = run.1; loaded = (refl, refl, noted ∙ t.1, put (Ok tt) t.0) }
      by_end (Err stop.SinkFailed) t = record { count = 32; middle = run.0; run = all; after = run.0; stood_for = run.1; loaded = (refl, refl, put (Err Failed) t) }
      by_end (Err (stop.Refused l)) t = absurd t
      by_end (Err stop.Words) t = absurd t
      by_end (Err (stop.Unreadable l)) t = absurd t
      by_end (Err stop.NoMemory) t = absurd t
      by_end (Err stop.PortsFailed) t = absurd t
      by_end (Err stop.TurnsUsedUp) t = absurd t
