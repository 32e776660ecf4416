-- A farm as its replay begins: its maps have been given the styles that were saved, and nothing else has happened.
use Rattle.std.proofs.Common.{◌≡◌, ℕ, ◌+◌, ◌-◌, ◌^◌, ◌<◌, ◌≤◌, min, Bool, false, List, [], ◌∷◌, length, replicate, map, filter, slice_get, Option, Some, None, is_some, refl, sym, ap, ◌∙◌, subst, arith}
use Rattle.std.specs.Prelude.{IfSome}
use Rattle.farm_base.specs.Outside.{Outside}
use Rattle.tile_store.specs.Stores.{StoreTold}
use Rattle.farm_history.specs.declared.answers.Restyled.TheVariants.{Styled}
use Rattle.farm_history.specs.Entries.{Entry, Restyle}
use Rattle.farm_history.specs.Plans.{Plan}
use Rattle.farm_history.specs.Past.{is_stopped, data_after, style_after, flights, jobs, claimed_keys, shown, waiting, numbers, Numbered, open_asks, replies_to, asks_made, done_asks, stored_drawings}
use Rattle.farm_history.specs.Laws.{flight_key}
use Rattle.farm_history.specs.Seen.{has_no_end, mark_at, in_queue}
use Rattle.farm_history.specs.Replays.{Saving, changes_after, replay_styles}
use Rattle.farm_history.proofs.Counts.{count-cons}
use Rattle.farm_history.proofs.Redrawn.{replies_none}
use Rattle.farm_history.proofs.Resumed.{IsBare, styles_bare, styles_at, style_place}
use Rattle.std.proofs.lemmas.Option.{slice_get-get_or}
use Rattle.std.proofs.lemmas.Bool.{false≢true}
use Rattle.farm_plan.specs.Plans.{FarmPlan, IsPlan}
use Rattle.farm_plan.specs.Drawings.{plan_of, data_of}
use Rattle.expiry_lists.specs.Marks.{MarksSeen, mark_of}
use Rattle.render_queues.specs.Tables.{no_tables}
use Rattle.farm_refinement.specs.Stands.{waits_key, asked_of, failures, CountsStand, QueuesStand, StandsFor}
use Rattle.farm_refinement.specs.inner.Events.{no_counts, new_farm}
use Rattle.farm_refinement.proofs.Starting.{no_failures, start_step}
use Rattle.farm_refinement.proofs.Resuming.{still_counted}
use Rattle.render_jobs.specs.declared.faults.ResumeFault.TheVariants.{Number}
use Rattle.render_jobs.specs.Given.{styles_given}
use Rattle.farm_core.specs.inner.Replays.{IsReplaying}
use Rattle.render_jobs.proofs.Checked.{IsShaped, styles_pass}
use Rattle.farm_core.proofs.Starting.{none_styled}

-- ---- what restyles leave as it is

long_styles : (styles : List (Option ℕ)) (g : List Entry) → length (replay_styles styles g) ≡ styles_given styles + length g
unfolding replay_styles
long_styles [] g = omega arith
long_styles (None ∷ styles) g = let one = count-cons (λ (s : Option ℕ). is_some s) None styles in omega (arith, one, long_styles styles g)
long_styles (Some n ∷ styles) g = let one = count-cons (λ (s : Option ℕ). is_some s) (Some n) styles in omega (arith, one, long_styles styles (Restyle n (Styled 0) ∷ g))

numbers_styles : (styles : List (Option ℕ)) (g : List Entry) → numbers (replay_styles styles g) ≡ numbers g
unfolding replay_styles numbers
numbers_styles [] g = refl
numbers_styles (None ∷ styles) g = numbers_styles styles g
numbers_styles (Some n ∷ styles) g = numbers_styles styles (Restyle n (Styled 0) ∷ g)

jobs_styles : (styles : List (Option ℕ)) (g : List Entry) → jobs (replay_styles styles g) ≡ jobs g
unfolding replay_styles jobs
jobs_styles [] g = refl
jobs_styles (None ∷ styles) g = jobs_styles styles g
jobs_styles (Some n ∷ styles) g = jobs_styles styles (Restyle n (Styled 0) ∷ g)

asks_styles : (styles : List (Option ℕ)) (g : List Entry) → asks_made (replay_styles styles g) ≡ asks_made g
unfolding replay_styles asks_made
asks_styles [] g = refl
asks_styles (None ∷ styles) g = asks_styles styles g
asks_styles (Some n ∷ styles) g = asks_styles styles (Restyle n (Styled 0) ∷ g)

done_styles : (styles : List (Option ℕ)) (g : List Entry) → done_asks (replay_styles styles g) ≡ done_asks g
unfolding replay_styles done_asks
done_styles [] g = refl
done_styles (None ∷ styles) g = done_styles styles g
done_styles (Some n ∷ styles) g = done_styles styles (Restyle n (Styled 0) ∷ g)

stored_styles : (styles : List (Option ℕ)) (g : List Entry) → stored_drawings (replay_styles styles g) ≡ stored_drawings g
unfolding replay_styles stored_drawings
stored_styles [] g = refl
stored_styles (None ∷ styles) g = stored_styles styles g
stored_styles (Some n ∷ styles) g = stored_styles styles (Restyle n (Styled 0) ∷ g)

changes_styles : (styles : List (Option ℕ)) (g : List Entry) → changes_after (replay_styles styles g) ≡ changes_after g
unfolding replay_styles changes_after
changes_styles [] g = refl
changes_styles (None ∷ styles) g = changes_styles styles g
changes_styles (Some n ∷ styles) g = changes_styles styles (Restyle n (Styled 0) ∷ g)

failures_styles : (plan : FarmPlan) (styles : List (Option ℕ)) (g : List Entry) → failures plan (replay_styles styles g) ≡ failures plan g
unfolding replay_styles failures
failures_styles plan [] g = refl
failures_styles plan (None ∷ styles) g = failures_styles plan styles g
failures_styles plan (Some n ∷ styles) g = failures_styles plan styles (Restyle n (Styled 0) ∷ g)

bare_none : (p : Plan) (told : Bool) → IsBare p told []
unfolding is_stopped flights waiting open_asks claimed_keys shown data_after
bare_none p told = record { quiet = record { legal = tt; running = refl; grounded = refl; idle = refl; answered = refl }; unclaimed = refl; unseen = λ k. refl; no_data = refl }

module _ {D : Type 0} (state : D → Outside StoreTold) (plan : FarmPlan) (s : Saving) (store : D) (ms : MarksSeen) (valid : IsPlan plan) (shape : IsShaped plan s) (empty : ms.shown ≡ [])
    (counted : IfSome (state store).told (λ t. (state store).faults ≡ length t.failed)) where
  abbrev r : List Entry
  r = replay_styles s.styles []

  bare : (told : Bool) → IsBare (plan_of plan) told r
  bare told = styles_bare (plan_of plan) told 0 s.styles [] (styles_pass plan (λ place. Number place) 0 s.styles shape.styles) (bare_none (plan_of plan) told)

  none : Option ℕ
  none = None

  begun_stands : StandsFor state false (new_farm plan None store (replicate (length plan.maps) None) ms) []
  begun_stands = start_step state false plan None store (replicate (length plan.maps) None) ms valid (none_styled (length plan.maps)) empty counted (λ t. absurd (false≢true t))

  counts : CountsStand (record no_counts { turns = styles_given s.styles }) r
  unfolding is_stopped data_after numbers jobs asks_made done_asks stored_drawings
  counts = record {
    turns_are = omega (arith, long_styles s.styles []);
    stopped_is = sym (bare false).quiet.running;
    version_is = sym (ap length (bare false).no_data);
    numbers_are = sym (numbers_styles s.styles []);
    jobs_are = sym (jobs_styles s.styles []);
    asks_are = sym (asks_styles s.styles []);
    done_are = sym (done_styles s.styles []);
    stored_are = sym (stored_styles s.styles []);
  }

  styled : (m : ℕ) → m < length plan.maps → slice_get s.styles m ≡ Some (style_after (plan_of plan) r m)
  unfolding style_after
  styled m lt =
      let inside : m < length s.styles = omega (arith, lt, shape.maps) in
      let at = slice_get-get_or s.styles m none inside in
      at ∙ ap (λ o. Some o) (sym (styles_at (plan_of plan) 0 s.styles [] m (styles_pass plan (λ place. Number place) 0 s.styles shape.styles) ∙ style_place 0 s.styles m m _ (omega arith) at))

  queues : QueuesStand plan (no_tables plan.limits plan.workers) r
  unfolding waiting flights open_asks replies_to
  queues = record {
    limits_are = begun_stands.queues_are.limits_are;
    workers_are = begun_stands.queues_are.workers_are;
    waiting_is = λ queue. begun_stands.queues_are.waiting_is queue ∙ ap (λ ws. map waits_key (in_queue queue ws)) (sym (bare false).quiet.idle);
    taken_is = begun_stands.queues_are.taken_is ∙ ap (map flight_key) (sym (bare false).quiet.grounded);
    asks_are = begun_stands.queues_are.asks_are ∙ ap (map asked_of) (sym (ap (filter (has_no_end r)) (bare false).quiet.answered));
    ended_are = begun_stands.queues_are.ended_are ∙ sym (ap (λ (asks : List Numbered). replies_to asks r) (bare false).quiet.answered ∙ replies_none r);
  }

  pub anew_stands : IsReplaying state (record (new_farm plan (Some s) store s.styles ms) { counts = record no_counts { turns = styles_given s.styles } }) r
  unfolding data_after data_of changes_after flights
  anew_stands = record {
    legal = λ told. (bare told).quiet.legal;
    running = (bare false).quiet.running;
    grounded = (bare false).quiet.grounded;
    idle = (bare false).quiet.idle;
    answered = (bare false).quiet.answered;
    stands = record {
      valid = valid;
      legal = (bare false).quiet.legal;
      counts_are = counts;
      data_is = ap (data_of plan) (sym (bare false).no_data);
      changes_are = sym (changes_styles s.styles []);
      styles_are = styled;
      taken_are = ap (map _) (sym (bare false).quiet.grounded);
      marks_are = λ k. ap (λ rows. mark_of rows k) empty ∙ sym (ap (mark_at (plan_of plan) r k) ((bare false).unseen k));
      queues_are = queues;
      store_is = record {
        counted = subst (λ xs. min ((state store).faults + length xs) (2 ^ 64 - 1) ≤ (state store).faults) (sym (failures_styles plan s.styles [])) begun_stands.store_is.counted;
        accounts = still_counted plan (state store).faults [] r (failures_styles plan s.styles []) (state store).told begun_stands.store_is.accounts;
        is_told = λ t. absurd (false≢true t);
        holds = λ t. absurd (false≢true t);
      };
    };
    unfailed = failures_styles plan s.styles [] ∙ no_failures plan;
  }
