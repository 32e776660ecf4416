-- The first fault of what was saved, as the loops find it, and what holds where there is none.
use Rattle.std.proofs.Common.{◌≡◌, ℕ, ◌+◌, ◌<◌, ◌≤◌, Bool, true, false, cond, ◌==◌, List, [], ◌∷◌, length, get_or, drop, slice_get, Option, Some, None, option_map, Result, Ok, Err, refl, ap, ◌∙◌}
use Rattle.std.specs.Option.{option_or}
use Rattle.std.specs.Result.{IsErrAnd, IfErr}
use Rattle.std.proofs.lemmas.Bool.{eqb-true}
use Rattle.std.proofs.lemmas.List.{drop_more, drop_all}
use Rattle.std.proofs.lemmas.Option.{slice_get-map}
use Rattle.farm_history.specs.Lists.{Each}
use Rattle.farm_history.specs.Plans.{holds, is_style_of}
use Rattle.farm_history.specs.Replays.{Saving}
use Rattle.farm_history.proofs.Resumed.{StylesFit}
use Rattle.farm_plan.specs.Plans.{Restyle, FarmPlan}
use Rattle.farm_plan.specs.Drawings.{plan_of}
use Rattle.render_jobs.specs.declared.faults.ResumeFault.{ResumeFault}
use Rattle.render_jobs.specs.declared.faults.ResumeFault.TheVariants.{Maps}
use Rattle.render_jobs.specs.Faults.{names_map, is_style_at, first_failing, form_fault}
use Rattle.render_jobs.specs.inner.Faults.{styles_fault, updates_fault, kept_fault}

pub failing_more : {X : Type 0} (test : ℕ → X → Bool) (fault : ℕ → ResumeFault) (xs : List X) (i : ℕ) (d : X) → i < length xs → test i (get_or xs i d) ≡ true → first_failing test fault i (drop i xs) ≡ first_failing test fault (i + 1) (drop (i + 1) xs)
unfolding first_failing
failing_more test fault xs i d lt is = ap (first_failing test fault i) (drop_more xs i d lt) ∙ ap (λ b. cond b (first_failing test fault (i + 1) (drop (i + 1) xs)) (Some (fault i))) is

pub failing_here : {X : Type 0} (test : ℕ → X → Bool) (fault : ℕ → ResumeFault) (xs : List X) (i : ℕ) (d : X) → i < length xs → test i (get_or xs i d) ≡ false → first_failing test fault i (drop i xs) ≡ Some (fault i)
unfolding first_failing
failing_here test fault xs i d lt is = ap (first_failing test fault i) (drop_more xs i d lt) ∙ ap (λ b. cond b (first_failing test fault (i + 1) (drop (i + 1) xs)) (Some (fault i))) is

pub failing_none : {X : Type 0} (test : ℕ → X → Bool) (fault : ℕ → ResumeFault) (xs : List X) (i : ℕ) → length xs ≤ i → first_failing test fault i (drop i xs) ≡ None
unfolding first_failing
failing_none test fault xs i all = ap (first_failing test fault i) (drop_all i xs all)

-- where none fails, each passes
no_fault : (b : Bool) (o : Option ResumeFault) (f : ResumeFault) → cond b o (Some f) ≡ None → b ≡ true
no_fault true o f h = refl
no_fault false o f h = cc

rest_fault : (b : Bool) (o : Option ResumeFault) (f : ResumeFault) → cond b o (Some f) ≡ None → o ≡ None
rest_fault true o f h = h
rest_fault false o f h = cc

pub each_passes : {X : Type 0} (t : X → Bool) (fault : ℕ → ResumeFault) (i : ℕ) (xs : List X) → first_failing (λ place x. t x) fault i xs ≡ None → Each (λ x. t x ≡ true) xs
unfolding first_failing
each_passes t fault i [] h = tt
each_passes t fault i (x ∷ xs) h =
    (no_fault (t x) (first_failing (λ place y. t y) fault (i + 1) xs) (fault i) h, each_passes t fault (i + 1) xs (rest_fault (t x) (first_failing (λ place y. t y) fault (i + 1) xs) (fault i) h))

style_of : (plan : FarmPlan) (n m : ℕ) → names_map (slice_get plan.restyles n) m ≡ true → is_style_of (plan_of plan) n m ≡ true
unfolding plan_of is_style_of
style_of plan n m h = ap (λ o. holds o m) (slice_get-map (λ (r : Restyle). r.map) plan.restyles n) ∙ go (slice_get plan.restyles n) h
  where
    go : (o : Option Restyle) → names_map o m ≡ true → holds (option_map (λ (r : Restyle). r.map) o) m ≡ true
    go None e = e
    go (Some r) e = e

pub styles_pass : (plan : FarmPlan) (fault : ℕ → ResumeFault) (m : ℕ) (styles : List (Option ℕ)) → first_failing (is_style_at plan) fault m styles ≡ None → StylesFit (plan_of plan) m styles
unfolding first_failing StylesFit
styles_pass plan fault m [] h = tt
styles_pass plan fault m (None ∷ styles) h = styles_pass plan fault (m + 1) styles h
styles_pass plan fault m (Some n ∷ styles) h = (
  style_of plan n m (no_fault (names_map (slice_get plan.restyles n) m) (first_failing (is_style_at plan) fault (m + 1) styles) (fault m) h),
  styles_pass plan fault (m + 1) styles (rest_fault (names_map (slice_get plan.restyles n) m) (first_failing (is_style_at plan) fault (m + 1) styles) (fault m) h),
)

-- what was saved is of such a plan
pub record IsShaped (plan : FarmPlan) (s : Saving) : Type 0 where
  pub maps : length s.styles ≡ length plan.maps
  pub styles : styles_fault plan s.styles ≡ None
  pub updates : updates_fault plan (length s.styles) s.updates ≡ None
  pub clean : kept_fault plan s.clean ≡ None

pub shaped : (plan : FarmPlan) (s : Saving) → form_fault plan s ≡ None → IsShaped plan s
shaped plan s h = go (length s.styles == length plan.maps) refl (styles_fault plan s.styles) refl (updates_fault plan (length s.styles) s.updates) refl h
  where
    go : (b : Bool) → (length s.styles == length plan.maps) ≡ b → (x : Option ResumeFault) → styles_fault plan s.styles ≡ x → (y : Option ResumeFault) → updates_fault plan (length s.styles) s.updates ≡ y →
        cond b (option_or x (option_or y (kept_fault plan s.clean))) (Some (Maps (length s.styles))) ≡ None → IsShaped plan s
    go false e x ex y ey h = cc
    go true e (Some f) ex y ey h = cc
    go true e None ex (Some f) ey h = cc
    go true e None ex None ey h = record { maps = eqb-true (length s.styles) (length plan.maps) e; styles = ex; updates = ey; clean = h }

-- what is known of a refusal
pub if_err : {A E : Type 0} (r : Result A E) (q p : E → Type 0) → IsErrAnd r q → ((e : E) → q e → p e) → IfErr r p
if_err (Ok a) q p is then = tt
if_err (Err e) q p is then = then e is
