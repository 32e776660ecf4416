-- A farm that goes on from what another one saved, over the store that this one left: what it shows stands there.
use Rattle.std.proofs.Common.{◌≡◌, ℕ, ◌<◌, Bool, true, false, List, Option, Some, None, refl, sym, ap, ap₂, ◌∙◌, arith}
use Rattle.std.proofs.lemmas.Option.{same_Some}
use Rattle.farm_history.specs.declared.keys.Key.{Key}
use Rattle.farm_history.specs.Entries.{Entry}
use Rattle.farm_history.specs.Past.{shown, is_clean, is_fresh}
use Rattle.farm_history.specs.Rules.{Legal}
use Rattle.farm_history.specs.Replays.{Saving, IsSaved, replay, IsResumed}
use Rattle.farm_history.proofs.Resumed.{resumed}
use Rattle.farm_plan.specs.Plans.{FarmPlan, IsPlan}
use Rattle.farm_plan.specs.Drawings.{plan_of, data_of, container_bytes, key_path}
use Rattle.farm_refinement.specs.Stands.{HoldsShown, text_before}

module _ (plan : FarmPlan) (told : Bool) (h : List Entry) (s : Saving) (content : List ℕ → Option (List ℕ)) (valid : IsPlan plan) (legal : Legal (plan_of plan) told h) (saved : IsSaved (plan_of plan) h s)
    (holds : HoldsShown plan h content) where
  some_worker : 0 < (plan_of plan).workers
  unfolding plan_of
  some_worker = let some = valid.count_workers.some in omega (arith, some)

  some_bulk : 0 < (plan_of plan).limits.bulk
  unfolding plan_of
  some_bulk = let some = valid.limited.bulk.some in omega (arith, some)

  again_legal : IsResumed (plan_of plan) h (replay (plan_of plan) s)
  again_legal = resumed (plan_of plan) told h s some_worker some_bulk legal saved

  by_shown : (k : Key) (again : List Entry) → shown (replay (plan_of plan) s) k ≡ Some again → is_clean (plan_of plan) h k ≡ true → (o : Option (List Entry)) → shown h k ≡ o → content (key_path plan k) ≡ Some (text_before plan again k)
  by_shown k again is clean None none = absurd (let e = sym (ap (λ o. is_fresh (plan_of plan) h o k) none) ∙ clean in cc)
  by_shown k again is clean (Some before) e =
      let a = again_legal.clean_again k before clean e in
      let same : a.again ≡ again = same_Some a.again again (sym a.is_shown ∙ is) in
      holds k before e
      ∙ ap₂ (λ (st : Option ℕ) (d : List ℕ). Some (container_bytes plan k st (data_of plan d))) (sym a.same_style) (sym a.same_data)
      ∙ ap (λ x. Some (text_before plan x k)) same

  by_clean : (k : Key) (again : List Entry) → shown (replay (plan_of plan) s) k ≡ Some again → (b : Bool) → is_clean (plan_of plan) h k ≡ b → content (key_path plan k) ≡ Some (text_before plan again k)
  by_clean k again is false none = absurd (let e = sym is ∙ again_legal.nothing_else k none in cc)
  by_clean k again is true clean = by_shown k again is clean (shown h k) refl

  pub goes_on : HoldsShown plan (replay (plan_of plan) s) content
  goes_on k again is = by_clean k again is (is_clean (plan_of plan) h k) refl
