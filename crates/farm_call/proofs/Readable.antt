-- What is saved of a legal history is read again from its text.
use Rattle.std.proofs.Common.{◌≡◌, ℕ, ◌<◌, ◌≤◌, ◌^◌, Bool, false, cond, List, [], ◌∷◌, ◌++◌, length, All, Option, Some, None, refl, sym, ap, subst, ◌∙◌, arith}
use Rattle.std.specs.Prelude.{Ok, option_map}
use Rattle.std.proofs.lemmas.List.Elements.{All-nil, All-cons}
use Rattle.farm_history.specs.declared.keys.Kept.{Kept}
use Rattle.farm_history.specs.declared.saved.Past.{Past}
use Rattle.farm_history.specs.Entries.{Entry}
use Rattle.farm_history.specs.Plans.{Plan, AreApart, same_key}
use Rattle.farm_history.specs.Past.{shown}
use Rattle.farm_history.specs.Rules.{Legal}
use Rattle.farm_history.specs.Replays.{Saving, past_number, kept_of, kept_version, version_if_fresh, IsSaved}
use Rattle.farm_history.proofs.Lists.{same_key-self, same_key-sym, each-find, none-each}
use Rattle.farm_history.proofs.Keyed.{shown_served}
use Rattle.farm_history.proofs.Since.{Along, ChangeFits, changes_fit, in_list}
use Rattle.farm_history.proofs.Resumed.{rising_apart}
use Rattle.farm_plan.specs.Plans.{FarmPlan, IsPlan}
use Rattle.farm_plan.specs.Drawings.{plan_of}
use Rattle.farm_plan.proofs.Spots.{served_key}
use Rattle.farm_saved.specs.Laws.{PastFits, MapFits}
use Rattle.farm_saved.specs.Writing.{saved_bytes}
use Rattle.farm_saved.specs.Reading.{saved_in}
use Rattle.farm_saved.proofs.Back.{reads_back}
use Rattle.farm_core.proofs.Savable.{saving_sound}

-- what holds of each that is the one kept of its key holds of all, where no two have one key
all_own : (P : Kept → Type 0) (xs : List Kept) → AreApart (λ (x : Kept). x.key) xs → ((x : Kept) → kept_of xs x.key ≡ Some x → P x) → All P xs
all_own P [] apart each = All-nil P
all_own P (x ∷ xs) apart each =
    All-cons P x xs (each x (ap (λ b. cond b (Some x) (kept_of xs x.key)) (same_key-self x.key))) (all_own P xs apart.1 (λ y own. each y (later y own)))
  where
    later : (y : Kept) → kept_of xs y.key ≡ Some y → kept_of (x ∷ xs) y.key ≡ Some y
    later y own =
        let other : same_key y.key x.key ≡ false =
        each-find (λ (z : Kept). same_key z.key x.key ≡ false) (λ (z : Kept). same_key z.key y.key) xs y (none-each (λ (z : Kept). same_key z.key x.key) xs apart.0) own in
        ap (λ b. cond b (Some x) (kept_of xs y.key)) (same_key-sym x.key y.key ∙ other) ∙ own

-- changes of a table of few updates
few_changes : (p : Plan) (known : List ℕ) (cs : List Past) → p.updates ≤ 256 → Along (ChangeFits p) known cs → All PastFits cs
few_changes p known [] few along = All-nil PastFits
few_changes p known (c ∷ cs) few along =
    let inside = along.0.in_table in All-cons PastFits c cs (omega (arith, inside, few)) (few_changes p (known ++ past_number c ∷ []) cs few along.1)

module _ (plan : FarmPlan) (told : Bool) (h : List Entry) (s : Saving) (valid : IsPlan plan) (legal : Legal (plan_of plan) told h) (saved : IsSaved (plan_of plan) h s) where
  few_updates : (plan_of plan).updates ≤ 256
  unfolding plan_of
  few_updates = valid.few_updates

  updates_fit : All PastFits s.updates
  updates_fit = subst (All PastFits) (sym saved.updates_are) (few_changes (plan_of plan) [] _ few_updates (changes_fit (plan_of plan) told h legal))

  -- the map of what is kept is one of the plan's
  kept_one : (x : Kept) → kept_of s.clean x.key ≡ Some x → MapFits x
  kept_one x own = go (shown h x.key) refl (sym (ap (option_map kept_version) own) ∙ saved.clean_are x.key)
    where
      go : (o : Option (List Entry)) → shown h x.key ≡ o → Some x.version ≡ version_if_fresh (plan_of plan) h x.key o → MapFits x
      go None is e = cc
      go (Some before) is e =
          let key = served_key plan x.key valid (shown_served (plan_of plan) told h x.key before legal is) in
          let inside = in_list plan.maps x.key.map key.map key.is_map in
          let few = valid.count_maps.few in
          omega (arith, inside, few)

  maps_fit : All MapFits s.clean
  maps_fit = all_own MapFits s.clean (rising_apart s.clean saved.clean_rise) kept_one

  pub reads_again : length s.updates < 2 ^ 64 → length s.clean < 2 ^ 64 → saved_in (saved_bytes s) ≡ Ok s
  reads_again few_updates few_clean =
      reads_back s (saving_sound plan told h s valid legal saved) (record { updates_fit = updates_fit; maps_fit = maps_fit; few_updates = few_updates; few_clean = few_clean })
