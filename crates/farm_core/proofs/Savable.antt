-- What is saved of a farm is sound.
use Rattle.std.proofs.Common.{◌≡◌, ℕ, ◌+◌, ◌<◌, ◌≤◌, Bool, true, false, cond, List, [], ◌∷◌, length, get_or, All, Option, Some, None, refl, sym, ap, ◌∙◌, arith, length-append}
use Rattle.std.specs.Prelude.{option_map}
use Rattle.std.proofs.lemmas.List.{length-map}
use Rattle.std.proofs.lemmas.List.Elements.{All-nil, All-cons, All-from_get_or}
use Rattle.std.proofs.lemmas.Option.{slice_get-get_or}
use Rattle.farm_base.specs.Outside.{Outside}
use Rattle.tile_store.specs.Stores.{StoreTold}
use Rattle.farm_history.specs.declared.keys.Kept.{Kept}
use Rattle.farm_history.specs.Entries.{Entry}
use Rattle.farm_history.specs.Lists.{Each}
use Rattle.farm_history.specs.Past.{version, style_after, shown, is_touched_after}
use Rattle.farm_history.specs.Rules.{Legal}
use Rattle.farm_history.specs.Replays.{Saving, changes_after, kept_of, kept_version, version_if_fresh, IsSaved}
use Rattle.farm_history.proofs.Lists.{each-map}
use Rattle.farm_history.proofs.Keyed.{shown_served}
use Rattle.farm_history.proofs.Since.{clean_since, style_fits, style_in_table}
use Rattle.farm_history.proofs.Resumed.{rising_apart, each_own, as_many}
use Rattle.farm_plan.specs.Plans.{Restyle, FarmPlan, IsPlan}
use Rattle.farm_plan.specs.Drawings.{plan_of}
use Rattle.farm_plan.proofs.Spots.{served_key}
use Rattle.farm_saved.specs.Savings.{StyleFits, IsKept, IsSaving}
use Rattle.farm_refinement.specs.Seen.{FarmSeen}
use Rattle.farm_refinement.specs.Stands.{StandsFor}
use Rattle.farm_refinement.proofs.Telling.{saved_is}
use Rattle.farm_core.specs.inner.Saves.{IsSavingOf}

all_each : {X : Type 0} (P : X → Type 0) (xs : List X) → Each P xs → All P xs
all_each P [] h = All-nil P
all_each P (x ∷ xs) h = All-cons P x xs h.0 (all_each P xs h.1)

module _ (plan : FarmPlan) (told : Bool) (h : List Entry) (s : Saving) (valid : IsPlan plan) (legal : Legal (plan_of plan) told h) (saved : IsSaved (plan_of plan) h s) where
  kept_one : (x : Kept) → kept_of s.clean x.key ≡ Some x → IsKept (length s.updates) x
  kept_one x own = go (shown h x.key) refl (sym (ap (option_map kept_version) own) ∙ saved.clean_are x.key)
    where
      at : (before : List Entry) (b : Bool) → shown h x.key ≡ Some before → is_touched_after (plan_of plan) h (length before) x.key ≡ b → Some x.version ≡ cond b None (Some (version before)) → IsKept (length s.updates) x
      at before true is touched e = cc
      at before false is touched e =
          let since = clean_since (plan_of plan) told h x.key before legal is touched in
          let long : length s.updates ≡ length (changes_after before) + length since.later = ap length (saved.updates_are ∙ since.changes_are) ∙ length-append (changes_after before) since.later in
          let same : x.version ≡ version before = cc in
          record { placed = (served_key plan x.key valid (shown_served (plan_of plan) told h x.key before legal is)).meta; versioned = omega (arith, long, as_many before, same) }

      go : (o : Option (List Entry)) → shown h x.key ≡ o → Some x.version ≡ version_if_fresh (plan_of plan) h x.key o → IsKept (length s.updates) x
      go None is e = cc
      go (Some before) is e = at before (is_touched_after (plan_of plan) h (length before) x.key) is refl e

  few_styles : length (plan_of plan).restyles ≤ 256
  unfolding plan_of
  few_styles = let few = valid.few_restyles in omega (arith, few, length-map plan.restyles (λ (r : Restyle). r.map))

  few_maps : length (plan_of plan).max_zooms ≤ 16
  unfolding plan_of
  few_maps = let few = valid.count_maps.few in omega (arith, few, length-map plan.maps (λ m. m.max_zoom))

  style_fit : (o : Option ℕ) (m : ℕ) → style_after (plan_of plan) h m ≡ o → StyleFits o
  style_fit None m is = tt
  style_fit (Some n) m is = let in_table = style_in_table (plan_of plan) n m (style_fits (plan_of plan) h m n is) in let few = few_styles in omega (arith, in_table, few)

  none : Option ℕ
  none = None

  styles_fit : All StyleFits s.styles
  styles_fit = All-from_get_or StyleFits s.styles none (λ i lt.
      let inside : i < length (plan_of plan).max_zooms = omega (arith, lt, saved.as_many_styles) in
      let same : Some (get_or s.styles i none) ≡ Some (style_after (plan_of plan) h i) = sym (slice_get-get_or s.styles i none lt) ∙ saved.styles_are i inside in
      let is : style_after (plan_of plan) h i ≡ get_or s.styles i none = cc in
      style_fit (get_or s.styles i none) i is)

  pub saving_sound : IsSaving s
  saving_sound = record {
    few_styles = let few = few_maps in let many = saved.as_many_styles in omega (arith, few, many);
    styles_fit = styles_fit;
    clean_fit = record { rise = saved.clean_rise; kept = all_each (IsKept (length s.updates)) s.clean (each-map _ _ s.clean kept_one (each_own s.clean (rising_apart s.clean saved.clean_rise))) };
  }

-- what a farm keeps is what is saved of its history
pub kept_saved : {D : Type 0} (state : D → Outside StoreTold) (told : Bool) (farm : FarmSeen D) (h : List Entry) (s : Saving) → IsSavingOf farm s → StandsFor state told farm h → IsSaved (plan_of farm.plan) h s
kept_saved state told farm h s k stands = saved_is state told farm h s k.each_map k.styles_are k.updates_are k.clean_are k.clean_rise stands

pub kept_sound : {D : Type 0} (state : D → Outside StoreTold) (told : Bool) (farm : FarmSeen D) (h : List Entry) (s : Saving) → IsSavingOf farm s → StandsFor state told farm h → IsSaving s
kept_sound state told farm h s k stands = saving_sound farm.plan told h s stands.valid stands.legal (kept_saved state told farm h s k stands)
