-- What follows of a farm that stands for a history: chains and replies, what is saved of it, and what a job is drawn as.
use Rattle.std.proofs.Common.{◌≡◌, ◌<◌, Bool, true, false, not, cond, List, length, slice_get, Option, Some, None, option_map, refl, sym, ap, ◌∙◌, subst}
use Rattle.std.proofs.lemmas.List.{length-map}
use Rattle.farm_base.specs.Outside.{Outside}
use Rattle.tile_store.specs.Stores.{StoreTold}
use Rattle.farm_history.specs.declared.keys.Key.{Key}
use Rattle.farm_history.specs.Entries.{Entry}
use Rattle.farm_history.specs.Plans.{Plan}
use Rattle.farm_history.specs.Past.{version, shown, is_touched_after}
use Rattle.farm_history.specs.Seen.{mark_at}
use Rattle.farm_history.specs.Replays.{Saving, are_rising, kept_of, kept_version, version_if_fresh, IsSaved}
use Rattle.farm_plan.specs.Plans.{MapPlan, FarmPlan}
use Rattle.farm_plan.specs.Drawings.{plan_of}
use Rattle.expiry_lists.specs.Marks.{mark_of, clean_version}
use Rattle.farm_refinement.specs.Seen.{FarmSeen}
use Rattle.farm_refinement.specs.Stands.{StandsFor}

-- ---- what is saved

clean_is : (p : Plan) (h : List Entry) (k : Key) (o : Option (List Entry)) → clean_version (mark_at p h k o) ≡ version_if_fresh p h k o
clean_is p h k None = refl
clean_is p h k (Some before) = go (is_touched_after p h (length before) k)
  where
    go : (b : Bool) → cond (not b) (Some (version before)) None ≡ cond b None (Some (version before))
    go true = refl
    go false = refl

maps_are : (plan : FarmPlan) → length plan.maps ≡ length (plan_of plan).max_zooms
unfolding plan_of
maps_are plan = sym (length-map plan.maps (λ (m : MapPlan). m.max_zoom))

-- the farm's styles and updates, and its clean marks by key, are what is saved of the history
pub saved_is : {D : Type 0} (state : D → Outside StoreTold) (told : Bool) (farm : FarmSeen D) (h : List Entry) (s : Saving) → length farm.styled ≡ length farm.plan.maps → s.styles ≡ farm.styled → s.updates ≡ farm.changes →
    ((k : Key) → option_map kept_version (kept_of s.clean k) ≡ clean_version (mark_of farm.marks.shown k)) → are_rising s.clean ≡ true → StandsFor state told farm h → IsSaved (plan_of farm.plan) h s
saved_is state told farm h s many styles updates clean rise stands = record {
  as_many_styles = ap length styles ∙ (many ∙ maps_are farm.plan);
  styles_are = λ m lt. ap (λ xs. slice_get xs m) styles ∙ stands.styles_are m (subst (λ n. m < n) (sym (maps_are farm.plan)) lt);
  updates_are = updates ∙ stands.changes_are;
  clean_are = λ k. clean k ∙ (ap clean_version (stands.marks_are k) ∙ clean_is (plan_of farm.plan) h k (shown h k));
  clean_rise = rise;
}

-- ---- jobs
