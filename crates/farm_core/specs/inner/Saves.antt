-- What is kept of a farm, without a history.
use Rattle.std.specs.Prelude.{◌≡◌, true, length, option_map}
use Rattle.farm_history.specs.declared.keys.Key.{Key}
use Rattle.farm_history.specs.Replays.{Saving, are_rising, kept_of, kept_version}
use Rattle.expiry_lists.specs.Marks.{mark_of, clean_version}
use Rattle.farm_refinement.specs.Seen.{FarmSeen}

-- the styles and the updates are kept as they are, and of the marks exactly the clean ones, by key
pub record IsSavingOf {D : Type 0} (farm : FarmSeen D) (s : Saving) : Type 0 where
  pub styles_are : s.styles ≡ farm.styled
  pub updates_are : s.updates ≡ farm.changes
  pub clean_are : (k : Key)
      → option_map kept_version (kept_of s.clean k) ≡ clean_version (mark_of farm.marks.shown k)
  pub clean_rise : are_rising s.clean ≡ true
  pub each_map : length farm.styled ≡ length farm.plan.maps
