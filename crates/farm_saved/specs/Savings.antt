-- What is saved of a farm, and when it is sound by itself.
use Rattle.std.specs.Prelude.{◌≡◌, ℕ, ◌-◌, ◌^◌, ◌<◌, ◌≤◌, true, List, length, All, Option, Some, None}
use Rattle.plain_world.specs.World.{IsMeta}
use Rattle.farm_history.specs.declared.keys.Kept.{Kept}
use Rattle.farm_history.specs.Replays.{Saving, are_rising}

-- the number of a style, if there is one, leaves room for one more
abbrev pub StyleFits : Option ℕ → Type 0
StyleFits None = Unit {0}
StyleFits (Some n) = n < 2 ^ 32 - 1

-- a clean entry is of a metatile, with a version of at most the number of updates
pub record IsKept (updates : ℕ) (k : Kept) : Type 0 where
  pub placed : IsMeta k.key.meta
  pub versioned : k.version ≤ updates

-- clean entries rise by map, zoom, column and row, each of a metatile and with a version that fits
pub record IsClean (updates : ℕ) (clean : List Kept) : Type 0 where
  pub rise : are_rising clean ≡ true
  pub kept : All (IsKept updates) clean

-- what is saved is sound: fewer than 2^32 maps, whose style numbers fit, and clean entries that may
-- stand beside so many updates
pub record IsSaving (s : Saving) : Type 0 where
  pub few_styles : length s.styles < 2 ^ 32
  pub styles_fit : All StyleFits s.styles
  pub clean_fit : IsClean (length s.updates) s.clean
