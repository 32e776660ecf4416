-- Between which ids and in which box features lie.
use Rattle.std.specs.Prelude.{◌≤◌}
use Rattle.plain_shapes.specs.Features.{Feature}
use Rattle.geo_model.specs.Bounds.{Within}
use Rattle.data_versions.specs.Near.{box_of}
use Rattle.data_versions.specs.declared.extent.Extent.{Extent}

-- the feature's id is one of the two or between them, and its box lies in the box
pub record IsIn (e : Extent) (f : Feature) : Type 0 where
  pub from : e.least ≤ f.id
  pub to : f.id ≤ e.greatest
  pub within : Within (box_of f) e.bounds

-- what is in the second is in the first
abbrev pub Holds : Extent → Extent → Type 0
Holds outer inner = (f : Feature) → IsIn inner f → IsIn outer f
