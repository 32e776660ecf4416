-- Data, and what is kept of their layers near a rectangle.
use Rattle.std.specs.Prelude.{◌≡◌, ℕ, Bool, true, false, nat_eq, bit_or, List, fold, map, ⊤, Option, Some, None}
use Rattle.plain_shapes.specs.Features.{Feature, Layer}
use Rattle.plain_shapes.specs.Images.{Pixels}
use Rattle.plain_drawing.specs.Drawing.{features_of}
use Rattle.geo_model.specs.declared.bounds.Bounds.{Bounds}
use Rattle.data_versions.specs.Near.{all_near, IsUnasked}
use Rattle.tile_render.specs.declared.items.Source.{Source}
use Rattle.tile_render.specs.declared.items.Items.{Items}
use Rattle.tile_render.specs.declared.items.Items.TheVariants as items
use Rattle.tile_render.specs.declared.nearby.NearLayer.{NearLayer}

-- the layers of data, and the rectangle
pub record Nearby : Type 0 where
  pub layers : List Layer
  pub around : Bounds

-- from each picture, these are drawn as those, where no feature that is not asked for draws anything
abbrev pub DrawAlike : Option ℕ → List Feature → List Feature → Type 0
DrawAlike asked these those = (draw : Pixels → Feature → Pixels)
    → ((f : Feature) → IsUnasked asked f → (image : Pixels) → draw image f ≡ image)
    → (image : Pixels) → fold draw image these ≡ fold draw image those

-- what is kept of a layer, if all is, is drawn as its features near the rectangle
abbrev pub IsKept : List Layer → Bounds → NearLayer → Type 0
IsKept layers around k = k.has_all ≡ true → DrawAlike k.asked (map (λ f. f.now) k.features.items)
    (all_near (features_of layers k.name.now) around)

-- what is kept for some marks serves who asks for others: each of these is one of those; all serve
abbrev pub serves : Option ℕ → Option ℕ → Bool
serves None asked = true
serves (Some kept) None = false
serves (Some kept) (Some asked) = nat_eq (bit_or asked kept) kept

-- the source has the features of the layer of data of its name
abbrev pub IsSource : List Layer → Source → Type 0
IsSource layers s = s.features ≡ features_of layers s.name.now

-- the features that are drawn, if there are, are those of the layer of data of their name
abbrev pub FromData : List Layer → Items → Type 0
FromData layers (items.Raster g) = ⊤
FromData layers (items.Features s) = IsSource layers s
FromData layers items.Nothing = ⊤
