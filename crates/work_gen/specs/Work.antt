-- Generated work: the plan of a farm and the tiles that it is asked for, by the draws of a seed.
use Rattle.std.specs.Prelude.{ℕ, zero, suc, ◌+◌, ◌-◌, ◌*◌, ◌/◌, ◌%◌, ◌^◌, ◌==◌, pos, if◌then◌else◌, List, [], ◌∷◌, ◌++◌, codes, false, Some, None}
use Rattle.farm_base.specs.declared.values.Attr.{Attr}
use Rattle.farm_base.specs.declared.values.Value.TheVariants.{Whole}
use Rattle.plain_world.specs.declared.world.Point.{Point}
use Rattle.plain_shapes.specs.declared.colour.Colour.{Colour}
use Rattle.plain_shapes.specs.declared.shapes.Geometry.{Geometry}
use Rattle.plain_shapes.specs.declared.shapes.Geometry.TheVariants.{Points, Lines, Polygon}
use Rattle.plain_shapes.specs.declared.shapes.LineCap.TheVariants as cap
use Rattle.plain_shapes.specs.Features.{Feature, Layer}
use Rattle.plain_filters.specs.Filters.{compare_tree, name_tree, number_tree}
use Rattle.plain_filters.specs.declared.expr.CompareSign.TheVariants as sign
use Rattle.plain_drawing.specs.Styles.{MapStyle, Style, Rule, LayerRef}
use Rattle.plain_drawing.specs.declared.style.FilterMode.TheVariants as mode
use Rattle.plain_drawing.specs.declared.style.Symbolizer.{Symbolizer}
use Rattle.plain_drawing.specs.declared.style.Symbolizer.TheVariants as paint
use Rattle.farm_history.specs.declared.asks.Spot.{Spot}
use Rattle.farm_plan.specs.Plans.{FarmPlan}
use Rattle.work_gen.specs.Draws.{draw}
use Rattle.work_gen.specs.declared.stepping.Step.{Step}

-- ---- data

-- the point at these coordinates
abbrev pub point : ℕ → ℕ → Point
point x y = record { x = x; y = y }

-- the shape of a feature of each layer, at a place and of a size: a square of the land, a road from
-- corner to corner, a spot
abbrev pub shape_of : ℕ → ℕ → ℕ → ℕ → Geometry
shape_of layer x y s =
    if layer == 0 then Polygon
    ((point x y ∷ point (x + s) y ∷ point (x + s) (y + s) ∷ point x (y + s) ∷ []) ∷ []) else
    if layer == 1 then Lines ((point x y ∷ point (x + s) (y + s) ∷ []) ∷ [])
    else Points (point x y ∷ [])

-- the attribute `kind`
abbrev pub kind_attr : ℕ → Attr
kind_attr kind = record { name = codes "kind"; value = Whole (pos kind) }

-- feature number i takes four draws: its kind, its place within 520,192 units behind the world's
-- middle, and its size
unfoldable pub feature_at : ℕ → ℕ → Feature
feature_at seed i = record {
  id = i;
  geometry = shape_of (i % 3) (2 ^ 29 + draw seed (4 * i + 1) 520192)
      (2 ^ 29 + draw seed (4 * i + 2) 520192) (1 + draw seed (4 * i + 3) 4096);
  attrs = kind_attr (draw seed (4 * i) 4) ∷ [];
}

-- the features of a layer, 0 to 2, among the first n: those whose number leaves the layer's over 3
unfoldable pub work_features : ℕ → ℕ → ℕ → List Feature
work_features seed layer zero = []
work_features seed layer (suc n) =
    if n % 3 == layer then work_features seed layer n ++ feature_at seed n ∷ []
    else work_features seed layer n

-- the data: three layers of n features in all
abbrev pub dataset_of : ℕ → ℕ → List Layer
dataset_of seed n =
    record { name = codes "land"; features = work_features seed 0 n } ∷
    record { name = codes "roads"; features = work_features seed 1 n } ∷
    record { name = codes "spots"; features = work_features seed 2 n } ∷ []

-- ---- the style

-- the colour of rule number r
abbrev pub work_colour : ℕ → Colour
work_colour r = record { r = 20 * r; g = 255 - 20 * r; b = 128 }

-- what rule number r paints: land is filled, roads are two pixels wide with round ends, spots six
-- pixels wide and high
abbrev pub paint_of : ℕ → Symbolizer
paint_of r =
    if r / 4 == 0 then paint.Polygon (work_colour r) 1000 else
    if r / 4 == 1 then paint.Line (work_colour r) 200 1000 cap.Round
    else paint.Markers (work_colour r) 600 600 1000

-- rule number r holds where the kind is r modulo 4
unfoldable pub work_rule : ℕ → Rule
work_rule r = record {
  filter = Some (compare_tree (name_tree (codes "kind")) sign.Equal (number_tree (pos (r % 4))));
  else_filter = false;
  min_scale_denominator = 0;
  max_scale_denominator = None;
  symbolizers = paint_of r ∷ [];
}

-- the style of a layer: four rules, the first of this number
unfoldable pub work_style : List ℕ → ℕ → Style
work_style name r = record {
  name = name;
  filter_mode = mode.All;
  rules = work_rule r ∷ work_rule (r + 1) ∷ work_rule (r + 2) ∷ work_rule (r + 3) ∷ [];
}

-- a layer that the style of its name draws at all scales
unfoldable pub work_layer : List ℕ → LayerRef
work_layer name = record {
  name = name;
  source = name;
  minimum_scale_denominator = 0;
  maximum_scale_denominator = None;
  styles = name ∷ [];
}

-- the style: a white background, and the three layers, each in its own style
unfoldable pub map_style : MapStyle
map_style = record {
  background_color = record { r = 255; g = 255; b = 255 };
  styles = work_style (codes "land") 0 ∷ work_style (codes "roads") 4
      ∷ work_style (codes "spots") 8 ∷ [];
  layers = work_layer (codes "land") ∷ work_layer (codes "roads") ∷ work_layer (codes "spots") ∷ [];
  rasters = [];
  grids = [];
}

-- ---- the plan

-- one map `default` of 256 pixels a tile, to zoom 18, with one worker and the greatest limits; no
-- updates, and no styles to come
unfoldable pub work_plan : ℕ → ℕ → FarmPlan
work_plan seed n = record {
  maps = record { name = codes "default"; style = map_style; tile = 256; max_zoom = 18 } ∷ [];
  dataset = dataset_of seed n;
  updates = [];
  workers = 1;
  limits = record { prio = 32; request = 32; low = 32; dirty = 1000; bulk = 32 };
  restyles = [];
}

-- ---- the steps

-- the spot of a zoom by two draws, around the world's middle
abbrev pub work_spot : ℕ → ℕ → ℕ → Spot
work_spot seed k z = record {
  map = Some 0;
  z = z;
  x = 2 ^ (z - 1) + draw seed k (2 ^ (z - 11));
  y = 2 ^ (z - 1) + draw seed (k + 1) (2 ^ (z - 11));
}

-- step number k after the data of n features takes three draws; every fourth step expires its tile
-- first
unfoldable pub step_at : ℕ → ℕ → ℕ → Step
step_at seed n k = record {
  spot = work_spot seed (4 * n + 3 * k + 1) (11 + draw seed (4 * n + 3 * k) 4);
  expire = k % 4 == 3;
}

-- the first so many steps
unfoldable pub steps_of : ℕ → ℕ → ℕ → List Step
steps_of seed n zero = []
steps_of seed n (suc k) = steps_of seed n k ++ step_at seed n k ∷ []
