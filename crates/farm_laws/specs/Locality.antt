-- Drawing is local: a tile depends on the features alone that reach its square. So what is sent as
-- clean is drawn over the newest data where each update expires what it reaches.
use Rattle.std.specs.Prelude.{ℕ, true, false, ◌≡◌, List, ◌∷◌, ◌++◌, filter, slice_get, Some}
use Rattle.plain_world.specs.declared.world.Tile.{Tile}
use Rattle.plain_world.specs.World.{tile_square, IsTile, IsTileSize}
use Rattle.plain_shapes.specs.Features.{Feature, Layer}
use Rattle.plain_shapes.specs.Reach.{feature_reaches}
use Rattle.plain_drawing.specs.Styles.{MapStyle}
use Rattle.plain_drawing.specs.Drawing as drawing
use Rattle.farm_history.specs.declared.asks.Spot.{Spot}
use Rattle.farm_history.specs.declared.answers.Fetched.{Fetched}
use Rattle.farm_history.specs.Entries.{Entry, Fetch, EachMoment}
use Rattle.farm_history.specs.Plans.{spot_tile, map_of}
use Rattle.farm_history.specs.Past.{data_after, style_after}
use Rattle.farm_history.specs.Rules.{Legal}
use Rattle.farm_history.specs.Laws.{IsLocal, has_plain_update}
use Rattle.farm_plan.specs.Plans.{MapPlan, FarmPlan, IsPlan, IsRanged, AreRanged}
use Rattle.farm_plan.specs.Drawings.{data_of, features_in, styled_as, plan_of}

-- the features that reach the square of the tile, for tiles of so many pixels
abbrev pub reaching : ℕ → Tile → List Feature → List Feature
reaching size t features = filter (λ f. feature_reaches f size t.z (tile_square t)) features

-- name by name, the layers of the two data have the same features that reach the tile, in the same
-- order
abbrev pub AreAlikeNear : ℕ → Tile → List Layer → List Layer → Type 0
AreAlikeNear size t a b =
    (name : List ℕ) → reaching size t (features_in a name) ≡ reaching size t (features_in b name)

-- Data whose layers have, name by name, the same features that reach a tile draw the same tile, in
-- every style whose symbolizers keep their ranges
abbrev pub LawLocal : Type 0
LawLocal = (style : MapStyle) (size : ℕ) (t : Tile) (a b : List Layer) → IsRanged style
    → IsTileSize size → IsTile t →
    AreAlikeNear size t a b → drawing.drawn_tile style size t a ≡ drawing.drawn_tile style size t b

-- A feature that does not reach a tile changes no byte of it, wherever it stands in its layer
abbrev pub LawPassedOver : Type 0
LawPassedOver = (style : MapStyle) (size : ℕ) (t : Tile) (below above : List Layer) (name : List ℕ)
    (before after : List Feature) (f : Feature) →
    IsRanged style → IsTileSize size → IsTile t
    → feature_reaches f size t.z (tile_square t) ≡ false →
    drawing.drawn_tile style size t
    (below ++ record { name = name; features = before ++ f ∷ after } ∷ above)
    ≡ drawing.drawn_tile style size t
    (below ++ record { name = name; features = before ++ after } ∷ above)

-- The drawing of each valid plan whose symbolizers keep their ranges is local: an update that names
-- no feature which reaches a metatile, old or new, changes no byte of its tiles
abbrev pub LawUpdatesLocal : Type 0
LawUpdatesLocal = (plan : FarmPlan) → IsPlan plan → AreRanged plan → IsLocal (plan_of plan)

-- the bytes are the plain drawing of the spot's tile in the style that its map has after g, over
-- the data after g
pub record IsDrawnNow (plan : FarmPlan) (g : List Entry) (spot : Spot)
    (bytes : List ℕ) : Type 0 where
  pub map : MapPlan
  pub is_map : slice_get plan.maps (map_of spot) ≡ Some map
  pub bytes_are : bytes
      ≡ drawing.drawn_tile (styled_as plan map (style_after (plan_of plan) g (map_of spot)))
      map.tile (spot_tile spot) (data_of plan (data_after g))

-- where the entry sends a tile as clean, its bytes are its plain drawing at that moment
abbrev pub IsSentNow : FarmPlan → List Entry → Entry → Type 0
IsSentNow plan g (Fetch spot (Fetched.Clean v bytes)) = IsDrawnNow plan g spot bytes
IsSentNow plan g _ = Unit {0}

-- For each valid plan whose symbolizers keep their ranges: in each legal history without plain
-- updates, over a store that tells its content, each tile sent as clean is the plain drawing in its
-- map's style and over the data of that very moment
abbrev pub LawSentNow : Type 0
LawSentNow = (plan : FarmPlan) (h : List Entry) → IsPlan plan → AreRanged plan
    → has_plain_update h ≡ false → Legal (plan_of plan) true h → EachMoment (IsSentNow plan) h
