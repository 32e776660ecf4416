-- A tile depends on the features alone that reach its square, and so the drawing of each valid plan is local.
use Rattle.std.proofs.Common.{◌≡◌, ℕ, ◌+◌, ◌-◌, ◌*◌, ◌/◌, ◌^◌, ◌<◌, ◌≤◌, Bool, true, false, cond, nat_le, List, [], ◌∷◌, ◌++◌, map, filter, fold, find, Option, Some, None, refl, sym, ap, ◌∙◌, subst, arith}
use Rattle.std.specs.Prelude.{Result, Ok, Err, option_map, option_to_list, unwrap_or, flat_map, slice_get}
use Rattle.std.specs.Str.{bytes_eq}
use Rattle.std.proofs.lemmas.Bool.Decides.{nat_tests}
use Rattle.std.proofs.lemmas.List.Sums.{fold-append}
use Rattle.std.proofs.lemmas.Nat.{pow-add}
use Rattle.std.proofs.Math.Nat.{mul-le-mul_right}
use Rattle.farm_base.specs.declared.faults.ApplyFault.{ApplyFault}
use Rattle.plain_world.specs.declared.world.Point.{Point}
use Rattle.plain_world.specs.declared.world.Tile.{Tile}
use Rattle.plain_world.specs.World.{side_at, tile_square, meta_square, meta_of, window_of, InSquare, IsTile, IsTileSize}
use Rattle.plain_world.proofs.Windows.{world_wide}
use Rattle.plain_shapes.specs.Images.{Pixels}
use Rattle.plain_shapes.specs.Features.{Feature, Layer}
use Rattle.plain_shapes.specs.Data.{Change, update_result}
use Rattle.plain_shapes.specs.Reach.{Reaches, feature_reaches}
use Rattle.plain_drawing.specs.Styles.{Style, LayerRef, MapStyle, KeepsRanges}
use Rattle.plain_drawing.specs.Grids.{Grid}
use Rattle.plain_drawing.specs.Rules.{denominator_of}
use Rattle.plain_drawing.specs.Drawing.{drawn_tile, pixels_text, Item, feature, raster, features_of, items_of, style_named, is_drawn}
use Rattle.plain_drawing.specs.inner.Pictures.{with_item, with_style, with_layer, with_map}
use Rattle.plain_drawing.proofs.Steps.{one_colour, drawn_as_tile}
use Rattle.drawing_reach.proofs.Edges.{by_edges}
use Rattle.drawing_reach.proofs.Unreached.{unreached}
use Rattle.std.proofs.lemmas.List.Elements.{recursion_from_All}
use Rattle.std.specs.List.{AllByRecursion}
use Rattle.std.proofs.lemmas.Bool.{false_from_ne_true}
use Rattle.farm_history.specs.Plans.{map_of}
use Rattle.farm_history.specs.Plans as plans
use Rattle.farm_history.specs.Lists.{Each}
use Rattle.farm_history.proofs.Lists.{none-each, each-map, filter-append, each-all}
use Rattle.farm_plan.specs.Plans.{MapPlan, Restyle, FarmPlan, IsRanged, AreRanged}
use Rattle.farm_plan.specs.Drawings.{update_of, kept_or, data_step, data_of, features_in, named, any_reaches, any_reaches_map, reaches_of, style_or, styled_as, tile_in, plan_of}
use Rattle.farm_plan.proofs.Spots.{all_at, spot_of}
use Rattle.farm_laws.specs.Locality.{reaching, AreAlikeNear, LawLocal, LawPassedOver, LawUpdatesLocal}
use Rattle.farm_laws.proofs.Changes.{updated_same, off_named}

-- ---- one style's pass over features

-- features that do not reach the tile are passed over
near_items : (size d : ℕ) (t : Tile) (s : Style) (fs : List Feature) (image : Pixels) → IsTile t → IsTileSize size → KeepsRanges s →
    fold (with_item (window_of t size) d s) image (map feature fs) ≡ fold (with_item (window_of t size) d s) image (map feature (reaching size t fs))
near_items size d t s [] image tile sizes keeps = refl
near_items size d t s (f ∷ fs) image tile sizes keeps = go (feature_reaches f size t.z (tile_square t)) refl (λ m. near_items size d t s fs m tile sizes keeps)
  where
    go : (b : Bool) → feature_reaches f size t.z (tile_square t) ≡ b →
        ((m : Pixels) → fold (with_item (window_of t size) d s) m (map feature fs) ≡ fold (with_item (window_of t size) d s) m (map feature (reaching size t fs))) →
        fold (with_item (window_of t size) d s) (with_item (window_of t size) d s image (feature f)) (map feature fs)
        ≡ fold (with_item (window_of t size) d s) image (map feature (cond b (f ∷ reaching size t fs) (reaching size t fs)))
    go true is rest = rest (with_item (window_of t size) d s image (feature f))
    go false is rest = ap (λ m. fold (with_item (window_of t size) d s) m (map feature fs)) (unreached f size d t s image tile sizes keeps is) ∙ rest image

-- ---- a layer of the map

-- two folds by steps that agree at each of the list
fold_agree : {X : Type 0} (f g : Pixels → X → Pixels) (xs : List X) → Each (λ x. (m : Pixels) → f m x ≡ g m x) xs → (m : Pixels) → fold f m xs ≡ fold g m xs
fold_agree f g [] same m = refl
fold_agree f g (x ∷ xs) same m = ap (λ n. fold f n xs) (same.0 m) ∙ fold_agree f g xs same.1 (g m x)

each_join : (P : Style → Type 0) (xs ys : List Style) → Each P xs → Each P ys → Each P (xs ++ ys)
each_join P [] ys a b = b
each_join P (x ∷ xs) ys a b = (a.0, each_join P xs ys a.1 b)

-- the styles that a layer names are among the map's
named_each : (P : Style → Type 0) (styles : List Style) (names : List (List ℕ)) → Each P styles → Each P (flat_map (style_named styles) names)
named_each P styles [] each = tt
named_each P styles (name ∷ names) each =
    each_join P (style_named styles name) (flat_map (style_named styles) names) (one styles each) (named_each P styles names each)
  where
    one : (ss : List Style) → Each P ss → Each P (style_named ss name)
    one [] e = tt
    one (s ∷ ss) e = go (bytes_eq s.name name) (one ss e.1)
      where
        go : (b : Bool) → Each P (option_to_list (find (λ k. bytes_eq k.name name) ss)) → Each P (option_to_list (cond b (Some s) (find (λ k. bytes_eq k.name name) ss)))
        go true h = (e.0, tt)
        go false h = h

-- the items of the grid, if there is one, else features
abbrev grid_or_features : Option Grid → List Feature → List Item
grid_or_features grid features = unwrap_or (option_map (λ g. raster g ∷ []) grid) (map feature features)

-- one style draws the same over the items of data that are alike near the tile
same_style : (size d : ℕ) (t : Tile) (grid : Option Grid) (xs ys : List Feature) (s : Style) (image : Pixels) → IsTile t → IsTileSize size → KeepsRanges s →
    reaching size t xs ≡ reaching size t ys →
    with_style (window_of t size) d (grid_or_features grid xs) image s ≡ with_style (window_of t size) d (grid_or_features grid ys) image s
unfolding with_style
same_style size d t (Some g) xs ys s image tile sizes keeps e = refl
same_style size d t None xs ys s image tile sizes keeps e =
    near_items size d t s xs image tile sizes keeps
    ∙ ap (λ fs. fold (with_item (window_of t size) d s) image (map feature fs)) e
    ∙ sym (near_items size d t s ys image tile sizes keeps)

same_layer : (size d : ℕ) (t : Tile) (style : MapStyle) (a b : List Layer) (layer : LayerRef) (image : Pixels) → IsTile t → IsTileSize size → Each KeepsRanges style.styles → AreAlikeNear size t a b →
    with_layer (window_of t size) d style a image layer ≡ with_layer (window_of t size) d style b image layer
unfolding with_layer
same_layer size d t style a b layer image tile sizes keeps alike =
    ap (λ m. cond (is_drawn d layer) m image)
    (fold_agree (with_style (window_of t size) d (items_of style.grids a layer.source)) (with_style (window_of t size) d (items_of style.grids b layer.source))
    (flat_map (style_named style.styles) layer.styles)
    (named_each (λ s. (m : Pixels) → with_style (window_of t size) d (items_of style.grids a layer.source) m s ≡ with_style (window_of t size) d (items_of style.grids b layer.source) m s)
    style.styles layer.styles
    (each-map KeepsRanges (λ s. (m : Pixels) → with_style (window_of t size) d (items_of style.grids a layer.source) m s ≡ with_style (window_of t size) d (items_of style.grids b layer.source) m s)
    style.styles
    (λ s k m. same_style size d t (find (λ g. bytes_eq g.name layer.source) style.grids) (features_of a layer.source) (features_of b layer.source) s m tile sizes k (alike layer.source)) keeps)) image)

-- ---- the tile

each_of : {X : Type 0} (P : X → Type 0) (xs : List X) → AllByRecursion P xs → Each P xs
each_of P [] h = tt
each_of P (x ∷ xs) h = (h.0, each_of P xs h.1)

same_map : (size d : ℕ) (t : Tile) (style : MapStyle) (a b : List Layer) (image : Pixels) → IsTile t → IsTileSize size → Each KeepsRanges style.styles → AreAlikeNear size t a b →
    with_map (window_of t size) d style a image ≡ with_map (window_of t size) d style b image
unfolding with_map
same_map size d t style a b image tile sizes keeps alike =
    fold_agree (with_layer (window_of t size) d style a) (with_layer (window_of t size) d style b) style.layers
    (each-all (λ layer. (m : Pixels) → with_layer (window_of t size) d style a m layer ≡ with_layer (window_of t size) d style b m layer) style.layers
    (λ layer m. same_layer size d t style a b layer m tile sizes keeps alike)) image

-- the text of the picture of the tile's window
picture_text : MapStyle → ℕ → Tile → Pixels → List ℕ
picture_text style size t p = pixels_text p.cols p.rows p.pixels

tile_drawn : (style : MapStyle) (size : ℕ) (t : Tile) (a : List Layer) →
    picture_text style size t (with_map (window_of t size) (denominator_of t.z size) style a (one_colour (window_of t size) style.background_color)) ≡ drawn_tile style size t a
unfolding picture_text
tile_drawn style size t a =
    drawn_as_tile style size t a (window_of t size) (denominator_of t.z size) (one_colour (window_of t size) style.background_color)
    (with_map (window_of t size) (denominator_of t.z size) style a (one_colour (window_of t size) style.background_color)) _ refl refl refl refl refl

pub same_tile : LawLocal
same_tile style size t a b ranged sizes tile alike =
    sym (tile_drawn style size t a)
    ∙ ap (picture_text style size t) (same_map size (denominator_of t.z size) t style a b (one_colour (window_of t size) style.background_color) tile sizes
    (each_of KeepsRanges style.styles (recursion_from_All KeepsRanges style.styles ranged)) alike)
    ∙ tile_drawn style size t b

-- ---- one feature

-- layers that differ in one layer's features have by name features that are alike where those are
one_layer : (R : List Feature → List Feature → Type 0) (name : List ℕ) (below above : List Layer) (x y : Layer) → x.name ≡ y.name → ((fs : List Feature) → R fs fs) → R x.features y.features →
    R (features_in (below ++ x ∷ above) name) (features_in (below ++ y ∷ above) name)
one_layer R name [] above x y same each here =
    subst (λ n. R (unwrap_or (option_map (λ k. k.features) (cond (bytes_eq n name) (Some x) (find (λ k. bytes_eq k.name name) above))) []) (features_in (y ∷ above) name)) (sym same) (go (bytes_eq y.name name))
  where
    go : (b : Bool) → R (unwrap_or (option_map (λ k. k.features) (cond b (Some x) (find (λ k. bytes_eq k.name name) above))) []) (unwrap_or (option_map (λ k. k.features) (cond b (Some y) (find (λ k. bytes_eq k.name name) above))) [])
    go true = here
    go false = each _
one_layer R name (l ∷ below) above x y same each here = go (bytes_eq l.name name) (one_layer R name below above x y same each here)
  where
    go : (b : Bool) → R (features_in (below ++ x ∷ above) name) (features_in (below ++ y ∷ above) name) →
        R (unwrap_or (option_map (λ k. k.features) (cond b (Some l) (find (λ k. bytes_eq k.name name) (below ++ x ∷ above)))) [])
        (unwrap_or (option_map (λ k. k.features) (cond b (Some l) (find (λ k. bytes_eq k.name name) (below ++ y ∷ above)))) [])
    go true ih = each l.features
    go false ih = ih

without_one : (q : Feature → Bool) (before after : List Feature) (f : Feature) → q f ≡ false → filter q (before ++ f ∷ after) ≡ filter q (before ++ after)
without_one q before after f off =
    filter-append q before (f ∷ after) ∙ ap (λ b. filter q before ++ cond b (f ∷ filter q after) (filter q after)) off ∙ sym (filter-append q before after)

pub passed_over : LawPassedOver
passed_over style size t below above name before after f ranged sizes tile off =
    same_tile style size t (below ++ record { name = name; features = before ++ f ∷ after } ∷ above) (below ++ record { name = name; features = before ++ after } ∷ above) ranged sizes tile
    (λ n. one_layer (λ fs gs. reaching size t fs ≡ reaching size t gs) n below above (record { name = name; features = before ++ f ∷ after }) (record { name = name; features = before ++ after }) refl (λ fs. refl)
    (without_one (λ g. feature_reaches g size t.z (tile_square t)) before after f off))

-- ---- a tile's square lies in its metatile's

-- eight squares side by side hold each of them
eight_wide : (x q side p : ℕ) → q * 8 ≤ x → x + 1 ≤ (q + 1) * 8 → x * side ≤ p → p < (x + 1) * side → (q * (8 * side) ≤ p) × (p < (q + 1) * (8 * side))
eight_wide x q side p low high from before =
    let a : q * 8 * side ≤ x * side = mul-le-mul_right side low in
    let b : (x + 1) * side ≤ (q + 1) * 8 * side = mul-le-mul_right side high in
    (omega (arith, a, from), omega (arith, b, before))

-- three zooms up a side is eight times as long
side_eight : (z : ℕ) → 3 ≤ z → z ≤ 18 → side_at (z - 3) ≡ 8 * side_at z
side_eight z low high = let e : 30 - (z - 3) ≡ 3 + (30 - z) = omega arith in ap (λ n. 2 ^ n) e ∙ pow-add 2 3 (30 - z)

-- below a map's zoom 3 all of the world is before 2^30
in_world : (z x p : ℕ) → z ≤ 18 → x < 2 ^ z → p < (x + 1) * side_at z → p < (0 + 1) * side_at 0
in_world z x p z_fits fits before =
    let a : (x + 1) * side_at z ≤ 2 ^ z * side_at z = mul-le-mul_right (side_at z) (let k : x + 1 ≤ 2 ^ z = omega arith in k) in
    let e : 2 ^ z * side_at z ≡ 2 ^ 30 = world_wide z z_fits in
    let one : (0 + 1) * 2 ^ 30 ≡ 2 ^ 30 = omega arith in
    omega (arith, a, e, one, before)

wider : (t : Tile) (p : Point) → IsTile t → InSquare (tile_square t) p → InSquare (meta_square (meta_of t)) p
wider t p tile h = go (nat_le 3 t.z) refl
  where
    go : (b : Bool) → nat_le 3 t.z ≡ b → InSquare (cond b (record { z = t.z - 3; x = t.x / 8 * 8 / 8; y = t.y / 8 * 8 / 8 }) (record { z = 0; x = 0; y = 0 })) p
    go true is =
        let low : 3 ≤ t.z = grind (arith, nat_tests) in
        let e : side_at (t.z - 3) ≡ 8 * side_at t.z = side_eight t.z low tile.z_fits in
        let qx : t.x / 8 * 8 / 8 ≡ t.x / 8 = omega arith in
        let qy : t.y / 8 * 8 / 8 ≡ t.y / 8 = omega arith in
        let a = eight_wide t.x (t.x / 8) (side_at t.z) p.x (omega arith) (omega arith) h.from_west h.before_east in
        let b = eight_wide t.y (t.y / 8) (side_at t.z) p.y (omega arith) (omega arith) h.from_north h.before_south in
        record {
          from_west = rw (qx, e) a.0;
          before_east = rw (qx, e) a.1;
          from_north = rw (qy, e) b.0;
          before_south = rw (qy, e) b.1;
        }
    go false is = record {
      from_west = omega arith;
      before_east = in_world t.z t.x p.x tile.z_fits tile.x_fits h.before_east;
      from_north = omega arith;
      before_south = in_world t.z t.y p.y tile.z_fits tile.y_fits h.before_south;
    }

-- a feature that does not reach the metatile's square does not reach the tile's
far_tile : (f : Feature) (size : ℕ) (t : Tile) → IsTile t → feature_reaches f size t.z (meta_square (meta_of t)) ≡ false → feature_reaches f size t.z (tile_square t) ≡ false
far_tile f size t tile off = false_from_ne_true (feature_reaches f size t.z (tile_square t)) (λ on.
    let r = (by_edges f size t.z (tile_square t)).0 on in
    let wide : Reaches f size t.z (meta_square (meta_of t)) = (r.0, r.1, wider t r.0 tile r.2) in
    let never : feature_reaches f size t.z (meta_square (meta_of t)) ≡ true = (by_edges f size t.z (meta_square (meta_of t))).1 wide in
    cc)

-- ---- updates of a plan

-- the style that a map of the plan has at any time keeps its ranges
styled_ranged : (plan : FarmPlan) (place : ℕ) (mp : MapPlan) (styled : Option ℕ) → AreRanged plan → slice_get plan.maps place ≡ Some mp → IsRanged (styled_as plan mp styled)
styled_ranged plan place mp None ranged is = all_at (λ m. IsRanged m.style) plan.maps place mp ranged.maps is
styled_ranged plan place mp (Some n) ranged is = go (slice_get plan.restyles n) refl
  where
    go : (o : Option Restyle) → slice_get plan.restyles n ≡ o → IsRanged (style_or mp.style o)
    go None none = all_at (λ m. IsRanged m.style) plan.maps place mp ranged.maps is
    go (Some r) some = all_at (λ r. IsRanged r.style) plan.restyles n r ranged.restyles some

-- an update that names no feature which reaches the metatile leaves the metatile's tiles
updated_tile : (style : MapStyle) (size : ℕ) (t : Tile) (changes : List Change) (layers : List Layer) (result : Result (List Layer) ApplyFault) → IsRanged style → IsTileSize size → IsTile t →
    update_result changes layers ≡ result → any_reaches (named layers changes) size (meta_of t) ≡ false →
    drawn_tile style size t (kept_or layers result) ≡ drawn_tile style size t layers
updated_tile style size t changes layers (Err fault) ranged sizes tile is off = refl
updated_tile style size t changes layers (Ok new) ranged sizes tile is off =
    same_tile style size t new layers ranged sizes tile
    (updated_same (λ f. feature_reaches f size t.z (tile_square t)) changes layers new is
    (off_named (λ f. feature_reaches f size t.z (tile_square t)) layers changes
    (each-map (λ f. feature_reaches f size t.z (meta_square (meta_of t)) ≡ false) (λ f. feature_reaches f size t.z (tile_square t) ≡ false) (named layers changes)
    (λ f h. far_tile f size t tile h) (none-each (λ f. feature_reaches f size t.z (meta_square (meta_of t))) (named layers changes) off))))

-- the data after one more update
data_more : (plan : FarmPlan) (numbers : List ℕ) (n : ℕ) → data_of plan (numbers ++ n ∷ []) ≡ data_step plan (data_of plan numbers) n
unfolding data_of
data_more plan numbers n = fold-append (data_step plan) plan.dataset numbers (n ∷ [])

pub local : LawUpdatesLocal
unfolding plan_of reaches_of
local plan valid ranged spot styled numbers n servable off =
    let s = spot_of plan spot valid servable in
    let t = plans.spot_tile spot in
    let layers = data_of plan numbers in
    let style = styled_as plan s.map styled in
    let far : any_reaches (named layers (update_of plan n)) s.map.tile (meta_of t) ≡ false =
    sym (ap (λ (o : Option MapPlan). any_reaches_map (named layers (update_of plan n)) o (meta_of t)) s.is_map) ∙ off in
    ap (λ (o : Option MapPlan). tile_in plan o styled t (data_of plan (numbers ++ n ∷ []))) s.is_map
    ∙ ap (drawn_tile style s.map.tile t) (data_more plan numbers n)
    ∙ updated_tile style s.map.tile t (update_of plan n) layers (update_result (update_of plan n) layers) (styled_ranged plan (map_of spot) s.map styled ranged s.is_map) s.valid.sized s.tile refl far
    ∙ sym (ap (λ (o : Option MapPlan). tile_in plan o styled t layers) s.is_map)
