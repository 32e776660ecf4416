-- Which keys an expiry of a tile, of a map or of a rectangle meets.
use Rattle.std.proofs.Common.{◌≡◌, ℕ, zero, suc, [], ◌∷◌, ◌++◌, take, get_or, length, ◌+◌, ◌-◌, ◌*◌, ◌/◌, ◌%◌, ◌^◌, ◌<◌, ◌≤◌, Bool, true, false, ◌&&◌, ◌||◌, ◌==◌, nat_le, nat_lt, if◌then◌else◌, List, refl, sym, ap, ◌∙◌, subst, inl, inr, ◌⊎◌, arith}
use Rattle.std.proofs.lemmas.Bool.{cases_lt, eqb-true, eq-eqb, false_from_ne_true, or_left, or_right}
use Rattle.std.proofs.lemmas.List.{take_more}
use Rattle.std.proofs.lemmas.Bool.Decides.{nat_tests}
use Rattle.std.proofs.lemmas.Nat.{pow_pos, pow_below, pow-add, shr-shr, div_below, shr_below}
use Rattle.std.proofs.Math.Bool.{and-or_distrib_right}
use Rattle.plain_world.specs.declared.world.Square.{Square}
use Rattle.plain_world.specs.declared.world.Tile.{Tile}
use Rattle.plain_world.specs.World.{IsMeta, IsTile, meta_square, tile_square, squares_meet}
use Rattle.plain_world.proofs.Squares.{ancestor, squares_turned}
use Rattle.farm_history.specs.declared.keys.Key.{Key}
use Rattle.farm_history.specs.Plans.{same_key, overlaps}
use Rattle.farm_history.proofs.Lists.{each-map, each-all, any-append, same_key-self}
use Rattle.expiry_lists.specs.Marks.{is_of_map, is_of_bits}
use Rattle.expiry_lists.specs.inner.Nodes.{Node, NodeTable, place_of, bit_of, has_bit, at_bits, node_of, shown_of, IsTree}
use Rattle.expiry_lists.specs.inner.Tiles.{world_key, is_flat, key_over, is_of_maps}
use Rattle.expiry_lists.specs.inner.Walks.{is_under, is_above, under_bits, above_bits, IsNode, Walks}
use Rattle.expiry_lists.specs.declared.table.Spot.{Spot}
use Rattle.expiry_lists.proofs.Bits.{all_bits, power_bit}
use Rattle.expiry_lists.proofs.Dirtying.{AgreeOn, NoneOf}
use Rattle.expiry_lists.proofs.Finding.{Distinct, Marked, all_marked, marked_there}
use Rattle.expiry_lists.proofs.Live.{OnGrid, node_on_grid, under_deep}
use Rattle.expiry_lists.proofs.Walked.{walks_then, walks_agree, walks_none}
use Rattle.expiry_lists.proofs.Over.{Below, node_square, meta_square-node, above_below, below_under, around_meets}

-- tests that agree on metatiles agree on what the table shows
pub agree_metas : (es : List (Key × Node)) (ss : List (Key × Spot)) → Distinct es → IsTree es ss → (p q : Key → Bool) → ((k : Key) → IsMeta k.meta → p k ≡ q k) → AgreeOn p q (shown_of es)
agree_metas es ss apart tree p q same = each-map (Marked es) _ (shown_of es) (λ s is clean. same s.key (tree.metas s.key (marked_there (node_of es s.key) s.mark is))) (all_marked es apart)

pub none_metas : (es : List (Key × Node)) (ss : List (Key × Spot)) → Distinct es → IsTree es ss → (p : Key → Bool) → ((k : Key) → IsMeta k.meta → p k ≡ false) → NoneOf p (shown_of es)
none_metas es ss apart tree p none = each-map (Marked es) _ (shown_of es) (λ s is clean. none s.key (tree.metas s.key (marked_there (node_of es s.key) s.mark is))) (all_marked es apart)

-- The root of a map.
pub root_node : (map : ℕ) → IsNode (world_key map 3)
root_node map = record { deep = omega arith; meta = record { z_fits = omega arith; x_fits = omega arith; y_fits = omega arith; x_eights = omega arith; y_eights = omega arith } }

none_past : (x z : ℕ) → x < 2 ^ z → x / 2 ^ z ≡ 0
none_past x z fits = let few : x / 2 ^ z < 1 = div_below x (2 ^ z) 1 (pow_pos z) (omega (arith, fits)) in omega (arith, few)

eighth_fits : (x z : ℕ) → 3 ≤ z → x < 2 ^ z → x / 8 < 2 ^ (z - 3)
eighth_fits x z deep fits =
    let d : 3 + (z - 3) ≡ z = omega arith in
    let p : 2 ^ 3 * 2 ^ (z - 3) ≡ 2 ^ z = sym (pow-add 2 3 (z - 3)) ∙ ap (λ n. 2 ^ n) d in
    omega (arith, p)

-- each metatile of a map from zoom 3 on lies below it
pub root_below : (k : Key) → 3 ≤ k.meta.z → IsMeta k.meta → Below (k.meta.z - 3) (world_key k.map 3) k
root_below k deep meta = record {
  same_map = refl;
  zoom = omega (arith, deep);
  column = none_past (k.meta.x / 8) (k.meta.z - 3) (eighth_fits k.meta.x k.meta.z deep meta.x_fits);
  row = none_past (k.meta.y / 8) (k.meta.z - 3) (eighth_fits k.meta.y k.meta.z deep meta.y_fits);
}

pub meta_on_grid : (k : Key) → 3 ≤ k.meta.z → IsMeta k.meta → OnGrid k
meta_on_grid k deep meta = record { deep = deep; x_eights = meta.x_eights; y_eights = meta.y_eights }

pub root_under : (n : ℕ) (map : ℕ) (k : Key) → map ≡ k.map → 3 ≤ k.meta.z → k.meta.z - 3 ≤ n → IsMeta k.meta → is_under n (world_key map 3) k ≡ true
root_under n map k maps deep few meta =
    subst (λ m. is_under n (world_key m 3) k ≡ true) (sym maps)
    (below_under n (world_key k.map 3) k (k.meta.z - 3) (node_on_grid (world_key k.map 3) (root_node k.map)) (meta_on_grid k deep meta) few (root_below k deep meta))

-- The keys of zooms 0 to 2.
pub flat_is : (k : Key) → k.meta.z < 3 → IsMeta k.meta → world_key k.map k.meta.z ≡ k
flat_is k small meta =
    let p : 2 ^ k.meta.z < 2 ^ 3 = pow_below k.meta.z 3 small in
    let x : 0 ≡ k.meta.x = omega (arith, p, meta.x_fits, meta.x_eights) in
    let y : 0 ≡ k.meta.y = omega (arith, p, meta.y_fits, meta.y_eights) in
    λ i. record { map = k.map; meta = record { z = k.meta.z; x = x i; y = y i } }

world_same : (map z : ℕ) (k : Key) → world_key map z ≡ k → same_key (world_key map z) k ≡ true
world_same map z k own = ap (same_key (world_key map z)) (sym own) ∙ same_key-self (world_key map z)

flat_there : (map : ℕ) (k : Key) → map ≡ k.map → k.meta.z < 3 → IsMeta k.meta → is_flat map k ≡ true
flat_there map k maps small meta = go k.meta.z refl
  where
    own : (z : ℕ) → z ≡ k.meta.z → same_key (world_key map z) k ≡ true
    own z is = world_same map z k (ap (λ m. world_key m z) maps ∙ (ap (world_key k.map) is ∙ flat_is k small meta))

    go : (z : ℕ) → z ≡ k.meta.z → is_flat map k ≡ true
    go zero is = or_left _ (same_key (world_key map 2) k) (or_left _ (same_key (world_key map 1) k) (own 0 is))
    go (suc zero) is = or_left _ (same_key (world_key map 2) k) (or_right (same_key (world_key map 0) k) _ (own 1 is))
    go (suc (suc zero)) is = or_right (same_key (world_key map 0) k || same_key (world_key map 1) k) _ (own 2 is)
    go (suc (suc (suc z))) is = absurd (omega (arith, is, small))

flat_deep : (map : ℕ) (k : Key) → 3 ≤ k.meta.z → is_flat map k ≡ false
flat_deep map k deep = grind (arith, nat_tests)

flat_other : (map : ℕ) (k : Key) → (map == k.map) ≡ false → is_flat map k ≡ false
flat_other map k other = grind (arith, nat_tests)

-- A map: its keys of zooms 0 to 2 and those below its root.
pub map_agrees : (map : ℕ) (k : Key) → IsMeta k.meta → (is_flat map k || is_under 15 (world_key map 3) k) ≡ is_of_map map k
map_agrees map k meta = go (map == k.map) refl
  where
    deeper : (map == k.map) ≡ true → (k.meta.z < 3) ⊎ (3 ≤ k.meta.z) → (is_flat map k || is_under 15 (world_key map 3) k) ≡ true
    deeper same (inl small) = or_left (is_flat map k) _ (flat_there map k (eqb-true map k.map same) small meta)
    deeper same (inr deep) = or_right (is_flat map k) _ (root_under 15 map k (eqb-true map k.map same) deep (omega (arith, meta.z_fits)) meta)

    apart : (map == k.map) ≡ false → is_under 15 (world_key map 3) k ≡ false
    apart other = false_from_ne_true (is_under 15 (world_key map 3) k) (λ under.
        let same : (map == k.map) ≡ true = eq-eqb map k.map (under_deep 15 (world_key map 3) k under).0 in
        let never : true ≡ false = sym same ∙ other in
        cc)

    go : (b : Bool) → (map == k.map) ≡ b → (is_flat map k || is_under 15 (world_key map 3) k) ≡ b
    go true same = deeper same (cases_lt k.meta.z 3)
    go false other = rw (flat_other map k other, apart other) refl

-- A tile: its square is met by the world's,
world_meets : (t : Tile) → IsTile t → squares_meet (tile_square t) (record { z = 0; x = 0; y = 0 }) ≡ true
world_meets t tile =
    let w : Square = record { z = 0; x = 0; y = 0 } in
    let zoom : t.z ≡ 0 + t.z = omega arith in
    let x : (t.x / 2 ^ t.z == 0) ≡ true = eq-eqb (t.x / 2 ^ t.z) 0 (none_past t.x t.z tile.x_fits) in
    let y : (t.y / 2 ^ t.z == 0) ≡ true = eq-eqb (t.y / 2 ^ t.z) 0 (none_past t.y t.z tile.y_fits) in
    squares_turned (tile_square t) w ∙ (sym (ancestor w (tile_square t) t.z zoom tile.z_fits) ∙ rw (x, y) refl)

-- by each metatile's, where it is the world's,
pub all_overlap : (t : Tile) → IsTile t → t.z ≡ 0 → (k : Key) → IsMeta k.meta → overlaps t k ≡ true
unfolding overlaps
all_overlap t tile whole k meta = go (cases_lt k.meta.z 3)
  where
    first : 0 ≡ t.x
    first = let fits : t.x < 2 ^ 0 = subst (λ z. t.x < 2 ^ z) whole tile.x_fits in omega (arith, fits)

    top : 0 ≡ t.y
    top = let fits : t.y < 2 ^ 0 = subst (λ z. t.y < 2 ^ z) whole tile.y_fits in omega (arith, fits)

    go : (k.meta.z < 3) ⊎ (3 ≤ k.meta.z) → squares_meet (tile_square t) (meta_square k.meta) ≡ true
    go (inl small) =
        let test : nat_le 3 k.meta.z ≡ false = grind (arith, nat_tests) in
        ap (λ b. squares_meet (tile_square t) (if b then record { z = k.meta.z - 3; x = k.meta.x / 8; y = k.meta.y / 8 } else record { z = 0; x = 0; y = 0 })) test ∙ world_meets t tile
    go (inr deep) =
        let s : Square = node_square k in
        let x : (s.x / 2 ^ s.z == t.x) ≡ true = eq-eqb (s.x / 2 ^ s.z) t.x (none_past s.x s.z (eighth_fits k.meta.x k.meta.z deep meta.x_fits) ∙ first) in
        let y : (s.y / 2 ^ s.z == t.y) ≡ true = eq-eqb (s.y / 2 ^ s.z) t.y (none_past s.y s.z (eighth_fits k.meta.y k.meta.z deep meta.y_fits) ∙ top) in
        ap (squares_meet (tile_square t)) (meta_square-node k deep)
        ∙ (sym (ancestor (tile_square t) s s.z (omega (arith, whole)) (omega (arith, meta.z_fits))) ∙ rw (x, y) refl)

-- and a square of zoom 15 or before meets it where it meets the one of zoom 15 that holds it.
deep_tile : (t : Tile) (s : Square) → IsTile t → 15 < t.z → s.z ≤ 15 → squares_meet (record { z = 15; x = t.x / 2 ^ (t.z - 15); y = t.y / 2 ^ (t.z - 15) }) s ≡ squares_meet (tile_square t) s
deep_tile t s tile deep high =
    let up : Square = record { z = 15; x = t.x / 2 ^ (t.z - 15); y = t.y / 2 ^ (t.z - 15) } in
    let steps : (t.z - 15) + (15 - s.z) ≡ t.z - s.z = omega arith in
    let x : t.x / 2 ^ (t.z - 15) / 2 ^ (15 - s.z) ≡ t.x / 2 ^ (t.z - s.z) = shr-shr t.x (t.z - 15) (15 - s.z) ∙ ap (λ n. t.x / 2 ^ n) steps in
    let y : t.y / 2 ^ (t.z - 15) / 2 ^ (15 - s.z) ≡ t.y / 2 ^ (t.z - s.z) = shr-shr t.y (t.z - 15) (15 - s.z) ∙ ap (λ n. t.y / 2 ^ n) steps in
    let a : (up.x / 2 ^ (15 - s.z) == s.x) && (up.y / 2 ^ (15 - s.z) == s.y) ≡ squares_meet s up = ancestor s up (15 - s.z) (omega (arith, high)) (omega arith) in
    let b : (t.x / 2 ^ (t.z - s.z) == s.x) && (t.y / 2 ^ (t.z - s.z) == s.y) ≡ squares_meet s (tile_square t) = ancestor s (tile_square t) (t.z - s.z) (omega (arith, high, deep)) tile.z_fits in
    let same : (up.x / 2 ^ (15 - s.z) == s.x) && (up.y / 2 ^ (15 - s.z) == s.y) ≡ ((t.x / 2 ^ (t.z - s.z) == s.x) && (t.y / 2 ^ (t.z - s.z) == s.y)) =
    ap (λ n. (n == s.x) && (up.y / 2 ^ (15 - s.z) == s.y)) x ∙ ap (λ n. (t.x / 2 ^ (t.z - s.z) == s.x) && (n == s.y)) y in
    squares_turned up s ∙ (sym a ∙ (same ∙ (b ∙ squares_turned s (tile_square t))))

-- the key over a tile
eight_fits : (x z : ℕ) → x < 2 ^ z → x * 8 < 2 ^ (z + 3)
eight_fits x z fits = let p : 2 ^ (z + 3) ≡ 2 ^ z * 2 ^ 3 = pow-add 2 z 3 in omega (arith, p)

pub high_node : (map : ℕ) (t : Tile) → IsTile t → t.z ≤ 15 → IsNode (record { map = map; meta = record { z = t.z + 3; x = t.x * 8; y = t.y * 8 } })
high_node map t tile high = record {
  deep = omega arith;
  meta = record { z_fits = omega (arith, high); x_fits = eight_fits t.x t.z tile.x_fits; y_fits = eight_fits t.y t.z tile.y_fits; x_eights = omega arith; y_eights = omega arith };
}

pub deep_fits : (x z : ℕ) → 15 < z → x < 2 ^ z → x / 2 ^ (z - 15) * 8 < 2 ^ 18
deep_fits x z deep fits =
    let zoom : 15 + (z - 15) ≡ z = omega arith in
    let few : x / 2 ^ (z - 15) < 2 ^ 15 = shr_below x 15 (z - 15) (subst (λ n. x < 2 ^ n) (sym zoom) fits) in
    omega (arith, few)

pub deep_node : (map : ℕ) (t : Tile) → IsTile t → 15 < t.z → IsNode (record { map = map; meta = record { z = 18; x = t.x / 2 ^ (t.z - 15) * 8; y = t.y / 2 ^ (t.z - 15) * 8 } })
deep_node map t tile deep = record {
  deep = omega arith;
  meta = record { z_fits = omega arith; x_fits = deep_fits t.x t.z deep tile.x_fits; y_fits = deep_fits t.y t.z deep tile.y_fits; x_eights = omega arith; y_eights = omega arith };
}

-- its square meets what the tile's does
key_over_meets : (map : ℕ) (t : Tile) (k : Key) → IsTile t → 3 ≤ k.meta.z → IsMeta k.meta → squares_meet (node_square (key_over map t)) (node_square k) ≡ squares_meet (tile_square t) (node_square k)
key_over_meets map t k tile deep meta = go (cases_lt 15 t.z)
  where
    go : (15 < t.z) ⊎ (t.z ≤ 15) → squares_meet (node_square (key_over map t)) (node_square k) ≡ squares_meet (tile_square t) (node_square k)
    go (inl late) =
        let test : nat_le t.z 15 ≡ false = grind (arith, nat_tests) in
        let x : t.x / 2 ^ (t.z - 15) * 8 / 8 ≡ t.x / 2 ^ (t.z - 15) = omega arith in
        let y : t.y / 2 ^ (t.z - 15) * 8 / 8 ≡ t.y / 2 ^ (t.z - 15) = omega arith in
        let here : node_square (key_over map t) ≡ record { z = 15; x = t.x / 2 ^ (t.z - 15); y = t.y / 2 ^ (t.z - 15) } =
        ap (λ b. node_square (if b then record { map = map; meta = record { z = t.z + 3; x = t.x * 8; y = t.y * 8 } } else record { map = map; meta = record { z = 18; x = t.x / 2 ^ (t.z - 15) * 8; y = t.y / 2 ^ (t.z - 15) * 8 } })) test
        ∙ (λ i. record { z = 15; x = x i; y = y i }) in
        ap (λ s. squares_meet s (node_square k)) here ∙ deep_tile t (node_square k) tile late (omega (arith, meta.z_fits))
    go (inr early) =
        let test : nat_le t.z 15 ≡ true = grind (arith, nat_tests) in
        let z : t.z + 3 - 3 ≡ t.z = omega arith in
        let x : t.x * 8 / 8 ≡ t.x = omega arith in
        let y : t.y * 8 / 8 ≡ t.y = omega arith in
        let here : node_square (key_over map t) ≡ tile_square t =
        ap (λ b. node_square (if b then record { map = map; meta = record { z = t.z + 3; x = t.x * 8; y = t.y * 8 } } else record { map = map; meta = record { z = 18; x = t.x / 2 ^ (t.z - 15) * 8; y = t.y / 2 ^ (t.z - 15) * 8 } })) test
        ∙ (λ i. record { z = z i; x = x i; y = y i }) in
        ap (λ s. squares_meet s (node_square k)) here

key_if : Bool → ℕ → Tile → Key
key_if b map t = if b then record { map = map; meta = record { z = t.z + 3; x = t.x * 8; y = t.y * 8 } }
    else record { map = map; meta = record { z = 18; x = t.x / 2 ^ (t.z - 15) * 8; y = t.y / 2 ^ (t.z - 15) * 8 } }

key_if-map : (b : Bool) (map : ℕ) (t : Tile) → (key_if b map t).map ≡ map
unfolding key_if
key_if-map true map t = refl
key_if-map false map t = refl

key_over-map : (map : ℕ) (t : Tile) → (key_over map t).map ≡ map
unfolding key_if
key_over-map map t = key_if-map (nat_le t.z 15) map t

-- So the keys of zooms 0 to 2, those above the key and those below it are the map's keys that the tile overlaps.
pub tile_agrees : (map : ℕ) (t : Tile) (top k : Key) → top ≡ key_over map t → IsNode top → IsTile t → IsMeta k.meta →
    ((is_flat map k || is_above (top.meta.z - 3) top k) || is_under (18 - top.meta.z) top k) ≡ (is_of_map map k && overlaps t k)
unfolding overlaps
tile_agrees map t top k is node tile meta = go (map == k.map) refl
  where
    top_map : top.map ≡ map
    top_map = ap (λ (x : Key). x.map) is ∙ key_over-map map t

    apart : (map == k.map) ≡ false → (top.map ≡ k.map → ⊥)
    apart other own = let same : (map == k.map) ≡ true = eq-eqb map k.map (sym top_map ∙ own) in let never : true ≡ false = sym same ∙ other in cc

    none_up : (map == k.map) ≡ false → is_above (top.meta.z - 3) top k ≡ false
    none_up other = false_from_ne_true (is_above (top.meta.z - 3) top k) (λ above. apart other (sym (above_below (top.meta.z - 3) top k (omega (arith, node.deep)) above).3.same_map))

    none_down : (map == k.map) ≡ false → is_under (18 - top.meta.z) top k ≡ false
    none_down other = false_from_ne_true (is_under (18 - top.meta.z) top k) (λ under. apart other (under_deep (18 - top.meta.z) top k under).0)

    split : (map == k.map) ≡ true → (k.meta.z < 3) ⊎ (3 ≤ k.meta.z) → ((is_flat map k || is_above (top.meta.z - 3) top k) || is_under (18 - top.meta.z) top k) ≡ overlaps t k
    split same (inl small) =
        let test : nat_le 3 k.meta.z ≡ false = grind (arith, nat_tests) in
        or_left _ (is_under (18 - top.meta.z) top k) (or_left (is_flat map k) (is_above (top.meta.z - 3) top k) (flat_there map k (eqb-true map k.map same) small meta))
        ∙ sym (ap (λ b. squares_meet (tile_square t) (if b then record { z = k.meta.z - 3; x = k.meta.x / 8; y = k.meta.y / 8 } else record { z = 0; x = 0; y = 0 })) test ∙ world_meets t tile)
    split same (inr deep) =
        let own : top.map ≡ k.map = top_map ∙ eqb-true map k.map same in
        ap (λ b. (b || is_above (top.meta.z - 3) top k) || is_under (18 - top.meta.z) top k) (flat_deep map k deep)
        ∙ (around_meets top k node deep meta own
        ∙ (ap (λ (x : Key). squares_meet (node_square x) (node_square k)) is
        ∙ (key_over_meets map t k tile deep meta ∙ ap (squares_meet (tile_square t)) (sym (meta_square-node k deep)))))

    go : (b : Bool) → (map == k.map) ≡ b → ((is_flat map k || is_above (top.meta.z - 3) top k) || is_under (18 - top.meta.z) top k) ≡ (b && overlaps t k)
    go true same = split same (cases_lt k.meta.z 3)
    go false other = rw (flat_other map k other, none_up other, none_down other) refl

-- The same by place and with masks: of one map,
pub one_bit : (i b : ℕ) → i < 64 → has_bit (1 * 2 ^ i % 2 ^ 64) b ≡ (b == i)
one_bit i b few = ap (λ n. has_bit n b) small ∙ power_bit i b
  where
    small : 1 * 2 ^ i % 2 ^ 64 ≡ 2 ^ i
    small = let p : 2 ^ i < 2 ^ 64 = pow_below i 64 few in omega (arith, p)

pub mask_of_map : (map : ℕ) (k : Key) → has_bit (1 * 2 ^ (map % 64) % 2 ^ 64) (bit_of k) ≡ (bit_of k == map % 64)
mask_of_map map k = one_bit (map % 64) (bit_of k) (omega arith)

-- and of those of the first 64 maps that have their bits in a word
pub first_bits : (word : ℕ) (k : Key) → ((0 == k.map / 64) && has_bit word (bit_of k)) ≡ is_of_bits word k
first_bits word k = go (cases_lt k.map 64)
  where
    go : (k.map < 64) ⊎ (64 ≤ k.map) → ((0 == k.map / 64) && has_bit word (bit_of k)) ≡ is_of_bits word k
    go (inl few) =
        let first : (0 == k.map / 64) ≡ true = eq-eqb 0 (k.map / 64) (omega (arith, few)) in
        let bit : bit_of k ≡ k.map = omega (arith, few) in
        let small : nat_lt k.map 64 ≡ true = grind (arith, nat_tests) in
        rw (first, small) (ap (has_bit word) bit)
    go (inr many) =
        let later : (0 == k.map / 64) ≡ false = grind (arith, nat_tests) in
        let large : nat_lt k.map 64 ≡ false = grind (arith, nat_tests) in
        rw (later, large) refl

one_map : (map : ℕ) (k : Key) → ((map / 64 == k.map / 64) && (bit_of k == map % 64)) ≡ (map == k.map)
one_map map k = grind (arith, nat_tests)

pub map_masked : (map : ℕ) (k : Key) → (is_of_map (map / 64) (place_of k) && has_bit (1 * 2 ^ (map % 64) % 2 ^ 64) (bit_of k)) ≡ is_of_map map k
map_masked map k = ap (λ x. (map / 64 == k.map / 64) && x) (mask_of_map map k) ∙ one_map map k

pub map_bits : (map : ℕ) (k : Key) → IsMeta k.meta → ((is_flat (map / 64) (place_of k) && has_bit (1 * 2 ^ (map % 64) % 2 ^ 64) (bit_of k)) || under_bits 15 (world_key (map / 64) 3) (1 * 2 ^ (map % 64) % 2 ^ 64) k) ≡ is_of_map map k
map_bits map k meta =
    sym (and-or_distrib_right (is_flat (map / 64) (place_of k)) (is_under 15 (world_key (map / 64) 3) (place_of k)) (has_bit (1 * 2 ^ (map % 64) % 2 ^ 64) (bit_of k)))
    ∙ (ap (λ x. x && has_bit (1 * 2 ^ (map % 64) % 2 ^ 64) (bit_of k)) (map_agrees (map / 64) (place_of k) meta) ∙ map_masked map k)

-- and of all maps of a group
three_masks : (p q r has : Bool) → has ≡ true → (((p && has) || (q && has)) || (r && has)) ≡ ((p || q) || r)
three_masks p q r true is = grind arith
three_masks p q r false is = cc

pub tile_bits : (group : ℕ) (t : Tile) (top k : Key) → top ≡ key_over group t → IsNode top → IsTile t → IsMeta k.meta →
    (((is_flat group (place_of k) && has_bit (2 ^ 64 - 1) (bit_of k)) || above_bits (top.meta.z - 3) top (2 ^ 64 - 1) k) || under_bits (18 - top.meta.z) top (2 ^ 64 - 1) k) ≡ (is_of_map group (place_of k) && overlaps t k)
unfolding overlaps
tile_bits group t top k is node tile meta =
    three_masks (is_flat group (place_of k)) (is_above (top.meta.z - 3) top (place_of k)) (is_under (18 - top.meta.z) top (place_of k)) (has_bit (2 ^ 64 - 1) (bit_of k)) (all_bits (bit_of k) (omega arith))
    ∙ tile_agrees group t top (place_of k) is node tile meta

three_parts : (p q r has : Bool) → (((p && has) || (q && has)) || (r && has)) ≡ (((p || q) || r) && has)
three_parts p q r has = grind arith

pub flat_masks : (group mask : ℕ) (k : Key) → ((at_bits (world_key group 0) mask k || at_bits (world_key group 1) mask k) || at_bits (world_key group 2) mask k) ≡ (is_flat group (place_of k) && has_bit mask (bit_of k))
flat_masks group mask k = three_parts (same_key (world_key group 0) (place_of k)) (same_key (world_key group 1) (place_of k)) (same_key (world_key group 2) (place_of k)) (has_bit mask (bit_of k))

-- No group, and one group after others.
pub walks_no_group : (test : Key → Bool) (a : NodeTable) → IsTree a.entries a.spots → Walks (λ k. is_of_maps [] (place_of k) && test k) a a 0
walks_no_group test a tree = walks_none (λ k. is_of_maps [] (place_of k) && test k) a (each-all _ (shown_of a.entries) (λ s clean. refl)) tree

one_more : (x y o : Bool) → ((x && o) || (y && o)) ≡ ((x || (y || false)) && o)
one_more true true true = refl
one_more true true false = refl
one_more true false true = refl
one_more true false false = refl
one_more false true true = refl
one_more false true false = refl
one_more false false true = refl
one_more false false false = refl

pub walks_group : {a b c : NodeTable} {m n : ℕ} (test : Key → Bool) (groups : List ℕ) (i group : ℕ) → i < length groups → group ≡ get_or groups i 0 →
    Walks (λ k. is_of_maps (take i groups) (place_of k) && test k) a b m → Walks (λ k. is_of_map group (place_of k) && test k) b c n → Walks (λ k. is_of_maps (take (i + 1) groups) (place_of k) && test k) a c (m + n)
walks_group {a} {b} {c} {m} {n} test groups i group within is first second =
    walks_agree (λ k. is_of_maps (take (i + 1) groups) (place_of k) && test k) (each-all _ (shown_of a.entries) (λ s clean. same s.key)) (walks_then first second)
  where
    more : (p : Key) → is_of_maps (take (i + 1) groups) p ≡ (is_of_maps (take i groups) p || ((group == p.map) || false))
    more p =
        ap (λ xs. is_of_maps xs p) (take_more groups i 0 within ∙ ap (λ x. take i groups ++ x ∷ []) (sym is))
        ∙ any-append (λ x. x == p.map) (take i groups) (group ∷ [])

    same : (k : Key) → ((is_of_maps (take i groups) (place_of k) && test k) || (is_of_map group (place_of k) && test k)) ≡ (is_of_maps (take (i + 1) groups) (place_of k) && test k)
    same k = one_more (is_of_maps (take i groups) (place_of k)) (group == k.map / 64) (test k) ∙ sym (ap (λ x. x && test k) (more (place_of k)))
