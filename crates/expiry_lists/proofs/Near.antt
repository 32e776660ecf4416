-- Which keys boxes come near, in a walk down with those boxes alone that come near the key over them.
use Rattle.std.proofs.Common.{◌≡◌, ℕ, suc, ◌+◌, ◌-◌, ◌*◌, ◌<◌, ◌≤◌, Bool, true, false, ◌&&◌, ◌||◌, nat_lt, List, [], ◌∷◌, ◌++◌, length, take, drop, get_or, refl, sym, ap, ap₂, ◌∙◌, subst, inl, inr, arith}
use Rattle.std.specs.Prelude.{All, IsPermutation}
use Rattle.std.specs.List.{list_any, swap}
use Rattle.std.proofs.lemmas.Bool.{and_parts, cases_eq, false_from_ne_true}
use Rattle.std.proofs.lemmas.Bool.Decides.{nat_tests}
use Rattle.std.proofs.lemmas.Nat.{le-div, div-add-mod'}
use Rattle.std.proofs.Math.Nat.{pow-le-pow_right}
use Rattle.std.proofs.lemmas.List.{get_or_default, take-append-drop, length-take-le}
use Rattle.std.proofs.lemmas.List.Folds.{list_any-append, list_any_none, list_any_at}
use Rattle.std.proofs.lemmas.List.Edits.{swapped_from_swap}
use Rattle.std.proofs.lemmas.List.Sorted.{list_any-IsPermutation, IsPermutation-trans, IsPermutation-append_left}
use Rattle.std.proofs.Math.Bool.{or-false}
use Rattle.plain_world.specs.declared.world.Square.{Square}
use Rattle.plain_world.specs.World.{IsMeta, IsTileSize, meta_square, side_at}
use Rattle.plain_world.proofs.Windows.{size_bounds}
use Rattle.plain_shapes.specs.Reach.{margin_of}
use Rattle.geo_model.specs.declared.bounds.Bounds.{Bounds}
use Rattle.farm_history.specs.declared.keys.Key.{Key}
use Rattle.farm_history.specs.Plans.{same_key}
use Rattle.farm_history.proofs.Lists.{each-map, each-all, same_key-true}
use Rattle.expiry_lists.specs.Boxes.{comes_near}
use Rattle.expiry_lists.specs.Marks.{is_met, some_meets, is_of_map, is_near_zooms}
use Rattle.expiry_lists.specs.inner.Nodes.{NodeTable, place_of, bit_of, has_bit, at_bits, lives_at, shown_of, IsTree}
use Rattle.expiry_lists.specs.inner.Tiles.{world_key}
use Rattle.expiry_lists.specs.inner.Walks.{child, is_under, under_bits, IsNode, Walks}
use Rattle.expiry_lists.proofs.Finding.{Distinct}
use Rattle.expiry_lists.proofs.Live.{node_on_grid, none_under}
use Rattle.expiry_lists.proofs.Walked.{walks_agree, walks_none}
use Rattle.expiry_lists.proofs.BoxLaws.{over_near}
use Rattle.expiry_lists.proofs.Over.{node_square, meta_square-node, under_below, below_over}
use Rattle.expiry_lists.proofs.Tiles.{agree_metas, none_metas, map_agrees}

-- ---- margins

-- a later zoom's margin is no wider
pub margin_less : (size y z : ℕ) → IsTileSize size → y ≤ z → margin_of size z ≤ margin_of size y
margin_less size y z tile later =
    let less : side_at z ≤ side_at y = pow-le-pow_right (omega arith) (omega (arith, later)) in
    let rest = div-add-mod' (64 * side_at z) size in
    le-div (margin_of size z) (64 * side_at y) size (omega (arith, (size_bounds size tile).0)) (omega (arith, less, rest))

-- ---- boxes in parts

-- boxes before place n pass the test, and those from there on before place i don't
pub record Parted (near : Bounds → Bool) (n i : ℕ) (boxes : List Bounds) : Type 0 where
  pub before : (k : ℕ) (d : Bounds) → k < n → near (get_or boxes k d) ≡ true
  pub behind : (k : ℕ) (d : Bounds) → n ≤ k → k < i → near (get_or boxes k d) ≡ false

pub parted_other : (near : Bounds → Bool) (n i : ℕ) (boxes : List Bounds) (b : Bounds) → i < length boxes → near (get_or boxes i b) ≡ false → Parted near n i boxes → Parted near n (i + 1) boxes
parted_other near n i boxes b small other parts = record {
  before = parts.before;
  behind = λ k d low high. elim (cases_eq k i) [
    | inl same ↦ subst (λ (m : ℕ). near (get_or boxes m d) ≡ false) (sym same) (ap near (get_or_default boxes i d b small) ∙ other)
    | inr away ↦ parts.behind k d low (omega (arith, away, high))
  ];
}

pub parted_more : (near : Bounds → Bool) (n i : ℕ) (boxes after : List Bounds) (b : Bounds) → n ≤ i → i < length boxes → near (get_or boxes i b) ≡ true → after ≡ swap boxes n i → Parted near n i boxes → Parted near (n + 1) (i + 1) after
parted_more near n i boxes after b low small passes is parts = record {
  before = λ k d less. elim (cases_eq k n) [
    | inl same ↦ subst (λ (m : ℕ). near (get_or after m d) ≡ true) (sym same) (here d)
    | inr away ↦ ap near (rest d k (λ e. away e) (λ e. absurd (omega (arith, e, less, away, low)))) ∙ parts.before k d (omega (arith, away, less))
  ];
  behind = λ k d above high. elim (cases_eq k i) [
    | inl same ↦ subst (λ (m : ℕ). near (get_or after m d) ≡ false) (sym same) (ap near ((moved d).1) ∙ parts.behind n d (omega arith) (omega (arith, above, same)))
    | inr away ↦ ap near (rest d k (λ e. absurd (omega (arith, e, above))) (λ e. away e)) ∙ parts.behind k d (omega (arith, above)) (omega (arith, away, high))
  ];
}
  where
    moved : (d : Bounds) → (get_or after n d ≡ get_or boxes i d) × (get_or after i d ≡ get_or boxes n d) × ((m : ℕ) → (m ≡ n → ⊥) → (m ≡ i → ⊥) → get_or after m d ≡ get_or boxes m d)
    moved d = swapped_from_swap boxes after n i d (omega (arith, low, small)) small is

    here : (d : Bounds) → near (get_or after n d) ≡ true
    here d = ap near ((moved d).0 ∙ get_or_default boxes i d b small) ∙ passes

    rest : (d : Bounds) (m : ℕ) → (m ≡ n → ⊥) → (m ≡ i → ⊥) → get_or after m d ≡ get_or boxes m d
    rest d = (moved d).2

-- boxes at the front that are put in another order
pub front_moved : (boxes after front : List Bounds) (m : ℕ) → IsPermutation boxes after → IsPermutation (take m after) front → IsPermutation boxes (front ++ drop m after)
front_moved boxes after front m moved turned =
    IsPermutation-trans boxes after (front ++ drop m after) moved
    (subst (λ (bs : List Bounds). IsPermutation bs (front ++ drop m after)) (take-append-drop m after) (IsPermutation-append_left (drop m after) (take m after) front turned))

-- a test by margin and square that are told by equations
pub test_near : (boxes : List Bounds) (size : ℕ) (top : Key) (margin : ℕ) (s : Square) (answer : Bool) → margin ≡ margin_of size top.meta.z → s ≡ meta_square top.meta → All (λ b. comes_near b margin s ≡ answer) boxes
    → All (λ b. is_met b size top ≡ answer) boxes
test_near boxes size top margin s answer wide square all k d small =
    ap₂ (λ (x : ℕ) (y : Square). comes_near (get_or boxes k d) x y) (sym wide) (sym square) ∙ all k d small

-- ---- what the boxes come near under a key

-- a box that comes near a key comes near each key over it, at that key's zoom
near_above : (b : Bounds) (size n : ℕ) (top k : Key) → IsTileSize size → IsNode top → IsMeta k.meta → is_under n top k ≡ true → is_met b size k ≡ true → is_met b size top ≡ true
near_above b size n top k tile node meta under near =
    let found = under_below n top k (node_on_grid top node) under in
    let deep : 3 ≤ k.meta.z = omega (arith, node.deep, found.2.zoom) in
    ap (comes_near b (margin_of size top.meta.z)) (meta_square-node top node.deep)
    ∙ over_near b (margin_of size top.meta.z) (margin_of size k.meta.z) (node_square top) (node_square k) (margin_less size top.meta.z k.meta.z tile (omega (arith, found.2.zoom))) (omega (arith, meta.z_fits))
    (below_over found.0 top k node.deep found.2) (sym (ap (comes_near b (margin_of size k.meta.z)) (meta_square-node k deep)) ∙ near)

-- what a walk from a place is to make dirty
abbrev pub near_under : ℕ → ℕ → List Bounds → Key → ℕ → Key → Bool
near_under n size boxes top mask k = under_bits n top mask k && some_meets size boxes k

under_first : (x y : Bool) → (x && y) ≡ true → x ≡ true
under_first x y both = (and_parts x y both).0

none_and : (x y : Bool) → (x ≡ true → y ≡ false) → (x && y) ≡ false
none_and true y none = none refl
none_and false y none = refl

same_and : (x y z : Bool) → (x ≡ true → y ≡ z) → (x && y) ≡ (x && z)
same_and true y z same = same refl
same_and false y z same = refl

no_and : (x y : Bool) → x ≡ false → (x && y) ≡ false
no_and x y is = rw is refl

-- boxes none of which comes near the key come near nothing under it
none_near : (boxes : List Bounds) (size n : ℕ) (top k : Key) → IsTileSize size → IsNode top → IsMeta k.meta → All (λ b. is_met b size top ≡ false) boxes → is_under n top k ≡ true → some_meets size boxes k ≡ false
none_near boxes size n top k tile node meta others under =
    list_any_none (λ b. is_met b size k) boxes (λ i d small.
    false_from_ne_true (is_met (get_or boxes i d) size k) (λ near.
    let above : is_met (get_or boxes i d) size top ≡ true = near_above (get_or boxes i d) size n top k tile node meta under near in
    let not : is_met (get_or boxes i d) size top ≡ false = others i d small in
    cc))

-- so those that come near the key are all that count
front_near : (boxes after : List Bounds) (m size n : ℕ) (top k : Key) → IsTileSize size → IsNode top → IsMeta k.meta → IsPermutation boxes after → All (λ b. is_met b size top ≡ false) (drop m after) → is_under n top k ≡ true
    → some_meets size (take m after) k ≡ some_meets size boxes k
front_near boxes after m size n top k tile node meta moved others under =
    let p : Bounds → Bool = λ b. is_met b size k in
    let none : list_any p (drop m after) ≡ false = none_near (drop m after) size n top k tile node meta others under in
    let split : list_any p after ≡ (list_any p (take m after) || list_any p (drop m after)) = ap (list_any p) (sym (take-append-drop m after)) ∙ list_any-append p (take m after) (drop m after) in
    sym (list_any-IsPermutation p boxes after moved ∙ (split ∙ (ap (λ x. list_any p (take m after) || x) none ∙ or-false (list_any p (take m after)))))

-- ---- the walk

module _ (t : NodeTable) (apart : Distinct t.entries) (tree : IsTree t.entries t.spots) (size n : ℕ) (top : Key) (mask : ℕ) (tile : IsTileSize size) (node : IsNode top) where
  -- where no box comes near the place
  pub near_none : (boxes after : List Bounds) (m : ℕ) → IsPermutation boxes after → m ≡ 0 → All (λ b. is_met b size top ≡ false) (drop m after) → Walks (near_under n size boxes top mask) t t 0
  near_none boxes after m moved is others =
      walks_none (near_under n size boxes top mask) t (none_metas t.entries t.spots apart tree (near_under n size boxes top mask) (λ k meta.
      none_and (under_bits n top mask k) (some_meets size boxes k) (λ under.
      list_any-IsPermutation (λ b. is_met b size k) boxes after moved
      ∙ none_near after size n top (place_of k) tile node meta (subst (λ (i : ℕ). All (λ b. is_met b size top ≡ false) (drop i after)) is others) (under_first _ _ under)))) tree

  -- where none of the mask is live at the place
  pub near_quiet : (boxes : List Bounds) → ((b : ℕ) → has_bit mask b ≡ true → lives_at t.spots top b ≡ false) → Walks (near_under n size boxes top mask) t t 0
  near_quiet boxes still =
      walks_none (near_under n size boxes top mask) t (each-map _ _ (shown_of t.entries) (λ s none clean. no_and (under_bits n top mask s.key) (some_meets size boxes s.key) (none clean))
      (none_under t.entries t.spots apart tree n top mask (node_on_grid top node) still)) tree

  -- what the boxes at the front come near is what all do
  pub near_front : {new : NodeTable} {count : ℕ} (boxes after front : List Bounds) (m : ℕ) → IsPermutation boxes after → front ≡ take m after → All (λ b. is_met b size top ≡ false) (drop m after)
      → Walks (near_under n size front top mask) t new count → Walks (near_under n size boxes top mask) t new count
  near_front {new} {count} boxes after front m moved is others w =
      walks_agree (near_under n size boxes top mask) (agree_metas t.entries t.spots apart tree (near_under n size front top mask) (near_under n size boxes top mask) (λ k meta.
      same_and (under_bits n top mask k) (some_meets size front k) (some_meets size boxes k) (λ under.
      ap (λ bs. some_meets size bs k) is ∙ front_near boxes after m size n top (place_of k) tile node meta moved others (under_first _ _ under)))) w

-- some box that is at the front comes near the key
pub front_some : (boxes front : List Bounds) (m size : ℕ) (top : Key) → (m ≡ 0 → ⊥) → m ≤ length boxes → front ≡ take m boxes → All (λ b. is_met b size top ≡ true) (take m boxes) → some_meets size front top ≡ true
front_some [] front m size top some few is near = absurd (some (omega (arith, few)))
front_some (b ∷ boxes) front m size top some few is near =
    ap (λ bs. some_meets size bs top) is
    ∙ list_any_at (λ c. is_met c size top) (take m (b ∷ boxes)) 0 b (omega (arith, long)) (near 0 b (omega (arith, long)))
  where
    long : 0 < length (take m (b ∷ boxes))
    long = omega (arith, length-take-le m (b ∷ boxes) few, positive m some)
      where
        positive : (i : ℕ) → (i ≡ 0 → ⊥) → 0 < i
        positive i h = elim (cases_eq i 0) [ inl e ↦ absurd (h e) | inr e ↦ omega (arith, e) ]

-- a place's own keys, which some box is near or none
pub own_near : {t new : NodeTable} {count : ℕ} (place : Key) (mask size : ℕ) (boxes : List Bounds) → some_meets size boxes place ≡ true → Walks (at_bits place mask) t new count
    → Walks (λ k. at_bits place mask k && some_meets size boxes k) t new count
own_near {t} place mask size boxes near w =
    walks_agree (λ k. at_bits place mask k && some_meets size boxes k) (each-all _ (shown_of t.entries) (λ s clean. go s.key (same_key place (place_of s.key)) (has_bit mask (bit_of s.key)) refl)) w
  where
    go : (k : Key) (x y : Bool) → same_key place (place_of k) ≡ x → (x && y) ≡ ((x && y) && some_meets size boxes k)
    go k false y other = refl
    go k true false same = refl
    go k true true same = sym (ap (some_meets size boxes) (sym (same_key-true place (place_of k) same)) ∙ near)

pub own_far : (t : NodeTable) → IsTree t.entries t.spots → (place : Key) (mask size : ℕ) (boxes : List Bounds) → some_meets size boxes place ≡ false → Walks (λ k. at_bits place mask k && some_meets size boxes k) t t 0
own_far t tree place mask size boxes far =
    walks_none (λ k. at_bits place mask k && some_meets size boxes k) t (each-all _ (shown_of t.entries) (λ s clean. none_and (at_bits place mask s.key) (some_meets size boxes s.key)
    (λ both. ap (some_meets size boxes) (sym (same_key-true place (place_of s.key) (under_first _ _ both))) ∙ far))) tree

-- the last zoom's place alone
pub near_own : {t new : NodeTable} {count : ℕ} (n size : ℕ) (boxes : List Bounds) (top : Key) (mask : ℕ) → 0 ≡ n → some_meets size boxes top ≡ true → Walks (at_bits top mask) t new count → Walks (near_under n size boxes top mask) t new count
unfolding is_under
near_own {t} {new} {count} n size boxes top mask depth near w = subst (λ d. Walks (near_under d size boxes top mask) t new count) depth (own_near top mask size boxes near w)

-- a quarter, with the boxes in another order
pub near_quarter : {t new : NodeTable} {count : ℕ} (size : ℕ) (boxes now : List Bounds) (top r : Key) (mask j : ℕ) → r ≡ child j top → IsPermutation boxes now → Walks (near_under (18 - r.meta.z) size now r mask) t new count
    → Walks (near_under (17 - top.meta.z) size boxes (child j top) mask) t new count
near_quarter {t} {new} {count} size boxes now top r mask j is moved w =
    let depth : 18 - (top.meta.z + 1) ≡ 17 - top.meta.z = omega arith in
    walks_agree (near_under (17 - top.meta.z) size boxes (child j top) mask) (each-all _ (shown_of t.entries) (λ s clean.
    ap (λ x. under_bits (17 - top.meta.z) (child j top) mask s.key && x) (sym (list_any-IsPermutation (λ b. is_met b size s.key) boxes now moved))))
    (subst (λ d. Walks (near_under d size now (child j top) mask) t new count) depth (subst (λ (x : Key). Walks (near_under (18 - x.meta.z) size now x mask) t new count) is w))

five_parts : (p q r s own has near : Bool) → ((own && has) ≡ true → near ≡ true) → ((((((p && has) && near) || ((q && has) && near)) || ((r && has) && near)) || ((s && has) && near)) || (own && has)) ≡ ((((((p || q) || r) || s) || own) && has) && near)
five_parts p q r s own false near some = grind arith
five_parts p q r s own true true some = plain p q r s own
  where
    plain : (p q r s own : Bool) → ((((((p && true) && true) || ((q && true) && true)) || ((r && true) && true)) || ((s && true) && true)) || (own && true)) ≡ ((((((p || q) || r) || s) || own) && true) && true)
    plain true q r s own = grind arith
    plain false q r s own = grind arith
five_parts p q r s true true false some = let never : false ≡ true = some refl in cc
five_parts p q r s false true false some = grind arith

-- the four quarters and the place itself
pub near_quarters : {t new : NodeTable} {count : ℕ} (size : ℕ) (boxes : List Bounds) (top : Key) (mask : ℕ) → top.meta.z < 18 → some_meets size boxes top ≡ true →
    Walks (λ k. (((near_under (17 - top.meta.z) size boxes (child 0 top) mask k || near_under (17 - top.meta.z) size boxes (child 1 top) mask k) || near_under (17 - top.meta.z) size boxes (child 2 top) mask k) || near_under (17 - top.meta.z) size boxes (child 3 top) mask k) || at_bits top mask k) t new count →
    Walks (near_under (18 - top.meta.z) size boxes top mask) t new count
unfolding is_under
near_quarters {t} {new} {count} size boxes top mask above near w =
    let depth : suc (17 - top.meta.z) ≡ 18 - top.meta.z = omega (arith, above) in
    subst (λ d. Walks (near_under d size boxes top mask) t new count) depth (walks_agree (near_under (suc (17 - top.meta.z)) size boxes top mask) (each-all _ (shown_of t.entries) (λ s clean. same s.key)) w)
  where
    own : (k : Key) → at_bits top mask k ≡ true → some_meets size boxes k ≡ true
    own k same = ap (some_meets size boxes) (sym (same_key-true top (place_of k) (under_first _ _ same))) ∙ near

    same : (k : Key) → ((((near_under (17 - top.meta.z) size boxes (child 0 top) mask k || near_under (17 - top.meta.z) size boxes (child 1 top) mask k) || near_under (17 - top.meta.z) size boxes (child 2 top) mask k) || near_under (17 - top.meta.z) size boxes (child 3 top) mask k) || at_bits top mask k)
        ≡ near_under (suc (17 - top.meta.z)) size boxes top mask k
    same k = five_parts _ _ _ _ (same_key top (place_of k)) (has_bit mask (bit_of k)) (some_meets size boxes k) (own k)

-- ---- a group

zooms : (k : Key) → IsMeta k.meta → nat_lt k.meta.z 19 ≡ true
zooms k meta = let fits = meta.z_fits in grind (arith, nat_tests)

four_parts : (p q r s has near : Bool) → (((((p && has) && near) || ((q && has) && near)) || ((r && has) && near)) || ((s && has) && near)) ≡ (((((p || q) || r) || s) && has) && near)
four_parts p q r s has near = grind arith

-- its keys of zooms 0 to 2 and those below its root
pub group_near : (group mask size : ℕ) (boxes : List Bounds) (k : Key) → IsMeta k.meta →
    ((((at_bits (world_key group 0) mask k && some_meets size boxes k) || (at_bits (world_key group 1) mask k && some_meets size boxes k)) || (at_bits (world_key group 2) mask k && some_meets size boxes k)) || near_under 15 size boxes (world_key group 3) mask k)
    ≡ ((is_of_map group (place_of k) && has_bit mask (bit_of k)) && is_near_zooms size boxes k)
group_near group mask size boxes k meta =
    four_parts (same_key (world_key group 0) (place_of k)) (same_key (world_key group 1) (place_of k)) (same_key (world_key group 2) (place_of k)) (is_under 15 (world_key group 3) (place_of k)) (has_bit mask (bit_of k)) (some_meets size boxes k)
    ∙ ap₂ (λ x y. (x && has_bit mask (bit_of k)) && (y && some_meets size boxes k)) (map_agrees group (place_of k) meta) (sym (zooms k meta))

-- a test at a place of one of the first zooms, by margin and square that are told by equations
pub some_told : (boxes : List Bounds) (size group z margin : ℕ) (key : Key) (s : Square) (answer : Bool) → margin ≡ margin_of size z → key ≡ world_key group z → s ≡ meta_square key.meta → answer ≡ list_any (λ b. comes_near b margin s) boxes
    → some_meets size boxes (world_key group z) ≡ answer
some_told boxes size group z margin key s answer wide is square told =
    ap₂ (λ (x : ℕ) (y : Square). list_any (λ b. comes_near b x y) boxes) (sym wide) (sym (square ∙ ap (λ (k : Key). meta_square k.meta) is)) ∙ sym told
