-- Spots on the way from a group's root to a place, one after another.
use Rattle.std.proofs.Common.{◌≡◌, ℕ, ◌<◌, ◌^◌, ◌==◌, true, false, ◌&&◌, [], ◌∷◌, ◌++◌, Some, None, is_some, refl, sym, ap, ◌∙◌, subst, inl, inr}
use Rattle.std.specs.Prelude.{bit_and, bit_or}
use Rattle.std.specs.Map.{set_value}
use Rattle.std.proofs.lemmas.Bool.{and_parts, eqb-true, or_cases, or_left, or_right}
use Rattle.farm_history.specs.declared.keys.Key.{Key}
use Rattle.farm_history.specs.Plans.{same_key}
use Rattle.plain_world.specs.World.{IsMeta}
use Rattle.expiry_lists.specs.declared.table.Spot.{Spot}
use Rattle.expiry_lists.specs.inner.Nodes.{NodeTable, parent, place_of, bit_of, has_bit, is_clean_at, spot_of, has_spot, own_word, live_word, owns_at, lives_at, IsTree}
use Rattle.expiry_lists.specs.inner.Waking.{Wakes}
use Rattle.expiry_lists.proofs.Bits.{or_bit, whole_met, no_bit}
use Rattle.expiry_lists.proofs.Writing.{FitsSpot, Writes, set-writes, add-writes, spot_tree, still_there, written_at, written_here}

-- a spot that is written and fits wakes its place
pub wakes_by : (a b : NodeTable) (place : Key) (mask : ℕ) (w : Spot) → Writes a.spots place w b.spots → FitsSpot a.entries a.spots place w → b.entries ≡ a.entries → b.room ≡ a.room → ((x : ℕ) → has_bit mask x ≡ true → has_bit w.live x ≡ true) → IsTree a.entries a.spots → Wakes place mask a b
wakes_by a b place mask w writes fits entries room covers tree = record {
  entries = entries;
  tree = subst (λ es. IsTree es b.spots) (sym entries) (spot_tree a.entries a.spots b.spots place w writes fits tree);
  woken = ap is_some (written_here a.spots b.spots place w writes);
  lives = λ x has. ap (λ o. has_bit (live_word o) x) (written_here a.spots b.spots place w writes) ∙ covers x has;
  still_there = still_there a.spots b.spots place w writes;
  of_group = λ p there. written_at a.spots b.spots place w writes p (λ o. is_some o ≡ true) there (λ own here. inr (ap (λ (x : Key). x.map) (sym own))) (λ was. inl was);
  room = room;
}

-- the spot with more live bits, and a new one
abbrev live_more : Spot → ℕ → Spot
live_more s mask = record { own = s.own; live = bit_or s.live mask }

abbrev live_new : ℕ → Spot
live_new mask = record { own = 0; live = mask }

module _ (a : NodeTable) (place : Key) (mask : ℕ) (tree : IsTree a.entries a.spots) (meta : IsMeta place.meta) (group : place.map < 2 ^ 26) (rooted : 3 < place.meta.z → has_spot a.spots (parent place) ≡ true)
    (above : (x : ℕ) → 3 < place.meta.z → has_bit mask x ≡ true → lives_at a.spots (parent place) x ≡ true) where
  -- a place that has a spot
  pub wakes_there : (b : NodeTable) (s : Spot) → spot_of a.spots place ≡ Some s → b.spots ≡ set_value (same_key place) a.spots (record s { live = bit_or s.live mask }) → b.entries ≡ a.entries → b.room ≡ a.room → Wakes place mask a b
  wakes_there b s found spots entries room =
      wakes_by a b place mask (live_more s mask) (subst (λ ss. Writes a.spots place (live_more s mask) ss) (sym spots) (set-writes a.spots place (live_more s mask) (ap is_some found))) fits entries room (λ x has. or_bit s.live mask x ∙ or_right (has_bit s.live x) (has_bit mask x) has) tree
    where
      was : (x : ℕ) → has_bit s.live x ≡ true → has_bit (bit_or s.live mask) x ≡ true
      was x has = or_bit s.live mask x ∙ or_left (has_bit s.live x) (has_bit mask x) has

      lives : (x : ℕ) → lives_at a.spots place x ≡ has_bit s.live x
      lives x = ap (λ o. has_bit (live_word o) x) found

      up : (x : ℕ) → 3 < place.meta.z → has_bit (bit_or s.live mask) x ≡ true → lives_at a.spots (parent place) x ≡ true
      up x deep has = elim (or_cases (has_bit s.live x) (has_bit mask x) (sym (or_bit s.live mask x) ∙ has)) [
        | inl old ↦ tree.rises place x deep (lives x ∙ old)
        | inr new ↦ above x deep new
      ]

      fits : FitsSpot a.entries a.spots place (live_more s mask)
      fits = record {
        meta = meta;
        group = group;
        rooted = rooted;
        own = λ k at clean. sym (ap (λ o. has_bit (own_word o) (bit_of k)) found) ∙ subst (λ (x : Key). owns_at a.spots x (bit_of k) ≡ true) (sym at) (tree.own k clean);
        clean_live = λ k at deep clean. was (bit_of k) (sym (lives (bit_of k)) ∙ subst (λ (x : Key). lives_at a.spots x (bit_of k) ≡ true) (sym at) (tree.clean_live k deep clean));
        live_above = up;
        live_below = λ q x deep live at. was x (sym (lives x) ∙ subst (λ (y : Key). lives_at a.spots y x ≡ true) (sym at) (tree.rises q x deep live));
      }

  -- and one that has none
  pub wakes_new : (b : NodeTable) → spot_of a.spots place ≡ None → b.spots ≡ a.spots ++ (place, record { own = 0; live = mask }) ∷ [] → b.entries ≡ a.entries → b.room ≡ a.room → Wakes place mask a b
  wakes_new b gone spots entries room =
      wakes_by a b place mask (live_new mask) (subst (λ ss. Writes a.spots place (live_new mask) ss) (sym spots) (add-writes a.spots place (live_new mask) gone)) fits entries room (λ x has. has) tree
    where
      none_own : (k : Key) → place ≡ place_of k → is_clean_at a.entries k ≡ true → false ≡ true
      none_own k at clean =
          sym (ap (λ o. has_bit (own_word o) (bit_of k)) gone ∙ no_bit (bit_of k)) ∙ subst (λ (x : Key). owns_at a.spots x (bit_of k) ≡ true) (sym at) (tree.own k clean)

      none_live : (q : Key) (x : ℕ) → 3 < q.meta.z → lives_at a.spots q x ≡ true → place ≡ parent q → false ≡ true
      none_live q x deep live at = sym (ap (λ o. has_bit (live_word o) x) gone ∙ no_bit x) ∙ subst (λ (y : Key). lives_at a.spots y x ≡ true) (sym at) (tree.rises q x deep live)

      fits : FitsSpot a.entries a.spots place (live_new mask)
      fits = record {
        meta = meta;
        group = group;
        rooted = rooted;
        own = λ k at clean. let never : false ≡ true = none_own k at clean in cc;
        clean_live = λ k at deep clean. let never : false ≡ true = none_own k at clean in cc;
        live_above = λ x deep has. above x deep has;
        live_below = λ q x deep live at. let never : false ≡ true = none_live q x deep live at in cc;
      }

-- a place that is awake already, and one after the one above it
pub wakes_same : (a : NodeTable) (place : Key) (mask : ℕ) → IsTree a.entries a.spots → (has_spot a.spots place && (bit_and (live_word (spot_of a.spots place)) mask == mask)) ≡ true → Wakes place mask a a
wakes_same a place mask tree awake =
    let parts = and_parts (has_spot a.spots place) (bit_and (live_word (spot_of a.spots place)) mask == mask) awake in
    record {
      entries = refl;
      tree = tree;
      woken = parts.0;
      lives = λ x has. whole_met (live_word (spot_of a.spots place)) mask x (eqb-true (bit_and (live_word (spot_of a.spots place)) mask) mask parts.1) has;
      still_there = λ p there. there;
      of_group = λ p there. inl there;
      room = refl;
    }

pub wakes_then : {a b c : NodeTable} (up place : Key) (mask : ℕ) → up.map ≡ place.map → Wakes up mask a b → Wakes place mask b c → Wakes place mask a c
wakes_then {a} {b} {c} up place mask same first second = record {
  entries = second.entries ∙ first.entries;
  tree = second.tree;
  woken = second.woken;
  lives = second.lives;
  still_there = λ p there. second.still_there p (first.still_there p there);
  of_group = λ p there. elim (second.of_group p there) [
    | inl before ↦ elim (first.of_group p before) [ inl was ↦ inl was | inr own ↦ inr (own ∙ same) ]
    | inr own ↦ inr own
  ];
  room = second.room ∙ first.room;
}
