-- Expiries of what boxes reach, one after another.
use Rattle.std.proofs.Common.{◌≡◌, ℕ, zero, suc, ◌+◌, ◌*◌, ◌%◌, ◌^◌, ◌<◌, ◌≤◌, min, Bool, true, false, ◌||◌, ◌&&◌, ◌==◌, nat_lt, List, length, slice_get, Option, Some, None, refl, sym, ap, ap₂, ◌∙◌, subst, ◌⊎◌, arith}
use Rattle.std.specs.Int.{bit_at}
use Rattle.std.specs.Prelude.{All, IfSome, IsPermutation, bit_or}
use Rattle.std.specs.List.{list_any}
use Rattle.std.proofs.lemmas.Bool.{eqb-true}
use Rattle.std.proofs.lemmas.Bool.Decides.{nat_tests}
use Rattle.std.proofs.lemmas.List.Sorted.{list_any-IsPermutation}
use Rattle.std.proofs.lemmas.Nat.{pow_below}
use Rattle.std.proofs.Math.Nat.{pow-le-pow_right}
use Rattle.std.proofs.lemmas.Option.{slice_get_past}
use Rattle.std.proofs.Math.Bool.{or-false, and-or_distrib_right}
use Rattle.farm_history.specs.declared.keys.Key.{Key}
use Rattle.farm_history.proofs.Lists.{each-all}
use Rattle.geo_model.specs.declared.bounds.Bounds.{Bounds}
use Rattle.expiry_lists.specs.Marks.{Shown, dirtied_marks, clean_marks, is_met, is_near_bits, is_of_bits}
use Rattle.expiry_lists.proofs.Dirtying.{dirties_none, dirtied_marks-dirtied_marks, clean_marks-dirtied_marks}
use Rattle.expiry_lists.proofs.Bits.{no_bit, or_bit}
use Rattle.expiry_lists.proofs.Tiles.{one_bit}
use Rattle.plain_world.specs.World.{IsTileSize}
use Rattle.plain_world.specs.declared.world.Meta.{Meta}
use Rattle.farm_plan.specs.Plans.{MapPlan, IsMapPlan}
use Rattle.farm_plan.proofs.Spots.{all_at}
use Rattle.reach_box.specs.inner.Sizes.{has_size}
use Rattle.reach_box.specs.NamedBoxes.{boxes_reach_map}
use Rattle.reach_box.specs.Marks.{is_reached, most_told, Expires}

-- nothing is expired by a test that no key passes
pub expires_none : (test : Key → Bool) (a : List Shown) → ((k : Key) → test k ≡ false) → Expires test a a 0
expires_none test a none =
    let s = dirties_none test a (each-all (λ (x : Shown). x.mark.clean ≡ true → test x.key ≡ false) a (λ x clean. none x.key)) in
    record { shown = s.marks; count_is = omega (arith, s.counted) }

-- one expiry after another, of the keys that pass a test which says the same as both
pub expires_then : (p q both : Key → Bool) (a b c : List Shown) (m n total : ℕ) → ((k : Key) → (p k || q k) ≡ both k) → Expires p a b m → Expires q b c n → total ≡ min (m + n) most_told → Expires both a c total
expires_then p q both a b c m n total same x y is = subst (λ t. Expires t a c total) (λ i k. same k i) (record {
  shown = y.shown ∙ (ap (dirtied_marks q) x.shown ∙ dirtied_marks-dirtied_marks p q a);
  count_is =
      let add = clean_marks-dirtied_marks p q a in
      let later = ap (clean_marks q) x.shown in
      let first = x.count_is in
      let second = y.count_is in
      omega (arith, add, later, first, second, is);
})

-- a count that is told in full
pub expires_told : (test : Key → Bool) (a b : List Shown) (n : ℕ) → n < 2 ^ 64 → b ≡ dirtied_marks test a → n ≡ clean_marks test a → Expires test a b n
expires_told test a b n fits shown count = record { shown = shown; count_is = omega (arith, fits, count) }

-- what boxes reach of the maps of a word, told of them in another order
pub near_told : (word size : ℕ) (boxes now : List Bounds) (a b : List Shown) (n : ℕ) → IsPermutation boxes now → n < 2 ^ 64 → b ≡ dirtied_marks (is_near_bits word size now) a → n ≡ clean_marks (is_near_bits word size now) a
    → Expires (is_near_bits word size boxes) a b n
near_told word size boxes now a b n moved fits shown count =
    subst (λ t. Expires t a b n) (λ i k. same k i) (expires_told (is_near_bits word size now) a b n fits shown count)
  where
    same : (k : Key) → is_near_bits word size now k ≡ is_near_bits word size boxes k
    same k = ap (λ x. is_of_bits word k && (nat_lt k.meta.z 19 && x)) (sym (list_any-IsPermutation (λ b. is_met b size k) boxes now moved))

-- ---- words

pub bit_there : (place m : ℕ) → place < 64 → (bit_at (1 * 2 ^ place % 2 ^ 64) m == 1) ≡ (true && (m == place))
bit_there place m few = one_bit place m few

pub bit_gone : (place m : ℕ) → (bit_at 0 m == 1) ≡ (false && (m == place))
bit_gone place m = no_bit m

-- the maps before this place that have the size
abbrev pub sized_below : List MapPlan → ℕ → ℕ → ℕ → Bool
sized_below maps size i m = nat_lt m i && has_size (slice_get maps m) size

pub no_sized : (maps : List MapPlan) (size m : ℕ) → (bit_at 0 m == 1) ≡ sized_below maps size 0 m
no_sized maps size m = no_bit m ∙ go m (has_size (slice_get maps m) size)
  where
    go : (n : ℕ) (r : Bool) → false ≡ (nat_lt n 0 && r)
    go n r = grind (arith, nat_tests)

map_here : (r : Bool) (km i : ℕ) → km ≡ i → ((nat_lt km i && r) || (r && (km == i))) ≡ (nat_lt km (i + 1) && r)
map_here r km i same = grind (arith, nat_tests)

map_other : (r t : Bool) (km i : ℕ) → (km == i) ≡ false → ((nat_lt km i && r) || (t && (km == i))) ≡ (nat_lt km (i + 1) && r)
map_other r t km i differs = grind (arith, nat_tests)

pub sized_more : (maps : List MapPlan) (size i : ℕ) (mp : MapPlan) (word bit : ℕ) (there : Bool) → slice_get maps i ≡ Some mp → there ≡ (mp.tile == size) → ((m : ℕ) → (bit_at word m == 1) ≡ sized_below maps size i m) → ((m : ℕ) → (bit_at bit m == 1) ≡ (there && (m == i)))
    → (m : ℕ) → (bit_at (bit_or word bit) m == 1) ≡ sized_below maps size (i + 1) m
sized_more maps size i mp word bit there at is before own m = or_bit word bit m ∙ (ap₂ (λ x y. x || y) (before m) (own m) ∙ go (m == i) refl)
  where
    go : (b : Bool) → (m == i) ≡ b → (sized_below maps size i m || (there && (m == i))) ≡ sized_below maps size (i + 1) m
    go true e =
        let same : m ≡ i = eqb-true m i e in
        let size_is : there ≡ has_size (slice_get maps m) size = is ∙ (ap (λ o. has_size o size) (sym at) ∙ ap (λ n. has_size (slice_get maps n) size) (sym same)) in
        ap (λ x. sized_below maps size i m || (x && (m == i))) size_is ∙ map_here (has_size (slice_get maps m) size) m i same
    go false e = map_other (has_size (slice_get maps m) size) there m i e

pub sized_all : (maps : List MapPlan) (size i word : ℕ) → length maps ≤ i → ((m : ℕ) → (bit_at word m == 1) ≡ sized_below maps size i m) → (m : ℕ) → (bit_at word m == 1) ≡ has_size (slice_get maps m) size
sized_all maps size i word all told m = told m ∙ past (nat_lt m i) (slice_get maps m) (λ h. slice_get_past maps m (beyond m h))
  where
    past : (b : Bool) (o : Option MapPlan) → (b ≡ false → o ≡ None) → (b && has_size o size) ≡ has_size o size
    past true o none = refl
    past false o none = sym (ap (λ p. has_size p size) (none refl))

    beyond : (km : ℕ) → nat_lt km i ≡ false → length maps ≤ km
    beyond km h = grind (arith, nat_tests)

-- ---- sizes

-- what the boxes reach of the maps whose tiles are smaller
abbrev pub is_smaller : Option MapPlan → ℕ → Bool
is_smaller None size = false
is_smaller (Some mp) size = nat_lt mp.tile size

abbrev pub below_size : List MapPlan → List Bounds → ℕ → Key → Bool
below_size maps boxes i k = is_smaller (slice_get maps k.map) (16 * 2 ^ i) && is_reached maps boxes k

size_cases : (n : ℕ) → IsTileSize n → (n ≡ 16) ⊎ ((n ≡ 32) ⊎ ((n ≡ 64) ⊎ ((n ≡ 128) ⊎ ((n ≡ 256) ⊎ (n ≡ 512)))))
size_cases n tile = grind (arith, nat_tests)

-- a size is the next one, or lies before it or behind it
size_step : (n i : ℕ) → IsTileSize n → i < 6 → (nat_lt n (16 * 2 ^ i) || (n == 16 * 2 ^ i)) ≡ nat_lt n (16 * 2 ^ (i + 1))
size_step n zero tile few = grind (arith, nat_tests, size_cases n tile)
size_step n (suc zero) tile few = grind (arith, nat_tests, size_cases n tile)
size_step n (suc (suc zero)) tile few = grind (arith, nat_tests, size_cases n tile)
size_step n (suc (suc (suc zero))) tile few = grind (arith, nat_tests, size_cases n tile)
size_step n (suc (suc (suc (suc zero)))) tile few = grind (arith, nat_tests, size_cases n tile)
size_step n (suc (suc (suc (suc (suc zero))))) tile few = grind (arith, nat_tests, size_cases n tile)
size_step n (suc (suc (suc (suc (suc (suc i)))))) tile few = absurd (omega (arith, few))

pub size_at : (i : ℕ) → i < 6 → IsTileSize (16 * 2 ^ i % 2 ^ 32)
size_at zero few = refl
size_at (suc zero) few = refl
size_at (suc (suc zero)) few = refl
size_at (suc (suc (suc zero))) few = refl
size_at (suc (suc (suc (suc zero)))) few = refl
size_at (suc (suc (suc (suc (suc zero))))) few = refl
size_at (suc (suc (suc (suc (suc (suc i)))))) few = absurd (omega (arith, few))

pub size_whole : (i : ℕ) → i < 6 → 16 * 2 ^ i % 2 ^ 32 ≡ 16 * 2 ^ i
size_whole i few = let p : 2 ^ i < 2 ^ 6 = pow_below i 6 few in omega (arith, p)

none_smaller : (o : Option MapPlan) → IfSome o (λ mp. IsTileSize mp.tile) → is_smaller o 16 ≡ false
none_smaller None tile = refl
none_smaller (Some mp) tile = grind (arith, nat_tests, size_cases mp.tile tile)

all_smaller : (o : Option MapPlan) (m : ℕ) (boxes : List Bounds) (meta : Meta) (z : Bool) → IfSome o (λ mp. IsTileSize mp.tile) → 1024 ≤ m → (is_smaller o m && (z && boxes_reach_map boxes o meta)) ≡ (z && boxes_reach_map boxes o meta)
all_smaller None m boxes meta true tile large = refl
all_smaller None m boxes meta false tile large = refl
all_smaller (Some mp) m boxes meta z tile large = let small : nat_lt mp.tile m ≡ true = grind (arith, nat_tests, size_cases mp.tile tile) in rw small refl

module _ (maps : List MapPlan) (boxes : List Bounds) (few : length maps ≤ 16) (plans : All IsMapPlan maps) where
  tiles : (m : ℕ) → IfSome (slice_get maps m) (λ mp. IsTileSize mp.tile)
  tiles m = go (slice_get maps m) refl
    where
      go : (o : Option MapPlan) → slice_get maps m ≡ o → IfSome o (λ mp. IsTileSize mp.tile)
      go None at = tt
      go (Some mp) at = (all_at IsMapPlan maps m mp plans at).sized

  pub no_size : (k : Key) → below_size maps boxes 0 k ≡ false
  no_size k = ap (λ x. x && is_reached maps boxes k) (none_smaller (slice_get maps k.map) (tiles k.map))

  pub all_sizes : {old new : List Shown} {n : ℕ} (i : ℕ) → 6 ≤ i → Expires (below_size maps boxes i) old new n → Expires (is_reached maps boxes) old new n
  all_sizes {old} {new} {n} i all x = subst (λ t. Expires t old new n) (λ j k. same k j) x
    where
      large : 1024 ≤ 16 * 2 ^ i
      large = let p : 2 ^ 6 ≤ 2 ^ i = pow-le-pow_right (omega arith) all in omega (arith, p)

      same : (k : Key) → below_size maps boxes i k ≡ is_reached maps boxes k
      same k = all_smaller (slice_get maps k.map) (16 * 2 ^ i) boxes k.meta (nat_lt k.meta.z 19) (tiles k.map) large

  pub size_more : (i word size : ℕ) (old before after : List Shown) (m n total : ℕ) → i < 6 → size ≡ 16 * 2 ^ i → ((p : ℕ) → (bit_at word p == 1) ≡ has_size (slice_get maps p) size) → Expires (is_near_bits word size boxes) before after n → total ≡ min (m + n) most_told →
      Expires (below_size maps boxes i) old before m → Expires (below_size maps boxes (i + 1)) old after total
  size_more i word size old before after m n total low is told y sum x =
      expires_then (below_size maps boxes i) (is_near_bits word size boxes) (below_size maps boxes (i + 1)) old before after m n total same x y sum
    where
      within : (k : Key) → is_of_bits word k ≡ has_size (slice_get maps k.map) size
      within k = go (nat_lt k.map 64) refl
        where
          go : (b : Bool) → nat_lt k.map 64 ≡ b → (b && (bit_at word k.map == 1)) ≡ has_size (slice_get maps k.map) size
          go true small = told k.map
          go false large = sym (ap (λ o. has_size o size) (slice_get_past maps k.map (beyond k.map large)))
            where
              beyond : (km : ℕ) → nat_lt km 64 ≡ false → length maps ≤ km
              beyond km h = grind (arith, nat_tests, few)

      both : (o : Option MapPlan) (k : Key) (z : Bool) → IfSome o (λ mp. IsTileSize mp.tile) → ((is_smaller o (16 * 2 ^ i) && (z && boxes_reach_map boxes o k.meta)) || (has_size o size && (z && list_any (λ b. is_met b size k) boxes))) ≡ (is_smaller o (16 * 2 ^ (i + 1)) && (z && boxes_reach_map boxes o k.meta))
      both None k z tile = refl
      both (Some mp) k z tile = go (mp.tile == size) refl
        where
          step : (nat_lt mp.tile (16 * 2 ^ i) || (mp.tile == size)) ≡ nat_lt mp.tile (16 * 2 ^ (i + 1))
          step = ap (λ s. nat_lt mp.tile (16 * 2 ^ i) || (mp.tile == s)) is ∙ size_step mp.tile i tile low

          go : (b : Bool) → (mp.tile == size) ≡ b → ((nat_lt mp.tile (16 * 2 ^ i) && (z && boxes_reach_map boxes (Some mp) k.meta)) || (b && (z && list_any (λ x. is_met x size k) boxes))) ≡ (nat_lt mp.tile (16 * 2 ^ (i + 1)) && (z && boxes_reach_map boxes (Some mp) k.meta))
          go true e =
              let own : mp.tile ≡ size = eqb-true mp.tile size e in
              ap (λ n. (nat_lt mp.tile (16 * 2 ^ i) && (z && boxes_reach_map boxes (Some mp) k.meta)) || (true && (z && list_any (λ x. is_met x n k) boxes))) (sym own)
              ∙ (sym (and-or_distrib_right (nat_lt mp.tile (16 * 2 ^ i)) true (z && boxes_reach_map boxes (Some mp) k.meta))
              ∙ ap (λ x. x && (z && boxes_reach_map boxes (Some mp) k.meta)) (ap (λ x. nat_lt mp.tile (16 * 2 ^ i) || x) (sym e) ∙ step))
          go false e = or-false (nat_lt mp.tile (16 * 2 ^ i) && (z && boxes_reach_map boxes (Some mp) k.meta)) ∙ ap (λ x. x && (z && boxes_reach_map boxes (Some mp) k.meta)) (sym (or-false (nat_lt mp.tile (16 * 2 ^ i))) ∙ (ap (λ x. nat_lt mp.tile (16 * 2 ^ i) || x) (sym e) ∙ step))

      same : (k : Key) → (below_size maps boxes i k || is_near_bits word size boxes k) ≡ below_size maps boxes (i + 1) k
      same k = ap (λ x. below_size maps boxes i k || (x && (nat_lt k.meta.z 19 && list_any (λ b. is_met b size k) boxes))) (within k) ∙ both (slice_get maps k.map) k (nat_lt k.meta.z 19) (tiles k.map)
