-- The places of the table settled one after another, which makes all that is shown dirty.
use Rattle.std.proofs.Common.{◌≡◌, ℕ, zero, suc, ◌+◌, ◌<◌, ◌≤◌, ◌-◌, ◌^◌, Bool, true, false, ◌&&◌, ◌||◌, List, [], ◌∷◌, ◌++◌, length, take, get_or, Some, is_some, refl, sym, ap, ◌∙◌, subst, arith}
use Rattle.std.specs.Prelude.{nat_lt, position, slice_get}
use Rattle.std.specs.List.{AllByRecursion, IsDistinct, position_or_len}
use Rattle.std.specs.Map.{keys_of, lookup}
use Rattle.std.proofs.lemmas.List.{take_all, take_more}
use Rattle.std.proofs.lemmas.Map.Entries.{length-keys_of}
use Rattle.std.proofs.lemmas.Option.{slice_get-get_or}
use Rattle.std.proofs.lemmas.Bool.Decides.{nat_tests}
use Rattle.farm_history.specs.declared.keys.Key.{Key}
use Rattle.farm_history.specs.Plans.{same_key}
use Rattle.farm_history.proofs.Lists.{each-map, each-all, any-append, same_key-self, same_key-sym}
use Rattle.farm_history.proofs.Since.{in_list}
use Rattle.expiry_lists.specs.inner.Nodes.{NodeTable, node_of, place_of, bit_of, has_bit, at_bits, shown_of, IsTree}
use Rattle.expiry_lists.specs.inner.Tiles.{is_one_of}
use Rattle.expiry_lists.specs.inner.Walks.{Walks}
use Rattle.expiry_lists.proofs.Bits.{all_bits}
use Rattle.expiry_lists.proofs.Boxed.{one_there}
use Rattle.expiry_lists.proofs.Finding.{Distinct, Marked, all_marked, marked_there}
use Rattle.expiry_lists.proofs.Placing.{key_at_place}
use Rattle.expiry_lists.proofs.Walked.{walks_then, walks_agree, walks_none}

-- what stands at a place of a list whose keys are apart is found there
other_first : (e k : Key) (ks : List Key) (i : ℕ) → AllByRecursion (λ y. same_key e y ≡ false) ks → slice_get ks i ≡ Some k → same_key k e ≡ false
other_first e k [] i apart at = cc
other_first e k (x ∷ ks) zero apart at = let same : x ≡ k = cc in same_key-sym k e ∙ subst (λ (y : Key). same_key e y ≡ false) same apart.0
other_first e k (x ∷ ks) (suc i) apart at = other_first e k ks i apart.1 at

pub value_at : {X : Type 0} (es : List (Key × X)) (i : ℕ) (k : Key) (v : X) → IsDistinct same_key (keys_of es) → slice_get es i ≡ Some (k, v) → lookup (same_key k) es ≡ Some v
unfolding IsDistinct
value_at [] i k v apart at = cc
value_at {X} (e ∷ es) zero k v apart at = let same : e ≡ (k, v) = cc in rw same (rw (same_key-self k) refl)
value_at {X} (e ∷ es) (suc i) k v apart at = rw (other_first e.0 k (keys_of es) i apart.0 (key_at_place es i k v at)) (value_at es i k v apart.1 at)

first_at : (ks : List Key) (i : ℕ) (k : Key) → IsDistinct same_key ks → slice_get ks i ≡ Some k → position_or_len (same_key k) ks ≡ i
unfolding IsDistinct
first_at [] i k apart at = cc
first_at (x ∷ ks) zero k apart at = let same : x ≡ k = cc in rw same (rw (same_key-self k) refl)
first_at (x ∷ ks) (suc i) k apart at = rw (other_first x k ks i apart.0 at) (omega (arith, first_at ks i k apart.1 at))

pub place_at : {X : Type 0} (es : List (Key × X)) (i : ℕ) (k : Key) (v : X) → IsDistinct same_key (keys_of es) → slice_get es i ≡ Some (k, v) → position (same_key k) (keys_of es) ≡ Some i
place_at es i k v apart at =
    let here = key_at_place es i k v at in
    let is : position_or_len (same_key k) (keys_of es) ≡ i = first_at (keys_of es) i k apart here in
    let within : nat_lt i (length (keys_of es)) ≡ true = less (in_list (keys_of es) i k here) in
    rw is (rw within refl)
  where
    less : {a b : ℕ} → a < b → nat_lt a b ≡ true
    less low = grind (arith, nat_tests, low)

-- no place, and one place after others
pub walks_no_place : (a : NodeTable) → IsTree a.entries a.spots → Walks (λ k. is_one_of [] (place_of k)) a a 0
walks_no_place a tree = walks_none _ a (each-all _ (shown_of a.entries) (λ s clean. refl)) tree

pub walks_place : (places now : List Key) (i : ℕ) (place : Key) {a b c : NodeTable} {m n : ℕ} → now ≡ places → i < length places → slice_get now i ≡ Some place →
    Walks (λ k. is_one_of (take i places) (place_of k)) a b m → Walks (at_bits place (2 ^ 64 - 1)) b c n → Walks (λ k. is_one_of (take (i + 1) places) (place_of k)) a c (m + n)
walks_place places now i place {a} {b} {c} {m} {n} same within at first second =
    walks_agree (λ k. is_one_of (take (i + 1) places) (place_of k)) (each-all _ (shown_of a.entries) (λ s clean. both s.key)) (walks_then first second)
  where
    own : get_or places i place ≡ place
    own = let there : Some (get_or places i place) ≡ Some place = sym (slice_get-get_or places i place within) ∙ (ap (λ ks. slice_get ks i) (sym same) ∙ at) in cc

    more : (p : Key) → is_one_of (take (i + 1) places) p ≡ (is_one_of (take i places) p || (same_key place p || false))
    more p =
        ap (λ ks. is_one_of ks p) (take_more places i place within ∙ ap (λ x. take i places ++ x ∷ []) own)
        ∙ any-append (λ x. same_key x p) (take i places) (place ∷ [])

    whole : (x y : Bool) → y ≡ true → (x && y) ≡ (x || false)
    whole true y all = all
    whole false y all = refl

    both : (k : Key) → (is_one_of (take i places) (place_of k) || at_bits place (2 ^ 64 - 1) k) ≡ is_one_of (take (i + 1) places) (place_of k)
    both k = ap (λ x. is_one_of (take i places) (place_of k) || x) (whole (same_key place (place_of k)) (has_bit (2 ^ 64 - 1) (bit_of k)) (all_bits (bit_of k) (omega arith))) ∙ sym (more (place_of k))

-- so an expiry of all places is that of all that is shown
pub walks_places : (a b : NodeTable) (i n : ℕ) → Distinct a.entries → IsTree a.entries a.spots → length a.spots ≤ i → Walks (λ k. is_one_of (take i (keys_of a.spots)) (place_of k)) a b n → Walks (λ k. true) a b n
walks_places a b i n apart tree all w =
    walks_agree (λ k. true) (each-map (Marked a.entries) _ (shown_of a.entries) (λ s is clean. listed s.key (tree.spotted s.key (marked_there (node_of a.entries s.key) s.mark is))) (all_marked a.entries apart)) w
  where
    listed : (k : Key) → is_some (lookup (same_key (place_of k)) a.spots) ≡ true → is_one_of (take i (keys_of a.spots)) (place_of k) ≡ true
    listed k there = ap (λ ks. is_one_of ks (place_of k)) (take_all i (keys_of a.spots) (omega (arith, length-keys_of a.spots, all))) ∙ one_there a.spots (place_of k) there
