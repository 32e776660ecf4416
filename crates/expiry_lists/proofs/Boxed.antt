-- Expiries of the table's keys one after another, as far as they are in a box.
use Rattle.std.proofs.Common.{◌≡◌, ℕ, zero, suc, ◌+◌, ◌<◌, ◌≤◌, Bool, true, false, ◌&&◌, ◌||◌, ◌==◌, cond, List, [], ◌∷◌, ◌++◌, length, take, get_or, Some, is_some, refl, sym, ap, ◌∙◌, subst, arith}
use Rattle.std.specs.Prelude.{slice_get}
use Rattle.std.specs.Map.{keys_of, lookup}
use Rattle.std.proofs.lemmas.Bool.{and_from, and_parts, eqb-true, eq-eqb}
use Rattle.std.proofs.lemmas.List.{take_all, take_more}
use Rattle.std.proofs.lemmas.Map.Entries.{length-keys_of}
use Rattle.std.proofs.lemmas.Option.{slice_get-get_or}
use Rattle.farm_history.specs.declared.keys.Key.{Key}
use Rattle.farm_history.specs.Plans.{same_key}
use Rattle.farm_history.proofs.Lists.{each-map, each-all, any-append, same_key-true, same_key-self, same_key-sym}
use Rattle.geo_model.specs.declared.bounds.Bounds.{Bounds}
use Rattle.plain_world.specs.World.{meta_square}
use Rattle.expiry_lists.specs.Boxes.{comes_near}
use Rattle.expiry_lists.specs.Marks.{is_in_box, InBox}
use Rattle.expiry_lists.specs.inner.Nodes.{Node, NodeTable, node_of, has_node, shown_of, IsTree}
use Rattle.expiry_lists.specs.inner.Tiles.{is_one_of}
use Rattle.expiry_lists.specs.inner.Walks.{Walks}
use Rattle.expiry_lists.proofs.BoxLaws.{holds_at, holds_from}
use Rattle.expiry_lists.proofs.Finding.{Distinct, Marked, all_marked, marked_there}
use Rattle.expiry_lists.proofs.Walked.{walks_then, walks_agree, walks_none}

-- a test beside a key's own, where the key passes it and where it does not
passed : (test : Key → Bool) (key k : Key) → test key ≡ true → same_key key k ≡ (same_key key k && test k)
passed test key k own = go (same_key key k) refl
  where
    go : (b : Bool) → same_key key k ≡ b → b ≡ (b && test k)
    go true same = sym own ∙ ap test (same_key-true key k same)
    go false other = refl

failed : (test : Key → Bool) (key k : Key) → test key ≡ false → (same_key key k && test k) ≡ false
failed test key k own = go (same_key key k) refl
  where
    go : (b : Bool) → same_key key k ≡ b → (b && test k) ≡ false
    go true same = sym (ap test (same_key-true key k same)) ∙ own
    go false other = refl

pub walks_passed : (test : Key → Bool) (key : Key) {a b : NodeTable} {n : ℕ} → test key ≡ true → Walks (same_key key) a b n → Walks (λ k. same_key key k && test k) a b n
walks_passed test key {a} own w = walks_agree (λ k. same_key key k && test k) (each-all _ (shown_of a.entries) (λ s clean. passed test key s.key own)) w

pub walks_failed : (test : Key → Bool) (key : Key) (a : NodeTable) → test key ≡ false → IsTree a.entries a.spots → Walks (λ k. same_key key k && test k) a a 0
walks_failed test key a own tree = walks_none _ a (each-all _ (shown_of a.entries) (λ s clean. failed test key s.key own)) tree

-- no key, and one key after others
pub walks_no_key : (test : Key → Bool) (a : NodeTable) → IsTree a.entries a.spots → Walks (λ k. is_one_of [] k && test k) a a 0
walks_no_key test a tree = walks_none _ a (each-all _ (shown_of a.entries) (λ s clean. refl)) tree

one_more : (x y o : Bool) → ((x && o) || (y && o)) ≡ ((x || (y || false)) && o)
one_more true true true = refl
one_more true true false = refl
one_more true false true = refl
one_more true false false = refl
one_more false true true = refl
one_more false true false = refl
one_more false false true = refl
one_more false false false = refl

pub walks_key : (test : Key → Bool) (keys now : List Key) (i : ℕ) (key : Key) {a b c : NodeTable} {m n : ℕ} → now ≡ keys → i < length keys → slice_get now i ≡ Some key →
    Walks (λ k. is_one_of (take i keys) k && test k) a b m → Walks (λ k. same_key key k && test k) b c n → Walks (λ k. is_one_of (take (i + 1) keys) k && test k) a c (m + n)
walks_key test keys now i key {a} {b} {c} {m} {n} same within at first second =
    walks_agree (λ k. is_one_of (take (i + 1) keys) k && test k) (each-all _ (shown_of a.entries) (λ s clean. both s.key)) (walks_then first second)
  where
    own : get_or keys i key ≡ key
    own = let there : Some (get_or keys i key) ≡ Some key = sym (slice_get-get_or keys i key within) ∙ (ap (λ ks. slice_get ks i) (sym same) ∙ at) in cc

    more : (k : Key) → is_one_of (take (i + 1) keys) k ≡ (is_one_of (take i keys) k || (same_key key k || false))
    more k =
        ap (λ ks. is_one_of ks k) (take_more keys i key within ∙ ap (λ x. take i keys ++ x ∷ []) own)
        ∙ any-append (λ x. same_key x k) (take i keys) (key ∷ [])

    both : (k : Key) → ((is_one_of (take i keys) k && test k) || (same_key key k && test k)) ≡ (is_one_of (take (i + 1) keys) k && test k)
    both k = one_more (is_one_of (take i keys) k) (same_key key k) (test k) ∙ sym (ap (λ x. x && test k) (more k))

-- the keys are those that have a node
pub one_there : {X : Type 0} (es : List (Key × X)) (k : Key) → is_some (lookup (same_key k) es) ≡ true → is_one_of (keys_of es) k ≡ true
one_there [] k there = there
one_there {X} (e ∷ es) k there = go (one_there es k) (same_key k e.0) refl there
  where
    go : (is_some (lookup (same_key k) es) ≡ true → is_one_of (keys_of es) k ≡ true) → (b : Bool) → same_key k e.0 ≡ b → is_some (cond b (Some e.1) (lookup (same_key k) es)) ≡ true → (same_key e.0 k || is_one_of (keys_of es) k) ≡ true
    go ih true same there = rw (same_key-sym e.0 k, same) refl
    go ih false other there = rw (same_key-sym e.0 k, other) (ih there)

pub key_there : (es : List (Key × Node)) (i : ℕ) (k : Key) → slice_get (keys_of es) i ≡ Some k → has_node es k ≡ true
key_there [] i k at = cc
key_there (e ∷ es) zero k at = let own : e.0 ≡ k = cc in subst (λ (x : Key). has_node (e ∷ es) x ≡ true) own (ap (λ b. is_some (cond b (Some e.1) (node_of es e.0))) (same_key-self e.0))
key_there (e ∷ es) (suc i) k at = go (same_key k e.0) (key_there es i k at)
  where
    go : (b : Bool) → has_node es k ≡ true → is_some (cond b (Some e.1) (node_of es k)) ≡ true
    go true there = refl
    go false there = there

-- so an expiry of all keys is that of all that is shown
pub walks_keys : (test : Key → Bool) (a b : NodeTable) (i n : ℕ) → Distinct a.entries → length a.entries ≤ i → Walks (λ k. is_one_of (take i (keys_of a.entries)) k && test k) a b n → Walks test a b n
walks_keys test a b i n apart all w =
    walks_agree test (each-map (Marked a.entries) _ (shown_of a.entries) (λ s is clean. ap (λ x. x && test s.key) (listed s.key (marked_there (node_of a.entries s.key) s.mark is))) (all_marked a.entries apart)) w
  where
    listed : (k : Key) → has_node a.entries k ≡ true → is_one_of (take i (keys_of a.entries)) k ≡ true
    listed k there = ap (λ ks. is_one_of ks k) (take_all i (keys_of a.entries) (omega (arith, length-keys_of a.entries, all))) ∙ one_there a.entries k there

-- what the test on edges says of a key
pub in_box_means : (map z : ℕ) (b : Bounds) (k : Key) → b.west ≤ b.east → b.north ≤ b.south → (is_in_box map z b k ≡ true → InBox map z b k) × (InBox map z b k → is_in_box map z b k ≡ true)
in_box_means map z b k across down = (from, to)
  where
    from : is_in_box map z b k ≡ true → InBox map z b k
    from h =
        let all = and_parts (map == k.map) _ h in
        let rest = and_parts (k.meta.z == z) (comes_near b 0 (meta_square k.meta)) all.1 in
        record { of_map = eqb-true map k.map all.0; of_zoom = eqb-true k.meta.z z rest.0; holds = holds_at b 0 (meta_square k.meta) across down rest.1 }

    to : InBox map z b k → is_in_box map z b k ≡ true
    to h = and_from _ _ (eq-eqb map k.map h.of_map) (and_from _ _ (eq-eqb k.meta.z z h.of_zoom) (holds_from b 0 (meta_square k.meta) h.holds))
