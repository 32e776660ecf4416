-- Expiries of the tables, one after another, and the one of a single key.
use Rattle.std.proofs.Common.{◌≡◌, ℕ, ◌+◌, ◌≤◌, Bool, true, false, ◌||◌, cond, List, [], ◌∷◌, length, find, Option, Some, None, option_map, refl, sym, ap, ◌∙◌, arith}
use Rattle.farm_history.specs.declared.keys.Key.{Key}
use Rattle.farm_history.specs.declared.keys.Mark.{Mark}
use Rattle.farm_history.specs.Plans.{same_key}
use Rattle.farm_history.proofs.Lists.{same_key-true}
use Rattle.expiry_lists.specs.Marks.{Shown, mark_of, touched_by, dirtied_marks}
use Rattle.expiry_lists.specs.inner.Nodes.{Node, NodeTable, node_of, node_mark, is_clean, is_clean_at, shown_of, IsTree}
use Rattle.expiry_lists.specs.inner.Walks.{Dirties, Walks}
use Rattle.expiry_lists.proofs.Dirtying.{AgreeOn, NoneOf, dirties_then, dirties_agree, dirties_none, clean_marks-le}
use Rattle.expiry_lists.proofs.Finding.{Distinct, mark_found, length-shown_of}

pub walks_then : {p q : Key → Bool} {a b c : NodeTable} {m n : ℕ} → Walks p a b m → Walks q b c n → Walks (λ k. p k || q k) a c (m + n)
walks_then first second = record {
  dirties = dirties_then first.dirties second.dirties;
  tree = second.tree;
  there = λ k. second.there k ∙ first.there k;
  spotted = λ p. second.spotted p ∙ first.spotted p;
  quieter = λ p b live. first.quieter p b (second.quieter p b live);
  room = second.room ∙ first.room;
  free = second.free ∙ first.free;
}

pub walks_agree : {p : Key → Bool} (q : Key → Bool) {a b : NodeTable} {n : ℕ} → AgreeOn p q (shown_of a.entries) → Walks p a b n → Walks q a b n
walks_agree q same w = record { dirties = dirties_agree q same w.dirties; tree = w.tree; there = w.there; spotted = w.spotted; quieter = w.quieter; room = w.room; free = w.free }

pub walks_none : (p : Key → Bool) (a : NodeTable) → NoneOf p (shown_of a.entries) → IsTree a.entries a.spots → Walks p a a 0
walks_none p a none tree = record { dirties = dirties_none p (shown_of a.entries) none; tree = tree; there = λ k. refl; spotted = λ p. refl; quieter = λ p b live. live; room = refl; free = refl }

-- the count of an expiry is at most the number of nodes
pub walks_few : {p : Key → Bool} {a b : NodeTable} {n : ℕ} → Walks p a b n → n ≤ length a.entries
walks_few {p} {a} {b} {n} w = omega (arith, w.dirties.counted, clean_marks-le p (shown_of a.entries), length-shown_of a.entries)

pub four_few : {p q r s : Key → Bool} {a b c d e : NodeTable} {k l m n : ℕ} → Walks p a b k → Walks q b c l → Walks r c d m → Walks s d e n → k + l + m + n ≤ length a.entries
four_few first second third fourth = walks_few (walks_then (walks_then (walks_then first second) third) fourth)

pub five_few : {p q r s t : Key → Bool} {a b c d e f : NodeTable} {k l m n o : ℕ} → Walks p a b k → Walks q b c l → Walks r c d m → Walks s d e n → Walks t e f o → k + l + m + n + o ≤ length a.entries
five_few first second third fourth fifth = walks_few (walks_then (walks_then (walks_then (walks_then first second) third) fourth) fifth)

-- a mark among those that were made dirty
mark_dirtied : (test : Key → Bool) (k : Key) (ss : List Shown) → mark_of (dirtied_marks test ss) k ≡ option_map (touched_by (test k)) (mark_of ss k)
mark_dirtied test k [] = refl
mark_dirtied test k (s ∷ ss) = go (mark_dirtied test k ss) (same_key k s.key) refl
  where
    go : mark_of (dirtied_marks test ss) k ≡ option_map (touched_by (test k)) (mark_of ss k) → (x : Bool) → same_key k s.key ≡ x →
        option_map (λ (y : Shown). y.mark) (cond x (Some (record { key = s.key; mark = touched_by (test s.key) s.mark })) (find (λ y. same_key k y.key) (dirtied_marks test ss)))
        ≡ option_map (touched_by (test k)) (option_map (λ (y : Shown). y.mark) (cond x (Some s) (find (λ y. same_key k y.key) ss)))
    go ih true same = ap (λ (y : Key). Some (touched_by (test y) s.mark)) (sym (same_key-true k s.key same))
    go ih false other = ih

-- what is clean after an expiry was clean, and did not pass the test
pub dirties_clean : {test : Key → Bool} {n : ℕ} (es new : List (Key × Node)) → Distinct es → Distinct new → Dirties test (shown_of es) (shown_of new) n → (k : Key) → is_clean_at new k ≡ true → (test k ≡ false) × (is_clean_at es k ≡ true)
dirties_clean {test} {n} es new before after d k clean = go (test k) (node_mark (node_of es k)) (sym told ∙ clean)
  where
    told : is_clean_at new k ≡ is_clean (option_map (touched_by (test k)) (node_mark (node_of es k)))
    told = ap is_clean (sym (mark_found new after k) ∙ (ap (λ ss. mark_of ss k) d.marks ∙ (mark_dirtied test k (shown_of es) ∙ ap (option_map (touched_by (test k))) (mark_found es before k))))

    go : (x : Bool) (o : Option Mark) → is_clean (option_map (touched_by x) o) ≡ true → (x ≡ false) × (is_clean o ≡ true)
    go true None h = cc
    go true (Some m) h = cc
    go false None h = cc
    go false (Some m) h = (refl, h)

pub walks_clean : {test : Key → Bool} {a b : NodeTable} {n : ℕ} → Distinct a.entries → Distinct b.entries → Walks test a b n → (k : Key) → is_clean_at b.entries k ≡ true → (test k ≡ false) × (is_clean_at a.entries k ≡ true)
walks_clean {a = a} {b = b} before after w k clean = dirties_clean a.entries b.entries before after w.dirties k clean
