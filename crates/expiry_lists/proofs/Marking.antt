-- Marks that are given to keys and taken from them.
use Rattle.std.proofs.Common.{◌≡◌, ◌≤◌, Bool, true, false, cond, Option, Some, None, option_map, is_some, refl, sym, ap, ◌∙◌, subst}
use Rattle.farm_history.specs.declared.keys.Key.{Key}
use Rattle.farm_history.specs.Plans.{same_key}
use Rattle.farm_history.proofs.Lists.{same_key-true}
use Rattle.plain_world.specs.World.{IsMeta}
use Rattle.expiry_lists.specs.Marks.{mark_of}
use Rattle.expiry_lists.specs.inner.Nodes.{Node, NodeTable, place_of, bit_of, node_of, node_mark, has_spot, is_clean, is_clean_at, owns_at, lives_at, shown_of, Gives, IsTree, Owns}
use Rattle.expiry_lists.proofs.Finding.{Distinct, mark_found}

module _ (a b : NodeTable) (key : Key) (n : Option Node) (gives : Gives key n a.entries b.entries) where
  -- what is shown after a mark was given or taken
  pub given_marks : Distinct a.entries → Distinct b.entries → (k : Key) → mark_of (shown_of b.entries) k ≡ cond (same_key key k) (node_mark n) (mark_of (shown_of a.entries) k)
  given_marks before after k = mark_found b.entries after k ∙ (ap node_mark (gives k) ∙ go (same_key key k))
    where
      go : (x : Bool) → node_mark (cond x n (node_of a.entries k)) ≡ cond x (node_mark n) (mark_of (shown_of a.entries) k)
      go true = refl
      go false = sym (mark_found a.entries before k)

  -- and that the tables stay a quadtree
  pub given_tree : (clean : Bool) → Owns key clean a.spots b.spots → IsTree a.entries a.spots → ((k : Key) → is_clean_at b.entries k ≡ true → owns_at b.spots (place_of k) (bit_of k) ≡ true)
      → (is_some n ≡ true → IsMeta key.meta) → (is_some n ≡ true → has_spot a.spots (place_of key) ≡ true) → (3 ≤ key.meta.z → is_clean (node_mark n) ≡ true → lives_at a.spots (place_of key) (bit_of key) ≡ true) → IsTree b.entries b.spots
  given_tree clean owns tree own meta there live = record {
    metas = λ k has. by k (λ o. is_some o ≡ true) has (λ same here. subst (λ (x : Key). IsMeta x.meta) same (meta here)) (tree.metas k);
    places = λ p has. tree.places p (sym (owns.there p) ∙ has);
    groups = λ p has. tree.groups p (sym (owns.there p) ∙ has);
    spotted = λ k has. owns.there (place_of k) ∙ by k (λ o. is_some o ≡ true) has (λ same here. subst (λ (x : Key). has_spot a.spots (place_of x) ≡ true) same (there here)) (tree.spotted k);
    rooted = λ p deep has. owns.there _ ∙ tree.rooted p deep (sym (owns.there p) ∙ has);
    own = own;
    clean_live = λ k deep clean'. owns.lives (place_of k) (bit_of k) ∙ by k (λ o. is_clean (node_mark o) ≡ true) clean'
        (λ same here. subst (λ (x : Key). lives_at a.spots (place_of x) (bit_of x) ≡ true) same (live (subst (λ (x : Key). 3 ≤ x.meta.z) (sym same) deep) here)) (tree.clean_live k deep);
    rises = λ p x deep has. owns.lives _ x ∙ tree.rises p x deep (sym (owns.lives p x) ∙ has);
  }
    where
      by : (k : Key) (P : Option Node → Type 0) {Q : Type 0} → P (node_of b.entries k) → (key ≡ k → P n → Q) → (P (node_of a.entries k) → Q) → Q
      by k P {Q} here mine other = go (same_key key k) refl (subst P (gives k) here)
        where
          go : (x : Bool) → same_key key k ≡ x → P (cond x n (node_of a.entries k)) → Q
          go true same p = mine (same_key-true key k same) p
          go false apart p = other p

-- a mark that is taken leaves none
abbrev pub gone_node : Option Node → Option Node
gone_node o = option_map (λ n. record { mark = None }) o

pub gone_mark : (o : Option Node) → node_mark (gone_node o) ≡ None
gone_mark None = refl
gone_mark (Some n) = refl

pub gone_clean : (o : Option Node) → is_clean (node_mark (gone_node o)) ≡ true → false ≡ true
gone_clean None clean = clean
gone_clean (Some n) clean = clean

pub gone_there : (o : Option Node) → is_some (gone_node o) ≡ true → is_some o ≡ true
gone_there None there = there
gone_there (Some n) there = refl
