-- Room for a key that is to be shown, and what showing it keeps.
use Rattle.std.proofs.Common.{◌≡◌, ℕ, [], ◌-◌, ◌/◌, ◌<◌, ◌≤◌, min, Bool, true, false, ◌&&◌, ◌==◌, List, Option, Some, None, IsSome, is_some, sym, ap, ◌∙◌, subst, inl, inr, refl, arith}
use Rattle.std.specs.List.{list_any}
use Rattle.std.proofs.lemmas.Bool.{false_from_ne_true}
use Rattle.farm_history.specs.declared.keys.Key.{Key}
use Rattle.farm_history.proofs.Lists.{each-map}
use Rattle.plain_world.specs.World.{IsMeta}
use Rattle.expiry_lists.specs.Marks.{Shown, mark_of}
use Rattle.expiry_lists.specs.inner.Keeping.{IsKept}
use Rattle.expiry_lists.specs.inner.Nodes.{Node, NodeTable, has_node, has_spot, node_of, node_mark, place_of, shown_of, IsTree}
use Rattle.expiry_lists.specs.inner.Waking.{path_len, Wakes}
use Rattle.expiry_lists.specs.inner.Tiles.{is_of_maps}
use Rattle.expiry_lists.proofs.Finding.{Distinct, Marked, all_marked, marked_there, mark_found}
use Rattle.expiry_lists.proofs.Bits.{no_bit}
use Rattle.expiry_lists.proofs.Dirtying.{AgreeOn}

no_mark : (o : Option Node) → is_some o ≡ false → node_mark o ≡ None
no_mark None gone = refl
no_mark (Some n) gone = cc

some_node : (o : Option Node) → IsSome (node_mark o) → is_some o ≡ true
some_node None some = cc
some_node (Some n) some = refl

-- a key without a node is not shown, so a place is reserved for it
pub place_for : (es : List (Key × Node)) → Distinct es → (key : Key) (shown : List Shown) (room : ℕ) → shown_of es ≡ shown → (mark_of shown key ≡ None → 1 ≤ room) → has_node es key ≡ false → 1 ≤ room
place_for es apart key shown room seen place gone =
    place (sym (ap (λ ss. mark_of ss key) seen) ∙ (mark_found es apart key ∙ no_mark (node_of es key) gone))

-- a key that is shown has a node
pub shown_has : (es : List (Key × Node)) → Distinct es → (key : Key) (shown : List Shown) → shown_of es ≡ shown → IsSome (mark_of shown key) → has_node es key ≡ true
shown_has es apart key shown seen some =
    some_node (node_of es key) (subst IsSome (sym (ap (λ ss. mark_of ss key) seen) ∙ mark_found es apart key) some)

-- a place of a group that is not listed has no spot
pub unlisted_gone : (groups : List ℕ) (t : NodeTable) → IsKept groups t → (place : Key) → list_any (λ g. g == place.map) groups ≡ false → has_spot t.spots place ≡ false
unlisted_gone groups t kept place unlisted = false_from_ne_true (has_spot t.spots place) (λ there. let never : true ≡ false = sym (kept.listed place there) ∙ unlisted in cc)

-- and a key without a spot has no node
pub spotless_key : (t : NodeTable) → IsTree t.entries t.spots → (key : Key) → has_spot t.spots (place_of key) ≡ false → has_node t.entries key ≡ false
spotless_key t tree key gone = false_from_ne_true (has_node t.entries key) (λ there. let never : true ≡ false = sym (tree.spotted key there) ∙ gone in cc)

pub room_for_path : (spare free groups room : ℕ) (key : Key) → IsMeta key.meta → min spare (min (free / 16) groups) ≡ room → 1 ≤ room → path_len key ≤ free
room_for_path spare free groups room key meta is some = omega (arith, meta.z_fits)

pub room_for_node : (spare free groups room : ℕ) → min spare (min (free / 16) groups) ≡ room → 1 ≤ room → 1 ≤ spare
room_for_node spare free groups room is some = omega arith

pub room_for_group : (spare free capacity len room : ℕ) → min spare (min (free / 16) (capacity - len)) ≡ room → 1 ≤ room → len < capacity
room_for_group spare free capacity len room is some = omega arith

-- what is kept after a place was woken and the key given its mark
pub kept_after : (groups groups' : List ℕ) (old woken new : NodeTable) (place : Key) (mask : ℕ) → IsKept groups old → Wakes place mask old woken → ((p : Key) → has_spot new.spots p ≡ has_spot woken.spots p) → IsTree new.entries new.spots →
    ((m : ℕ) → list_any (λ n. n == m) groups ≡ true → list_any (λ n. n == m) groups' ≡ true) → list_any (λ m. m == place.map) groups' ≡ true → IsKept groups' new
kept_after groups groups' old woken new place mask kept wakes same tree others added = record {
  tree = tree;
  listed = λ p there. elim (wakes.of_group p (sym (same p) ∙ there)) [
    | inl before ↦ others p.map (kept.listed p before)
    | inr own ↦ subst (λ m. list_any (λ n. n == m) groups' ≡ true) (sym own) added
  ];
}

-- what is shown is of a group that is listed
pub all_listed : (groups : List ℕ) (t : NodeTable) → Distinct t.entries → IsKept groups t → (p : Key → Bool) → AgreeOn (λ k. is_of_maps groups (place_of k) && p k) p (shown_of t.entries)
all_listed groups t apart kept p =
    each-map (Marked t.entries) _ (shown_of t.entries) (λ s is clean. ap (λ b. b && p s.key) (kept.listed (place_of s.key) (kept.tree.spotted s.key (marked_there (node_of t.entries s.key) s.mark is)))) (all_marked t.entries apart)

pub none_kept : (t : NodeTable) → t.entries ≡ [] → t.spots ≡ [] → IsKept [] t
none_kept t entries spots = record {
  tree = subst (λ es. IsTree es t.spots) (sym entries) (subst (λ ss. IsTree [] ss) (sym spots) (record {
    metas = λ k there. let never : false ≡ true = there in cc;
    places = λ p there. let never : false ≡ true = there in cc;
    groups = λ p there. let never : false ≡ true = there in cc;
    spotted = λ k there. let never : false ≡ true = there in cc;
    rooted = λ p deep there. let never : false ≡ true = there in cc;
    own = λ k clean. let never : false ≡ true = clean in cc;
    clean_live = λ k deep clean. let never : false ≡ true = clean in cc;
    rises = λ p b deep live. let never : false ≡ true = sym (no_bit b) ∙ live in cc;
  }));
  listed = λ p there. let never : false ≡ true = sym (ap (λ ss. has_spot ss p) spots) ∙ there in cc;
}
