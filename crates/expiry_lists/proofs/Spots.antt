-- Bits that are taken from the spot of a place: the marks there made dirty, and what is no longer live.
use Rattle.std.proofs.Common.{◌≡◌, ◌≢◌, ℕ, ◌^◌, ◌<◌, Bool, true, false, not, ◌&&◌, cond, List, Option, Some, None, is_some, refl, sym, ap, ap₂, ◌∙◌, subst, arith}
use Rattle.std.specs.Int.{bit_not, w64}
use Rattle.std.specs.List.{IsDistinct, list_any}
use Rattle.std.specs.Prelude.{bit_and, count_ones}
use Rattle.std.specs.Map.{keys_of, set_value}
use Rattle.std.proofs.lemmas.Bool.{and_parts, and_from, false_from_ne_true}
use Rattle.std.proofs.Math.Bool.{and-false}
use Rattle.farm_history.specs.declared.keys.Key.{Key}
use Rattle.farm_history.specs.Plans.{same_key}
use Rattle.farm_history.proofs.Lists.{each-all, each-map, same_key-true, same_key-self}
use Rattle.expiry_lists.specs.declared.table.Spot.{Spot}
use Rattle.expiry_lists.specs.inner.Nodes.{Node, NodeTable, parent, place_of, bit_of, key_at, has_bit, at_bits, has_node, has_spot, is_clean, is_clean_at, spot_of, own_word, live_word, owns_at, lives_at, seen_nodes, shown_of, AreOwned, IsTree, Quieter}
use Rattle.expiry_lists.specs.inner.Walks.{Dirties, Walks}
use Rattle.expiry_lists.proofs.Bits.{and_bit, less_bit, few_bits, no_bit, power_bit}
use Rattle.expiry_lists.proofs.Counting.{ones_counted}
use Rattle.expiry_lists.proofs.Dirtying.{AgreeOn, clean_marks-agree}
use Rattle.expiry_lists.proofs.Finding.{Distinct, Marked, all_marked, there_listed}
use Rattle.expiry_lists.proofs.Seen.{same_spot, seen_apart, seen_owns, seen_dirtied, owned_less}
use Rattle.expiry_lists.proofs.Walked.{walks_agree, walks_none, walks_clean, dirties_clean}
use Rattle.expiry_lists.proofs.Writing.{Takes, Writes, same_there, set-writes, spot_tree, takes_fits, takes_quieter, written_here}

-- The own bits of the maps of a mask: what is clean has its bit, so those are all of the mask that count.
module _ (es : List (Key × Node)) (ss : List (Key × Spot)) (place : Key) (s : Spot) (mask : ℕ) (apart : Distinct es) (own : (k : Key) → is_clean_at es k ≡ true → owns_at ss (place_of k) (bit_of k) ≡ true) (found : spot_of ss place ≡ Some s) where
  own_bit : (k : Key) → is_clean_at es k ≡ true → same_key place (place_of k) ≡ true → has_bit s.own (bit_of k) ≡ true
  own_bit k clean here = sym (ap (λ o. has_bit (own_word o) (bit_of k)) found) ∙ subst (λ (x : Key). owns_at ss x (bit_of k) ≡ true) (sym (same_key-true place (place_of k) here)) (own k clean)

  mask_agrees : (k : Key) → is_clean_at es k ≡ true → at_bits place (bit_and s.own mask) k ≡ at_bits place mask k
  mask_agrees k clean = go (same_key place (place_of k)) refl
    where
      go : (x : Bool) → same_key place (place_of k) ≡ x → (x && has_bit (bit_and s.own mask) (bit_of k)) ≡ (x && has_bit mask (bit_of k))
      go false other = refl
      go true here = and_bit s.own mask (bit_of k) ∙ ap (λ x. x && has_bit mask (bit_of k)) (own_bit k clean here)

  mask_agree : AgreeOn (at_bits place (bit_and s.own mask)) (at_bits place mask) (shown_of es)
  mask_agree = each-map (Marked es) _ (shown_of es) (λ t is clean. mask_agrees t.key (ap is_clean is ∙ clean)) (all_marked es apart)

-- The bits of a mask taken from the own ones of a spot.
abbrev pub taken : Spot → ℕ → Spot
taken s mask = record { own = bit_and s.own (bit_not w64 mask); live = s.live }

module _ (vs : List (Key × Option ℕ)) (ss new : List (Key × Spot)) (place : Key) (s : Spot) (mask : ℕ) (small : mask < 2 ^ 64) (few : bit_and s.own mask < 2 ^ 64) (apart : IsDistinct same_key (keys_of vs)) (found : spot_of ss place ≡ Some s)
    (owned : AreOwned (seen_nodes ss vs) ss) (spots : new ≡ set_value (same_key place) ss (taken s mask)) where
  now : (p : Key) → spot_of new p ≡ cond (same_key place p) (Some (taken s mask)) (spot_of ss p)
  now p = ap (λ xs. spot_of xs p) spots ∙ set-writes ss place (taken s mask) (ap is_some found) p

  lesser : (p : Key) (b : ℕ) → b < 64 → owns_at new p b ≡ (not (same_key place p && has_bit mask b) && owns_at ss p b)
  lesser p b low = ap (λ o. has_bit (own_word o) b) (now p) ∙ go (same_key place p) refl
    where
      swap : (x y : Bool) → (x && not y) ≡ (not y && x)
      swap x y = grind arith

      go : (x : Bool) → same_key place p ≡ x → has_bit (own_word (cond x (Some (taken s mask)) (spot_of ss p))) b ≡ (not (x && has_bit mask b) && owns_at ss p b)
      go false other = refl
      go true same =
          let there : owns_at ss p b ≡ has_bit s.own b = ap (λ (q : Key). owns_at ss q b) (sym (same_key-true place p same)) ∙ ap (λ o. has_bit (own_word o) b) found in
          less_bit s.own mask b small low ∙ (swap (has_bit s.own b) (has_bit mask b) ∙ ap (λ x. not (has_bit mask b) && x) (sym there))

  pub taken_dirties : Dirties (at_bits place mask) (shown_of (seen_nodes ss vs)) (shown_of (seen_nodes new vs)) (count_ones (bit_and s.own mask))
  taken_dirties = record {
    marks = seen_dirtied ss new vs (at_bits place mask) (λ k. lesser (place_of k) (bit_of k) (omega arith));
    counted = ones_counted (seen_nodes ss vs) (seen_apart ss vs apart) place (bit_and s.own mask) has few
        ∙ clean_marks-agree (at_bits place (bit_and s.own mask)) (at_bits place mask) (shown_of (seen_nodes ss vs)) (mask_agree (seen_nodes ss vs) ss place s mask (seen_apart ss vs apart) (seen_owns ss vs) found);
  }
    where
      has : (b : ℕ) → b < 64 → has_bit (bit_and s.own mask) b ≡ true → is_clean_at (seen_nodes ss vs) (key_at place b) ≡ true
      has b low both = owned place b low (ap (λ o. has_bit (own_word o) b) found ∙ (and_parts (has_bit s.own b) (has_bit mask b) (sym (and_bit s.own mask b) ∙ both)).0)

  pub taken_owned : AreOwned (seen_nodes new vs) new
  taken_owned = owned_less vs ss new (λ p b low has. (and_parts (not (same_key place p && has_bit mask b)) (owns_at ss p b) (sym (lesser p b low) ∙ has)).1) owned

-- a place without a spot has nothing clean
pub spotless : (a : NodeTable) (place : Key) (mask : ℕ) → Distinct a.entries → IsTree a.entries a.spots → spot_of a.spots place ≡ None → Walks (at_bits place mask) a a 0
spotless a place mask apart tree gone = walks_none (at_bits place mask) a (each-map (Marked a.entries) _ (shown_of a.entries) (λ t is clean. at t.key (ap is_clean is ∙ clean)) (all_marked a.entries apart)) tree
  where
    at : (k : Key) → is_clean_at a.entries k ≡ true → at_bits place mask k ≡ false
    at k clean = go (same_key place (place_of k)) refl
      where
        go : (x : Bool) → same_key place (place_of k) ≡ x → (x && has_bit mask (bit_of k)) ≡ false
        go false other = refl
        go true here =
            let own : owns_at a.spots place (bit_of k) ≡ true = subst (λ (x : Key). owns_at a.spots x (bit_of k) ≡ true) (sym (same_key-true place (place_of k) here)) (tree.own k clean) in
            let never : true ≡ false = sym own ∙ (ap (λ o. has_bit (own_word o) (bit_of k)) gone ∙ no_bit (bit_of k)) in
            cc

-- What that makes of the tables.
module _ (a c : NodeTable) (place : Key) (s : Spot) (mask n : ℕ) (small : mask < 2 ^ 64) (before : Distinct a.entries) (after : Distinct c.entries) (tree : IsTree a.entries a.spots) (found : spot_of a.spots place ≡ Some s)
    (dirties : Dirties (at_bits place mask) (shown_of a.entries) (shown_of c.entries) n) (keys : keys_of c.entries ≡ keys_of a.entries) (spots : c.spots ≡ set_value (same_key place) a.spots (taken s mask)) where
  there : (k : Key) → has_node c.entries k ≡ has_node a.entries k
  there k = there_listed k c.entries ∙ (ap (list_any (same_key k)) keys ∙ sym (there_listed k a.entries))

  was_clean : (k : Key) → is_clean_at c.entries k ≡ true → is_clean_at a.entries k ≡ true
  was_clean k clean = (dirties_clean a.entries c.entries before after dirties k clean).1

  between : IsTree c.entries a.spots
  between = record {
    metas = λ k has. tree.metas k (sym (there k) ∙ has);
    places = tree.places;
    groups = tree.groups;
    spotted = λ k has. tree.spotted k (sym (there k) ∙ has);
    rooted = tree.rooted;
    own = λ k clean. tree.own k (was_clean k clean);
    clean_live = λ k deep clean. tree.clean_live k deep (was_clean k clean);
    rises = tree.rises;
  }

  takes : Takes c.entries a.spots place s (taken s mask)
  takes = record {
    found = found;
    own = λ k at clean has. less_bit s.own mask (bit_of k) small (omega arith) ∙ ap₂ (λ x y. x && not y) has (unmasked k at clean);
    clean_live = λ k at clean has. has;
    fewer = λ x has. has;
    below = λ q x deep live up has. has;
  }
    where
      unmasked : (k : Key) → place ≡ place_of k → is_clean_at c.entries k ≡ true → has_bit mask (bit_of k) ≡ false
      unmasked k at clean =
          let here : same_key place (place_of k) ≡ true = subst (λ (x : Key). same_key place x ≡ true) at (same_key-self place) in
          sym (ap (λ x. x && has_bit mask (bit_of k)) here) ∙ (dirties_clean a.entries c.entries before after dirties k clean).0

  writes : Writes a.spots place (taken s mask) c.spots
  writes = subst (λ ss. Writes a.spots place (taken s mask) ss) (sym spots) (set-writes a.spots place (taken s mask) (ap is_some found))

  pub taken_walks : c.room ≡ a.room → c.free ≡ a.free → Walks (at_bits place mask) a c n
  taken_walks room free = record {
    dirties = dirties;
    tree = spot_tree c.entries a.spots c.spots place (taken s mask) writes (takes_fits c.entries a.spots place s (taken s mask) takes between) between;
    there = there;
    spotted = same_there a.spots c.spots place (taken s mask) (ap is_some found) writes;
    quieter = takes_quieter c.entries a.spots c.spots place s (taken s mask) takes writes;
    room = room;
    free = free;
  }

-- Live bits that are taken from a spot, where nothing of the mask is clean there, nor live right below.
module _ (es : List (Key × Node)) (ss new : List (Key × Spot)) (place : Key) (s : Spot) (mask : ℕ) (small : mask < 2 ^ 64) (few : s.live < 2 ^ 64) (tree : IsTree es ss) (found : spot_of ss place ≡ Some s)
    (dirty : (k : Key) → at_bits place mask k ≡ true → is_clean_at es k ≡ false) (quiet : (p : Key) (b : ℕ) → 3 < p.meta.z → has_bit mask b ≡ true → lives_at ss p b ≡ true → parent p ≢ place)
    (spots : new ≡ set_value (same_key place) ss (record s { live = bit_and s.live (bit_not w64 mask) })) where
  hushed : Spot
  hushed = record { own = s.own; live = bit_and s.live (bit_not w64 mask) }

  less : (b : ℕ) → has_bit s.live b ≡ true → has_bit mask b ≡ false → has_bit hushed.live b ≡ true
  unfolding hushed
  less b has out = less_bit s.live mask b small (few_bits s.live b few has) ∙ ap₂ (λ x y. x && not y) has out

  hushes : Takes es ss place s hushed
  unfolding hushed
  hushes = record {
    found = found;
    own = λ k at clean has. has;
    clean_live = λ k at clean has. less (bit_of k) has (unmasked k at clean);
    fewer = λ b has. fewer b has;
    below = λ q b deep live up has. less b has (false_from_ne_true (has_bit mask b) (λ masked. absurd (quiet q b deep masked live (sym up))));
  }
    where
      unmasked : (k : Key) → place ≡ place_of k → is_clean_at es k ≡ true → has_bit mask (bit_of k) ≡ false
      unmasked k at clean = false_from_ne_true (has_bit mask (bit_of k)) (λ masked.
          let here : same_key place (place_of k) ≡ true = subst (λ (x : Key). same_key place x ≡ true) at (same_key-self place) in
          let never : true ≡ false = sym clean ∙ dirty k (and_from _ _ here masked) in
          cc)

      fewer : (b : ℕ) → has_bit (bit_and s.live (bit_not w64 mask)) b ≡ true → has_bit s.live b ≡ true
      fewer b has = (and_parts (has_bit s.live b) (has_bit (bit_not w64 mask) b) (sym (and_bit s.live (bit_not w64 mask) b) ∙ has)).0

  hush_writes : Writes ss place hushed new
  unfolding hushed
  hush_writes = subst (λ xs. Writes ss place hushed xs) (sym spots) (set-writes ss place hushed (ap is_some found))

  pub hush_tree : IsTree es new
  hush_tree = spot_tree es ss new place hushed hush_writes (takes_fits es ss place s hushed hushes tree) tree

  pub hush_there : (p : Key) → has_spot new p ≡ has_spot ss p
  hush_there p = same_there ss new place hushed (ap is_some found) hush_writes p

  pub hush_quieter : Quieter ss new
  hush_quieter p b live = takes_quieter es ss new place s hushed hushes hush_writes p b live

  pub hush_quiet : (b : ℕ) → has_bit mask b ≡ true → lives_at new place b ≡ false
  unfolding hushed
  hush_quiet b masked =
      ap (λ o. has_bit (live_word o) b) (written_here ss new place hushed hush_writes)
      ∙ (less_bit s.live mask b small (few_bits mask b small masked) ∙ (ap (λ x. has_bit s.live b && not x) masked ∙ and-false (has_bit s.live b)))

-- a place without a spot is quiet
pub spotless_quiet : (ss : List (Key × Spot)) (place : Key) (b : ℕ) → spot_of ss place ≡ None → lives_at ss place b ≡ false
spotless_quiet ss place b gone = ap (λ o. has_bit (live_word o) b) gone ∙ no_bit b

-- what an expiry of the mask and a hush of it do together
pub settle_walks : {a b c : NodeTable} {n : ℕ} (place : Key) (mask : ℕ) → Walks (at_bits place mask) a b n → c.entries ≡ b.entries → IsTree c.entries c.spots → Quieter b.spots c.spots → c.room ≡ b.room → c.free ≡ b.free → ((p : Key) → has_spot c.spots p ≡ has_spot b.spots p) → Walks (at_bits place mask) a c n
settle_walks {a} {b} {c} {n} place mask w entries tree quieter room free same = record {
  dirties = subst (λ es. Dirties (at_bits place mask) (shown_of a.entries) (shown_of es) n) (sym entries) w.dirties;
  tree = tree;
  there = λ k. ap (λ es. has_node es k) entries ∙ w.there k;
  spotted = λ p. same p ∙ w.spotted p;
  quieter = λ p x live. w.quieter p x (quieter p x live);
  room = room ∙ w.room;
  free = free ∙ w.free;
}

pub masked_dirty : {a b : NodeTable} {n : ℕ} (place : Key) (mask : ℕ) → Distinct a.entries → Distinct b.entries → Walks (at_bits place mask) a b n → (k : Key) → at_bits place mask k ≡ true → is_clean_at b.entries k ≡ false
masked_dirty {a} {b} place mask before after w k masked = false_from_ne_true (is_clean_at b.entries k) (λ clean.
    let never : true ≡ false = sym masked ∙ (walks_clean before after w k clean).0 in
    cc)

-- the expiry of a place that is told by an equation
pub place_told : {a b : NodeTable} {n : ℕ} (r place : Key) (mask : ℕ) → r ≡ place → Walks (at_bits r mask) a b n → Walks (at_bits place mask) a b n
place_told {a} {b} {n} r place mask is w = subst (λ (x : Key). Walks (at_bits x mask) a b n) is w

-- the expiry of a place for one map is that of its key
pub one_walks : {a b : NodeTable} {n : ℕ} (key place : Key) (bit : ℕ) → place ≡ place_of key → bit ≡ 2 ^ bit_of key → Walks (at_bits place bit) a b n → Walks (same_key key) a b n
one_walks {a} key place bit at is w =
    walks_agree (same_key key) (each-all _ (shown_of a.entries) (λ s clean.
    ap₂ (λ (p : Key) m. same_key p (place_of s.key) && has_bit m (bit_of s.key)) at is ∙ (ap (λ x. same_key (place_of key) (place_of s.key) && x) (power_bit (bit_of key) (bit_of s.key)) ∙ same_spot key s.key))) w
