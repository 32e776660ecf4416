-- One write into a table: what each key has after it, and that the tables stay a quadtree.
use Rattle.std.proofs.Common.{◌≡◌, ℕ, ◌<◌, ◌≤◌, ◌^◌, Bool, true, false, cond, List, [], ◌∷◌, ◌++◌, Option, Some, None, is_some, refl, sym, ap, ◌∙◌, subst, arith}
use Rattle.std.specs.Map.{lookup, set_value}
use Rattle.std.proofs.lemmas.Bool.Decides.{nat_tests}
use Rattle.farm_history.specs.declared.keys.Key.{Key}
use Rattle.farm_history.specs.Plans.{same_key}
use Rattle.farm_history.proofs.Lists.{same_key-true, same_key-self, same_key-sym}
use Rattle.plain_world.specs.World.{IsMeta}
use Rattle.expiry_lists.specs.declared.table.Spot.{Spot}
use Rattle.expiry_lists.specs.inner.Nodes.{Node, parent, place_of, bit_of, has_bit, is_clean_at, spot_of, has_spot, own_word, live_word, owns_at, lives_at, IsTree}

-- keys of which a third is one are one
pub same_key-through : (a b c : Key) → same_key a b ≡ true → same_key c b ≡ same_key c a
same_key-through a b c same = ap (same_key c) (sym (same_key-true a b same))

-- the key has that value, and each other key what it had
abbrev pub Writes : {X : Type 0} → List (Key × X) → Key → X → List (Key × X) → Type 0
Writes old key w new = (k : Key) → lookup (same_key k) new ≡ cond (same_key key k) (Some w) (lookup (same_key k) old)

-- a write at a key that has a value
pub set-writes : {X : Type 0} (es : List (Key × X)) (key : Key) (w : X) → is_some (lookup (same_key key) es) ≡ true → Writes es key w (set_value (same_key key) es w)
set-writes [] key w there k = let never : false ≡ true = there in cc
set-writes {X} (e ∷ es) key w there k = go (λ there'. set-writes es key w there' k) (same_key key e.0) refl there
  where
    go : (is_some (lookup (same_key key) es) ≡ true → lookup (same_key k) (set_value (same_key key) es w) ≡ cond (same_key key k) (Some w) (lookup (same_key k) es)) → (b : Bool) → same_key key e.0 ≡ b → is_some (cond b (Some e.1) (lookup (same_key key) es)) ≡ true
        → lookup (same_key k) (cond b ((e.0, w) ∷ es) (e ∷ set_value (same_key key) es w)) ≡ cond (same_key key k) (Some w) (cond (same_key k e.0) (Some e.1) (lookup (same_key k) es))
    go ih true same there = rw (same_key-through key e.0 k same, same_key-sym k key) (split (same_key key k))
      where
        split : (c : Bool) → cond c (Some w) (lookup (same_key k) es) ≡ cond c (Some w) (cond c (Some e.1) (lookup (same_key k) es))
        split true = refl
        split false = refl
    go ih false other there = split (same_key k e.0) refl
      where
        split : (c : Bool) → same_key k e.0 ≡ c
            → cond c (Some e.1) (lookup (same_key k) (set_value (same_key key) es w)) ≡ cond (same_key key k) (Some w) (cond c (Some e.1) (lookup (same_key k) es))
        split true is = let apart : same_key key k ≡ false = sym (same_key-through k e.0 key is) ∙ other in rw apart refl
        split false is = ih there

-- a value that is added for a key that has none
pub add-writes : {X : Type 0} (es : List (Key × X)) (key : Key) (w : X) → lookup (same_key key) es ≡ None → Writes es key w (es ++ (key, w) ∷ [])
add-writes [] key w new k = rw (same_key-sym k key) refl
add-writes {X} (e ∷ es) key w new k = go (λ gone. add-writes es key w gone k) (same_key key e.0) refl new
  where
    go : (lookup (same_key key) es ≡ None → lookup (same_key k) (es ++ (key, w) ∷ []) ≡ cond (same_key key k) (Some w) (lookup (same_key k) es)) → (b : Bool) → same_key key e.0 ≡ b → cond b (Some e.1) (lookup (same_key key) es) ≡ None
        → cond (same_key k e.0) (Some e.1) (lookup (same_key k) (es ++ (key, w) ∷ [])) ≡ cond (same_key key k) (Some w) (cond (same_key k e.0) (Some e.1) (lookup (same_key k) es))
    go ih true same gone = cc
    go ih false other gone = split (same_key k e.0) refl
      where
        split : (c : Bool) → same_key k e.0 ≡ c
            → cond c (Some e.1) (lookup (same_key k) (es ++ (key, w) ∷ [])) ≡ cond (same_key key k) (Some w) (cond c (Some e.1) (lookup (same_key k) es))
        split true is = let apart : same_key key k ≡ false = sym (same_key-through k e.0 key is) ∙ other in rw apart refl
        split false is = ih gone

-- a key and its parent differ
pub parent_apart : (k : Key) → 3 < k.meta.z → same_key k (parent k) ≡ false
parent_apart k deep = grind (arith, nat_tests)

module _ {X : Type 0} (es new : List (Key × X)) (key : Key) (w : X) (writes : Writes es key w new) where
  pub written_here : lookup (same_key key) new ≡ Some w
  written_here = writes key ∙ rw (same_key-self key) refl

  pub written_own : (k : Key) → same_key key k ≡ true → lookup (same_key k) new ≡ Some w
  written_own k same = writes k ∙ rw same refl

  pub written_other : (k : Key) → same_key key k ≡ false → lookup (same_key k) new ≡ lookup (same_key k) es
  written_other k other = writes k ∙ rw other refl

  pub still_there : (k : Key) → is_some (lookup (same_key k) es) ≡ true → is_some (lookup (same_key k) new) ≡ true
  still_there k there = ap is_some (writes k) ∙ go (same_key key k)
    where
      go : (b : Bool) → is_some (cond b (Some w) (lookup (same_key k) es)) ≡ true
      go true = refl
      go false = there

  -- a fact of each key's value, from the own one's and from the others'
  pub written_at : (k : Key) (P : Option X → Type 0) {Q : Type 0} → P (lookup (same_key k) new) → (key ≡ k → P (Some w) → Q) → (P (lookup (same_key k) es) → Q) → Q
  written_at k P {Q} here own other = go (same_key key k) refl
    where
      go : (b : Bool) → same_key key k ≡ b → Q
      go true same = own (same_key-true key k same) (subst P (written_own k same) here)
      go false apart = other (subst P (written_other k apart) here)

  -- and what holds of the own value and of the others' holds of each
  pub written_to : (k : Key) (P : Option X → Type 0) → (key ≡ k → P (Some w)) → (same_key key k ≡ false → P (lookup (same_key k) es)) → P (lookup (same_key k) new)
  written_to k P own other = go (same_key key k) refl
    where
      go : (b : Bool) → same_key key k ≡ b → P (lookup (same_key k) new)
      go true same = subst P (sym (written_own k same)) (own (same_key-true key k same))
      go false apart = subst P (sym (written_other k apart)) (other apart)

-- another value of a key that has one leaves what is there
pub same_there : {X : Type 0} (es new : List (Key × X)) (key : Key) (w : X) → is_some (lookup (same_key key) es) ≡ true → Writes es key w new → (k : Key) → is_some (lookup (same_key k) new) ≡ is_some (lookup (same_key k) es)
same_there es new key w there writes k = ap is_some (writes k) ∙ go (same_key key k) refl
  where
    go : (b : Bool) → same_key key k ≡ b → is_some (cond b (Some w) (lookup (same_key k) es)) ≡ is_some (lookup (same_key k) es)
    go true same = sym (ap (λ (x : Key). is_some (lookup (same_key x) es)) (sym (same_key-true key k same)) ∙ there)
    go false other = refl

-- A spot that is written: it has the bits of what is clean at its place, and lies rightly between those above and below.
pub record FitsSpot (es : List (Key × Node)) (ss : List (Key × Spot)) (p : Key) (w : Spot) : Type 0 where
  pub meta : IsMeta p.meta
  pub group : p.map < 2 ^ 26
  pub rooted : 3 < p.meta.z → has_spot ss (parent p) ≡ true
  pub own : (k : Key) → p ≡ place_of k → is_clean_at es k ≡ true → has_bit w.own (bit_of k) ≡ true
  pub clean_live : (k : Key) → p ≡ place_of k → 3 ≤ k.meta.z → is_clean_at es k ≡ true → has_bit w.live (bit_of k) ≡ true
  pub live_above : (b : ℕ) → 3 < p.meta.z → has_bit w.live b ≡ true → lives_at ss (parent p) b ≡ true
  pub live_below : (q : Key) (b : ℕ) → 3 < q.meta.z → lives_at ss q b ≡ true → p ≡ parent q → has_bit w.live b ≡ true

pub spot_tree : (es : List (Key × Node)) (ss new : List (Key × Spot)) (p : Key) (w : Spot) → Writes ss p w new → FitsSpot es ss p w → IsTree es ss → IsTree es new
spot_tree es ss new p w writes fits tree = record {
  metas = tree.metas;
  places = λ q there. written_at ss new p w writes q (λ o. is_some o ≡ true) there (λ own here. subst (λ (x : Key). IsMeta x.meta) own fits.meta) (tree.places q);
  groups = λ q there. written_at ss new p w writes q (λ o. is_some o ≡ true) there (λ own here. subst (λ (x : Key). x.map < 2 ^ 26) own fits.group) (tree.groups q);
  spotted = λ k there. still_there ss new p w writes (place_of k) (tree.spotted k there);
  rooted = λ q deep there. still_there ss new p w writes (parent q) (written_at ss new p w writes q (λ o. is_some o ≡ true) there
      (λ own here. subst (λ (x : Key). has_spot ss (parent x) ≡ true) own (fits.rooted (subst (λ (x : Key). 3 < x.meta.z) (sym own) deep))) (tree.rooted q deep));
  own = λ k clean. written_to ss new p w writes (place_of k) (λ o. has_bit (own_word o) (bit_of k) ≡ true) (λ own. fits.own k own clean) (λ other. tree.own k clean);
  clean_live = λ k deep clean. written_to ss new p w writes (place_of k) (λ o. has_bit (live_word o) (bit_of k) ≡ true) (λ own. fits.clean_live k own deep clean) (λ other. tree.clean_live k deep clean);
  rises = λ q b deep live. written_at ss new p w writes q (λ o. has_bit (live_word o) b ≡ true) live (λ own here. own_rises q b deep own here) (λ was. other_rises q b deep was);
}
  where
    other_rises : (q : Key) (b : ℕ) → 3 < q.meta.z → lives_at ss q b ≡ true → lives_at new (parent q) b ≡ true
    other_rises q b deep was = written_to ss new p w writes (parent q) (λ o. has_bit (live_word o) b ≡ true) (λ own. fits.live_below q b deep was own) (λ other. tree.rises q b deep was)

    own_rises : (q : Key) (b : ℕ) → 3 < q.meta.z → p ≡ q → has_bit w.live b ≡ true → lives_at new (parent q) b ≡ true
    own_rises q b deep own here =
        let high : 3 < p.meta.z = subst (λ (x : Key). 3 < x.meta.z) (sym own) deep in
        let up : lives_at ss (parent p) b ≡ true = fits.live_above b high here in
        let apart : same_key p (parent p) ≡ false = parent_apart p high in
        subst (λ (x : Key). lives_at new (parent x) b ≡ true) own (ap (λ o. has_bit (live_word o) b) (written_other ss new p w writes (parent p) apart) ∙ up)

-- Bits that are taken from a spot that is there: what is not clean needs none, and no live one stands right below.
pub record Takes (es : List (Key × Node)) (ss : List (Key × Spot)) (p : Key) (s w : Spot) : Type 0 where
  pub found : spot_of ss p ≡ Some s
  pub own : (k : Key) → p ≡ place_of k → is_clean_at es k ≡ true → has_bit s.own (bit_of k) ≡ true → has_bit w.own (bit_of k) ≡ true
  pub clean_live : (k : Key) → p ≡ place_of k → is_clean_at es k ≡ true → has_bit s.live (bit_of k) ≡ true → has_bit w.live (bit_of k) ≡ true
  pub fewer : (b : ℕ) → has_bit w.live b ≡ true → has_bit s.live b ≡ true
  pub below : (q : Key) (b : ℕ) → 3 < q.meta.z → lives_at ss q b ≡ true → p ≡ parent q → has_bit s.live b ≡ true → has_bit w.live b ≡ true

pub takes_fits : (es : List (Key × Node)) (ss : List (Key × Spot)) (p : Key) (s w : Spot) → Takes es ss p s w → IsTree es ss → FitsSpot es ss p w
takes_fits es ss p s w takes tree = record {
  meta = tree.places p there;
  group = tree.groups p there;
  rooted = λ deep. tree.rooted p deep there;
  own = λ k at clean. takes.own k at clean (was_own k at clean);
  clean_live = λ k at deep clean. takes.clean_live k at clean (was_live k at deep clean);
  live_above = λ b deep here. tree.rises p b deep (lives b ∙ takes.fewer b here);
  live_below = λ q b deep live up. takes.below q b deep live up (sym (lives b) ∙ subst (λ (x : Key). lives_at ss x b ≡ true) (sym up) (tree.rises q b deep live));
}
  where
    there : has_spot ss p ≡ true
    there = ap is_some takes.found

    lives : (b : ℕ) → lives_at ss p b ≡ has_bit s.live b
    lives b = ap (λ o. has_bit (live_word o) b) takes.found

    was_own : (k : Key) → p ≡ place_of k → is_clean_at es k ≡ true → has_bit s.own (bit_of k) ≡ true
    was_own k at clean = sym (ap (λ o. has_bit (own_word o) (bit_of k)) takes.found) ∙ subst (λ (x : Key). owns_at ss x (bit_of k) ≡ true) (sym at) (tree.own k clean)

    was_live : (k : Key) → p ≡ place_of k → 3 ≤ k.meta.z → is_clean_at es k ≡ true → has_bit s.live (bit_of k) ≡ true
    was_live k at deep clean = sym (lives (bit_of k)) ∙ subst (λ (x : Key). lives_at ss x (bit_of k) ≡ true) (sym at) (tree.clean_live k deep clean)

-- and then nothing is live that was not
pub takes_quieter : (es : List (Key × Node)) (ss new : List (Key × Spot)) (p : Key) (s w : Spot) → Takes es ss p s w → Writes ss p w new → (q : Key) (b : ℕ) → lives_at new q b ≡ true → lives_at ss q b ≡ true
takes_quieter es ss new p s w takes writes q b live =
    written_at ss new p w writes q (λ o. has_bit (live_word o) b ≡ true) live
    (λ own here. subst (λ (x : Key). lives_at ss x b ≡ true) own (ap (λ o. has_bit (live_word o) b) takes.found ∙ takes.fewer b here)) (λ was. was)
