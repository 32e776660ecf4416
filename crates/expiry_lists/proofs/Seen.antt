-- What the two tables say together: a node for each key that has a version, clean where its place's own bits say so.
use Rattle.std.proofs.Common.{◌≡◌, ℕ, zero, suc, ◌+◌, ◌*◌, ◌/◌, ◌<◌, ◌==◌, Bool, true, false, not, ◌&&◌, ◌^◌, cond, List, [], ◌∷◌, ◌++◌, length, Option, Some, None, option_map, is_some, refl, sym, ap, ap₂, ◌∙◌, subst, arith}
use Rattle.std.specs.Int.{bit_not, w64}
use Rattle.std.specs.Prelude.{slice_get, bit_and, bit_or}
use Rattle.std.specs.List.{IsDistinct}
use Rattle.std.specs.Map.{keys_of, set_value}
use Rattle.std.proofs.lemmas.Bool.Decides.{nat_tests}
use Rattle.farm_history.specs.declared.keys.Key.{Key}
use Rattle.farm_history.specs.Plans.{same_key}
use Rattle.farm_history.proofs.Lists.{same_key-true}
use Rattle.expiry_lists.specs.declared.table.Spot.{Spot}
use Rattle.expiry_lists.specs.Marks.{Shown, dirtied_marks}
use Rattle.expiry_lists.specs.inner.Nodes.{Node, place_of, bit_of, key_at, node_of, node_mark, is_clean, is_clean_at, has_node, has_bit, has_spot, own_word, live_word, spot_of, lives_at, owns_at, version_of, seen_mark, seen_node, seen_nodes, TablesSeen, shown_before, shown_of, AreOwned, Gives, Owns}
use Rattle.expiry_lists.proofs.Bits.{bit_set, no_bit}
use Rattle.expiry_lists.proofs.Writing.{set-writes, add-writes}

-- the same keys, in the same order
pub seen_keys : (ss : List (Key × Spot)) (vs : List (Key × Option ℕ)) → keys_of (seen_nodes ss vs) ≡ keys_of vs
seen_keys ss [] = refl
seen_keys ss (v ∷ vs) = ap (λ ks. v.0 ∷ ks) (seen_keys ss vs)

pub seen_long : (ss : List (Key × Spot)) (vs : List (Key × Option ℕ)) → length (seen_nodes ss vs) ≡ length vs
seen_long ss [] = refl
seen_long ss (v ∷ vs) = ap suc (seen_long ss vs)

pub seen_apart : (ss : List (Key × Spot)) (vs : List (Key × Option ℕ)) → IsDistinct same_key (keys_of vs) → IsDistinct same_key (keys_of (seen_nodes ss vs))
seen_apart ss vs apart = subst (λ ks. IsDistinct same_key ks) (sym (seen_keys ss vs)) apart

pub seen_get : (ss : List (Key × Spot)) (vs : List (Key × Option ℕ)) (i : ℕ) (v : Key × Option ℕ) → slice_get vs i ≡ Some v → slice_get (seen_nodes ss vs) i ≡ Some (seen_node ss v)
seen_get ss [] i v at = cc
seen_get ss (w ∷ vs) zero v at = let same : w ≡ v = cc in ap (λ (x : Key × Option ℕ). Some (seen_node ss x)) same
seen_get ss (w ∷ vs) (suc i) v at = seen_get ss vs i v at

-- the node of a key of that version
abbrev pub node_with : List (Key × Spot) → Key → Option ℕ → Node
node_with ss k v = record { mark = seen_mark ss k v }

pub seen_found : (ss : List (Key × Spot)) (vs : List (Key × Option ℕ)) (k : Key) → node_of (seen_nodes ss vs) k ≡ option_map (node_with ss k) (version_of vs k)
seen_found ss [] k = refl
seen_found ss (v ∷ vs) k = go (seen_found ss vs k) (same_key k v.0) refl
  where
    go : node_of (seen_nodes ss vs) k ≡ option_map (node_with ss k) (version_of vs k) → (b : Bool) → same_key k v.0 ≡ b
        → cond b (Some (node_with ss v.0 v.1)) (node_of (seen_nodes ss vs) k) ≡ option_map (node_with ss k) (cond b (Some v.1) (version_of vs k))
    go ih true same = ap (λ (x : Key). Some (node_with ss x v.1)) (sym (same_key-true k v.0 same))
    go ih false other = ih

pub seen_there : (ss : List (Key × Spot)) (vs : List (Key × Option ℕ)) (k : Key) → has_node (seen_nodes ss vs) k ≡ is_some (version_of vs k)
seen_there ss vs k = ap is_some (seen_found ss vs k) ∙ go (version_of vs k)
  where
    go : (o : Option (Option ℕ)) → is_some (option_map (node_with ss k) o) ≡ is_some o
    go None = refl
    go (Some v) = refl

-- what is clean has its bit
pub seen_owns : (ss : List (Key × Spot)) (vs : List (Key × Option ℕ)) (k : Key) → is_clean_at (seen_nodes ss vs) k ≡ true → owns_at ss (place_of k) (bit_of k) ≡ true
seen_owns ss vs k clean = go (version_of vs k) (sym (ap (λ o. is_clean (node_mark o)) (seen_found ss vs k)) ∙ clean)
  where
    go : (o : Option (Option ℕ)) → is_clean (node_mark (option_map (node_with ss k) o)) ≡ true → owns_at ss (place_of k) (bit_of k) ≡ true
    go None clean = cc
    go (Some None) clean = cc
    go (Some (Some v)) clean = clean

-- other spots with the same own bits
pub seen_same : (ss new : List (Key × Spot)) (vs : List (Key × Option ℕ)) → ((k : Key) → owns_at new (place_of k) (bit_of k) ≡ owns_at ss (place_of k) (bit_of k)) → seen_nodes new vs ≡ seen_nodes ss vs
seen_same ss new [] same = refl
seen_same ss new (v ∷ vs) same = ap₂ (λ (e : Key × Node) es. e ∷ es) (ap (λ o. (v.0, record { mark = o })) (go v.1)) (seen_same ss new vs same)
  where
    go : (o : Option ℕ) → seen_mark new v.0 o ≡ seen_mark ss v.0 o
    go None = refl
    go (Some n) = ap (λ b. Some (record { version = n; clean = b })) (same v.0)

-- own bits of the keys that pass a test, taken: those keys are dirty
pub seen_dirtied : (ss new : List (Key × Spot)) (vs : List (Key × Option ℕ)) (test : Key → Bool) → ((k : Key) → owns_at new (place_of k) (bit_of k) ≡ (not (test k) && owns_at ss (place_of k) (bit_of k)))
    → shown_of (seen_nodes new vs) ≡ dirtied_marks test (shown_of (seen_nodes ss vs))
seen_dirtied ss new [] test less = refl
seen_dirtied ss new (v ∷ vs) test less = go v.1 (seen_dirtied ss new vs test less)
  where
    go : (o : Option ℕ) → shown_of (seen_nodes new vs) ≡ dirtied_marks test (shown_of (seen_nodes ss vs))
        → shown_before v.0 (seen_mark new v.0 o) (shown_of (seen_nodes new vs)) ≡ dirtied_marks test (shown_before v.0 (seen_mark ss v.0 o) (shown_of (seen_nodes ss vs)))
    go None ih = ih
    go (Some n) ih = ap₂ (λ (s : Shown) rest. s ∷ rest) (ap (λ b. record { key = v.0; mark = record { version = n; clean = b } }) (less v.0)) ih

-- one key of another version, and its bit: what else is seen stays
pub same_spot : (key k : Key) → (same_key (place_of key) (place_of k) && (bit_of k == bit_of key)) ≡ same_key key k
same_spot key k = grind (arith, nat_tests)

module _ (ss new : List (Key × Spot)) (vs after : List (Key × Option ℕ)) (key : Key) (clean : Bool) (owns : Owns key clean ss new) where
  own_of : (k : Key) → owns_at new (place_of k) (bit_of k) ≡ cond (same_key key k) clean (owns_at ss (place_of k) (bit_of k))
  own_of k = owns.owns (place_of k) (bit_of k) (omega arith) ∙ ap (λ b. cond b clean (owns_at ss (place_of k) (bit_of k))) (same_spot key k)

  other_mark : (k : Key) (o : Option (Option ℕ)) → same_key key k ≡ false → option_map (node_with new k) o ≡ option_map (node_with ss k) o
  other_mark k None other = refl
  other_mark k (Some None) other = refl
  other_mark k (Some (Some n)) other = ap (λ b. Some (record { mark = Some (record { version = n; clean = b }) })) (own_of k ∙ ap (λ b. cond b clean (owns_at ss (place_of k) (bit_of k))) other)

  seen_after : (o : Option (Option ℕ)) → ((k : Key) → version_of after k ≡ cond (same_key key k) o (version_of vs k)) → (k : Key) → (n : Option Node) → (same_key key k ≡ true → option_map (node_with new k) o ≡ n)
      → node_of (seen_nodes new after) k ≡ cond (same_key key k) n (node_of (seen_nodes ss vs) k)
  seen_after o writes k n own = seen_found new after k ∙ (ap (option_map (node_with new k)) (writes k) ∙ go (same_key key k) refl)
    where
      go : (b : Bool) → same_key key k ≡ b → option_map (node_with new k) (cond b o (version_of vs k)) ≡ cond b n (node_of (seen_nodes ss vs) k)
      go true same = own same
      go false other = other_mark k (version_of vs k) other ∙ sym (seen_found ss vs k)

  pub seen_given : (n : ℕ) → ((k : Key) → version_of after k ≡ cond (same_key key k) (Some (Some n)) (version_of vs k))
      → Gives key (Some (record { mark = Some (record { version = n; clean = clean }) })) (seen_nodes ss vs) (seen_nodes new after)
  seen_given n writes k = seen_after (Some (Some n)) writes k (Some (record { mark = Some (record { version = n; clean = clean }) })) (λ same.
      ap (λ b. Some (record { mark = Some (record { version = n; clean = b }) })) (own_of k ∙ ap (λ b. cond b clean (owns_at ss (place_of k) (bit_of k))) same))

  pub seen_taken : ((k : Key) → version_of after k ≡ cond (same_key key k) (option_map (λ v. None) (version_of vs key)) (version_of vs k))
      → Gives key (option_map (λ n. record { mark = None }) (node_of (seen_nodes ss vs) key)) (seen_nodes ss vs) (seen_nodes new after)
  seen_taken writes k = seen_after (option_map (λ v. None) (version_of vs key)) writes k (option_map (λ n. record { mark = None }) (node_of (seen_nodes ss vs) key)) (λ same.
      gone (version_of vs key) ∙ ap (option_map (λ n. record { mark = None })) (sym (seen_found ss vs key)))
    where
      gone : (o : Option (Option ℕ)) → option_map (node_with new k) (option_map (λ v. None) o) ≡ option_map (λ n. record { mark = None }) (option_map (node_with ss key) o)
      gone None = refl
      gone (Some v) = refl

-- a key of a place's bit stands there
pub stands_there : (p : Key) (b : ℕ) → b < 64 → (place_of (key_at p b) ≡ p) × (bit_of (key_at p b) ≡ b)
stands_there p b few = let whole : (p.map * 64 + b) / 64 ≡ p.map = omega (arith, few) in (ap (λ m. record { map = m; meta = p.meta }) whole, omega (arith, few))

-- each own bit is still a clean key's: after a mark was given or taken,
pub owned_after : (es es' : List (Key × Node)) (ss ss' : List (Key × Spot)) (key : Key) (clean : Bool) (n : Option Node) → (clean ≡ true → is_clean (node_mark n) ≡ true) → Gives key n es es' → Owns key clean ss ss' → AreOwned es ss → AreOwned es' ss'
owned_after es es' ss ss' key clean n here gives owns owned p b few has =
    ap (λ o. is_clean (node_mark o)) (gives (key_at p b)) ∙ go (same_key key (key_at p b)) refl
  where
    there : (place_of (key_at p b) ≡ p) × (bit_of (key_at p b) ≡ b)
    there = stands_there p b few

    told : owns_at ss' p b ≡ cond (same_key key (key_at p b)) clean (owns_at ss p b)
    told = owns.owns p b few ∙ ap (λ x. cond x clean (owns_at ss p b)) (ap₂ (λ (q : Key) x. same_key (place_of key) q && (x == bit_of key)) (sym there.0) (sym there.1) ∙ same_spot key (key_at p b))

    go : (x : Bool) → same_key key (key_at p b) ≡ x → is_clean (node_mark (cond x n (node_of es (key_at p b)))) ≡ true
    go true same = here (sym (told ∙ ap (λ x. cond x clean (owns_at ss p b)) same) ∙ has)
    go false other = owned p b few (sym (told ∙ ap (λ x. cond x clean (owns_at ss p b)) other) ∙ has)

-- and after those at a place were taken
pub owned_less : (vs : List (Key × Option ℕ)) (ss new : List (Key × Spot)) → ((p : Key) (b : ℕ) → b < 64 → owns_at new p b ≡ true → owns_at ss p b ≡ true) → AreOwned (seen_nodes ss vs) ss → AreOwned (seen_nodes new vs) new
owned_less vs ss new fewer owned p b few has = clean (version_of vs (key_at p b)) (sym (ap (λ o. is_clean (node_mark o)) (seen_found ss vs (key_at p b))) ∙ owned p b few (fewer p b few has)) (ap (λ o. is_clean (node_mark o)) (seen_found new vs (key_at p b)))
  where
    own : owns_at new (place_of (key_at p b)) (bit_of (key_at p b)) ≡ true
    own = ap₂ (λ (q : Key) x. owns_at new q x) (stands_there p b few).0 (stands_there p b few).1 ∙ has

    clean : (o : Option (Option ℕ)) → is_clean (node_mark (option_map (node_with ss (key_at p b)) o)) ≡ true → is_clean_at (seen_nodes new vs) (key_at p b) ≡ is_clean (node_mark (option_map (node_with new (key_at p b)) o)) → is_clean_at (seen_nodes new vs) (key_at p b) ≡ true
    clean None was is = cc
    clean (Some None) was is = cc
    clean (Some (Some n)) was is = is ∙ own

-- a bit of a place's spot set or cleared
abbrev with_own : Spot → ℕ → Spot
with_own s word = record { own = word; live = s.live }

pub owns_set : (ss new : List (Key × Spot)) (key : Key) (clean : Bool) (s : Spot) (word : ℕ) → spot_of ss (place_of key) ≡ Some s → word ≡ cond clean (bit_or s.own (2 ^ bit_of key)) (bit_and s.own (bit_not w64 (2 ^ bit_of key)))
    → new ≡ set_value (same_key (place_of key)) ss (record s { own = word }) → Owns key clean ss new
owns_set ss new key clean s word found is spots = record {
  owns = λ p b low. ap (λ o. has_bit (own_word o) b) (now p) ∙ owns p b low (same_key (place_of key) p) refl;
  lives = λ p b. ap (λ o. has_bit (live_word o) b) (now p) ∙ lives p b (same_key (place_of key) p) refl;
  there = λ p. ap is_some (now p) ∙ there p (same_key (place_of key) p) refl;
}
  where
    now : (p : Key) → spot_of new p ≡ cond (same_key (place_of key) p) (Some (with_own s word)) (spot_of ss p)
    now p = ap (λ xs. spot_of xs p) spots ∙ set-writes ss (place_of key) (with_own s word) (ap is_some found) p

    at : (p : Key) → same_key (place_of key) p ≡ true → spot_of ss p ≡ Some s
    at p same = ap (spot_of ss) (sym (same_key-true (place_of key) p same)) ∙ found

    owns : (p : Key) (b : ℕ) → b < 64 → (x : Bool) → same_key (place_of key) p ≡ x → has_bit (own_word (cond x (Some (with_own s word)) (spot_of ss p))) b ≡ cond (x && (b == bit_of key)) clean (owns_at ss p b)
    owns p b low false other = refl
    owns p b low true same = ap (λ w. has_bit w b) is ∙ (bit_set s.own (bit_of key) clean b (omega arith) low ∙ ap (cond (b == bit_of key) clean) (sym (ap (λ o. has_bit (own_word o) b) (at p same))))

    lives : (p : Key) (b : ℕ) (x : Bool) → same_key (place_of key) p ≡ x → has_bit (live_word (cond x (Some (with_own s word)) (spot_of ss p))) b ≡ lives_at ss p b
    lives p b false other = refl
    lives p b true same = sym (ap (λ o. has_bit (live_word o) b) (at p same))

    there : (p : Key) (x : Bool) → same_key (place_of key) p ≡ x → is_some (cond x (Some (with_own s word)) (spot_of ss p)) ≡ has_spot ss p
    there p false other = refl
    there p true same = sym (ap is_some (at p same))

-- a place without a spot has no bit to clear
pub owns_none : (ss : List (Key × Spot)) (key : Key) (clean : Bool) → spot_of ss (place_of key) ≡ None → (clean ≡ true → has_spot ss (place_of key) ≡ true) → Owns key clean ss ss
owns_none ss key clean gone there = record { owns = λ p b low. own p b clean refl (same_key (place_of key) p) refl (b == bit_of key); lives = λ p b. refl; there = λ p. refl }
  where
    own : (p : Key) (b : ℕ) (c : Bool) → clean ≡ c → (x : Bool) → same_key (place_of key) p ≡ x → (y : Bool) → owns_at ss p b ≡ cond (x && y) clean (owns_at ss p b)
    own p b c is false other y = refl
    own p b c is true same false = refl
    own p b true is true same true = let never : false ≡ true = sym (ap is_some gone) ∙ there is in cc
    own p b false is true same true = ap (λ (q : Key). owns_at ss q b) (sym (same_key-true (place_of key) p same)) ∙ (ap (λ o. has_bit (own_word o) b) gone ∙ (no_bit b ∙ sym is))

-- the version of a key taken, where it has one and where it has none
some_dropped : (o : Option (Option ℕ)) → is_some o ≡ true → ◌≡◌ {A = Option (Option ℕ)} (Some None) (option_map (λ v. None) o)
some_dropped None there = cc
some_dropped (Some v) there = refl

pub versions_dropped : (vs new : List (Key × Option ℕ)) (key : Key) → is_some (version_of vs key) ≡ true → new ≡ set_value (same_key key) vs None → (k : Key) → version_of new k ≡ cond (same_key key k) (option_map (λ v. None) (version_of vs k)) (version_of vs k)
versions_dropped vs new key there is k = ap (λ xs. version_of xs k) is ∙ (set-writes vs key None there k ∙ go (same_key key k) refl)
  where
    go : (b : Bool) → same_key key k ≡ b → cond b (Some None) (version_of vs k) ≡ cond b (option_map (λ v. None) (version_of vs k)) (version_of vs k)
    go false other = refl
    go true same = some_dropped (version_of vs k) (ap (λ (x : Key). is_some (version_of vs x)) (sym (same_key-true key k same)) ∙ there)

pub versions_kept : (vs : List (Key × Option ℕ)) (key : Key) → version_of vs key ≡ None → (k : Key) → version_of vs k ≡ cond (same_key key k) (option_map (λ v. None) (version_of vs k)) (version_of vs k)
versions_kept vs key gone k = go (same_key key k) refl
  where
    go : (b : Bool) → same_key key k ≡ b → version_of vs k ≡ cond b (option_map (λ v. None) (version_of vs k)) (version_of vs k)
    go false other = refl
    go true same = let none : version_of vs k ≡ None = ap (version_of vs) (sym (same_key-true key k same)) ∙ gone in rw none refl

-- the mark of a key, by its version
pub seen_mark_of : (ss : List (Key × Spot)) (vs : List (Key × Option ℕ)) (k : Key) (v : Option ℕ) → version_of vs k ≡ Some v → seen_mark ss k v ≡ node_mark (node_of (seen_nodes ss vs) k)
seen_mark_of ss vs k v is = sym (ap node_mark (seen_found ss vs k) ∙ ap (λ o. node_mark (option_map (node_with ss k) o)) is)

pub seen_no_mark : (ss : List (Key × Spot)) (vs : List (Key × Option ℕ)) (k : Key) → version_of vs k ≡ None → None ≡ node_mark (node_of (seen_nodes ss vs) k)
seen_no_mark ss vs k is = sym (ap node_mark (seen_found ss vs k) ∙ ap (λ o. node_mark (option_map (node_with ss k) o)) is)

-- Other spots with the same own bits: what is seen is the same.
module _ (old new : TablesSeen) (versions : new.versions ≡ old.versions) (same : (p : Key) (b : ℕ) → owns_at new.spots p b ≡ owns_at old.spots p b) where
  pub same_seen : seen_nodes new.spots new.versions ≡ seen_nodes old.spots old.versions
  same_seen = ap (seen_nodes new.spots) versions ∙ seen_same old.spots new.spots old.versions (λ k. same (place_of k) (bit_of k))

  pub same_owned : AreOwned (seen_nodes old.spots old.versions) old.spots → AreOwned (seen_nodes new.spots new.versions) new.spots
  same_owned owned p b few has = ap (λ es. is_clean_at es (key_at p b)) same_seen ∙ owned p b few (sym (same p b) ∙ has)

pub put_owns : (ss new : List (Key × Spot)) (place : Key) (s : Spot) (live : ℕ) → spot_of ss place ≡ Some s → new ≡ set_value (same_key place) ss (record s { live = live }) → (p : Key) (b : ℕ) → owns_at new p b ≡ owns_at ss p b
put_owns ss new place s live found spots p b = ap (λ xs. owns_at xs p b) spots ∙ (ap (λ o. has_bit (own_word o) b) (set-writes ss place (record s { live = live }) (ap is_some found) p) ∙ go (same_key place p) refl)
  where
    go : (x : Bool) → same_key place p ≡ x → has_bit (own_word (cond x (Some (record s { live = live })) (spot_of ss p))) b ≡ owns_at ss p b
    go false other = refl
    go true same = sym (ap (λ (q : Key). owns_at ss q b) (sym (same_key-true place p same)) ∙ ap (λ o. has_bit (own_word o) b) found)

pub add_owns : (ss new : List (Key × Spot)) (place : Key) (live : ℕ) → spot_of ss place ≡ None → new ≡ ss ++ (place, record { own = 0; live = live }) ∷ [] → (p : Key) (b : ℕ) → owns_at new p b ≡ owns_at ss p b
add_owns ss new place live gone spots p b = ap (λ xs. owns_at xs p b) spots ∙ (ap (λ o. has_bit (own_word o) b) (add-writes ss place (record { own = 0; live = live }) gone p) ∙ go (same_key place p) refl)
  where
    go : (x : Bool) → same_key place p ≡ x → has_bit (own_word (cond x (Some (record { own = 0; live = live })) (spot_of ss p))) b ≡ owns_at ss p b
    go false other = refl
    go true same = no_bit b ∙ sym (ap (λ (q : Key). owns_at ss q b) (sym (same_key-true place p same)) ∙ (ap (λ o. has_bit (own_word o) b) gone ∙ no_bit b))

-- a mark given and taken
module _ (old new : TablesSeen) (key : Key) (clean : Bool) (owns : Owns key clean old.spots new.spots) (owned : AreOwned (seen_nodes old.spots old.versions) old.spots) where
  pub given_nodes : (n : ℕ) → ((k : Key) → version_of new.versions k ≡ cond (same_key key k) (Some (Some n)) (version_of old.versions k)) → Gives key (Some (record { mark = Some (record { version = n; clean = clean }) })) (seen_nodes old.spots old.versions) (seen_nodes new.spots new.versions)
  given_nodes n writes = seen_given old.spots new.spots old.versions new.versions key clean owns n writes

  pub given_owned : (n : ℕ) → ((k : Key) → version_of new.versions k ≡ cond (same_key key k) (Some (Some n)) (version_of old.versions k)) → AreOwned (seen_nodes new.spots new.versions) new.spots
  given_owned n writes = owned_after (seen_nodes old.spots old.versions) (seen_nodes new.spots new.versions) old.spots new.spots key clean _ (λ is. is) (given_nodes n writes) owns owned

-- whether a key has a node, by its version
pub no_node : (ss : List (Key × Spot)) (vs : List (Key × Option ℕ)) (k : Key) → version_of vs k ≡ None → has_node (seen_nodes ss vs) k ≡ false
no_node ss vs k gone = seen_there ss vs k ∙ ap is_some gone

pub node_there : (ss : List (Key × Spot)) (vs : List (Key × Option ℕ)) (k : Key) → has_node (seen_nodes ss vs) k ≡ true → version_of vs k ≡ None → false ≡ true
node_there ss vs k there gone = sym (no_node ss vs k gone) ∙ there

pub taken_nodes : (old new : TablesSeen) (key : Key) → Owns key false old.spots new.spots → ((k : Key) → version_of new.versions k ≡ cond (same_key key k) (option_map (λ v. None) (version_of old.versions k)) (version_of old.versions k))
    → Gives key (option_map (λ n. record { mark = None }) (node_of (seen_nodes old.spots old.versions) key)) (seen_nodes old.spots old.versions) (seen_nodes new.spots new.versions)
taken_nodes old new key owns writes = seen_taken old.spots new.spots old.versions new.versions key false owns (λ k. writes k ∙ go k (same_key key k) refl)
  where
    go : (k : Key) (b : Bool) → same_key key k ≡ b → cond b (option_map (λ v. None) (version_of old.versions k)) (version_of old.versions k) ≡ cond b (option_map (λ v. None) (version_of old.versions key)) (version_of old.versions k)
    go k false other = refl
    go k true same = ap (λ (x : Key). option_map (λ v. None) (version_of old.versions x)) (sym (same_key-true key k same))
