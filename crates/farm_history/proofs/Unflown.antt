-- What a replay leaves behind: no drawing is under way, each ask is of the replay's own front, and it has four entries a kept key and one an update and a style at most.
use Rattle.std.proofs.Common.{◌≡◌, ℕ, suc, ◌+◌, ◌*◌, ◌≤◌, Bool, true, false, not, cond, ◌==◌, nat_lt, List, [], ◌∷◌, length, count_by, Option, Some, None, refl, sym, ap, ◌∙◌, arith}
use Rattle.std.proofs.lemmas.Bool.Decides.{nat_tests}
use Rattle.std.proofs.lemmas.List.Sums.{count_by-le-length}
use Rattle.farm_history.specs.declared.keys.Key.{Key}
use Rattle.farm_history.specs.declared.keys.Kept.{Kept}
use Rattle.farm_history.specs.declared.saved.Past.{Past}
use Rattle.farm_history.specs.declared.answers.Restyled.TheVariants.{Styled}
use Rattle.farm_history.specs.Entries.{Entry, Restyle}
use Rattle.farm_history.specs.Plans.{Plan, key_of}
use Rattle.farm_history.specs.Past.{flights, jobs, Numbered, numbers}
use Rattle.farm_history.specs.Laws.{ask_numbered}
use Rattle.farm_history.specs.Replays.{Saving, replay_front, replayer, lowest, replay_styles, replay_key, replay_keys, replay_change, replay_from, replay}
use Rattle.farm_history.proofs.Lists.{each-all}
use Rattle.farm_history.proofs.Opens.{count-either}
use Rattle.farm_history.proofs.Counts.{count-cons}

-- what a replay keeps of a history
record Rests (g : List Entry) : Type 0 where
  unflown : flights g ≡ []
  asks : (m : ℕ) (a : Numbered) → ask_numbered g m ≡ Some a → a.conn.front ≡ replay_front

rests_styles : (styles : List (Option ℕ)) (g : List Entry) → Rests g → Rests (replay_styles styles g)
unfolding replay_styles flights ask_numbered
rests_styles [] g r = r
rests_styles (None ∷ styles) g r = rests_styles styles g r
rests_styles (Some n ∷ styles) g r = rests_styles styles _ (record { unflown = r.unflown; asks = r.asks })

rests_key : (k : Key) (g : List Entry) → Rests g → Rests (replay_key k g)
unfolding flights ask_numbered
rests_key k g r = record {
  unflown = let own : (jobs g == jobs g) ≡ true = grind (arith, nat_tests) in rw (r.unflown, own) refl;
  asks = λ m a is. go m a (numbers g == m) is;
}
  where
    new : ℕ → Numbered
    new m = record { conn = replayer; number = numbers g; key = key_of (lowest k); before = g }

    go : (m : ℕ) (a : Numbered) (b : Bool) → cond b (Some (new m)) (ask_numbered g m) ≡ Some a → a.conn.front ≡ replay_front
    go m a true is = let same : new m ≡ a = cc in sym (ap (λ (x : Numbered). x.conn.front) same)
    go m a false is = r.asks m a is

rests_keys : (v : ℕ) (xs : List Kept) (g : List Entry) → Rests g → Rests (replay_keys v xs g)
unfolding replay_keys
rests_keys v [] g r = r
rests_keys v (x ∷ xs) g r = rests_keys v xs _ (go (x.version == v))
  where
    go : (b : Bool) → Rests (cond b (replay_key x.key g) g)
    go true = rests_key x.key g r
    go false = r

rests_change : (p : Plan) (c : Past) (g : List Entry) → Rests g → Rests (replay_change p c g)
unfolding flights ask_numbered
rests_change p (Past.Update n) g r = record { unflown = r.unflown; asks = r.asks }
rests_change p (Past.Renew n) g r = record { unflown = r.unflown; asks = r.asks }

rests_from : (p : Plan) (kept : List Kept) (v : ℕ) (cs : List Past) (g : List Entry) → Rests g → Rests (replay_from p kept v cs g)
unfolding replay_from
rests_from p kept v [] g r = rests_keys v kept g r
rests_from p kept v (c ∷ cs) g r = rests_from p kept (v + 1) cs _ (rests_change p c _ (rests_keys v kept g r))

rests_none : Rests []
unfolding flights ask_numbered
rests_none = record { unflown = refl; asks = λ m a is. cc }

rests : (p : Plan) (s : Saving) → Rests (replay p s)
rests p s = rests_from p s.clean 0 s.updates _ (rests_styles s.styles [] rests_none)

-- after a replay no drawing is under way
pub replay_unflown : (p : Plan) (s : Saving) → flights (replay p s) ≡ []
replay_unflown p s = (rests p s).unflown

-- and each of its asks is of the replay's own front
pub replay_asks : (p : Plan) (s : Saving) (m : ℕ) (a : Numbered) → ask_numbered (replay p s) m ≡ Some a → a.conn.front ≡ replay_front
replay_asks p s m a is = (rests p s).asks m a is

-- Its length.

long_styles : (styles : List (Option ℕ)) (g : List Entry) → length (replay_styles styles g) ≤ length styles + length g
unfolding replay_styles
long_styles [] g = omega arith
long_styles (None ∷ styles) g = let more = long_styles styles g in omega (arith, more)
long_styles (Some n ∷ styles) g = let more = long_styles styles (Restyle n (Styled 0) ∷ g) in omega (arith, more)

abbrev of_version : ℕ → Kept → Bool
of_version v x = x.version == v

abbrev from_version : ℕ → Kept → Bool
from_version v x = not (nat_lt x.version v)

long_keys : (v : ℕ) (xs : List Kept) (g : List Entry) → length (replay_keys v xs g) ≡ length g + 4 * count_by (of_version v) xs
unfolding replay_keys
long_keys v [] g = omega arith
long_keys v (x ∷ xs) g = long_keys v xs _ ∙ go (x.version == v) refl
  where
    go : (b : Bool) → (x.version == v) ≡ b → length (cond b (replay_key x.key g) g) + 4 * count_by (of_version v) xs ≡ length g + 4 * count_by (of_version v) (x ∷ xs)
    go true is = let more = count-cons (of_version v) x xs ∙ ap (λ b. cond b 1 0 + count_by (of_version v) xs) is in omega (arith, more)
    go false is = let more = count-cons (of_version v) x xs ∙ ap (λ b. cond b 1 0 + count_by (of_version v) xs) is in omega (arith, more)

-- those of a version and those of later ones
by_version : (v : ℕ) (xs : List Kept) → count_by (from_version v) xs ≡ count_by (of_version v) xs + count_by (from_version (v + 1)) xs
by_version v xs = count-either (from_version v) (of_version v) (from_version (v + 1)) xs (each-all _ xs (λ x. (grind (arith, nat_tests), grind (arith, nat_tests))))

long_change : (p : Plan) (c : Past) (g : List Entry) → length (replay_change p c g) ≡ suc (length g)
long_change p (Past.Update n) g = refl
long_change p (Past.Renew n) g = refl

long_from : (p : Plan) (kept : List Kept) (v : ℕ) (cs : List Past) (g : List Entry) → length (replay_from p kept v cs g) ≤ length g + (length cs + 4 * count_by (from_version v) kept)
unfolding replay_from
long_from p kept v [] g = omega (arith, long_keys v kept g, by_version v kept)
long_from p kept v (c ∷ cs) g = omega (arith, long_from p kept (v + 1) cs (replay_change p c (replay_keys v kept g)), long_change p c (replay_keys v kept g), long_keys v kept g, by_version v kept)

-- a replay has at most four entries a kept key, and one an update and a style
pub replay_length : (p : Plan) (s : Saving) → length (replay p s) ≤ length s.styles + (length s.updates + 4 * length s.clean)
replay_length p s = omega (arith, long_from p s.clean 0 s.updates (replay_styles s.styles []), long_styles s.styles [], count_by-le-length (from_version 0) s.clean)
