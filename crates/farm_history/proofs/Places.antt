-- What is touched after a place, and that flights and what is shown began at earlier places.
use Rattle.std.proofs.Common.{◌≡◌, ℕ, suc, ◌<◌, Bool, true, false, not, cond, nat_lt, List, [], ◌∷◌, length, Option, Some, None, refl, ap, arith}
use Rattle.std.proofs.lemmas.Bool.Decides.{nat_tests}
use Rattle.farm_history.specs.declared.keys.Key.{Key}
use Rattle.farm_history.specs.declared.answers.ClaimAnswer.TheVariants.{Job}
use Rattle.farm_history.specs.declared.answers.Finished.TheVariants.{Stored, PutFailed}
use Rattle.farm_history.specs.Entries.{Entry, Claim, Finish}
use Rattle.farm_history.specs.Plans.{Plan, same_key}
use Rattle.farm_history.specs.Past.{Flight, flights, flight_in, is_on, stored_on, shown, touches, is_touched_after, is_fresh}
use Rattle.farm_history.specs.Lists.{Each}
use Rattle.farm_history.proofs.Lists.{each-append, each-map, each-filter, each-find}

-- each flight was claimed before now
pub flights_earlier : (h : List Entry) → Each (λ (f : Flight). length f.before < length h) (flights h)
unfolding flights
flights_earlier [] = tt
flights_earlier (Claim worker (Job t k v) ∷ g) =
    each-append _ (flights g) _ (each-map _ _ (flights g) (λ f lt. omega arith) (flights_earlier g)) (omega arith)
flights_earlier (Finish t drawn answer ∷ g) = each-filter _ _ (flights g) (each-map _ _ (flights g) (λ f lt. omega arith) (flights_earlier g))
flights_earlier (_ ∷ g) = each-map _ _ (flights g) (λ f lt. omega arith) (flights_earlier g)

-- a flight that a ticket finds was claimed before now
pub flight_earlier : (h : List Entry) (t : ℕ) (f : Flight) → flight_in (flights h) t ≡ Some f → length f.before < length h
flight_earlier h t f e = each-find _ _ (flights h) f (flights_earlier h) e

-- what is shown was claimed before now
pub shown_earlier : (h : List Entry) (k : Key) (before : List Entry) → shown h k ≡ Some before → length before < length h
unfolding shown
shown_earlier [] k before e = cc
shown_earlier (Finish t drawn (Stored clean) ∷ g) k before e = go (flight_in (flights g) t) refl (shown_earlier g k before) e
  where
    go : (o : Option Flight) → flight_in (flights g) t ≡ o → (shown g k ≡ Some before → length before < length g) → stored_on o k (shown g k) ≡ Some before → length before < suc (length g)
    go None is ih s = let lt = ih s in omega arith
    go (Some f) is ih s = at (same_key f.key k) (flight_earlier g t f is) ih s
      where
        at : (b : Bool) → length f.before < length g → (shown g k ≡ Some before → length before < length g) → cond b (Some f.before) (shown g k) ≡ Some before → length before < suc (length g)
        at true lt ih s = let same : f.before ≡ before = cc in omega (arith, ap length same)
        at false lt ih s = let lt' = ih s in omega arith
shown_earlier (Finish t drawn PutFailed ∷ g) k before e = go (is_on (flight_in (flights g) t) k) (shown_earlier g k before) e
  where
    go : (b : Bool) → (shown g k ≡ Some before → length before < length g) → cond b None (shown g k) ≡ Some before → length before < suc (length g)
    go true ih s = cc
    go false ih s = let lt = ih s in omega arith
shown_earlier (e ∷ g) k before s = let lt = shown_earlier g k before s in omega arith

-- an entry makes nothing fresh that was not
pub fresh_less : (p : Plan) (g : List Entry) (e : Entry) (s : Option (List Entry)) (k : Key) → is_fresh p (e ∷ g) s k ≡ true → is_fresh p g s k ≡ true
unfolding is_touched_after
fresh_less p g e None k h = h
fresh_less p g e (Some before) k h = grind arith

-- what is stale stays stale
pub stale_stays : (p : Plan) (g : List Entry) (e : Entry) (s : Option (List Entry)) (k : Key) → is_fresh p g s k ≡ false → is_fresh p (e ∷ g) s k ≡ false
unfolding is_touched_after
stale_stays p g e None k h = h
stale_stays p g e (Some before) k h = grind arith

-- an entry that doesn't touch the key changes nothing of what is touched
pub untouched : (p : Plan) (g : List Entry) (e : Entry) (place : ℕ) (k : Key) → touches p g e k ≡ false → is_touched_after p (e ∷ g) place k ≡ is_touched_after p g place k
unfolding is_touched_after
untouched p g e place k h = grind arith

-- and one that does touches whatever began before it
pub touched : (p : Plan) (g : List Entry) (e : Entry) (place : ℕ) (k : Key) → touches p g e k ≡ true → place < length g → is_touched_after p (e ∷ g) place k ≡ true
unfolding is_touched_after
touched p g e place k h lt = let now : nat_lt place (length g) ≡ true = grind (arith, nat_tests) in grind arith

-- what is touched is not fresh
pub touched_stale : (p : Plan) (g : List Entry) (e : Entry) (s : Option (List Entry)) (k : Key) → ((before : List Entry) → s ≡ Some before → length before < length g) →
    touches p g e k ≡ true → is_fresh p (e ∷ g) s k ≡ false
touched_stale p g e None k earlier h = refl
touched_stale p g e (Some before) k earlier h = ap not (touched p g e (length before) k h (earlier before refl))
