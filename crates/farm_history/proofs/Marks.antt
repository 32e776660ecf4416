-- How the marks and the drawings under way go on, entry by entry.
use Rattle.std.proofs.Common.{◌≡◌, ℕ, suc, ◌<◌, ◌≤◌, Bool, true, false, not, ◌||◌, ◌==◌, nat_lt, List, [], ◌∷◌, ◌++◌, length, map, filter, Option, Some, None, option_map, refl, sym, ap, ap₂, ◌∙◌, arith}
use Rattle.std.proofs.lemmas.List.{map-append}
use Rattle.std.proofs.lemmas.Bool.Decides.{nat_tests}
use Rattle.farm_history.specs.declared.keys.Key.{Key}
use Rattle.farm_history.specs.declared.keys.Mark.{Mark}
use Rattle.farm_history.specs.declared.answers.ClaimAnswer.TheVariants.{Job}
use Rattle.farm_history.specs.declared.answers.Finished.{Finished}
use Rattle.farm_history.specs.declared.answers.Finished.TheVariants.{Stored, PutFailed}
use Rattle.farm_history.specs.Entries.{Entry, Claim, Finish}
use Rattle.farm_history.specs.Plans.{Plan, same_key}
use Rattle.farm_history.specs.Past.{Flight, version, flights, flight_in, shown, touches, is_touched_after}
use Rattle.farm_history.specs.Rules.{EndFits}
use Rattle.farm_history.specs.Seen.{dirtied, mark_at, mark_after, taken_of, overtaken_by, taken_after}
use Rattle.farm_history.specs.Lists.{Each}
use Rattle.farm_history.proofs.Lists.{map-filter}
use Rattle.farm_history.proofs.Places.{flights_earlier, shown_earlier, untouched}
use Rattle.farm_history.proofs.Apart.{stored_here, stored_other, lost_here, lost_other}

-- the entry is no Finish
abbrev pub is_finish : Entry → Bool
is_finish (Finish t drawn answer) = true
is_finish _ = false

-- what an entry changes of what was touched after an earlier place
pub touched_more : (p : Plan) (g : List Entry) (e : Entry) (place : ℕ) (k : Key) → place < length g → is_touched_after p (e ∷ g) place k ≡ (touches p g e k || is_touched_after p g place k)
unfolding is_touched_after
touched_more p g e place k lt = let now : nat_lt place (length g) ≡ true = grind (arith, nat_tests) in grind arith

mark_more : (p : Plan) (g : List Entry) (e : Entry) (k : Key) (s : Option (List Entry)) → ((before : List Entry) → s ≡ Some before → length before < length g) → mark_at p (e ∷ g) k s ≡ option_map (dirtied (touches p g e k)) (mark_at p g k s)
mark_more p g e k None earlier = refl
mark_more p g e k (Some before) earlier =
    let t = touched_more p g e (length before) k (earlier before refl) in
    ap (λ b. Some (record { version = version before; clean = b })) (grind arith)

-- an entry that is no Finish makes the marks dirty whose keys it touches, and changes nothing else of them
pub mark_dirtied : (p : Plan) (g : List Entry) (e : Entry) (k : Key) → is_finish e ≡ false → mark_after p (e ∷ g) k ≡ option_map (dirtied (touches p g e k)) (mark_after p g k)
unfolding shown
mark_dirtied p g (Finish t drawn answer) k no_finish = let never : true ≡ false = no_finish in cc
mark_dirtied p g e k no_finish = mark_more p g e k (shown g k) (shown_earlier g k)

-- and where it doesn't touch the key, the mark stays
dirtied_not : (m : Option Mark) → option_map (dirtied false) m ≡ m
dirtied_not None = refl
dirtied_not (Some m) = refl

pub mark_quiet : (p : Plan) (g : List Entry) (e : Entry) (k : Key) → is_finish e ≡ false → touches p g e k ≡ false → mark_after p (e ∷ g) k ≡ mark_after p g k
mark_quiet p g e k no_finish quiet = mark_dirtied p g e k no_finish ∙ (ap (λ b. option_map (dirtied b) (mark_after p g k)) quiet ∙ dirtied_not (mark_after p g k))

-- a drawing that is stored gives its key a mark
pub mark_stored : (p : Plan) (g : List Entry) (t : ℕ) (drawn clean : Bool) (f : Flight) → flight_in (flights g) t ≡ Some f → EndFits p g f drawn (Stored clean) → mark_after p (Finish t drawn (Stored clean) ∷ g) f.key ≡ Some (record { version = version f.before; clean = clean })
unfolding shown is_touched_after
mark_stored p g t true clean f is fits = ap (mark_at p (Finish t true (Stored clean) ∷ g) f.key) (stored_here (flight_in (flights g) t) f (shown g f.key) is) ∙ ap (λ c. Some (record { version = version f.before; clean = c })) (sym fits)
mark_stored p g t false clean f is fits = absurd fits

pub mark_stored_other : (p : Plan) (g : List Entry) (t : ℕ) (drawn clean : Bool) (f : Flight) (k : Key) → flight_in (flights g) t ≡ Some f → same_key f.key k ≡ false → mark_after p (Finish t drawn (Stored clean) ∷ g) k ≡ mark_after p g k
unfolding shown is_touched_after
mark_stored_other p g t drawn clean f k is other = ap (mark_at p (Finish t drawn (Stored clean) ∷ g) k) (stored_other (flight_in (flights g) t) f k (shown g k) is other) ∙ same (shown g k)
  where
    same : (s : Option (List Entry)) → mark_at p (Finish t drawn (Stored clean) ∷ g) k s ≡ mark_at p g k s
    same None = refl
    same (Some before) = refl

-- one that the store refused takes it
pub mark_lost : (p : Plan) (g : List Entry) (t : ℕ) (drawn : Bool) (f : Flight) → flight_in (flights g) t ≡ Some f → mark_after p (Finish t drawn PutFailed ∷ g) f.key ≡ None
unfolding shown
mark_lost p g t drawn f is = ap (mark_at p (Finish t drawn PutFailed ∷ g) f.key) (lost_here (flight_in (flights g) t) f (shown g f.key) is)

pub mark_lost_other : (p : Plan) (g : List Entry) (t : ℕ) (drawn : Bool) (f : Flight) (k : Key) → flight_in (flights g) t ≡ Some f → same_key f.key k ≡ false → mark_after p (Finish t drawn PutFailed ∷ g) k ≡ mark_after p g k
unfolding shown is_touched_after
mark_lost_other p g t drawn f k is other = ap (mark_at p (Finish t drawn PutFailed ∷ g) k) (lost_other (flight_in (flights g) t) f k (shown g k) is other) ∙ same (shown g k)
  where
    same : (s : Option (List Entry)) → mark_at p (Finish t drawn PutFailed ∷ g) k s ≡ mark_at p g k s
    same None = refl
    same (Some before) = refl

-- and one without memory leaves all marks
pub mark_cut : (p : Plan) (g : List Entry) (t : ℕ) (drawn : Bool) (k : Key) → mark_after p (Finish t drawn Finished.NoMemory ∷ g) k ≡ mark_after p g k
unfolding shown is_touched_after
mark_cut p g t drawn k = same (shown g k)
  where
    same : (s : Option (List Entry)) → mark_at p (Finish t drawn Finished.NoMemory ∷ g) k s ≡ mark_at p g k s
    same None = refl
    same (Some before) = refl

-- Drawings under way.

taken_more : (p : Plan) (g : List Entry) (e : Entry) (fs : List Flight) → Each (λ (f : Flight). length f.before < length g) fs → map (taken_of p (e ∷ g)) fs ≡ map (overtaken_by (touches p g e)) (map (taken_of p g) fs)
taken_more p g e [] earlier = refl
taken_more p g e (f ∷ fs) earlier =
    let here : taken_of p (e ∷ g) f ≡ overtaken_by (touches p g e) (taken_of p g f) =
    ap (λ b. record { ticket = f.ticket; key = f.key; version = version f.before; touched = b }) (touched_more p g e (length f.before) f.key earlier.0)
    in
    ap₂ (λ x xs. x ∷ xs) here (taken_more p g e fs earlier.1)

-- an entry that is neither a Claim answered Job nor a Finish touches the drawings whose keys it touches
pub taken_dirtied : (p : Plan) (g : List Entry) (e : Entry) → flights (e ∷ g) ≡ flights g → taken_after p (e ∷ g) ≡ map (overtaken_by (touches p g e)) (taken_after p g)
taken_dirtied p g e same = ap (map (taken_of p (e ∷ g))) same ∙ taken_more p g e (flights g) (flights_earlier g)

taken_same : (p : Plan) (g : List Entry) (e : Entry) (fs : List Flight) → ((k : Key) → touches p g e k ≡ false) → map (taken_of p (e ∷ g)) fs ≡ map (taken_of p g) fs
taken_same p g e [] quiet = refl
taken_same p g e (f ∷ fs) quiet =
    let here : taken_of p (e ∷ g) f ≡ taken_of p g f =
    ap (λ b. record { ticket = f.ticket; key = f.key; version = version f.before; touched = b }) (untouched p g e (length f.before) f.key (quiet f.key))
    in
    ap₂ (λ x xs. x ∷ xs) here (taken_same p g e fs quiet)

-- one that touches nothing leaves them
pub taken_quiet : (p : Plan) (g : List Entry) (e : Entry) → flights (e ∷ g) ≡ flights g → ((k : Key) → touches p g e k ≡ false) → taken_after p (e ∷ g) ≡ taken_after p g
taken_quiet p g e same quiet = ap (map (taken_of p (e ∷ g))) same ∙ taken_same p g e (flights g) quiet

-- nothing is touched after the end
pub touched_never : (p : Plan) (h : List Entry) (place : ℕ) (k : Key) → length h ≤ suc place → is_touched_after p h place k ≡ false
unfolding is_touched_after
touched_never p [] place k h = refl
touched_never p (e ∷ g) place k h = let lt : nat_lt place (length g) ≡ false = grind (arith, nat_tests) in let rest : is_touched_after p g place k ≡ false = touched_never p g place k (omega arith) in grind arith

-- a Claim answered Job adds one, untouched
pub taken_claim : (p : Plan) (g : List Entry) (worker t : ℕ) (k : Key) (v : ℕ) → taken_after p (Claim worker (Job t k v) ∷ g) ≡ taken_after p g ++ record { ticket = t; key = k; version = version g; touched = false } ∷ []
unfolding flights is_touched_after
taken_claim p g worker t k v =
    map-append (taken_of p (Claim worker (Job t k v) ∷ g)) (flights g) _
    ∙ ap₂ (λ xs b. xs ++ record { ticket = t; key = k; version = version g; touched = b } ∷ []) (taken_same p g (Claim worker (Job t k v)) (flights g) (λ j. refl)) (touched_never p g (length g) k (omega arith))

-- a Finish takes its own out
pub taken_finish : (p : Plan) (g : List Entry) (t : ℕ) (drawn : Bool) (answer : Finished) → taken_after p (Finish t drawn answer ∷ g) ≡ filter (λ x. not (x.ticket == t)) (taken_after p g)
unfolding flights
taken_finish p g t drawn answer =
    map-filter (taken_of p (Finish t drawn answer ∷ g)) _ _ (flights g) (λ f. refl) ∙ ap (filter (λ x. not (x.ticket == t))) (taken_same p g (Finish t drawn answer) (flights g) (λ j. refl))
