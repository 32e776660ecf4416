-- Of each legal history: no metatile is drawn twice at once, and what is touched while it is being drawn is left dirty.
use Rattle.std.proofs.Common.{◌≡◌, ℕ, ◌<◌, Bool, true, false, cond, ◌==◌, ◌⊎◌, inl, inr, List, [], ◌∷◌, ◌++◌, find, filter, length, Option, Some, None, refl, sym, ap, ◌∙◌, subst, arith}
use Rattle.std.specs.Option.{option_or}
use Rattle.std.proofs.lemmas.Bool.Decides.{nat_tests}
use Rattle.std.proofs.lemmas.List.Folds.{find-append}
use Rattle.farm_history.specs.declared.keys.Key.{Key}
use Rattle.farm_history.specs.declared.answers.ClaimAnswer.TheVariants.{Job}
use Rattle.farm_history.specs.declared.answers.Finished.{Finished}
use Rattle.farm_history.specs.declared.answers.Finished.TheVariants.{Stored}
use Rattle.farm_history.specs.Entries.{Entry, Claim, Finish, EachMoment, EachPast}
use Rattle.farm_history.specs.Plans.{Plan, AreApart, same_key}
use Rattle.farm_history.specs.Past.{Flight, flights, flight_in, jobs, is_touched_after}
use Rattle.farm_history.specs.Rules.{FlightFits, Fits, Legal}
use Rattle.farm_history.specs.Laws.{flight_key, GapAt, StaysDirty}
use Rattle.farm_history.proofs.Lists.{same_key-self, any-append, each-map, each-none, find-none}
use Rattle.farm_history.proofs.Apart.{job_is_next}
use Rattle.farm_history.proofs.Numbers.{tickets_below}
use Rattle.farm_history.proofs.Flying.{found_last, still_flies}
use Rattle.farm_history.proofs.Sounds.{legal_before, sound}
use Rattle.farm_laws.specs.Promise.{is_finished_in}

-- What holds at each moment, and of each past, at one of them.

pub at_moment : (P : List Entry → Entry → Type 0) (later : List Entry) (e : Entry) (g : List Entry) → EachMoment P (later ++ e ∷ g) → P g e
at_moment P [] e g each = each.0
at_moment P (x ∷ later) e g each = at_moment P later e g each.1

here : (P : List Entry → Type 0) (h : List Entry) → EachPast P h → P h
here P [] each = each
here P (x ∷ h) each = each.0

-- The drawing of a Claim.

-- a drawing as it is claimed
abbrev flight_of : ℕ → Key → List Entry → Flight
flight_of t k before = record { ticket = t; key = k; before = before }

-- the ticket is given, and of the drawings under way the one of that ticket, if there is one, is this
record IsOnly (t : ℕ) (f : Flight) (g : List Entry) : Type 0 where
  below : t < jobs g
  found : (flight_in (flights g) t ≡ Some f) ⊎ (flight_in (flights g) t ≡ None)

new_flies : (p : Plan) (told : Bool) (worker t v : ℕ) (k : Key) (before : List Entry) → Legal p told (Claim worker (Job t k v) ∷ before) → flight_in (flights (Claim worker (Job t k v) ∷ before)) t ≡ Some (flight_of t k before)
unfolding Fits flights
new_flies p told worker t v k before legal =
    let f : Flight = flight_of t k before in
    let q : Flight → Bool = λ x. x.ticket == t in
    let is = (job_is_next p before t k v legal.0).ticket_is in
    let own : (t == t) ≡ true = grind (arith, nat_tests) in
    let none : find q (flights before) ≡ None = find-none q (flights before) (each-none q (flights before) (each-map _ _ (flights before) (λ x lt. grind (arith, nat_tests)) (tickets_below p told before legal.1))) in
    find-append q (flights before) (f ∷ []) ∙ (ap (λ b. option_or (find q (flights before)) (cond b (Some f) None)) own ∙ found_last (find q (flights before)) f none)

only_new : (p : Plan) (told : Bool) (worker t v : ℕ) (k : Key) (before : List Entry) → Legal p told (Claim worker (Job t k v) ∷ before) → IsOnly t (flight_of t k before) (Claim worker (Job t k v) ∷ before)
unfolding Fits jobs
only_new p told worker t v k before legal = record {
  below = let is = (job_is_next p before t k v legal.0).ticket_is in omega arith;
  found = inl (new_flies p told worker t v k before legal);
}

-- what is not found is not found among fewer
none_fewer : {X : Type 0} (q r : X → Bool) (xs : List X) → find q xs ≡ None → find q (filter r xs) ≡ None
none_fewer q r [] none = refl
none_fewer {X} q r (x ∷ xs) none = go (q x) (r x) refl (none_fewer q r xs) none
  where
    go : (b c : Bool) → q x ≡ b → (find q xs ≡ None → find q (filter r xs) ≡ None) → cond b (Some x) (find q xs) ≡ None → find q (cond c (x ∷ filter r xs) (filter r xs)) ≡ None
    go true c is ih none = cc
    go false true is ih none = ap (λ d. cond d (Some x) (find q (filter r xs))) is ∙ ih none
    go false false is ih none = ih none

-- of a filter that takes out what passes the test nothing is found
none_kept : {X : Type 0} (q r : X → Bool) (xs : List X) → ((x : X) → q x ≡ true → r x ≡ false) → find q (filter r xs) ≡ None
none_kept q r [] off = refl
none_kept {X} q r (x ∷ xs) off = go (q x) (r x) refl (off x) (none_kept q r xs off)
  where
    go : (b c : Bool) → q x ≡ b → (b ≡ true → c ≡ false) → find q (filter r xs) ≡ None → find q (cond c (x ∷ filter r xs) (filter r xs)) ≡ None
    go true true is off ih = let never = off refl in cc
    go false true is off ih = ap (λ d. cond d (Some x) (find q (filter r xs))) is ∙ ih
    go b false is off ih = ih

-- what is not found is not found at the end of a longer list that ends with another
none_longer : {X : Type 0} (q : X → Bool) (xs : List X) (x : X) → q x ≡ false → find q xs ≡ None → find q (xs ++ x ∷ []) ≡ None
none_longer q xs x other none = find-append q xs (x ∷ []) ∙ (ap (λ b. option_or (find q xs) (cond b (Some x) None)) other ∙ ap (λ o. option_or o None) none)

only_later : (p : Plan) (told : Bool) (e : Entry) (g : List Entry) (t : ℕ) (f : Flight) → Fits p told g e → IsOnly t f g → IsOnly t f (e ∷ g)
unfolding Fits flights jobs
only_later p told (Claim worker (Job u k v)) g t f fits o = go o.found
  where
    other : (u == t) ≡ false
    other = let is = (job_is_next p g u k v fits).ticket_is in let lt = o.below in grind (arith, nat_tests)

    go : (flight_in (flights g) t ≡ Some f) ⊎ (flight_in (flights g) t ≡ None) → IsOnly t f (Claim worker (Job u k v) ∷ g)
    go (inl is) = record { below = let lt = o.below in omega arith; found = inl (still_flies (Claim worker (Job u k v)) g t f refl is) }
    go (inr none) = record { below = let lt = o.below in omega arith; found = inr (none_longer (λ (x : Flight). x.ticket == t) (flights g) (flight_of u k g) other none) }
only_later p told (Finish u drawn answer) g t f fits o = go (u == t) refl o.found
  where
    go : (b : Bool) → (u == t) ≡ b → (flight_in (flights g) t ≡ Some f) ⊎ (flight_in (flights g) t ≡ None) → IsOnly t f (Finish u drawn answer ∷ g)
    go true same found = record { below = o.below; found = inr (none_kept (λ (x : Flight). x.ticket == t) _ (flights g) (λ x is. grind (arith, nat_tests))) }
    go false other (inl is) = record { below = o.below; found = inl (still_flies (Finish u drawn answer) g t f other is) }
    go false other (inr none) = record { below = o.below; found = inr (none_fewer (λ (x : Flight). x.ticket == t) _ (flights g) none) }
only_later p told e g t f fits o = record { below = o.below; found = o.found }

only : (p : Plan) (told : Bool) (between : List Entry) (worker t v : ℕ) (k : Key) (before : List Entry) → Legal p told (between ++ Claim worker (Job t k v) ∷ before) → IsOnly t (flight_of t k before) (between ++ Claim worker (Job t k v) ∷ before)
only p told [] worker t v k before legal = only_new p told worker t v k before legal
only p told (e ∷ between) worker t v k before legal = only_later p told e (between ++ Claim worker (Job t k v) ∷ before) t (flight_of t k before) legal.0 (only p told between worker t v k before legal.1)

-- No metatile is drawn twice at once.

-- without its Finish a drawing is still under way
still : (p : Plan) (told : Bool) (between : List Entry) (worker t v : ℕ) (k : Key) (before : List Entry) → Legal p told (between ++ Claim worker (Job t k v) ∷ before) → is_finished_in between t ≡ false →
    flight_in (flights (between ++ Claim worker (Job t k v) ∷ before)) t ≡ Some (flight_of t k before)
still p told [] worker t v k before legal none = new_flies p told worker t v k before legal
still p told (Finish u drawn answer ∷ between) worker t v k before legal none =
    still_flies (Finish u drawn answer) (between ++ Claim worker (Job t k v) ∷ before) t (flight_of t k before) (grind arith) (still p told between worker t v k before legal.1 (grind arith))
still p told (e ∷ between) worker t v k before legal none =
    still_flies e (between ++ Claim worker (Job t k v) ∷ before) t (flight_of t k before) refl (still p told between worker t v k before legal.1 none)

apart_last : (fs : List Flight) (f x : Flight) (q : Flight → Bool) → AreApart flight_key (fs ++ x ∷ []) → find q fs ≡ Some f → same_key x.key f.key ≡ false
apart_last [] f x q apart is = cc
apart_last (y ∷ fs) f x q apart is = go (q y) (apart_last fs f x q apart.1) is
  where
    other : same_key x.key y.key ≡ false
    other = let none = sym (any-append (λ z. same_key (flight_key z) (flight_key y)) fs (x ∷ [])) ∙ apart.0 in grind (arith, none)

    go : (b : Bool) → (find q fs ≡ Some f → same_key x.key f.key ≡ false) → cond b (Some y) (find q fs) ≡ Some f → same_key x.key f.key ≡ false
    go true later is = let same : y ≡ f = cc in subst (λ (z : Flight). same_key x.key z.key ≡ false) same other
    go false later is = later is

-- between two Claims of one metatile stands the Finish of the first
pub drawn_once : (p : Plan) (told : Bool) (between before : List Entry) (worker other ticket next v w : ℕ) (k : Key) → Legal p told (Claim other (Job next k w) ∷ (between ++ Claim worker (Job ticket k v) ∷ before)) →
    is_finished_in between ticket ≡ true
unfolding flights
drawn_once p told between before worker other ticket next v w k at = go (is_finished_in between ticket) refl
  where
    g : List Entry
    g = between ++ Claim worker (Job ticket k v) ∷ before

    apart : AreApart flight_key (flights g ++ flight_of next k g ∷ [])
    apart = here (λ past. AreApart flight_key (flights past)) (Claim other (Job next k w) ∷ g) (sound p told (Claim other (Job next k w) ∷ g) at).single

    go : (b : Bool) → is_finished_in between ticket ≡ b → is_finished_in between ticket ≡ true
    go true is = is
    go false none =
        let flies = still p told between worker ticket v k before at.1 none in
        let never : same_key k k ≡ false = apart_last (flights g) (flight_of ticket k before) (flight_of next k g) (λ x. x.ticket == ticket) apart flies in
        let own = same_key-self k in
        cc

-- What is touched while it is being drawn is left dirty.

-- where a drawing ends it was under way
ended : (p : Plan) (g : List Entry) (o : Option Flight) (f : Flight) (drawn : Bool) (answer : Finished) → FlightFits p g o drawn answer → (o ≡ Some f) ⊎ (o ≡ None) → o ≡ Some f
ended p g o f drawn answer fits (inl is) = is
ended p g None f drawn answer fits (inr none) = absurd fits
ended p g (Some x) f drawn answer fits (inr none) = cc

pub left_dirty : (p : Plan) (told : Bool) (h later between before : List Entry) (worker ticket v : ℕ) (k : Key) (drawn clean : Bool) → Legal p told h →
    h ≡ later ++ Finish ticket drawn (Stored clean) ∷ (between ++ Claim worker (Job ticket k v) ∷ before) → is_touched_after p (between ++ Claim worker (Job ticket k v) ∷ before) (length before) k ≡ true →
    StaysDirty p h (length (between ++ Claim worker (Job ticket k v) ∷ before)) k clean
unfolding Fits
left_dirty p told h later between before worker ticket v k drawn clean legal is touched =
    here (GapAt p) h (sound p told h legal).gap later ticket drawn clean g f is flies touched
  where
    g : List Entry
    g = between ++ Claim worker (Job ticket k v) ∷ before

    f : Flight
    f = flight_of ticket k before

    at : Legal p told (Finish ticket drawn (Stored clean) ∷ g)
    at = legal_before p told later (Finish ticket drawn (Stored clean) ∷ g) (subst (Legal p told) is legal)

    flies : flight_in (flights g) ticket ≡ Some f
    flies = ended p g (flight_in (flights g) ticket) f drawn (Stored clean) at.0 (only p told between worker ticket v k before at.1).found
