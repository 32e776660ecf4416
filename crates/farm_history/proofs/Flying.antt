-- A drawing under way stays so until its Finish, and the data before its Claim begin the newest data.
use Rattle.std.proofs.Common.{◌≡◌, ℕ, Bool, true, false, cond, ◌==◌, List, [], ◌∷◌, ◌++◌, length, map, filter, find, Option, Some, None, option_map, refl, sym, ap, ap₂, ◌∙◌, arith, append_assoc, append-nil, length-append}
use Rattle.std.specs.Option.{option_or}
use Rattle.std.proofs.lemmas.Bool.Decides.{nat_tests}
use Rattle.std.proofs.lemmas.List.{nil_from_length}
use Rattle.farm_history.specs.declared.answers.ClaimAnswer.TheVariants.{Job}
use Rattle.farm_history.specs.declared.answers.Updated.{Updated}
use Rattle.farm_history.specs.declared.answers.Renewed.{Renewed}
use Rattle.farm_history.specs.Lists.{Each}
use Rattle.farm_history.specs.Entries.{Entry, Claim, Finish, Update, Renew}
use Rattle.farm_history.specs.Past.{data_after, version, Flight, flights, flight_in}
use Rattle.farm_history.proofs.Lists.{each-append, each-map, each-filter, each-find}

pub find-map : {X Y : Type 0} (f : X → Y) (q : Y → Bool) (xs : List X) → find q (map f xs) ≡ option_map f (find (λ x. q (f x)) xs)
find-map f q [] = refl
find-map {X} {Y} f q (x ∷ xs) = go (q (f x)) (find-map f q xs)
  where
    go : (b : Bool) → find q (map f xs) ≡ option_map f (find (λ y. q (f y)) xs) → cond b (Some (f x)) (find q (map f xs)) ≡ option_map f (cond b (Some x) (find (λ y. q (f y)) xs))
    go true ih = refl
    go false ih = ih

-- what is found is found in a longer list
found_more : {X : Type 0} (q : X → Bool) (xs ys : List X) (x : X) → find q xs ≡ Some x → find q (xs ++ ys) ≡ Some x
found_more q [] ys x is = cc
found_more {X} q (y ∷ xs) ys x is = go (q y) (found_more q xs ys x) is
  where
    go : (b : Bool) → (find q xs ≡ Some x → find q (xs ++ ys) ≡ Some x) → cond b (Some y) (find q xs) ≡ Some x → cond b (Some y) (find q (xs ++ ys)) ≡ Some x
    go true ih is = is
    go false ih is = ih is

-- what passes one test is found although a filter takes out what fails another
pub found_kept : {X : Type 0} (q r : X → Bool) (xs : List X) → ((x : X) → q x ≡ true → r x ≡ true) → find q (filter r xs) ≡ find q xs
found_kept q r [] stays = refl
found_kept {X} q r (x ∷ xs) stays = go (r x) (q x) refl (stays x) (found_kept q r xs stays)
  where
    go : (c b : Bool) → q x ≡ b → (b ≡ true → c ≡ true) → find q (filter r xs) ≡ find q xs → find q (cond c (x ∷ filter r xs) (filter r xs)) ≡ cond b (Some x) (find q xs)
    go true b is stays ih = ap₂ (λ d o. cond d (Some x) o) is ih
    go false true is stays ih = let never = stays refl in cc
    go false false is stays ih = ih

-- what is found where nothing was before
pub found_last : (o : Option Flight) (f : Flight) → o ≡ None → option_or o (Some f) ≡ Some f
found_last o f none = rw none refl

-- whether the entry is the Finish of that ticket
abbrev pub ends_ticket : Entry → ℕ → Bool
ends_ticket (Finish t drawn answer) ticket = t == ticket
ends_ticket _ ticket = false

-- a flight stays one until a Finish of its ticket
pub still_flies : (e : Entry) (g : List Entry) (t : ℕ) (f : Flight) → ends_ticket e t ≡ false → flight_in (flights g) t ≡ Some f → flight_in (flights (e ∷ g)) t ≡ Some f
unfolding flights
still_flies (Claim worker (Job u k v)) g t f other is = found_more (λ (x : Flight). x.ticket == t) (flights g) _ f is
still_flies (Finish u drawn answer) g t f other is = found_kept (λ (x : Flight). x.ticket == t) _ (flights g) (λ x same. grind (arith, nat_tests)) ∙ is
still_flies e g t f other is = is

-- the data before begin the data after h
pub record Begins (before h : List Entry) : Type 0 where
  pub later : List ℕ
  pub data_are : data_after h ≡ data_after before ++ later

begins_same : (h : List Entry) → Begins h h
begins_same h = record { later = []; data_are = sym (append-nil (data_after h)) }

begins_more : (before g : List Entry) (n : ℕ) (h : List Entry) → data_after h ≡ data_after g ++ n ∷ [] → Begins before g → Begins before h
begins_more before g n h is b = record { later = b.later ++ n ∷ []; data_are = is ∙ (ap (λ xs. xs ++ n ∷ []) b.data_are ∙ append_assoc (data_after before) b.later (n ∷ [])) }

begins_as : (before g h : List Entry) → data_after h ≡ data_after g → Begins before g → Begins before h
begins_as before g h is b = record { later = b.later; data_are = is ∙ b.data_are }

-- an entry leaves the data or makes them longer
pub begins_step : (e : Entry) (g before : List Entry) → Begins before g → Begins before (e ∷ g)
unfolding data_after
begins_step (Update n (Updated.Version v)) g before b = begins_more before g n _ refl b
begins_step (Update n _) g before b = begins_as before g _ refl b
begins_step (Renew n (Renewed.Version v count)) g before b = begins_more before g n _ refl b
begins_step (Renew n _) g before b = begins_as before g _ refl b
begins_step _ g before b = begins_as before g _ refl b

-- of each flight
pub flights_begin : (h : List Entry) → Each (λ (f : Flight). Begins f.before h) (flights h)
unfolding flights
flights_begin [] = tt
flights_begin (Claim worker (Job t k v) ∷ g) =
    each-append _ (flights g) _ (each-map _ _ (flights g) (λ f b. begins_step (Claim worker (Job t k v)) g f.before b) (flights_begin g)) (begins_step (Claim worker (Job t k v)) g g (begins_same g))
flights_begin (Finish t drawn answer ∷ g) = each-filter _ _ (flights g) (each-map _ _ (flights g) (λ f b. begins_step (Finish t drawn answer) g f.before b) (flights_begin g))
flights_begin (e ∷ g) = each-map _ _ (flights g) (λ f b. begins_step e g f.before b) (flights_begin g)

pub begins : (h : List Entry) (t : ℕ) (f : Flight) → flight_in (flights h) t ≡ Some f → Begins f.before h
begins h t f is = each-find (λ (x : Flight). Begins x.before h) _ (flights h) f (flights_begin h) is

-- and where it is the newest, so are its data
pub data_before : (h : List Entry) (t : ℕ) (f : Flight) → flight_in (flights h) t ≡ Some f → version f.before ≡ version h → data_after f.before ≡ data_after h
data_before h t f is same = go (begins h t f is)
  where
    go : Begins f.before h → data_after f.before ≡ data_after h
    go b =
        let long = ap length b.data_are ∙ length-append (data_after f.before) b.later in
        let empty : b.later ≡ [] = nil_from_length b.later (omega (arith, long, same)) in
        sym (b.data_are ∙ (ap (λ xs. data_after f.before ++ xs) empty ∙ append-nil (data_after f.before)))
