-- Where each seat's own entries end every ticket that they give, no drawing is under way.
use Rattle.std.proofs.Common.{◌≡◌, ℕ, Bool, true, false, ◌&&◌, ◌||◌, not, cond, ◌==◌, List, [], ◌∷◌, ◌++◌, filter, reverse, Some, refl, sym, ap, ◌∙◌, subst, arith}
use Rattle.std.specs.List.{list_any}
use Rattle.std.proofs.lemmas.Bool.Decides.{nat_tests}
use Rattle.std.proofs.lemmas.List.Sorted.{list_any-IsPermutation, IsPermutation-reverse}
use Rattle.std.proofs.Math.Bool.{and-false}
use Rattle.farm_history.specs.declared.keys.Key.{Key}
use Rattle.farm_history.specs.declared.answers.ClaimAnswer.TheVariants.{Job}
use Rattle.farm_history.specs.Entries.{Entry, Claim, Finish}
use Rattle.farm_history.specs.Lists.{Each}
use Rattle.farm_history.specs.Plans.{Plan}
use Rattle.farm_history.specs.Past.{Flight, flights, jobs}
use Rattle.farm_history.specs.Rules.{Fits, Legal}
use Rattle.farm_history.proofs.Lists.{each-append, each-map, each-filter, each-passes, each-both, each-none, none-each}
use Rattle.farm_history.proofs.Apart.{job_is_next}
use Rattle.farm_history.proofs.Numbers.{tickets_below}
use Rattle.turn_cell.specs.Turns.{by}
use Rattle.farm_shared.specs.Seats.{plain, gives_ticket, ends_ticket, claimer, Seated, is_ended_by}
use Rattle.farm_shared.proofs.Flying.{claimer_new, no_end}

-- whether the entries give the ticket, and whether they end it
abbrev pub gives : ℕ → List Entry → Bool
gives t es = list_any (λ e. gives_ticket e t) es

abbrev pub ends : ℕ → List Entry → Bool
ends t es = list_any (λ e. ends_ticket e t) es

-- they end every ticket that they give
abbrev pub Settled : List Entry → Type 0
Settled es = (t : ℕ) → gives t es ≡ true → ends t es ≡ true

-- Each drawing under way has a seat that claimed it and did not end it; the newest turn comes first.

abbrev IsUnder : List (ℕ × Entry) → Flight → Type 0
IsUnder g f = (n : ℕ) × (claimer g f.ticket ≡ Some n) × (is_ended_by n f.ticket g ≡ false)

-- an entry that neither gives nor ends the ticket
passes : (g : List (ℕ × Entry)) (x : ℕ × Entry) (f : Flight) → gives_ticket x.1 f.ticket ≡ false → ends_ticket x.1 f.ticket ≡ false → IsUnder g f → IsUnder (x ∷ g) f
unfolding claimer
passes g x f none other u = (u.0, ap (λ b. cond b (Some x.0) (claimer g f.ticket)) none ∙ u.1, ap (λ b. ((x.0 == u.0) && b) || is_ended_by u.0 f.ticket g) other ∙ quiet (x.0 == u.0))
  where
    quiet : (b : Bool) → ((b && false) || is_ended_by u.0 f.ticket g) ≡ false
    quiet true = u.2
    quiet false = u.2

-- a drawing that is claimed now
begins : (p : Plan) (told : Bool) (o : List Entry) (g : List (ℕ × Entry)) (n worker t v : ℕ) (k : Key) (before : List Entry) → Legal p told (Claim worker (Job t k v) ∷ (plain g ++ o)) → Seated g →
    IsUnder ((n, Claim worker (Job t k v)) ∷ g) (record { ticket = t; key = k; before = before })
unfolding Fits jobs claimer
begins p told o g n worker t v k before legal seated =
    let is = (job_is_next p (plain g ++ o) t k v legal.0).ticket_is in
    let own : (t == t) ≡ true = grind (arith, nat_tests) in
    let none = no_end g t seated (claimer_new p told o g t legal.1 (omega arith)) in
    let none_by : is_ended_by n t g ≡ false = each-none _ g (each-map _ _ g (λ x no. ap (λ b. (x.0 == n) && b) no ∙ and-false (x.0 == n)) (none-each _ g none)) in
    (n, ap (λ b. cond b (Some n) (claimer g t)) own, ap (λ b. b || is_ended_by n t g) (and-false (n == n)) ∙ none_by)

pub under : (p : Plan) (told : Bool) (o : List Entry) → flights o ≡ [] → (g : List (ℕ × Entry)) → Legal p told (plain g ++ o) → Seated g → Each (IsUnder g) (flights (plain g ++ o))
unfolding Fits flights jobs
under p told o none [] legal seated = subst (Each (IsUnder [])) (sym none) tt
under p told o none (x ∷ g) legal seated = step x.0 x.1 legal (under p told o none g legal.1 seated.1)
  where
    h : List Entry
    h = plain g ++ o

    step : (n : ℕ) (e : Entry) → Legal p told (e ∷ h) → Each (IsUnder g) (flights h) → Each (IsUnder ((n, e) ∷ g)) (flights (e ∷ h))
    step n (Claim worker (Job t k v)) l old =
        let is = (job_is_next p h t k v l.0).ticket_is in
        each-append _ (flights h) _
        (each-map _ _ (flights h) (λ f both. passes g (n, Claim worker (Job t k v)) f (let lt = both.1 in grind (arith, nat_tests)) refl both.0) (each-both _ _ (flights h) old (tickets_below p told h legal.1)))
        (begins p told o g n worker t v k h l seated.1)
    step n (Finish t drawn answer) l old =
        each-map _ _ (filter (λ f. not (f.ticket == t)) (flights h)) (λ f both. passes g (n, Finish t drawn answer) f refl (let other = both.1 in grind (arith, nat_tests)) both.0)
        (each-both _ _ (filter (λ f. not (f.ticket == t)) (flights h)) (each-filter _ _ (flights h) old) (each-passes (λ (f : Flight). not (f.ticket == t)) (flights h)))
    step n e l old = each-map _ _ (flights h) (λ f u. passes g (n, e) f refl refl u) old

-- Seats' own entries.

-- whether a seat's own entries pass a test, in either order of the turns
any_own : (n : ℕ) (q : ℕ × Entry → Bool) (g : List (ℕ × Entry)) → list_any (λ x. (x.0 == n) && q x) g ≡ list_any q (by n g)
any_own n q [] = refl
any_own n q (x ∷ g) = go (x.0 == n) (any_own n q g)
  where
    go : (b : Bool) → list_any (λ y. (y.0 == n) && q y) g ≡ list_any q (by n g) → ((b && q x) || list_any (λ y. (y.0 == n) && q y) g) ≡ list_any q (cond b (x ∷ by n g) (by n g))
    go true ih = ap (λ rest. q x || rest) ih
    go false ih = ih

any_plain : (q : Entry → Bool) (g : List (ℕ × Entry)) → list_any (λ x. q x.1) g ≡ list_any q (plain g)
any_plain q [] = refl
any_plain q (x ∷ g) = ap (λ rest. q x.1 || rest) (any_plain q g)

any_back : (n : ℕ) (q : Entry → Bool) (log : List (ℕ × Entry)) → list_any (λ x. (x.0 == n) && q x.1) (reverse log) ≡ list_any q (plain (by n log))
any_back n q log = sym (list_any-IsPermutation (λ x. (x.0 == n) && q x.1) log (reverse log) (IsPermutation-reverse log)) ∙ (any_own n (λ x. q x.1) log ∙ any_plain q (by n log))

claimer_any : (g : List (ℕ × Entry)) (t n : ℕ) → claimer g t ≡ Some n → list_any (λ x. (x.0 == n) && gives_ticket x.1 t) g ≡ true
unfolding claimer
claimer_any [] t n is = cc
claimer_any (x ∷ g) t n is = go (gives_ticket x.1 t) (claimer_any g t n) is
  where
    go : (b : Bool) → (claimer g t ≡ Some n → list_any (λ y. (y.0 == n) && gives_ticket y.1 t) g ≡ true) → cond b (Some x.0) (claimer g t) ≡ Some n → (((x.0 == n) && b) || list_any (λ y. (y.0 == n) && gives_ticket y.1 t) g) ≡ true
    go true ih is = let same : x.0 ≡ n = cc in let own : (x.0 == n) ≡ true = grind (arith, nat_tests) in grind (arith, own)
    go false ih is = let rest = ih is in grind (arith, rest)

-- where every seat settles its tickets nothing is under way
pub landed : (p : Plan) (told : Bool) (o : List Entry) → flights o ≡ [] → (log : List (ℕ × Entry)) → Legal p told (plain (reverse log) ++ o) → Seated (reverse log) → ((n : ℕ) → Settled (plain (by n log))) →
    flights (plain (reverse log) ++ o) ≡ []
landed p told o none log legal seated settled = go (flights (plain (reverse log) ++ o)) (under p told o none (reverse log) legal seated)
  where
    go : (fs : List Flight) → Each (IsUnder (reverse log)) fs → fs ≡ []
    go [] each = refl
    go (f ∷ fs) each =
        let u = each.0 in
        let given = sym (any_back u.0 (λ e. gives_ticket e f.ticket) log) ∙ claimer_any (reverse log) f.ticket u.0 u.1 in
        let unended = sym (any_back u.0 (λ e. ends_ticket e f.ticket) log) ∙ u.2 in
        let never = sym (settled u.0 f.ticket given) ∙ unended in
        cc
