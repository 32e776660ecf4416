-- Where a seat's Claim gave a ticket and the seat has no Finish of it, the ticket is that of a drawing under way.
use Rattle.std.proofs.Common.{◌≡◌, ℕ, ◌<◌, ◌≤◌, Bool, true, false, ◌&&◌, cond, ◌==◌, List, [], ◌∷◌, ◌++◌, find, Option, Some, None, refl, sym, ap, ◌∙◌, subst, arith}
use Rattle.std.specs.Option.{option_or}
use Rattle.std.proofs.lemmas.Bool.{or_parts}
use Rattle.std.proofs.lemmas.Bool.Decides.{nat_tests}
use Rattle.std.proofs.lemmas.List.Folds.{find-append}
use Rattle.farm_history.specs.declared.keys.Key.{Key}
use Rattle.farm_history.specs.declared.answers.ClaimAnswer.TheVariants.{Job}
use Rattle.farm_history.specs.Entries.{Entry, Claim, Finish}
use Rattle.farm_history.specs.Plans.{Plan}
use Rattle.farm_history.specs.Past.{Flight, flights, flight_in, jobs}
use Rattle.farm_history.specs.Rules.{Fits, Legal}
use Rattle.farm_history.proofs.Lists.{each-map, each-none, find-none}
use Rattle.farm_history.proofs.Apart.{job_is_next}
use Rattle.farm_history.proofs.Numbers.{tickets_below}
use Rattle.farm_history.proofs.Flying.{ends_ticket as ends, found_last, still_flies}
use Rattle.farm_shared.specs.Seats.{plain, gives_ticket, ends_ticket, claimer, SeatFits, Seated, is_ended_by}
use Rattle.farm_shared.specs.Promises.{is_ended}

-- Tickets that were not given yet.

-- an entry after which a ticket was not given yet does not give it
not_yet : (p : Plan) (told : Bool) (h : List Entry) (e : Entry) (t : ℕ) → Fits p told h e → jobs (e ∷ h) ≤ t → (gives_ticket e t ≡ false) × (jobs h ≤ t)
unfolding Fits jobs
not_yet p told h (Claim worker (Job u k v)) t fits le = let is = (job_is_next p h u k v fits).ticket_is in (grind (arith, nat_tests), omega arith)
not_yet p told h e t fits le = (refl, le)

pub claimer_new : (p : Plan) (told : Bool) (o : List Entry) (g : List (ℕ × Entry)) (t : ℕ) → Legal p told (plain g ++ o) → jobs (plain g ++ o) ≤ t → claimer g t ≡ None
unfolding claimer
claimer_new p told o [] t legal le = refl
claimer_new p told o (x ∷ g) t legal le = let n = not_yet p told (plain g ++ o) x.1 t legal.0 le in rw n.0 (claimer_new p told o g t legal.1 n.1)

none_before : (b : Bool) (n : ℕ) (rest : Option ℕ) → cond b (Some n) rest ≡ None → rest ≡ None
none_before true n rest none = cc
none_before false n rest none = none

-- an entry of a right seat does not end a ticket without a claimer
ends_nothing : (g : List (ℕ × Entry)) (n : ℕ) (e : Entry) (t : ℕ) → SeatFits g n e → claimer g t ≡ None → ends_ticket e t ≡ false
ends_nothing g n (Finish u drawn answer) t fits none = go (u == t) refl
  where
    go : (b : Bool) → (u == t) ≡ b → (u == t) ≡ false
    go true is = let same : u ≡ t = grind (arith, nat_tests) in let never = sym none ∙ subst (λ m. claimer g m ≡ Some n) same fits in cc
    go false is = is
ends_nothing g n e t fits none = refl

pub no_end : (g : List (ℕ × Entry)) (t : ℕ) → Seated g → claimer g t ≡ None → is_ended t g ≡ false
unfolding claimer
no_end [] t seated none = refl
no_end (x ∷ g) t seated none = let rest = none_before (gives_ticket x.1 t) x.0 (claimer g t) none in rw (ends_nothing g x.0 x.1 t seated.0 rest) (no_end g t seated.1 rest)

-- Tickets that are flying.

-- the drawing of the ticket is under way, was claimed by that seat, and its ticket is one of those given
pub record IsAway (o : List Entry) (n t : ℕ) (flight : Flight) (g : List (ℕ × Entry)) : Type 0 where
  pub flies : flight_in (flights (plain g ++ o)) t ≡ Some flight
  pub claimed : claimer g t ≡ Some n
  pub below : t < jobs (plain g ++ o)

begins_away : (p : Plan) (told : Bool) (o : List Entry) (n worker t v : ℕ) (k : Key) (g : List (ℕ × Entry)) → Legal p told (Claim worker (Job t k v) ∷ (plain g ++ o)) →
    IsAway o n t (record { ticket = t; key = k; before = plain g ++ o }) ((n, Claim worker (Job t k v)) ∷ g)
unfolding Fits flights jobs claimer
begins_away p told o n worker t v k g legal =
    let h : List Entry = plain g ++ o in
    let f : Flight = record { ticket = t; key = k; before = h } in
    let q : Flight → Bool = λ x. x.ticket == t in
    let is = (job_is_next p h t k v legal.0).ticket_is in
    let own : (t == t) ≡ true = grind (arith, nat_tests) in
    let none : find q (flights h) ≡ None = find-none q (flights h) (each-none q (flights h) (each-map _ _ (flights h) (λ x lt. grind (arith, nat_tests)) (tickets_below p told h legal.1))) in
    record {
      flies = find-append q (flights h) (f ∷ []) ∙ (ap (λ b. option_or (find q (flights h)) (cond b (Some f) None)) own ∙ found_last (find q (flights h)) f none);
      claimed = ap (λ b. cond b (Some n) (claimer g t)) own;
      below = omega arith;
    }

-- a later Claim gives another ticket
other_ticket : (p : Plan) (told : Bool) (h : List Entry) (e : Entry) (t : ℕ) → Fits p told h e → t < jobs h → (gives_ticket e t ≡ false) × (t < jobs (e ∷ h))
unfolding Fits jobs
other_ticket p told h (Claim worker (Job u k v)) t fits lt = let is = (job_is_next p h u k v fits).ticket_is in (grind (arith, nat_tests), omega arith)
other_ticket p told h e t fits lt = (refl, lt)

same_test : (e : Entry) (t : ℕ) → ends_ticket e t ≡ false → ends e t ≡ false
same_test (Finish u drawn answer) t other = other
same_test e t other = refl

-- a Finish of the ticket would be its claimer's own
ends_other : (g : List (ℕ × Entry)) (n s : ℕ) (e : Entry) (t : ℕ) → SeatFits g s e → claimer g t ≡ Some n → ((s == n) && ends_ticket e t) ≡ false → ends_ticket e t ≡ false
ends_other g n s (Finish u drawn answer) t fits claimed unended = go (u == t) refl
  where
    go : (b : Bool) → (u == t) ≡ b → (u == t) ≡ false
    go true is =
        let same : u ≡ t = grind (arith, nat_tests) in
        let seats = sym (subst (λ m. claimer g m ≡ Some s) same fits) ∙ claimed in
        let own : s ≡ n = cc in
        let test : (s == n) ≡ true = grind (arith, nat_tests) in
        let never : true ≡ false = sym (ap (λ b. b && (u == t)) test ∙ is) ∙ unended in
        cc
    go false is = is
ends_other g n s e t fits claimed unended = refl

pub flying : (p : Plan) (told : Bool) (o : List Entry) (n worker t v : ℕ) (k : Key) (since before : List (ℕ × Entry)) →
    Legal p told (plain (since ++ (n, Claim worker (Job t k v)) ∷ before) ++ o) → Seated (since ++ (n, Claim worker (Job t k v)) ∷ before) →
    is_ended_by n t (since ++ (n, Claim worker (Job t k v)) ∷ before) ≡ false →
    IsAway o n t (record { ticket = t; key = k; before = plain before ++ o }) (since ++ (n, Claim worker (Job t k v)) ∷ before)
unfolding claimer
flying p told o n worker t v k [] before legal seated unended = begins_away p told o n worker t v k before legal
flying p told o n worker t v k (x ∷ since) before legal seated unended =
    let g : List (ℕ × Entry) = since ++ (n, Claim worker (Job t k v)) ∷ before in
    let h : List Entry = plain g ++ o in
    let apart = or_parts ((x.0 == n) && ends_ticket x.1 t) (is_ended_by n t g) unended in
    let a = flying p told o n worker t v k since before legal.1 seated.1 apart.1 in
    let other = ends_other g n x.0 x.1 t seated.0 a.claimed apart.0 in
    let later = other_ticket p told h x.1 t legal.0 a.below in
    record {
      flies = still_flies x.1 h t _ (same_test x.1 t other) a.flies;
      claimed = rw later.0 a.claimed;
      below = later.1;
    }
