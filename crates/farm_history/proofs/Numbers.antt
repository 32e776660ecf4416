-- The numbers of open asks differ, and those of the replies that wait; tickets differ.
use Rattle.std.proofs.Common.{◌≡◌, ℕ, ◌<◌, Bool, true, false, not, cond, ◌==◌, List, [], ◌∷◌, ◌++◌, length, map, filter, find, Option, Some, None, refl, sym, ap, ◌∙◌, subst, arith}
use Rattle.std.specs.List.{list_any}
use Rattle.std.proofs.lemmas.Bool.Decides.{nat_tests}
use Rattle.farm_history.specs.declared.queues.Reply.{Reply}
use Rattle.farm_history.specs.declared.answers.ClaimAnswer.TheVariants.{Job}
use Rattle.farm_history.specs.declared.answers.Collected.{Collected}
use Rattle.farm_history.specs.Entries.{Entry, Ask, Claim, Finish, Collect, Leave}
use Rattle.farm_history.specs.Plans.{Plan, key_of}
use Rattle.farm_history.specs.Past.{Flight, flights, jobs, Numbered, number_in, with_ask, open_asks, is_ended_after, is_end_of, reply_to, replies_to}
use Rattle.farm_history.specs.Rules.{Fits, Legal}
use Rattle.farm_history.specs.Seen.{outbox}
use Rattle.farm_history.specs.Lists.{Each, Differ, without_first}
use Rattle.farm_history.proofs.Lists.{each-append, each-map, each-filter, each-passes, each-both, each-over, each-none, not_any, any-append, find-not, none-each, filter-all}
use Rattle.farm_history.proofs.Apart.{job_is_next}
use Rattle.farm_history.proofs.OneReply.{IsOpen, counted, ask_number}
use Rattle.farm_history.proofs.Replies.{IsReplyIn, replies_in}

pub differ-append : {X : Type 0} (number : X → ℕ) (xs : List X) (x : X) → Differ number xs → list_any (λ y. number y == number x) xs ≡ false → Differ number (xs ++ x ∷ [])
differ-append number [] x differ h = (refl, tt)
differ-append number (y ∷ ys) x differ h =
    let other : (number x == number y) ≡ false = grind (arith, nat_tests) in
    (any-append (λ z. number z == number y) ys (x ∷ []) ∙ grind (arith, other, differ.0), differ-append number ys x differ.1 (grind arith))

pub differ-filter : {X : Type 0} (number : X → ℕ) (q : X → Bool) (xs : List X) → Differ number xs → Differ number (filter q xs)
differ-filter number q [] differ = tt
differ-filter number q (x ∷ xs) differ = go (q x) (differ-filter number q xs differ.1)
  where
    go : (b : Bool) → Differ number (filter q xs) → Differ number (cond b (x ∷ filter q xs) (filter q xs))
    go true ih = (not_any (λ y. number y == number x) q xs differ.0, ih)
    go false ih = ih

-- numbers of two lists that differ across them too
pub differ-join : {X : Type 0} (number : X → ℕ) (xs ys : List X) → Differ number xs → Differ number ys → Each (λ x. list_any (λ y. number y == number x) ys ≡ false) xs → Differ number (xs ++ ys)
differ-join number [] ys first second across = second
differ-join number (x ∷ xs) ys first second across =
    (any-append (λ y. number y == number x) xs ys ∙ grind (arith, first.0, across.0), differ-join number xs ys first.1 second across.1)

pub differ-map : {X Y : Type 0} (f : X → Y) (number : Y → ℕ) (xs : List X) → Differ (λ x. number (f x)) xs → Differ number (map f xs)
differ-map f number [] differ = tt
differ-map {X} {Y} f number (x ∷ xs) differ = (over (λ y. number y == number (f x)) xs differ.0, differ-map f number xs differ.1)
  where
    over : (q : Y → Bool) (zs : List X) → list_any (λ z. q (f z)) zs ≡ false → list_any q (map f zs) ≡ false
    over q [] h = refl
    over q (z ∷ zs) h = grind (arith, over q zs)

-- where numbers differ, each is found by its number
pub find-own : {X : Type 0} (number : X → ℕ) (xs : List X) → Differ number xs → Each (λ x. find (λ y. number y == number x) xs ≡ Some x) xs
find-own number [] differ = tt
find-own {X} number (x ∷ xs) differ = (own, each-map _ _ xs later (each-both _ _ xs (find-own number xs differ.1) (others xs differ.0)))
  where
    own : find (λ y. number y == number x) (x ∷ xs) ≡ Some x
    own = let same : (number x == number x) ≡ true = grind (arith, nat_tests) in rw same refl

    others : (zs : List X) → list_any (λ y. number y == number x) zs ≡ false → Each (λ z. (number x == number z) ≡ false) zs
    others [] h = tt
    others (z ∷ zs) h = (grind (arith, nat_tests), others zs (grind arith))

    later : (z : X) → (find (λ y. number y == number z) xs ≡ Some z) × ((number x == number z) ≡ false) → find (λ y. number y == number z) (x ∷ xs) ≡ Some z
    later z h = rw h.1 h.0

-- where numbers differ, to take out the first that passes is to take out its number
pub without_first-number : {X : Type 0} (number : X → ℕ) (q : X → Bool) (xs : List X) (x : X) → Differ number xs → find q xs ≡ Some x → without_first q xs ≡ filter (λ y. not (number y == number x)) xs
unfolding without_first
without_first-number number q [] x differ found = refl
without_first-number number q (y ∷ ys) x differ found = go (q y) refl (without_first-number number q ys x differ.1) found
  where
    go : (b : Bool) → q y ≡ b → (find q ys ≡ Some x → without_first q ys ≡ filter (λ z. not (number z == number x)) ys) → cond b (Some y) (find q ys) ≡ Some x →
        cond b ys (y ∷ without_first q ys) ≡ cond (not (number y == number x)) (y ∷ filter (λ z. not (number z == number x)) ys) (filter (λ z. not (number z == number x)) ys)
    go true is ih found =
        let same : y ≡ x = cc in
        let own : (number y == number x) ≡ true = let n = ap number same in grind (arith, nat_tests) in
        rw own (sym (filter-all _ ys (each-map _ _ ys (λ z h. ap not h) (none-each _ ys (subst (λ n. list_any (λ z. number z == n) ys ≡ false) (ap number same) differ.0)))))
    go false is ih found =
        let other : (number y == number x) ≡ false = let turned = find-not q (λ z. number z == number y) ys x found differ.0 in grind (arith, nat_tests) in
        rw other (ap (λ zs. y ∷ zs) (ih found))

-- Tickets are below the number of Jobs.
pub tickets_below : (p : Plan) (told : Bool) (h : List Entry) → Legal p told h → Each (λ (f : Flight). f.ticket < jobs h) (flights h)
unfolding Fits flights jobs
tickets_below p told [] legal = tt
tickets_below p told (Claim worker (Job t k v) ∷ g) legal =
    each-append _ (flights g) _ (each-map _ _ (flights g) (λ f lt. omega arith) (tickets_below p told g legal.1)) (omega (arith, (job_is_next p g t k v legal.0).ticket_is))
tickets_below p told (Finish t drawn answer ∷ g) legal = each-filter _ _ (flights g) (tickets_below p told g legal.1)
tickets_below p told (e ∷ g) legal = tickets_below p told g legal.1

abbrev pub flight_ticket : Flight → ℕ
flight_ticket f = f.ticket

-- and differ.
pub tickets_differ : (p : Plan) (told : Bool) (h : List Entry) → Legal p told h → Differ flight_ticket (flights h)
unfolding Fits flights
tickets_differ p told [] legal = tt
tickets_differ p told (Claim worker (Job t k v) ∷ g) legal =
    differ-append flight_ticket (flights g) _ (tickets_differ p told g legal.1)
    (each-none _ (flights g) (each-map _ _ (flights g) (λ f lt. let is = (job_is_next p g t k v legal.0).ticket_is in grind (arith, nat_tests)) (tickets_below p told g legal.1)))
tickets_differ p told (Finish t drawn answer ∷ g) legal = differ-filter flight_ticket _ (flights g) (tickets_differ p told g legal.1)
tickets_differ p told (e ∷ g) legal = tickets_differ p told g legal.1

abbrev pub ask_of : Numbered → ℕ
ask_of a = a.number

-- The numbers of open asks differ.
pub numbers_differ : (p : Plan) (told : Bool) (h : List Entry) → Legal p told h → Differ ask_of (open_asks h)
unfolding Fits open_asks
numbers_differ p told [] legal = tt
numbers_differ p told (Ask conn command spot answer ∷ g) legal = go (number_in answer) refl (numbers_differ p told g legal.1)
  where
    new : (n : ℕ) → number_in answer ≡ Some n → (a : Numbered) → IsOpen g a → (a.number == n) ≡ false
    new n is a o = let count = ask_number p g conn command spot answer n legal.0 is in let lt = o.below in grind (arith, nat_tests)

    go : (o : Option ℕ) → number_in answer ≡ o → Differ ask_of (open_asks g) → Differ ask_of (with_ask o conn (key_of spot) g (open_asks g))
    go None is old = old
    go (Some n) is old = differ-append ask_of (open_asks g) _ old (each-none _ (open_asks g) (each-map _ _ (open_asks g) (new n is) (counted p told g legal.1).opens))
numbers_differ p told (Leave conn count ∷ g) legal = differ-filter ask_of _ (open_asks g) (numbers_differ p told g legal.1)
numbers_differ p told (Collect front (Collected.Reply r) ∷ g) legal = differ-filter ask_of _ (open_asks g) (numbers_differ p told g legal.1)
numbers_differ p told (e ∷ g) legal = numbers_differ p told g legal.1

abbrev pub reply_number : Reply → ℕ
reply_number r = r.ask

-- The numbers of the replies to asks whose numbers differ, differ.
pub replies_differ : (asks : List Numbered) (h : List Entry) → Differ ask_of asks → Differ reply_number (replies_to asks h)
unfolding replies_to
replies_differ asks [] differ = tt
replies_differ asks (Finish t drawn answer ∷ g) differ =
    differ-join reply_number (replies_to asks g) _ (replies_differ asks g differ) (differ-map (reply_to answer) reply_number _ (differ-filter ask_of (is_end_of g e) asks differ))
    (each-map _ _ (replies_to asks g) across (replies_in IsOwn asks g (find-own ask_of asks differ)))
  where
    e : Entry
    e = Finish t drawn answer

    IsOwn : Numbered → Type 0
    IsOwn a = find (λ b. b.number == a.number) asks ≡ Some a

    across : (r : Reply) → IsReplyIn IsOwn g r → list_any (λ y. y.ask == r.ask) (map (reply_to answer) (filter (is_end_of g e) asks)) ≡ false
    across r i = each-none _ _ (each-over (reply_to answer) _ _ (filter (is_end_of g e) asks) later (each-both _ _ (filter (is_end_of g e) asks) (each-filter IsOwn (is_end_of g e) asks (find-own ask_of asks differ)) (each-passes (is_end_of g e) asks)))
      where
        later : (a : Numbered) → IsOwn a × (is_end_of g e a ≡ true) → (a.number == r.ask) ≡ false
        later a h = go (a.number == r.ask) refl
          where
            go : (b : Bool) → (a.number == r.ask) ≡ b → (a.number == r.ask) ≡ false
            go false is = is
            go true is =
                let number : a.number ≡ i.ask.number = let n = i.number_is in grind (arith, nat_tests) in
                let found : Some a ≡ Some i.ask = sym h.0 ∙ (ap (λ n. find (λ b. b.number == n) asks) number ∙ i.holds) in
                let only : a ≡ i.ask = cc in
                let over : is_ended_after g (length a.before) a.key ≡ true = ap (λ (x : Numbered). is_ended_after g (length x.before) x.key) only ∙ i.is_ended in
                let here = h.1 in
                let never : true ≡ false = grind arith in
                cc
replies_differ asks (_ ∷ g) differ = replies_differ asks g differ

-- The numbers of the replies that wait differ.
pub outbox_differs : (p : Plan) (told : Bool) (h : List Entry) → Legal p told h → Differ reply_number (outbox h)
outbox_differs p told h legal = replies_differ (open_asks h) h (numbers_differ p told h legal)
