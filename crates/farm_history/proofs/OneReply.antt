-- In a legal history the numbers of asks differ, and each ask has at most one reply, and none after its connection is left.
use Rattle.std.proofs.Common.{◌≡◌, ℕ, suc, ◌+◌, ◌<◌, ◌≤◌, Bool, true, false, not, cond, ◌==◌, nat_lt, List, [], ◌∷◌, ◌++◌, length, Option, Some, None, is_some, refl, sym, ap, ◌∙◌, subst, arith}
use Rattle.std.proofs.lemmas.Bool.Decides.{nat_tests}
use Rattle.farm_history.specs.declared.queues.Conn.{Conn}
use Rattle.farm_history.specs.declared.queues.Reply.{Reply}
use Rattle.farm_history.specs.declared.asks.Cmd.{Cmd}
use Rattle.farm_history.specs.declared.asks.Spot.{Spot}
use Rattle.farm_history.specs.declared.asks.AskAnswer.{AskAnswer}
use Rattle.farm_history.specs.declared.asks.AskAnswer.TheVariants.{Silent}
use Rattle.farm_history.specs.declared.answers.Collected.{Collected}
use Rattle.farm_history.specs.Entries.{Entry, Ask, Collect, Leave}
use Rattle.farm_history.specs.Plans.{Plan, same_conn, key_of, is_dirty_command}
use Rattle.farm_history.specs.Past.{Numbered, number_in, numbers, with_ask, without_conn, without_number, open_asks}
use Rattle.farm_history.specs.Rules.{ask_rule, Fits, Legal}
use Rattle.farm_history.specs.inner.Asks.{Tests, answer_of_waiting, answer_by, tests_of}
use Rattle.farm_history.specs.Laws.{asked_here, ask_numbered, is_left_after, is_replied, IsOnlyReply, IsNewNumber, LawOneReply}
use Rattle.farm_history.specs.Lists.{Each}
use Rattle.farm_history.proofs.Lists.{each-append, each-map, each-filter, each-passes, each-both}
use Rattle.farm_history.proofs.Apart.{ask_dirty, ask_render}
use Rattle.farm_history.proofs.Replies.{IsReplyIn, collected}

-- the number of an answer is how many were given before
pub number_by : (t : Tests) (n m : ℕ) → number_in (answer_by t n) ≡ Some m → m ≡ n
unfolding answer_by answer_of_waiting
number_by t n m h = grind arith

pub ask_number : (p : Plan) (g : List Entry) (conn : Conn) (command : Cmd) (spot : Spot) (answer : AskAnswer) (m : ℕ) → answer ≡ ask_rule p g conn command spot → number_in answer ≡ Some m → m ≡ numbers g
ask_number p g conn command spot answer m is h = go (is_dirty_command command) refl
  where
    go : (b : Bool) → is_dirty_command command ≡ b → m ≡ numbers g
    go true dirty = let silent : answer ≡ Silent = is ∙ ask_dirty p g conn command spot dirty in let never : None ≡ Some m = sym (ap number_in silent) ∙ h in cc
    go false dirty = number_by (tests_of p g conn command spot) (numbers g) m (sym (ap number_in (is ∙ ask_render p g conn command spot dirty)) ∙ h)

-- of an open ask: its number was given to it, it was not left, and its reply was not collected
pub record IsOpen (h : List Entry) (a : Numbered) : Type 0 where
  pub below : a.number < numbers h
  pub is_asked : ask_numbered h a.number ≡ Some a
  pub not_left : is_left_after h (length a.before) a.conn ≡ false
  pub not_replied : is_replied h a.number ≡ false

-- what was neither asked nor replied
pub record IsNew (h : List Entry) (n : ℕ) : Type 0 where
  pub not_asked : ask_numbered h n ≡ None
  pub not_replied : is_replied h n ≡ false

pub record Counted (h : List Entry) : Type 0 where
  -- each number from the count on is new
  pub new : (n : ℕ) → numbers h ≤ n → IsNew h n
  pub opens : Each (IsOpen h) (open_asks h)

-- no Leave stands after the last place
pub left_none : (h : List Entry) (place : ℕ) (conn : Conn) → length h ≤ suc place → is_left_after h place conn ≡ false
unfolding is_left_after
left_none [] place conn h = refl
left_none (Leave c count ∷ g) place conn h = let lt : nat_lt place (length g) ≡ false = grind (arith, nat_tests) in let rest : is_left_after g place conn ≡ false = left_none g place conn (omega arith) in grind arith
left_none (_ ∷ g) place conn h = left_none g place conn (omega arith)

-- an ask without a number changes nothing
counted_by_unnumbered : (conn : Conn) (command : Cmd) (spot : Spot) (answer : AskAnswer) (g : List Entry) → number_in answer ≡ None → Counted g → Counted (Ask conn command spot answer ∷ g)
unfolding numbers ask_numbered is_left_after is_replied open_asks
counted_by_unnumbered conn command spot answer g none old = record {
  new = λ n h. let here = old.new n (omega (arith, count_is)) in record { not_asked = asked_is n ∙ here.not_asked; not_replied = here.not_replied };
  opens = subst (Each (IsOpen (e ∷ g))) (sym open_is) (each-map _ _ (open_asks g) still old.opens);
}
  where
    e : Entry
    e = Ask conn command spot answer

    count_is : numbers (e ∷ g) ≡ numbers g
    count_is = ap (λ o. cond (is_some o) (numbers g + 1) (numbers g)) none

    asked_is : (n : ℕ) → ask_numbered (e ∷ g) n ≡ ask_numbered g n
    asked_is n = ap (λ o. asked_here o n conn (key_of spot) g (ask_numbered g n)) none

    open_is : open_asks (e ∷ g) ≡ open_asks g
    open_is = ap (λ o. with_ask o conn (key_of spot) g (open_asks g)) none

    still : (a : Numbered) → IsOpen g a → IsOpen (e ∷ g) a
    still a o = record { below = rw count_is o.below; is_asked = asked_is a.number ∙ o.is_asked; not_left = o.not_left; not_replied = o.not_replied }

-- and one with a number is open
counted_by_numbered : (conn : Conn) (command : Cmd) (spot : Spot) (answer : AskAnswer) (g : List Entry) (m : ℕ) → number_in answer ≡ Some m → m ≡ numbers g → Counted g → Counted (Ask conn command spot answer ∷ g)
unfolding numbers ask_numbered is_left_after is_replied open_asks
counted_by_numbered conn command spot answer g m some count old = record {
  new = newer;
  opens = subst (Each (IsOpen (e ∷ g))) (sym open_is) (each-append (IsOpen (e ∷ g)) (open_asks g) a (each-map _ _ (open_asks g) still old.opens) here);
}
  where
    e : Entry
    e = Ask conn command spot answer

    a : Numbered
    a = record { conn = conn; number = m; key = key_of spot; before = g }

    count_is : numbers (e ∷ g) ≡ numbers g + 1
    count_is = ap (λ o. cond (is_some o) (numbers g + 1) (numbers g)) some

    asked_is : (n : ℕ) → ask_numbered (e ∷ g) n ≡ cond (m == n) (Some a) (ask_numbered g n)
    asked_is n = ap (λ o. asked_here o n conn (key_of spot) g (ask_numbered g n)) some

    open_is : open_asks (e ∷ g) ≡ open_asks g ++ a ∷ []
    open_is = ap (λ o. with_ask o conn (key_of spot) g (open_asks g)) some

    newer : (n : ℕ) → numbers (e ∷ g) ≤ n → IsNew (e ∷ g) n
    newer n h =
        let more : numbers g + 1 ≤ n = rw (← count_is) h in
        let other : (m == n) ≡ false = grind (arith, nat_tests) in
        let old_one = old.new n (omega arith) in
        record { not_asked = asked_is n ∙ (ap (λ b. cond b (Some a) (ask_numbered g n)) other ∙ old_one.not_asked); not_replied = old_one.not_replied }

    still : (x : Numbered) → IsOpen g x → IsOpen (e ∷ g) x
    still x o =
        let lt : x.number < numbers g = o.below in
        let other : (m == x.number) ≡ false = grind (arith, nat_tests) in
        record {
          below = rw count_is (omega arith);
          is_asked = asked_is x.number ∙ (ap (λ b. cond b (Some a) (ask_numbered g x.number)) other ∙ o.is_asked);
          not_left = o.not_left;
          not_replied = o.not_replied;
        }

    here : IsOpen (e ∷ g) a
    here =
        let same : (m == m) ≡ true = grind (arith, nat_tests) in
        record {
          below = rw count_is (omega arith);
          is_asked = asked_is m ∙ ap (λ b. cond b (Some a) (ask_numbered g m)) same;
          not_left = left_none g (length g) conn (omega arith);
          not_replied = (old.new m (omega arith)).not_replied;
        }

counted_by_ask : (conn : Conn) (command : Cmd) (spot : Spot) (answer : AskAnswer) (g : List Entry) (o : Option ℕ) → number_in answer ≡ o → ((m : ℕ) → number_in answer ≡ Some m → m ≡ numbers g) → Counted g → Counted (Ask conn command spot answer ∷ g)
counted_by_ask conn command spot answer g None is first old = counted_by_unnumbered conn command spot answer g is old
counted_by_ask conn command spot answer g (Some m) is first old = counted_by_numbered conn command spot answer g m is (first m is) old

counted_by_leave : (conn : Conn) (count : ℕ) (g : List Entry) → Counted g → Counted (Leave conn count ∷ g)
unfolding numbers ask_numbered is_left_after is_replied open_asks
counted_by_leave conn count g old = record {
  new = λ n h. let here = old.new n h in record { not_asked = here.not_asked; not_replied = here.not_replied };
  opens = each-map _ _ (without_conn conn (open_asks g)) still (each-both (IsOpen g) _ (without_conn conn (open_asks g)) (each-filter (IsOpen g) _ (open_asks g) old.opens) (each-passes (λ a. not (same_conn a.conn conn)) (open_asks g)));
}
  where
    still : (a : Numbered) → IsOpen g a × (not (same_conn a.conn conn) ≡ true) → IsOpen (Leave conn count ∷ g) a
    still a o = record {
      below = o.0.below;
      is_asked = o.0.is_asked;
      not_left = let other : same_conn conn a.conn ≡ false = grind (arith, nat_tests, o.1) in grind (arith, o.0.not_left);
      not_replied = o.0.not_replied;
    }

counted_by_reply : (front : ℕ) (r : Reply) (g : List Entry) → IsReplyIn (IsOpen g) g r → Counted g → Counted (Collect front (Collected.Reply r) ∷ g)
unfolding numbers ask_numbered is_left_after is_replied open_asks
counted_by_reply front r g given old = record {
  new = newer;
  opens = each-map _ _ (without_number r.ask (open_asks g)) still (each-both (IsOpen g) _ (without_number r.ask (open_asks g)) (each-filter (IsOpen g) _ (open_asks g) old.opens) (each-passes (λ a. not (a.number == r.ask)) (open_asks g)));
}
  where
    newer : (n : ℕ) → numbers g ≤ n → IsNew (Collect front (Collected.Reply r) ∷ g) n
    newer n h =
        let here = old.new n h in
        let lt : given.ask.number < numbers g = given.holds.below in
        let is = given.number_is in
        let other : (r.ask == n) ≡ false = grind (arith, nat_tests) in
        record { not_asked = here.not_asked; not_replied = grind (arith, here.not_replied) }

    still : (a : Numbered) → IsOpen g a × (not (a.number == r.ask) ≡ true) → IsOpen (Collect front (Collected.Reply r) ∷ g) a
    still a o = record {
      below = o.0.below;
      is_asked = o.0.is_asked;
      not_left = o.0.not_left;
      not_replied = let other : (r.ask == a.number) ≡ false = grind (arith, nat_tests, o.1) in grind (arith, o.0.not_replied);
    }

-- each legal history keeps it
pub counted : (p : Plan) (told : Bool) (h : List Entry) → Legal p told h → Counted h
unfolding Fits numbers ask_numbered is_left_after is_replied open_asks
counted p told [] legal = record { new = λ n h. record { not_asked = refl; not_replied = refl }; opens = tt }
counted p told (Ask conn command spot answer ∷ g) legal =
    counted_by_ask conn command spot answer g (number_in answer) refl (λ m is. ask_number p g conn command spot answer m legal.0 is) (counted p told g legal.1)
counted p told (Leave conn count ∷ g) legal = counted_by_leave conn count g (counted p told g legal.1)
counted p told (Collect front (Collected.Reply r) ∷ g) legal =
    counted_by_reply front r g (collected (IsOpen g) g front r (counted p told g legal.1).opens legal.0) (counted p told g legal.1)
counted p told (e ∷ g) legal =
    let old = counted p told g legal.1 in
    record {
      new = λ n h. let here = old.new n h in record { not_asked = here.not_asked; not_replied = here.not_replied };
      opens = each-map _ _ (open_asks g) (λ a o. record { below = o.below; is_asked = o.is_asked; not_left = o.not_left; not_replied = o.not_replied }) old.opens;
    }

-- the number of an answer is new
new_number : (g : List Entry) (o : Option ℕ) → Counted g → ((m : ℕ) → o ≡ Some m → m ≡ numbers g) → IsNewNumber g o
new_number g None c is = tt
new_number g (Some m) c is = (c.new m (omega (arith, is m refl))).not_asked

only_reply : (g : List Entry) (r : Reply) → Counted g → IsReplyIn (IsOpen g) g r → IsOnlyReply g r
only_reply g r c given = record {
  ask = given.ask;
  is_asked = rw given.number_is given.holds.is_asked;
  same_asker = given.conn_is;
  is_first = rw given.number_is given.holds.not_replied;
  not_left = given.holds.not_left;
}

pub one_reply : LawOneReply
unfolding Fits
one_reply p told [] legal = tt
one_reply p told (Ask conn command spot answer ∷ g) legal =
    (new_number g (number_in answer) (counted p told g legal.1) (λ m is. ask_number p g conn command spot answer m legal.0 is), one_reply p told g legal.1)
one_reply p told (Collect front (Collected.Reply r) ∷ g) legal =
    let c = counted p told g legal.1 in (only_reply g r c (collected (IsOpen g) g front r c.opens legal.0), one_reply p told g legal.1)
one_reply p told (e ∷ g) legal = (tt, one_reply p told g legal.1)
