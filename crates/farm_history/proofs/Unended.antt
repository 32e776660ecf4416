-- How the asks that wait go on, entry by entry, whatever their keys; the chain of a key is those of them on the key.
use Rattle.std.proofs.Common.{◌≡◌, ℕ, ◌+◌, ◌<◌, Bool, true, false, not, ◌&&◌, cond, ◌==◌, List, [], ◌∷◌, ◌++◌, length, map, filter, count_by, Some, None, refl, sym, ap, ap₂, ◌∙◌, arith}
use Rattle.std.proofs.lemmas.Bool.Decides.{nat_tests}
use Rattle.farm_history.specs.declared.keys.Key.{Key}
use Rattle.farm_history.specs.declared.queues.Conn.{Conn}
use Rattle.farm_history.specs.declared.queues.Waiter.{Waiter}
use Rattle.farm_history.specs.declared.queues.Reply.{Reply}
use Rattle.farm_history.specs.declared.asks.Cmd.{Cmd}
use Rattle.farm_history.specs.declared.asks.Spot.{Spot}
use Rattle.farm_history.specs.declared.asks.AskAnswer.{AskAnswer}
use Rattle.farm_history.specs.declared.answers.Finished.{Finished}
use Rattle.farm_history.specs.declared.answers.Collected.{Collected}
use Rattle.farm_history.specs.Lists.{Each}
use Rattle.farm_history.specs.Entries.{Entry, Ask, Finish, Collect, Leave}
use Rattle.farm_history.specs.Plans.{same_key, key_of}
use Rattle.farm_history.specs.Past.{Flight, flights, flight_in, finishes, is_on, Numbered, number_in, with_ask, without_conn, open_asks, is_ended_after}
use Rattle.farm_history.specs.Laws.{ask_numbered}
use Rattle.farm_history.specs.Seen.{has_no_end, waiting_asks, is_waiter, waiter_of, chain_after, outbox}
use Rattle.farm_history.proofs.Lists.{same_key-sym, each-all, each-map, map-filter, filter-append, filter-agree, filter-filter}
use Rattle.farm_history.proofs.OneReply.{IsOpen}
use Rattle.farm_history.proofs.Replies.{IsReplyIn}
use Rattle.farm_history.proofs.Ends.{asks_earlier, ended_never, ended_more, filter_swap, map-map}
use Rattle.farm_history.proofs.Opens.{count-filter, count-either, count_replies}

-- Of any list that keeps the asks that wait, each with its key and its waiter, those on a key are the key's chain.
pub chain_joined : {X : Type 0} (kept : Numbered → X) (key : X → Key) (waiter : X → Waiter) (xs : List X) (h : List Entry) (k : Key) →
    ((a : Numbered) → key (kept a) ≡ a.key) → ((a : Numbered) → waiter (kept a) ≡ waiter_of a) → xs ≡ map kept (waiting_asks h) → map waiter (filter (λ x. same_key (key x) k) xs) ≡ chain_after h k
chain_joined kept key waiter xs h k keys waiters are =
    ap (λ ys. map waiter (filter (λ x. same_key (key x) k) ys)) are
    ∙ (ap (map waiter) (sym (map-filter kept (λ a. same_key a.key k) (λ x. same_key (key x) k) (waiting_asks h) (λ a. ap (λ j. same_key j k) (keys a))))
    ∙ (map-map kept waiter (filter (λ a. same_key a.key k) (waiting_asks h))
    ∙ (ap (λ f. map f (filter (λ a. same_key a.key k) (waiting_asks h))) (λ i a. waiters a i)
    ∙ ap (map waiter_of) (filter-filter (λ a. same_key a.key k) (has_no_end h) (open_asks h) ∙ filter-agree _ (is_waiter h k) (open_asks h) (each-all _ (open_asks h) (λ a. grind arith))))))

-- an ask with a number comes last
pub unended_ask : (conn : Conn) (command : Cmd) (spot : Spot) (answer : AskAnswer) (g : List Entry) (n : ℕ) → number_in answer ≡ Some n →
    waiting_asks (Ask conn command spot answer ∷ g) ≡ waiting_asks g ++ record { conn = conn; number = n; key = key_of spot; before = g } ∷ []
unfolding open_asks is_ended_after
unended_ask conn command spot answer g n is =
    ap (λ o. filter (has_no_end g) (with_ask o conn (key_of spot) g (open_asks g))) is ∙ (filter-append (has_no_end g) (open_asks g) (a ∷ []) ∙ ap (λ xs. waiting_asks g ++ xs) last)
  where
    a : Numbered
    a = record { conn = conn; number = n; key = key_of spot; before = g }

    last : cond (not (is_ended_after g (length g) (key_of spot))) (a ∷ []) [] ≡ a ∷ []
    last = ap (λ b. cond (not b) (a ∷ []) []) (ended_never g (length g) (key_of spot) (omega arith))

-- one without changes nothing
pub unended_unnumbered : (conn : Conn) (command : Cmd) (spot : Spot) (answer : AskAnswer) (g : List Entry) → number_in answer ≡ None → waiting_asks (Ask conn command spot answer ∷ g) ≡ waiting_asks g
unfolding open_asks is_ended_after
unended_unnumbered conn command spot answer g is = ap (λ o. filter (has_no_end g) (with_ask o conn (key_of spot) g (open_asks g))) is

-- a Leave takes its connection out
pub unended_leave : (conn : Conn) (count : ℕ) (g : List Entry) → waiting_asks (Leave conn count ∷ g) ≡ without_conn conn (waiting_asks g)
unfolding open_asks is_ended_after
unended_leave conn count g = filter_swap (has_no_end g) _ (open_asks g)

-- a Finish takes out those on its key
pub unended_finish : (t : ℕ) (drawn : Bool) (answer : Finished) (g : List Entry) (f : Flight) → flight_in (flights g) t ≡ Some f → waiting_asks (Finish t drawn answer ∷ g) ≡ filter (λ a. not (same_key a.key f.key)) (waiting_asks g)
unfolding open_asks
unended_finish t drawn answer g f is = filter-agree (has_no_end (e ∷ g)) _ (open_asks g) (each-map _ _ (open_asks g) same (asks_earlier g)) ∙ sym (filter-filter (λ a. not (same_key a.key f.key)) (has_no_end g) (open_asks g))
  where
    e : Entry
    e = Finish t drawn answer

    same : (a : Numbered) → length a.before < length g → has_no_end (e ∷ g) a ≡ (has_no_end g a && not (same_key a.key f.key))
    same a lt =
        let more = ended_more g e (length a.before) a.key lt in
        let on : finishes g e a.key ≡ same_key f.key a.key = ap (λ o. is_on o a.key) is in
        let turned = same_key-sym f.key a.key in
        grind arith

-- a Collect takes nothing out: the ask of its reply has ended
pub unended_reply : (front : ℕ) (r : Reply) (g : List Entry) → Each (IsOpen g) (open_asks g) → IsReplyIn (IsOpen g) g r → waiting_asks (Collect front (Collected.Reply r) ∷ g) ≡ waiting_asks g
unfolding open_asks is_ended_after
unended_reply front r g opens given =
    filter_swap (has_no_end g) _ (open_asks g) ∙ (filter-filter _ (has_no_end g) (open_asks g) ∙ filter-agree _ (has_no_end g) (open_asks g) (each-map _ _ (open_asks g) same opens))
  where
    -- an open ask with the number of the reply is the one that was replied to
    only : (a : Numbered) → IsOpen g a → (a.number == r.ask) ≡ true → a ≡ given.ask
    only a o equal =
        let number : a.number ≡ r.ask = grind (arith, nat_tests) in
        let found : Some a ≡ Some given.ask = sym o.is_asked ∙ (ap (ask_numbered g) (number ∙ given.number_is) ∙ given.holds.is_asked) in
        cc

    same : (a : Numbered) → IsOpen g a → has_no_end g a && not (a.number == r.ask) ≡ has_no_end g a
    same a o = go (a.number == r.ask) refl
      where
        go : (b : Bool) → (a.number == r.ask) ≡ b → has_no_end g a && not b ≡ has_no_end g a
        go true equal = let over : is_ended_after g (length a.before) a.key ≡ true = ap (λ (x : Numbered). is_ended_after g (length x.before) x.key) (only a o equal) ∙ given.is_ended in grind arith
        go false other = grind arith

-- Of the open asks whose connection passes, each waits or has a reply that waits.
pub open_split : (q : Conn → Bool) (h : List Entry) → count_by (λ a. q a.conn) (open_asks h) ≡ count_by (λ a. q a.conn) (waiting_asks h) + count_by (λ r. q r.conn) (outbox h)
open_split q h =
    count-either (λ a. q a.conn) (λ a. has_no_end h a && q a.conn) (λ a. q a.conn && is_ended_after h (length a.before) a.key) (open_asks h) (each-all _ (open_asks h) (λ a. (grind arith, grind arith)))
    ∙ ap₂ (λ m n. m + n) (sym (count-filter (λ a. q a.conn) (has_no_end h) (open_asks h))) (sym (count_replies q (open_asks h) h))
