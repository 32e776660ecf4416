-- How the chains of asks that wait and the replies that wait go on, entry by entry.
use Rattle.std.proofs.Common.{◌≡◌, ℕ, suc, ◌<◌, ◌≤◌, Bool, true, false, not, ◌&&◌, ◌||◌, cond, ◌==◌, nat_lt, List, [], ◌∷◌, ◌++◌, length, map, filter, Option, Some, None, refl, sym, ap, ap₂, ◌∙◌, arith, append-nil}
use Rattle.std.proofs.lemmas.Bool.Decides.{nat_tests}
use Rattle.farm_history.specs.declared.keys.Key.{Key}
use Rattle.farm_history.specs.declared.queues.Conn.{Conn}
use Rattle.farm_history.specs.declared.queues.Waiter.{Waiter}
use Rattle.farm_history.specs.declared.queues.Reply.{Reply}
use Rattle.farm_history.specs.declared.asks.Cmd.{Cmd}
use Rattle.farm_history.specs.declared.asks.Spot.{Spot}
use Rattle.farm_history.specs.declared.asks.AskAnswer.{AskAnswer}
use Rattle.farm_history.specs.declared.answers.Finished.{Finished}
use Rattle.farm_history.specs.declared.answers.Collected.{Collected}
use Rattle.farm_history.specs.Entries.{Entry, Ask, Finish, Collect, Leave}
use Rattle.farm_history.specs.Plans.{same_key, same_conn, key_of}
use Rattle.farm_history.specs.Past.{Flight, flights, flight_in, finishes, is_on, Numbered, number_in, with_ask, open_asks, is_ended_after, is_end_of, outcome_of, reply_to, replies_to, due_replies}
use Rattle.farm_history.specs.Seen.{is_waiter, waiter_of, asks_on, chain_after, outbox}
use Rattle.farm_history.specs.Lists.{Each}
use Rattle.farm_history.proofs.Lists.{same_key-sym, each-append, each-map, each-filter, each-all, map-filter, filter-append, filter-agree, filter-filter}

-- each open ask came before now
pub asks_earlier : (h : List Entry) → Each (λ (a : Numbered). length a.before < length h) (open_asks h)
unfolding open_asks
asks_earlier [] = tt
asks_earlier (Ask conn command spot answer ∷ g) = go (each-map _ _ (open_asks g) (λ a lt. omega arith) (asks_earlier g)) (number_in answer)
  where
    go : Each (λ (a : Numbered). length a.before < suc (length g)) (open_asks g) → (o : Option ℕ) → Each (λ (a : Numbered). length a.before < suc (length g)) (with_ask o conn (key_of spot) g (open_asks g))
    go old None = old
    go old (Some n) = each-append _ (open_asks g) _ old (omega arith)
asks_earlier (Leave conn count ∷ g) = each-filter _ _ (open_asks g) (each-map _ _ (open_asks g) (λ a lt. omega arith) (asks_earlier g))
asks_earlier (Collect front (Collected.Reply r) ∷ g) = each-filter _ _ (open_asks g) (each-map _ _ (open_asks g) (λ a lt. omega arith) (asks_earlier g))
asks_earlier (_ ∷ g) = each-map _ _ (open_asks g) (λ a lt. omega arith) (asks_earlier g)

-- nothing is ended after the end
pub ended_never : (h : List Entry) (place : ℕ) (k : Key) → length h ≤ suc place → is_ended_after h place k ≡ false
unfolding is_ended_after
ended_never [] place k h = refl
ended_never (e ∷ g) place k h = let lt : nat_lt place (length g) ≡ false = grind (arith, nat_tests) in let rest : is_ended_after g place k ≡ false = ended_never g place k (omega arith) in grind arith

-- what an entry ends of what began before it
pub ended_more : (g : List Entry) (e : Entry) (place : ℕ) (k : Key) → place < length g → is_ended_after (e ∷ g) place k ≡ (finishes g e k || is_ended_after g place k)
unfolding is_ended_after
ended_more g e place k lt = let now : nat_lt place (length g) ≡ true = grind (arith, nat_tests) in grind arith

-- Chains.

-- an ask with a number goes last in the chain of its key
pub asks_on_ask : (conn : Conn) (command : Cmd) (spot : Spot) (answer : AskAnswer) (g : List Entry) (n : ℕ) (k : Key) → number_in answer ≡ Some n →
    asks_on (Ask conn command spot answer ∷ g) k ≡ asks_on g k ++ cond (same_key (key_of spot) k) (record { conn = conn; number = n; key = key_of spot; before = g } ∷ []) []
unfolding open_asks is_ended_after
asks_on_ask conn command spot answer g n k is =
    ap (λ o. filter (is_waiter g k) (with_ask o conn (key_of spot) g (open_asks g))) is ∙ (filter-append (is_waiter g k) (open_asks g) (a ∷ []) ∙ ap (λ xs. asks_on g k ++ xs) last)
  where
    a : Numbered
    a = record { conn = conn; number = n; key = key_of spot; before = g }

    last : cond (same_key (key_of spot) k && not (is_ended_after g (length g) (key_of spot))) (a ∷ []) [] ≡ cond (same_key (key_of spot) k) (a ∷ []) []
    last = let open_end = ended_never g (length g) (key_of spot) (omega arith) in ap (λ b. cond b (a ∷ []) []) (grind arith)

-- two filters in either order
pub filter_swap : {X : Type 0} (q r : X → Bool) (xs : List X) → filter q (filter r xs) ≡ filter r (filter q xs)
filter_swap q r xs = filter-filter q r xs ∙ (filter-agree _ _ xs (each-all _ xs (λ x. grind arith)) ∙ sym (filter-filter r q xs))

-- Replies that wait.

replies_append : (asks : List Numbered) (a : Numbered) (h : List Entry) → length h ≤ suc (length a.before) → replies_to (asks ++ a ∷ []) h ≡ replies_to asks h
unfolding replies_to
replies_append asks a [] le = refl
replies_append asks a (Finish t drawn answer ∷ g) le =
    ap₂ (λ xs ys. xs ++ map (reply_to answer) ys) (replies_append asks a g (omega arith)) (filter-append (is_end_of g (Finish t drawn answer)) asks (a ∷ []) ∙ (ap (λ b. filter (is_end_of g (Finish t drawn answer)) asks ++ cond b (a ∷ []) []) late ∙ append-nil _))
  where
    late : is_end_of g (Finish t drawn answer) a ≡ false
    late = let lt : nat_lt (length a.before) (length g) ≡ false = grind (arith, nat_tests) in grind arith
replies_append asks a (_ ∷ g) le = replies_append asks a g (omega arith)

-- a filter of asks is a filter of their replies
pub replies_filter : (q : Numbered → Bool) (r : Reply → Bool) (asks : List Numbered) (h : List Entry) → ((answer : Finished) (a : Numbered) → r (reply_to answer a) ≡ q a) → replies_to (filter q asks) h ≡ filter r (replies_to asks h)
unfolding replies_to
replies_filter q r asks [] same = refl
replies_filter q r asks (Finish t drawn answer ∷ g) same =
    ap₂ (λ xs ys. xs ++ map (reply_to answer) ys) (replies_filter q r asks g same) (filter_swap (is_end_of g (Finish t drawn answer)) q asks)
    ∙ (ap (λ ys. filter r (replies_to asks g) ++ ys) (map-filter (reply_to answer) q r (filter (is_end_of g (Finish t drawn answer)) asks) (same answer)) ∙ sym (filter-append r (replies_to asks g) _))
replies_filter q r asks (_ ∷ g) same = replies_filter q r asks g same

-- an ask has no reply yet
pub outbox_ask : (conn : Conn) (command : Cmd) (spot : Spot) (answer : AskAnswer) (g : List Entry) → outbox (Ask conn command spot answer ∷ g) ≡ outbox g
unfolding open_asks replies_to
outbox_ask conn command spot answer g = go (number_in answer)
  where
    go : (o : Option ℕ) → replies_to (with_ask o conn (key_of spot) g (open_asks g)) g ≡ replies_to (open_asks g) g
    go None = refl
    go (Some n) = replies_append (open_asks g) _ g (omega arith)

-- a Leave takes the replies of its connection out
pub outbox_leave : (conn : Conn) (count : ℕ) (g : List Entry) → outbox (Leave conn count ∷ g) ≡ filter (λ r. not (same_conn r.conn conn)) (outbox g)
unfolding open_asks replies_to
outbox_leave conn count g = replies_filter _ _ (open_asks g) g (λ answer a. refl)

-- a Collect takes the reply with its number out
pub outbox_reply : (front : ℕ) (r : Reply) (g : List Entry) → outbox (Collect front (Collected.Reply r) ∷ g) ≡ filter (λ x. not (x.ask == r.ask)) (outbox g)
unfolding open_asks replies_to
outbox_reply front r g = replies_filter _ _ (open_asks g) g (λ answer a. refl)

-- the reply to one that waits
abbrev pub reply_for : Finished → Waiter → Reply
reply_for answer w = record { conn = w.conn; ask = w.ask; outcome = outcome_of answer }

pub map-map : {X Y Z : Type 0} (f : X → Y) (g : Y → Z) (xs : List X) → map g (map f xs) ≡ map (λ x. g (f x)) xs
map-map f g [] = refl
map-map f g (x ∷ xs) = ap (λ zs. g (f x) ∷ zs) (map-map f g xs)

-- a Finish adds the replies to the chain of its key, in order
pub outbox_finish : (t : ℕ) (drawn : Bool) (answer : Finished) (g : List Entry) (f : Flight) → flight_in (flights g) t ≡ Some f → outbox (Finish t drawn answer ∷ g) ≡ outbox g ++ map (reply_for answer) (chain_after g f.key)
unfolding open_asks replies_to
outbox_finish t drawn answer g f is =
    ap (λ xs. outbox g ++ map (reply_to answer) xs) (filter-agree (is_end_of g e) (is_waiter g f.key) (open_asks g) (each-map _ _ (open_asks g) same (asks_earlier g)))
    ∙ ap (λ xs. outbox g ++ xs) (sym (map-map waiter_of (reply_for answer) (asks_on g f.key)))
  where
    e : Entry
    e = Finish t drawn answer

    same : (a : Numbered) → length a.before < length g → is_end_of g e a ≡ is_waiter g f.key a
    same a lt =
        let now : nat_lt (length a.before) (length g) ≡ true = grind (arith, nat_tests) in
        let on : finishes g e a.key ≡ same_key f.key a.key = ap (λ o. is_on o a.key) is in
        let turned = same_key-sym f.key a.key in
        grind arith

-- a front's ended replies are those of its connections among all
pub ended_outbox : (h : List Entry) (front : ℕ) → due_replies h front ≡ filter (λ r. r.conn.front == front) (outbox h)
ended_outbox h front = replies_filter _ _ (open_asks h) h (λ answer a. refl)
