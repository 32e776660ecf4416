-- A reply to a front is to an ask among the entries of its own seat.
use Rattle.std.proofs.Common.{◌≡◌, ◌≢◌, ℕ, ◌+◌, ◌<◌, Bool, true, false, ◌&&◌, cond, ◌==◌, nat_lt, List, [], ◌∷◌, ◌++◌, length, filter, Option, Some, None, refl, sym, ap, ◌∙◌, subst, arith}
use Rattle.std.proofs.lemmas.Bool.{or_parts}
use Rattle.std.proofs.lemmas.Bool.Decides.{nat_tests}
use Rattle.farm_history.specs.declared.keys.Key.{Key}
use Rattle.farm_history.specs.declared.queues.Conn.{Conn}
use Rattle.farm_history.specs.declared.queues.Reply.{Reply}
use Rattle.farm_history.specs.declared.answers.Collected.{Collected}
use Rattle.farm_history.specs.Entries.{Entry, Ask, Collect, Leave}
use Rattle.farm_history.specs.Plans.{Plan, same_conn, key_of}
use Rattle.farm_history.specs.Past.{Numbered, number_in, open_asks, due_replies, is_stopped}
use Rattle.farm_history.specs.Rules.{Fits, Legal, collect_from, collect_rule}
use Rattle.farm_history.specs.Laws.{asked_here, ask_numbered, is_left_after, is_replied, IsOnlyReply}
use Rattle.farm_history.specs.Replays.{replay_front}
use Rattle.farm_history.specs.Lists.{Each}
use Rattle.farm_history.proofs.Lists.{each-passes, each-map}
use Rattle.farm_history.proofs.Replies.{IsReplyIn, replies_in}
use Rattle.farm_history.proofs.OneReply.{left_none, one_reply}
use Rattle.farm_shared.specs.Seats.{plain, SeatFits, Seated}
use Rattle.farm_core.specs.Begins.{BeginsWell}
use Rattle.farm_shared.specs.Promises.{own_of}

-- of an ask in the whole history h: it stands among the seat's own entries too, and where no Leave of its connection stands after it in the whole, none does among those
record Owns (m : ℕ) (a : Numbered) (h own : List Entry) : Type 0 where
  ask : Numbered
  is_asked : ask_numbered own m ≡ Some ask
  conn_is : ask.conn ≡ a.conn
  inner : length ask.before < length own
  outer : length a.before < length h
  not_left : is_left_after h (length a.before) a.conn ≡ false → is_left_after own (length ask.before) a.conn ≡ false

-- an entry that neither asks with that number nor leaves
passes : (m : ℕ) (a : Numbered) (h own : List Entry) (e : Entry) (b : Bool) → ((g : List Entry) → ask_numbered (e ∷ g) m ≡ ask_numbered g m) →
    ((g : List Entry) (place : ℕ) (conn : Conn) → is_left_after (e ∷ g) place conn ≡ is_left_after g place conn) → Owns m a h own → Owns m a (e ∷ h) (cond b (e ∷ own) own)
passes m a h own e true same_asked same_left o = record {
  ask = o.ask;
  is_asked = same_asked own ∙ o.is_asked;
  conn_is = o.conn_is;
  inner = let lt = o.inner in omega arith;
  outer = let lt = o.outer in omega arith;
  not_left = λ left. same_left own (length o.ask.before) a.conn ∙ o.not_left (sym (same_left h (length a.before) a.conn) ∙ left);
}
passes m a h own e false same_asked same_left o = record {
  ask = o.ask;
  is_asked = o.is_asked;
  conn_is = o.conn_is;
  inner = o.inner;
  outer = let lt = o.outer in omega arith;
  not_left = λ left. o.not_left (sym (same_left h (length a.before) a.conn) ∙ left);
}

-- a Leave of any connection
leaves : (m : ℕ) (a : Numbered) (h own : List Entry) (c : Conn) (count : ℕ) (b : Bool) → Owns m a h own → Owns m a (Leave c count ∷ h) (cond b (Leave c count ∷ own) own)
unfolding ask_numbered is_left_after
leaves m a h own c count true o = record {
  ask = o.ask;
  is_asked = o.is_asked;
  conn_is = o.conn_is;
  inner = let lt = o.inner in omega arith;
  outer = let lt = o.outer in omega arith;
  not_left = λ left.
      let parts = or_parts (same_conn c a.conn && nat_lt (length a.before) (length h)) (is_left_after h (length a.before) a.conn) left in
      let lt = o.outer in
      let after : nat_lt (length a.before) (length h) ≡ true = grind (arith, nat_tests) in
      let other : same_conn c a.conn ≡ false = let apart = parts.0 in grind arith in
      let rest = o.not_left parts.1 in
      grind arith;
}
leaves m a h own c count false o = record {
  ask = o.ask;
  is_asked = o.is_asked;
  conn_is = o.conn_is;
  inner = o.inner;
  outer = let lt = o.outer in omega arith;
  not_left = λ left. o.not_left (or_parts (same_conn c a.conn && nat_lt (length a.before) (length h)) (is_left_after h (length a.before) a.conn) left).1;
}

-- an ask, by the number that it was given
asks : (n m s : ℕ) (a : Numbered) (h own : List Entry) (e : Entry) (conn : Conn) (k : Key) (number : Option ℕ) → ((g : List Entry) (j : ℕ) → ask_numbered (e ∷ g) j ≡ asked_here number j conn k g (ask_numbered g j)) →
    ((g : List Entry) (place : ℕ) (c : Conn) → is_left_after (e ∷ g) place c ≡ is_left_after g place c) → s ≡ conn.front + 1 → a.conn.front + 1 ≡ n →
    asked_here number m conn k h (ask_numbered h m) ≡ Some a → (ask_numbered h m ≡ Some a → Owns m a h own) → Owns m a (e ∷ h) (cond (s == n) (e ∷ own) own)
asks n m s a h own e conn k None same_asked same_left fits front is ih = passes m a h own e (s == n) (λ g. same_asked g m) same_left (ih is)
asks n m s a h own e conn k (Some j) same_asked same_left fits front is ih = go (j == m) refl is
  where
    new : List Entry → Numbered
    new g = record { conn = conn; number = j; key = k; before = g }

    go : (b : Bool) → (j == m) ≡ b → cond b (Some (new h)) (ask_numbered h m) ≡ Some a → Owns m a (e ∷ h) (cond (s == n) (e ∷ own) own)
    go false other here = passes m a h own e (s == n) (λ g. same_asked g m ∙ ap (λ b. cond b (Some (new g)) (ask_numbered g m)) other) same_left (ih here)
    go true same here =
        let is_new : new h ≡ a = cc in
        let conn_is : conn ≡ a.conn = ap (λ (x : Numbered). x.conn) is_new in
        let front_is : conn.front ≡ a.conn.front = ap (λ (c : Conn). c.front) conn_is in
        let before_is : h ≡ a.before = ap (λ (x : Numbered). x.before) is_new in
        let place_is : length h ≡ length a.before = ap length before_is in
        let seat : (s == n) ≡ true = grind (arith, nat_tests) in
        rw seat (record {
          ask = new own;
          is_asked = same_asked own m ∙ ap (λ b. cond b (Some (new own)) (ask_numbered own m)) same;
          conn_is = conn_is;
          inner = omega arith;
          outer = omega arith;
          not_left = λ left. same_left own (length own) a.conn ∙ left_none own (length own) a.conn (omega arith);
        })

-- one entry
owns_more : (n m s : ℕ) (a : Numbered) (g : List (ℕ × Entry)) (h own : List Entry) (e : Entry) → SeatFits g s e → a.conn.front + 1 ≡ n → ask_numbered (e ∷ h) m ≡ Some a → (ask_numbered h m ≡ Some a → Owns m a h own) →
    Owns m a (e ∷ h) (cond (s == n) (e ∷ own) own)
unfolding ask_numbered is_left_after
owns_more n m s a g h own (Ask conn command spot answer) fits front is ih =
    asks n m s a h own (Ask conn command spot answer) conn (key_of spot) (number_in answer) (λ g' j. refl) (λ g' place c. refl) fits front is ih
owns_more n m s a g h own (Leave c count) fits front is ih = leaves m a h own c count (s == n) (ih is)
owns_more n m s a g h own e fits front is ih = passes m a h own e (s == n) (λ g'. refl) (λ g' place c. refl) (ih is)

owns : (n m : ℕ) (a : Numbered) (o : List Entry) (g : List (ℕ × Entry)) → BeginsWell o → Seated g → a.conn.front + 1 ≡ n → a.conn.front ≢ replay_front → ask_numbered (plain g ++ o) m ≡ Some a → Owns m a (plain g ++ o) (own_of n g)
owns n m a o [] begun seated front other is = absurd (other (begun.asks m a is))
owns n m a o (x ∷ g) begun seated front other is = owns_more n m x.0 a g (plain g ++ o) (own_of n g) x.1 seated.0 front is (owns n m a o g begun seated.1 front other)

-- what was not replied in the whole was not replied among the own entries
unreplied_more : (m : ℕ) (h own : List Entry) (e : Entry) (b : Bool) → is_replied (e ∷ h) m ≡ false → (is_replied h m ≡ false → is_replied own m ≡ false) → is_replied (cond b (e ∷ own) own) m ≡ false
unfolding is_replied
unreplied_more m h own (Collect front (Collected.Reply r)) true un ih = let parts = or_parts (r.ask == m) (is_replied h m) un in rw parts.0 (ih parts.1)
unreplied_more m h own (Collect front (Collected.Reply r)) false un ih = ih (or_parts (r.ask == m) (is_replied h m) un).1
unreplied_more m h own e true un ih = ih un
unreplied_more m h own e false un ih = ih un

unreplied : (n m : ℕ) (o : List Entry) (g : List (ℕ × Entry)) → is_replied (plain g ++ o) m ≡ false → is_replied (own_of n g) m ≡ false
unfolding is_replied
unreplied n m o [] un = refl
unreplied n m o (x ∷ g) un = unreplied_more m (plain g ++ o) (own_of n g) x.1 (x.0 == n) un (unreplied n m o g)

-- a reply to a front is of a connection of that front
reply_front : (h : List Entry) (front : ℕ) (r : Reply) → Collected.Reply r ≡ collect_rule h front → r.conn.front ≡ front
reply_front h front r is = go (due_replies h front) (is_stopped h) (replies_in At _ h (each-map _ _ (filter (λ a. a.conn.front == front) (open_asks h)) (λ a test. grind (arith, nat_tests)) (each-passes (λ a. a.conn.front == front) (open_asks h)))) is
  where
    At : Numbered → Type 0
    At a = a.conn.front ≡ front

    go : (rs : List Reply) (stopped : Bool) → Each (IsReplyIn At h) rs → Collected.Reply r ≡ collect_from rs stopped → r.conn.front ≡ front
    go [] true all same = cc
    go [] false all same = cc
    go (x ∷ xs) stopped all same = let first : r ≡ x = cc in rw first (ap (λ (c : Conn). c.front) all.0.conn_is ∙ all.0.holds)

pub own_reply : (p : Plan) (told : Bool) (o : List Entry) (g : List (ℕ × Entry)) (front : ℕ) (r : Reply) → BeginsWell o → Seated g → front ≢ replay_front → Legal p told (Collect front (Collected.Reply r) ∷ (plain g ++ o)) → IsOnlyReply (own_of (front + 1) g) r
unfolding Fits
own_reply p told o g front r begun seated other legal =
    let only = (one_reply p told (Collect front (Collected.Reply r) ∷ (plain g ++ o)) legal).0 in
    let at : r.conn.front ≡ front = reply_front (plain g ++ o) front r legal.0 in
    let asker : r.conn.front ≡ only.ask.conn.front = ap (λ (c : Conn). c.front) only.same_asker in
    let own = owns (front + 1) r.ask only.ask o g begun seated (omega arith) (λ e. other (sym at ∙ (asker ∙ e))) only.is_asked in
    record {
      ask = own.ask;
      is_asked = own.is_asked;
      same_asker = only.same_asker ∙ sym own.conn_is;
      is_first = unreplied (front + 1) r.ask o g only.is_first;
      not_left = subst (λ c. is_left_after (own_of (front + 1) g) (length own.ask.before) c ≡ false) (sym own.conn_is) (own.not_left only.not_left);
    }
