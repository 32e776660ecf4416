-- What the ports tell of a connection after rounds that fit.
use Rattle.std.proofs.Common.{◌≡◌, ◌==◌, ◌≤◌, ◌+◌, ℕ, Bool, true, false, not, ◌&&◌, ◌||◌, cond, List, [], ◌∷◌, ◌++◌, length, drop, take, Option, Some, None, IfSome, refl, sym, ap, subst, ◌∙◌, arith, append_assoc, length-append}
use Rattle.std.specs.Prelude.{ok_or, unwrap_or}
use Rattle.std.specs.Option.{is_none}
use Rattle.std.specs.List.{list_all}
use Rattle.std.proofs.Math.Bool.{and-false}
use Rattle.std.proofs.lemmas.Bool.{eqb-true}
use Rattle.std.proofs.lemmas.List.{append-nil, take-append-le, length-drop}
use Rattle.std.proofs.Math.Seq.{take-add}
use Rattle.reactor_ports.specs.declared.events.PortEvent.{PortEvent}
use Rattle.reactor_ports.specs.declared.events.PortEvent.TheVariants as event
use Rattle.reactor_ports.specs.declared.events.SendFault.TheVariants as send_fault
use Rattle.reactor_ports.specs.Told.{PortsTold, MayCome, heard, after_send, after_close}
use Rattle.front_loop.specs.declared.dispositions.Reason.TheVariants as reason
use Rattle.front_loop.specs.Rules.{EachSoFar, Rules, Move, answer_bytes}
use Rattle.front_loop.specs.Rounds.{Send, Departure, FrontRound, in_turn, has, gone, connections_after, there}
use Rattle.front_loop.specs.Conns.{Standing, opens, loses, shut_out, is_tried, send_fails, made, blank, conn, before, is_open, due, told_after}
use Rattle.front_loop.specs.RoundRules.{SendFits, MayFollow, RoundFits}
use Rattle.front_loop.specs.Serving.{TellsOf}
use Rattle.front_loop.specs.inner.Sessions.{Apart}
use Rattle.front_loop.specs.inner.Stands.{EachMayCome}
use Rattle.front_loop.proofs.Tables.{same, flipped, has_more, apart_snoc, apart_remove, remove, remove_is}
use Rattle.front_loop.proofs.Sitting.{clash, took_after, untried_took}

nil_front : (xs ys : List ℕ) → xs ++ ys ≡ [] → xs ≡ []
nil_front [] ys h = refl
nil_front (x ∷ xs) ys h = cc

and_true : (b : Bool) → (b && true) ≡ b
and_true true = refl
and_true false = refl

-- ---- lists of connections

has_last : (cs : List ℕ) (c d : ℕ) → (d == c) ≡ true → has (cs ++ d ∷ []) c ≡ true
has_last [] c d h = ap (λ b. cond b true false) h
has_last (x ∷ cs) c d h = has_more (x == c) (has (cs ++ d ∷ []) c) (has_last cs c d h)

has_before : (cs : List ℕ) (c d : ℕ) → (d == c) ≡ false → has (cs ++ d ∷ []) c ≡ has cs c
has_before [] c d h = ap (λ b. cond b true false) h
has_before (x ∷ cs) c d h = ap (cond (x == c) true) (has_before cs c d h)

kept_by : (b : Bool) (cs : List ℕ) (x c d : ℕ) → (x == d) ≡ b → (d == c) ≡ false → has (remove cs d) c ≡ has cs c
    → has (cond b cs (x ∷ remove cs d)) c ≡ cond (x == c) true (has cs c)
kept_by true cs x c d e h k = sym (ap (λ v. cond v true (has cs c)) (ap (λ v. v == c) (eqb-true x d e) ∙ h))
kept_by false cs x c d e h k = ap (cond (x == c) true) k

has_kept : (cs : List ℕ) (c d : ℕ) → (d == c) ≡ false → has (remove cs d) c ≡ has cs c
has_kept [] c d h = refl
has_kept (x ∷ cs) c d h = kept_by (x == d) cs x c d refl h (has_kept cs c d h)

removed_by : (b : Bool) (cs : List ℕ) (x c : ℕ) → (x == c) ≡ b → has cs x ≡ false → has (remove cs c) c ≡ false → has (cond b cs (x ∷ remove cs c)) c ≡ false
removed_by true cs x c e h k = ap (has cs) (sym (eqb-true x c e)) ∙ h
removed_by false cs x c e h k = ap (λ v. cond v true (has (remove cs c) c)) e ∙ k

has_removed : (cs : List ℕ) (c : ℕ) → Apart cs → has (remove cs c) c ≡ false
has_removed [] c a = refl
has_removed (x ∷ cs) c a = removed_by (x == c) cs x c refl a.0 (has_removed cs c a.1)

-- ---- events

came_taken : (e : PortEvent) (piece : List ℕ) (kept : Bool) (t : PortsTold) (c : ℕ) → (shut_out e kept (heard e piece t)).taken c ≡ t.taken c
came_taken (event.Opened d) piece true t c = refl
came_taken (event.Opened d) piece false t c = refl
came_taken (event.Bytes d) piece kept t c = refl
came_taken (event.Writable d) piece kept t c = refl
came_taken (event.Ended d) piece kept t c = refl
came_taken (event.Lost d) piece kept t c = refl
came_taken event.Woken piece kept t c = refl
came_taken event.Finished piece kept t c = refl
came_taken event.Broken piece kept t c = refl
came_taken event.NoMemory piece kept t c = refl

fresh_taken : (e : PortEvent) (kept : Bool) (t : PortsTold) (c : ℕ) → MayCome e t → (opens e c && kept) ≡ true → t.taken c ≡ []
fresh_taken (event.Opened d) kept t c m h = by_test (d == c) refl h
  where
    by_test : (b : Bool) → (d == c) ≡ b → (b && kept) ≡ true → t.taken c ≡ []
    by_test true e k = ap t.taken (sym (eqb-true d c e)) ∙ m.4
    by_test false e k = clash (sym k)
fresh_taken (event.Bytes d) kept t c m h = clash (sym h)
fresh_taken (event.Writable d) kept t c m h = clash (sym h)
fresh_taken (event.Ended d) kept t c m h = clash (sym h)
fresh_taken (event.Lost d) kept t c m h = clash (sym h)
fresh_taken event.Woken kept t c m h = clash (sym h)
fresh_taken event.Finished kept t c m h = clash (sym h)
fresh_taken event.Broken kept t c m h = clash (sym h)
fresh_taken event.NoMemory kept t c m h = clash (sym h)

-- the connections that are there after an event stand once
apart_opened : (cs : List ℕ) (e : PortEvent) (kept : Bool) → (kept ≡ true → (c : ℕ) × (e ≡ event.Opened c) × (has cs c ≡ false)) → Apart cs → Apart (connections_after cs e kept)
apart_opened cs (event.Opened c) true n a =
    let k = n refl in
    let q : k.0 ≡ c = (let h = k.1 in cc) in
    apart_snoc cs c a (ap (has cs) (sym q) ∙ k.2)
apart_opened cs (event.Opened c) false n a = a
apart_opened cs (event.Bytes c) kept n a = a
apart_opened cs (event.Writable c) kept n a = a
apart_opened cs (event.Ended c) kept n a = a
apart_opened cs (event.Lost c) kept n a = a
apart_opened cs event.Woken kept n a = a
apart_opened cs event.Finished kept n a = a
apart_opened cs event.Broken kept n a = a
apart_opened cs event.NoMemory kept n a = a

-- an event opens and closes what it says, where open was what was there
open_came : (cs : List ℕ) (e : PortEvent) (piece : List ℕ) (kept : Bool) (t : PortsTold) (c : ℕ) → MayCome e t → t.is_open c ≡ has cs c
    → (shut_out e kept (heard e piece t)).is_open c ≡ (has (connections_after cs e kept) c && not (loses e c || false))
open_came cs (event.Opened d) piece true t c m h = by_test (d == c) refl
  where
    by_test : (b : Bool) → (d == c) ≡ b → cond (c == d) true (t.is_open c) ≡ (has (cs ++ d ∷ []) c && true)
    by_test true e = ap (λ v. cond v true (t.is_open c)) (ap (λ x. c == x) (eqb-true d c e) ∙ same c) ∙ sym (has_last cs c d e) ∙ sym (and_true (has (cs ++ d ∷ []) c))
    by_test false e = ap (λ v. cond v true (t.is_open c)) (flipped d c e) ∙ h ∙ sym (has_before cs c d e) ∙ sym (and_true (has (cs ++ d ∷ []) c))
open_came cs (event.Opened d) piece false t c m h = by_test (d == c) refl
  where
    by_test : (b : Bool) → (d == c) ≡ b → cond (c == d) false (cond (c == d) true (t.is_open c)) ≡ (has cs c && true)
    by_test true e =
        let q = eqb-true d c e in
        ap (λ v. cond v false (cond v true (t.is_open c))) (ap (λ x. c == x) q ∙ same c) ∙ sym m.2 ∙ ap t.is_open q ∙ h ∙ sym (and_true (has cs c))
    by_test false e = ap (λ v. cond v false (cond v true (t.is_open c))) (flipped d c e) ∙ h ∙ sym (and_true (has cs c))
open_came cs (event.Lost d) piece kept t c m h = by_test (d == c) refl
  where
    by_test : (b : Bool) → (d == c) ≡ b → cond (c == d) false (t.is_open c) ≡ (has cs c && not ((d == c) || false))
    by_test true e =
        ap (λ v. cond v false (t.is_open c)) (ap (λ x. c == x) (eqb-true d c e) ∙ same c) ∙ sym (and-false (has cs c)) ∙ ap (λ v. has cs c && not (v || false)) (sym e)
    by_test false e =
        ap (λ v. cond v false (t.is_open c)) (flipped d c e) ∙ h ∙ sym (and_true (has cs c)) ∙ ap (λ v. has cs c && not (v || false)) (sym e)
open_came cs (event.Bytes d) piece kept t c m h = h ∙ sym (and_true (has cs c))
open_came cs (event.Writable d) piece kept t c m h = h ∙ sym (and_true (has cs c))
open_came cs (event.Ended d) piece kept t c m h = h ∙ sym (and_true (has cs c))
open_came cs event.Woken piece kept t c m h = h ∙ sym (and_true (has cs c))
open_came cs event.Finished piece kept t c m h = h ∙ sym (and_true (has cs c))
open_came cs event.Broken piece kept t c m h = h ∙ sym (and_true (has cs c))
open_came cs event.NoMemory piece kept t c m h = h ∙ sym (and_true (has cs c))

module _ {A W : Type 0} (R : Rules A W) where
  -- ---- the connections of rounds that fit stand once

  apart_gone : (ds : List Departure) (cs : List ℕ) → Apart cs → Apart (gone ds cs)
  apart_gone [] cs a = a
  apart_gone (d ∷ ds) cs a = subst Apart (remove_is (gone ds cs) d.conn) (apart_remove (gone ds cs) d.conn (apart_gone ds cs a))

  apart_came : (rs : List (FrontRound A)) (r : FrontRound A) → RoundFits R rs r → Apart (there rs) → Apart (connections_after (there rs) r.event r.kept)
  apart_came rs r f a = apart_opened (there rs) r.event r.kept (λ k. let x = f.room k in (x.0, x.1, x.2)) a

  apart_there : (rs : List (FrontRound A)) → EachSoFar (RoundFits R) rs → Apart (there rs)
  apart_there [] s = tt
  apart_there (r ∷ rs) s = apart_gone r.left (connections_after (there rs) r.event r.kept) (apart_came rs r s.0 (apart_there rs s.1))

  -- ---- bytes

  -- these bytes were taken of a connection, where those were taken before
  abbrev Takes : List ℕ → ℕ → List (Move A) → List ℕ → Type 0
  Takes past took ms now = (now ≡ past ++ take took (answer_bytes R ms)) × (took ≤ length (answer_bytes R ms))

  takes_moved : (past now : List ℕ) (took : ℕ) (ms old : List (Move A)) → Takes past took old now → Takes past took (ms ++ old) now
  takes_moved past now took [] old h = h
  takes_moved past now took (m ∷ ms) old h =
      let k = takes_moved past now took ms old h in
      let e = length-append (answer_bytes R (ms ++ old)) (R.says (ms ++ old) m) in
      let l = k.1 in
      (k.0 ∙ ap (λ xs. past ++ xs) (sym (take-append-le took (answer_bytes R (ms ++ old)) (R.says (ms ++ old) m) k.1)), omega (arith, e, l))

  takes_some : (n took : ℕ) (ms : List (Move A)) (past now : List ℕ) → n ≤ length (drop took (answer_bytes R ms)) → Takes past took ms now
      → Takes past (took + n) ms (now ++ take n (drop took (answer_bytes R ms)))
  takes_some n took ms past now k h =
      let e = length-drop took (answer_bytes R ms) in
      let l = h.1 in (
        ap (λ xs. xs ++ take n (drop took (answer_bytes R ms))) h.0 ∙ append_assoc past (take took (answer_bytes R ms)) (take n (drop took (answer_bytes R ms)))
            ∙ ap (λ xs. past ++ xs) (sym (take-add took n (answer_bytes R ms))),
        omega (arith, e, l, k),
      )

  -- what ports tell after these sends of a round, and after these of its connections were left
  abbrev sent_on : List (FrontRound A) → FrontRound A → List Send → PortsTold → PortsTold
  sent_on rs r ss t = in_turn (λ (s : Send) t. after_send s.conn (due R (before rs r s.conn) r s.conn) (ok_or s.taken send_fault.Failed) t) ss t

  abbrev left_on : FrontRound A → List Departure → PortsTold → PortsTold
  left_on r ds t = in_turn (λ (d : Departure) t. cond (is_open r d.conn) (after_close d.conn t) t) ds t

  module _ (rs : List (FrontRound A)) (r : FrontRound A) (t : PortsTold) (c : ℕ) (past : List ℕ) where
    abbrev p : Standing A
    p = before rs r c

    abbrev ms : List (Move A)
    ms = made r c ++ p.moves

    takes_send : (s : Send) (u : PortsTold) (took : ℕ) → ((d : ℕ) → d ≡ c → s.conn ≡ d → took ≡ p.took) → IfSome s.taken (λ n. n ≤ length (due R (before rs r s.conn) r s.conn)) → Takes past took ms (u.taken c)
        → Takes past (cond (s.conn == c) (took + unwrap_or s.taken 0) took) ms ((after_send s.conn (due R (before rs r s.conn) r s.conn) (ok_or s.taken send_fault.Failed) u).taken c)
    takes_send s u took once most h = by_taken s.taken refl
      where
        by_taken : (o : Option ℕ) → s.taken ≡ o → Takes past (cond (s.conn == c) (took + unwrap_or s.taken 0) took) ms ((after_send s.conn (due R (before rs r s.conn) r s.conn) (ok_or s.taken send_fault.Failed) u).taken c)
        by_taken None e =
            subst (λ (o : Option ℕ). Takes past (cond (s.conn == c) (took + unwrap_or o 0) took) ms ((after_send s.conn (due R (before rs r s.conn) r s.conn) (ok_or o send_fault.Failed) u).taken c)) (sym e)
            (by_test (s.conn == c))
          where
            none_more : (n : ℕ) → n ≡ n + 0
            none_more n = omega arith

            by_test : (b : Bool) → Takes past (cond b (took + 0) took) ms (u.taken c)
            by_test true = subst (λ n. Takes past n ms (u.taken c)) (none_more took) h
            by_test false = h
        by_taken (Some n) e =
            subst (λ (o : Option ℕ). Takes past (cond (s.conn == c) (took + unwrap_or o 0) took) ms ((after_send s.conn (due R (before rs r s.conn) r s.conn) (ok_or o send_fault.Failed) u).taken c)) (sym e)
            (by_test (s.conn == c) refl)
          where
            by_test : (b : Bool) → (s.conn == c) ≡ b → Takes past (cond b (took + n) took) ms (cond (c == s.conn) (u.taken s.conn ++ take n (due R (before rs r s.conn) r s.conn)) (u.taken c))
            by_test true q =
                let sc = eqb-true s.conn c q in
                let is : took ≡ p.took = once c refl sc in
                subst (Takes past (took + n) ms)
                (sym (ap (λ b. cond b (u.taken s.conn ++ take n (due R (before rs r s.conn) r s.conn)) (u.taken c)) (ap (λ x. c == x) sc ∙ same c)
                ∙ ap (λ x. u.taken x ++ take n (due R (before rs r x) r x)) sc ∙ ap (λ k. u.taken c ++ take n (drop k (answer_bytes R ms))) (sym is)))
                (takes_some n took ms past (u.taken c)
                (subst (λ k. n ≤ length (drop k (answer_bytes R ms))) (sym is) (subst (λ x. n ≤ length (due R (before rs r x) r x)) sc (subst (λ (o : Option ℕ). IfSome o (λ n. n ≤ length (due R (before rs r s.conn) r s.conn))) e most))) h)
            by_test false q = subst (Takes past took ms) (sym (ap (λ b. cond b (u.taken s.conn ++ take n (due R (before rs r s.conn) r s.conn)) (u.taken c)) (flipped s.conn c q))) h

    takes_sends : (ss : List Send) → EachSoFar (SendFits R rs r) ss → Takes past p.took ms (t.taken c) → Takes past (took_after ss c p.took) ms ((sent_on rs r ss t).taken c)
    takes_sends [] f h = h
    takes_sends (s ∷ ss) f h =
        takes_send s (in_turn (λ (s : Send) t. after_send s.conn (due R (before rs r s.conn) r s.conn) (ok_or s.taken send_fault.Failed) t) ss t) (took_after ss c p.took)
        (λ d e k. untried_took ss c p.took (subst (λ x. is_tried ss x ≡ false) (k ∙ e) f.0.once)) f.0.most (takes_sends ss f.1 h)

    -- a connection that is left takes no bytes
    takes_left : (ds : List Departure) (u : PortsTold) → (left_on r ds u).taken c ≡ u.taken c
    takes_left [] u = refl
    takes_left (d ∷ ds) u = by_test (is_open r d.conn) ∙ takes_left ds u
      where
        by_test : (b : Bool) → (cond b (after_close d.conn (left_on r ds u)) (left_on r ds u)).taken c ≡ (left_on r ds u).taken c
        by_test true = refl
        by_test false = refl

  takes_came : (e : PortEvent) (kept : Bool) (t : PortsTold) (c : ℕ) (q : Standing A) (past : List ℕ) → MayCome e t → Takes past q.took q.moves (t.taken c)
      → Takes past (cond (opens e c && kept) blank q).took (cond (opens e c && kept) blank q).moves (t.taken c)
  takes_came e kept t c q past m h = by_test (opens e c && kept) refl
    where
      by_test : (b : Bool) → (opens e c && kept) ≡ b → Takes past (cond b blank q).took (cond b blank q).moves (t.taken c)
      by_test true k =
          let none = fresh_taken e kept t c m k in
          (none ∙ sym (append-nil past ∙ nil_front past (take q.took (answer_bytes R q.moves)) (sym h.0 ∙ none)), omega arith)
      by_test false k = h

  takes : (rs : List (FrontRound A)) (t : PortsTold) (c : ℕ) → EachSoFar (RoundFits R) rs → EachMayCome R rs t → Takes (t.taken c) (conn rs c).took (conn rs c).moves ((told_after R rs t).taken c)
  takes [] t c s m = (sym (append-nil (t.taken c)), omega arith)
  takes (r ∷ rs) t c s m =
      let u = told_after R rs t in
      let came = takes_came r.event r.kept u c (conn rs c) (t.taken c) m.0 (takes rs t c s.1 m.1) in
      let p = before rs r c in
      subst (Takes (t.taken c) (took_after r.sends c p.took) (made r c ++ p.moves))
      (sym (takes_left rs r t c (t.taken c) r.left (sent_on rs r r.sends (shut_out r.event r.kept (heard r.event r.piece u)))))
      (takes_sends rs r (shut_out r.event r.kept (heard r.event r.piece u)) c (t.taken c) r.sends s.0.sends
      (subst (Takes (t.taken c) p.took (made r c ++ p.moves)) (sym (came_taken r.event r.piece r.kept u c)) (takes_moved (t.taken c) (u.taken c) p.took (made r c) p.moves came)))

  -- ---- open connections

  -- open after these sends, where the connections are these
  open_sent : (rs : List (FrontRound A)) (r : FrontRound A) (cs : List ℕ) (c : ℕ) (ss : List Send) (t : PortsTold) → EachSoFar (SendFits R rs r) ss
      → t.is_open c ≡ (has cs c && not (loses r.event c || false)) → (sent_on rs r ss t).is_open c ≡ (has cs c && not (loses r.event c || send_fails ss c))
  open_sent rs r cs c [] t f h = h
  open_sent rs r cs c (s ∷ ss) t f h = by_taken (open_sent rs r cs c ss t f.1 h) s.taken refl
    where
      by_taken : (sent_on rs r ss t).is_open c ≡ (has cs c && not (loses r.event c || send_fails ss c)) → (o : Option ℕ) → s.taken ≡ o
          → (sent_on rs r (s ∷ ss) t).is_open c ≡ (has cs c && not (loses r.event c || (((s.conn == c) && is_none s.taken) || send_fails ss c)))
      by_taken more (Some n) e =
          subst (λ (o : Option ℕ). (after_send s.conn (due R (before rs r s.conn) r s.conn) (ok_or o send_fault.Failed) (sent_on rs r ss t)).is_open c ≡ (has cs c && not (loses r.event c || (((s.conn == c) && is_none o) || send_fails ss c)))) (sym e)
          (more ∙ ap (λ b. has cs c && not (loses r.event c || (b || send_fails ss c))) (sym (and-false (s.conn == c))))
      by_taken more None e =
          subst (λ (o : Option ℕ). (after_send s.conn (due R (before rs r s.conn) r s.conn) (ok_or o send_fault.Failed) (sent_on rs r ss t)).is_open c ≡ (has cs c && not (loses r.event c || (((s.conn == c) && is_none o) || send_fails ss c)))) (sym e)
          (by_test (s.conn == c) refl)
        where
          lost : (a : Bool) → not (a || true) ≡ false
          lost true = refl
          lost false = refl

          by_test : (b : Bool) → (s.conn == c) ≡ b → cond (c == s.conn) false ((sent_on rs r ss t).is_open c) ≡ (has cs c && not (loses r.event c || ((b && true) || send_fails ss c)))
          by_test true q =
              ap (λ v. cond v false ((sent_on rs r ss t).is_open c)) (ap (λ x. c == x) (eqb-true s.conn c q) ∙ same c) ∙ sym (and-false (has cs c)) ∙ ap (λ v. has cs c && v) (sym (lost (loses r.event c)))
          by_test false q = ap (λ v. cond v false ((sent_on rs r ss t).is_open c)) (flipped s.conn c q) ∙ more

  -- and after these were left
  open_left : (r : FrontRound A) (c : ℕ) (ds : List Departure) (cs : List ℕ) (t : PortsTold) → Apart cs → t.is_open c ≡ (has cs c && is_open r c)
      → (left_on r ds t).is_open c ≡ (has (gone ds cs) c && is_open r c)
  open_left r c [] cs t a h = h
  open_left r c (d ∷ ds) cs t a h =
      by_test (open_left r c ds cs t a h) (d.conn == c) refl ∙ ap (λ xs. has xs c && is_open r c) (remove_is (gone ds cs) d.conn)
    where
      closed : (b : Bool) → (left_on r ds t).is_open c ≡ (has (gone ds cs) c && b) → (cond b (after_close c (left_on r ds t)) (left_on r ds t)).is_open c ≡ false
      closed true k = ap (λ v. cond v false ((left_on r ds t).is_open c)) (same c)
      closed false k = k ∙ and-false (has (gone ds cs) c)

      stays : (b : Bool) → (d.conn == c) ≡ false → (cond b (after_close d.conn (left_on r ds t)) (left_on r ds t)).is_open c ≡ (left_on r ds t).is_open c
      stays true e = ap (λ v. cond v false ((left_on r ds t).is_open c)) (flipped d.conn c e)
      stays false e = refl

      by_test : (left_on r ds t).is_open c ≡ (has (gone ds cs) c && is_open r c) → (b : Bool) → (d.conn == c) ≡ b
          → (left_on r (d ∷ ds) t).is_open c ≡ (has (remove (gone ds cs) d.conn) c && is_open r c)
      by_test more true e =
          let q = eqb-true d.conn c e in
          ap (λ x. (cond (is_open r x) (after_close x (left_on r ds t)) (left_on r ds t)).is_open c) q ∙ closed (is_open r c) more
          ∙ ap (λ v. v && is_open r c) (sym (ap (λ x. has (remove (gone ds cs) x) c) q ∙ has_removed (gone ds cs) c (apart_gone ds cs a)))
      by_test more false e = stays (is_open r d.conn) e ∙ more ∙ ap (λ v. v && is_open r c) (sym (has_kept (gone ds cs) c d.conn e))

  -- where the newest round is whole, open is what is there
  open_whole : (rs : List (FrontRound A)) (c : ℕ) (x : Bool) → MayFollow R rs → x ≡ (has (there rs) c && list_all (λ (r : FrontRound A). is_open r c) (take 1 rs)) → x ≡ has (there rs) c
  open_whole [] c x m h = h
  open_whole (r ∷ rs) c x m h = h ∙ by_test (has (there (r ∷ rs)) c) refl
    where
      up : (a b : Bool) → a ≡ false → b ≡ false → (not (a || b) && true) ≡ true
      up true b h k = clash h
      up false true h k = clash k
      up false false h k = refl

      by_test : (b : Bool) → has (there (r ∷ rs)) c ≡ b → (b && (is_open r c && true)) ≡ b
      by_test true e =
          let k = m.0.kept c e in
          up (loses r.event c) (send_fails r.sends c) (k.calm reason.Lost) (k.calm reason.SendFailed)
      by_test false e = refl

  open_is : (rs : List (FrontRound A)) (t : PortsTold) (c : ℕ) → EachSoFar (RoundFits R) rs → EachMayCome R rs t → t.is_open c ≡ false
      → (told_after R rs t).is_open c ≡ (has (there rs) c && list_all (λ (r : FrontRound A). is_open r c) (take 1 rs))
  open_is [] t c s m h = h
  open_is (r ∷ rs) t c s m h =
      let u = told_after R rs t in
      let cs = connections_after (there rs) r.event r.kept in
      open_left r c r.left cs (sent_on rs r r.sends (shut_out r.event r.kept (heard r.event r.piece u))) (apart_came rs r s.0 (apart_there rs s.1))
      (open_sent rs r cs c r.sends (shut_out r.event r.kept (heard r.event r.piece u)) s.0.sends
      (open_came (there rs) r.event r.piece r.kept u c m.0 (open_whole rs c (u.is_open c) s.0.follows (open_is rs t c s.1 m.1 h))))
      ∙ ap (λ b. has (there (r ∷ rs)) c && b) (sym (and_true (is_open r c)))

  -- both, of ports that tell
  pub tells : (start : Option PortsTold) (rs : List (FrontRound A)) → EachSoFar (RoundFits R) rs → IfSome start (EachMayCome R rs) → IfSome start (λ t. (c : ℕ) → TellsOf R rs t c)
  tells None rs s m = tt
  tells (Some t) rs s m = λ c. ((takes rs t c s m).0, λ h. open_is rs t c s m h)
