-- A connection is opened: it gets a session, or is closed.
use Rattle.std.proofs.Common.{◌≡◌, ◌==◌, ◌<◌, ◌+◌, ◌-◌, ◌^◌, ℕ, suc, Bool, true, false, ◌&&◌, cond, List, [], ◌∷◌, ◌++◌, length, min, Option, Some, None, option_map, IfSome, refl, sym, ap, subst, ◌∙◌, arith, nat_lt, inl, inr}
use Rattle.std.proofs.Math.Bool.{and-false}
use Rattle.std.proofs.lemmas.Bool.{eqb-true, le-ltb}
use Rattle.farm_base.specs.Limits.{most_rest_bytes, most_sessions}
use Rattle.farm_history.specs.Entries.{Entry}
use Rattle.reactor_ports.specs.declared.events.PortEvent.{PortEvent}
use Rattle.reactor_ports.specs.declared.events.PortEvent.TheVariants as event
use Rattle.reactor_ports.specs.Told.{PortsTold, IsOpen, MayCome, Hears as HearsEvent, heard, after_close}
use Rattle.reactor_ports.specs.Boxes.{rest_at, rest_of}
use Rattle.front_loop.specs.declared.dispositions.Disposition.TheVariants.{Stays}
use Rattle.front_loop.specs.declared.dispositions.Reason.{Reason}
use Rattle.front_loop.specs.declared.dispositions.Reason.TheVariants as reason
use Rattle.front_loop.specs.declared.sessions.Session.{Session}
use Rattle.front_loop.specs.declared.sessions.SessionTable.{SessionTable}
use Rattle.front_loop.specs.Rules.{Rules, Move}
use Rattle.front_loop.specs.Rounds.{FrontRound, has, starved_in, there}
use Rattle.front_loop.specs.Conns.{blank, conn, before, closes, told_after}
use Rattle.front_loop.specs.RoundRules.{RoundFits}
use Rattle.front_loop.specs.Front.{Begins}
use Rattle.front_loop.specs.inner.Sessions.{conns, keys, Apart, newcomer}
use Rattle.front_loop.specs.inner.Stands.{World, Sits, Waits}
use Rattle.front_loop.specs.inner.Stages.{begun, Comes, CanCollect, Opens}
use Rattle.front_loop.proofs.Tables.{other, same, conns_snoc, each_weaker, each_none, each_snoc, apart_snoc}
use Rattle.front_loop.proofs.Rests.{keys_snoc, kept_snoc, at_snoc, none_keyed}
use Rattle.front_loop.proofs.Sitting.{clash, or_none, sits_as, others, calm_unclosed, sits_quiet}
use Rattle.front_loop.proofs.Worlds.{told_more, came_may, all_fit, fits_before}
use Rattle.front_loop.proofs.Lefts.{min_more}

just_open : (o : Option PortsTold) (c : ℕ) (piece : List ℕ) → IsOpen c (option_map (heard (event.Opened c) piece) o)
just_open None c piece = tt
just_open (Some t) c piece = ap (λ b. cond b true (t.is_open c)) (same c)

opened_open : (told was : Option PortsTold) (c : ℕ) (piece : List ℕ) → HearsEvent (event.Opened c) piece was told → IsOpen c told
opened_open told was c piece h = subst (IsOpen c) (sym h.1) (just_open was c piece)

pub opened_by : (e : PortEvent) (c : ℕ) (piece : List ℕ) (was told : Option PortsTold) → e ≡ event.Opened c → HearsEvent e piece was told → IsOpen c told
opened_by e c piece was told q h = opened_open told was c piece (subst (λ x. HearsEvent x piece was told) q h)

still_open : (o : Option PortsTold) (c d : ℕ) (piece : List ℕ) → IfSome o (MayCome (event.Opened c)) → IsOpen d o
    → IsOpen d (option_map (after_close c) (option_map (heard (event.Opened c) piece) o))
still_open None c d piece m i = tt
still_open (Some t) c d piece m i = by_test (d == c) refl
  where
    by_test : (b : Bool) → (d == c) ≡ b → cond (d == c) false (cond (d == c) true (t.is_open d)) ≡ true
    by_test true e = clash (sym i ∙ ap t.is_open (eqb-true d c e) ∙ m.2)
    by_test false e = ap (λ b. cond b false (cond b true (t.is_open d))) e ∙ i

open_more : (o : Option PortsTold) (c d : ℕ) (piece : List ℕ) → (d ≡ c → ⊥) → IsOpen d o → IsOpen d (option_map (heard (event.Opened c) piece) o)
open_more None c d piece n i = tt
open_more (Some t) c d piece n i = ap (λ b. cond b true (t.is_open d)) (other d c n) ∙ i

count_refused : (b : Bool) (n k starved : ℕ) → starved ≡ min n k → cond b (min (starved + 1) k) starved ≡ min (cond b (n + 1) n) k
count_refused true n k starved e = ap (λ x. min (x + 1) k) e ∙ min_more n k
count_refused false n k starved e = e

length_conns : {T : Type 0} → (ss : List (Session T)) → length (conns ss) ≡ length ss
length_conns [] = refl
length_conns (x ∷ xs) = ap (λ n. suc n) (length_conns xs)

module _ {A W T : Type 0} (R : Rules A W) (K : List ℕ → List (Move A) → T → Type 0) where
  -- the round fits
  fits_opened : (c : ℕ) (piece : List ℕ) (kept : Bool) (start told : Option PortsTold) (w : World T) → (m : Comes R K (event.Opened c) piece start told w)
      → (kept ≡ true → (has (there m.rounds) c ≡ false) × (length (there m.rounds) < most_sessions)) → RoundFits R m.rounds (begun (event.Opened c) piece kept [])
  fits_opened c piece kept start told w m room = record {
    follows = m.can.follows;
    begins = (λ (q : event.Opened c ≡ event.Broken). cc, λ (q : event.Opened c ≡ event.NoMemory). cc);
    room = λ h. let k = room h in (c, refl, k.0, k.1);
    asks = λ d i. inl refl;
    fits = λ d. fits_before R ((c == d) && kept) (conn m.rounds d) (all_fit R m.rounds m.can.stands.are_told.sound d);
    order = λ n. (refl, refl);
    sends = tt;
    left = tt;
  }

  -- it got no session
  refused : (c : ℕ) (piece : List ℕ) (start told told' : Option PortsTold) (w : World T) (starved' : ℕ) → (m : Comes R K (event.Opened c) piece start told w)
      → told' ≡ option_map (after_close c) told → starved' ≡ cond (nat_lt (length w.sessions) most_sessions) (min (w.starved + 1) (2 ^ 64 - 1)) w.starved
      → CanCollect R K (event.Opened c) start (record w { told = told'; starved = starved' })
  refused c piece start told told' w starved' m t n =
      let st = m.can.stands in
      let at = st.are_told in
      let r : FrontRound A = begun (event.Opened c) piece false [] in
      let told_is = t ∙ ap (option_map (after_close c)) m.heard.1 in
      record {
        rounds = m.rounds;
        round = r;
        replies = [];
        event_is = refl;
        makes = record {
          stands = record {
            are_told = record {
              entries = at.entries;
              telling = told_more start told told' (after_close c) (λ v. heard (event.Opened c) piece (told_after R m.rounds v))
                  (told_more start w.told told (heard (event.Opened c) piece) (told_after R m.rounds) at.telling m.heard.1) t;
              coming = came_may R start w.told r m.rounds at.telling m.heard.0 at.coming;
              sound = (fits_opened c piece false start told w m (λ h. clash (sym h)), at.sound);
              counted = n ∙ count_refused (nat_lt (length w.sessions) most_sessions) (starved_in m.rounds) (2 ^ 64 - 1) w.starved at.counted
                  ∙ ap (λ k. min (cond (nat_lt k most_sessions) (starved_in m.rounds + 1) (starved_in m.rounds)) (2 ^ 64 - 1)) (sym (length_conns w.sessions) ∙ ap length st.conns_are);
            };
            conns_are = st.conns_are;
            keys_are = st.keys_are;
            apart = st.apart;
          };
          each = each_weaker (λ (x : Session T). Waits R K (conn m.rounds x.conn) x w.told w.box) (λ (x : Session T). Sits R K (before m.rounds r x.conn) r x.conn [] x told' w.box) w.sessions
              (λ x q. subst (λ b. Sits R K (cond b blank (conn m.rounds x.conn)) r x.conn [] x told' w.box) (sym (and-false (c == x.conn)))
              (sits_quiet R K (event.Opened c) piece false [] (conn m.rounds x.conn) x w.told w.box q refl told'
              (λ o. subst (IsOpen x.conn) (sym told_is) (still_open w.told c x.conn piece m.heard.0 o)) refl refl refl))
              m.can.each;
        };
      }

  -- a new session
  new_sits : (c : ℕ) (piece : List ℕ) (told : Option PortsTold) (box : List (ℕ × List ℕ)) (conn_state : T) → Begins R K conn_state → IsOpen c told → rest_at box c ≡ Some []
      → Sits R K blank (begun (event.Opened c) piece true []) c [] (newcomer c conn_state) told box
  new_sits c piece told box conn_state b o h =
      sits_as R K blank r c [] (newcomer c conn_state) told box Stays refl ([], h) (λ _. o) refl (omega arith)
      (λ _. record {
        rest_is = ap rest_of h;
        asked_all = b.wanted;
        whole = refl;
        knows = b.knows;
        unclosed = calm_unclosed R blank r c [] calm;
        owed = λ e. clash (sym e);
        nothing_due = λ _ m t. clash (sym m ∙ or_none (nat_lt 0 0) (R.refuses []) refl b.read);
      })
      calm (λ _. (b.wanted, tt, tt))
    where
      r : FrontRound A
      r = begun (event.Opened c) piece true []

      calm : (why : Reason) → closes R blank (begun (event.Opened c) piece true []) c [] why ≡ false
      calm reason.Ended = refl
      calm reason.Lost = refl
      calm reason.Cut = refl
      calm reason.Full = le-ltb (0 + most_rest_bytes) 0 (omega arith)
      calm reason.Unread = b.read
      calm reason.SentWhole = refl
      calm reason.SendFailed = refl
      calm reason.NoMemory = refl
      calm reason.Starved = refl

  -- it got one
  admitted : (c : ℕ) (piece : List ℕ) (start told : Option PortsTold) (w : World T) (conn_state : T) → (m : Comes R K (event.Opened c) piece start told w) → Begins R K conn_state
      → length w.sessions < most_sessions → has (conns w.sessions) c ≡ false
      → CanCollect R K (event.Opened c) start (record w { told = told; sessions = w.sessions ++ newcomer c conn_state ∷ []; box = w.box ++ (c, []) ∷ [] })
  admitted c piece start told w conn_state m b l n =
      let st = m.can.stands in
      let at = st.are_told in
      let r : FrontRound A = begun (event.Opened c) piece true [] in
      let box' = w.box ++ (c, []) ∷ [] in
      let no_key : has (keys w.box) c ≡ false = ap (λ cs. has cs c) (st.keys_are ∙ sym st.conns_are) ∙ n in
      let count = ap length st.conns_are in
      let size = length_conns w.sessions in
      record {
        rounds = m.rounds;
        round = r;
        replies = [];
        event_is = refl;
        makes = record {
          stands = record {
            are_told = record {
              entries = at.entries;
              telling = told_more start w.told told (heard (event.Opened c) piece) (told_after R m.rounds) at.telling m.heard.1;
              coming = came_may R start w.told r m.rounds at.telling m.heard.0 at.coming;
              sound = (fits_opened c piece true start told w m (λ _. (ap (λ cs. has cs c) (sym st.conns_are) ∙ n, omega (arith, l, count, size))), at.sound);
              counted = at.counted;
            };
            conns_are = conns_snoc w.sessions (newcomer c conn_state) ∙ ap (λ cs. cs ++ c ∷ []) st.conns_are;
            keys_are = keys_snoc w.box c ∙ ap (λ cs. cs ++ c ∷ []) st.keys_are;
            apart = subst Apart (sym (conns_snoc w.sessions (newcomer c conn_state))) (apart_snoc (conns w.sessions) c st.apart n);
          };
          each = each_snoc (λ (x : Session T). Sits R K (before m.rounds r x.conn) r x.conn [] x told box') w.sessions (newcomer c conn_state)
              (each_none (λ (x : Session T). Waits R K (conn m.rounds x.conn) x w.told w.box) (λ (x : Session T). Sits R K (before m.rounds r x.conn) r x.conn [] x told box') w.sessions c m.can.each n
              (λ x ne q. subst (λ b. Sits R K (cond (b && true) blank (conn m.rounds x.conn)) r x.conn [] x told box') (sym (other c x.conn (λ e. ne (sym e))))
              (others R K (conn m.rounds x.conn) r x.conn [] x told told w.box box'
              (sits_quiet R K (event.Opened c) piece true [] (conn m.rounds x.conn) x w.told w.box q refl told
              (λ o. subst (IsOpen x.conn) (sym m.heard.1) (open_more w.told c x.conn piece ne o)) refl refl refl)
              (kept_snoc w.box c x.conn q.rest_there) (λ o. o))))
              (subst (λ b. Sits R K (cond (b && true) blank (conn m.rounds c)) r c [] (newcomer c conn_state) told box') (sym (same c))
              (new_sits c piece told box' conn_state b (opened_open told w.told c piece m.heard) (at_snoc w.box c (none_keyed w.box c no_key))));
        };
      }

  -- in terms of the table
  pub opened_begins : (c : ℕ) (piece : List ℕ) (start told told' was : Option PortsTold) (mine : List Entry) (old new : SessionTable T)
      → Comes R K (event.Opened c) piece start told (record { told = was; mine = mine; sessions = old.sessions.items; box = old.answers.outbox; starved = old.starved })
      → Opens R K c told told' old new
      → CanCollect R K (event.Opened c) start (record { told = told'; mine = mine; sessions = new.sessions.items; box = new.answers.outbox; starved = new.starved })
  opened_begins c piece start told told' was mine old new m (inl ((conn_state, b, l, n, se, be, te), t)) =
      subst (λ (v : Option PortsTold). CanCollect R K (event.Opened c) start (record { told = v; mine = mine; sessions = new.sessions.items; box = new.answers.outbox; starved = new.starved })) (sym t)
      (subst (λ (v : List (Session T)). CanCollect R K (event.Opened c) start (record { told = told; mine = mine; sessions = v; box = new.answers.outbox; starved = new.starved })) (sym se)
      (subst (λ (v : List (ℕ × List ℕ)). CanCollect R K (event.Opened c) start (record { told = told; mine = mine; sessions = old.sessions.items ++ newcomer c conn_state ∷ []; box = v; starved = new.starved })) (sym be)
      (subst (λ (v : ℕ). CanCollect R K (event.Opened c) start (record { told = told; mine = mine; sessions = old.sessions.items ++ newcomer c conn_state ∷ []; box = old.answers.outbox ++ (c, []) ∷ []; starved = v })) (sym te)
      (admitted c piece start told _ conn_state m b l n))))
  opened_begins c piece start told told' was mine old new m (inr (t, se, be, te)) =
      subst (λ (v : List (Session T)). CanCollect R K (event.Opened c) start (record { told = told'; mine = mine; sessions = v; box = new.answers.outbox; starved = new.starved })) (sym se)
      (subst (λ (v : List (ℕ × List ℕ)). CanCollect R K (event.Opened c) start (record { told = told'; mine = mine; sessions = old.sessions.items; box = v; starved = new.starved })) (sym be)
      (refused c piece start told told' _ new.starved m t te))

-- the count of the starved, of a table whose sessions and count are another's
pub refused_as : {T : Type 0} → (old mid : SessionTable T) → mid.sessions.items ≡ old.sessions.items → mid.starved ≡ old.starved
    → cond (nat_lt (length mid.sessions.items) most_sessions) (min (mid.starved + 1) (2 ^ 64 - 1)) mid.starved
    ≡ cond (nat_lt (length old.sessions.items) most_sessions) (min (old.starved + 1) (2 ^ 64 - 1)) old.starved
refused_as {T} old mid se te =
    ap (λ (xs : List (Session T)). cond (nat_lt (length xs) most_sessions) (min (mid.starved + 1) (2 ^ 64 - 1)) mid.starved) se
    ∙ ap (λ (n : ℕ). cond (nat_lt (length old.sessions.items) most_sessions) (min (n + 1) (2 ^ 64 - 1)) n) te
