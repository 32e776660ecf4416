-- A connection is left, and all else.
use Rattle.std.proofs.Common.{◌≡◌, ◌+◌, ◌-◌, ◌^◌, ℕ, suc, Bool, true, false, cond, List, [], ◌∷◌, ◌++◌, min, take, drop, Option, option_map, refl, sym, ap, subst, ◌∙◌, arith}
use Rattle.std.specs.Prelude.{◌≢◌}
use Rattle.farm_history.specs.Lists.{Each}
use Rattle.farm_history.specs.Entries.{Entry, Leave}
use Rattle.reactor_ports.specs.declared.events.PortEvent.{PortEvent}
use Rattle.reactor_ports.specs.Told.{PortsTold, IsOpen, after_close}
use Rattle.reactor_ports.specs.Boxes.{without}
use Rattle.front_loop.specs.declared.dispositions.Disposition.TheVariants.{Stays, Leaves}
use Rattle.front_loop.specs.declared.dispositions.Reason.{Reason}
use Rattle.front_loop.specs.declared.dispositions.Reason.TheVariants as reason
use Rattle.front_loop.specs.declared.sessions.Session.{Session}
use Rattle.front_loop.specs.Rules.{EachSoFar, Rules, Move}
use Rattle.front_loop.specs.Rounds.{Send, Departure, FrontRound, has, there, starved_in, with_starved}
use Rattle.front_loop.specs.Conns.{Standing, conn, before, made, is_open, closes, told_after}
use Rattle.front_loop.specs.RoundRules.{SendFits, IsStarved, LeaveFits}
use Rattle.front_loop.specs.Front.{keeps}
use Rattle.front_loop.specs.inner.Sessions.{conns, Apart, StandsAt, IsLeaving, is_up, asks_all}
use Rattle.front_loop.specs.inner.Stands.{World, IsAtRest, DispositionFits, Sits}
use Rattle.front_loop.specs.inner.Stages.{OwesNone, CanLeave, IsOver, Shuts}
use Rattle.front_loop.proofs.Tables.{other, remove, remove_is, has_at, conns_less, each_less, each_at, each_both, each_weaker, apart_remove}
use Rattle.front_loop.proofs.Rests.{other_without, keys_without}
use Rattle.front_loop.proofs.Sitting.{closes_again, starved_again, others, sits_again}
use Rattle.front_loop.proofs.Worlds.{told_more, open_by}

one_less : (i : ℕ) → i + 1 ≡ suc i
one_less i = omega arith

min_twice : (n m : ℕ) → min (min n m) m ≡ min n m
min_twice n m = omega arith

pub min_more : (n m : ℕ) → min (min n m + 1) m ≡ min (n + 1) m
min_more n m = omega arith

counted_more : (n : ℕ) (why : Reason) → min (with_starved (min n (2 ^ 64 - 1)) why) (2 ^ 64 - 1) ≡ min (with_starved n why) (2 ^ 64 - 1)
counted_more n reason.Starved = min_more n (2 ^ 64 - 1)
counted_more n reason.Ended = min_twice n (2 ^ 64 - 1)
counted_more n reason.Lost = min_twice n (2 ^ 64 - 1)
counted_more n reason.Cut = min_twice n (2 ^ 64 - 1)
counted_more n reason.Full = min_twice n (2 ^ 64 - 1)
counted_more n reason.Unread = min_twice n (2 ^ 64 - 1)
counted_more n reason.SentWhole = min_twice n (2 ^ 64 - 1)
counted_more n reason.SendFailed = min_twice n (2 ^ 64 - 1)
counted_more n reason.NoMemory = min_twice n (2 ^ 64 - 1)

-- what is told, where a connection is closed or not
shut_told : (start told told' : Option PortsTold) (c : ℕ) (g : PortsTold → PortsTold) (u : Bool) → told ≡ option_map g start
    → (u ≡ true → told' ≡ option_map (after_close c) told) → (u ≡ false → told' ≡ told) → told' ≡ option_map (λ t. cond u (after_close c (g t)) (g t)) start
shut_told start told told' c g true h f k = told_more start told told' (after_close c) g h (f refl)
shut_told start told told' c g false h f k = k refl ∙ h

shut_open : (told told' : Option PortsTold) (c d : ℕ) (u : Bool) → (u ≡ true → told' ≡ option_map (after_close c) told) → (u ≡ false → told' ≡ told) → (d ≡ c → ⊥)
    → IsOpen d told → IsOpen d told'
shut_open told told' c d true f k n o = open_by told told' (after_close c) d (f refl) (λ t. ap (λ b. cond b false (t.is_open d)) (other d c n)) o
shut_open told told' c d false f k n o = subst (IsOpen d) (sym (k refl)) o

module _ {A W : Type 0} (R : Rules A W) where
  -- ---- what was said of a round is said of it as it grows

  pub resend : (rs : List (FrontRound A)) (r : FrontRound A) (sends' : List Send) (left' : List Departure) (ss : List Send) → EachSoFar (SendFits R rs r) ss
      → EachSoFar (SendFits R rs (record r { sends = sends'; left = left' })) ss
  resend rs r sends' left' [] h = tt
  resend rs r sends' left' (s ∷ ss) h =
      (record { is_there = h.0.is_there; reason = h.0.reason; once = h.0.once; some = h.0.some; most = h.0.most }, resend rs r sends' left' ss h.1)

  releave : (rs : List (FrontRound A)) (r : FrontRound A) (left' : List Departure) (ds : List Departure) → EachSoFar (LeaveFits R rs r) ds
      → EachSoFar (LeaveFits R rs (record r { left = left' })) ds
  releave rs r left' [] h = tt
  releave rs r left' (d ∷ ds) h = (
    record {
      is_there = h.0.is_there;
      caused = λ n. closes_again R (before rs r d.conn) r d.conn r.acts r.replies r.last left' (made r d.conn) d.why ∙ h.0.caused n;
      starved = λ q. starved_again R (before rs r d.conn) r d.conn r.replies left' refl (h.0.starved q);
      last_try = h.0.last_try;
      asked_all = h.0.asked_all;
    },
    releave rs r left' ds h.1,
  )

  -- ---- why a connection is left

  caused_by : (p : Standing A) (r : FrontRound A) (c : ℕ) (left' : List Departure) (why : Reason) → DispositionFits R p r c (made r c) (Leaves why) → why ≢ reason.Starved
      → closes R p (record r { left = left' }) c (made r c) why ≡ true
  caused_by p r c left' reason.Ended h n = h
  caused_by p r c left' reason.Lost h n = h
  caused_by p r c left' reason.Cut h n = h
  caused_by p r c left' reason.Full h n = h
  caused_by p r c left' reason.Unread h n = h
  caused_by p r c left' reason.SentWhole h n = h
  caused_by p r c left' reason.SendFailed h n = h
  caused_by p r c left' reason.NoMemory h n = h
  caused_by p r c left' reason.Starved h n = absurd (n refl)

  starved_by : (p : Standing A) (r : FrontRound A) (c : ℕ) (left' : List Departure) (why : Reason) → DispositionFits R p r c (made r c) (Leaves why) → why ≡ reason.Starved
      → IsStarved R p (record r { left = left' }) c
  starved_by p r c left' why h e = starved_again R p r c r.replies left' refl (let k = subst (λ x. DispositionFits R p r c (made r c) (Leaves x)) e h in k.starved)

  asks_by : (why : Reason) → why ≢ reason.Full → why ≢ reason.NoMemory → why ≢ reason.Starved → asks_all (Leaves why) ≡ true
  asks_by reason.Full f m s = absurd (f refl)
  asks_by reason.NoMemory f m s = absurd (m refl)
  asks_by reason.Starved f m s = absurd (s refl)
  asks_by reason.Ended f m s = refl
  asks_by reason.Lost f m s = refl
  asks_by reason.Cut f m s = refl
  asks_by reason.Unread f m s = refl
  asks_by reason.SentWhole f m s = refl
  asks_by reason.SendFailed f m s = refl

module _ {A W T : Type 0} (R : Rules A W) (K : List ℕ → List (Move A) → T → Type 0) where
  -- a session that leaves is left as it may be
  leaves_fit : (rs : List (FrontRound A)) (r : FrontRound A) (d : Departure) (s : Session T) (told : Option PortsTold) (box : List (ℕ × List ℕ))
      → Sits R K (before rs r d.conn) r d.conn (made r d.conn) s told box → s.disposition ≡ Leaves d.why → OwesNone s → has (there (r ∷ rs)) d.conn ≡ true
      → LeaveFits R rs (record r { left = d ∷ r.left }) r.left d
  leaves_fit rs r d s told box h f n t =
      let fits : DispositionFits R (before rs r d.conn) r d.conn (made r d.conn) (Leaves d.why) = subst (DispositionFits R (before rs r d.conn) r d.conn (made r d.conn)) f h.disposition_fits in
      record {
        is_there = t;
        caused = caused_by R (before rs r d.conn) r d.conn (d ∷ r.left) d.why fits;
        starved = starved_by R (before rs r d.conn) r d.conn (d ∷ r.left) d.why fits;
        last_try = λ u. let k = ap keeps (f ∙ ap Leaves u) in (h.keeping k).nothing_due (n k);
        asked_all = λ a b c. h.asked_all (ap asks_all f ∙ asks_by R d.why a b c);
      }

  -- the connection of the session at this place is left
  left_one : (e : PortEvent) (stopped : Bool) (start told' : Option PortsTold) (w : World T) (i : ℕ) (s : Session T) (asks : ℕ) (why : Reason) (mine' : List Entry) (starved' : ℕ)
      → CanLeave R K e stopped start w → StandsAt w.sessions i s → s.disposition ≡ Leaves why → mine' ≡ w.mine ++ Leave (record { front = R.number; number = s.conn }) asks ∷ []
      → Shuts s.conn why w.told told' → starved' ≡ min (with_starved w.starved why) (2 ^ 64 - 1)
      → CanLeave R K e stopped start (record { told = told'; mine = mine'; sessions = take i w.sessions ++ drop (suc i) w.sessions; box = without w.box s.conn; starved = starved' })
  left_one e stopped start told' w i s asks why mine' starved' h at f m sh n =
      let rs = h.rounds in
      let r = h.round in
      let st = h.makes.stands in
      let ar = st.are_told in
      let d : Departure = record { conn = s.conn; asks = asks; why = why } in
      let r' : FrontRound A = record r { left = d ∷ r.left } in
      let sits = each_at (λ (x : Session T). Sits R K (before rs r x.conn) r x.conn (made r x.conn) x w.told w.box) w.sessions i s at h.makes.each in
      let up : is_open r s.conn ≡ is_up (Leaves why) = sits.up ∙ ap is_up f in
      let is_there : has (there (r ∷ rs)) s.conn ≡ true = ap (λ cs. has cs s.conn) (sym st.conns_are) ∙ has_at w.sessions i s at in
      let fewer : remove (there (r ∷ rs)) s.conn ≡ there (r' ∷ rs) = remove_is (there (r ∷ rs)) s.conn in
      let fit = ar.sound.0 in
      record {
        rounds = rs;
        round = r';
        event_is = h.event_is;
        last_is = h.last_is;
        makes = record {
          stands = record {
            are_told = record {
              entries = m ∙ ap (λ es. es ++ Leave (record { front = R.number; number = s.conn }) asks ∷ []) ar.entries;
              telling = shut_told start w.told told' s.conn (told_after R (r ∷ rs)) (is_open r s.conn) ar.telling (λ u. sh.0 (sym up ∙ u)) (λ u. sh.1 (sym up ∙ u));
              coming = ar.coming;
              sound = (
                record {
                  follows = fit.follows;
                  begins = fit.begins;
                  room = fit.room;
                  asks = fit.asks;
                  fits = fit.fits;
                  order = λ q. let x = sym h.last_is ∙ q in cc;
                  sends = resend R rs r r.sends (d ∷ r.left) r.sends fit.sends;
                  left = (leaves_fit rs r d s w.told w.box sits f (each_at OwesNone w.sessions i s at h.offered) is_there, releave R rs r (d ∷ r.left) r.left fit.left);
                },
                ar.sound.1,
              );
              counted = n ∙ ap (λ k. min (with_starved k why) (2 ^ 64 - 1)) ar.counted ∙ counted_more (starved_in (r ∷ rs)) why;
            };
            conns_are = conns_less w.sessions i s at st.apart ∙ ap (λ cs. remove cs s.conn) st.conns_are ∙ fewer;
            keys_are = keys_without w.box s.conn ∙ ap (λ cs. remove cs s.conn) st.keys_are ∙ fewer;
            apart = subst Apart (sym (conns_less w.sessions i s at st.apart)) (apart_remove (conns w.sessions) s.conn st.apart);
          };
          each = each_less (λ (x : Session T). Sits R K (before rs r x.conn) r x.conn (made r x.conn) x w.told w.box)
              (λ (x : Session T). Sits R K (before rs r x.conn) r' x.conn (made r x.conn) x told' (without w.box s.conn)) w.sessions i s at st.apart
              h.makes.each (λ x ne q. others R K (before rs r x.conn) r' x.conn (made r x.conn) x w.told told' w.box (without w.box s.conn)
              (sits_again R K (before rs r x.conn) r x.conn r.replies (d ∷ r.left) refl (made r x.conn) x w.told w.box q) (other_without w.box s.conn x.conn (λ e. ne (sym e)))
              (shut_open w.told told' s.conn x.conn (is_up (Leaves why)) sh.0 sh.1 ne));
        };
        offered = each_less OwesNone OwesNone w.sessions i s at st.apart h.offered (λ x ne q. q);
      }

  -- none leaves any more
  pub over : (e : PortEvent) (stopped : Bool) (start : Option PortsTold) (w : World T) → CanLeave R K e stopped start w → Each (λ (s : Session T). s.disposition ≡ Stays) w.sessions → IsOver R K e stopped start w
  over e stopped start w h n = record {
    rounds = h.rounds;
    round = h.round;
    event_is = h.event_is;
    last_is = h.last_is;
    makes = h.makes;
    rested = each_weaker (λ (s : Session T). OwesNone s × (s.disposition ≡ Stays)) IsAtRest w.sessions (λ s b. (b.1, b.0 (ap keeps b.1)))
        (each_both OwesNone (λ (s : Session T). s.disposition ≡ Stays) w.sessions h.offered n);
  }

  -- in terms of what is left of the table
  pub left_table : (e : PortEvent) (stopped : Bool) (start told' : Option PortsTold) (w : World T) (i c asks : ℕ) (why : Reason) (mine' : List Entry) (sessions : List (Session T))
      (box' : List (ℕ × List ℕ)) (starved' : ℕ) → CanLeave R K e stopped start w → IsLeaving w.sessions i c why
      → mine' ≡ w.mine ++ Leave (record { front = R.number; number = c }) asks ∷ [] → Shuts c why w.told told' → starved' ≡ min (with_starved w.starved why) (2 ^ 64 - 1)
      → box' ≡ without w.box c → sessions ≡ take i w.sessions ++ drop (i + 1) w.sessions
      → CanLeave R K e stopped start (record { told = told'; mine = mine'; sessions = sessions; box = box'; starved = starved' })
  left_table e stopped start told' w i c asks why mine' sessions box' starved' h (s, at, sc, f) m sh n b k =
      subst (λ (v : List (Session T)). CanLeave R K e stopped start (record { told = told'; mine = mine'; sessions = v; box = box'; starved = starved' })) (sym (k ∙ ap (λ j. take i w.sessions ++ drop j w.sessions) (one_less i)))
      (subst (λ (v : List (ℕ × List ℕ)). CanLeave R K e stopped start (record { told = told'; mine = mine'; sessions = take i w.sessions ++ drop (suc i) w.sessions; box = v; starved = starved' }))
      (ap (without w.box) sc ∙ sym b)
      (left_one e stopped start told' w i s asks why mine' starved' h at f
      (m ∙ ap (λ d. w.mine ++ Leave (record { front = R.number; number = d }) asks ∷ []) (sym sc)) (subst (λ d. Shuts d why w.told told') (sym sc) sh) n))
