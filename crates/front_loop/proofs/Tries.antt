-- Offers: one session as its bytes are offered, and all else.
use Rattle.std.proofs.Common.{◌≡◌, ◌==◌, ◌<◌, ◌≤◌, ◌+◌, ℕ, zero, suc, Bool, true, false, not, ◌&&◌, ◌||◌, cond, List, [], ◌∷◌, ◌++◌, length, set, take, drop, Option, Some, None, option_map, IfSome, Ok, Err, refl, sym, ap, subst, ◌∙◌, arith}
use Rattle.std.proofs.lemmas.Bool.Decides.{nat_tests}
use Rattle.std.specs.Prelude.{nat_le, ok_or, unwrap_or}
use Rattle.std.specs.Option.{is_none}
use Rattle.std.proofs.lemmas.Bool.{le-leb, lt-leb, and_from}
use Rattle.std.proofs.lemmas.List.{drop-drop, length-drop, take_more_set, nil_from_length}
use Rattle.std.proofs.Math.Bool.{or-false}
use Rattle.farm_history.specs.Lists.{Each}
use Rattle.reactor_ports.specs.declared.events.PortEvent.{PortEvent}
use Rattle.reactor_ports.specs.declared.events.SendFault.TheVariants as send_fault
use Rattle.reactor_ports.specs.Told.{PortsTold, IsOpen, after_send}
use Rattle.reactor_ports.specs.Boxes.{rest_at, rest_of, put_rest, HasRest, rest_in, Offered}
use Rattle.front_loop.specs.declared.dispositions.Disposition.{Disposition}
use Rattle.front_loop.specs.declared.dispositions.Disposition.TheVariants.{Stays, Leaves}
use Rattle.front_loop.specs.declared.dispositions.Reason.{Reason}
use Rattle.front_loop.specs.declared.dispositions.Reason.TheVariants as reason
use Rattle.front_loop.specs.declared.sessions.Session.{Session}
use Rattle.front_loop.specs.declared.offering.Gave.{Gave}
use Rattle.front_loop.specs.declared.offering.Gave.TheVariants as gave
use Rattle.front_loop.specs.Rules.{Rules, Move, answer_bytes}
use Rattle.front_loop.specs.Rounds.{Send, FrontRound, has}
use Rattle.front_loop.specs.Conns.{Standing, loses, is_tried, send_fails, made, after, before, is_open, due, closes, Unclosed, MayLack, InHearing, AtReply, AtOffer, told_after}
use Rattle.front_loop.specs.RoundRules.{SendFits}
use Rattle.front_loop.specs.Front.{keeps}
use Rattle.front_loop.specs.inner.Sessions.{keys, Apart, StandsAt, is_up}
use Rattle.front_loop.specs.inner.Stands.{World, DispositionFits, Keeping, Sits}
use Rattle.front_loop.specs.inner.Stages.{offering, OwesNone, OffersOne, Idle, Gives_it, Gives, disposition_after, part_or_all, CanOffer, CanLeave}
use Rattle.front_loop.proofs.Tables.{other, same, has_at, conns_set, each_set, each_at, each_snoc}
use Rattle.front_loop.proofs.Rests.{at_put, other_put, keys_put}
use Rattle.front_loop.proofs.Sitting.{clash, untried_took, untried_failed, unclosed_is, unclosed_calm, starves_now, sits_as, others}
use Rattle.front_loop.proofs.Heards.{holds_rest}
use Rattle.front_loop.proofs.Worlds.{told_more, open_by}
use Rattle.front_loop.proofs.Gots.{keeps_up, keeps_asks}
use Rattle.front_loop.proofs.Lefts.{resend}

and_false : (a b : Bool) → b ≡ false → (a && b) ≡ false
and_false true b h = h
and_false false b h = refl

lost_up : (b : Bool) → not (b || true) ≡ false
lost_up true = refl
lost_up false = refl

unlost : (a b : Bool) → not (a || b) ≡ true → not (a || false) ≡ true
unlost true b h = h
unlost false b h = refl

starved_told : (o : Option PortsTold) (c : ℕ) (rest : List ℕ) → option_map (after_send c rest (Err send_fault.NoMemory)) o ≡ o
starved_told None c rest = refl
starved_told (Some t) c rest = refl

module _ {A W T : Type 0} (R : Rules A W) (K : List ℕ → List (Move A) → T → Type 0) where
  -- the session after its offer
  abbrev given : Session T → Disposition → Session T
  given s f = record s { owes = false; disposition = f }

  module _ (p : Standing A) (r0 : FrontRound A) (stopped : Bool) (sends : List Send) (c : ℕ) where
    -- the round before a send
    abbrev r : FrontRound A
    r = offering stopped sends r0

    abbrev ms : List (Move A)
    ms = made r c

    abbrev answers : List ℕ
    answers = answer_bytes R (ms ++ p.moves)

    -- nothing was due
    nothing_sits : (s : Session T) (told : Option PortsTold) (box : List (ℕ × List ℕ)) → Sits R K p r c ms s told box → keeps s.disposition ≡ true
        → length (rest_in box c) ≡ 0 → Sits R K p r c ms (given s s.disposition) told box
    nothing_sits s told box h k z =
        let kept = h.keeping k in
        sits_as R K p r c ms (given s s.disposition) told box s.disposition refl h.rest_there h.opening h.up h.low
        (λ _. record {
          rest_is = kept.rest_is;
          asked_all = kept.asked_all;
          whole = kept.whole;
          knows = kept.knows;
          unclosed = kept.unclosed;
          owed = λ e. clash (sym e);
          nothing_due = λ _ m t. sym (ap (λ n. drop n answers) (untried_took sends c p.took t)) ∙ sym kept.rest_is ∙ nil_from_length (rest_in box c) z;
        })
        h.disposition_fits h.asked_all

    -- memory was wanting
    lacked_sits : (s : Session T) (told : Option PortsTold) (box : List (ℕ × List ℕ)) → Sits R K p r c ms s told box → keeps s.disposition ≡ true → s.owes ≡ true
        → 0 < length (rest_in box c) → Sits R K p r c ms (given s (Leaves reason.Starved)) told box
    lacked_sits s told box h k o z =
        let kept = h.keeping k in
        let owed = kept.owed o in
        let is : rest_in box c ≡ drop p.took answers = kept.rest_is ∙ ap (λ n. drop n answers) (untried_took sends c p.took owed.0) in
        sits_as R K p r c ms (given s (Leaves reason.Starved)) told box (Leaves reason.Starved) refl h.rest_there
        (λ _. h.opening (keeps_up s.disposition k)) (h.up ∙ keeps_up s.disposition k) h.low (λ q. clash (sym q))
        (starves_now R p r c (AtOffer owed.1 (subst (λ (xs : List ℕ). 0 < length xs) is z) kept.unclosed) (λ n. cc) owed.0
        (unclosed_is R p r c ms reason.Ended kept.unclosed (λ q. cc)) (unclosed_is R p r c ms reason.Lost kept.unclosed (λ q. cc))
        (unclosed_is R p r c ms reason.NoMemory kept.unclosed (λ q. cc)))
        (λ q. clash (sym q))

    -- ---- a send on it

    module _ (taken : Option ℕ) where
      abbrev r' : FrontRound A
      r' = offering stopped (record { conn = c; taken = taken } ∷ sends) r0

      tried_then : is_tried r'.sends c ≡ true
      tried_then = ap (λ b. b || is_tried sends c) (same c)

      took_then : (after r' c p).took ≡ (after r c p).took + unwrap_or taken 0
      took_then = ap (λ b. cond b ((after r c p).took + unwrap_or taken 0) (after r c p).took) (same c)

      fails_then : is_tried sends c ≡ false → send_fails r'.sends c ≡ is_none taken
      fails_then u =
          ap (λ b. (b && is_none taken) || send_fails sends c) (same c) ∙ ap (λ b. is_none taken || b) (untried_failed sends c u) ∙ or-false (is_none taken)

    module _ (n : ℕ) (u : is_tried sends c ≡ false) where
      abbrev rn : FrontRound A
      rn = r' (Some n)

      sent_is : closes R p rn c ms reason.SentWhole ≡ (R.ends (ms ++ p.moves) && nat_le (length answers) (p.took + n))
      sent_is =
          ap (λ b. b && (R.ends (ms ++ p.moves) && nat_le (length answers) (after rn c p).took)) (tried_then (Some n))
          ∙ ap (λ k. R.ends (ms ++ p.moves) && nat_le (length answers) k) (took_then (Some n) ∙ ap (λ k. k + n) (untried_took sends c p.took u))

      module _ (s : Session T) (told told' : Option PortsTold) (box : List (ℕ × List ℕ)) (h : Sits R K p r c ms s told box) (k : keeps s.disposition ≡ true)
          (l : n ≤ length (rest_in box c)) (o : IsOpen c told → IsOpen c told') where
        kept : Keeping R K p r c ms s (rest_in box c)
        kept = h.keeping k

        abbrev box_then : List (ℕ × List ℕ)
        box_then = put_rest box c (drop n (rest_in box c))

        has_then : HasRest box_then c
        has_then = (drop n (rest_in box c), at_put box c (drop n (rest_in box c)) h.rest_there)

        up_then : is_open rn c ≡ true
        up_then = ap (λ b. not (loses r0.event c || b)) (fails_then (Some n) u) ∙ unlost (loses r0.event c) (send_fails sends c) (h.up ∙ keeps_up s.disposition k)

        low_then : (after rn c p).took ≤ length answers
        low_then =
            let a = ap length kept.rest_is ∙ length-drop (after r c p).took answers in
            let b = h.low in
            let d = took_then (Some n) in
            omega (arith, l, a, b, d)

        unclosed_then : closes R p rn c ms reason.SentWhole ≡ false → Unclosed R p rn c ms
        unclosed_then e reason.Unread x = refl
        unclosed_then e reason.Ended x = kept.unclosed reason.Ended x
        unclosed_then e reason.Lost x = kept.unclosed reason.Lost x
        unclosed_then e reason.Cut x = kept.unclosed reason.Cut x
        unclosed_then e reason.Full x = kept.unclosed reason.Full x
        unclosed_then e reason.SentWhole x = clash (sym x ∙ e)
        unclosed_then e reason.SendFailed x = clash (sym x ∙ fails_then (Some n) u)
        unclosed_then e reason.NoMemory x = kept.unclosed reason.NoMemory x
        unclosed_then e reason.Starved x = clash (sym x)

        -- what fits a disposition goes on to fit it, where not all was taken or not all is answered
        fits_then : (f : Disposition) → keeps f ≡ true → DispositionFits R p r c ms f → closes R p rn c ms reason.SentWhole ≡ false → DispositionFits R p rn c ms f
        fits_then Stays q fits e = unclosed_calm R p rn c ms (unclosed_then e) (fits reason.Unread)
        fits_then (Leaves reason.Unread) q fits e = fits
        fits_then (Leaves reason.NoMemory) q fits e = clash (sym q)
        fits_then (Leaves reason.Starved) q fits e = clash (sym q)
        fits_then (Leaves reason.Ended) q fits e = clash (sym q)
        fits_then (Leaves reason.Lost) q fits e = clash (sym q)
        fits_then (Leaves reason.Cut) q fits e = clash (sym q)
        fits_then (Leaves reason.Full) q fits e = clash (sym q)
        fits_then (Leaves reason.SentWhole) q fits e = clash (sym q)
        fits_then (Leaves reason.SendFailed) q fits e = clash (sym q)

        -- some bytes were taken, and the session goes on as it was
        taken_sits : (R.ends (ms ++ p.moves) && nat_le (length answers) (p.took + n)) ≡ false → Sits R K p rn c ms (given s s.disposition) told' box_then
        taken_sits e =
            sits_as R K p rn c ms (given s s.disposition) told' box_then s.disposition refl has_then (λ x. o (h.opening x)) (up_then ∙ sym (keeps_up s.disposition k)) low_then
            (λ _. record {
              rest_is = holds_rest box c (drop n (rest_in box c)) h.rest_there ∙ ap (drop n) kept.rest_is ∙ drop-drop n (after r c p).took answers ∙ sym (ap (λ k. drop k answers) (took_then (Some n)));
              asked_all = kept.asked_all;
              whole = kept.whole;
              knows = kept.knows;
              unclosed = unclosed_then (sent_is ∙ e);
              owed = λ q. clash (sym q);
              nothing_due = λ _ m t. clash (sym (tried_then (Some n)) ∙ t);
            })
            (fits_then s.disposition k h.disposition_fits (sent_is ∙ e)) h.asked_all

        -- all was taken, and all is answered
        whole_sits : (R.ends (ms ++ p.moves) && nat_le (length answers) (p.took + n)) ≡ true → Sits R K p rn c ms (given s (Leaves reason.SentWhole)) told' box_then
        whole_sits e =
            sits_as R K p rn c ms (given s (Leaves reason.SentWhole)) told' box_then (Leaves reason.SentWhole) refl has_then
            (λ _. o (h.opening (keeps_up s.disposition k))) up_then low_then (λ q. clash (sym q)) (sent_is ∙ e) (λ _. h.asked_all (keeps_asks s.disposition k))

        all_by : (done : Bool) → (R.ends (ms ++ p.moves) && nat_le (length answers) (p.took + n)) ≡ done
            → Sits R K p rn c ms (given s (disposition_after gave.All done s.disposition)) told' box_then
        all_by true e = whole_sits e
        all_by false e = taken_sits e

        rest_due : rest_in box c ≡ drop p.took answers
        rest_due = kept.rest_is ∙ ap (λ n. drop n answers) (untried_took sends c p.took u)

        end_done : (done : Bool) → length (drop n (rest_in box c)) ≡ 0 → done ≡ R.ends (ms ++ p.moves) → (R.ends (ms ++ p.moves) && nat_le (length answers) (p.took + n)) ≡ done
        end_done true z d =
            let a = length-drop n (rest_in box c) in
            let b = ap length rest_due ∙ length-drop p.took answers in
            let m = h.low in
            let x = untried_took sends c p.took u in
            and_from (R.ends (ms ++ p.moves)) (nat_le (length answers) (p.took + n)) (sym d) (le-leb (length answers) (p.took + n) (omega (arith, a, b, z, m, x)))
        end_done false z d = ap (λ x. x && nat_le (length answers) (p.took + n)) (sym d)

        part_left : 0 < length (drop n (rest_in box c)) → (R.ends (ms ++ p.moves) && nat_le (length answers) (p.took + n)) ≡ false
        part_left z =
            let a = length-drop n (rest_in box c) in
            let b = ap length rest_due ∙ length-drop p.took answers in
            let m = h.low in
            let x = untried_took sends c p.took u in
            and_false (R.ends (ms ++ p.moves)) (nat_le (length answers) (p.took + n)) (lt-leb (length answers) (p.took + n) (omega (arith, a, b, z, m, x)))

    -- the send failed
    failed_sits : (s : Session T) (told told' : Option PortsTold) (box : List (ℕ × List ℕ)) → Sits R K p r c ms s told box → keeps s.disposition ≡ true → is_tried sends c ≡ false
        → Sits R K p (r' None) c ms (given s (Leaves reason.SendFailed)) told' box
    failed_sits s told told' box h k u =
        let low = h.low in
        let t = took_then None in
        sits_as R K p (r' None) c ms (given s (Leaves reason.SendFailed)) told' box (Leaves reason.SendFailed) refl h.rest_there (λ q. clash (sym q))
        (ap (λ b. not (loses r0.event c || b)) (fails_then None u) ∙ lost_up (loses r0.event c)) (omega (arith, low, t)) (λ q. clash (sym q)) (fails_then None u)
        (λ _. h.asked_all (keeps_asks s.disposition k))

    -- ---- a send on another

    module _ (d : ℕ) (taken : Option ℕ) (n : (d == c) ≡ false) where
      abbrev rd : FrontRound A
      rd = offering stopped (record { conn = d; taken = taken } ∷ sends) r0

      tried_is : is_tried rd.sends c ≡ is_tried sends c
      tried_is = ap (λ b. b || is_tried sends c) n

      fails_is : send_fails rd.sends c ≡ send_fails sends c
      fails_is = ap (λ b. (b && is_none taken) || send_fails sends c) n

      took_is : (after rd c p).took ≡ (after r c p).took
      took_is = ap (λ b. cond b ((after r c p).took + unwrap_or taken 0) (after r c p).took) n

      closes_is : (l : List (Move A)) (why : Reason) → closes R p rd c l why ≡ closes R p r c l why
      closes_is l reason.Ended = refl
      closes_is l reason.Lost = refl
      closes_is l reason.Cut = refl
      closes_is l reason.Full = refl
      closes_is l reason.Unread = refl
      closes_is l reason.SentWhole =
          ap (λ b. b && (R.ends (l ++ p.moves) && nat_le (length (answer_bytes R (l ++ p.moves))) (after rd c p).took)) tried_is
          ∙ ap (λ k. is_tried sends c && (R.ends (l ++ p.moves) && nat_le (length (answer_bytes R (l ++ p.moves))) k)) took_is
      closes_is l reason.SendFailed = fails_is
      closes_is l reason.NoMemory = refl
      closes_is l reason.Starved = refl

      lacks_is : MayLack R p r c → MayLack R p rd c
      lacks_is (InHearing x) = InHearing x
      lacks_is (AtReply later earlier reply behind m u k) = AtReply later earlier reply behind m u (λ why x. k why (sym (closes_is earlier why) ∙ x))
      lacks_is (AtOffer m b k) = AtOffer m b (λ why x. k why (sym (closes_is ms why) ∙ x))

      fits_is : (f : Disposition) → DispositionFits R p r c ms f → DispositionFits R p rd c ms f
      fits_is Stays k = λ why. closes_is ms why ∙ k why
      fits_is (Leaves reason.Ended) k = k
      fits_is (Leaves reason.Lost) k = k
      fits_is (Leaves reason.Cut) k = k
      fits_is (Leaves reason.Full) k = k
      fits_is (Leaves reason.Unread) k = k
      fits_is (Leaves reason.SentWhole) k = closes_is ms reason.SentWhole ∙ k
      fits_is (Leaves reason.SendFailed) k = closes_is ms reason.SendFailed ∙ k
      fits_is (Leaves reason.NoMemory) k = k
      fits_is (Leaves reason.Starved) k = record {
        starved = record {
          lacks = lacks_is k.starved.lacks;
          untried = tried_is ∙ k.starved.untried;
          alone = λ why x. k.starved.alone why (sym (closes_is ms why) ∙ x);
        };
        early = λ z. cc;
      }

      sits_is : (s : Session T) (told : Option PortsTold) (box : List (ℕ × List ℕ)) → Sits R K p r c ms s told box → Sits R K p rd c ms s told box
      sits_is s told box h = record {
        rest_there = h.rest_there;
        opening = h.opening;
        up = ap (λ b. not (loses r0.event c || b)) fails_is ∙ h.up;
        low = subst (λ k. k ≤ length answers) (sym took_is) h.low;
        keeping = λ q. let k = h.keeping q in record {
          rest_is = k.rest_is ∙ ap (λ x. drop x answers) (sym took_is);
          asked_all = k.asked_all;
          whole = k.whole;
          knows = k.knows;
          unclosed = λ why x. k.unclosed why (sym (closes_is ms why) ∙ x);
          owed = λ o. let w = k.owed o in (tried_is ∙ w.0, w.1);
          nothing_due = λ o m t. k.nothing_due o m (sym tried_is ∙ t);
        };
        disposition_fits = fits_is s.disposition h.disposition_fits;
        asked_all = h.asked_all;
      }

  -- ---- all else

  -- one session changed, and no send was made
  unsent : (e : PortEvent) (stopped : Bool) (start : Option PortsTold) (w : World T) (i : ℕ) (s s' : Session T) → (h : CanOffer R K e stopped start w) → StandsAt w.sessions i s
      → s'.conn ≡ s.conn → Sits R K (before h.rounds h.round s.conn) (offering stopped h.sends h.round) s.conn (made h.round s.conn) s' w.told w.box
      → CanOffer R K e stopped start (record w { sessions = set w.sessions i s' })
  unsent e stopped start w i s s' h at sc sits =
      let st = h.makes.stands in
      record {
        rounds = h.rounds;
        round = h.round;
        sends = h.sends;
        event_is = h.event_is;
        makes = record {
          stands = record {
            are_told = st.are_told;
            conns_are = conns_set w.sessions i s s' at sc ∙ st.conns_are;
            keys_are = st.keys_are;
            apart = subst Apart (sym (conns_set w.sessions i s s' at sc)) st.apart;
          };
          each = each_set (λ (x : Session T). Sits R K (before h.rounds h.round x.conn) (offering stopped h.sends h.round) x.conn (made h.round x.conn) x w.told w.box)
              (λ (x : Session T). Sits R K (before h.rounds h.round x.conn) (offering stopped h.sends h.round) x.conn (made h.round x.conn) x w.told w.box) w.sessions i s s' at st.apart
              h.makes.each (λ x ne q. q) (subst (λ d. Sits R K (before h.rounds h.round d) (offering stopped h.sends h.round) d (made h.round d) s' w.told w.box) (sym sc) sits);
        };
      }

  -- a send was made on one session
  sent : (e : PortEvent) (stopped : Bool) (start told' : Option PortsTold) (w : World T) (i : ℕ) (s s' : Session T) (taken : Option ℕ) (box' : List (ℕ × List ℕ))
      → (h : CanOffer R K e stopped start w) → StandsAt w.sessions i s → s'.conn ≡ s.conn
      → SendFits R h.rounds (offering stopped (record { conn = s.conn; taken = taken } ∷ h.sends) h.round) h.sends (record { conn = s.conn; taken = taken })
      → told' ≡ option_map (after_send s.conn (due R (before h.rounds h.round s.conn) h.round s.conn) (ok_or taken send_fault.Failed)) w.told
      → keys box' ≡ keys w.box → ((d : ℕ) → (s.conn ≡ d → ⊥) → rest_at box' d ≡ rest_at w.box d)
      → ((d : ℕ) → (s.conn ≡ d → ⊥) → IsOpen d w.told → IsOpen d told')
      → Sits R K (before h.rounds h.round s.conn) (offering stopped (record { conn = s.conn; taken = taken } ∷ h.sends) h.round) s.conn (made h.round s.conn) s' told' box'
      → CanOffer R K e stopped start (record { told = told'; mine = w.mine; sessions = set w.sessions i s'; box = box'; starved = w.starved })
  sent e stopped start told' w i s s' taken box' h at sc fit t k rests opens sits =
      let st = h.makes.stands in
      let ar = st.are_told in
      let f = ar.sound.0 in
      let sends' : List Send = record { conn = s.conn; taken = taken } ∷ h.sends in
      let cs = conns_set w.sessions i s s' at sc in
      record {
        rounds = h.rounds;
        round = h.round;
        sends = sends';
        event_is = h.event_is;
        makes = record {
          stands = record {
            are_told = record {
              entries = ar.entries;
              telling = told_more start w.told told' (after_send s.conn (due R (before h.rounds h.round s.conn) h.round s.conn) (ok_or taken send_fault.Failed))
                  (told_after R (offering stopped h.sends h.round ∷ h.rounds)) ar.telling t;
              coming = ar.coming;
              sound = (
                record {
                  follows = f.follows;
                  begins = f.begins;
                  room = f.room;
                  asks = f.asks;
                  fits = f.fits;
                  order = λ n. cc;
                  sends = (fit, resend R h.rounds (offering stopped h.sends h.round) sends' [] h.sends f.sends);
                  left = tt;
                },
                ar.sound.1,
              );
              counted = ar.counted;
            };
            conns_are = cs ∙ st.conns_are;
            keys_are = k ∙ st.keys_are;
            apart = subst Apart (sym cs) st.apart;
          };
          each = each_set (λ (x : Session T). Sits R K (before h.rounds h.round x.conn) (offering stopped h.sends h.round) x.conn (made h.round x.conn) x w.told w.box)
              (λ (x : Session T). Sits R K (before h.rounds h.round x.conn) (offering stopped sends' h.round) x.conn (made h.round x.conn) x told' box') w.sessions i s s' at st.apart h.makes.each
              (λ x ne q. others R K (before h.rounds h.round x.conn) (offering stopped sends' h.round) x.conn (made h.round x.conn) x w.told told' w.box box'
              (sits_is (before h.rounds h.round x.conn) h.round stopped h.sends x.conn s.conn taken (other s.conn x.conn (λ z. ne (sym z))) x w.told w.box q)
              (rests x.conn (λ z. ne (sym z))) (opens x.conn (λ z. ne (sym z))))
              (subst (λ d. Sits R K (before h.rounds h.round d) (offering stopped sends' h.round) d (made h.round d) s' told' box') (sym sc) sits);
        };
      }

  -- the session at a place, as it sits
  sat : (e : PortEvent) (stopped : Bool) (start : Option PortsTold) (w : World T) (i : ℕ) (s : Session T) → (h : CanOffer R K e stopped start w) → StandsAt w.sessions i s
      → Sits R K (before h.rounds h.round s.conn) (offering stopped h.sends h.round) s.conn (made h.round s.conn) s w.told w.box
  sat e stopped start w i s h at =
      each_at (λ (x : Session T). Sits R K (before h.rounds h.round x.conn) (offering stopped h.sends h.round) x.conn (made h.round x.conn) x w.told w.box) w.sessions i s at h.makes.each

  -- the send fits
  send_fits : (e : PortEvent) (stopped : Bool) (start : Option PortsTold) (w : World T) (i : ℕ) (s : Session T) (taken : Option ℕ) → (h : CanOffer R K e stopped start w) → StandsAt w.sessions i s
      → (k : keeps s.disposition ≡ true) → s.owes ≡ true → 0 < length (rest_in w.box s.conn) → IfSome taken (λ n. n ≤ length (rest_in w.box s.conn))
      → (rest_in w.box s.conn ≡ due R (before h.rounds h.round s.conn) h.round s.conn)
      × SendFits R h.rounds (offering stopped (record { conn = s.conn; taken = taken } ∷ h.sends) h.round) h.sends (record { conn = s.conn; taken = taken })
  send_fits e stopped start w i s taken h at k o z l =
      let c = s.conn in
      let p = before h.rounds h.round c in
      let kept = (sat e stopped start w i s h at).keeping k in
      let owed = kept.owed o in
      let is : rest_in w.box c ≡ due R p h.round c = kept.rest_is ∙ ap (λ n. drop n (answer_bytes R (made h.round c ++ p.moves))) (untried_took h.sends c p.took owed.0) in (
        is,
        record {
          is_there = ap (λ cs. has cs c) (sym h.makes.stands.conns_are) ∙ has_at w.sessions i s at;
          reason = owed.1;
          once = owed.0;
          some = subst (λ (xs : List ℕ). 0 < length xs) is z;
          most = subst (λ (xs : List ℕ). IfSome taken (λ n. n ≤ length xs)) is l;
        },
      )

  -- what an offer makes of a world
  abbrev after_offer : World T → ℕ → Option PortsTold → List (ℕ × List ℕ) → Session T → World T
  after_offer w i told' box' s' = record { told = told'; mine = w.mine; sessions = set w.sessions i s'; box = box'; starved = w.starved }

  same_offer : (w : World T) (i : ℕ) (told' : Option PortsTold) (box' : List (ℕ × List ℕ)) (s s' : Session T) → told' ≡ w.told → box' ≡ w.box → s' ≡ s
      → after_offer w i w.told w.box s ≡ after_offer w i told' box' s'
  same_offer w i told' box' s s' t b is =
      ap (λ (v : Option PortsTold). after_offer w i v w.box s) (sym t) ∙ ap (λ (v : List (ℕ × List ℕ)). after_offer w i told' v s) (sym b) ∙ ap (λ (v : Session T). after_offer w i told' box' v) (sym is)

  -- an offer to one session
  gave_by : (e : PortEvent) (stopped : Bool) (start told' : Option PortsTold) (w : World T) (i : ℕ) (s s' : Session T) (box' : List (ℕ × List ℕ)) (g : Gave) (done : Bool)
      → CanOffer R K e stopped start w → StandsAt w.sessions i s → s.owes ≡ true → keeps s.disposition ≡ true → Gives s.conn (rest_in w.box s.conn) w.box box' w.told told' g
      → ((given : List ℕ) (ms : List (Move A)) → K given ms s.conn_state → done ≡ R.ends ms) → s' ≡ record s { owes = false; disposition = disposition_after g done s.disposition }
      → CanOffer R K e stopped start (after_offer w i told' box' s')
  gave_by e stopped start told' w i s s' box' gave.Nothing done h at o k (z, b, t) d is =
      subst (λ (v : World T). CanOffer R K e stopped start v) (same_offer w i told' box' (given s s.disposition) s' t b is)
      (unsent e stopped start w i s (given s s.disposition) h at refl
      (nothing_sits (before h.rounds h.round s.conn) h.round stopped h.sends s.conn s w.told w.box (sat e stopped start w i s h at) k z))
  gave_by e stopped start told' w i s s' box' gave.NoMemory done h at o k (z, b, t) d is =
      subst (λ (v : World T). CanOffer R K e stopped start v) (same_offer w i told' box' (given s (Leaves reason.Starved)) s' (t ∙ starved_told w.told s.conn (rest_in w.box s.conn)) b is)
      (unsent e stopped start w i s (given s (Leaves reason.Starved)) h at refl
      (lacked_sits (before h.rounds h.round s.conn) h.round stopped h.sends s.conn s w.told w.box (sat e stopped start w i s h at) k o z))
  gave_by e stopped start told' w i s s' box' gave.Failed done h at o k (z, b, t) d is =
      let f = send_fits e stopped start w i s None h at k o z tt in
      sent e stopped start told' w i s s' None box' h at (ap (λ (x : Session T). x.conn) is) f.1
      (t ∙ ap (λ xs. option_map (after_send s.conn xs (Err send_fault.Failed)) w.told) f.0) (ap keys b) (λ d n. ap (λ (x : List (ℕ × List ℕ)). rest_at x d) b)
      (λ d n. open_by w.told told' (after_send s.conn (rest_in w.box s.conn) (Err send_fault.Failed)) d t (λ v. ap (λ x. cond x false (v.is_open d)) (other d s.conn (λ q. n (sym q)))))
      (subst (λ (x : Session T). Sits R K (before h.rounds h.round s.conn) (offering stopped (record { conn = s.conn; taken = None } ∷ h.sends) h.round) s.conn (made h.round s.conn) x told' box') (sym is)
      (subst (Sits R K (before h.rounds h.round s.conn) (offering stopped (record { conn = s.conn; taken = None } ∷ h.sends) h.round) s.conn (made h.round s.conn) (given s (Leaves reason.SendFailed)) told') (sym b)
      (failed_sits (before h.rounds h.round s.conn) h.round stopped h.sends s.conn s w.told told' w.box (sat e stopped start w i s h at) k f.1.once)))
  gave_by e stopped start told' w i s s' box' gave.Part done h at o k (z, (n, l, rem, b, t)) d is =
      let f = send_fits e stopped start w i s (Some n) h at k o z l in
      let p = before h.rounds h.round s.conn in
      let sits = sat e stopped start w i s h at in
      let opens = open_by w.told told' (after_send s.conn (rest_in w.box s.conn) (Ok n)) s.conn t (λ v. refl) in
      sent e stopped start told' w i s s' (Some n) box' h at (ap (λ (x : Session T). x.conn) is) f.1
      (t ∙ ap (λ xs. option_map (after_send s.conn xs (Ok n)) w.told) f.0)
      (ap keys b ∙ keys_put w.box s.conn (drop n (rest_in w.box s.conn))) (λ d ne. ap (λ (x : List (ℕ × List ℕ)). rest_at x d) b ∙ other_put w.box s.conn (drop n (rest_in w.box s.conn)) d ne)
      (λ d ne. open_by w.told told' (after_send s.conn (rest_in w.box s.conn) (Ok n)) d t (λ v. refl))
      (subst (λ (x : Session T). Sits R K p (offering stopped (record { conn = s.conn; taken = Some n } ∷ h.sends) h.round) s.conn (made h.round s.conn) x told' box') (sym is)
      (subst (Sits R K p (offering stopped (record { conn = s.conn; taken = Some n } ∷ h.sends) h.round) s.conn (made h.round s.conn) (given s s.disposition) told') (sym b)
      (taken_sits p h.round stopped h.sends s.conn n f.1.once s w.told told' w.box sits k l opens (part_left p h.round stopped h.sends s.conn n f.1.once s w.told told' w.box sits k l opens rem))))
  gave_by e stopped start told' w i s s' box' gave.All done h at o k (z, (n, l, rem, b, t)) d is =
      let f = send_fits e stopped start w i s (Some n) h at k o z l in
      let p = before h.rounds h.round s.conn in
      let sits = sat e stopped start w i s h at in
      let opens = open_by w.told told' (after_send s.conn (rest_in w.box s.conn) (Ok n)) s.conn t (λ v. refl) in
      sent e stopped start told' w i s s' (Some n) box' h at (ap (λ (x : Session T). x.conn) is) f.1
      (t ∙ ap (λ xs. option_map (after_send s.conn xs (Ok n)) w.told) f.0)
      (ap keys b ∙ keys_put w.box s.conn (drop n (rest_in w.box s.conn))) (λ d ne. ap (λ (x : List (ℕ × List ℕ)). rest_at x d) b ∙ other_put w.box s.conn (drop n (rest_in w.box s.conn)) d ne)
      (λ d ne. open_by w.told told' (after_send s.conn (rest_in w.box s.conn) (Ok n)) d t (λ v. refl))
      (subst (λ (x : Session T). Sits R K p (offering stopped (record { conn = s.conn; taken = Some n } ∷ h.sends) h.round) s.conn (made h.round s.conn) x told' box') (sym is)
      (subst (Sits R K p (offering stopped (record { conn = s.conn; taken = Some n } ∷ h.sends) h.round) s.conn (made h.round s.conn) (given s (disposition_after gave.All done s.disposition)) told') (sym b)
      (all_by p h.round stopped h.sends s.conn n f.1.once s w.told told' w.box sits k l opens done
      (end_done p h.round stopped h.sends s.conn n f.1.once s w.told told' w.box sits k l opens done rem (d _ _ (sits.keeping k).knows)))))

  pub offered_one : (e : PortEvent) (stopped : Bool) (start told' : Option PortsTold) (w : World T) (i : ℕ) (s s' : Session T) (box' : List (ℕ × List ℕ))
      → CanOffer R K e stopped start w → StandsAt w.sessions i s → OffersOne R K s s' w.box box' w.told told'
      → CanOffer R K e stopped start (record { told = told'; mine = w.mine; sessions = set w.sessions i s'; box = box'; starved = w.starved })
  offered_one e stopped start told' w i s s' box' h at (Idle n se be te) =
      subst (λ (v : World T). CanOffer R K e stopped start v) (same_offer w i told' box' s s' te be se) (unsent e stopped start w i s s h at refl (sat e stopped start w i s h at))
  offered_one e stopped start told' w i s s' box' h at (Gives_it o k g done gv d is) = gave_by e stopped start told' w i s s' box' g done h at o k gv d is

  -- a session owes no offer after one
  owes_by : (f : Disposition) (o : Bool) → (o ≡ true → keeps f ≡ true → ⊥) → keeps f ≡ true → o ≡ false
  owes_by f true n k = absurd (n refl k)
  owes_by f false n k = refl

  pub owes_none : (s s' : Session T) (box box' : List (ℕ × List ℕ)) (told told' : Option PortsTold) → OffersOne R K s s' box box' told told' → OwesNone s'
  owes_none s s' box box' told told' (Idle n se be te) = subst (λ (x : Session T). OwesNone x) (sym se) (owes_by s.disposition s.owes n)
  owes_none s s' box box' told told' (Gives_it o k g done gv d is) = λ _. ap (λ (x : Session T). x.owes) is

-- the offer of a rest that is not empty
gives_some : (c n : ℕ) (rest : List ℕ) (box box' : List (ℕ × List ℕ)) (told told' : Option PortsTold) (r : List ℕ) → drop n rest ≡ r → 0 < length rest → n ≤ length rest
    → box' ≡ put_rest box c (drop n rest) → told' ≡ option_map (after_send c rest (Ok n)) told → Gives c rest box box' told told' (part_or_all r)
gives_some c n rest box box' told told' [] e z l b t = (z, (n, l, ap length e, b, t))
gives_some c n rest box box' told told' (x ∷ r) e z l b t = (z, (n, l, subst (λ (ys : List ℕ). 0 < length ys) (sym e) (let q : 0 < length (x ∷ r) = omega arith in q), b, t))

pub offered_rest : (c : ℕ) (box box' : List (ℕ × List ℕ)) (was is : Option PortsTold) → HasRest box c → 0 < length (rest_in box c) → Offered box c (Ok tt) box' was is
    → HasRest box' c × Gives c (rest_in box c) box box' was is (part_or_all (rest_in box' c))
offered_rest c box box' was is h z o =
    let w = o.1 z in
    let at = ap (λ (x : List (ℕ × List ℕ)). rest_at x c) w.2 ∙ at_put box c (drop w.0 (rest_in box c)) h in
    ((drop w.0 (rest_in box c), at), gives_some c w.0 (rest_in box c) box box' was is (rest_in box' c) (sym (ap rest_of at)) z w.1 w.2 w.3)

pub positive : (n : ℕ) → false ≡ (n == 0) → 0 < n
positive zero h = clash (sym h)
positive (suc n) h = omega arith

-- whether bytes are left, by whether there are none
pub all_given : (xs : List ℕ) → true ≡ (length xs == 0) → part_or_all xs ≡ gave.All
all_given [] e = refl
all_given (x ∷ xs) e = let some : (suc (length xs) == 0) ≡ false = grind (arith, nat_tests) in clash (e ∙ some)

pub part_given : (xs : List ℕ) → false ≡ (length xs == 0) → part_or_all xs ≡ gave.Part
part_given [] e = clash (sym e)
part_given (x ∷ xs) e = refl

take_whole : {X : Type 0} → (xs : List X) (n : ℕ) → length xs ≤ n → take n xs ≡ xs
take_whole [] zero h = refl
take_whole [] (suc n) h = refl
take_whole (x ∷ xs) zero h = absurd (omega (arith, h))
take_whole (x ∷ xs) (suc n) h = ap (λ ys. x ∷ ys) (take_whole xs n (omega (arith, h)))

pub owes_more : {T : Type 0} → (ss : List (Session T)) (i : ℕ) (s' : Session T) → i < length ss → OwesNone s' → Each OwesNone (take i ss) → Each OwesNone (take (i + 1) (set ss i s'))
owes_more ss i s' l n e = subst (Each OwesNone) (sym (take_more_set ss i s' l)) (each_snoc OwesNone (take i ss) s' e n)

module _ {A W T : Type 0} (R : Rules A W) (K : List ℕ → List (Move A) → T → Type 0) where
  pub rest_of_offer : (e : PortEvent) (stopped : Bool) (start : Option PortsTold) (w : World T) (i : ℕ) (s : Session T) → CanOffer R K e stopped start w → StandsAt w.sessions i s → HasRest w.box s.conn
  rest_of_offer e stopped start w i s h at = (sat R K e stopped start w i s h at).rest_there

  pub open_of_offer : (e : PortEvent) (stopped : Bool) (start : Option PortsTold) (w : World T) (i : ℕ) (s : Session T) → CanOffer R K e stopped start w → StandsAt w.sessions i s
      → is_up s.disposition ≡ true → IsOpen s.conn w.told
  open_of_offer e stopped start w i s h at u = (sat R K e stopped start w i s h at).opening u

  pub can_leave : (e : PortEvent) (stopped : Bool) (start : Option PortsTold) (w : World T) (n : ℕ) → CanOffer R K e stopped start w → length w.sessions ≤ n → Each OwesNone (take n w.sessions) → CanLeave R K e stopped start w
  can_leave e stopped start w n h l o = record {
    rounds = h.rounds;
    round = offering stopped h.sends h.round;
    event_is = h.event_is;
    last_is = refl;
    makes = h.makes;
    offered = subst (Each OwesNone) (take_whole w.sessions n l) o;
  }
