-- Replies: one session as a reply comes for it, and all else.
use Rattle.std.proofs.Common.{◌≡◌, ◌==◌, ◌<◌, ◌≤◌, ◌+◌, ℕ, Bool, true, false, ◌||◌, cond, List, [], ◌∷◌, ◌++◌, length, map, set, drop, Option, Some, None, refl, sym, ap, subst, ◌∙◌, arith, nat_lt, append_assoc, length-append, inl, inr, ◌⊎◌}
use Rattle.std.specs.List.{list_any}
use Rattle.std.proofs.Math.Bool.{or-false}
use Rattle.std.proofs.lemmas.Bool.{lt-ltb, le-ltb, ltb-true, or_parts, eqb-true, and_from, or_right}
use Rattle.std.proofs.lemmas.List.{append-nil}
use Rattle.farm_base.specs.Limits.{most_rest_bytes}
use Rattle.farm_history.specs.Lists.{Each}
use Rattle.farm_history.specs.Entries.{Entry, Collect}
use Rattle.farm_history.specs.declared.queues.Reply.{Reply}
use Rattle.farm_history.specs.declared.queues.Outcome.{Outcome}
use Rattle.farm_history.specs.declared.queues.Outcome.TheVariants as outcome
use Rattle.farm_history.specs.declared.answers.Collected.TheVariants as collected
use Rattle.reactor_ports.specs.declared.events.PortEvent.{PortEvent}
use Rattle.reactor_ports.specs.Told.{PortsTold}
use Rattle.reactor_ports.specs.Boxes.{rest_at, put_rest, HasRest, rest_in}
use Rattle.front_loop.specs.declared.dispositions.Disposition.{Disposition}
use Rattle.front_loop.specs.declared.dispositions.Disposition.TheVariants.{Stays, Leaves}
use Rattle.front_loop.specs.declared.dispositions.Reason.{Reason}
use Rattle.front_loop.specs.declared.dispositions.Reason.TheVariants as reason
use Rattle.front_loop.specs.declared.sessions.Session.{Session}
use Rattle.front_loop.specs.Rules.{EachSoFar, Rules, Move, Gets, is_cut, wants_of, answer_bytes, each_whole}
use Rattle.front_loop.specs.Rounds.{Gathered, FrontRound, has}
use Rattle.front_loop.specs.Conns.{Standing, ends_at, loses, calls, made, after, before, closes, Unclosed, MayLack, InHearing, AtReply, AtOffer}
use Rattle.front_loop.specs.RoundRules.{RoundFits}
use Rattle.front_loop.specs.Front.{keeps, RepliedWhy, MayStandAlone}
use Rattle.front_loop.specs.inner.Sessions.{conns, keys, Apart, StandsAt, is_up, asks_all, worse, owing, woken}
use Rattle.front_loop.specs.inner.Stands.{World, IsEarly, StarvesNow, has_reason, AllAsked, DispositionFits, Keeping, Sits, AreTold}
use Rattle.front_loop.specs.inner.Stages.{collecting, offering, Settles, Passes, Holds, Overflows, Starves, AnswersOne, AnswersWorn, RepliesOne, Passed, Cuts, Answers, CanCollect, CanOffer, CutShort}
use Rattle.front_loop.proofs.Tables.{other, same, conns_set, conns_woken, each_set, each_none, each_woken, each_weaker, each_at}
use Rattle.front_loop.proofs.Rests.{at_put}
use Rattle.front_loop.proofs.Sitting.{clash, or_none, or_more, or_less, or_left, no_response, within, beyond, due_grows, text_grows, closes_again, unclosed_is, unclosed_calm, starves_now, lacks_again, sits_as, sits_again, others}
use Rattle.front_loop.proofs.Heards.{holds_rest}
use Rattle.front_loop.proofs.Worlds.{settles_keys, settles_other}

-- the second of two, where the first is not
or_second : (a b : Bool) → a ≡ false → (a || b) ≡ true → b ≡ true
or_second true b n h = clash n
or_second false b n h = h

pub keeps_asks : (f : Disposition) → keeps f ≡ true → asks_all f ≡ true
keeps_asks Stays k = refl
keeps_asks (Leaves reason.Unread) k = refl
keeps_asks (Leaves reason.Ended) k = clash (sym k)
keeps_asks (Leaves reason.Lost) k = clash (sym k)
keeps_asks (Leaves reason.Cut) k = clash (sym k)
keeps_asks (Leaves reason.Full) k = clash (sym k)
keeps_asks (Leaves reason.SentWhole) k = clash (sym k)
keeps_asks (Leaves reason.SendFailed) k = clash (sym k)
keeps_asks (Leaves reason.NoMemory) k = clash (sym k)
keeps_asks (Leaves reason.Starved) k = clash (sym k)

pub keeps_up : (f : Disposition) → keeps f ≡ true → is_up f ≡ true
keeps_up Stays k = refl
keeps_up (Leaves reason.Unread) k = refl
keeps_up (Leaves reason.Ended) k = refl
keeps_up (Leaves reason.Lost) k = clash (sym k)
keeps_up (Leaves reason.Cut) k = refl
keeps_up (Leaves reason.Full) k = refl
keeps_up (Leaves reason.SentWhole) k = refl
keeps_up (Leaves reason.SendFailed) k = clash (sym k)
keeps_up (Leaves reason.NoMemory) k = refl
keeps_up (Leaves reason.Starved) k = refl

cut_by : (o : Outcome) → (o ≡ outcome.Cut → ⊥) → (elim o as (λ _. Bool) [ outcome.Cut ↦ true | outcome.Done ↦ false | outcome.NotDone ↦ false ]) ≡ false
cut_by outcome.Cut n = absurd (n refl)
cut_by outcome.Done n = refl
cut_by outcome.NotDone n = refl

module _ {A W T : Type 0} (R : Rules A W) (K : List ℕ → List (Move A) → T → Type 0) where
  -- ---- the session of the connection that a reply is for

  module _ (p : Standing A) (r0 : FrontRound A) (gs : List Gathered) (reply : Reply) (behind : List Entry) where
    abbrev c : ℕ
    c = reply.conn.number

    -- the round before the reply and with it, and the moves of the connection in both
    abbrev r : FrontRound A
    r = collecting gs r0

    abbrev r' : FrontRound A
    r' = collecting (record { reply = reply; behind = behind } ∷ gs) r0

    abbrev g : Move A
    g = Gets reply behind

    abbrev old : List (Move A)
    old = made r c

    abbrev all : List (Move A)
    all = g ∷ old

    made_is : made r' c ≡ all
    made_is = ap (λ b. cond b all old) (same c)

    closes_got : (ms : List (Move A)) (why : Reason) → closes R p r' c ms why ≡ closes R p r c ms why
    closes_got ms why = closes_again R p r c r0.acts (record { reply = reply; behind = behind } ∷ gs) None [] ms why

    grows : length (answer_bytes R (old ++ p.moves)) ≤ length (answer_bytes R (all ++ p.moves))
    grows = text_grows R (g ∷ []) (old ++ p.moves)

    -- memory was wanting before
    abbrev lacks_got : (l : MayLack R p r c) → IsEarly R p r c l → MayLack R p r' c
    lacks_got (InHearing h) q = InHearing h
    lacks_got (AtReply later earlier rp b m u k) q = AtReply (g ∷ later) earlier rp b (made_is ∙ ap (λ x. g ∷ x) m) u (λ why x. k why (sym (closes_got earlier why) ∙ x))
    lacks_got (AtOffer m d k) q = absurd q

    early_got : (l : MayLack R p r c) → (q : IsEarly R p r c l) → IsEarly R p r' c (lacks_got l q)
    early_got (InHearing h) q = tt
    early_got (AtReply later earlier rp b m u k) q = tt
    early_got (AtOffer m d k) q = absurd q

    starves_got : R.starves g ≡ false → StarvesNow R p r c → StarvesNow R p r' c
    starves_got n k = record {
      starved = record { lacks = lacks_got k.starved.lacks (k.early refl); untried = refl; alone = alone };
      early = λ _. early_got k.starved.lacks (k.early refl);
    }
      where
        alone : (why : Reason) → closes R p r' c (made r' c) why ≡ true → (why ≡ reason.Cut) ⊎ ((why ≡ reason.Full) ⊎ (why ≡ reason.Unread))
        alone reason.Cut x = inl refl
        alone reason.Full x = inr (inl refl)
        alone reason.Unread x = inr (inr refl)
        alone reason.Ended x = k.starved.alone reason.Ended x
        alone reason.Lost x = k.starved.alone reason.Lost x
        alone reason.SentWhole x = clash (sym x)
        alone reason.SendFailed x = clash (sym x)
        alone reason.NoMemory x = k.starved.alone reason.NoMemory (or_second (R.starves g) (list_any R.starves old) n (sym (ap (list_any R.starves) made_is) ∙ x))
        alone reason.Starved x = clash (sym x)

    full_more : closes R p r c old reason.Full ≡ true → closes R p r' c all reason.Full ≡ true
    full_more h =
        let q = grows in
        let l = ltb-true (p.took + most_rest_bytes) (length (answer_bytes R (old ++ p.moves))) h in
        lt-ltb (p.took + most_rest_bytes) (length (answer_bytes R (all ++ p.moves))) (omega (arith, q, l))

    -- a cause stays
    caused_more : (f : Disposition) → R.starves g ≡ false → keeps f ≡ false → DispositionFits R p r c old f → DispositionFits R p r' c all f
    caused_more Stays n k h = clash k
    caused_more (Leaves reason.Unread) n k h = clash k
    caused_more (Leaves reason.Ended) n k h = h
    caused_more (Leaves reason.Lost) n k h = h
    caused_more (Leaves reason.Cut) n k h = or_right (is_cut {A = A} g) (list_any is_cut old) h
    caused_more (Leaves reason.Full) n k h = full_more h
    caused_more (Leaves reason.SentWhole) n k h = h
    caused_more (Leaves reason.SendFailed) n k h = h
    caused_more (Leaves reason.NoMemory) n k h = or_right (R.starves g) (list_any R.starves old) h
    caused_more (Leaves reason.Starved) n k h = starves_got n h

    -- the reply may lack entries, or has them
    abbrev may_lack : Bool
    may_lack = (ends_at r0.event c || loses r0.event c) || (list_any is_cut all || R.whole (old ++ p.moves) g)

    excused_by : (f : Disposition) → keeps f ≡ false → asks_all f ≡ true → DispositionFits R p r c old f → may_lack ≡ true
    excused_by Stays k a h = clash k
    excused_by (Leaves reason.Unread) k a h = clash k
    excused_by (Leaves reason.Ended) k a h = or_left (ends_at r0.event c || loses r0.event c) (list_any is_cut all || R.whole (old ++ p.moves) g) (or_left (ends_at r0.event c) (loses r0.event c) h)
    excused_by (Leaves reason.Lost) k a h = or_left (ends_at r0.event c || loses r0.event c) (list_any is_cut all || R.whole (old ++ p.moves) g) (or_right (ends_at r0.event c) (loses r0.event c) h)
    excused_by (Leaves reason.Cut) k a h =
        or_right (ends_at r0.event c || loses r0.event c) (list_any is_cut all || R.whole (old ++ p.moves) g)
        (or_left (list_any is_cut all) (R.whole (old ++ p.moves) g) (or_right (is_cut {A = A} g) (list_any is_cut old) h))
    excused_by (Leaves reason.Full) k a h = clash (sym a)
    excused_by (Leaves reason.SentWhole) k a h = clash (sym h)
    excused_by (Leaves reason.SendFailed) k a h = clash (sym h)
    excused_by (Leaves reason.NoMemory) k a h = clash (sym a)
    excused_by (Leaves reason.Starved) k a h = clash (sym a)

    asked_got : AllAsked R p r c old → may_lack ≡ true → AllAsked R p r' c all
    asked_got a e = (a.0, a.1, (e, a.2))

    low_got : p.took ≤ length (answer_bytes R (old ++ p.moves)) → p.took ≤ length (answer_bytes R (all ++ p.moves))
    low_got l = let q = grows in omega (arith, q, l)

    module _ (told : Option PortsTold) (box : List (ℕ × List ℕ)) (s : Session T) where
      -- a reply is passed over
      passed_sits : R.starves g ≡ false → Sits R K p r c old s told box → keeps s.disposition ≡ false → Sits R K p r' c all s told box
      passed_sits n h k =
          sits_as R K p r' c all s told box s.disposition refl h.rest_there h.opening h.up (low_got h.low) (λ e. clash (sym e ∙ k))
          (caused_more s.disposition n k h.disposition_fits)
          (λ a. asked_got (h.asked_all a) (excused_by s.disposition k a h.disposition_fits))

      cut_is : reply.outcome ≡ outcome.Cut → list_any is_cut all ≡ true
      cut_is e =
          or_left (is_cut {A = A} g) (list_any is_cut old)
          (ap (λ (o : Outcome). elim o as (λ _. Bool) [ outcome.Cut ↦ true | outcome.Done ↦ false | outcome.NotDone ↦ false ]) e)

      -- a reply ends the session
      cut_sits : Sits R K p r c old s told box → keeps s.disposition ≡ true → reply.outcome ≡ outcome.Cut → Sits R K p r' c all (record s { disposition = Leaves reason.Cut }) told box
      cut_sits h k e =
          sits_as R K p r' c all (record s { disposition = Leaves reason.Cut }) told box (Leaves reason.Cut) refl h.rest_there (λ _. h.opening (keeps_up s.disposition k))
          (h.up ∙ keeps_up s.disposition k) (low_got h.low) (λ q. clash (sym q)) (cut_is e)
          (λ _. asked_got (h.asked_all (keeps_asks s.disposition k))
          (or_right (ends_at r0.event c || loses r0.event c) (list_any is_cut all || R.whole (old ++ p.moves) g) (or_left (list_any is_cut all) (R.whole (old ++ p.moves) g) (cut_is e))))

      -- all that is known as a reply was answered
      record Say (s' : Session T) (response : List ℕ) (f : Disposition) : Type 0 where
        sits : Sits R K p r c old s told box
        kept : keeps s.disposition ≡ true
        why : RepliedWhy R g f
        response_is : keeps f ≡ true → R.says (old ++ p.moves) g ≡ response
        whole : keeps f ≡ true → R.whole (old ++ p.moves) g ≡ true
        knows : keeps f ≡ true → K (after r c p).given (all ++ p.moves) s'.conn_state
        uncut : is_cut {A = A} g ≡ false
        owes : s'.owes ≡ owing s.owes response Stays

      module _ (s' : Session T) (response : List ℕ) where
        abbrev before_it : List ℕ
        before_it = answer_bytes R (old ++ p.moves)

        abbrev after_it : List ℕ
        after_it = answer_bytes R (all ++ p.moves)

        text_is : R.says (old ++ p.moves) g ≡ response → after_it ≡ before_it ++ response
        text_is e = ap (λ xs. before_it ++ xs) e

        reason_more : has_reason R p r c old ≡ true → has_reason R p r' c all ≡ true
        reason_more h =
            or_more (calls r0.event c || false) (nat_lt (length (answer_bytes R p.moves)) (length before_it) || R.refuses (after r c p).given)
            (nat_lt (length (answer_bytes R p.moves)) (length after_it) || R.refuses (after r c p).given)
            (λ e. or_less (R.refuses (after r c p).given) (nat_lt (length (answer_bytes R p.moves)) (length before_it)) (nat_lt (length (answer_bytes R p.moves)) (length after_it))
            (λ q. let l = ltb-true (length (answer_bytes R p.moves)) (length before_it) q in
            let m = grows in
            lt-ltb (length (answer_bytes R p.moves)) (length after_it) (omega (arith, l, m))) e) h

        reason_said : R.says (old ++ p.moves) g ≡ response → nat_lt 0 (length response) ≡ true → has_reason R p r' c all ≡ true
        reason_said e h =
            let l = ltb-true 0 (length response) h in
            let t = ap length (text_is e) ∙ length-append before_it response in
            let b = text_grows R old p.moves in
            or_right (calls r0.event c || false) (nat_lt (length (answer_bytes R p.moves)) (length after_it) || R.refuses (after r c p).given)
            (or_left (nat_lt (length (answer_bytes R p.moves)) (length after_it)) (R.refuses (after r c p).given) (lt-ltb (length (answer_bytes R p.moves)) (length after_it) (omega (arith, l, t, b))))

        owes_by : (owes : Bool) → R.says (old ++ p.moves) g ≡ response → (owes ≡ true → has_reason R p r c old ≡ true) → (owes || (nat_lt 0 (length response) || false)) ≡ true → has_reason R p r' c all ≡ true
        owes_by true e f h = reason_more (f refl)
        owes_by false e f h = reason_said e (sym (or-false (nat_lt 0 (length response))) ∙ h)

        -- nothing closes it but what may stand in its bytes
        unclosed_got : Unclosed R p r c old → R.starves g ≡ false → is_cut {A = A} g ≡ false → length after_it ≤ p.took + most_rest_bytes → Unclosed R p r' c all
        unclosed_got u n q l reason.Unread x = refl
        unclosed_got u n q l reason.Ended x = u reason.Ended x
        unclosed_got u n q l reason.Lost x = u reason.Lost x
        unclosed_got u n q l reason.Cut x = u reason.Cut (or_second (is_cut {A = A} g) (list_any is_cut old) q x)
        unclosed_got u n q l reason.Full x = clash (sym x ∙ le-ltb (p.took + most_rest_bytes) (length after_it) l)
        unclosed_got u n q l reason.SentWhole x = clash (sym x)
        unclosed_got u n q l reason.SendFailed x = clash (sym x)
        unclosed_got u n q l reason.NoMemory x = u reason.NoMemory (or_second (R.starves g) (list_any R.starves old) n x)
        unclosed_got u n q l reason.Starved x = clash (sym x)

        keeping_got : (rest : List ℕ) → (h : Say s' response Stays) → rest ≡ rest_in box c ++ response → length after_it ≤ p.took + most_rest_bytes → Keeping R K p r' c all s' rest
        keeping_got rest h e l =
            let k = h.sits.keeping h.kept in
            let is = text_is (h.response_is refl) in
            record {
              rest_is = e ∙ ap (λ xs. xs ++ response) k.rest_is ∙ sym (due_grows R p.took before_it response after_it h.sits.low is);
              asked_all = k.asked_all;
              whole = and_from (R.whole (old ++ p.moves) g) (each_whole R (old ++ p.moves)) (h.whole refl) k.whole;
              knows = h.knows refl;
              unclosed = unclosed_got k.unclosed h.why h.uncut l;
              owed = λ o. (refl, owes_by s.owes (h.response_is refl) (λ q. (k.owed q).1) (sym h.owes ∙ o));
              nothing_due = λ o m t.
                  let parts = or_parts s.owes (nat_lt 0 (length response) || false) (sym h.owes ∙ o) in
                  let none = no_response response (or_parts (nat_lt 0 (length response)) false parts.1).0 in
                  let text_same : after_it ≡ before_it = is ∙ ap (λ xs. before_it ++ xs) none ∙ append-nil before_it in
                  ap (drop p.took) text_same
                  ∙ k.nothing_due parts.0 (sym (ap (λ xs. (calls r0.event c || false) || (nat_lt (length (answer_bytes R p.moves)) (length xs) || R.refuses (after r c p).given)) text_same) ∙ m) t;
            }

        -- it may be left as starved at this reply
        starving : (f : Disposition) → Say s' response f → R.starves g ≡ false → StarvesNow R p r' c
        starving f h n =
            let k = h.sits.keeping h.kept in
            starves_now R p r' c (AtReply [] old reply behind made_is h.uncut (λ why x. k.unclosed why (sym (closes_got old why) ∙ x))) (λ _. tt) refl
            (unclosed_is R p r c old reason.Ended k.unclosed (λ q. cc)) (unclosed_is R p r c old reason.Lost k.unclosed (λ q. cc))
            (ap (list_any R.starves) made_is ∙ or_none (R.starves g) (list_any R.starves old) n (unclosed_is R p r c old reason.NoMemory k.unclosed (λ q. cc)))

        -- it leaves, and its bytes are kept no longer
        leaves_got : (f f' : Disposition) → Say s' response f → s'.disposition ≡ f' → is_up f' ≡ true → keeps f' ≡ false → DispositionFits R p r' c all f' → asks_all f' ≡ false → Sits R K p r' c all s' told box
        leaves_got f f' h e u k fits a =
            sits_as R K p r' c all s' told box f' e h.sits.rest_there (λ _. h.sits.opening (keeps_up s.disposition h.kept)) (h.sits.up ∙ keeps_up s.disposition h.kept ∙ sym u) (low_got h.sits.low)
            (λ q. clash (sym q ∙ k)) fits (λ q. clash (sym q ∙ a))

        response_passes : (f : Disposition) → Say s' response f → keeps (worse s.disposition f) ≡ false → s'.disposition ≡ worse s.disposition f → Sits R K p r' c all s' told box
        response_passes Stays h n e = clash (sym h.kept ∙ n)
        response_passes (Leaves reason.NoMemory) h n e = leaves_got (Leaves reason.NoMemory) (Leaves reason.NoMemory) h e refl refl (or_left (R.starves g) (list_any R.starves old) h.why) refl
        response_passes (Leaves reason.Starved) h n e = leaves_got (Leaves reason.Starved) (Leaves reason.Starved) h e refl refl (starving (Leaves reason.Starved) h h.why) refl
        response_passes (Leaves reason.Unread) h n e = absurd h.why
        response_passes (Leaves reason.Ended) h n e = absurd h.why
        response_passes (Leaves reason.Lost) h n e = absurd h.why
        response_passes (Leaves reason.Cut) h n e = absurd h.why
        response_passes (Leaves reason.Full) h n e = absurd h.why
        response_passes (Leaves reason.SentWhole) h n e = absurd h.why
        response_passes (Leaves reason.SendFailed) h n e = absurd h.why

        -- what fits a kept disposition goes on to fit it
        fits_got : (f : Disposition) → keeps f ≡ true → DispositionFits R p r c old f → Unclosed R p r' c all → DispositionFits R p r' c all f
        fits_got Stays k fits u = unclosed_calm R p r' c all u (fits reason.Unread)
        fits_got (Leaves reason.Unread) k fits u = fits
        fits_got (Leaves reason.NoMemory) k fits u = clash (sym k)
        fits_got (Leaves reason.Starved) k fits u = clash (sym k)
        fits_got (Leaves reason.Ended) k fits u = clash (sym k)
        fits_got (Leaves reason.Lost) k fits u = clash (sym k)
        fits_got (Leaves reason.Cut) k fits u = clash (sym k)
        fits_got (Leaves reason.Full) k fits u = clash (sym k)
        fits_got (Leaves reason.SentWhole) k fits u = clash (sym k)
        fits_got (Leaves reason.SendFailed) k fits u = clash (sym k)

        -- a reply that keeps its session says nothing but Stays
        kept_is : (f0 f : Disposition) → RepliedWhy R g f → keeps (worse f0 f) ≡ true → f ≡ Stays
        kept_is f0 Stays w k = refl
        kept_is f0 (Leaves reason.NoMemory) w k = clash (sym k)
        kept_is f0 (Leaves reason.Starved) w k = clash (sym k)
        kept_is f0 (Leaves reason.Unread) w k = absurd w
        kept_is f0 (Leaves reason.Ended) w k = absurd w
        kept_is f0 (Leaves reason.Lost) w k = absurd w
        kept_is f0 (Leaves reason.Cut) w k = absurd w
        kept_is f0 (Leaves reason.Full) w k = absurd w
        kept_is f0 (Leaves reason.SentWhole) w k = absurd w
        kept_is f0 (Leaves reason.SendFailed) w k = absurd w

        abbrev box_then : List (ℕ × List ℕ)
        box_then = put_rest box c (rest_in box c ++ response)

        said_holds : (h : Say s' response Stays) → s'.disposition ≡ s.disposition → length (rest_in box c ++ response) ≤ most_rest_bytes → Sits R K p r' c all s' told box_then
        said_holds h e l =
            let k = h.sits.keeping h.kept in
            let short = within R p.took before_it response after_it h.sits.low (text_is (h.response_is refl)) (subst (λ (xs : List ℕ). length (xs ++ response) ≤ most_rest_bytes) k.rest_is l) in
            sits_as R K p r' c all s' told box_then s.disposition e (rest_in box c ++ response, at_put box c (rest_in box c ++ response) h.sits.rest_there) h.sits.opening h.sits.up (low_got h.sits.low)
            (λ _. keeping_got (rest_in box_then c) h (holds_rest box c (rest_in box c ++ response) h.sits.rest_there) short)
            (fits_got s.disposition h.kept h.sits.disposition_fits (unclosed_got k.unclosed h.why h.uncut short))
            (λ a. asked_got (h.sits.asked_all a)
            (or_right (ends_at r0.event c || loses r0.event c) (list_any is_cut all || R.whole (old ++ p.moves) g) (or_right (list_any is_cut all) (R.whole (old ++ p.moves) g) (h.whole refl))))

        said_full : (h : Say s' response Stays) → s'.disposition ≡ Leaves reason.Full → most_rest_bytes < length (rest_in box c ++ response) → Sits R K p r' c all s' told box
        said_full h e l =
            let k = h.sits.keeping h.kept in
            let long = beyond R p.took before_it response after_it h.sits.low (text_is (h.response_is refl)) (subst (λ (xs : List ℕ). most_rest_bytes < length (xs ++ response)) k.rest_is l) in
            leaves_got Stays (Leaves reason.Full) h e refl refl (lt-ltb (p.took + most_rest_bytes) (length after_it) long) refl

        response_by : (box' : List (ℕ × List ℕ)) (f f' : Disposition) → Say s' response f → s'.disposition ≡ f' → Settles c response (worse s.disposition f) f' box box' → Sits R K p r' c all s' told box'
        response_by box' f f' h e (Passes n q b) = subst (Sits R K p r' c all s' told) (sym b) (response_passes f h n (e ∙ q))
        response_by box' f f' h e (Holds n q b l) =
            let is = kept_is s.disposition f h.why n in
            subst (Sits R K p r' c all s' told) (sym b) (said_holds (subst (Say s' response) is h) (e ∙ q ∙ ap (worse s.disposition) is) l)
        response_by box' f f' h e (Overflows n q b l) =
            subst (Sits R K p r' c all s' told) (sym b) (said_full (subst (Say s' response) (kept_is s.disposition f h.why n) h) (e ∙ q) l)
        response_by box' f f' h e (Starves n q b l) =
            let k = subst (Say s' response) (kept_is s.disposition f h.why n) h in
            subst (Sits R K p r' c all s' told) (sym b) (leaves_got Stays (Leaves reason.Starved) k (e ∙ q) refl refl (starving Stays k k.why) refl)

  -- a reply is answered
  answered_sits : (p : Standing A) (r0 : FrontRound A) (gs : List Gathered) (reply : Reply) (s s' : Session T) (mine mine' : List Entry) (told : Option PortsTold) (box box' : List (ℕ × List ℕ))
      → (sits : Sits R K p (collecting gs r0) reply.conn.number (made (collecting gs r0) reply.conn.number) s told box) → (k : keeps s.disposition ≡ true) → (reply.outcome ≡ outcome.Cut → ⊥) → s.conn ≡ reply.conn.number
      → (h : AnswersOne R K reply mine mine' s s' box box')
      → let behind = (h.replied (after (collecting gs r0) reply.conn.number p).given (after (collecting gs r0) reply.conn.number p).moves (sits.keeping k).knows).behind in
      Sits R K p (collecting (record { reply = reply; behind = behind } ∷ gs) r0) reply.conn.number (Gets reply behind ∷ made (collecting gs r0) reply.conn.number) s' told box'
  answered_sits p r0 gs reply s s' mine mine' told box box' sits k n sc h =
      let c = reply.conn.number in
      let rp = h.replied (after (collecting gs r0) c p).given (after (collecting gs r0) c p).moves (sits.keeping k).knows in
      response_by p r0 gs reply rp.behind told box s s' h.response box' h.disposition s'.disposition
      (record {
        sits = sits;
        kept = k;
        why = rp.why;
        response_is = rp.response_is;
        whole = rp.whole;
        knows = rp.knows;
        uncut = cut_by reply.outcome n;
        owes = h.owes;
      })
      refl (subst (λ d. Settles d h.response (worse s.disposition h.disposition) s'.disposition box box') sc h.settles)

  -- ---- the round

  asked_too : (b : Bool) (acts : List A) (given : List ℕ) (reply : Reply) (behind : List Entry) (ms past : List (Move A)) → (acts ≡ []) ⊎ ((more : List W) × R.wanted given (wants_of R (ms ++ past) ++ more))
      → (acts ≡ []) ⊎ ((more : List W) × R.wanted given (wants_of R (cond b (Gets reply behind ∷ ms) ms ++ past) ++ more))
  asked_too true acts given reply behind ms past h = h
  asked_too false acts given reply behind ms past h = h

  fits_moved : (b : Bool) (m : Move A) (ms past : List (Move A)) → (b ≡ true → R.fits (ms ++ past) m ≡ true) → EachSoFar (λ ns n. R.fits ns n ≡ true) (ms ++ past)
      → EachSoFar (λ ns n. R.fits ns n ≡ true) (cond b (m ∷ ms) ms ++ past)
  fits_moved true m ms past f h = (f refl, h)
  fits_moved false m ms past f h = h

  fits_more : (rs : List (FrontRound A)) (r0 : FrontRound A) (gs : List Gathered) (reply : Reply) (behind : List Entry) → RoundFits R rs (collecting gs r0)
      → R.fits (made (collecting gs r0) reply.conn.number ++ (before rs r0 reply.conn.number).moves) (Gets reply behind) ≡ true → RoundFits R rs (collecting (record { reply = reply; behind = behind } ∷ gs) r0)
  fits_more rs r0 gs reply behind f h = record {
    follows = f.follows;
    begins = f.begins;
    room = f.room;
    asks = λ d x. asked_too (reply.conn.number == d) r0.acts (after (collecting gs r0) d (before rs r0 d)).given reply behind (made (collecting gs r0) d) (before rs r0 d).moves (f.asks d x);
    fits = λ d. fits_moved (reply.conn.number == d) (Gets reply behind) (made (collecting gs r0) d) (before rs r0 d).moves
        (λ e. subst (λ x. R.fits (made (collecting gs r0) x ++ (before rs r0 x).moves) (Gets reply behind) ≡ true) (eqb-true reply.conn.number d e) h) (f.fits d);
    order = λ n. (refl, refl);
    sends = tt;
    left = tt;
  }

  told_got : (start told : Option PortsTold) (mine mine' : List Entry) (starved : ℕ) (rs : List (FrontRound A)) (r0 : FrontRound A) (gs : List Gathered) (reply : Reply) (behind : List Entry)
      → AreTold R start told mine starved (collecting gs r0 ∷ rs) → mine' ≡ (mine ++ Collect R.number (collected.Reply reply) ∷ []) ++ behind
      → R.fits (made (collecting gs r0) reply.conn.number ++ (before rs r0 reply.conn.number).moves) (Gets reply behind) ≡ true
      → AreTold R start told mine' starved (collecting (record { reply = reply; behind = behind } ∷ gs) r0 ∷ rs)
  told_got start told mine mine' starved rs r0 gs reply behind h m f = record {
    entries = m ∙ append_assoc mine (Collect R.number (collected.Reply reply) ∷ []) behind ∙ ap (λ es. es ++ Collect R.number (collected.Reply reply) ∷ behind) h.entries;
    telling = h.telling;
    coming = h.coming;
    sound = (fits_more rs r0 gs reply behind h.sound.0 f, h.sound.1);
    counted = h.counted;
  }

  -- a Collect gave a reply, whatever became of its session
  got_by : (e : PortEvent) (start : Option PortsTold) (w : World T) (reply : Reply) (behind mine' : List Entry) (sessions : List (Session T)) (box' : List (ℕ × List ℕ)) → (h : CanCollect R K e start w)
      → mine' ≡ (w.mine ++ Collect R.number (collected.Reply reply) ∷ []) ++ behind
      → R.fits (made (collecting h.replies h.round) reply.conn.number ++ (before h.rounds h.round reply.conn.number).moves) (Gets reply behind) ≡ true
      → conns sessions ≡ conns w.sessions → keys box' ≡ keys w.box
      → Each (λ (s : Session T). Sits R K (before h.rounds h.round s.conn) (collecting (record { reply = reply; behind = behind } ∷ h.replies) h.round) s.conn
      (made (collecting (record { reply = reply; behind = behind } ∷ h.replies) h.round) s.conn) s w.told box') sessions
      → CanCollect R K e start (record w { mine = mine'; sessions = sessions; box = box' })
  got_by e start w reply behind mine' sessions box' h m f c k each = record {
    rounds = h.rounds;
    round = h.round;
    replies = record { reply = reply; behind = behind } ∷ h.replies;
    event_is = h.event_is;
    makes = record {
      stands = record {
        are_told = told_got start w.told w.mine mine' w.starved h.rounds h.round h.replies reply behind h.makes.stands.are_told m f;
        conns_are = c ∙ h.makes.stands.conns_are;
        keys_are = k ∙ h.makes.stands.keys_are;
        apart = subst Apart (sym c) h.makes.stands.apart;
      };
      each = each;
    };
  }

  -- the session of another connection
  other_got : (e : PortEvent) (start : Option PortsTold) (w : World T) (reply : Reply) (behind : List Entry) → (h : CanCollect R K e start w) → (x : Session T) → (x.conn ≡ reply.conn.number → ⊥)
      → Sits R K (before h.rounds h.round x.conn) (collecting h.replies h.round) x.conn (made (collecting h.replies h.round) x.conn) x w.told w.box
      → Sits R K (before h.rounds h.round x.conn) (collecting (record { reply = reply; behind = behind } ∷ h.replies) h.round) x.conn
      (made (collecting (record { reply = reply; behind = behind } ∷ h.replies) h.round) x.conn) x w.told w.box
  other_got e start w reply behind h x n q =
      let r = collecting h.replies h.round in
      let gs : List Gathered = record { reply = reply; behind = behind } ∷ h.replies in
      let is : made (collecting gs h.round) x.conn ≡ made r x.conn =
      ap (λ b. cond b (Gets reply behind ∷ made r x.conn) (made r x.conn)) (other reply.conn.number x.conn (λ z. n (sym z))) in
      subst (λ l. Sits R K (before h.rounds h.round x.conn) (collecting gs h.round) x.conn l x w.told w.box) (sym is)
      (sits_again R K (before h.rounds h.round x.conn) r x.conn gs [] is (made r x.conn) x w.told w.box q)

  -- a reply for a connection that is not there
  pub got_none : (e : PortEvent) (start : Option PortsTold) (w : World T) (reply : Reply) (mine' : List Entry) → MayStandAlone R → CanCollect R K e start w
      → mine' ≡ w.mine ++ Collect R.number (collected.Reply reply) ∷ [] → has (conns w.sessions) reply.conn.number ≡ false → CanCollect R K e start (record w { mine = mine' })
  got_none e start w reply mine' alone h m n =
      got_by e start w reply [] mine' w.sessions w.box h (m ∙ sym (append-nil (w.mine ++ Collect R.number (collected.Reply reply) ∷ [])))
      (alone reply (made (collecting h.replies h.round) reply.conn.number ++ (before h.rounds h.round reply.conn.number).moves)).0 refl refl
      (each_none (λ (s : Session T). Sits R K (before h.rounds h.round s.conn) (collecting h.replies h.round) s.conn (made (collecting h.replies h.round) s.conn) s w.told w.box)
      (λ (s : Session T). Sits R K (before h.rounds h.round s.conn) (collecting (record { reply = reply; behind = [] } ∷ h.replies) h.round) s.conn
      (made (collecting (record { reply = reply; behind = [] } ∷ h.replies) h.round) s.conn) s w.told w.box) w.sessions reply.conn.number h.makes.each n
      (λ x ne q. other_got e start w reply [] h x ne q))

  -- a reply for a session, of which this became
  got_at : (e : PortEvent) (start : Option PortsTold) (w : World T) (reply : Reply) (behind mine' : List Entry) (i : ℕ) (s s' : Session T) (box' : List (ℕ × List ℕ)) → (h : CanCollect R K e start w)
      → mine' ≡ (w.mine ++ Collect R.number (collected.Reply reply) ∷ []) ++ behind → StandsAt w.sessions i s → s.conn ≡ reply.conn.number → s'.conn ≡ s.conn
      → R.fits (made (collecting h.replies h.round) reply.conn.number ++ (before h.rounds h.round reply.conn.number).moves) (Gets reply behind) ≡ true
      → keys box' ≡ keys w.box → ((d : ℕ) → (s.conn ≡ d → ⊥) → rest_at box' d ≡ rest_at w.box d)
      → Sits R K (before h.rounds h.round reply.conn.number) (collecting (record { reply = reply; behind = behind } ∷ h.replies) h.round) reply.conn.number
      (Gets reply behind ∷ made (collecting h.replies h.round) reply.conn.number) s' w.told box'
      → CanCollect R K e start (record w { mine = mine'; sessions = set w.sessions i s'; box = box' })
  got_at e start w reply behind mine' i s s' box' h m at sc cs f k rests sits =
      let gs : List Gathered = record { reply = reply; behind = behind } ∷ h.replies in
      got_by e start w reply behind mine' (set w.sessions i s') box' h m f (conns_set w.sessions i s s' at cs) k
      (each_set (λ (x : Session T). Sits R K (before h.rounds h.round x.conn) (collecting h.replies h.round) x.conn (made (collecting h.replies h.round) x.conn) x w.told w.box)
      (λ (x : Session T). Sits R K (before h.rounds h.round x.conn) (collecting gs h.round) x.conn (made (collecting gs h.round) x.conn) x w.told box') w.sessions i s s' at h.makes.stands.apart h.makes.each
      (λ x ne q. others R K (before h.rounds h.round x.conn) (collecting gs h.round) x.conn (made (collecting gs h.round) x.conn) x w.told w.told w.box box'
      (other_got e start w reply behind h x (λ z. ne (z ∙ sym sc)) q) (rests x.conn (λ z. ne (sym z))) (λ o. o))
      (subst (λ d. Sits R K (before h.rounds h.round d) (collecting gs h.round) d (made (collecting gs h.round) d) s' w.told box') (sym (cs ∙ sc))
      (subst (λ l. Sits R K (before h.rounds h.round reply.conn.number) (collecting gs h.round) reply.conn.number l s' w.told box')
      (sym (made_is (before h.rounds h.round reply.conn.number) h.round h.replies reply behind)) sits)))

  -- the session of the reply's connection, as it sat
  sat : (e : PortEvent) (start : Option PortsTold) (w : World T) (reply : Reply) (i : ℕ) (s : Session T) → (h : CanCollect R K e start w) → StandsAt w.sessions i s → s.conn ≡ reply.conn.number
      → Sits R K (before h.rounds h.round reply.conn.number) (collecting h.replies h.round) reply.conn.number (made (collecting h.replies h.round) reply.conn.number) s w.told w.box
  sat e start w reply i s h at sc =
      subst (λ d. Sits R K (before h.rounds h.round d) (collecting h.replies h.round) d (made (collecting h.replies h.round) d) s w.told w.box) sc
      (each_at (λ (x : Session T). Sits R K (before h.rounds h.round x.conn) (collecting h.replies h.round) x.conn (made (collecting h.replies h.round) x.conn) x w.told w.box) w.sessions i s at h.makes.each)

  pub got_one : (e : PortEvent) (start : Option PortsTold) (w : World T) (reply : Reply) (mine1 mine' : List Entry) (i : ℕ) (s s' : Session T) (box' : List (ℕ × List ℕ))
      → MayStandAlone R → CanCollect R K e start w → mine1 ≡ w.mine ++ Collect R.number (collected.Reply reply) ∷ [] → StandsAt w.sessions i s → s.conn ≡ reply.conn.number
      → RepliesOne R K reply mine1 mine' s s' w.box box'
      → CanCollect R K e start (record w { mine = mine'; sessions = set w.sessions i s'; box = box' })
  got_one e start w reply mine1 mine' i s s' box' alone h m at sc (Passed k me se be) =
      let c = reply.conn.number in
      let p = before h.rounds h.round c in
      let ms = made (collecting h.replies h.round) c in
      let a = alone reply (ms ++ p.moves) in
      got_at e start w reply [] mine' i s s' box' h (me ∙ m ∙ sym (append-nil (w.mine ++ Collect R.number (collected.Reply reply) ∷ []))) at sc (ap (λ (x : Session T). x.conn) se)
      a.0 (ap keys be) (λ d n. ap (λ (x : List (ℕ × List ℕ)). rest_at x d) be)
      (subst (λ (x : Session T). Sits R K p (collecting (record { reply = reply; behind = [] } ∷ h.replies) h.round) c (Gets reply [] ∷ ms) x w.told box') (sym se)
      (subst (Sits R K p (collecting (record { reply = reply; behind = [] } ∷ h.replies) h.round) c (Gets reply [] ∷ ms) s w.told) (sym be)
      (passed_sits p h.round h.replies reply [] w.told w.box s a.1 (sat e start w reply i s h at sc) k)))
  got_one e start w reply mine1 mine' i s s' box' alone h m at sc (Cuts k oe me se be) =
      let c = reply.conn.number in
      let p = before h.rounds h.round c in
      let ms = made (collecting h.replies h.round) c in
      got_at e start w reply [] mine' i s s' box' h (me ∙ m ∙ sym (append-nil (w.mine ++ Collect R.number (collected.Reply reply) ∷ []))) at sc (ap (λ (x : Session T). x.conn) se)
      (alone reply (ms ++ p.moves)).0 (ap keys be) (λ d n. ap (λ (x : List (ℕ × List ℕ)). rest_at x d) be)
      (subst (λ (x : Session T). Sits R K p (collecting (record { reply = reply; behind = [] } ∷ h.replies) h.round) c (Gets reply [] ∷ ms) x w.told box') (sym se)
      (subst (Sits R K p (collecting (record { reply = reply; behind = [] } ∷ h.replies) h.round) c (Gets reply [] ∷ ms) (record s { disposition = Leaves reason.Cut }) w.told) (sym be)
      (cut_sits p h.round h.replies reply [] w.told w.box s (sat e start w reply i s h at sc) k oe)))
  got_one e start w reply mine1 mine' i s s' box' alone h m at sc (Answers k n a) =
      let c = reply.conn.number in
      let p = before h.rounds h.round c in
      let sits = sat e start w reply i s h at sc in
      let rp = a.replied (after (collecting h.replies h.round) c p).given (after (collecting h.replies h.round) c p).moves (sits.keeping k).knows in
      got_at e start w reply rp.behind mine' i s s' box' h (rp.mine_is ∙ ap (λ es. es ++ rp.behind) m) at sc a.conn rp.fits
      (settles_keys s.conn a.response (worse s.disposition a.disposition) s'.disposition w.box box' a.settles)
      (λ d ne. settles_other s.conn a.response (worse s.disposition a.disposition) s'.disposition w.box box' d a.settles ne)
      (answered_sits p h.round h.replies reply s s' mine1 mine' w.told w.box box' sits k n sc a)

  pub got_worn : (e : PortEvent) (start : Option PortsTold) (w : World T) (reply : Reply) (mine1 mine' : List Entry) (i : ℕ) (s : Session T)
      → CanCollect R K e start w → mine1 ≡ w.mine ++ Collect R.number (collected.Reply reply) ∷ [] → StandsAt w.sessions i s → s.conn ≡ reply.conn.number
      → AnswersWorn R K reply mine1 mine' s → CutShort R K start w.told mine' w.starved
  got_worn e start w reply mine1 mine' i s h m at sc a =
      let c = reply.conn.number in
      let p = before h.rounds h.round c in
      let sits = sat e start w reply i s h at sc in
      let rp = a.replied (after (collecting h.replies h.round) c p).given (after (collecting h.replies h.round) c p).moves (sits.keeping a.kept).knows in (
        collecting (record { reply = reply; behind = rp.behind } ∷ h.replies) h.round ∷ h.rounds,
        told_got start w.told w.mine mine' w.starved h.rounds h.round h.replies reply rp.behind h.makes.stands.are_told (rp.mine_is ∙ ap (λ es. es ++ rp.behind) m) rp.fits,
      )

  pub rest_of_collect : (e : PortEvent) (start : Option PortsTold) (w : World T) (i : ℕ) (s : Session T) → CanCollect R K e start w → StandsAt w.sessions i s → HasRest w.box s.conn
  rest_of_collect e start w i s h at =
      (each_at (λ (x : Session T). Sits R K (before h.rounds h.round x.conn) (collecting h.replies h.round) x.conn (made (collecting h.replies h.round) x.conn) x w.told w.box) w.sessions i s at h.makes.each).rest_there

  -- ---- the last Collect

  module _ (p : Standing A) (r0 : FrontRound A) (gs : List Gathered) (c : ℕ) (s : Session T) (told : Option PortsTold) (box : List (ℕ × List ℕ)) where
    abbrev open_round : FrontRound A
    open_round = collecting gs r0

    abbrev over_round : Bool → FrontRound A
    over_round stopped = offering stopped [] open_round

    over_closes : (stopped : Bool) (ms : List (Move A)) (why : Reason) → closes R p (over_round stopped) c ms why ≡ closes R p open_round c ms why
    over_closes stopped ms why = closes_again R p open_round c r0.acts gs (Some stopped) [] ms why

    over_fits : (stopped : Bool) (ms : List (Move A)) (f : Disposition) → DispositionFits R p open_round c ms f → DispositionFits R p (over_round stopped) c ms f
    over_fits stopped ms Stays k = λ why. over_closes stopped ms why ∙ k why
    over_fits stopped ms (Leaves reason.Ended) k = k
    over_fits stopped ms (Leaves reason.Lost) k = k
    over_fits stopped ms (Leaves reason.Cut) k = k
    over_fits stopped ms (Leaves reason.Full) k = k
    over_fits stopped ms (Leaves reason.Unread) k = k
    over_fits stopped ms (Leaves reason.SentWhole) k = k
    over_fits stopped ms (Leaves reason.SendFailed) k = k
    over_fits stopped ms (Leaves reason.NoMemory) k = k
    over_fits stopped ms (Leaves reason.Starved) k = record {
      starved = record {
        lacks = lacks_again R p open_round c (Some stopped) [] k.starved.lacks (k.early refl);
        untried = refl;
        alone = λ why x. k.starved.alone why (sym (over_closes stopped (made open_round c) why) ∙ x);
      };
      early = λ n. cc;
    }

    -- it has it offered its bytes
    called_sits : (ms : List (Move A)) → Sits R K p open_round c ms s told box → Sits R K p (over_round true) c ms (woken s) told box
    called_sits ms h =
        sits_as R K p (over_round true) c ms (woken s) told box s.disposition refl h.rest_there h.opening h.up h.low
        (λ e. let k = h.keeping e in
        record {
          rest_is = k.rest_is;
          asked_all = k.asked_all;
          whole = k.whole;
          knows = k.knows;
          unclosed = λ why x. k.unclosed why (sym (over_closes true ms why) ∙ x);
          owed = λ _. (
            refl,
            or_left (calls r0.event c || true) (nat_lt (length (answer_bytes R p.moves)) (length (answer_bytes R (ms ++ p.moves))) || R.refuses (after open_round c p).given) (or_right (calls r0.event c) true refl),
          );
          nothing_due = λ q. clash q;
        })
        (over_fits true ms s.disposition h.disposition_fits) h.asked_all

    -- or not
    over_sits : (ms : List (Move A)) → Sits R K p open_round c ms s told box → Sits R K p (over_round false) c ms s told box
    over_sits ms h =
        sits_as R K p (over_round false) c ms s told box s.disposition refl h.rest_there h.opening h.up h.low
        (λ e. let k = h.keeping e in
        record {
          rest_is = k.rest_is;
          asked_all = k.asked_all;
          whole = k.whole;
          knows = k.knows;
          unclosed = λ why x. k.unclosed why (sym (over_closes false ms why) ∙ x);
          owed = k.owed;
          nothing_due = k.nothing_due;
        })
        (over_fits false ms s.disposition h.disposition_fits) h.asked_all

  fits_over : (rs : List (FrontRound A)) (r0 : FrontRound A) (gs : List Gathered) (stopped : Bool) → RoundFits R rs (collecting gs r0) → RoundFits R rs (offering stopped [] (collecting gs r0))
  fits_over rs r0 gs stopped f = record {
    follows = f.follows;
    begins = f.begins;
    room = f.room;
    asks = f.asks;
    fits = f.fits;
    order = λ n. cc;
    sends = tt;
    left = tt;
  }

  pub through_empty : (e : PortEvent) (start : Option PortsTold) (w : World T) (mine' : List Entry) → CanCollect R K e start w
      → mine' ≡ w.mine ++ Collect R.number collected.Empty ∷ [] → CanOffer R K e false start (record w { mine = mine' })
  through_empty e start w mine' h m =
      let st = h.makes.stands in
      record {
        rounds = h.rounds;
        round = collecting h.replies h.round;
        sends = [];
        event_is = h.event_is;
        makes = record {
          stands = record {
            are_told = record {
              entries = m ∙ ap (λ es. es ++ Collect R.number collected.Empty ∷ []) st.are_told.entries;
              telling = st.are_told.telling;
              coming = st.are_told.coming;
              sound = (fits_over h.rounds h.round h.replies false st.are_told.sound.0, st.are_told.sound.1);
              counted = st.are_told.counted;
            };
            conns_are = st.conns_are;
            keys_are = st.keys_are;
            apart = st.apart;
          };
          each = each_weaker (λ (s : Session T). Sits R K (before h.rounds h.round s.conn) (collecting h.replies h.round) s.conn (made (collecting h.replies h.round) s.conn) s w.told w.box)
              (λ (s : Session T). Sits R K (before h.rounds h.round s.conn) (offering false [] (collecting h.replies h.round)) s.conn (made (collecting h.replies h.round) s.conn) s w.told w.box) w.sessions
              (λ x q. over_sits (before h.rounds h.round x.conn) h.round h.replies x.conn x w.told w.box (made (collecting h.replies h.round) x.conn) q) h.makes.each;
        };
      }

  pub through_stopped : (e : PortEvent) (start : Option PortsTold) (w : World T) (mine' : List Entry) → CanCollect R K e start w
      → mine' ≡ w.mine ++ Collect R.number collected.Stopped ∷ [] → CanOffer R K e true start (record w { mine = mine'; sessions = map woken w.sessions })
  through_stopped e start w mine' h m =
      let st = h.makes.stands in
      record {
        rounds = h.rounds;
        round = collecting h.replies h.round;
        sends = [];
        event_is = h.event_is;
        makes = record {
          stands = record {
            are_told = record {
              entries = m ∙ ap (λ es. es ++ Collect R.number collected.Stopped ∷ []) st.are_told.entries;
              telling = st.are_told.telling;
              coming = st.are_told.coming;
              sound = (fits_over h.rounds h.round h.replies true st.are_told.sound.0, st.are_told.sound.1);
              counted = st.are_told.counted;
            };
            conns_are = conns_woken w.sessions ∙ st.conns_are;
            keys_are = st.keys_are;
            apart = subst Apart (sym (conns_woken w.sessions)) st.apart;
          };
          each = each_woken (λ (s : Session T). Sits R K (before h.rounds h.round s.conn) (collecting h.replies h.round) s.conn (made (collecting h.replies h.round) s.conn) s w.told w.box)
              (λ (s : Session T). Sits R K (before h.rounds h.round s.conn) (offering true [] (collecting h.replies h.round)) s.conn (made (collecting h.replies h.round) s.conn) s w.told w.box) w.sessions
              (λ x q. called_sits (before h.rounds h.round x.conn) h.round h.replies x.conn x w.told w.box (made (collecting h.replies h.round) x.conn) q) h.makes.each;
        };
      }
