-- One session, as a round begins and as nothing happens to it.
use Rattle.std.proofs.Common.{◌≡◌, ◌==◌, ◌<◌, ◌≤◌, ◌+◌, ℕ, Bool, true, false, not, ◌&&◌, ◌||◌, cond, List, [], ◌∷◌, ◌++◌, length, drop, Option, Some, None, option_map, refl, sym, ap, subst, ◌∙◌, arith, nat_lt, length-append, inl, inr, ◌⊎◌}
use Rattle.std.specs.Prelude.{nat_le, unwrap_or}
use Rattle.std.specs.Option.{is_none}
use Rattle.std.specs.List.{list_any}
use Rattle.std.proofs.lemmas.Bool.{lt-ltb, le-ltb, ltb-false, or_parts, and_parts, or_right}
use Rattle.std.proofs.lemmas.Bool.Decides.{nat_tests}
use Rattle.std.proofs.lemmas.List.{drop-append-le, length-drop}
use Rattle.farm_base.specs.Limits.{most_rest_bytes}
use Rattle.reactor_ports.specs.declared.events.PortEvent.{PortEvent}
use Rattle.reactor_ports.specs.Told.{PortsTold, IsOpen}
use Rattle.reactor_ports.specs.Boxes.{rest_at, HasRest, rest_in, rest_of}
use Rattle.front_loop.specs.declared.dispositions.Disposition.{Disposition}
use Rattle.front_loop.specs.declared.dispositions.Disposition.TheVariants.{Stays, Leaves}
use Rattle.front_loop.specs.declared.dispositions.Reason.{Reason}
use Rattle.front_loop.specs.declared.dispositions.Reason.TheVariants as reason
use Rattle.front_loop.specs.declared.sessions.Session.{Session}
use Rattle.front_loop.specs.Rules.{EachSoFar, Rules, Move, is_cut, wants_of, answer_bytes, each_whole}
use Rattle.front_loop.specs.Rounds.{Gathered, Send, Departure, FrontRound, in_turn}
use Rattle.front_loop.specs.Conns.{Standing, ends_at, loses, calls, brings, is_tried, send_fails, made, after, is_open, closes, Unclosed, MayLack, InHearing, AtReply, AtOffer, Kept}
use Rattle.front_loop.specs.RoundRules.{IsStarved}
use Rattle.front_loop.specs.Front.{keeps}
use Rattle.front_loop.specs.inner.Sessions.{is_up, asks_all, woken}
use Rattle.front_loop.specs.inner.Stands.{IsAtRest, IsEarly, StarvesNow, has_reason, AllAsked, DispositionFits, Keeping, Sits, Waits}
use Rattle.front_loop.specs.inner.Stages.{begun}

pub clash : {X : Type 0} → true ≡ false → X
clash h = cc

pub or_none : (b c : Bool) → b ≡ false → c ≡ false → (b || c) ≡ false
or_none true c h k = clash h
or_none false c h k = k

pub or_more : (a b b' : Bool) → (b ≡ true → b' ≡ true) → (a || b) ≡ true → (a || b') ≡ true
or_more true b b' f h = refl
or_more false b b' f h = f h

pub or_less : (a b b' : Bool) → (b ≡ true → b' ≡ true) → (b || a) ≡ true → (b' || a) ≡ true
or_less a true b' f h = ap (λ b. b || a) (f refl)
or_less true false true f h = refl
or_less true false false f h = refl
or_less false false b' f h = clash (sym h)

pub or_left : (a b : Bool) → a ≡ true → (a || b) ≡ true
or_left true b h = refl
or_left false b h = clash (sym h)

-- what is told of one connection stays
pub open_map : (o : Option PortsTold) (f : PortsTold → PortsTold) (c : ℕ) → ((t : PortsTold) → (f t).is_open c ≡ t.is_open c) → IsOpen c o → IsOpen c (option_map f o)
open_map None f c h i = tt
open_map (Some t) f c h i = h t ∙ i

not_less : (n : ℕ) → nat_lt n n ≡ false
not_less n = le-ltb n n (omega arith)

pub grew_by : (n k : ℕ) → nat_lt n (n + k) ≡ nat_lt 0 k
grew_by n k = grind (arith, nat_tests)

pub no_response : (response : List ℕ) → nat_lt 0 (length response) ≡ false → response ≡ []
no_response [] h = refl
no_response (b ∷ response) h = clash (sym (lt-ltb 0 (length (b ∷ response)) (omega arith)) ∙ h)

-- how many bytes of a connection were taken after these sends
abbrev pub took_after : List Send → ℕ → ℕ → ℕ
took_after sends c n = in_turn (λ (s : Send) n. cond (s.conn == c) (n + unwrap_or s.taken 0) n) sends n

pub untried_took : (sends : List Send) (c n : ℕ) → is_tried sends c ≡ false → took_after sends c n ≡ n
untried_took [] c n h = refl
untried_took (s ∷ ss) c n h =
    let o = or_parts (s.conn == c) (is_tried ss c) h in
    ap (λ b. cond b (took_after ss c n + unwrap_or s.taken 0) (took_after ss c n)) o.0 ∙ untried_took ss c n o.1

pub untried_failed : (sends : List Send) (c : ℕ) → is_tried sends c ≡ false → send_fails sends c ≡ false
untried_failed [] c h = refl
untried_failed (s ∷ ss) c h =
    let o = or_parts (s.conn == c) (is_tried ss c) h in
    ap (λ b. (b && is_none s.taken) || send_fails ss c) o.0 ∙ untried_failed ss c o.1

took_by : (b : Bool) (n m k : ℕ) → n ≤ m → n ≤ cond b (m + k) m
took_by true n m k l = omega (arith, l)
took_by false n m k l = l

pub took_more : (sends : List Send) (c n : ℕ) → n ≤ took_after sends c n
took_more [] c n = omega arith
took_more (s ∷ ss) c n = took_by (s.conn == c) n (took_after ss c n) (unwrap_or s.taken 0) (took_more ss c n)

module _ {A W : Type 0} (R : Rules A W) where
  pub each_is : (ms : List (Move A)) → each_whole R ms ≡ true → EachSoFar (λ ns m. R.whole ns m ≡ true) ms
  each_is [] h = tt
  each_is (m ∷ ms) h = let a = and_parts (R.whole ms m) (each_whole R ms) h in (a.0, each_is ms a.1)

  pub each_split : (ms old : List (Move A)) → each_whole R (ms ++ old) ≡ true → each_whole R old ≡ true
  each_split [] old h = h
  each_split (m ∷ ms) old h = each_split ms old (and_parts (R.whole (ms ++ old) m) (each_whole R (ms ++ old)) h).1

  -- where all are whole, none lacks an entry
  pub whole_asked : (over : Bool) (ms old : List (Move A)) → each_whole R (ms ++ old) ≡ true
      → EachSoFar (λ ns m. (over || (list_any is_cut (m ∷ ns) || R.whole (ns ++ old) m)) ≡ true) ms
  whole_asked over [] old h = tt
  whole_asked over (m ∷ ms) old h =
      let a = and_parts (R.whole (ms ++ old) m) (each_whole R (ms ++ old)) h in
      (or_right over (list_any is_cut (m ∷ ms) || R.whole (ms ++ old) m) (or_right (list_any is_cut (m ∷ ms)) (R.whole (ms ++ old) m) a.0), whole_asked over ms old a.1)

  -- more is answered by more moves
  pub text_grows : (ms old : List (Move A)) → length (answer_bytes R old) ≤ length (answer_bytes R (ms ++ old))
  text_grows [] old = omega arith
  text_grows (m ∷ ms) old =
      let more = text_grows ms old in
      let e = length-append (answer_bytes R (ms ++ old)) (R.says (ms ++ old) m) in
      omega (arith, more, e)

  -- the rest grows by what is said
  pub due_grows : (took : ℕ) (before response now : List ℕ) → took ≤ length before → now ≡ before ++ response → drop took now ≡ drop took before ++ response
  due_grows took before response now l e = ap (drop took) e ∙ drop-append-le took before response l

  -- a rest within its limit
  pub within : (took : ℕ) (before response now : List ℕ) → took ≤ length before → now ≡ before ++ response → length (drop took before ++ response) ≤ most_rest_bytes
      → length now ≤ took + most_rest_bytes
  within took before response now l e h =
      let a = length-append (drop took before) response in
      let b = length-drop took before in
      let c = ap length e ∙ length-append before response in
      omega (arith, a, b, c, h, l)

  pub beyond : (took : ℕ) (before response now : List ℕ) → took ≤ length before → now ≡ before ++ response → most_rest_bytes < length (drop took before ++ response)
      → took + most_rest_bytes < length now
  beyond took before response now l e h =
      let a = length-append (drop took before) response in
      let b = length-drop took before in
      let c = ap length e ∙ length-append before response in
      omega (arith, a, b, c, h, l)

  -- ---- what closes a connection

  -- what closes it is no matter of the lists that have grown but of its moves and of the sends
  pub closes_again : (p : Standing A) (r : FrontRound A) (c : ℕ) (acts : List A) (gs : List Gathered) (last : Option Bool) (left : List Departure) (ms : List (Move A)) (why : Reason)
      → closes R p (record r { acts = acts; replies = gs; last = last; left = left }) c ms why ≡ closes R p r c ms why
  closes_again p r c acts gs last left ms reason.Ended = refl
  closes_again p r c acts gs last left ms reason.Lost = refl
  closes_again p r c acts gs last left ms reason.Cut = refl
  closes_again p r c acts gs last left ms reason.Full = refl
  closes_again p r c acts gs last left ms reason.Unread = refl
  closes_again p r c acts gs last left ms reason.SentWhole = refl
  closes_again p r c acts gs last left ms reason.SendFailed = refl
  closes_again p r c acts gs last left ms reason.NoMemory = refl
  closes_again p r c acts gs last left ms reason.Starved = refl

  none_by : (b : Bool) (why : Reason) → (b ≡ true → why ≡ reason.Unread) → (why ≡ reason.Unread → ⊥) → b ≡ false
  none_by true why u n = absurd (n (u refl))
  none_by false why u n = refl

  pub unclosed_is : (p : Standing A) (r : FrontRound A) (c : ℕ) (ms : List (Move A)) (why : Reason) → Unclosed R p r c ms → (why ≡ reason.Unread → ⊥) → closes R p r c ms why ≡ false
  unclosed_is p r c ms why u n = none_by (closes R p r c ms why) why (u why) n

  pub unclosed_calm : (p : Standing A) (r : FrontRound A) (c : ℕ) (ms : List (Move A)) → Unclosed R p r c ms → R.refuses (after r c p).given ≡ false → (why : Reason) → closes R p r c ms why ≡ false
  unclosed_calm p r c ms u n reason.Unread = n
  unclosed_calm p r c ms u n reason.Ended = unclosed_is p r c ms reason.Ended u (λ q. cc)
  unclosed_calm p r c ms u n reason.Lost = unclosed_is p r c ms reason.Lost u (λ q. cc)
  unclosed_calm p r c ms u n reason.Cut = unclosed_is p r c ms reason.Cut u (λ q. cc)
  unclosed_calm p r c ms u n reason.Full = unclosed_is p r c ms reason.Full u (λ q. cc)
  unclosed_calm p r c ms u n reason.SentWhole = unclosed_is p r c ms reason.SentWhole u (λ q. cc)
  unclosed_calm p r c ms u n reason.SendFailed = unclosed_is p r c ms reason.SendFailed u (λ q. cc)
  unclosed_calm p r c ms u n reason.NoMemory = unclosed_is p r c ms reason.NoMemory u (λ q. cc)
  unclosed_calm p r c ms u n reason.Starved = unclosed_is p r c ms reason.Starved u (λ q. cc)

  -- where nothing closes it, nothing closes it but what may stand in its bytes
  pub calm_unclosed : (p : Standing A) (r : FrontRound A) (c : ℕ) (ms : List (Move A)) → ((why : Reason) → closes R p r c ms why ≡ false) → Unclosed R p r c ms
  calm_unclosed p r c ms k why x = clash (sym x ∙ k why)

  -- it may be left as starved
  pub starves_now : (p : Standing A) (r : FrontRound A) (c : ℕ) (lacks : MayLack R p r c) → (r.last ≡ None → IsEarly R p r c lacks) → is_tried r.sends c ≡ false
      → ends_at r.event c ≡ false → loses r.event c ≡ false → list_any R.starves (made r c) ≡ false → StarvesNow R p r c
  starves_now p r c lacks early u e l n = record {
    starved = record { lacks = lacks; untried = u; alone = alone };
    early = early;
  }
    where
      alone : (why : Reason) → closes R p r c (made r c) why ≡ true → (why ≡ reason.Cut) ⊎ ((why ≡ reason.Full) ⊎ (why ≡ reason.Unread))
      alone reason.Ended x = clash (sym x ∙ e)
      alone reason.Lost x = clash (sym x ∙ l)
      alone reason.Cut x = inl refl
      alone reason.Full x = inr (inl refl)
      alone reason.Unread x = inr (inr refl)
      alone reason.SentWhole x =
          clash (sym x ∙ ap (λ b. b && (R.ends (made r c ++ p.moves) && nat_le (length (answer_bytes R (made r c ++ p.moves))) (after r c p).took)) u)
      alone reason.SendFailed x = clash (sym x ∙ untried_failed r.sends c u)
      alone reason.NoMemory x = clash (sym x ∙ n)
      alone reason.Starved x = clash (sym x)

  -- what starves a connection starves it where a reply of another came, or another connection is left
  module _ (p : Standing A) (r : FrontRound A) (c : ℕ) (gs : List Gathered) (left : List Departure) (e : made (record r { replies = gs; left = left }) c ≡ made r c) where
    abbrev grown : FrontRound A
    grown = record r { replies = gs; left = left }

    pub closes_grown : (why : Reason) → closes R p grown c (made grown c) why ≡ true → closes R p r c (made r c) why ≡ true
    closes_grown why x = sym (closes_again p r c r.acts gs r.last left (made r c) why) ∙ (sym (ap (λ l. closes R p grown c l why) e) ∙ x)

    abbrev lacks_grown : MayLack R p r c → MayLack R p grown c
    lacks_grown (InHearing x) = InHearing x
    lacks_grown (AtReply later earlier reply behind m u k) = AtReply later earlier reply behind (e ∙ m) u (λ why x. k why (sym (closes_again p r c r.acts gs r.last left earlier why) ∙ x))
    lacks_grown (AtOffer m d k) =
        AtOffer (subst (λ l. has_reason R p grown c l ≡ true) (sym e) m) (subst (λ l. 0 < length (drop p.took (answer_bytes R (l ++ p.moves)))) (sym e) d) (λ why x. k why (closes_grown why x))

    early_grown : (l : MayLack R p r c) → IsEarly R p r c l → IsEarly R p grown c (lacks_grown l)
    early_grown (InHearing x) q = tt
    early_grown (AtReply later earlier reply behind m u k) q = tt
    early_grown (AtOffer m d k) q = absurd q

    abbrev pub starved_again : IsStarved R p r c → IsStarved R p grown c
    starved_again k = record { lacks = lacks_grown k.lacks; untried = k.untried; alone = λ why x. k.alone why (closes_grown why x) }

    pub starves_again : StarvesNow R p r c → StarvesNow R p grown c
    starves_again k = record { starved = starved_again k.starved; early = λ n. early_grown k.starved.lacks (k.early n) }

  -- memory that was wanting before was wanting still, whatever has grown
  pub lacks_again : (p : Standing A) (r : FrontRound A) (c : ℕ) (last : Option Bool) (left : List Departure) → (l : MayLack R p r c) → IsEarly R p r c l
      → MayLack R p (record r { last = last; left = left }) c
  lacks_again p r c last left (InHearing h) early = InHearing h
  lacks_again p r c last left (AtReply later earlier reply behind m u k) early =
      AtReply later earlier reply behind m u (λ why x. k why (sym (closes_again p r c r.acts r.replies last left earlier why) ∙ x))
  lacks_again p r c last left (AtOffer m d k) early = absurd early

module _ {A W T : Type 0} (R : Rules A W) (K : List ℕ → List (Move A) → T → Type 0) where
  -- a session by its disposition
  pub sits_as : (p : Standing A) (r : FrontRound A) (c : ℕ) (ms : List (Move A)) (s : Session T) (told : Option PortsTold) (box : List (ℕ × List ℕ)) (f : Disposition) → s.disposition ≡ f
      → HasRest box c → (is_up f ≡ true → IsOpen c told) → is_open r c ≡ is_up f → (after r c p).took ≤ length (answer_bytes R (ms ++ p.moves))
      → (keeps f ≡ true → Keeping R K p r c ms s (rest_in box c)) → DispositionFits R p r c ms f → (asks_all f ≡ true → AllAsked R p r c ms)
      → Sits R K p r c ms s told box
  sits_as p r c ms s told box f e rest op up low keep fits all = record {
    rest_there = rest;
    opening = λ u. op (sym (ap is_up e) ∙ u);
    up = up ∙ sym (ap is_up e);
    low = low;
    keeping = λ k. keep (sym (ap keeps e) ∙ k);
    disposition_fits = subst (DispositionFits R p r c ms) (sym e) fits;
    asked_all = λ a. all (sym (ap asks_all e) ∙ a);
  }

  -- where nothing of the session changes
  pub others : (p : Standing A) (r : FrontRound A) (c : ℕ) (ms : List (Move A)) (s : Session T) (told told' : Option PortsTold) (box box' : List (ℕ × List ℕ)) → Sits R K p r c ms s told box
      → rest_at box' c ≡ rest_at box c → (IsOpen c told → IsOpen c told') → Sits R K p r c ms s told' box'
  others p r c ms s told told' box box' h e o = record {
    rest_there = (h.rest_there.0, e ∙ h.rest_there.1);
    opening = λ u. o (h.opening u);
    up = h.up;
    low = h.low;
    keeping = λ k. subst (λ (x : Option (List ℕ)). Keeping R K p r c ms s (rest_of x)) (sym e) (h.keeping k);
    disposition_fits = h.disposition_fits;
    asked_all = h.asked_all;
  }

  -- what sits in a round sits in it where a reply of another came, or another connection is left
  pub sits_again : (p : Standing A) (r : FrontRound A) (c : ℕ) (gs : List Gathered) (left : List Departure) → made (record r { replies = gs; left = left }) c ≡ made r c
      → (ms : List (Move A)) (s : Session T) (told : Option PortsTold) (box : List (ℕ × List ℕ)) → Sits R K p r c ms s told box → Sits R K p (record r { replies = gs; left = left }) c ms s told box
  sits_again p r c gs left e ms s told box h = record {
    rest_there = h.rest_there;
    opening = h.opening;
    up = h.up;
    low = h.low;
    keeping = λ k. let x = h.keeping k in record {
      rest_is = x.rest_is;
      asked_all = x.asked_all;
      whole = x.whole;
      knows = x.knows;
      unclosed = λ why y. x.unclosed why (sym (closes_again R p r c r.acts gs r.last left ms why) ∙ y);
      owed = x.owed;
      nothing_due = x.nothing_due;
    };
    disposition_fits = fits_again s.disposition h.disposition_fits;
    asked_all = h.asked_all;
  }
    where
      fits_again : (f : Disposition) → DispositionFits R p r c ms f → DispositionFits R p (record r { replies = gs; left = left }) c ms f
      fits_again Stays k = λ why. closes_again R p r c r.acts gs r.last left ms why ∙ k why
      fits_again (Leaves reason.Ended) k = k
      fits_again (Leaves reason.Lost) k = k
      fits_again (Leaves reason.Cut) k = k
      fits_again (Leaves reason.Full) k = k
      fits_again (Leaves reason.Unread) k = k
      fits_again (Leaves reason.SentWhole) k = k
      fits_again (Leaves reason.SendFailed) k = k
      fits_again (Leaves reason.NoMemory) k = k
      fits_again (Leaves reason.Starved) k = starves_again R p r c gs left e k

  -- ---- a round begins

  -- and it brings no bytes of the connection
  module _ (e : PortEvent) (piece : List ℕ) (kept : Bool) (acts : List A) (q : Standing A) (s : Session T) (told : Option PortsTold) (box : List (ℕ × List ℕ)) (w : Waits R K q s told box)
      (b : brings e s.conn ≡ false) where
    abbrev r0 : FrontRound A
    r0 = begun e piece kept acts

    given_is : (after r0 s.conn q).given ≡ q.given
    given_is = ap (λ x. cond x (q.given ++ piece) q.given) b

    wanted_is : R.wanted (after r0 s.conn q).given (wants_of R q.moves)
    wanted_is = subst (λ g. R.wanted g (wants_of R q.moves)) (sym given_is) w.asked_all

    all_asked : AllAsked R q r0 s.conn []
    all_asked = (wanted_is, each_is R q.moves w.whole, tt)

    read : R.refuses (after r0 s.conn q).given ≡ false
    read = ap R.refuses given_is ∙ w.read

    calm : ends_at e s.conn ≡ false → loses e s.conn ≡ false → (why : Reason) → closes R q r0 s.conn [] why ≡ false
    calm n l reason.Ended = n
    calm n l reason.Lost = l
    calm n l reason.Cut = refl
    calm n l reason.Full = le-ltb (q.took + most_rest_bytes) (length (answer_bytes R q.moves)) w.small
    calm n l reason.Unread = read
    calm n l reason.SentWhole = refl
    calm n l reason.SendFailed = refl
    calm n l reason.NoMemory = refl
    calm n l reason.Starved = refl

    open_by_event : (x : Bool) → loses e s.conn ≡ x → is_open r0 s.conn ≡ not (x || false)
    open_by_event x h = ap (λ y. not (y || false)) h

    -- its event is of others
    pub sits_quiet : (told' : Option PortsTold) → (IsOpen s.conn told → IsOpen s.conn told') → calls e s.conn ≡ false → ends_at e s.conn ≡ false → loses e s.conn ≡ false → Sits R K q r0 s.conn [] s told' box
    sits_quiet told' o k n l =
        let quiet : has_reason R q r0 s.conn [] ≡ false = or_none (calls e s.conn || false) (nat_lt (length (answer_bytes R q.moves)) (length (answer_bytes R q.moves)) || R.refuses (after r0 s.conn q).given)
        (or_none (calls e s.conn) false k refl)
        (or_none (nat_lt (length (answer_bytes R q.moves)) (length (answer_bytes R q.moves))) (R.refuses (after r0 s.conn q).given) (not_less (length (answer_bytes R q.moves))) read) in
        sits_as q r0 s.conn [] s told' box Stays w.rested.0 w.rest_there (λ _. o w.opening) (open_by_event false l) w.low
        (λ _. record {
          rest_is = w.rest_is;
          asked_all = wanted_is;
          whole = w.whole;
          knows = subst (λ g. K g q.moves s.conn_state) (sym given_is) w.knows;
          unclosed = calm_unclosed R q r0 s.conn [] (calm n l);
          owed = λ x. clash (sym x ∙ w.rested.1);
          nothing_due = λ _ m t. clash (sym m ∙ quiet);
        })
        (calm n l) (λ _. all_asked)

    -- its event has it offered its bytes
    pub sits_called : (told' : Option PortsTold) → (IsOpen s.conn told → IsOpen s.conn told') → calls e s.conn ≡ true → ends_at e s.conn ≡ false → loses e s.conn ≡ false → Sits R K q r0 s.conn [] (woken s) told' box
    sits_called told' o k n l =
        sits_as q r0 s.conn [] (woken s) told' box Stays w.rested.0 w.rest_there (λ _. o w.opening) (open_by_event false l) w.low
        (λ _. record {
          rest_is = w.rest_is;
          asked_all = wanted_is;
          whole = w.whole;
          knows = subst (λ g. K g q.moves s.conn_state) (sym given_is) w.knows;
          unclosed = calm_unclosed R q r0 s.conn [] (calm n l);
          owed = λ _. (refl, or_left (calls e s.conn || false) (nat_lt (length (answer_bytes R q.moves)) (length (answer_bytes R q.moves)) || R.refuses (after r0 s.conn q).given) (or_left (calls e s.conn) false k));
          nothing_due = λ x. clash x;
        })
        (calm n l) (λ _. all_asked)

    -- its event is its Ended, or its Lost
    pub sits_ended : (told' : Option PortsTold) → (IsOpen s.conn told → IsOpen s.conn told') → ends_at e s.conn ≡ true → loses e s.conn ≡ false → Sits R K q r0 s.conn [] (record s { disposition = Leaves reason.Ended }) told' box
    sits_ended told' o n l =
        sits_as q r0 s.conn [] (record s { disposition = Leaves reason.Ended }) told' box (Leaves reason.Ended) refl w.rest_there (λ _. o w.opening) (open_by_event false l) w.low
        (λ x. clash (sym x)) n (λ _. all_asked)

    pub sits_lost : (told' : Option PortsTold) → loses e s.conn ≡ true → Sits R K q r0 s.conn [] (record s { disposition = Leaves reason.Lost }) told' box
    sits_lost told' l =
        sits_as q r0 s.conn [] (record s { disposition = Leaves reason.Lost }) told' box (Leaves reason.Lost) refl w.rest_there (λ x. clash (sym x)) (open_by_event true l) w.low
        (λ x. clash (sym x)) l (λ _. all_asked)

  -- ---- a round is over

  -- what holds of a session at rest as its round ends
  pub waits_again : (p : Standing A) (r : FrontRound A) (s : Session T) (told : Option PortsTold) (box : List (ℕ × List ℕ)) → Sits R K p r s.conn (made r s.conn) s told box → IsAtRest s
      → Waits R K (after r s.conn p) s told box
  waits_again p r s told box h rest =
      let k = h.keeping (ap keeps rest.0) in
      let calm : (why : Reason) → closes R p r s.conn (made r s.conn) why ≡ false = subst (DispositionFits R p r s.conn (made r s.conn)) rest.0 h.disposition_fits in
      let full = ltb-false (p.took + most_rest_bytes) (length (answer_bytes R (made r s.conn ++ p.moves))) (calm reason.Full) in
      let more = took_more r.sends s.conn p.took in
      record {
        rested = rest;
        rest_there = h.rest_there;
        opening = h.opening (ap is_up rest.0);
        low = h.low;
        small = omega (arith, full, more);
        rest_is = k.rest_is;
        asked_all = k.asked_all;
        whole = k.whole;
        knows = k.knows;
        read = calm reason.Unread;
      }

  pub kept_again : (p : Standing A) (r : FrontRound A) (s : Session T) (told : Option PortsTold) (box : List (ℕ × List ℕ)) → Sits R K p r s.conn (made r s.conn) s told box → IsAtRest s
      → Kept R p r s.conn
  kept_again p r s told box h rest =
      let k = h.keeping (ap keeps rest.0) in
      record {
        asked_all = k.asked_all;
        whole = each_is R (made r s.conn ++ p.moves) k.whole;
        calm = subst (DispositionFits R p r s.conn (made r s.conn)) rest.0 h.disposition_fits;
        offered = k.nothing_due rest.1;
      }
