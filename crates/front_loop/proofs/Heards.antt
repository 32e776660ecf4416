-- One session, as a piece is heard on it.
use Rattle.std.proofs.Common.{◌≡◌, ◌==◌, ◌<◌, ◌≤◌, ◌+◌, ℕ, Bool, true, false, ◌||◌, cond, List, [], ◌∷◌, ◌++◌, length, Option, refl, sym, ap, subst, ◌∙◌, arith, nat_lt, length-append}
use Rattle.std.specs.List.{list_any}
use Rattle.std.proofs.lemmas.Bool.{lt-ltb, le-ltb}
use Rattle.farm_base.specs.Limits.{most_rest_bytes}
use Rattle.reactor_ports.specs.declared.events.PortEvent.TheVariants as event
use Rattle.reactor_ports.specs.Told.{PortsTold, IsOpen}
use Rattle.reactor_ports.specs.Boxes.{put_rest, HasRest, rest_in, rest_of}
use Rattle.farm_history.specs.Entries.{Entry}
use Rattle.front_loop.specs.declared.dispositions.Disposition.{Disposition}
use Rattle.front_loop.specs.declared.dispositions.Disposition.TheVariants.{Stays, Leaves}
use Rattle.front_loop.specs.declared.dispositions.Reason.{Reason}
use Rattle.front_loop.specs.declared.dispositions.Reason.TheVariants as reason
use Rattle.front_loop.specs.declared.sessions.Session.{Session}
use Rattle.front_loop.specs.Rules.{Rules, Move, Does, is_cut, wants_of, answer_bytes, each_whole, any_starves}
use Rattle.front_loop.specs.Rounds.{FrontRound, in_turn}
use Rattle.front_loop.specs.Conns.{Standing, InHearing, made, after, closes}
use Rattle.front_loop.specs.Front.{keeps, does, HeardWhy, Heard}
use Rattle.front_loop.specs.inner.Sessions.{is_up, is_unread, owing}
use Rattle.front_loop.specs.inner.Stands.{untaken, has_reason, AllAsked, StarvesNow, DispositionFits, Keeping, Sits, Waits}
use Rattle.front_loop.specs.inner.Stages.{begun, Settles, Passes, Holds, Overflows, Starves, HearsOne}
use Rattle.front_loop.proofs.Tables.{same, other}
use Rattle.front_loop.proofs.Rests.{at_put}
use Rattle.front_loop.proofs.Sitting.{clash, grew_by, each_is, each_split, whole_asked, text_grows, due_grows, within, beyond, starves_now, sits_as}

pub holds_rest : (box : List (ℕ × List ℕ)) (c : ℕ) (r : List ℕ) → HasRest box c → rest_in (put_rest box c r) c ≡ r
holds_rest box c r h = ap rest_of (at_put box c r h)

module _ {A W : Type 0} (R : Rules A W) where
  -- the moves of requests, of which all are of the connection or none
  pub made_by : (b : Bool) (acts : List A) → in_turn (λ a ms. cond b (Does a ∷ ms) ms) acts [] ≡ cond b (does acts) []
  made_by true [] = refl
  made_by true (a ∷ acts) = ap (λ ms. Does a ∷ ms) (made_by true acts)
  made_by false [] = refl
  made_by false (a ∷ acts) = made_by false acts

  pub made_here : (c : ℕ) (piece : List ℕ) (acts : List A) → made (begun (event.Bytes c) piece false acts) c ≡ does acts
  made_here c piece acts = made_by (c == c) acts ∙ ap (λ b. cond b (does acts) []) (same c)

  pub made_there : (c d : ℕ) (piece : List ℕ) (acts : List A) → (c ≡ d → ⊥) → made (begun (event.Bytes c) piece false acts) d ≡ []
  made_there c d piece acts n = made_by (c == d) acts ∙ ap (λ b. cond b (does acts) []) (other c d n)

  -- requests are no replies that were cut
  uncut : (acts : List A) → list_any is_cut (does acts) ≡ false
  uncut [] = refl
  uncut (a ∷ acts) = uncut acts

  -- no entry of requests that keep their session says that memory is wanting
  unstarved : (given : List ℕ) (acts : List A) (f : Disposition) → keeps f ≡ true → HeardWhy R given (does acts) f → any_starves R (does acts) ≡ false
  unstarved given acts Stays k w = w.1
  unstarved given acts (Leaves reason.Unread) k w = w.1
  unstarved given acts (Leaves reason.NoMemory) k w = clash (sym k)
  unstarved given acts (Leaves reason.Starved) k w = clash (sym k)
  unstarved given acts (Leaves reason.Ended) k w = clash (sym k)
  unstarved given acts (Leaves reason.Lost) k w = clash (sym k)
  unstarved given acts (Leaves reason.Cut) k w = clash (sym k)
  unstarved given acts (Leaves reason.Full) k w = clash (sym k)
  unstarved given acts (Leaves reason.SentWhole) k w = clash (sym k)
  unstarved given acts (Leaves reason.SendFailed) k w = clash (sym k)

module _ {A W T : Type 0} (R : Rules A W) (K : List ℕ → List (Move A) → T → Type 0) where
  -- all that is known as a piece was heard on the session of this connection, of which this stood
  record Hear (c : ℕ) (piece : List ℕ) (q : Standing A) (acts : List A) (s' : Session T) (told : Option PortsTold) (box : List (ℕ × List ℕ)) (response : List ℕ) (f : Disposition) : Type 0 where
    has : HasRest box c
    op : IsOpen c told
    low : q.took ≤ length (answer_bytes R q.moves)
    rest_is : rest_in box c ≡ untaken R q
    why : HeardWhy R (q.given ++ piece) (does acts) f
    response_is : keeps f ≡ true → answer_bytes R (does acts ++ q.moves) ≡ answer_bytes R q.moves ++ response
    asked_is : keeps f ≡ true → R.wanted (q.given ++ piece) (wants_of R (does acts ++ q.moves))
    whole : keeps f ≡ true → each_whole R (does acts ++ q.moves) ≡ true
    knows : keeps f ≡ true → K (q.given ++ piece) (does acts ++ q.moves) s'.conn_state
    owes : s'.owes ≡ owing false response f

  module _ (c : ℕ) (piece : List ℕ) (q : Standing A) (acts : List A) (s' : Session T) (told : Option PortsTold) (box : List (ℕ × List ℕ)) (response : List ℕ) where
    abbrev r : FrontRound A
    r = begun (event.Bytes c) piece false acts

    abbrev ms : List (Move A)
    ms = does acts

    given_is : (after r c q).given ≡ q.given ++ piece
    given_is = ap (λ b. cond b (q.given ++ piece) q.given) (same c)

    low_then : q.took ≤ length (answer_bytes R q.moves) → (after r c q).took ≤ length (answer_bytes R (ms ++ q.moves))
    low_then low = let more = text_grows R ms q.moves in omega (arith, more, low)

    -- there is a reason to offer bytes exactly where the session owes that
    reason_owes : (f : Disposition) → answer_bytes R (ms ++ q.moves) ≡ answer_bytes R q.moves ++ response → R.refuses (q.given ++ piece) ≡ is_unread f
        → has_reason R q r c ms ≡ owing false response f
    reason_owes f e u =
        ap (λ (n : ℕ). nat_lt (length (answer_bytes R q.moves)) n || R.refuses (after r c q).given) (ap length e ∙ length-append (answer_bytes R q.moves) response)
        ∙ ap (λ b. b || R.refuses (after r c q).given) (grew_by (length (answer_bytes R q.moves)) (length response))
        ∙ ap (λ b. nat_lt 0 (length response) || b) (ap R.refuses given_is ∙ u)

    all_then : (f : Disposition) → keeps f ≡ true → Hear c piece q acts s' told box response f → AllAsked R q r c ms
    all_then f k h =
        (subst (λ g. R.wanted g (wants_of R (ms ++ q.moves))) (sym given_is) (h.asked_is k), each_is R q.moves (each_split R ms q.moves (h.whole k)), whole_asked R false ms q.moves (h.whole k))

    -- nothing closes it but what may stand in its bytes
    only_unread : any_starves R ms ≡ false → length (answer_bytes R (ms ++ q.moves)) ≤ q.took + most_rest_bytes → (why : Reason) → closes R q r c ms why ≡ true → why ≡ reason.Unread
    only_unread n l reason.Unread x = refl
    only_unread n l reason.Ended x = clash (sym x)
    only_unread n l reason.Lost x = clash (sym x)
    only_unread n l reason.Cut x = clash (sym x ∙ uncut R acts)
    only_unread n l reason.Full x = clash (sym x ∙ le-ltb (q.took + most_rest_bytes) (length (answer_bytes R (ms ++ q.moves))) l)
    only_unread n l reason.SentWhole x = clash (sym x)
    only_unread n l reason.SendFailed x = clash (sym x)
    only_unread n l reason.NoMemory x = clash (sym x ∙ n)
    only_unread n l reason.Starved x = clash (sym x)

    keeping_then : (f : Disposition) (rest : List ℕ) → Hear c piece q acts s' told box response f → keeps f ≡ true → R.refuses (q.given ++ piece) ≡ is_unread f
        → rest ≡ rest_in box c ++ response → length (answer_bytes R (ms ++ q.moves)) ≤ q.took + most_rest_bytes → Keeping R K q r c ms s' rest
    keeping_then f rest h k u e short =
        let is = reason_owes f (h.response_is k) u in
        record {
          rest_is = e ∙ ap (λ xs. xs ++ response) h.rest_is ∙ sym (due_grows R q.took (answer_bytes R q.moves) response (answer_bytes R (ms ++ q.moves)) h.low (h.response_is k));
          asked_all = (all_then f k h).0;
          whole = h.whole k;
          knows = subst (λ g. K g (ms ++ q.moves) s'.conn_state) (sym given_is) (h.knows k);
          unclosed = only_unread (unstarved R (q.given ++ piece) acts f k h.why) short;
          owed = λ o. (refl, is ∙ sym h.owes ∙ o);
          nothing_due = λ o m t. clash (sym m ∙ is ∙ sym h.owes ∙ o);
        }

    starving : any_starves R ms ≡ false → StarvesNow R q r c
    starving n = starves_now R q r c (InHearing (same c)) (λ _. tt) refl refl refl (ap (any_starves R) (made_here R c piece acts) ∙ n)

    heard_passes : (f : Disposition) → Hear c piece q acts s' told box response f → keeps f ≡ false → s'.disposition ≡ f → Sits R K q r c ms s' told box
    heard_passes (Leaves reason.NoMemory) h k e =
        sits_as R K q r c ms s' told box (Leaves reason.NoMemory) e h.has (λ _. h.op) refl (low_then h.low) (λ x. clash (sym x)) h.why (λ x. clash (sym x))
    heard_passes (Leaves reason.Starved) h k e =
        sits_as R K q r c ms s' told box (Leaves reason.Starved) e h.has (λ _. h.op) refl (low_then h.low) (λ x. clash (sym x)) (starving h.why) (λ x. clash (sym x))
    heard_passes Stays h k e = clash k
    heard_passes (Leaves reason.Unread) h k e = clash k
    heard_passes (Leaves reason.Ended) h k e = absurd h.why
    heard_passes (Leaves reason.Lost) h k e = absurd h.why
    heard_passes (Leaves reason.Cut) h k e = absurd h.why
    heard_passes (Leaves reason.Full) h k e = absurd h.why
    heard_passes (Leaves reason.SentWhole) h k e = absurd h.why
    heard_passes (Leaves reason.SendFailed) h k e = absurd h.why

    short_is : (f : Disposition) → Hear c piece q acts s' told box response f → keeps f ≡ true → length (rest_in box c ++ response) ≤ most_rest_bytes
        → length (answer_bytes R (ms ++ q.moves)) ≤ q.took + most_rest_bytes
    short_is f h k l = within R q.took (answer_bytes R q.moves) response (answer_bytes R (ms ++ q.moves)) h.low (h.response_is k)
        (subst (λ (xs : List ℕ). length (xs ++ response) ≤ most_rest_bytes) h.rest_is l)

    abbrev box_then : List (ℕ × List ℕ)
    box_then = put_rest box c (rest_in box c ++ response)

    holds_by : (f : Disposition) → Hear c piece q acts s' told box response f → keeps f ≡ true → R.refuses (q.given ++ piece) ≡ is_unread f → s'.disposition ≡ f
        → length (rest_in box c ++ response) ≤ most_rest_bytes → DispositionFits R q r c ms f → is_up f ≡ true → Sits R K q r c ms s' told box_then
    holds_by f h k u e l fits up =
        sits_as R K q r c ms s' told box_then f e (rest_in box c ++ response, at_put box c (rest_in box c ++ response) h.has) (λ _. h.op) (sym up) (low_then h.low)
        (λ _. keeping_then f (rest_in box_then c) h k u (holds_rest box c (rest_in box c ++ response) h.has) (short_is f h k l)) fits (λ _. all_then f k h)

    heard_holds : (f : Disposition) → Hear c piece q acts s' told box response f → keeps f ≡ true → s'.disposition ≡ f → length (rest_in box c ++ response) ≤ most_rest_bytes
        → Sits R K q r c ms s' told box_then
    heard_holds Stays h k e l = holds_by Stays h refl h.why.0 e l calm refl
      where
        calm : (why : Reason) → closes R q r c ms why ≡ false
        calm reason.Unread = ap R.refuses given_is ∙ h.why.0
        calm reason.Ended = refl
        calm reason.Lost = refl
        calm reason.Cut = uncut R acts
        calm reason.Full = le-ltb (q.took + most_rest_bytes) (length (answer_bytes R (ms ++ q.moves))) (short_is Stays h refl l)
        calm reason.SentWhole = refl
        calm reason.SendFailed = refl
        calm reason.NoMemory = h.why.1
        calm reason.Starved = refl
    heard_holds (Leaves reason.Unread) h k e l = holds_by (Leaves reason.Unread) h refl h.why.0 e l (ap R.refuses given_is ∙ h.why.0) refl
    heard_holds (Leaves reason.NoMemory) h k e l = clash (sym k)
    heard_holds (Leaves reason.Starved) h k e l = clash (sym k)
    heard_holds (Leaves reason.Ended) h k e l = clash (sym k)
    heard_holds (Leaves reason.Lost) h k e l = clash (sym k)
    heard_holds (Leaves reason.Cut) h k e l = clash (sym k)
    heard_holds (Leaves reason.Full) h k e l = clash (sym k)
    heard_holds (Leaves reason.SentWhole) h k e l = clash (sym k)
    heard_holds (Leaves reason.SendFailed) h k e l = clash (sym k)

    heard_full : (f : Disposition) → Hear c piece q acts s' told box response f → keeps f ≡ true → s'.disposition ≡ Leaves reason.Full → most_rest_bytes < length (rest_in box c ++ response)
        → Sits R K q r c ms s' told box
    heard_full f h k e l =
        let long = beyond R q.took (answer_bytes R q.moves) response (answer_bytes R (ms ++ q.moves)) h.low (h.response_is k)
        (subst (λ (xs : List ℕ). most_rest_bytes < length (xs ++ response)) h.rest_is l) in
        sits_as R K q r c ms s' told box (Leaves reason.Full) e h.has (λ _. h.op) refl (low_then h.low) (λ x. clash (sym x))
        (lt-ltb (q.took + most_rest_bytes) (length (answer_bytes R (ms ++ q.moves))) long) (λ x. clash (sym x))

    heard_starves : (f : Disposition) → Hear c piece q acts s' told box response f → keeps f ≡ true → s'.disposition ≡ Leaves reason.Starved → Sits R K q r c ms s' told box
    heard_starves f h k e =
        sits_as R K q r c ms s' told box (Leaves reason.Starved) e h.has (λ _. h.op) refl (low_then h.low) (λ x. clash (sym x))
        (starving (unstarved R (q.given ++ piece) acts f k h.why)) (λ x. clash (sym x))

    heard_by : (box' : List (ℕ × List ℕ)) (f f' : Disposition) → Hear c piece q acts s' told box response f → s'.disposition ≡ f' → Settles c response f f' box box'
        → Sits R K q r c ms s' told box'
    heard_by box' f f' h e (Passes k x b) = subst (Sits R K q r c ms s' told) (sym b) (heard_passes f h k (e ∙ x))
    heard_by box' f f' h e (Holds k x b l) = subst (Sits R K q r c ms s' told) (sym b) (heard_holds f h k (e ∙ x) l)
    heard_by box' f f' h e (Overflows k x b l) = subst (Sits R K q r c ms s' told) (sym b) (heard_full f h k (e ∙ x) l)
    heard_by box' f f' h e (Starves k x b l) = subst (Sits R K q r c ms s' told) (sym b) (heard_starves f h k (e ∙ x))

  -- what was heard on a session that waited
  pub heard_of : (q : Standing A) (s s' : Session T) (piece : List ℕ) (mine mine' : List Entry) (told : Option PortsTold) (box box' : List (ℕ × List ℕ)) → Waits R K q s told box
      → (h : HearsOne R K piece mine mine' s s' box box') → Heard R K s.conn piece mine mine' s'.conn_state h.response h.disposition q.given q.moves
  heard_of q s s' piece mine mine' told box box' w h = h.heard q.given q.moves w.knows w.asked_all w.whole w.read

  pub heard_sits : (q : Standing A) (s s' : Session T) (piece : List ℕ) (mine mine' : List Entry) (told told' : Option PortsTold) (box box' : List (ℕ × List ℕ)) → (w : Waits R K q s told box)
      → (IsOpen s.conn told → IsOpen s.conn told') → (h : HearsOne R K piece mine mine' s s' box box')
      → Sits R K q (begun (event.Bytes s.conn) piece false (heard_of q s s' piece mine mine' told box box' w h).acts) s.conn (does (heard_of q s s' piece mine mine' told box box' w h).acts) s' told' box'
  heard_sits q s s' piece mine mine' told told' box box' w o h =
      let hd = heard_of q s s' piece mine mine' told box box' w h in
      heard_by s.conn piece q hd.acts s' told' box h.response box' h.disposition s'.disposition
      (record {
        has = w.rest_there;
        op = o w.opening;
        low = w.low;
        rest_is = w.rest_is;
        why = hd.why;
        response_is = hd.response_is;
        asked_is = hd.asked_is;
        whole = hd.whole;
        knows = hd.knows;
        owes = h.owes ∙ ap (λ b. owing b h.response h.disposition) w.rested.1;
      })
      refl h.settles
