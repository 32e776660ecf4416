-- The stages of a round: what each does to the sessions, the round that is being made, and all that is told by it.
use Rattle.std.specs.Prelude.{◌≡◌, ℕ, ◌+◌, ◌-◌, ◌^◌, ◌<◌, ◌≤◌, Bool, true, false, ◌⊎◌, cond, min, List, [], ◌∷◌, ◌++◌, length, drop, set, Option, Some, None, option_map, Ok, Err, nat_lt}
use Rattle.farm_base.specs.Limits.{most_rest_bytes, most_sessions}
use Rattle.farm_history.specs.Lists.{Each}
use Rattle.farm_history.specs.Entries.{Entry, Stop}
use Rattle.farm_history.specs.declared.queues.Reply.{Reply}
use Rattle.farm_history.specs.declared.queues.Outcome.TheVariants as outcome
use Rattle.farm_history.specs.declared.answers.Collected.{Collected}
use Rattle.farm_history.specs.declared.answers.Collected.TheVariants as collected
use Rattle.reactor_ports.specs.declared.events.PortEvent.{PortEvent}
use Rattle.reactor_ports.specs.declared.events.PortEvent.TheVariants as event
use Rattle.reactor_ports.specs.declared.events.SendFault.TheVariants as send_fault
use Rattle.reactor_ports.specs.declared.ends.FrontEnd.{FrontEnd}
use Rattle.reactor_ports.specs.declared.ends.FrontEnd.TheVariants as ended
use Rattle.reactor_ports.specs.Told.{PortsTold, Hears as HearsEvent, heard, after_send, after_close}
use Rattle.reactor_ports.specs.Boxes.{rest_in, put_rest}
use Rattle.front_loop.specs.declared.dispositions.Disposition.{Disposition}
use Rattle.front_loop.specs.declared.dispositions.Disposition.TheVariants.{Stays, Leaves}
use Rattle.front_loop.specs.declared.dispositions.Reason.{Reason}
use Rattle.front_loop.specs.declared.dispositions.Reason.TheVariants as reason
use Rattle.front_loop.specs.declared.sessions.Session.{Session}
use Rattle.front_loop.specs.declared.sessions.SessionTable.{SessionTable}
use Rattle.front_loop.specs.declared.offering.Gave.{Gave}
use Rattle.front_loop.specs.declared.offering.Gave.TheVariants as gave
use Rattle.front_loop.specs.Rules.{Rules, Move}
use Rattle.front_loop.specs.Rounds.{Gathered, Send, Departure, FrontRound, has}
use Rattle.front_loop.specs.Front.{keeps, Hears, Replies, Begins}
use Rattle.front_loop.specs.inner.Sessions.{conns, StandsAt, is_up, worse, owing, newcomer}
use Rattle.front_loop.specs.inner.Stands.{World, IsAtRest, AreTold, CanBegin, Makes}

-- how a front ends after a round
abbrev pub end_of : PortEvent → Bool → Option FrontEnd
end_of e true = Some ended.Stopped
end_of event.Finished false = Some ended.Finished
end_of _ false = None

-- the stop at a front's end, which may be worn
abbrev pub Stopping : FrontEnd → FrontEnd → List Entry → List Entry → Bool → Type 0
Stopping end end' mine mine' worn =
    ((end' ≡ end) × (mine' ≡ mine ++ Stop ∷ []))
    ⊎ ((end' ≡ ended.Worn) × (mine' ≡ mine) × (worn ≡ true))

-- what a front does at its end: it stops the farm, but where its ports finished
abbrev pub StopsAfter : FrontEnd → FrontEnd → List Entry → List Entry → Bool → Type 0
StopsAfter ended.Finished end' mine mine' worn = (end' ≡ ended.Finished) × (mine' ≡ mine)
StopsAfter end end' mine mine' worn = Stopping end end' mine mine' worn

-- a session as its Writable, its Ended or its Lost leaves it
abbrev pub marked : {T : Type 0} → PortEvent → Session T → Session T
marked (event.Writable c) s = record s { owes = true }
marked (event.Ended c) s = record s { disposition = Leaves reason.Ended }
marked (event.Lost c) s = record s { disposition = Leaves reason.Lost }
marked _ s = s

-- a round that has begun with this event, and these requests were done; true where an Opened made a session
abbrev pub begun : {A : Type 0} → PortEvent → List ℕ → Bool → List A → FrontRound A
begun e piece kept acts =
    record {
      event = e;
      piece = piece;
      kept = kept;
      acts = acts;
      replies = [];
      last = None;
      sends = [];
      left = [];
    }

-- a round in which these replies were collected so far
abbrev pub collecting : {A : Type 0} → List Gathered → FrontRound A → FrontRound A
collecting gs r = record r { replies = gs; last = None; sends = []; left = [] }

-- a round whose last Collect was answered so, and these sends were made so far
abbrev pub offering : {A : Type 0} → Bool → List Send → FrontRound A → FrontRound A
offering stopped sends r = record r { last = Some stopped; sends = sends; left = [] }

-- a round in which these connections were left so far
abbrev pub leaving : {A : Type 0} → List Departure → FrontRound A → FrontRound A
leaving ds r = record r { left = ds }

-- no session owes an offer that is kept
abbrev pub OwesNone : {T : Type 0} → Session T → Type 0
OwesNone s = keeps s.disposition ≡ true → s.owes ≡ false

-- What becomes of what was said: passed over where the bytes are not kept; put behind the rest; or there is no room,
-- or no memory.
pub data Settles (c : ℕ) (response : List ℕ) (disposition disposition' : Disposition)
    (box box' : List (ℕ × List ℕ)) : Type 0 where
  Passes : keeps disposition ≡ false → disposition' ≡ disposition → box' ≡ box
      → Settles c response disposition disposition' box box'
  Holds : keeps disposition ≡ true → disposition' ≡ disposition
      → box' ≡ put_rest box c (rest_in box c ++ response)
      → length (rest_in box c ++ response) ≤ most_rest_bytes
      → Settles c response disposition disposition' box box'
  Overflows : keeps disposition ≡ true → disposition' ≡ Leaves reason.Full → box' ≡ box
      → most_rest_bytes < length (rest_in box c ++ response)
      → Settles c response disposition disposition' box box'
  Starves : keeps disposition ≡ true → disposition' ≡ Leaves reason.Starved → box' ≡ box
      → length (rest_in box c ++ response) ≤ most_rest_bytes
      → Settles c response disposition disposition' box box'

-- What an offer does: nothing is due; some bytes are left; all were taken; it failed; or there is no memory.
abbrev pub Gives : ℕ → List ℕ → List (ℕ × List ℕ) → List (ℕ × List ℕ) → Option PortsTold
    → Option PortsTold → Gave → Type 0
Gives c rest box box' told told' gave.Nothing = (length rest ≡ 0) × (box' ≡ box) × (told' ≡ told)
Gives c rest box box' told told' gave.Part =
    (0 < length rest)
    × ((n : ℕ) × (n ≤ length rest) × (0 < length (drop n rest))
    × (box' ≡ put_rest box c (drop n rest))
    × (told' ≡ option_map (after_send c rest (Ok n)) told))
Gives c rest box box' told told' gave.All =
    (0 < length rest)
    × ((n : ℕ) × (n ≤ length rest) × (length (drop n rest) ≡ 0)
    × (box' ≡ put_rest box c (drop n rest))
    × (told' ≡ option_map (after_send c rest (Ok n)) told))
Gives c rest box box' told told' gave.Failed =
    (0 < length rest) × (box' ≡ box)
    × (told' ≡ option_map (after_send c rest (Err send_fault.Failed)) told)
Gives c rest box box' told told' gave.NoMemory =
    (0 < length rest) × (box' ≡ box)
    × (told' ≡ option_map (after_send c rest (Err send_fault.NoMemory)) told)

-- whether bytes are left after a send
abbrev pub part_or_all : List ℕ → Gave
part_or_all [] = gave.All
part_or_all (b ∷ rest) = gave.Part

-- the disposition of a session after an offer; done is whether all is answered on it that will be
abbrev pub disposition_after : Gave → Bool → Disposition → Disposition
disposition_after gave.Nothing done disposition = disposition
disposition_after gave.Part done disposition = disposition
disposition_after gave.All true disposition = Leaves reason.SentWhole
disposition_after gave.All false disposition = disposition
disposition_after gave.Failed done disposition = Leaves reason.SendFailed
disposition_after gave.NoMemory done disposition = Leaves reason.Starved

-- a connection that is left is closed, if it is still open in the ports
abbrev pub Shuts : ℕ → Reason → Option PortsTold → Option PortsTold → Type 0
Shuts c why told told' =
    (is_up (Leaves why) ≡ true → told' ≡ option_map (after_close c) told)
    × (is_up (Leaves why) ≡ false → told' ≡ told)

-- the session of the connection, if it is there, is marked, and nothing else changes
pub data MarksAt {T : Type 0} (e : PortEvent) (c : ℕ) (old new : SessionTable T) : Type 0 where
  Absent : has (conns old.sessions.items) c ≡ false → new.sessions.items ≡ old.sessions.items
      → new.answers.outbox ≡ old.answers.outbox → new.starved ≡ old.starved → MarksAt e c old new
  Marks : (i : ℕ) (s : Session T) → StandsAt old.sessions.items i s → s.conn ≡ c
      → new.sessions.items ≡ set old.sessions.items i (marked e s)
      → new.answers.outbox ≡ old.answers.outbox → new.starved ≡ old.starved → MarksAt e c old new

module _ {A W T : Type 0} (R : Rules A W) (K : List ℕ → List (Move A) → T → Type 0) where
  -- a piece is heard on a session that stays
  pub record HearsOne (piece : List ℕ) (mine mine' : List Entry) (s s' : Session T)
      (box box' : List (ℕ × List ℕ)) : Type 0 where
    pub response : List ℕ
    pub disposition : Disposition
    pub heard : Hears R K s.conn piece mine mine' s.conn_state s'.conn_state response disposition
    pub settles : Settles s.conn response disposition s'.disposition box box'
    pub owes : s'.owes ≡ owing s.owes response disposition
    pub conn : s'.conn ≡ s.conn

  -- a reply is answered on a session whose bytes are kept
  pub record AnswersOne (reply : Reply) (mine mine' : List Entry) (s s' : Session T)
      (box box' : List (ℕ × List ℕ)) : Type 0 where
    pub response : List ℕ
    pub disposition : Disposition
    pub replied : Replies R K reply mine mine' s.conn_state s'.conn_state response disposition
    pub settles : Settles s.conn response (worse s.disposition disposition) s'.disposition box box'
    pub owes : s'.owes ≡ owing s.owes response Stays
    pub conn : s'.conn ≡ s.conn

  -- a reply comes for a session: it is passed over, ends the session, or is answered
  pub data RepliesOne (reply : Reply) (mine mine' : List Entry) (s s' : Session T)
      (box box' : List (ℕ × List ℕ)) : Type 0 where
    Passed : keeps s.disposition ≡ false → mine' ≡ mine → s' ≡ s → box' ≡ box
        → RepliesOne reply mine mine' s s' box box'
    Cuts : keeps s.disposition ≡ true → reply.outcome ≡ outcome.Cut → mine' ≡ mine
        → s' ≡ record s { disposition = Leaves reason.Cut } → box' ≡ box
        → RepliesOne reply mine mine' s s' box box'
    Answers : keeps s.disposition ≡ true → (reply.outcome ≡ outcome.Cut → ⊥)
        → AnswersOne reply mine mine' s s' box box' → RepliesOne reply mine mine' s s' box box'

  -- an offer to a session
  pub data OffersOne (s s' : Session T) (box box' : List (ℕ × List ℕ))
      (told told' : Option PortsTold) : Type 0 where
    Idle : (s.owes ≡ true → keeps s.disposition ≡ true → ⊥) → s' ≡ s → box' ≡ box → told' ≡ told
        → OffersOne s s' box box' told told'
    Gives_it : s.owes ≡ true → keeps s.disposition ≡ true → (g : Gave) (done : Bool)
        → Gives s.conn (rest_in box s.conn) box box' told told' g
        → ((given : List ℕ) (ms : List (Move A)) → K given ms s.conn_state → done ≡ R.ends ms)
        → s' ≡ record s { owes = false; disposition = disposition_after g done s.disposition }
        → OffersOne s s' box box' told told'

  -- a round that is cut short by a worn turn, with the rounds before it
  abbrev pub CutShort : Option PortsTold → Option PortsTold → List Entry → ℕ → Type 0
  CutShort start told mine starved =
      (rounds : List (FrontRound A)) × AreTold R start told mine starved rounds

  -- the event came, after which the ports tell the second
  pub record Comes (e : PortEvent) (piece : List ℕ) (start told : Option PortsTold) (w : World T)
      : Type 0 where
    pub rounds : List (FrontRound A)
    pub can : CanBegin R K start rounds w
    pub heard : HearsEvent e piece w.told told

  -- a round has begun with this event, and replies may be collected
  pub record CanCollect (e : PortEvent) (start : Option PortsTold) (w : World T) : Type 0 where
    pub rounds : List (FrontRound A)
    pub round : FrontRound A
    pub replies : List Gathered
    pub event_is : round.event ≡ e
    pub makes : Makes R K start rounds (collecting replies round) w

  -- its last Collect was answered so, and bytes may be offered
  pub record CanOffer (e : PortEvent) (stopped : Bool) (start : Option PortsTold) (w : World T)
      : Type 0 where
    pub rounds : List (FrontRound A)
    pub round : FrontRound A
    pub sends : List Send
    pub event_is : round.event ≡ e
    pub makes : Makes R K start rounds (offering stopped sends round) w

  -- bytes were offered, and connections may be left
  pub record CanLeave (e : PortEvent) (stopped : Bool) (start : Option PortsTold) (w : World T)
      : Type 0 where
    pub rounds : List (FrontRound A)
    pub round : FrontRound A
    pub event_is : round.event ≡ e
    pub last_is : round.last ≡ Some stopped
    pub makes : Makes R K start rounds round w
    pub offered : Each OwesNone w.sessions

  -- the round is over
  pub record IsOver (e : PortEvent) (stopped : Bool) (start : Option PortsTold) (w : World T)
      : Type 0 where
    pub rounds : List (FrontRound A)
    pub round : FrontRound A
    pub event_is : round.event ≡ e
    pub last_is : round.last ≡ Some stopped
    pub makes : Makes R K start rounds round w
    pub rested : Each IsAtRest w.sessions

  -- rounds may go on
  abbrev pub CanGo : Option PortsTold → World T → Type 0
  CanGo start w = (rounds : List (FrontRound A)) × CanBegin R K start rounds w

  -- a round is over, or there was none; where the front ends, its cause
  abbrev pub Goes : Option PortsTold → World T → Option FrontEnd → Type 0
  Goes start w None = CanGo start w
  Goes start w (Some ended.Finished) = IsOver event.Finished false start w
  Goes start w (Some ended.Stopped) = (e : PortEvent) × IsOver e true start w
  Goes start w (Some ended.NoMemory) = CanGo start w
  Goes start w (Some ended.Broken) =
      (told : Option PortsTold) × (CanGo start (record w { told = told }))
      × (w.told ≡ option_map (heard event.Broken []) told)
  Goes start w (Some ended.Worn) = ⊥

  -- one Collect gave a reply, or the last answer
  abbrev pub CollectsOne : PortEvent → Option PortsTold → World T → Collected → Type 0
  CollectsOne e start w (collected.Reply r) = CanCollect e start w
  CollectsOne e start w collected.Stopped = CanOffer e true start w
  CollectsOne e start w collected.Empty = CanOffer e false start w

  -- a worn turn while a piece is heard
  pub record HearsWorn (c : ℕ) (piece : List ℕ) (mine mine' : List Entry) (conn_state : T)
      : Type 0 where
    pub conn_state' : T
    pub response : List ℕ
    pub heard : Hears R K c piece mine mine' conn_state conn_state' response (Leaves reason.Starved)

  -- a worn turn while a reply is answered
  pub record AnswersWorn (reply : Reply) (mine mine' : List Entry) (s : Session T) : Type 0 where
    pub kept : keeps s.disposition ≡ true
    pub conn_state' : T
    pub response : List ℕ
    pub replied :
        Replies R K reply mine mine' s.conn_state conn_state' response (Leaves reason.Starved)

  -- a connection that is not there got a session; or nothing changed
  abbrev pub Admits : ℕ → SessionTable T → SessionTable T → Bool → Type 0
  Admits c old new true =
      (conn_state : T) × (Begins R K conn_state) × (length old.sessions.items < most_sessions)
      × (has (conns old.sessions.items) c ≡ false)
      × (new.sessions.items ≡ old.sessions.items ++ newcomer c conn_state ∷ [])
      × (new.answers.outbox ≡ old.answers.outbox ++ (c, []) ∷ []) × (new.starved ≡ old.starved)
  Admits c old new false =
      (new.sessions.items ≡ old.sessions.items) × (new.answers.outbox ≡ old.answers.outbox)
      × (new.starved ≡ old.starved)

  -- An Opened: its connection got a session, or was closed, and counted as starved where there was room for it.
  abbrev pub Opens : ℕ → Option PortsTold → Option PortsTold → SessionTable T → SessionTable T
      → Type 0
  Opens c told told' old new =
      (Admits c old new true × (told' ≡ told))
      ⊎ ((told' ≡ option_map (after_close c) told) × (new.sessions.items ≡ old.sessions.items)
      × (new.answers.outbox ≡ old.answers.outbox)
      × (new.starved
      ≡ cond (nat_lt (length old.sessions.items) most_sessions)
      (min (old.starved + 1) (2 ^ 64 - 1)) old.starved))
