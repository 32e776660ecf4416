-- What a front gives of its own: how it hears a piece of bytes and how it takes a reply, each on one connection.
use Rattle.std.specs.Prelude.{◌≡◌, ℕ, Bool, true, false, List, [], ◌∷◌, ◌++◌, Option, Result, Ok, Err}
use Rattle.farm_history.specs.declared.queues.Reply.{Reply}
use Rattle.farm_history.specs.Entries.{Entry}
use Rattle.farm_base.specs.declared.turns.Worn.{Worn}
use Rattle.front_loop.specs.declared.dispositions.Disposition.{Disposition}
use Rattle.front_loop.specs.declared.dispositions.Disposition.TheVariants.{Stays, Leaves}
use Rattle.front_loop.specs.declared.dispositions.Reason.TheVariants as reason
use Rattle.reactor_ports.specs.declared.ends.FrontDone.{FrontDone}
use Rattle.reactor_ports.specs.Told.{PortsTold}
use Rattle.front_loop.specs.Calls.{Seats}
use Rattle.front_loop.specs.declared.context.Context.{Context}
use Rattle.front_loop.specs.declared.context.Piece.{Piece}
use Rattle.front_loop.specs.Rules.{Rules, Move, Does, Gets, wants_of, answer_bytes, each_whole, any_starves, BeginsWanted}
use Rattle.front_loop.specs.Serving.{FrontRun}

-- the rules of a front at the farm, of what a step of it works with
abbrev pub rules_in : {R M F A W : Type 0} → (F → (List ℕ → Option ℕ) → Rules A W)
    → (M → List ℕ → Option ℕ) → Context R M F → Rules A W
rules_in rules map_at work = rules work.front.now (map_at work.farm.now)

-- what a front with these rules leaves, on a farm's seat
abbrev pub IsServed : {A W S P : Type 0} → Rules A W → Seats S P → Option PortsTold
    → Option PortsTold → S → FrontDone → Type 0
IsServed R seats start told seat done =
    FrontRun R start told (seats.mine seat) done.end done.rests.items done.starved (seats.worn seat)

-- the bytes of a connection are still kept and answered: it stays, or is left once they were offered
abbrev pub keeps : Disposition → Bool
keeps Stays = true
keeps (Leaves reason.Unread) = true
keeps (Leaves _) = false

-- a worn turn ends the connection's part, of which nothing more is said
abbrev pub disposition_of : Result Disposition Worn → Disposition
disposition_of (Ok disposition) = disposition
disposition_of (Err w) = Leaves reason.Starved

-- the requests that were done, as moves; the newest first, as moves are
abbrev pub does : {A : Type 0} → List A → List (Move A)
does [] = []
does (a ∷ acts) = Does a ∷ does acts

module _ {A W : Type 0} (R : Rules A W) where
  -- each of these requests fits what came before it
  abbrev pub EachFits : List A → List (Move A) → Type 0
  EachFits [] ms = Unit {0}
  EachFits (a ∷ acts) ms = (R.fits (does acts ++ ms) (Does a) ≡ true) × EachFits acts ms

  -- the entries of these requests, behind others
  abbrev pub with_acts : ℕ → List A → List Entry → List Entry
  with_acts c [] mine = mine
  with_acts c (a ∷ acts) mine = with_acts c acts mine ++ R.entries c a

  -- after hearing, a connection stays or is left for one of three reasons
  abbrev pub HeardWhy : List ℕ → List (Move A) → Disposition → Type 0
  HeardWhy given new Stays = (R.refuses given ≡ false) × (any_starves R new ≡ false)
  HeardWhy given new (Leaves reason.Unread) = (R.refuses given ≡ true) × (any_starves R new ≡ false)
  HeardWhy given new (Leaves reason.NoMemory) = any_starves R new ≡ true
  HeardWhy given new (Leaves reason.Starved) = any_starves R new ≡ false
  HeardWhy given new (Leaves _) = ⊥

  -- after a reply, it stays or is left for want of memory
  abbrev pub RepliedWhy : Move A → Disposition → Type 0
  RepliedWhy m Stays = R.starves m ≡ false
  RepliedWhy m (Leaves reason.NoMemory) = R.starves m ≡ true
  RepliedWhy m (Leaves reason.Starved) = R.starves m ≡ false
  RepliedWhy m (Leaves _) = ⊥

  -- A reply to a connection whose front doesn't hear it any more stands alone: nothing is wrong with that, and no
  -- entry of it says that memory is wanting.
  abbrev pub MayStandAlone : Type 0
  MayStandAlone =
      (reply : Reply) (ms : List (Move A))
      → (R.fits ms (Gets reply []) ≡ true) × (R.starves (Gets reply []) ≡ false)

module _ {A W T : Type 0} (R : Rules A W) (K : List ℕ → List (Move A) → T → Type 0) where
  -- a new session
  pub record Begins (conn_state : T) : Type 0 where
    pub knows : K [] [] conn_state
    pub wanted : R.wanted [] []
    pub read : R.refuses [] ≡ false

  -- What hearing a piece does, where the bytes given came before and the moves ms were made: some requests are done,
  -- the newest first in acts; the bytes that are answered to them are said.
  pub record Heard (c : ℕ) (piece : List ℕ) (mine mine' : List Entry) (conn_state' : T)
      (response : List ℕ) (disposition : Disposition) (given : List ℕ) (ms : List (Move A))
      : Type 0 where
    pub acts : List A
    pub mine_is : mine' ≡ with_acts R c acts mine
    pub begins : BeginsWanted R (given ++ piece) (wants_of R (does acts ++ ms))
    pub fits : EachFits R acts ms
    pub why : HeardWhy R (given ++ piece) (does acts) disposition
    pub response_is : keeps disposition ≡ true
        → answer_bytes R (does acts ++ ms) ≡ answer_bytes R ms ++ response
    pub asked_is : keeps disposition ≡ true
        → R.wanted (given ++ piece) (wants_of R (does acts ++ ms))
    pub whole : keeps disposition ≡ true → each_whole R (does acts ++ ms) ≡ true
    pub knows : keeps disposition ≡ true → K (given ++ piece) (does acts ++ ms) conn_state'

  -- hearing a piece on a connection of which the front keeps what is right
  abbrev pub Hears : ℕ → List ℕ → List Entry → List Entry → T → T → List ℕ → Disposition → Type 0
  Hears c piece mine mine' conn_state conn_state' response disposition =
      (given : List ℕ) (ms : List (Move A)) → K given ms conn_state → R.wanted given (wants_of R ms)
      → each_whole R ms ≡ true → R.refuses given ≡ false
      → Heard c piece mine mine' conn_state' response disposition given ms

  -- the same on a farm's seat, of what hearing answered
  abbrev pub HearsAt : {S P : Type 0} → Seats S P → Piece → S → S → T → T → List ℕ
      → Result Disposition Worn → Type 0
  HearsAt seats piece seat seat' conn_state conn_state' response result =
      Hears piece.conn piece.bytes.now (seats.mine seat) (seats.mine seat') conn_state conn_state'
      response (disposition_of result)

  -- what a reply does: some entries stand directly behind its Collect
  pub record Replied (reply : Reply) (mine mine' : List Entry) (conn_state' : T) (response : List ℕ)
      (disposition : Disposition) (given : List ℕ) (ms : List (Move A)) : Type 0 where
    pub behind : List Entry
    pub mine_is : mine' ≡ mine ++ behind
    pub fits : R.fits ms (Gets reply behind) ≡ true
    pub why : RepliedWhy R (Gets reply behind) disposition
    pub response_is : keeps disposition ≡ true → R.says ms (Gets reply behind) ≡ response
    pub whole : keeps disposition ≡ true → R.whole ms (Gets reply behind) ≡ true
    pub knows : keeps disposition ≡ true → K given (Gets reply behind ∷ ms) conn_state'

  -- taking a reply on one
  abbrev pub Replies : Reply → List Entry → List Entry → T → T → List ℕ → Disposition → Type 0
  Replies reply mine mine' conn_state conn_state' response disposition =
      (given : List ℕ) (ms : List (Move A)) → K given ms conn_state
      → Replied reply mine mine' conn_state' response disposition given ms

  -- the same on a farm's seat, of what taking it answered
  abbrev pub RepliesAt : {S P : Type 0} → Seats S P → Reply → S → S → T → T → List ℕ
      → Result Disposition Worn → Type 0
  RepliesAt seats reply seat seat' conn_state conn_state' response result =
      Replies reply (seats.mine seat) (seats.mine seat') conn_state conn_state' response
      (disposition_of result)

  -- whether all is answered that will be
  abbrev pub Ends : T → Bool → Type 0
  Ends conn_state result =
      (given : List ℕ) (ms : List (Move A)) → K given ms conn_state → result ≡ R.ends ms
