-- What stands of one connection as a round begins, and what the round makes of it.
use Rattle.std.specs.Prelude.{◌≡◌, ℕ, ◌+◌, ◌<◌, ◌==◌, Bool, true, false, not, ◌&&◌, ◌||◌, cond, List, [], ◌∷◌, ◌++◌, length, drop, unwrap_or, ok_or, nat_lt, nat_le}
use Rattle.std.specs.Option.{is_none}
use Rattle.std.specs.List.{list_any}
use Rattle.farm_base.specs.Limits.{most_rest_bytes}
use Rattle.farm_history.specs.declared.queues.Reply.{Reply}
use Rattle.farm_history.specs.Entries.{Entry}
use Rattle.reactor_ports.specs.declared.events.PortEvent.{PortEvent}
use Rattle.reactor_ports.specs.declared.events.PortEvent.TheVariants as event
use Rattle.reactor_ports.specs.declared.events.SendFault.TheVariants as send_fault
use Rattle.reactor_ports.specs.Told.{PortsTold, heard, after_send, after_close}
use Rattle.front_loop.specs.declared.dispositions.Reason.{Reason}
use Rattle.front_loop.specs.declared.dispositions.Reason.TheVariants as reason
use Rattle.front_loop.specs.Rules.{EachSoFar, Rules, Move, Does, Gets, is_cut, wants_of, answer_bytes}
use Rattle.front_loop.specs.Rounds.{Gathered, Send, Departure, FrontRound, in_turn}

-- what stands of a connection: the bytes that came, the moves that were made, and how many bytes of its answers were taken
pub record Standing (A : Type 0) : Type 0 where
  pub given : List ℕ
  pub moves : List (Move A)
  pub took : ℕ

-- the event is the Opened of this connection
abbrev pub opens : PortEvent → ℕ → Bool
opens (event.Opened d) c = d == c
opens _ c = false

-- the event is its Ended
abbrev pub ends_at : PortEvent → ℕ → Bool
ends_at (event.Ended d) c = d == c
ends_at _ c = false

-- the event is its Lost
abbrev pub loses : PortEvent → ℕ → Bool
loses (event.Lost d) c = d == c
loses _ c = false

-- the event has every connection offered its bytes, or is the Writable of this one
abbrev pub calls : PortEvent → ℕ → Bool
calls (event.Writable d) c = d == c
calls event.Woken c = true
calls event.Finished c = true
calls _ c = false

-- the event brings bytes of this connection
abbrev pub brings : PortEvent → ℕ → Bool
brings (event.Bytes d) c = d == c
brings _ c = false

-- a connection that was refused at its Opened is closed
abbrev pub shut_out : PortEvent → Bool → PortsTold → PortsTold
shut_out (event.Opened c) false t = after_close c t
shut_out _ _ t = t

-- its bytes were offered in one of these sends
abbrev pub is_tried : List Send → ℕ → Bool
is_tried ss c = list_any (λ (s : Send). s.conn == c) ss

-- and a send that failed took none
abbrev pub send_fails : List Send → ℕ → Bool
send_fails ss c = list_any (λ (s : Send). s.conn == c && is_none s.taken) ss

module _ {A : Type 0} where
  -- the moves that a round made on the connection: its requests, if they are of this connection, and the replies to it
  abbrev pub made : FrontRound A → ℕ → List (Move A)
  made r c =
      in_turn
      (λ (g : Gathered) ms. cond (g.reply.conn.number == c) (Gets g.reply g.behind ∷ ms) ms)
      r.replies
      (in_turn (λ a ms. cond (brings r.event c) (Does a ∷ ms) ms) r.acts [])

  -- what stands of the connection after a round, where this stood of it before
  abbrev pub after : FrontRound A → ℕ → Standing A → Standing A
  after r c p = record {
    given = cond (brings r.event c) (p.given ++ r.piece) p.given;
    moves = made r c ++ p.moves;
    took = in_turn (λ (s : Send) n. cond (s.conn == c) (n + unwrap_or s.taken 0) n) r.sends p.took;
  }

  -- nothing has happened on it
  abbrev pub blank : Standing A
  blank = record { given = []; moves = []; took = 0 }

  -- what stands of it after the rounds: all begins anew where its Opened made a session
  abbrev pub conn : List (FrontRound A) → ℕ → Standing A
  conn [] c = blank
  conn (r ∷ rs) c = after r c (cond (opens r.event c && r.kept) blank (conn rs c))

  -- and as this round began after those
  abbrev pub before : List (FrontRound A) → FrontRound A → ℕ → Standing A
  before rs r c = cond (opens r.event c && r.kept) blank (conn rs c)

  -- it is still open in the ports: it was not lost, and no send on it failed
  abbrev pub is_open : FrontRound A → ℕ → Bool
  is_open r c = not (loses r.event c || send_fails r.sends c)

module _ {A W : Type 0} (R : Rules A W) where
  -- What follows is of a connection of which this stood as the round began.
  module _ (p : Standing A) (r : FrontRound A) (c : ℕ) where
    -- the bytes that were answered and not taken as the round began to offer
    abbrev pub due : List ℕ
    due = drop p.took (answer_bytes R (made r c ++ p.moves))

    -- There is a reason to offer it its bytes: the event, the stop of the farm, new bytes, or that its bytes end it
    abbrev pub must : Bool
    must =
        (calls r.event c || unwrap_or r.last false)
        || (nat_lt (length (answer_bytes R p.moves)) (length (answer_bytes R (made r c ++ p.moves)))
        || R.refuses (after r c p).given)

    -- where there is a reason and nothing was offered, nothing was due
    abbrev pub Offered : Type 0
    Offered = must ≡ true → is_tried r.sends c ≡ false → due ≡ []

    -- what closes a connection is there, with these moves of the round
    abbrev pub closes : List (Move A) → Reason → Bool
    closes ms reason.Ended = ends_at r.event c
    closes ms reason.Lost = loses r.event c
    closes ms reason.Cut = list_any is_cut ms
    closes ms reason.Full =
        nat_lt (p.took + most_rest_bytes) (length (answer_bytes R (ms ++ p.moves)))
    closes ms reason.Unread = R.refuses (after r c p).given
    closes ms reason.SentWhole =
        is_tried r.sends c
        && (R.ends (ms ++ p.moves)
        && nat_le (length (answer_bytes R (ms ++ p.moves))) (after r c p).took)
    closes ms reason.SendFailed = send_fails r.sends c
    closes ms reason.NoMemory = list_any R.starves ms
    closes ms reason.Starved = false

    -- nothing closes it with these moves but what may stand in its bytes
    abbrev pub Unclosed : List (Move A) → Type 0
    Unclosed ms = (why : Reason) → closes ms why ≡ true → why ≡ reason.Unread

    -- Memory may have been wanting to it: while the bytes of the event were heard; at a reply that was not cut; or where
    -- it was to be offered its bytes and was not. What was done before the last two had not closed it.
    pub data MayLack : Type 0 where
      InHearing : brings r.event c ≡ true → MayLack
      AtReply : (later earlier : List (Move A)) (reply : Reply) (behind : List Entry)
          → made r c ≡ later ++ Gets reply behind ∷ earlier
          → is_cut {A = A} (Gets reply behind) ≡ false → Unclosed earlier → MayLack
      AtOffer : must ≡ true → 0 < length due → Unclosed (made r c) → MayLack

    -- All that its bytes ask was asked, and each move has all its entries; but a reply of the round may lack entries where
    -- its event was the connection's Ended or Lost, where it is Cut, and after one that was Cut.
    abbrev pub HasAll : Type 0
    HasAll =
        R.wanted (after r c p).given (wants_of R (made r c ++ p.moves))
        × EachSoFar (λ ms m. R.whole ms m ≡ true) p.moves
        × EachSoFar
        (λ ms m. ((ends_at r.event c || loses r.event c)
        || (list_any is_cut (m ∷ ms) || R.whole (ms ++ p.moves) m)) ≡ true)
        (made r c)

    -- What holds of a connection that is there as the round ends: all that its bytes ask was asked and has all its
    -- entries; nothing closes it; and it was offered its bytes where there was a reason.
    pub record Kept : Type 0 where
      pub asked_all : R.wanted (after r c p).given (wants_of R (made r c ++ p.moves))
      pub whole : EachSoFar (λ ms m. R.whole ms m ≡ true) (made r c ++ p.moves)
      pub calm : (why : Reason) → closes (made r c) why ≡ false
      pub offered : Offered

module _ {A W : Type 0} (R : Rules A W) where
  -- What the ports tell after the rounds, where they told this before: in each round the event, then the sends of what
  -- was due; then each connection that is left is closed, if it is still open in the ports.
  abbrev pub told_after : List (FrontRound A) → PortsTold → PortsTold
  told_after [] t = t
  told_after (r ∷ rs) t =
      in_turn (λ (d : Departure) t. cond (is_open r d.conn) (after_close d.conn t) t) r.left
      (in_turn
      (λ (s : Send) t. after_send s.conn (due R (before rs r s.conn) r s.conn)
      (ok_or s.taken send_fault.Failed) t)
      r.sends
      (shut_out r.event r.kept (heard r.event r.piece (told_after rs t))))
