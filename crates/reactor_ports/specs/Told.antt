-- What ports tell of themselves, and what a call on them may do.
use Rattle.std.specs.Prelude.{◌≡◌, ◌<◌, ◌≤◌, ◌+◌, ◌==◌, ◌^◌, ℕ, Bool, true, false, List, [], ◌∷◌, ◌++◌, length, take, Option, Some, None, IfSome, option_map, Result, Ok, Err, cond}
use Rattle.farm_base.specs.Limits.{most_piece_bytes}
use Rattle.farm_base.specs.Outside.{Counted}
use Rattle.reactor_ports.specs.declared.events.PortEvent.{PortEvent}
use Rattle.reactor_ports.specs.declared.events.PortEvent.TheVariants as event
use Rattle.reactor_ports.specs.declared.events.PortItem.{PortItem}
use Rattle.reactor_ports.specs.declared.events.PortItem.TheVariants as item
use Rattle.reactor_ports.specs.declared.events.PortFault.{PortFault}
use Rattle.reactor_ports.specs.declared.events.PortFault.TheVariants as fault
use Rattle.reactor_ports.specs.declared.events.SendFault.{SendFault}
use Rattle.reactor_ports.specs.declared.events.SendFault.TheVariants as send_fault

-- What ports that tell tell: their record so far, how many connections were opened, and of each
-- connection the bytes taken, whether it is open and whether its peer sends no more.
pub record PortsTold : Type 0 where
  pub log : List PortItem
  pub opened : ℕ
  pub taken : ℕ → List ℕ
  pub is_open : ℕ → Bool
  pub ended : ℕ → Bool

-- a table of connections with another value at this one
abbrev pub put : {A : Type 0} → (ℕ → A) → ℕ → A → ℕ → A
put table c value d = cond (d == c) value (table d)

-- one more line of the record
abbrev pub with_record_line : PortItem → PortsTold → PortsTold
with_record_line line t = record t { log = t.log ++ line ∷ [] }

-- the connection is open, and its peer may still send
abbrev pub IsAlive : ℕ → PortsTold → Type 0
IsAlive c t = (t.is_open c ≡ true) × (t.ended c ≡ false)

-- Which events may come: Opened with the number of connections opened so far, on which nothing has
-- happened, and below `2^32`; the others that name a connection with one that is alive.
abbrev pub MayCome : PortEvent → PortsTold → Type 0
MayCome (event.Opened c) t =
    (c ≡ t.opened) × (c < 2 ^ 32) × (t.is_open c ≡ false) × (t.ended c ≡ false) × (t.taken c ≡ [])
MayCome (event.Bytes c) t = IsAlive c t
MayCome (event.Writable c) t = IsAlive c t
MayCome (event.Ended c) t = IsAlive c t
MayCome (event.Lost c) t = IsAlive c t
MayCome _ _ = Unit {0}

-- What ports tell after an event. Each is a line of the record, with the piece at Bytes and no
-- bytes at the others; want of memory alone is none and changes nothing.
abbrev pub heard : PortEvent → List ℕ → PortsTold → PortsTold
heard (event.Opened c) piece t = record (with_record_line (item.Heard (event.Opened c) []) t)
    { opened = c + 1; is_open = put t.is_open c true }
heard (event.Bytes c) piece t = with_record_line (item.Heard (event.Bytes c) piece) t
heard (event.Ended c) piece t =
    record (with_record_line (item.Heard (event.Ended c) []) t) { ended = put t.ended c true }
heard (event.Lost c) piece t =
    record (with_record_line (item.Heard (event.Lost c) []) t) { is_open = put t.is_open c false }
heard event.NoMemory piece t = t
heard e piece t = with_record_line (item.Heard e []) t

-- An event with its piece. Whether the ports tell stays.
abbrev pub Hears : PortEvent → List ℕ → Option PortsTold → Option PortsTold → Type 0
Hears e piece old new = IfSome old (MayCome e) × (new ≡ option_map (heard e piece) old)

-- a piece has 1 to 4,096 bytes
abbrev pub IsPieceOf : PortEvent → List ℕ → Type 0
IsPieceOf (event.Bytes c) piece = (0 < length piece) × (length piece ≤ most_piece_bytes)
IsPieceOf _ piece = Unit {0}

-- What ports tell after a send of these bytes. Ok has taken so many from their front; after Failed
-- the connection is lost; want of memory is no line and changes nothing.
abbrev pub after_send : ℕ → List ℕ → Result ℕ SendFault → PortsTold → PortsTold
after_send c bytes (Ok n) t = record (with_record_line (item.Sent c (length bytes) (Some n)) t)
    { taken = put t.taken c (t.taken c ++ take n bytes) }
after_send c bytes (Err send_fault.Failed) t = record (with_record_line
    (item.Sent c (length bytes) None) t) { is_open = put t.is_open c false }
after_send c bytes (Err send_fault.NoMemory) t = t

-- A send of bytes. Whether the ports tell stays.
abbrev pub Sends : ℕ → List ℕ → Result ℕ SendFault → Option PortsTold → Option PortsTold → Type 0
Sends c bytes result old new = new ≡ option_map (after_send c bytes result) old

-- what ports tell after a listen at this address
abbrev pub after_listen : List ℕ → Result (Unit {0}) PortFault → PortsTold → PortsTold
after_listen address (Ok done) t = with_record_line (item.Listened address false) t
after_listen address (Err fault.Failed) t = with_record_line (item.Listened address true) t
after_listen address (Err fault.NoMemory) t = t

-- A listen at an address. Whether the ports tell stays.
abbrev pub Listens : List ℕ → Result (Unit {0}) PortFault → Option PortsTold
    → Option PortsTold → Type 0
Listens address result old new = new ≡ option_map (after_listen address result) old

-- what ports tell after a close, which is no line of their record: the connection is open no longer
abbrev pub after_close : ℕ → PortsTold → PortsTold
after_close c t = record t { is_open = put t.is_open c false }

-- A close. Whether the ports tell stays.
abbrev pub Closes : ℕ → Option PortsTold → Option PortsTold → Type 0
Closes c old new = new ≡ option_map (after_close c) old

-- the connection is open, where the ports tell
abbrev pub IsOpen : ℕ → Option PortsTold → Type 0
IsOpen c told = IfSome told (λ t. t.is_open c ≡ true)

-- the count of faults over a next: it rises at Lost and Broken, and else it stays
abbrev pub EventCounts : ℕ → ℕ → PortEvent → Type 0
EventCounts before now (event.Lost c) = Counted before now
EventCounts before now event.Broken = Counted before now
EventCounts before now _ = now ≡ before

-- the count of faults over a send: it rises where the send failed, and else it stays
abbrev pub SendCounts : {T : Type 0} → ℕ → ℕ → Result T SendFault → Type 0
SendCounts before now (Ok done) = now ≡ before
SendCounts before now (Err send_fault.Failed) = Counted before now
SendCounts before now (Err send_fault.NoMemory) = now ≡ before

-- the count of faults over a listen: it rises where the listen failed, and else it stays
abbrev pub ListenCounts : {T : Type 0} → ℕ → ℕ → Result T PortFault → Type 0
ListenCounts before now (Ok done) = now ≡ before
ListenCounts before now (Err fault.Failed) = Counted before now
ListenCounts before now (Err fault.NoMemory) = now ≡ before
