-- Ports in memory as contracts see them, and what a listen, a send and a close do.
use Rattle.std.specs.Prelude.{◌≡◌, nat_lt, min, ℕ, Bool, true, false, List, [], ◌∷◌, ◌++◌, length, take, zero, suc, Option, Some, None, Result, Ok, Err}
use Rattle.std.specs.List.{count_by, slice_get}
use Rattle.farm_base.specs.Outside.{Outside}
use Rattle.farm_base.specs.InMemory.{is_to_fail, next_count}
use Rattle.reactor_ports.specs.declared.events.PortEvent.TheVariants as event
use Rattle.reactor_ports.specs.declared.events.PortItem.{PortItem}
use Rattle.reactor_ports.specs.declared.events.PortItem.TheVariants as item
use Rattle.reactor_ports.specs.declared.events.PortFault.{PortFault}
use Rattle.reactor_ports.specs.declared.events.PortFault.TheVariants as fault
use Rattle.reactor_ports.specs.declared.events.SendFault.{SendFault}
use Rattle.reactor_ports.specs.declared.events.SendFault.TheVariants as send_fault
use Rattle.reactor_ports.specs.Told.{PortsTold}
use Rattle.reactor_ports.specs.declared.port_steps.PortStep.{PortStep}

-- A connection: the bytes taken, whether it is open, whether its peer sends no more, whether its
-- last send took fewer bytes than it was given, and whether it is to hear Writable before the next
-- step.
pub record PeerHeld : Type 0 where
  pub taken : List ℕ
  pub up : Bool
  pub ended : Bool
  pub short : Bool
  pub due : Bool

-- Ports in memory: their record, their connections by number, and the steps that are left; how
-- often the Await that stands first has answered Woken, and whether it was seen who is to hear
-- Writable before the first step; how many bytes a send takes at most, the sends that are to fail
-- by their numbers and how many sends were answered, whether every listen fails, and how often an
-- Await may answer Woken.
pub record PortsHeld : Type 0 where
  pub log : List PortItem
  pub peers : List PeerHeld
  pub steps : List PortStep
  pub used : ℕ
  pub ready : Bool
  pub most : ℕ
  pub fails : List ℕ
  pub sends : ℕ
  pub deaf : Bool
  pub turns : ℕ

-- ports at their beginning
abbrev pub first_ports : List PortStep → ℕ → ℕ → PortsHeld
first_ports steps most turns = record {
  log = [];
  peers = [];
  steps = steps;
  used = 0;
  ready = false;
  most = most;
  fails = [];
  sends = 0;
  deaf = false;
  turns = turns;
}

-- of a connection that was never opened: no bytes, not open, not ended
abbrev pub taken_of : Option PeerHeld → List ℕ
taken_of None = []
taken_of (Some p) = p.taken

abbrev pub up_of : Option PeerHeld → Bool
up_of None = false
up_of (Some p) = p.up

abbrev pub ended_of : Option PeerHeld → Bool
ended_of None = false
ended_of (Some p) = p.ended

-- what they tell
abbrev pub told_of : PortsHeld → PortsTold
told_of h = record {
  log = h.log;
  opened = length h.peers;
  taken = λ c. taken_of (slice_get h.peers c);
  is_open = λ c. up_of (slice_get h.peers c);
  ended = λ c. ended_of (slice_get h.peers c);
}

-- is the line that of a failure?
abbrev pub is_fault : PortItem → Bool
is_fault (item.Listened address failed) = failed
is_fault (item.Heard (event.Lost c) piece) = true
is_fault (item.Heard event.Broken piece) = true
is_fault (item.Heard (event.Opened c) piece) = false
is_fault (item.Heard (event.Bytes c) piece) = false
is_fault (item.Heard (event.Writable c) piece) = false
is_fault (item.Heard (event.Ended c) piece) = false
is_fault (item.Heard event.Woken piece) = false
is_fault (item.Heard event.Finished piece) = false
is_fault (item.Heard event.NoMemory piece) = false
is_fault (item.Sent c offered None) = true
is_fault (item.Sent c offered (Some n)) = false

-- ports in memory as an object of the outside: they tell, and count the failures of their record
abbrev pub ports_state : PortsHeld → Outside PortsTold
ports_state h = record { told = Some (told_of h); faults = count_by is_fault h.log }

-- the connection of this number changed, all others as they were
abbrev pub change : (PeerHeld → PeerHeld) → ℕ → List PeerHeld → List PeerHeld
change f c [] = []
change f zero (p ∷ ps) = f p ∷ ps
change f (suc c) (p ∷ ps) = p ∷ change f c ps

-- a connection that is open no longer, one whose peer sends no more, and one that took the first n
-- of these bytes
abbrev pub closed : PeerHeld → PeerHeld
closed p = record p { up = false }

abbrev pub with_end : PeerHeld → PeerHeld
with_end p = record p { ended = true }

abbrev pub with_taken : List ℕ → ℕ → PeerHeld → PeerHeld
with_taken bytes n p = record p { taken = p.taken ++ take n bytes; short = nat_lt n (length bytes) }

-- one more line of the record
abbrev pub logged : PortItem → PortsHeld → PortsHeld
logged line h = record h { log = h.log ++ line ∷ [] }

-- A listen, exactly: it fails where the ports are deaf, and the record has a line of it. After want
-- of memory all is as before.
abbrev pub ListensHeld : PortsHeld → PortsHeld → List ℕ → Result (Unit {0}) PortFault → Type 0
ListensHeld old new address (Ok done) =
    (old.deaf ≡ false) × (new ≡ logged (item.Listened address false) old)
ListensHeld old new address (Err fault.Failed) =
    (old.deaf ≡ true) × (new ≡ logged (item.Listened address true) old)
ListensHeld old new address (Err fault.NoMemory) = new ≡ old

-- A send, exactly: it fails by its number, and then the connection is open no longer; else as many
-- bytes are taken as a send takes at most. After want of memory all is as before.
abbrev pub SendsHeld : PortsHeld → PortsHeld → ℕ → List ℕ → Result ℕ SendFault → Type 0
SendsHeld old new c bytes (Ok n) =
    (is_to_fail old.fails old.sends ≡ false)
    × (n ≡ min (length bytes) old.most)
    × (new ≡ record (logged (item.Sent c (length bytes) (Some n)) old)
    { peers = change (with_taken bytes n) c old.peers; sends = next_count old.sends })
SendsHeld old new c bytes (Err send_fault.Failed) =
    (is_to_fail old.fails old.sends ≡ true)
    × (new ≡ record (logged (item.Sent c (length bytes) None) old)
    { peers = change closed c old.peers; sends = next_count old.sends })
SendsHeld old new c bytes (Err send_fault.NoMemory) = new ≡ old
