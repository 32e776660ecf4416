-- How the ports of a farm are listened on.
use Rattle.std.specs.Prelude.{◌≡◌, ℕ, List, [], ◌∷◌, Result, Ok, Err}
use Rattle.farm_base.specs.Outside.{Outside}
use Rattle.reactor_ports.specs.declared.events.PortFault.{PortFault}
use Rattle.reactor_ports.specs.declared.events.PortFault.TheVariants as fault
use Rattle.reactor_ports.specs.Told as port
use Rattle.reactor_ports.specs.Told.{PortsTold, ListenCounts}
use Rattle.exit_status.specs.declared.stops.Stop.{Stop}
use Rattle.exit_status.specs.declared.stops.Stop.TheVariants as stop

-- why a call ends in which ports do not listen
abbrev pub stop_of : PortFault → Stop
stop_of fault.Failed = stop.PortsFailed
stop_of fault.NoMemory = stop.NoMemory

-- how a call goes on after a listen
abbrev pub listen_end : Result (Unit {0}) PortFault → Result (Unit {0}) Stop
listen_end (Ok done) = Ok tt
listen_end (Err why) = Err (stop_of why)

-- one listen at the address: what the ports show before and after it
pub record ListenEnds (address : List ℕ) (old new : Outside PortsTold)
    (end : Result (Unit {0}) Stop) : Type 0 where
  pub answer : Result (Unit {0}) PortFault
  pub told : port.Listens address answer old.told new.told
  pub counts : ListenCounts old.faults new.faults answer
  pub end_is : end ≡ listen_end answer

-- ports that are to be listened on: the address, and what they show before and after
abbrev pub ListenPlace : Type 0
ListenPlace = List ℕ × Outside PortsTold × Outside PortsTold

-- they are not touched
abbrev pub Untouched : List ListenPlace → Type 0
Untouched [] = Unit {0}
Untouched (p ∷ ps) = (p.2 ≡ p.1) × Untouched ps

-- what comes after a listen that ended so: the next ones, or nothing, and then this is the end of
-- all
abbrev pub After : Result (Unit {0}) Stop → Result (Unit {0}) Stop → Type 0 → Type 0 → Type 0
After (Ok done) end next none = next
After (Err why) end next none = none × (end ≡ Err why)

-- Each is listened on at its address, in this order, and the first that does not listen is the last
abbrev pub Listening : List ListenPlace → Result (Unit {0}) Stop → Type 0
Listening [] end = end ≡ Ok tt
Listening (p ∷ ps) end =
    (first : Result (Unit {0}) Stop) × ListenEnds p.0 p.1 p.2 first
    × After first end (Listening ps end) (Untouched ps)
