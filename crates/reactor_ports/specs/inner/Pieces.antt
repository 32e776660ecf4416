-- Inner words of sockets: what a read leaves in the room.
use Rattle.std.specs.Prelude.{◌<◌, ◌≤◌, ℕ, List, length}
use Rattle.farm_base.specs.Limits.{most_piece_bytes}
use Rattle.reactor_ports.specs.declared.events.PortEvent.{PortEvent}
use Rattle.reactor_ports.specs.declared.events.PortEvent.TheVariants as event
use Rattle.reactor_ports.specs.declared.links.Heard.{Heard}
use Rattle.reactor_ports.specs.declared.links.Heard.TheVariants as heard

-- an event that has no piece and counts nothing
abbrev pub IsQuiet : PortEvent → Type 0
IsQuiet (event.Opened c) = Unit {0}
IsQuiet event.Woken = Unit {0}
IsQuiet event.Finished = ⊥
IsQuiet event.Broken = ⊥
IsQuiet event.NoMemory = ⊥
IsQuiet (event.Bytes c) = ⊥
IsQuiet (event.Writable c) = ⊥
IsQuiet (event.Ended c) = ⊥
IsQuiet (event.Lost c) = ⊥

-- a piece has a byte at least, and no more than ports give at once
abbrev pub HasPiece : Heard → List ℕ → Type 0
HasPiece heard.Piece room = (0 < length room) × (length room ≤ most_piece_bytes)
HasPiece heard.End room = Unit {0}
HasPiece heard.Nothing room = Unit {0}
HasPiece heard.Failed room = Unit {0}
HasPiece heard.NoMemory room = Unit {0}
