-- Scripts of ports in memory: which lists of steps are in order.
use Rattle.std.specs.Prelude.{◌&&◌, nat_le, nat_lt, ℕ, Bool, true, false, List, [], ◌∷◌, ◌++◌, length, set, Option, Some, None}
use Rattle.std.specs.List.{slice_get}
use Rattle.farm_base.specs.Limits.{most_piece_bytes}
use Rattle.reactor_ports.specs.declared.port_steps.PortStep.{PortStep}
use Rattle.reactor_ports.specs.declared.port_steps.PortStep.TheVariants as step

abbrev pub flag_of : Option Bool → Bool
flag_of None = false
flag_of (Some flag) = flag

-- is the connection one of those that were opened, and neither ended nor lost?
abbrev pub is_alive_in : List Bool → ℕ → Bool
is_alive_in alive c = flag_of (slice_get alive c)

-- a piece has a byte at least, and no more than ports give at once
abbrev pub is_piece : List ℕ → Bool
is_piece piece = nat_lt 0 (length piece) && nat_le (length piece) most_piece_bytes

-- The steps are in order, where these connections are alive: each Open opens the next connection; a
-- piece, an end and a loss are of a connection that was opened and neither ended nor lost.
abbrev pub is_valid : List Bool → List PortStep → Bool
is_valid alive [] = true
is_valid alive (step.Open ∷ rest) = is_valid (alive ++ true ∷ []) rest
is_valid alive (step.Bytes c piece ∷ rest) =
    is_alive_in alive c && (is_piece piece && is_valid alive rest)
is_valid alive (step.End c ∷ rest) = is_alive_in alive c && is_valid (set alive c false) rest
is_valid alive (step.Lose c ∷ rest) = is_alive_in alive c && is_valid (set alive c false) rest
is_valid alive (step.Await front n ∷ rest) = is_valid alive rest
is_valid alive (step.Break ∷ rest) = is_valid alive rest

-- A step that waits.
abbrev pub is_await : PortStep → Bool
is_await (step.Await front n) = true
is_await step.Open = false
is_await (step.Bytes c piece) = false
is_await (step.End c) = false
is_await (step.Lose c) = false
is_await step.Break = false

-- a step's piece, if it has one, is a piece
abbrev pub has_piece : PortStep → Bool
has_piece (step.Bytes c piece) = is_piece piece
has_piece step.Open = true
has_piece (step.End c) = true
has_piece (step.Lose c) = true
has_piece (step.Await front n) = true
has_piece step.Break = true
