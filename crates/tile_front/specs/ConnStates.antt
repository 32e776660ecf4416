-- How far a session is.
use Rattle.std.specs.Prelude.{ℕ, ◌==◌, Bool, true, false, cond, Option, Some, None, option_and_then}
use Rattle.farm_history.specs.declared.asks.Spot.{Spot}
use Rattle.tile_front.specs.declared.conn_states.Stage.{Stage}
use Rattle.tile_front.specs.declared.conn_states.Stage.TheVariants.{Reading, Waiting, Answered}

-- the head is still read
abbrev pub is_reading : Stage → Bool
is_reading Reading = true
is_reading _ = false

-- the request was answered
abbrev pub is_answered : Stage → Bool
is_answered Answered = true
is_answered _ = false

-- the ask that waits: its number and its spot
abbrev pub waits_in : Stage → Option (ℕ × Spot)
waits_in (Waiting n s) = Some (n, s)
waits_in _ = None

-- the spot, where that ask waits
abbrev pub spot_at : ℕ → Option (ℕ × Spot) → Option Spot
spot_at n waits = option_and_then (λ (p : ℕ × Spot). cond (p.0 == n) (Some p.1) None) waits
