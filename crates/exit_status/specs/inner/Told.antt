-- The two parts of how an end is told. Words of inner contracts.
use Rattle.std.specs.Prelude.{ℕ, List, Result}
use Rattle.exit_status.specs.Stops.{told_of}
use Rattle.exit_status.specs.declared.stops.Stop.{Stop}

-- the exit status
abbrev pub status_of : Result (Unit {0}) Stop → ℕ
status_of end = (told_of end).0

-- the line on err
abbrev pub err_line : Result (Unit {0}) Stop → List ℕ
err_line end = (told_of end).1
