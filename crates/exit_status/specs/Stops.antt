-- Why a command ended early, and the status and the line that tell it.
use Rattle.std.specs.Prelude.{ℕ, List, [], ◌++◌, Result, Ok, Err, codes}
use Rattle.exit_status.specs.declared.stops.Stop.{Stop}
use Rattle.exit_status.specs.declared.stops.Stop.TheVariants.{Refused, Words, Unreadable, SinkFailed, NoMemory, StoreFailed, PortsFailed, TurnsUsedUp}

-- How an end is told: the exit status, and the line on err, which is empty at the end of the
-- command and where a put failed.
abbrev pub told_of : Result (Unit {0}) Stop → ℕ × List ℕ
told_of (Ok done) = (0, [])
told_of (Err (Refused line)) = (1, line)
told_of (Err Words) = (2, codes "usage: tilefarm render STYLE DATA T Z X Y | script CONFIG SCRIPT | serve CONFIG | load SEED N | meta FILE\n")
told_of (Err (Unreadable line)) = (3, line)
told_of (Err SinkFailed) = (4, [])
told_of (Err NoMemory) = (5, codes "tilefarm: out of memory\n")
told_of (Err StoreFailed) = (6, codes "tilefarm: the store failed\n")
told_of (Err PortsFailed) = (7, codes "tilefarm: the ports failed\n")
told_of (Err TurnsUsedUp) = (8, codes "tilefarm: turns used up\n")

-- the line of a file that is refused: its name, and the text of its fault
abbrev pub refused_line : List ℕ → List ℕ → List ℕ
refused_line name text = codes "tilefarm: " ++ name ++ codes ": " ++ text ++ codes "\n"

-- the line of a file that cannot be read
abbrev pub unreadable_line : List ℕ → List ℕ
unreadable_line name = codes "tilefarm: " ++ name ++ codes ": cannot be read\n"
