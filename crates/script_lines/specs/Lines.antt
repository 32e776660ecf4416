-- The lines of a script. Words are separated by one space; numbers are decimal without leading
-- zeros. Each reader is given the fault of its line.
use Rattle.std.specs.Prelude.{ℕ, ◌^◌, nat_le, if◌then◌else◌, List, length, codes, Option, Some, None, Result, Ok, Err}
use Rattle.std.specs.Option.{ok_or}
use Rattle.std.specs.Str.{bytes_eq}
use Rattle.farm_base.specs.Cuts.{cut_at}
use Rattle.farm_base.specs.Numbers.{decimal_below}
use Rattle.reading.specs.Steps.{◌>>=◌, check}
use Rattle.farm_history.specs.declared.asks.Cmd.{Cmd}
use Rattle.farm_history.specs.declared.asks.Cmd.TheVariants as cmd
use Rattle.script_lines.specs.declared.script.ScriptFault.{ScriptFault}
use Rattle.script_lines.specs.declared.script.ScriptLine.{ScriptLine}
use Rattle.script_lines.specs.declared.script.ScriptLine.TheVariants.{Ask, Claim, Finish, Cut, Update, Expire, Fetch, Look, Collect, Leave, Tally, Stop, Restyle, Renew}

-- the first word, and the words behind the space after it
abbrev pub word_of : ScriptFault → List ℕ → Result (List ℕ × List ℕ) ScriptFault
word_of fault text = ok_or (cut_at 32 text) fault

-- a number of 32 bits
abbrev pub number_of : ScriptFault → List ℕ → Result ℕ ScriptFault
number_of fault word = ok_or (decimal_below (2 ^ 32) word) fault

-- the command of a word
abbrev pub cmd_of : List ℕ → Option Cmd
cmd_of word =
    if bytes_eq word (codes "render") then Some cmd.Render else
    if bytes_eq word (codes "prio") then Some cmd.Prio else
    if bytes_eq word (codes "low") then Some cmd.Low else
    if bytes_eq word (codes "bulk") then Some cmd.Bulk else
    if bytes_eq word (codes "dirty") then Some cmd.Dirty else None

-- the three numbers of a tile: Z X Y
unfoldable pub line_tile : ScriptFault → List ℕ → Result (ℕ × ℕ × ℕ) ScriptFault
line_tile fault text = do
  first ← word_of fault text
  second ← word_of fault first.1
  z ← number_of fault first.0
  x ← number_of fault second.0
  y ← number_of fault second.1
  Ok (z, x, y)

-- a tile of a map: MAP Z X Y; the map need not be one of the farm, and its name is any word of at
-- least one byte
unfoldable pub place_of : ScriptFault → List ℕ → Result (List ℕ × (ℕ × ℕ × ℕ)) ScriptFault
place_of fault text = do
  first ← word_of fault text
  map ← check (nat_le 1 (length first.0)) fault >>= λ u. Ok first.0
  tile ← line_tile fault first.1
  Ok (map, tile)

-- ask C CMD MAP Z X Y
unfoldable pub ask_of : ScriptFault → List ℕ → Result ScriptLine ScriptFault
ask_of fault text = do
  first ← word_of fault text
  second ← word_of fault first.1
  conn ← number_of fault first.0
  command ← ok_or (cmd_of second.0) fault
  place ← place_of fault second.1
  Ok (Ask conn command place.0 place.1.0 place.1.1 place.1.2)

-- a line whose one word behind its name is a number
abbrev pub number_command : (ℕ → ScriptLine) → ScriptFault → List ℕ → Result ScriptLine ScriptFault
number_command line fault word = number_of fault word >>= λ n. Ok (line n)

-- a line whose one word behind its name is a ticket, a number of 64 bits
abbrev pub ticket_command : (ℕ → ScriptLine) → ScriptFault → List ℕ → Result ScriptLine ScriptFault
ticket_command line fault word = ok_or (decimal_below (2 ^ 64) word) fault >>= λ n. Ok (line n)

-- the line of this name with these words behind it; there is no line of another name
unfoldable pub line_named : ScriptFault → List ℕ → List ℕ → Result ScriptLine ScriptFault
line_named fault name rest =
    if bytes_eq name (codes "ask") then ask_of fault rest else
    if bytes_eq name (codes "claim") then number_command Claim fault rest else
    if bytes_eq name (codes "finish") then ticket_command Finish fault rest else
    if bytes_eq name (codes "cut") then ticket_command Cut fault rest else
    if bytes_eq name (codes "update") then number_command Update fault rest else
    if bytes_eq name (codes "restyle") then number_command Restyle fault rest else
    if bytes_eq name (codes "renew") then number_command Renew fault rest else
    if bytes_eq name (codes "expire")
    then (line_tile fault rest >>= λ tile. Ok (Expire tile.0 tile.1 tile.2)) else
    if bytes_eq name (codes "fetch")
    then (place_of fault rest >>= λ place. Ok (Fetch place.0 place.1.0 place.1.1 place.1.2))
    else
    if bytes_eq name (codes "look")
    then (place_of fault rest >>= λ place. Ok (Look place.0 place.1.0 place.1.1 place.1.2)) else
    if bytes_eq name (codes "collect") then number_command Collect fault rest else
    if bytes_eq name (codes "leave") then number_command Leave fault rest else Err fault

-- the line that is one word
unfoldable pub line_alone : ScriptFault → List ℕ → Result ScriptLine ScriptFault
line_alone fault word =
    if bytes_eq word (codes "tally") then Ok Tally else
    if bytes_eq word (codes "stop") then Ok Stop else Err fault

-- a line that is cut at its first space, if it has one
abbrev pub line_cut : ScriptFault → List ℕ → Option (List ℕ × List ℕ)
    → Result ScriptLine ScriptFault
line_cut fault line None = line_alone fault line
line_cut fault line (Some p) = line_named fault p.0 p.1

-- a line
unfoldable pub script_line_of : ScriptFault → List ℕ → Result ScriptLine ScriptFault
script_line_of fault line = line_cut fault line (cut_at 32 line)
