-- Single lines and words of a script, as the code reads them. Words of inner contracts.
use Rattle.std.specs.Prelude.{ℕ, ◌^◌, nat_le, List, length, Result, Ok}
use Rattle.std.specs.Option.{ok_or}
use Rattle.farm_base.specs.Numbers.{decimal_below}
use Rattle.reading.specs.Steps.{◌>>=◌, check}
use Rattle.script_lines.specs.declared.script.ScriptFault.{ScriptFault}
use Rattle.script_lines.specs.declared.script.ScriptLine.{ScriptLine}
use Rattle.script_lines.specs.declared.script.ScriptLine.TheVariants.{Expire, Fetch, Look}
use Rattle.script_lines.specs.Lines.{line_tile, place_of}

-- fetch MAP Z X Y
abbrev pub fetch_of : ScriptFault → List ℕ → Result ScriptLine ScriptFault
fetch_of fault text =
    place_of fault text >>= λ place. Ok (Fetch place.0 place.1.0 place.1.1 place.1.2)

-- look MAP Z X Y
abbrev pub look_of : ScriptFault → List ℕ → Result ScriptLine ScriptFault
look_of fault text =
    place_of fault text >>= λ place. Ok (Look place.0 place.1.0 place.1.1 place.1.2)

-- expire Z X Y
abbrev pub expire_of : ScriptFault → List ℕ → Result ScriptLine ScriptFault
expire_of fault text = line_tile fault text >>= λ tile. Ok (Expire tile.0 tile.1 tile.2)

-- a ticket, a number of 64 bits
abbrev pub ticket_of : ScriptFault → List ℕ → Result ℕ ScriptFault
ticket_of fault word = ok_or (decimal_below (2 ^ 64) word) fault

-- the name of a map, which need not be one of the farm: any word of at least one byte
abbrev pub map_word : ScriptFault → List ℕ → Result (List ℕ) ScriptFault
map_word fault word = check (nat_le 1 (length word)) fault >>= λ u. Ok word
