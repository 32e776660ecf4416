-- What a script says, line by line: the lines that are not skipped, or the first line that is none.
use Rattle.std.specs.Prelude.{ℕ, ◌==◌, Bool, true, if◌then◌else◌, List, [], ◌∷◌, Option, Some, None, Result, Ok}
use Rattle.std.specs.Str.Lines.{lines}
use Rattle.reading.specs.Lines.{line_text, items_after}
use Rattle.reading.specs.Steps.{◌>>=◌}
use Rattle.script_lines.specs.declared.script.ScriptFault.{ScriptFault}
use Rattle.script_lines.specs.declared.script.ScriptFault.TheVariants.{Line}
use Rattle.script_lines.specs.declared.script.ScriptLine.{ScriptLine}
use Rattle.script_lines.specs.Lines.{script_line_of}

-- a line that says nothing: an empty one, or one that begins with `#`
abbrev pub is_skipped : List ℕ → Bool
is_skipped [] = true
is_skipped (b ∷ bs) = b == 35

-- what a line says, nothing where it is skipped
unfoldable pub line_read : ScriptFault → List ℕ → Result (Option ScriptLine) ScriptFault
line_read fault line = if is_skipped line then Ok None
    else (line_text fault line >>= λ text. script_line_of fault text >>= λ l. Ok (Some l))

-- what the bytes of a script say; lines are counted from 1, the skipped ones too
unfoldable pub script_in : List ℕ → Result (List ScriptLine) ScriptFault
script_in bytes = items_after line_read Line 1 [] (lines bytes)
