-- The lines of a script: from the first on, and one that is refused.
use Rattle.std.proofs.Common.{◌≡◌, ℕ, ◌≤◌, List, [], ◌∷◌, Result, Err, refl}
use Rattle.std.specs.Str.Lines.{lines}
use Rattle.reading.specs.Lines.{items_after}
use Rattle.reading.proofs.LineLoop.{items_refused}
use Rattle.script_lines.specs.declared.script.ScriptFault.{ScriptFault}
use Rattle.script_lines.specs.declared.script.ScriptFault.TheVariants.{Line}
use Rattle.script_lines.specs.declared.script.ScriptLine.{ScriptLine}
use Rattle.script_lines.specs.Scripts.{line_read, script_in}

pub script_starts : (bytes : List ℕ) → items_after line_read Line 1 [] (lines bytes) ≡ script_in bytes
unfolding script_in
script_starts bytes = refl

pub script_refused : (number : ℕ) (before : List ScriptLine) (text line behind : List ℕ) (fault : ScriptFault) (all : Result (List ScriptLine) ScriptFault)
    → items_after line_read Line number before (lines text) ≡ all → number ≤ 1000000 → lines text ≡ line ∷ lines behind → line_read (Line number) line ≡ Err fault → all ≡ Err fault
script_refused = items_refused line_read Line
