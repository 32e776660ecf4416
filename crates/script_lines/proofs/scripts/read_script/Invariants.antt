use Rattle.std.proofs.Common.{◌≡◌, ◌+◌, ◌≤◌, length}
use Rattle.std.specs.Str.Lines.{lines}
use Rattle.reading.specs.Lines.{items_after}
use Rattle.script_lines.specs.declared.script.ScriptFault.TheVariants.{Line}
use Rattle.script_lines.specs.Scripts.{line_read, script_in}
use Rattle.script_lines.proofs.scripts.read_script.Given as goal

-- what is left of the text, after the lines so far, says all
abbrev pub invariant-loop-line : goal.invariant-loop-line
invariant-loop-line l = record {
  told : items_after line_read Line (l.number + 1) l.lines.items (lines l.rest) ≡ script_in l.fn.bytes;
  few : l.number ≤ 1000000;
  count : length l.lines.items ≤ l.number;
}

abbrev pub decreases-loop-line : goal.decreases-loop-line
decreases-loop-line l = length l.rest
