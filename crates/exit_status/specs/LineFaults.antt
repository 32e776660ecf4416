-- The texts of the faults of scripts and expiry lists, with the number of the line; want of memory
-- has none.
use Rattle.std.specs.Prelude.{ℕ, List, ◌++◌, Option, Some, None, codes}
use Rattle.std.specs.Fmt.{decimal}
use Rattle.expiry_lists.specs.declared.faults.ListFault.{ListFault}
use Rattle.expiry_lists.specs.declared.faults.ListFault.TheVariants as list
use Rattle.script_lines.specs.declared.script.ScriptFault.{ScriptFault}
use Rattle.script_lines.specs.declared.script.ScriptFault.TheVariants as script

-- the text of a script's fault
abbrev pub script_text : ScriptFault → Option (List ℕ)
script_text (script.Line number) = Some (codes "script 1 at line " ++ decimal number)
script_text script.NoMemory = None

-- the text of an expiry list's fault
abbrev pub list_text : ListFault → Option (List ℕ)
list_text (list.Line number) = Some (codes "list 1 at line " ++ decimal number)
list_text list.NoMemory = None
