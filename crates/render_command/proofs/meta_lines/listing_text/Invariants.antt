use Rattle.std.proofs.Common.{◌≡◌, ◌++◌, take}
use Rattle.std.specs.List.{flat_map}
use Rattle.render_command.specs.inner.MetaLines.{meta_line, entry_line}
use Rattle.render_command.proofs.meta_lines.listing_text.Given as goal

abbrev pub invariant-loop-entry : goal.invariant-loop-entry
invariant-loop-entry l = l.text.items ≡ meta_line l.listing.meta ++ flat_map entry_line (take l.entry-index l.entry-items)
