use Rattle.std.proofs.Common.{◌≡◌, ◌++◌, drop}
use Rattle.std.specs.List.{flat_map}
use Rattle.farm_saved.specs.Writing.{style_bytes}
use Rattle.farm_saved.proofs.writing.put_styles.Given as goal

abbrev pub invariant-loop-style : goal.invariant-loop-style
invariant-loop-style l = l.out.items ++ flat_map style_bytes (drop l.style-index l.styles) ≡ l.fn.out.items ++ flat_map style_bytes l.styles
