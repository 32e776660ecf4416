-- What follows the items left, with what was made so far, follows all.
use Rattle.std.proofs.Common.{drop}
use Rattle.farm_files.proofs.Each.{Goes}
use Rattle.farm_files.proofs.lists.load_each.Given as goal

abbrev pub invariant-loop-item : goal.invariant-loop-item
invariant-loop-item g l =
    Goes (g.L.Load.course l.loader) l.items l.loaded.items (drop l.item-index l.items) (g.F.Files.state l.fn.files) (g.F.Files.state l.files)
