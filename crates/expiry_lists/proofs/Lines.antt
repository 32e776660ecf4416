-- The lines of an expiry list: from the first on, and one that is refused.
use Rattle.std.proofs.Common.{◌≡◌, ℕ, ◌≤◌, List, [], ◌∷◌, Result, Err, refl}
use Rattle.std.specs.Str.Lines.{lines}
use Rattle.plain_world.specs.declared.world.Tile.{Tile}
use Rattle.reading.specs.Lines.{items_after}
use Rattle.reading.proofs.LineLoop.{items_refused}
use Rattle.expiry_lists.specs.declared.faults.ListFault.{ListFault}
use Rattle.expiry_lists.specs.declared.faults.ListFault.TheVariants.{Line}
use Rattle.expiry_lists.specs.Lists.{list_line, list_in}

pub list_starts : (bytes : List ℕ) → items_after list_line Line 1 [] (lines bytes) ≡ list_in bytes
unfolding list_in
list_starts bytes = refl

pub list_refused : (number : ℕ) (before : List Tile) (text line behind : List ℕ) (fault : ListFault) (all : Result (List Tile) ListFault)
    → items_after list_line Line number before (lines text) ≡ all → number ≤ 1000000 → lines text ≡ line ∷ lines behind → list_line (Line number) line ≡ Err fault → all ≡ Err fault
list_refused = items_refused list_line Line
