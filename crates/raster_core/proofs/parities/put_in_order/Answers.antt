use Rattle.std.proofs.lemmas.List.Sorted.{IsNonDecreasingBy-from_sort}
use Rattle.raster_core.proofs.Toggling.{same_sorted}
use Rattle.raster_core.proofs.parities.put_in_order.Goals as goal

pub returns-then-len-lt-SORTED-clause-order : goal.returns-then-len-lt-SORTED-clause-order
returns-then-len-lt-SORTED-clause-order c = IsNonDecreasingBy-from_sort (λ x. x) _ c.sort_unstable.ensures.sorted

pub returns-then-len-lt-SORTED-clause-parity : goal.returns-then-len-lt-SORTED-clause-parity
returns-then-len-lt-SORTED-clause-parity c = same_sorted _ _ c.sort_unstable.ensures.permutation
