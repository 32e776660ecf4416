use Rattle.std.proofs.Common.{◌≡◌, ℕ, ◌*◌, ◌++◌, List, length}
use Rattle.std.specs.Prelude.{IsTrue}
use Rattle.std.specs.List.{flat_map}
use Rattle.meta_container.specs.Container.{span_bytes, index_below}
use Rattle.meta_container.specs.Heads.{all_of_size}
use Rattle.meta_container.proofs.writing.put_even_index.Given as goal

abbrev pub invariant-loop-place : goal.invariant-loop-place
invariant-loop-place l =
    (tiles : List (List ℕ)) → length tiles ≡ l.across * l.across → IsTrue (all_of_size l.size tiles)
    → l.out.items ≡ l.fn.out.items ++ flat_map span_bytes (index_below l.across tiles l.place)
