-- A set that has the ids of features.
use Rattle.std.specs.Prelude.{◌≡◌, ℕ, List}
use Rattle.std.specs.BTreeSet.{BTreeSet, contains}
use Rattle.std.specs.Ordering.{nat_cmp}
use Rattle.plain_shapes.specs.Features.{Feature}
use Rattle.plain_shapes.specs.Data.{has_id, ids_of}

-- the set has the ids of these features and no others
abbrev pub KnowsIds : BTreeSet ℕ → List Feature → Type 0
KnowsIds known before = (id : ℕ) → contains nat_cmp known id ≡ has_id (ids_of before) id
