-- Arrays of another length than a point has.
use Rattle.std.proofs.Common.{◌≡◌, ◌≤◌, ◌<◌, length, List, [], ◌∷◌, refl, arith}
use Rattle.std.specs.Prelude.{Err}
use Rattle.serde_json.specs.View.{items_view}
use Rattle.serde_json.specs.declared.value.Value.{Value}
use Rattle.geo_json.specs.declared.faults.DataFault.{DataFault}
use Rattle.geo_json.specs.declared.coordinates.Units.{Units}
use Rattle.geo_json.specs.Coordinates.{pair_of}

pub pair_long : (units : Units) (shape : DataFault) (vs : List Value) → 3 ≤ length vs → pair_of units shape (items_view vs) ≡ Err shape
pair_long units shape [] h = absurd (omega arith)
pair_long units shape (x ∷ []) h = absurd (omega arith)
pair_long units shape (x ∷ y ∷ []) h = absurd (omega arith)
pair_long units shape (x ∷ y ∷ z ∷ vs) h = refl

pub pair_short : (units : Units) (shape : DataFault) (vs : List Value) → length vs < 2 → pair_of units shape (items_view vs) ≡ Err shape
pair_short units shape [] h = refl
pair_short units shape (x ∷ []) h = refl
pair_short units shape (x ∷ y ∷ vs) h = absurd (omega arith)
