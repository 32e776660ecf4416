-- Features and the layers of data, as drawings see them.
use Rattle.std.specs.Prelude.{ℕ, List}
use Rattle.farm_base.specs.declared.values.Attr.{Attr}
use Rattle.plain_shapes.specs.declared.shapes.Geometry.{Geometry}

-- a feature: its id, its shape and its attributes
pub record Feature : Type 0 where
  pub id : ℕ
  pub geometry : Geometry
  pub attrs : List Attr

-- a layer of data: its name and its features in order
pub record Layer : Type 0 where
  pub name : List ℕ
  pub features : List Feature
