-- The targets of requests.
use Rattle.std.specs.Prelude.{◌≡◌, ℕ, ◌^◌, ◌<◌, List, ◌∷◌, ◌++◌, codes}
use Rattle.std.specs.Fmt.{decimal}
use Rattle.tile_paths.specs.Paths.{IsName}
use Rattle.tile_front.specs.declared.targets.Kind.{Kind}
use Rattle.tile_front.specs.declared.targets.Kind.TheVariants as kind
use Rattle.tile_front.specs.declared.targets.Target.{Target}

-- a tile as a target names it
pub record Place : Type 0 where
  pub name : List ℕ
  pub z : ℕ
  pub x : ℕ
  pub y : ℕ

-- a map may have the name, and the numbers have 32 bits
pub record IsPlace (p : Place) : Type 0 where
  pub name : IsName p.name
  pub z_fits : p.z < 2 ^ 32
  pub x_fits : p.x < 2 ^ 32
  pub y_fits : p.y < 2 ^ 32

abbrev pub ending : Kind → List ℕ
ending kind.Tile = codes "ppm"
ending kind.Status = codes "ppm/status"
ending kind.Dirty = codes "ppm/dirty"

-- the target: the name, the zoom, the column and the row, a slash before each, and a dot and its
-- ending
abbrev pub target_of : Kind → Place → List ℕ
target_of k p =
    47 ∷ (p.name ++ 47 ∷ (decimal p.z ++ 47 ∷ (decimal p.x ++ 47 ∷ (decimal p.y ++ 46 ∷ ending k))))

-- the target asks this of that tile
pub record Names (target : List ℕ) (k : Kind) (p : Place) : Type 0 where
  pub place : IsPlace p
  pub text : target ≡ target_of k p

-- it asks for no tile
abbrev pub NamesNone : List ℕ → Type 0
NamesNone target = (k : Kind) (p : Place) → ¬ (Names target k p)

-- the tile of a target that was read
abbrev pub place_of : Target → Place
place_of t = record { name = t.name.now; z = t.z; x = t.x; y = t.y }
