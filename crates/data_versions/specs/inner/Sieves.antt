-- Which features of a chunk a walk looks at.
use Rattle.std.specs.Prelude.{◌≡◌, ◌⊎◌, ◌≤◌, ◌<◌, ⊤, ℕ, Bool, true, false, List, length, get_or}
use Rattle.attribute_marks.specs.Marks.{HasMarks}
use Rattle.plain_shapes.specs.Features.{Feature}
use Rattle.data_versions.specs.Near.{box_of, is_near, IsUnasked}
use Rattle.geo_model.specs.declared.bounds.Bounds.{Bounds}
use Rattle.data_versions.specs.declared.grid.GridBox.{GridBox}
use Rattle.data_versions.specs.declared.sieve.Sieve.{Sieve}
use Rattle.data_versions.specs.declared.sieve.Sifted.{Sifted}
use Rattle.data_versions.specs.declared.question.Wanted.{Wanted}
use Rattle.data_versions.specs.declared.question.Question.{Question}
use Rattle.data_versions.specs.declared.question.Question.TheVariants.{HasId, IsNear}
use Rattle.data_versions.specs.inner.Grids.{on_grid}

-- the k-th box
abbrev pub box_at : Sieve → ℕ → GridBox
box_at s k = record {
  west = get_or s.west k 0;
  north = get_or s.north k 0;
  east = get_or s.east k 0;
  south = get_or s.south k 0;
}

-- the box has a point
pub record HasPoint (b : Bounds) : Type 0 where
  pub across : b.west ≤ b.east
  pub down : b.north ≤ b.south

-- there are 64 of each
pub record IsLong (s : Sieve) : Type 0 where
  pub west : length s.west ≡ 64
  pub north : length s.north ≡ 64
  pub east : length s.east ≡ 64
  pub south : length s.south ≡ 64
  pub marks : length s.marks ≡ 64

-- the k-th box and the k-th marks are those of the feature, and its box has a point if all are
-- said to have one
pub record IsSeen (s : Sieve) (k : ℕ) (f : Feature) : Type 0 where
  pub box : box_at s k ≡ on_grid s.grid (box_of f)
  pub marks : HasMarks (get_or s.marks k 0) f.attrs
  pub point : s.have_points ≡ true → HasPoint (box_of f)

-- the boxes and the marks are those of the features, in order
pub record IsSieve (s : Sieve) (features : List Feature) : Type 0 where
  pub long : IsLong s
  pub few : length features ≤ 64
  pub each : (k : ℕ) (d : Feature) → k < length features → IsSeen s k (get_or features k d)

-- the feature is not near, or not asked for
abbrev pub IsPassed : Wanted → Feature → Type 0
IsPassed w f = (is_near w.around f ≡ false) ⊎ IsUnasked w.asked f

-- of the features, 64 at most, one that is not marked is passed
pub record IsMarked (w : Wanted) (may : List Bool) (features : List Feature) : Type 0 where
  pub few : length features ≤ 64
  pub long : length may ≡ 64
  pub each : (k : ℕ) (d : Feature) → k < length features → get_or may k true ≡ false
      → IsPassed w (get_or features k d)

-- one that is not marked is passed, and all are near if it is said so
pub record IsSifted (w : Wanted) (sifted : Sifted) (features : List Feature) : Type 0 where
  pub marked : IsMarked w sifted.may features
  pub near : sifted.are_near ≡ true → (k : ℕ) (d : Feature) → k < length features
      → is_near w.around (get_or features k d) ≡ true

-- where near features are looked for, one that is not marked is passed
abbrev pub Sifts : Question → Sifted → List Feature → Type 0
Sifts (HasId id) sifted features = ⊤
Sifts (IsNear w) sifted features = IsSifted w sifted features
