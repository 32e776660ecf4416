-- What is done to masks and images: bits are set and pixels painted at the centres of a window, and
-- parts are cut out. Words of inner contracts: no colour of a drawing is defined by them.
use Rattle.std.specs.Prelude.{◌≡◌, ℕ, ◌+◌, ◌*◌, Bool, true, ◌||◌, cond, List, [], ◌∷◌, take, drop, flat_map}
use Rattle.std.specs.List.{range_with_len}
use Rattle.plain_world.specs.declared.world.Point.{Point}
use Rattle.plain_world.specs.declared.world.Window.{Window}
use Rattle.plain_shapes.specs.declared.colour.Colour.{Colour}
use Rattle.plain_shapes.specs.Images.{Bits, Pixels}
use Rattle.plain_shapes.specs.Blending.{blend}
use Rattle.plain_world.specs.World.{centres}

-- the list with each element changed by the centre at its place; what is past the centres stays
abbrev pub at_centres : {X : Type 0} → (Point → X → X) → List Point → List X → List X
at_centres f [] xs = xs
at_centres f (c ∷ cs) [] = []
at_centres f (c ∷ cs) (x ∷ xs) = f c x ∷ at_centres f cs xs

-- the bits, with those also set whose pixel centre is a member
abbrev pub marked : (Point → Bool) → List Point → List Bool → List Bool
marked member cs bits = at_centres (λ c b. b || member c) cs bits

-- the image with each pixel changed by its centre
abbrev pub stepped : Window → (Point → Colour → Colour) → Pixels → Pixels
stepped w f image = record image { pixels = at_centres f (centres w) image.pixels }

-- the pixels, with those that are covered painted over
abbrev pub painted : Colour → ℕ → List Bool → List Colour → List Colour
painted s opacity [] ds = ds
painted s opacity (b ∷ bs) [] = []
painted s opacity (b ∷ bs) (d ∷ ds) = cond b (blend s opacity d) d ∷ painted s opacity bs ds

-- a part of a list of rows, each of so many places across: so many columns from a column on, so
-- many rows from a row on
abbrev pub cut_rows : {X : Type 0} → ℕ → ℕ → ℕ → ℕ → ℕ → List X → List X
cut_rows across col row cols rows xs =
    flat_map (λ j. take cols (drop (j * across + col) xs)) (range_with_len row rows)

-- that part of an image
abbrev pub cut_of : Pixels → ℕ → ℕ → ℕ → ℕ → Pixels
cut_of image col row cols rows = record {
  cols = cols;
  rows = rows;
  pixels = cut_rows image.cols col row cols rows image.pixels;
}

-- some of the bits whose pixel centre is a member are set, and no other bit changed
pub record SetsSome (member : Point → Bool) (w : Window) (old new : Bits) : Type 0 where
  pub chosen : Point → Bool
  pub belongs : (c : Point) → chosen c ≡ true → member c ≡ true
  pub is : new ≡ record old { bits = marked chosen (centres w) old.bits }

-- the bits now are those of old with the members among the first n centres set
pub record Reached (m : Point → Bool) (w : Window) (n : ℕ) (old now : Bits) : Type 0 where
  pub is : now ≡ record old { bits = marked m (take n (centres w)) old.bits }
