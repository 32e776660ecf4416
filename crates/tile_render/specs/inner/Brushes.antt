-- A region of a picture whose covered pixels are painted straight over, at full opacity.
use Rattle.std.specs.Prelude.{◌≡◌, ℕ, ◌+◌, ◌-◌, ◌*◌, ◌<◌, ◌≤◌, min, Bool, true, false, List, length, slice_index_or}
use Rattle.plain_world.specs.Limits.{most_side}
use Rattle.plain_shapes.specs.declared.colour.Colour.{Colour}
use Rattle.plain_shapes.specs.Images.{Bits, Pixels, IsRaster}
use Rattle.tile_render.specs.declared.regions.Region.{Region}
use Rattle.tile_render.specs.declared.brushes.Brush.{Brush}
use Rattle.tile_render.specs.inner.Regions.{InRegion}

-- the columns and rows of the region that lie in the picture
abbrev pub brush_cols : Brush → ℕ
brush_cols b = min b.region.cols (min b.image.now.cols most_side - b.region.col)

abbrev pub brush_rows : Brush → ℕ
brush_rows b = min b.region.rows (min b.image.now.rows most_side - b.region.row)

-- the region lies in the picture, which has a pixel for each place
pub record IsOver (r : Region) (image : Pixels) : Type 0 where
  pub in_cols : r.col + r.cols ≤ image.cols
  pub in_rows : r.row + r.rows ≤ image.rows
  pub raster : IsRaster image.cols image.rows (length image.pixels)

-- the picture now has the colour at the region's pixels whose bits are set, and is as it was at the
-- start elsewhere
pub record HasColour (r : Region) (colour : Colour) (bits : List Bool)
    (start now : Pixels) : Type 0 where
  pub cols : now.cols ≡ start.cols
  pub rows : now.rows ≡ start.rows
  pub count : length now.pixels ≡ length start.pixels
  pub on : (j i : ℕ) → j < r.rows → i < r.cols → slice_index_or bits (j * r.cols + i) false ≡ true
      → slice_index_or now.pixels ((r.row + j) * start.cols + (r.col + i)) colour ≡ colour
  pub off : (j i : ℕ) → j < r.rows → i < r.cols → slice_index_or bits (j * r.cols + i) false ≡ false
      → slice_index_or now.pixels ((r.row + j) * start.cols + (r.col + i)) colour
      ≡ slice_index_or start.pixels ((r.row + j) * start.cols + (r.col + i)) colour
  pub out : (j i : ℕ) → i < start.cols → (InRegion r i j → ⊥)
      → slice_index_or now.pixels (j * start.cols + i) colour
      ≡ slice_index_or start.pixels (j * start.cols + i) colour

-- the brush now is the brush of the start, with the pixels painted whose bits are set
pub record ShowsBits (start now : Brush) (bits : Bits) : Type 0 where
  pub reference : now.image.ghost_name ≡ start.image.ghost_name
  pub region : now.region ≡ start.region
  pub colour : now.colour ≡ start.colour
  pub over : IsOver start.region start.image.now
  pub count : length bits.bits ≡ start.region.rows * start.region.cols
  pub painted : HasColour start.region start.colour bits.bits start.image.now now.image.now
