-- A window and its picture.
use Rattle.std.specs.Prelude.{◌≡◌}
use Rattle.plain_world.specs.declared.world.Window.{Window}
use Rattle.plain_world.specs.World.{IsWindow}
use Rattle.plain_shapes.specs.Images.{Pixels}

-- a window and the picture of it
pub record Canvas : Type 0 where
  pub window : Window
  pub image : Pixels

-- the picture has a pixel for each of the window's
pub record IsCanvas (w : Window) (image : Pixels) : Type 0 where
  pub valid : IsWindow w
  pub cols : image.cols ≡ w.cols
  pub rows : image.rows ≡ w.rows
