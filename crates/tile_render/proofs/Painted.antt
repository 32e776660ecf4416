-- One symbolizer on one item, from what is painted to the picture after it.
use Rattle.std.proofs.Common.{◌≡◌, ◌<◌, ℕ, false, ap, sym, ◌∙◌, arith}
use Rattle.std.specs.Prelude.{if◌then◌else◌}
use Rattle.plain_world.specs.declared.world.Point.{Point}
use Rattle.plain_world.specs.declared.world.Window.{Window}
use Rattle.plain_world.specs.World.{centre}
use Rattle.plain_shapes.specs.declared.colour.Colour.{Colour}
use Rattle.plain_drawing.specs.declared.style.Symbolizer.{Symbolizer}
use Rattle.plain_drawing.specs.declared.style.Symbolizer.TheVariants as paint
use Rattle.plain_drawing.specs.Grids.{Grid}
use Rattle.drawing_reach.proofs.Unreached.{missed, all_centres}
use Rattle.plain_shapes.specs.Features.{Feature}
use Rattle.plain_shapes.specs.Blending.{blend_channel, blend}
use Rattle.plain_shapes.specs.Images.{Pixels}
use Rattle.plain_shapes.specs.inner.Canvas.{stepped}
use Rattle.plain_drawing.specs.Drawing.{Item, feature, raster, raster_over, covers, painted_over, symbolizer_at}
use Rattle.plain_drawing.specs.inner.Pictures.{with_symbolizer}
use Rattle.plain_drawing.proofs.Steps.{stepped_none}
use Rattle.tile_render.specs.inner.Regions.{over_member}

-- a symbolizer that changes no colour leaves the picture
pub untouched : (w : Window) (item : Item) (image : Pixels) (s : Symbolizer) → ((c : Point) (d : Colour) → symbolizer_at w.pixel item c d s ≡ d)
    → image ≡ with_symbolizer w item image s
unfolding with_symbolizer
untouched w item image s same = sym (ap (λ f. stepped w f image) (λ i c d. same c d i) ∙ stepped_none w image)

-- a symbolizer that covers no centre of the window leaves the picture
pub not_covered : (w : Window) (f : Feature) (image : Pixels) (s : Symbolizer)
    → ((j i : ℕ) → i < w.cols → j < w.rows → covers w.pixel f.geometry (centre w i j) s ≡ false) → image ≡ with_symbolizer w (feature f) image s
not_covered w f image s off = sym (missed w f image s (all_centres (λ c. covers w.pixel f.geometry c s ≡ false) w off))

-- the covered pixels painted over with the symbolizer's colour are its picture
pub painted_cover : (w : Window) (f : Feature) (s : Symbolizer) (colour : Colour) (opacity : ℕ) (image next : Pixels) → ((d : Colour) → painted_over d s ≡ blend colour opacity d)
    → next ≡ stepped w (over_member (λ c. covers w.pixel f.geometry c s) colour opacity) image → next ≡ with_symbolizer w (feature f) image s
unfolding with_symbolizer
painted_cover w f s colour opacity image next paint_is painted =
    painted ∙ sym (ap (λ g. stepped w g image) (λ i c d. if covers w.pixel f.geometry c s then paint_is d i else d))

-- a colour painted in no opacity
pub nothing_over : (s d : Colour) → d ≡ blend s 0 d
nothing_over s d = λ i. record { r = channel s.r d.r i; g = channel s.g d.g i; b = channel s.b d.b i }
  where
    channel : (s d : ℕ) → d ≡ blend_channel 0 s d
    channel s d = omega arith

-- a grid painted over the pixels is the picture of the RasterSymbolizer
pub grid_step : (w : Window) (g : Grid) (image next : Pixels) (opacity : ℕ) (s : Symbolizer) → s ≡ paint.Raster opacity
    → next ≡ stepped w (λ c d. raster_over g c d (paint.Raster opacity)) image → next ≡ with_symbolizer w (raster g) image s
unfolding with_symbolizer
grid_step w g image next opacity s is next_is = next_is ∙ ap (λ t. stepped w (λ c d. raster_over g c d t) image) (sym is)
