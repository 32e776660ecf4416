-- The drawing as whole pictures: what each step makes of all pixels of a window at once. Words of
-- inner contracts.
use Rattle.std.specs.Prelude.{ℕ, if◌then◌else◌, List, fold, flat_map}
use Rattle.plain_world.specs.declared.world.Window.{Window}
use Rattle.plain_drawing.specs.declared.style.Symbolizer.{Symbolizer}
use Rattle.plain_shapes.specs.Features.{Layer}
use Rattle.plain_drawing.specs.Styles.{Style, LayerRef, MapStyle}
use Rattle.plain_shapes.specs.Images.{Pixels}
use Rattle.plain_shapes.specs.inner.Canvas.{stepped}
use Rattle.plain_drawing.specs.Rules.{item_symbolizers}
use Rattle.plain_drawing.specs.Drawing.{Item, item_attrs, symbolizer_at, items_of, style_named, is_drawn}

-- the picture after one symbolizer on an item
unfoldable pub with_symbolizer : Window → Item → Pixels → Symbolizer → Pixels
with_symbolizer w item image s = stepped w (λ c d. symbolizer_at w.pixel item c d s) image

-- after all that an item meets in a style
unfoldable pub with_item : Window → ℕ → Style → Pixels → Item → Pixels
with_item w denominator style image item =
    fold (with_symbolizer w item) image (item_symbolizers (item_attrs item) denominator style)

-- after a style's pass over all items
unfoldable pub with_style : Window → ℕ → List Item → Pixels → Style → Pixels
with_style w denominator items image style = fold (with_item w denominator style) image items

-- after a layer
unfoldable pub with_layer : Window → ℕ → MapStyle → List Layer → Pixels → LayerRef → Pixels
with_layer w denominator style data_layers image layer =
    if is_drawn denominator layer
    then fold (with_style w denominator (items_of style.grids data_layers layer.source)) image
    (flat_map (style_named style.styles) layer.styles)
    else image

-- after all layers of a map style
unfoldable pub with_map : Window → ℕ → MapStyle → List Layer → Pixels → Pixels
with_map w denominator style data_layers image =
    fold (with_layer w denominator style data_layers) image style.layers
