-- The picture that the steps make has at each centre the colour that the steps make there.
use Rattle.std.proofs.Common.{◌≡◌, ◌*◌, ℕ, zero, suc, arith, Bool, true, false, refl, ap, sym, ◌∙◌, List, [], ◌∷◌, length, map, fold, flat_map, replicate}
use Rattle.std.specs.Prelude.{if◌then◌else◌}
use Rattle.plain_world.specs.declared.world.Point.{Point}
use Rattle.plain_world.specs.declared.world.Tile.{Tile}
use Rattle.plain_world.specs.declared.world.Window.{Window}
use Rattle.plain_shapes.specs.declared.colour.Colour.{Colour}
use Rattle.plain_drawing.specs.declared.style.Symbolizer.{Symbolizer}
use Rattle.plain_world.specs.World.{centres, window_of}
use Rattle.plain_shapes.specs.Features.{Layer}
use Rattle.plain_drawing.specs.Styles.{Style, LayerRef, MapStyle}
use Rattle.plain_shapes.specs.Images.{Pixels}
use Rattle.plain_shapes.specs.inner.Canvas.{at_centres, stepped}
use Rattle.plain_drawing.specs.Rules.{item_symbolizers, denominator_of}
use Rattle.plain_drawing.specs.Drawing.{drawn_tile, pixels_text, pixel_of, colour_at, Item, item_attrs, symbolizer_at, item_at, style_at, layer_at, items_of, style_named, is_drawn}
use Rattle.plain_shapes.proofs.Places.{length-centres}
use Rattle.plain_drawing.specs.inner.Pictures.{with_symbolizer, with_item, with_style, with_layer, with_map}

at_centres_none : {X : Type 0} (cs : List Point) (xs : List X) → at_centres (λ c x. x) cs xs ≡ xs
at_centres_none [] xs = refl
at_centres_none (c ∷ cs) [] = refl
at_centres_none (c ∷ cs) (x ∷ xs) = ap (λ ys. x ∷ ys) (at_centres_none cs xs)

pub at_centres-at_centres : {X : Type 0} (f g : Point → X → X) (cs : List Point) (xs : List X)
    → at_centres g cs (at_centres f cs xs) ≡ at_centres (λ c x. g c (f c x)) cs xs
at_centres-at_centres f g [] xs = refl
at_centres-at_centres f g (c ∷ cs) [] = refl
at_centres-at_centres f g (c ∷ cs) (x ∷ xs) = ap (λ ys. g c (f c x) ∷ ys) (at_centres-at_centres f g cs xs)

-- each element changed by its centre, where all are one
pub at_centres-replicate : {X : Type 0} (f : Point → X → X) (cs : List Point) (n : ℕ) (x : X)
    → n ≡ length cs → at_centres f cs (replicate n x) ≡ map (λ c. f c x) cs
at_centres-replicate f [] zero x e = refl
at_centres-replicate f [] (suc n) x e = absurd (omega arith)
at_centres-replicate f (c ∷ cs) zero x e = absurd (omega arith)
at_centres-replicate f (c ∷ cs) (suc n) x e = let k : n ≡ length cs = omega arith in ap (λ ys. f c x ∷ ys) (at_centres-replicate f cs n x k)

-- nothing changes where no pixel does
pub stepped_none : (w : Window) (image : Pixels) → stepped w (λ c d. d) image ≡ image
stepped_none w image = ap (λ p. record image { pixels = p }) (at_centres_none (centres w) image.pixels)

-- one step after another is the step of both
pub stepped-stepped : (w : Window) (f g : Point → Colour → Colour) (image : Pixels)
    → stepped w g (stepped w f image) ≡ stepped w (λ c d. g c (f c d)) image
stepped-stepped w f g image = ap (λ p. record image { pixels = p }) (at_centres-at_centres f g (centres w) image.pixels)

-- a fold of steps on pictures is the step of the folds at each centre
pub fold_stepped : {X : Type 0} (w : Window) (h : Point → Colour → X → Colour) (H : Pixels → X → Pixels)
    → ((image : Pixels) (x : X) → H image x ≡ stepped w (λ c d. h c d x) image)
    → (xs : List X) (image : Pixels) → fold H image xs ≡ stepped w (λ c d. fold (h c) d xs) image
fold_stepped w h H each [] image = sym (stepped_none w image)
fold_stepped w h H each (x ∷ xs) image =
    fold_stepped w h H each xs (H image x) ∙ ap (stepped w (λ c d. fold (h c) d xs)) (each image x)
    ∙ stepped-stepped w (λ c d. h c d x) (λ c d. fold (h c) d xs) image

symbolizer_step : (w : Window) (item : Item) (image : Pixels) (s : Symbolizer)
    → with_symbolizer w item image s ≡ stepped w (λ c d. symbolizer_at w.pixel item c d s) image
unfolding with_symbolizer
symbolizer_step w item image s = refl

item_step : (w : Window) (denominator : ℕ) (style : Style) (image : Pixels) (item : Item)
    → with_item w denominator style image item ≡ stepped w (λ c d. item_at w.pixel denominator style c d item) image
unfolding with_item
item_step w denominator style image item =
    fold_stepped w (symbolizer_at w.pixel item) (with_symbolizer w item) (symbolizer_step w item) (item_symbolizers (item_attrs item) denominator style) image

style_step : (w : Window) (denominator : ℕ) (items : List Item) (image : Pixels) (style : Style)
    → with_style w denominator items image style ≡ stepped w (λ c d. style_at w.pixel denominator items c d style) image
unfolding with_style
style_step w denominator items image style =
    fold_stepped w (item_at w.pixel denominator style) (with_item w denominator style) (item_step w denominator style) items image

-- a choice between a step and none
step_if : (w : Window) (b : Bool) (f : Point → Colour → Colour) (image chosen : Pixels)
    → chosen ≡ stepped w f image → (if b then chosen else image) ≡ stepped w (λ c d. if b then f c d else d) image
step_if w true f image chosen e = e
step_if w false f image chosen e = sym (stepped_none w image)

layer_step : (w : Window) (denominator : ℕ) (style : MapStyle) (data_layers : List Layer) (image : Pixels) (layer : LayerRef)
    → with_layer w denominator style data_layers image layer ≡ stepped w (λ c d. layer_at w.pixel denominator style data_layers c d layer) image
unfolding with_layer
layer_step w denominator style data_layers image layer =
    let items : List Item = items_of style.grids data_layers layer.source in
    step_if w (is_drawn denominator layer)
    (λ c d. fold (style_at w.pixel denominator items c) d (flat_map (style_named style.styles) layer.styles)) image _
    (fold_stepped w (style_at w.pixel denominator items) (with_style w denominator items) (style_step w denominator items)
    (flat_map (style_named style.styles) layer.styles) image)

-- all layers over a picture: at each centre the fold of the layers there
pub map_step : (w : Window) (denominator : ℕ) (style : MapStyle) (data_layers : List Layer) (image : Pixels)
    → with_map w denominator style data_layers image ≡ stepped w (λ c d. fold (layer_at w.pixel denominator style data_layers c) d style.layers) image
unfolding with_map
map_step w denominator style data_layers image =
    fold_stepped w (layer_at w.pixel denominator style data_layers) (with_layer w denominator style data_layers) (layer_step w denominator style data_layers) style.layers image

-- a picture that is all of one colour
abbrev pub one_colour : Window → Colour → Pixels
one_colour w colour = record { cols = w.cols; rows = w.rows; pixels = replicate (w.rows * w.cols) colour }

-- the layers over the background have at each centre of a window the colour of the drawing there
pub fresh_map : (w : Window) (z size : ℕ) (style : MapStyle) (data_layers : List Layer) → w.pixel ≡ pixel_of z size
    → with_map w (denominator_of z size) style data_layers (one_colour w style.background_color)
    ≡ record { cols = w.cols; rows = w.rows; pixels = map (colour_at style size z data_layers) (centres w) }
fresh_map w z size style data_layers e =
    map_step w (denominator_of z size) style data_layers (one_colour w style.background_color)
    ∙ ap (λ p. record { cols = w.cols; rows = w.rows; pixels = p })
    (at_centres-replicate (λ c d. fold (layer_at w.pixel (denominator_of z size) style data_layers c) d style.layers) (centres w) (w.rows * w.cols) style.background_color
    (sym (length-centres w)))
    ∙ ap (λ pixel. record {
      cols = w.cols;
      rows = w.rows;
      pixels = map (λ c. fold (layer_at pixel (denominator_of z size) style data_layers c) style.background_color style.layers) (centres w);
    }) e

-- the tile is the text of the picture of its window
pub drawn_as_tile : (style : MapStyle) (size : ℕ) (t : Tile) (data_layers : List Layer) (w : Window) (scale : ℕ) (fresh item_symbolizers : Pixels) (bytes : List ℕ)
    → w ≡ window_of t size → scale ≡ denominator_of t.z size → fresh ≡ one_colour w style.background_color → item_symbolizers ≡ with_map w scale style data_layers fresh
    → bytes ≡ pixels_text item_symbolizers.cols item_symbolizers.rows item_symbolizers.pixels → bytes ≡ drawn_tile style size t data_layers
drawn_as_tile style size t data_layers w scale fresh item_symbolizers bytes window_is scale_is fresh_is drawn_is bytes_are =
    let picture : item_symbolizers ≡ record { cols = size; rows = size; pixels = map (colour_at style size t.z data_layers) (centres (window_of t size)) } =
    drawn_is ∙ ap (with_map w scale style data_layers) fresh_is ∙ ap (λ n. with_map w n style data_layers (one_colour w style.background_color)) scale_is
    ∙ ap (λ v. with_map v (denominator_of t.z size) style data_layers (one_colour v style.background_color)) window_is
    ∙ fresh_map (window_of t size) t.z size style data_layers refl in
    bytes_are ∙ ap (λ p. pixels_text p.cols p.rows p.pixels) picture
