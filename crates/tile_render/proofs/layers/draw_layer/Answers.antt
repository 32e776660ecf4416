use Rattle.std.proofs.Common.{◌≡◌, ℕ, ◌∙◌, ap, List, fold, find, None, Some}
use Rattle.std.specs.Prelude.{Option, option_to_list}
use Rattle.std.specs.Str.{bytes_eq}
use Rattle.plain_drawing.specs.Styles.{Style}
use Rattle.plain_drawing.specs.Drawing.{style_named}
use Rattle.plain_drawing.specs.inner.Pictures.{with_style}
use Rattle.tile_render.specs.inner.Items.{items_in}
use Rattle.tile_render.proofs.Steps.{named_next}
use Rattle.tile_render.proofs.layers.draw_layer.Goals as goal

-- the style found, in the words of the drawing
found_named : (styles all : List Style) (text name : List ℕ) (found : Option Style) → found ≡ find (λ s. bytes_eq s.name text) styles → styles ≡ all → text ≡ name
    → option_to_list found ≡ style_named all name
found_named styles all text name found is same_styles same_name =
    ap option_to_list (is ∙ ap (find (λ s. bytes_eq s.name text)) same_styles ∙ ap (λ n. find (λ s. bytes_eq s.name n) all) same_name)

pub loop-name-preserved-in_default : goal.loop-name-preserved-in_default
loop-name-preserved-in_default c =
    let h = with_style c.args.canvas.now.window c.args.denominator (items_in c.items_of-items.result) in
    record {
      drawn =
          named_next h (style_named c.args.style.now.styles) c.deref-name-items.result.now c.args.canvas.now.image c.loop-name.canvas.image c.loop-name.canvas.image c.loop-name.name-index
          c.name-item.result c.loop-name-test.true c.name-item.is c.loop-name.invariant.drawn
          (ap (fold h c.loop-name.canvas.image)
          (found_named c.deref.result.now c.args.style.now.styles c.as_str-in-loop-name.result.now c.name-item.result None c.in_default.ensures
          (c.deref.ensures.value ∙ ap (λ s. s.styles) c.style.view_is) c.as_str-in-loop-name.ensures));
      window = c.loop-name.invariant.window;
      nearby = c.loop-name.invariant.nearby;
    }

pub loop-name-preserved : goal.loop-name-preserved
loop-name-preserved c =
    let h = with_style c.args.canvas.now.window c.args.denominator (items_in c.items_of-items.result) in
    record {
      drawn =
          named_next h (style_named c.args.style.now.styles) c.deref-name-items.result.now c.args.canvas.now.image c.loop-name.canvas.image c.draw_style.new.canvas.image c.loop-name.name-index
          c.name-item.result c.loop-name-test.true c.name-item.is c.loop-name.invariant.drawn
          (c.in_ok-draw_style.ensures.drawn
          ∙ ap (λ w. with_style w c.args.denominator (items_in c.items_of-items.result) c.loop-name.canvas.image c.in-Some.named.now) c.loop-name.invariant.window
          ∙ ap (fold h c.loop-name.canvas.image)
          (found_named c.deref.result.now c.args.style.now.styles c.as_str-in-loop-name.result.now c.name-item.result (Some c.in-Some.named.now) c.in-Some.ensures
          (c.deref.ensures.value ∙ ap (λ s. s.styles) c.style.view_is) c.as_str-in-loop-name.ensures));
      window = c.draw_style.ensures.window ∙ c.loop-name.invariant.window;
      nearby = c.draw_style.ensures.nearby ∙ c.loop-name.invariant.nearby;
    }
