use Rattle.std.proofs.Common.{◌≡◌, ◌∙◌, [], map, filter, ap, sym, subst}
use Rattle.plain_drawing.specs.Rules.{at_scale}
use Rattle.plain_drawing.specs.inner.Pictures.{with_style}
use Rattle.tile_render.specs.inner.Chosen.{Scaled}
use Rattle.tile_render.specs.inner.Items.{items_in}
use Rattle.tile_render.proofs.Choices.{no_items, none_drawn}
use Rattle.tile_render.proofs.styles.draw_style.Goals as goal

pub returns-then-is_empty-clause-drawn : goal.returns-then-is_empty-clause-drawn
unfolding with_style
returns-then-is_empty-clause-drawn c =
    let rules = map (λ r. r.now) c.rules.result.now in
    let active : rules ≡ filter (at_scale c.args.denominator) c.args.style.now.rules =
    subst (λ (s : Scaled). map (λ r. r.now) c.rules.result.now ≡ filter (at_scale s.denominator) s.style.rules) c.in_ok-scaled.ensures c.rules.ensures in
    let none : c.rules.result.now ≡ [] = no_items c.rules.result.now (sym c.is_empty.ensures ∙ c.if-is_empty.true) in
    sym (none_drawn c.args.canvas.now.window c.args.denominator c.args.style.now rules c.args.canvas.now.image (items_in c.args.items.now) active (ap (map (λ r. r.now)) none))
