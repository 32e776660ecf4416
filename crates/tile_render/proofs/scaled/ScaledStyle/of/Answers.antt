use Rattle.std.proofs.Common.{◌∙◌, ap, map, filter}
use Rattle.std.specs.List.{list_all}
use Rattle.plain_drawing.specs.Rules.{at_scale}
use Rattle.plain_drawing.specs.Styles.{Style}
use Rattle.tile_render.specs.inner.Chosen.{RuleAsks, only_fills}
use Rattle.filter_expr.proofs.Marked.{weaker}
use Rattle.tile_render.proofs.Passing.{All-named, passes_over}
use Rattle.tile_render.proofs.scaled.ScaledStyle.of.Goals as goal

pub invariant_of-result : goal.invariant_of-result
invariant_of-result c =
    let active = c.in_ok-rules.ensures ∙ ap (filter (at_scale c.args.denominator)) c.as_slice.ensures.value
    ∙ ap (λ (s : Style). filter (at_scale c.args.denominator) s.rules) c.style.view_is in (
      active,
      weaker c.marks_of_rules-asked.result (λ asked all.
          passes_over asked c.args.denominator c.args.style.now (map (λ r. r.now) c.in_ok-rules.rules.items) active
          (All-named (λ r. r.now) (RuleAsks asked) c.in_ok-rules.rules.items (rw c.as_slice-2.ensures.value at all))) c.marks_of_rules-asked.ensures,
      c.all_only_fill-just_fills.ensures ∙ ap (list_all (λ r. only_fills r.now)) c.as_slice-3.ensures.value,
    )
