use Rattle.std.proofs.Common.{◌∙◌, map, ap, sym}
use Rattle.std.specs.Prelude.{option_map}
use Rattle.plain_filters.specs.Filters.{tree_of}
use Rattle.tile_render.specs.inner.Chosen.{filters_at}
use Rattle.tile_render.proofs.Tables.{of_both, made_of}
use Rattle.tile_render.proofs.scaled.ScaledStyle.filters.Goals as goal

pub returns : goal.returns
returns c =
    made_of c.of.result (map (λ f. option_map tree_of f.now) c.as_slice-2.result.now) (filters_at c.args.self.now)
    (ap (map (λ f. option_map tree_of f.now)) c.as_slice-2.ensures.value ∙ c.in_ok-filters.ensures ∙ ap (map (λ r. r.now.filter)) c.as_slice.ensures.value
    ∙ sym (of_both c.self.inside.rules.items) ∙ ap (map (λ r. r.filter)) c.self.invariant.0 ∙ ap filters_at c.self.view_is)
    c.of.ensures
