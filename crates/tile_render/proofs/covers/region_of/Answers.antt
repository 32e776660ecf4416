use Rattle.tile_render.proofs.Covering.{near_holds, none_covered}
use Rattle.tile_render.proofs.Steps.{option_of}
use Rattle.tile_render.proofs.covers.region_of.Goals as goal

pub returns-clause-holds : goal.returns-clause-holds
returns-clause-holds c =
    option_of _ _ _ _ c.region_near.result
    (none_covered c.args.w c.args.feature.now c.args.symbolizer c.bbox.result c.spread-across.result.0 c.spread-across.result.1 c.bbox.ensures.least.holds
    c.spread-across.ensures.across c.spread-across.ensures.down)
    (λ region near. near_holds c.args.w region c.args.feature.now c.args.symbolizer c.bbox.result c.spread-across.result.0 c.spread-across.result.1 c.bbox.ensures.least.holds
    c.spread-across.ensures.across c.spread-across.ensures.down near) c.region_near.ensures.holds
