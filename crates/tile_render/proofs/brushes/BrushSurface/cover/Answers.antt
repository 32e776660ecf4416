use Rattle.std.proofs.Common.{refl}
use Rattle.tile_render.proofs.Brushing.{brush_step}
use Rattle.tile_render.proofs.brushes.BrushSurface.cover.Goals as goal

pub returns-then-from-end-clause-bits : goal.returns-then-from-end-clause-bits
returns-then-from-end-clause-bits c start bits s =
    brush_step start c.args.self.now _ bits c.args.j c.args.from c.args.end c.requires.row c.requires.end c.if-from-end.true refl refl refl c.blend_run.ensures s
