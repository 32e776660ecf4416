use Rattle.std.proofs.Common.{◌+◌, ◌*◌, ◌/◌, ◌∙◌}
use Rattle.plain_world.specs.World.{centre}
use Rattle.plain_shapes.proofs.Signs.{downward_is}
use Rattle.raster_core.proofs.edges.crossing.Goals as goal

pub returns-clause-splits : goal.returns-clause-splits
returns-clause-splits c i p =
    c.first_at.ensures.splits i p
    ∙ c.place_at.ensures (c.args.w.west + i * c.args.w.pixel + c.args.w.pixel / 2)
    ∙ downward_is c.args.a c.args.b (centre c.args.w i c.args.j) c.requires.upper c.requires.lower
