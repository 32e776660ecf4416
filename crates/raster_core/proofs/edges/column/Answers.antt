use Rattle.std.proofs.Common.{◌∙◌, ap}
use Rattle.std.specs.Prelude.{nat_le}
use Rattle.plain_world.specs.World.{centre}
use Rattle.raster_core.proofs.Downward.{straight}
use Rattle.raster_core.proofs.edges.column.Goals as goal

pub returns-then-e-clause-splits : goal.returns-then-e-clause-splits
returns-then-e-clause-splits c i p =
    straight c.args.e.a c.args.e.b (centre c.args.w i c.args.j) (nat_le c.args.e.west i) c.requires.upper c.requires.lower (c.requires.edge.west i p)
    (ap (λ k. nat_le k i) c.if-e.true ∙ c.requires.edge.east i p)
