use Rattle.geo_model.proofs.Boxes.{least_bounds, shape_valid}
use Rattle.geo_model.proofs.feature.Feature.bbox.Goals as goal

pub returns-clause-least : goal.returns-clause-least
returns-clause-least c =
    rw (c.self.invariant.1, ← c.self.view_is) (least_bounds c.self.inside.geometry (shape_valid c.self.inside.geometry c.self.inside.attrs.items c.self.invariant.0))
