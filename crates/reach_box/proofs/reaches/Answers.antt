-- The test on edges says whether a point is there.
use Rattle.std.proofs.Common.{◌≡◌, ◌∙◌, sym}
use Rattle.plain_shapes.specs.Reach.{feature_reaches}
use Rattle.reach_box.proofs.Places.{by_points}
use Rattle.reach_box.proofs.reaches.Goals as goal

pub returns-clause-meaning : goal.returns-clause-meaning
returns-clause-meaning c =
    let same : c.box_reaches.result ≡ feature_reaches c.args.f.now c.args.size c.args.z c.args.s = c.box_reaches.ensures ∙ c.box_of.ensures.reach c.args.size c.args.z c.args.s in
    let by = by_points c.args.f.now c.args.size c.args.z c.args.s c.geometry-shape.ensures.valid in (λ h. by.0 (sym same ∙ h), λ r. same ∙ by.1 r)
