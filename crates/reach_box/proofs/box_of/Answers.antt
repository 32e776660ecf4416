-- What the box of a shape reaches is what its points reach.
use Rattle.std.proofs.Common.{◌∙◌, sym, ap, subst}
use Rattle.geo_model.specs.declared.bounds.Bounds.{Bounds}
use Rattle.reach_box.specs.Boxes.{IsBox, box_reaches}
use Rattle.reach_box.proofs.Edges.{box_points, box_sound}
use Rattle.reach_box.proofs.box_of.Goals as goal

pub returns-clause-sound : goal.returns-clause-sound
returns-clause-sound c = subst IsBox (sym c.bbox.ensures.value) (box_sound c.args.f.now.geometry c.geometry-shape.ensures.valid)

pub returns-clause-reach : goal.returns-clause-reach
returns-clause-reach c = λ size z s. ap (λ (b : Bounds). box_reaches b size z s) c.bbox.ensures.value ∙ box_points c.args.f.now.geometry c.geometry-shape.ensures.valid size z s
