use Rattle.stroke_core.proofs.Boxes.{disk_box}
use Rattle.stroke_core.proofs.Spans.{box_heights}
use Rattle.stroke_core.proofs.disks.DiskShape.heights.Goals as goal

pub returns : goal.returns
returns c p inside held =
    box_heights c.args.self.now.half c.from.result c.args.self.now.p c.args.self.now.p p c.between.result c.from.ensures c.between.ensures.start c.between.ensures.end (disk_box c.args.self.now.half c.args.self.now.p p held)
