use Rattle.std.proofs.Common.{◌-◌, ◌||◌, Bool, length, take, drop}
use Rattle.plain_world.specs.declared.world.Point.{Point}
use Rattle.plain_shapes.specs.Strokes.{on_sides, on_disks}
use Rattle.plain_image.proofs.Marking.{marks_both, marks_same}
use Rattle.stroke_core.specs.inner.Parts.{point_at, on_ends, on_long}
use Rattle.stroke_core.proofs.Sides.{side, long_is}
use Rattle.stroke_core.proofs.lines.mark_long.Goals as goal

pub returns-clause-marks : goal.returns-clause-marks
returns-clause-marks g c =
    let shows = g.K.Surface.shows in
    let ps = c.args.ps.now in
    let n = length ps in
    let half = c.args.half in
    let rounded : Point → Bool = λ p. on_sides half (point_at ps 0) (take (n - 1 - 1) (drop 1 ps)) p || on_disks half (take (n - 1 - 1) (drop 1 ps)) p in
    let last : Point → Bool = side half (point_at ps (n - 2)) (point_at ps (n - 1)) in
    let ends : Point → Bool = on_ends half c.args.cap (point_at ps 0) (point_at ps 1) (point_at ps (n - 2)) (point_at ps (n - 1)) in
    marks_same shows (λ p. (rounded p || last p) || ends p) (on_long half c.args.cap ps) c.args.w c.args.mask.now c.mark_ends.new.mask
    (long_is half c.args.cap ps c.requires.some)
    (marks_both shows (λ p. rounded p || last p) ends c.args.w c.args.mask.now c.mark_body.new.mask c.mark_ends.new.mask
    (marks_both shows rounded last c.args.w c.args.mask.now c.mark_rounded.new.mask c.mark_body.new.mask c.mark_rounded.ensures.marks c.mark_body.ensures.marks)
    c.mark_ends.ensures.marks)
