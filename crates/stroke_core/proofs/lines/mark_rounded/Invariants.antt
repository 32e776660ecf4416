use Rattle.std.proofs.Common.{◌≡◌, ◌||◌, drop}
use Rattle.plain_world.specs.World.{InWorld}
use Rattle.plain_shapes.specs.Strokes.{on_sides, on_disks}
use Rattle.plain_image.proofs.Marking.{Remains}
use Rattle.stroke_core.proofs.lines.mark_rounded.Given as goal

abbrev pub invariant-loop-p : goal.invariant-loop-p
invariant-loop-p g l = record {
  within : InWorld l.before;
  left : Remains g.K.Surface.shows (λ c. on_sides l.half l.before (drop l.p-index l.rest) c || on_disks l.half (drop l.p-index l.rest) c)
      (λ c. on_sides l.half l.fn.first l.rest c || on_disks l.half l.rest c) l.w l.fn.mask l.mask;
  cols : g.K.Surface.cols l.mask ≡ g.K.Surface.cols l.fn.mask;
  rows : g.K.Surface.rows l.mask ≡ g.K.Surface.rows l.fn.mask;
}
