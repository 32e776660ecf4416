use Rattle.std.proofs.Common.{◌≡◌, ◌-◌, length, arith}
use Rattle.plain_shapes.specs.Blending.{blend}
use Rattle.plain_image.specs.PpmText.{colours}
use Rattle.plain_image.proofs.Bytes.{kept_of}
use Rattle.plain_image.proofs.ByteRuns.{count_kept, bytes_more}
use Rattle.plain_image.proofs.blending.paint_run.Goals as goal

pub colour_at-d-requires-clause-kept : goal.colour_at-d-requires-clause-kept
colour_at-d-requires-clause-kept c = kept_of _ _ c.loop-k.invariant

pub colour_at-d-requires-clause-inside : goal.colour_at-d-requires-clause-inside
colour_at-d-requires-clause-inside c =
    omega (
      arith,
      count_kept (blend c.args.s c.args.opacity) c.args.start (c.loop-k.k - c.args.start) (colours c.args.bytes.now) c.loop-k.bytes c.loop-k.invariant,
      c.requires.inside,
      c.loop-k-test.true,
    )

pub colour_at-d-requires-clause-few : goal.colour_at-d-requires-clause-few
colour_at-d-requires-clause-few c =
    let same : length (colours c.loop-k.bytes) ≡ length (colours c.args.bytes.now) =
    count_kept (blend c.args.s c.args.opacity) c.args.start (c.loop-k.k - c.args.start) (colours c.args.bytes.now) c.loop-k.bytes c.loop-k.invariant in
    rw same c.requires.few

pub put_colour-requires-clause-kept : goal.put_colour-requires-clause-kept
put_colour-requires-clause-kept c = kept_of _ _ c.loop-k.invariant

pub put_colour-requires-clause-inside : goal.put_colour-requires-clause-inside
put_colour-requires-clause-inside c =
    omega (
      arith,
      count_kept (blend c.args.s c.args.opacity) c.args.start (c.loop-k.k - c.args.start) (colours c.args.bytes.now) c.loop-k.bytes c.loop-k.invariant,
      c.requires.inside,
      c.loop-k-test.true,
    )

pub put_colour-requires-clause-few : goal.put_colour-requires-clause-few
put_colour-requires-clause-few c =
    let same : length (colours c.loop-k.bytes) ≡ length (colours c.args.bytes.now) =
    count_kept (blend c.args.s c.args.opacity) c.args.start (c.loop-k.k - c.args.start) (colours c.args.bytes.now) c.loop-k.bytes c.loop-k.invariant in
    rw same c.requires.few

pub loop-k-preserved : goal.loop-k-preserved
loop-k-preserved c =
    bytes_more (blend c.args.s c.args.opacity) c.args.start c.loop-k.k (colours c.args.bytes.now) c.loop-k.bytes _ c.colour_at-d.result c.over.result (omega arith) c.loop-k.invariant
    c.colour_at-d.ensures c.over.ensures c.put_colour.ensures
