use Rattle.std.proofs.Common.{◌≡◌, ◌-◌, flat_map, ap, ◌∙◌, arith}
use Rattle.plain_shapes.specs.Blending.{blend}
use Rattle.plain_shapes.specs.Ppm.{pixel_bytes}
use Rattle.plain_image.specs.PpmText.{colours}
use Rattle.plain_image.specs.Runs.{run_changed}
use Rattle.plain_image.proofs.Bytes.{thirds}
use Rattle.tiled_image.proofs.TextsRuns.{run_whole}
use Rattle.tiled_image.proofs.tile_texts.paint.Goals as goal

pub paint_run-requires-clause-kept : goal.paint_run-requires-clause-kept
paint_run-requires-clause-kept c =
    let same : c.is_copied.new.run ≡ c.args.run.now = c.is_copied.ensures.kept c.if-not-is_copied.true in
    rw same (thirds c.args.count c.args.run.now c.requires.len).0

pub paint_run-requires-clause-inside : goal.paint_run-requires-clause-inside
paint_run-requires-clause-inside c =
    let same : c.is_copied.new.run ≡ c.args.run.now = c.is_copied.ensures.kept c.if-not-is_copied.true in
    rw same (omega (arith, (thirds c.args.count c.args.run.now c.requires.len).1))

pub paint_run-requires-clause-few : goal.paint_run-requires-clause-few
paint_run-requires-clause-few c =
    let same : c.is_copied.new.run ≡ c.args.run.now = c.is_copied.ensures.kept c.if-not-is_copied.true in
    rw same (omega (arith, (thirds c.args.count c.args.run.now c.requires.len).1, c.requires.few))

pub returns-then-not-is_copied : goal.returns-then-not-is_copied
returns-then-not-is_copied c =
    let n = c.args.count in
    let old = colours c.args.run.now in
    let f = blend c.args.c c.args.opacity in
    let same : c.is_copied.new.run ≡ c.args.run.now = c.is_copied.ensures.kept c.if-not-is_copied.true in
    let all : n - 0 ≡ n = omega arith in
    c.paint_run.ensures ∙ ap (λ l. flat_map pixel_bytes (run_changed f 0 (n - 0) (colours l))) same
    ∙ ap (λ k. flat_map pixel_bytes (run_changed f 0 k old)) all
    ∙ ap (λ ps. flat_map pixel_bytes ps) (run_whole f n old (thirds n c.args.run.now c.requires.len).1)
