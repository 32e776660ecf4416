use Rattle.std.proofs.Common.{ℕ, ◌+◌, ◌-◌, ◌*◌, ◌<◌, ◌∙◌, length, ap, get_or, arith}
use Rattle.std.proofs.lemmas.List.{get_or_default}
use Rattle.plain_shapes.specs.Blending.{blend}
use Rattle.plain_shapes.specs.Images.{Pixels}
use Rattle.plain_image.specs.Runs.{run_changed}
use Rattle.tile_render.specs.declared.pieces.Piece.{Piece}
use Rattle.tile_render.specs.inner.Pieces.{row_of, start_of}
use Rattle.tile_render.specs.inner.Regions.{region_window}
use Rattle.tile_render.proofs.Joining.{PiecesDone, pieces_none, piece_next, pieces_all}
use Rattle.tile_render.proofs.Runs.{painted_none, painted_more, painted_all}
use Rattle.tile_render.proofs.painting.paint_pieces.Goals as goal

-- what a place past a list's end is read as
abbrev none : Piece
none = record { place = 0; end = 0 }

pub loop-k-init : goal.loop-k-init
loop-k-init c = record {
  painted = λ member consists.
      painted_none c.args.w c.args.region member c.args.paint.colour c.args.paint.opacity _ c.args.image.now (pieces_none c.args.region.cols c.args.pieces.now);
  cols = c.requires.cols;
  rows = c.requires.rows;
}

pub loop-k-preserved : goal.loop-k-preserved
loop-k-preserved c =
    let pieces = c.args.pieces.now in
    let within : c.loop-k.k < length pieces = omega (arith, c.loop-k-test.true, c.loop-k.auto.k-end) in
    let piece : Piece = get_or pieces c.loop-k.k none in
    let painted : ℕ → ℕ → ℕ → Pixels = λ opacity row start. record c.loop-k.image {
      pixels =
          run_changed (blend c.args.paint.colour opacity) ((c.args.region.row + row) * c.loop-k.image.cols + (c.args.region.col + start))
          (c.args.region.col + piece.end - (c.args.region.col + start)) c.loop-k.image.pixels;
    } in
    let inside = c.requires.fits c.loop-k.k none within in
    record {
      painted = λ member consists.
          let f = c.loop-k.invariant.painted member consists in
          painted_more c.args.w c.args.region member c.args.paint.colour c.args.paint.opacity _ (PiecesDone c.args.region.cols pieces (c.loop-k.k + 1))
          (row_of piece) (start_of piece) piece.end c.args.image.now c.loop-k.image c.blend_run.new.self c.requires.region inside.row inside.order inside.end c.loop-k.invariant.cols consists.holds f
          (piece_next (region_window c.args.w c.args.region) member pieces c.loop-k.k f.n piece within (get_or_default pieces c.loop-k.k none piece within) consists.tells f.done)
          (c.blend_run.ensures ∙ ap (λ o. painted o c.row_of-row.result c.start_of-start.result) c.opacity_at-opacity.ensures
          ∙ ap (λ row. painted c.args.paint.opacity row c.start_of-start.result) c.row_of-row.ensures ∙ ap (painted c.args.paint.opacity (row_of piece)) c.start_of-start.ensures);
      cols = ap (λ m. m.cols) c.blend_run.ensures ∙ c.loop-k.invariant.cols;
      rows = ap (λ m. m.rows) c.blend_run.ensures ∙ c.loop-k.invariant.rows;
    }

pub returns-clause-painted : goal.returns-clause-painted
returns-clause-painted c member consists =
    let f = c.loop-k.invariant.painted member consists in
    painted_all c.args.w c.args.region member c.args.paint.colour c.args.paint.opacity _ c.args.image.now c.loop-k.image c.requires.region consists.holds f
    (pieces_all (region_window c.args.w c.args.region) member c.args.pieces.now c.loop-k.k f.n (omega (arith, c.loop-k-test.false, c.loop-k.auto.k-end)) consists.tells f.done)
