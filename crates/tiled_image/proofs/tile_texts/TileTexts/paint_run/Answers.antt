use Rattle.std.proofs.Common.{◌≡◌, ◌+◌, ◌-◌, ◌*◌, ◌≤◌, List, [], get_or, set, ap, ◌∙◌, arith}
use Rattle.plain_shapes.specs.declared.colour.Colour.{Colour}
use Rattle.plain_shapes.specs.Blending.{blend}
use Rattle.plain_image.specs.Runs.{run_changed}
use Rattle.tiled_image.specs.inner.Tiles.{Texts}
use Rattle.tiled_image.proofs.TextsKept.{painted_there, fits}
use Rattle.tiled_image.proofs.tile_texts.TileTexts.paint_run.Goals as goal

pub pixels_at-at-requires : goal.pixels_at-at-requires
pixels_at-at-requires c =
    let m = c.self.inside in
    record {
      fits = omega (
        arith,
        fits m.before m.side m.count m.head m.bytes.items c.args.self.now.tiles c.args.tile c.self.invariant (ap (λ (t : Texts). t.tiles) c.self.view_is) c.requires.tile,
        m.bytes.ok.0,
      );
    }

pub overflow_add-run : goal.overflow_add-run
overflow_add-run c =
    let m = c.self.inside in
    let same : m.side ≡ c.args.self.now.side = ap (λ (t : Texts). t.side) c.self.view_is in
    let inside : c.args.end ≤ m.side * m.side = rw same c.requires.inside in
    omega (
      arith,
      fits m.before m.side m.count m.head m.bytes.items c.args.self.now.tiles c.args.tile c.self.invariant (ap (λ (t : Texts). t.tiles) c.self.view_is) c.requires.tile,
      m.bytes.ok.0,
    )

pub overflow_add-run-2 : goal.overflow_add-run-2
overflow_add-run-2 c =
    let m = c.self.inside in
    let same : m.side ≡ c.args.self.now.side = ap (λ (t : Texts). t.side) c.self.view_is in
    let inside : c.args.end ≤ m.side * m.side = rw same c.requires.inside in
    omega (
      arith,
      fits m.before m.side m.count m.head m.bytes.items c.args.self.now.tiles c.args.tile c.self.invariant (ap (λ (t : Texts). t.tiles) c.self.view_is) c.requires.tile,
      m.bytes.ok.0,
    )

pub slice_bounds-run-end : goal.slice_bounds-run-end
slice_bounds-run-end c =
    let m = c.self.inside in
    let same : m.side ≡ c.args.self.now.side = ap (λ (t : Texts). t.side) c.self.view_is in
    let inside : c.args.end ≤ m.side * m.side = rw same c.requires.inside in
    omega (
      arith,
      fits m.before m.side m.count m.head m.bytes.items c.args.self.now.tiles c.args.tile c.self.invariant (ap (λ (t : Texts). t.tiles) c.self.view_is) c.requires.tile,
      c.deref_mut.ensures.len,
      m.bytes.ok.0,
    )

pub invariant_of-self : goal.invariant_of-self
invariant_of-self c =
    let m = c.self.inside in
    let same : m.side ≡ c.args.self.now.side = ap (λ (t : Texts). t.side) c.self.view_is in
    let inside : c.args.end ≤ m.side * m.side = rw same c.requires.inside in
    (painted_there m.bytes m.before m.side m.count m.head (c.pixels_at-at.result + c.args.start * 3) (c.pixels_at-at.result + c.args.end * 3 - (c.pixels_at-at.result + c.args.start * 3)) c.deref_mut.result.now c.paint.new.run
    c.args.self.now.tiles (blend c.args.c c.args.opacity) c.args.tile c.args.start (c.args.end - c.args.start) c.self.invariant (ap (λ (t : Texts). t.tiles) c.self.view_is) c.requires.tile (omega (arith, c.requires.order))
    (ap (λ n. n + c.args.start * 3) c.pixels_at-at.ensures) (omega (arith, c.requires.order)) c.deref_mut.ensures.value c.deref_mut.ensures.len c.paint.ensures).0

pub returns : goal.returns
returns c =
    let m = c.self.inside in
    let same : m.side ≡ c.args.self.now.side = ap (λ (t : Texts). t.side) c.self.view_is in
    let inside : c.args.end ≤ m.side * m.side = rw same c.requires.inside in
    let after : List (List Colour) = set c.args.self.now.tiles c.args.tile (run_changed (blend c.args.c c.args.opacity) c.args.start (c.args.end - c.args.start) (get_or c.args.self.now.tiles c.args.tile [])) in
    ap (λ ts. record { before = m.before; side = m.side; tiles = ts }) (painted_there m.bytes m.before m.side m.count m.head (c.pixels_at-at.result + c.args.start * 3) (c.pixels_at-at.result + c.args.end * 3 - (c.pixels_at-at.result + c.args.start * 3)) c.deref_mut.result.now c.paint.new.run
    c.args.self.now.tiles (blend c.args.c c.args.opacity) c.args.tile c.args.start (c.args.end - c.args.start) c.self.invariant (ap (λ (t : Texts). t.tiles) c.self.view_is) c.requires.tile (omega (arith, c.requires.order))
    (ap (λ n. n + c.args.start * 3) c.pixels_at-at.ensures) (omega (arith, c.requires.order)) c.deref_mut.ensures.value c.deref_mut.ensures.len c.paint.ensures).1
    ∙ ap (λ (t : Texts). record t { tiles = after }) c.self.view_is
