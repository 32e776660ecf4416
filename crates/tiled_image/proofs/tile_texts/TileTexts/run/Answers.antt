use Rattle.std.proofs.Common.{◌≡◌, ℕ, ◌+◌, ◌-◌, ◌*◌, ◌≤◌, length, take, drop, ap, ◌∙◌, arith}
use Rattle.tiled_image.specs.inner.Tiles.{Texts}
use Rattle.tiled_image.proofs.TextsKept.{run_there, fits}
use Rattle.tiled_image.proofs.tile_texts.TileTexts.run.Goals as goal

pub pixels_at-at-requires : goal.pixels_at-at-requires
pixels_at-at-requires c =
    let m = c.self.inside in
    record {
      fits = omega (
        arith,
        fits m.before m.side m.count m.head m.bytes.items c.args.self.now.tiles c.args.tile c.self.invariant (ap (λ (t : Texts). t.tiles) c.self.view_is) c.requires.tile,
        m.bytes.ok.0,
      );
    }

pub overflow_add-result : goal.overflow_add-result
overflow_add-result c =
    let m = c.self.inside in
    let same : m.side ≡ c.args.self.now.side = ap (λ (t : Texts). t.side) c.self.view_is in
    let inside : c.args.end ≤ m.side * m.side = rw same c.requires.inside in
    let room : m.before + c.args.tile * (m.head + m.side * m.side * 3) + m.head + m.side * m.side * 3 ≤ length m.bytes.items =
    fits m.before m.side m.count m.head m.bytes.items c.args.self.now.tiles c.args.tile c.self.invariant (ap (λ (t : Texts). t.tiles) c.self.view_is) c.requires.tile in
    omega (arith, inside, room, c.requires.order, c.pixels_at-at.ensures, m.bytes.ok.0)

pub overflow_add-result-2 : goal.overflow_add-result-2
overflow_add-result-2 c =
    let m = c.self.inside in
    let same : m.side ≡ c.args.self.now.side = ap (λ (t : Texts). t.side) c.self.view_is in
    let inside : c.args.end ≤ m.side * m.side = rw same c.requires.inside in
    let room : m.before + c.args.tile * (m.head + m.side * m.side * 3) + m.head + m.side * m.side * 3 ≤ length m.bytes.items =
    fits m.before m.side m.count m.head m.bytes.items c.args.self.now.tiles c.args.tile c.self.invariant (ap (λ (t : Texts). t.tiles) c.self.view_is) c.requires.tile in
    omega (arith, inside, room, c.pixels_at-at.ensures, m.bytes.ok.0)

pub slice_bounds-result-end : goal.slice_bounds-result-end
slice_bounds-result-end c =
    let m = c.self.inside in
    let same : m.side ≡ c.args.self.now.side = ap (λ (t : Texts). t.side) c.self.view_is in
    let inside : c.args.end ≤ m.side * m.side = rw same c.requires.inside in
    let room : m.before + c.args.tile * (m.head + m.side * m.side * 3) + m.head + m.side * m.side * 3 ≤ length m.bytes.items =
    fits m.before m.side m.count m.head m.bytes.items c.args.self.now.tiles c.args.tile c.self.invariant (ap (λ (t : Texts). t.tiles) c.self.view_is) c.requires.tile in
    omega (arith, inside, room, c.pixels_at-at.ensures, c.deref.ensures.len, m.bytes.ok.0)

pub returns : goal.returns
returns c =
    let m = c.self.inside in
    let same : m.side ≡ c.args.self.now.side = ap (λ (t : Texts). t.side) c.self.view_is in
    let inside : c.args.end ≤ m.side * m.side = rw same c.requires.inside in
    let n : ℕ = c.args.end - c.args.start in
    let at : ℕ = m.before + c.args.tile * (m.head + m.side * m.side * 3) + m.head + c.args.start * 3 in
    let count : c.pixels_at-at.result + c.args.end * 3 - (c.pixels_at-at.result + c.args.start * 3) ≡ n * 3 = omega (arith, c.requires.order) in
    ap (λ k. take k (drop (c.pixels_at-at.result + c.args.start * 3) c.deref.result.now)) count
    ∙ ap (λ k. take (n * 3) (drop (k + c.args.start * 3) c.deref.result.now)) c.pixels_at-at.ensures
    ∙ ap (λ bs. take (n * 3) (drop at bs)) c.deref.ensures.value
    ∙ run_there m.before m.side m.count m.head m.bytes.items c.args.self.now.tiles c.args.tile c.args.start n c.self.invariant (ap (λ (t : Texts). t.tiles) c.self.view_is) c.requires.tile
    (omega (arith, inside, c.requires.order))
