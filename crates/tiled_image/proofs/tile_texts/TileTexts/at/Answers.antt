use Rattle.std.proofs.Common.{◌≡◌, ◌+◌, ◌*◌, ◌<◌, get_or, ap, ◌∙◌, arith}
use Rattle.tiled_image.specs.inner.Tiles.{Texts}
use Rattle.tiled_image.proofs.TextsKept.{colour_there, fits}
use Rattle.tiled_image.proofs.tile_texts.TileTexts.at.Goals as goal

pub pixels_at-requires : goal.pixels_at-requires
pixels_at-requires c =
    let m = c.self.inside in
    record {
      fits = omega (
        arith,
        fits m.before m.side m.count m.head m.bytes.items c.args.self.now.tiles c.args.tile c.self.invariant (ap (λ (t : Texts). t.tiles) c.self.view_is) c.requires.tile,
        m.bytes.ok.0,
      );
    }

pub overflow_add-at : goal.overflow_add-at
overflow_add-at c =
    let m = c.self.inside in
    let same : m.side ≡ c.args.self.now.side = ap (λ (t : Texts). t.side) c.self.view_is in
    let inside : c.args.k < m.side * m.side = rw same c.requires.place in
    omega (
      arith,
      fits m.before m.side m.count m.head m.bytes.items c.args.self.now.tiles c.args.tile c.self.invariant (ap (λ (t : Texts). t.tiles) c.self.view_is) c.requires.tile,
      m.bytes.ok.0,
    )

pub overflow_add-at-2 : goal.overflow_add-at-2
overflow_add-at-2 c =
    let m = c.self.inside in
    let same : m.side ≡ c.args.self.now.side = ap (λ (t : Texts). t.side) c.self.view_is in
    let inside : c.args.k < m.side * m.side = rw same c.requires.place in
    omega (
      arith,
      fits m.before m.side m.count m.head m.bytes.items c.args.self.now.tiles c.args.tile c.self.invariant (ap (λ (t : Texts). t.tiles) c.self.view_is) c.requires.tile,
      m.bytes.ok.0,
    )

pub overflow_add-at-3 : goal.overflow_add-at-3
overflow_add-at-3 c =
    let m = c.self.inside in
    let same : m.side ≡ c.args.self.now.side = ap (λ (t : Texts). t.side) c.self.view_is in
    let inside : c.args.k < m.side * m.side = rw same c.requires.place in
    omega (
      arith,
      fits m.before m.side m.count m.head m.bytes.items c.args.self.now.tiles c.args.tile c.self.invariant (ap (λ (t : Texts). t.tiles) c.self.view_is) c.requires.tile,
      m.bytes.ok.0,
    )

pub index-requires : goal.index-requires
index-requires c =
    let m = c.self.inside in
    let same : m.side ≡ c.args.self.now.side = ap (λ (t : Texts). t.side) c.self.view_is in
    let inside : c.args.k < m.side * m.side = rw same c.requires.place in
    omega (
      arith,
      fits m.before m.side m.count m.head m.bytes.items c.args.self.now.tiles c.args.tile c.self.invariant (ap (λ (t : Texts). t.tiles) c.self.view_is) c.requires.tile,
      m.bytes.ok.0,
    )

pub index-requires-2 : goal.index-requires-2
index-requires-2 c =
    let m = c.self.inside in
    let same : m.side ≡ c.args.self.now.side = ap (λ (t : Texts). t.side) c.self.view_is in
    let inside : c.args.k < m.side * m.side = rw same c.requires.place in
    omega (
      arith,
      fits m.before m.side m.count m.head m.bytes.items c.args.self.now.tiles c.args.tile c.self.invariant (ap (λ (t : Texts). t.tiles) c.self.view_is) c.requires.tile,
      m.bytes.ok.0,
    )

pub index-requires-3 : goal.index-requires-3
index-requires-3 c =
    let m = c.self.inside in
    let same : m.side ≡ c.args.self.now.side = ap (λ (t : Texts). t.side) c.self.view_is in
    let inside : c.args.k < m.side * m.side = rw same c.requires.place in
    omega (
      arith,
      fits m.before m.side m.count m.head m.bytes.items c.args.self.now.tiles c.args.tile c.self.invariant (ap (λ (t : Texts). t.tiles) c.self.view_is) c.requires.tile,
      m.bytes.ok.0,
    )

pub returns : goal.returns
returns c =
    let m = c.self.inside in
    let k = c.args.k in
    let same : m.side ≡ c.args.self.now.side = ap (λ (t : Texts). t.side) c.self.view_is in
    let inside : k < m.side * m.side = rw same c.requires.place in
    let bs = m.bytes.items in
    colour_there m.before m.side m.count m.head bs c.args.self.now.tiles c.args.tile k c.index.result.now c.index-2.result.now c.index-3.result.now c.self.invariant
    (ap (λ (t : Texts). t.tiles) c.self.view_is) c.requires.tile inside
    (c.index.ensures ∙ ap (λ n. get_or bs (n + k * 3) c.index.result.now) c.pixels_at.ensures)
    (c.index-2.ensures ∙ ap (λ n. get_or bs (n + k * 3 + 1) c.index-2.result.now) c.pixels_at.ensures)
    (c.index-3.ensures ∙ ap (λ n. get_or bs (n + k * 3 + 2) c.index-3.result.now) c.pixels_at.ensures)
