use Rattle.std.proofs.Common.{◌≡◌, ◌≤◌, ℕ, List, length, ◌++◌, take, true, false, refl, sym, ap, subst, ◌∙◌, rules, arith}
use Rattle.std.proofs.lemmas.List.{length-take}
use Rattle.farm_base.specs.Limits.{most_head_bytes}
use Rattle.tile_front.specs.Heads.{IsOpen}
use Rattle.tile_front.specs.ConnStates.{is_reading}
use Rattle.tile_front.specs.Tiles.{BytesAsk}
use Rattle.tile_front.proofs.Heards.{hears_idle, hears_starved, hears_open, hears_http_ask}
use Rattle.tile_front.proofs.fronts.TilesFront.hear.Goals as goal

pub returns-in_default-clause-heard : goal.returns-in_default-clause-heard
returns-in_default-clause-heard g c =
    let idle : is_reading c.args.conn_state.now.stage ≡ false = search rules in
    hears_idle c.args.context.now.front.now.front (g.M.Farm.map_at c.args.context.now.farm.now) c.args.piece.now.conn c.args.piece.now.bytes.now ((g.M.Farm.seats c.args.context.now.farm.now).mine c.args.seat.now) c.args.conn_state.now
    c.args.response.now.items idle c.requires.empty

pub returns-in_default-extend_from_slice-clause-heard : goal.returns-in_default-extend_from_slice-clause-heard
returns-in_default-extend_from_slice-clause-heard g c =
    let reads : is_reading c.args.conn_state.now.stage ≡ true = search rules in
    hears_starved c.args.context.now.front.now.front (g.M.Farm.map_at c.args.context.now.farm.now) c.args.piece.now.conn c.args.piece.now.bytes.now _ _ c.args.conn_state.now _ _ _ reads (refl, refl)

pub http_ask_in-requires : goal.http_ask_in-requires
http_ask_in-requires g c =
    let kept = c.truncate.ensures.items ∙ ap (take most_head_bytes) c.in-Ok.ensures.items in
    let e = length-take most_head_bytes (c.args.conn_state.now.head.items ++ c.args.piece.now.bytes.now) in
    subst (λ (b : List ℕ). length b ≤ most_head_bytes) (sym (c.as_slice.ensures.value ∙ kept)) (omega (arith, e))

pub returns-in_default-http_ask_in-clause-heard : goal.returns-in_default-http_ask_in-clause-heard
returns-in_default-http_ask_in-clause-heard g c =
    let kept = c.truncate.ensures.items ∙ ap (take most_head_bytes) c.in-Ok.ensures.items in
    let reads : is_reading c.args.conn_state.now.stage ≡ true = search rules in
    let opens : IsOpen c.as_slice.result.now = rw c.in_default-http_ask_in.is at c.http_ask_in.ensures in
    hears_open c.args.context.now.front.now.front (g.M.Farm.map_at c.args.context.now.farm.now) c.args.piece.now.conn c.args.piece.now.bytes.now _ c.args.conn_state.now _ _ c.requires.empty reads refl kept
    (subst IsOpen c.as_slice.ensures.value opens)

pub returns-clause-heard : goal.returns-clause-heard
returns-clause-heard g c =
    let kept = c.truncate.ensures.items ∙ ap (take most_head_bytes) c.in-Ok.ensures.items in
    let reads : is_reading c.args.conn_state.now.stage ≡ true = search rules in
    hears_http_ask c.args.context.now.front.now.front (g.M.Farm.map_at c.args.context.now.farm.now) (record { front = c.args.context.now.front.now.front; number = c.args.piece.now.conn }) c.args.piece.now.bytes.now c.in-Some.http_ask _ _ c.args.conn_state.now _ _ _ refl reads kept
    (subst (λ (b : List ℕ). BytesAsk (g.M.Farm.map_at c.args.context.now.farm.now) b c.in-Some.http_ask) c.as_slice.ensures.value c.in-Some.ensures)
    c.serve_http_ask.ensures.does
