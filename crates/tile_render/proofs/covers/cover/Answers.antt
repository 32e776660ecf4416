use Rattle.tile_render.proofs.Covering.{cover_made}
use Rattle.tile_render.proofs.covers.cover.Goals as goal

pub returns-in-Some : goal.returns-in-Some
returns-in-Some c =
    let made = cover_made c.args.w c.args.feature.now c.args.symbolizer c.args.region c.region_window.result c.in-Some.pieces.items c.requires.holds c.region_window.ensures.value
    (rw c.in-Some.is at c.in_ok-pieces.ensures) in
    record { region = c.requires.region; fits = made.tells.inside; says = made }
