use Rattle.std.proofs.Common.{◌≡◌, ◌∙◌, ◌++◌, ◌∷◌, [], map, ap, sym, arith}
use Rattle.std.specs.List.{range_with_len}
use Rattle.std.proofs.lemmas.List.FromFn.{map-range_with_len_more}
use Rattle.plain_world.specs.World.{centre}
use Rattle.plain_drawing.specs.Grids.{Grid}
use Rattle.tile_render.specs.inner.GridPlaces.{place_in, column_at}
use Rattle.tile_render.proofs.grids.grid_columns.Goals as goal

pub loop-i-preserved : goal.loop-i-preserved
loop-i-preserved c =
    let column : c.place_in.result ≡ column_at c.args.grid.now (centre c.args.w c.loop-i.i 0) =
    c.place_in.ensures ∙ ap (λ (g : Grid). place_in g.west g.pixel g.cols c.centre-x.result.x) c.grid.view_is ∙ ap (column_at c.args.grid.now) c.centre-x.ensures.value in
    c.in_ok-push.ensures.items
    ∙ ap (λ cs. cs ++ c.place_in.result ∷ []) c.loop-i.invariant
    ∙ ap (λ n. map (λ i. column_at c.args.grid.now (centre c.args.w i 0)) (range_with_len 0 c.loop-i.i) ++ n ∷ []) column
    ∙ sym (map-range_with_len_more (λ i. column_at c.args.grid.now (centre c.args.w i 0)) 0 c.loop-i.i c.loop-i.i (omega arith))
