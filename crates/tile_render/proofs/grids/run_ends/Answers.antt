use Rattle.std.proofs.Common.{get_or, subst, sym, arith}
use Rattle.tile_render.specs.inner.GridPlaces.{IsRun}
use Rattle.tile_render.proofs.GridRuns.{run_rest, ends_more}
use Rattle.tile_render.proofs.grids.run_ends.Goals as goal

pub loop-i-preserved : goal.loop-i-preserved
loop-i-preserved c =
    let places = c.args.places.now in
    record {
      long = omega (arith, c.in_ok-push.ensures.len, c.loop-i.invariant.long);
      runs = λ k low.
          subst (λ es. IsRun places k (get_or es k 0)) (sym c.in_ok-push.ensures.items)
          (ends_more places c.loop-i.ends.items c.loop-i.i c.next_end-end.result c.loop-i.invariant.long c.loop-i.invariant.runs c.next_end-end.ensures k low);
      ahead = run_rest places c.loop-i.i c.next_end-end.result c.next_end-end.ensures;
    }
