use Rattle.std.proofs.Common.{sym, subst}
use Rattle.farm_history.specs.declared.answers.Finished.{Finished}
use Rattle.farm_core.specs.Answers.{drawn_bytes}
use Rattle.farm_core.specs.inner.Effects.{EndsDrawing}
use Rattle.farm_core.proofs.Putting.{put_kept}
use Rattle.farm_core.proofs.farm.Farm.keep.Goals as goal

pub returns : goal.returns
returns g c =
    subst (λ (r : Finished). EndsDrawing g.D.TileStore.state c.args.self.now c.end_put.new.self c.args.key c.args.version c.args.touched (drawn_bytes c.args.drawn.now) r) (sym c.end_put.ensures.answer)
    (put_kept g.D.TileStore.state c.args.self.now c.reserve.new.self c.put-put.new.self c.end_put.new.self c.args.key c.args.version c.args.touched (drawn_bytes c.args.drawn.now) c.put-put.result c.reserve.ensures.farm c.reserve.ensures.shown c.put-put.ensures.store c.put-put.ensures.farm c.end_put.ensures.ends)
