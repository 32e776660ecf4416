-- The next data, and then what was touched.
use Rattle.std.proofs.Common.{List, subst}
use Rattle.geo_model.specs.declared.bounds.Bounds.{Bounds}
use Rattle.farm_core.specs.inner.Renews.{Reaches}
use Rattle.farm_core.proofs.Renewing.{renews_from}
use Rattle.farm_core.proofs.farm.Farm.renew_data.Goals as goal

pub returns-clause-done : goal.returns-clause-done
returns-clause-done g c =
    let touched = subst (λ (bs : List Bounds). Reaches bs c.advance.new.self c.mark_reached_dirty.new.self c.mark_reached_dirty.result) c.as_mut_slice.ensures.value c.mark_reached_dirty.ensures in
    renews_from c.args.self.now c.advance.new.self c.mark_reached_dirty.new.self c.args.number c.mark_reached_dirty.result c.in-Ok.boxes.items c.in-Ok.ensures c.in_ok-advance.ensures.done touched
