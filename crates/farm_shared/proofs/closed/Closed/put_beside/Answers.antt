use Rattle.std.proofs.Common.{ap, subst, List, ℕ}
use Rattle.farm_history.specs.Entries.{Entry}
use Rattle.farm_refinement.specs.Seen.{FarmSeen}
use Rattle.farm_shared.specs.Afters.{IsAfter}
use Rattle.farm_shared.proofs.Steps.{after_beside}
use Rattle.farm_shared.proofs.closed.Closed.put_beside.Goals as goal

pub returns-clause-stands : goal.returns-clause-stands
returns-clause-stands g c =
    subst (λ (v : FarmSeen _ × List (ℕ × Entry)). (log : List (ℕ × Entry)) → IsAfter g.D.TileStore.state v.0 log → IsAfter g.D.TileStore.state c.put_beside.new.self log) c.self.view_is
    (after_beside g.D.TileStore.state _ _ (ap (λ (f : FarmSeen _). f.plan) c.put_beside.ensures.farm) (ap (λ (f : FarmSeen _). f.saved) c.put_beside.ensures.farm) (ap (λ (f : FarmSeen _). f.first) c.put_beside.ensures.farm) c.put_beside.ensures.stands)
