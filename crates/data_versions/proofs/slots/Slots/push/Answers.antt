use Rattle.std.proofs.Common.{refl, ap}
use Rattle.data_versions.proofs.Overlaid.{pushed_is}
use Rattle.data_versions.proofs.slots.Slots.push.Goals as goal

pub returns-clause-done : goal.returns-clause-done
returns-clause-done c =
    rw (← c.self.view_is) (ap (λ ss. record { slots = ss; first = c.self.inside.layer.now.features }) (pushed_is c.self.inside.put c.put_in.new.put c.self.inside.count c.args.feature c.in_ok-put_in.ensures.done c.self.inside.layer.now.features c.self.inside.count
    c.self.invariant.enough refl))
