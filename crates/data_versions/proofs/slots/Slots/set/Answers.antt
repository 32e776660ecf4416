use Rattle.std.proofs.Common.{ap}
use Rattle.data_versions.proofs.Overlaid.{put_is, put_within}
use Rattle.data_versions.proofs.slots.Slots.set.Goals as goal

pub invariant_of-self-2 : goal.invariant_of-self-2
invariant_of-self-2 c =
    put_within c.self.inside.put c.put_in.new.put c.args.i c.args.feature c.in_ok-put_in.ensures.done c.self.inside.layer.now.features c.self.inside.count c.self.invariant
    (rw (← c.self.view_is) at c.requires)

pub returns-clause-done : goal.returns-clause-done
returns-clause-done c =
    rw (← c.self.view_is) (ap (λ ss. record { slots = ss; first = c.self.inside.layer.now.features }) (put_is c.self.inside.put c.put_in.new.put c.args.i c.args.feature c.in_ok-put_in.ensures.done c.self.inside.layer.now.features c.self.inside.count
    (rw (← c.self.view_is) at c.requires)))
