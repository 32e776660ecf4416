use Rattle.std.proofs.Common.{ap, ◌∙◌, drop, true}
use Rattle.reactor_ports.specs.Scripts.{has_piece}
use Rattle.reactor_ports.specs.inner.Moving.{ScriptHeld, left}
use Rattle.reactor_ports.proofs.Overs.{all_dropped, dropped}
use Rattle.reactor_ports.proofs.playing.Script.step_on.Goals as goal

pub invariant_of-self : goal.invariant_of-self
invariant_of-self c = all_dropped has_piece c.self.inside.steps.items c.self.inside.place c.self.invariant

pub returns : goal.returns
returns c =
    ap (λ ss. left ss true c.args.self.now) (dropped c.self.inside.steps.items c.self.inside.place)
    ∙ ap (λ (s : ScriptHeld). left (drop 1 s.steps) true s) c.self.view_is
