-- What is left decides, with those who are alive by then.
use Rattle.std.proofs.Common.{◌≡◌, [], drop}
use Rattle.reactor_ports.specs.Scripts.{is_valid}
use Rattle.reactor_ports.proofs.scripts.are_valid.Given as goal

abbrev pub invariant-loop-step : goal.invariant-loop-step
invariant-loop-step l = is_valid l.alive.items (drop l.step-index l.fn.steps) ≡ is_valid [] l.fn.steps
