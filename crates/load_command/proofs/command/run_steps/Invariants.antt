use Rattle.std.specs.Prelude.{◌*◌, Bool, []}
use Rattle.farm_refinement.specs.Stands.{StandsFor}
use Rattle.farm_core.specs.Answers.{Lasts}
use Rattle.load_command.specs.inner.Progress.{Grows, Summed}
use Rattle.load_command.proofs.command.run_steps.Given as goal

-- the steps so far were run, and are summed up
abbrev pub invariant-loop-step : goal.invariant-loop-step
invariant-loop-step g l = record {
  goes : (told : Bool) → StandsFor g.D.TileStore.state told l.fn.farm [] → Grows g.D.TileStore.state told l.farm (7 * l.step-index) (Summed l.steps l.step-index l.totals);
  kept : Lasts g.D.TileStore.state l.fn.farm l.farm;
}
