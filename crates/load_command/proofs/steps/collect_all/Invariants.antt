use Rattle.std.specs.Prelude.{◌+◌, Bool, List, length}
use Rattle.farm_history.specs.Entries.{Entry}
use Rattle.farm_refinement.specs.Stands.{StandsFor}
use Rattle.farm_core.specs.Answers.{Lasts}
use Rattle.load_command.proofs.Stepping.{Collecting}
use Rattle.load_command.proofs.steps.collect_all.Given as goal

-- each Collect takes a reply
abbrev pub decreases-loop : goal.decreases-loop
decreases-loop g l = length l.farm.queues.asks + length l.farm.queues.ended

abbrev pub invariant-loop : goal.invariant-loop
invariant-loop g l = record {
  goes : (told : Bool) (before : List Entry) → StandsFor g.D.TileStore.state told l.fn.farm before → Collecting g.D.TileStore.state told l.farm before;
  kept : Lasts g.D.TileStore.state l.fn.farm l.farm;
}
