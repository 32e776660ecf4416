use Rattle.std.specs.Prelude.{Bool, List}
use Rattle.farm_history.specs.Entries.{Entry}
use Rattle.farm_refinement.specs.Stands.{StandsFor}
use Rattle.farm_core.specs.Answers.{Lasts}
use Rattle.script_text.specs.inner.Progress.{Goes}
use Rattle.script_text.proofs.runs.run_noting.Given as goal

-- the lines so far were run on what the farm was at first, and what lasts of it is as it was
abbrev pub invariant-loop-line : goal.invariant-loop-line
invariant-loop-line g l = record {
  goes : (told : Bool) (before : List Entry) → StandsFor g.D.TileStore.state told l.fn.farm before
      → Goes g.D.TileStore.state told l.fn.farm.plan l.fn.script l.line-index before l.farm l.hand.items (g.O.Sink.state l.fn.out) (g.O.Sink.state l.out) l.failed;
  kept : Lasts g.D.TileStore.state l.fn.farm l.farm;
}
