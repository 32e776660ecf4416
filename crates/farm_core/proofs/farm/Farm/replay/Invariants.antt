-- The versions so far are replayed.
use Rattle.std.proofs.Common.{◌≡◌, ◌+◌, ◌*◌, List, length, drop}
use Rattle.farm_history.specs.Entries.{Entry}
use Rattle.farm_plan.specs.Drawings.{plan_of}
use Rattle.render_jobs.specs.Faults.{apply_fault}
use Rattle.farm_core.specs.inner.Replays.{IsFresh, IsReplaying, Stays, how_many_from}
use Rattle.farm_core.proofs.Replayed.{VersionsTo}
use Rattle.farm_core.proofs.farm.Farm.replay.Given as goal

abbrev pub invariant-loop-place : goal.invariant-loop-place
invariant-loop-place g l = record {
  stays : Stays l.initial.self l.self;
  version : l.self.counts.version ≡ l.place;
  fresh : IsFresh l.place 0 l.clean l.self.marks.shown;
  turns : l.self.counts.turns + 4 * how_many_from l.place l.clean + length (drop l.place l.updates) ≡ l.initial.self.counts.turns + 4 * how_many_from 0 l.clean + length l.updates;
  fault : apply_fault l.initial.self.plan l.initial.self.data_now 0 l.updates ≡ apply_fault l.initial.self.plan l.self.data_now l.place (drop l.place l.updates);
  replaying : (h : List Entry) → IsReplaying g.D.TileStore.state l.initial.self h → VersionsTo g.D.TileStore.state (plan_of l.initial.self.plan) l.self l.clean l.place l.updates h;
}
