-- Those so far are replayed.
use Rattle.std.proofs.Common.{◌≡◌, ◌+◌, ◌*◌, List, drop}
use Rattle.farm_history.specs.Entries.{Entry}
use Rattle.farm_core.specs.inner.Replays.{IsFresh, IsReplaying, Stays, how_many_of}
use Rattle.farm_core.proofs.Replaying.{KeysTo}
use Rattle.farm_core.proofs.farm.Farm.replay_keys.Given as goal

abbrev pub invariant-loop-kept : goal.invariant-loop-kept
invariant-loop-kept g l = record {
  stays : Stays l.initial.self l.self;
  same : (l.self.counts.version ≡ l.initial.self.counts.version) × (l.self.data_now ≡ l.initial.self.data_now);
  turns : l.self.counts.turns + 4 * how_many_of l.version (drop l.kept-index l.clean) ≡ l.initial.self.counts.turns + 4 * how_many_of l.version l.clean;
  fresh : IsFresh l.version l.kept-index l.clean l.self.marks.shown;
  replaying : (h : List Entry) → IsReplaying g.D.TileStore.state l.initial.self h → KeysTo g.D.TileStore.state l.self l.version l.clean l.kept-index h;
}
