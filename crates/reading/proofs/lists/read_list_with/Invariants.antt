use Rattle.std.specs.Prelude.{◌≡◌, ◌≤◌, [], length, drop, IsTrue}
use Rattle.serde_json.specs.View.{items_view}
use Rattle.reading.specs.Lists.{list_after}
use Rattle.farm_base.specs.Earlier.{each_after}
use Rattle.reading.proofs.lists.read_list_with.Given as goal

abbrev pub invariant-loop-value : goal.invariant-loop-value
invariant-loop-value g l = record {
  told : list_after (g.R.ReadKnown.reads l.reader) l.read.items (items_view (drop l.value-index l.values)) ≡ list_after (g.R.ReadKnown.reads l.reader) [] (items_view l.values);
  kept : IsTrue (each_after (g.R.ReadKnown.keeps l.reader) [] l.read.items);
  place : length l.read.items ≤ l.value-index;
  knows : g.R.ReadKnown.knows l.known l.read.items;
}
