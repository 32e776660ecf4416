use Rattle.std.proofs.Common.{◌≤◌, length, ℕ}
use Rattle.json.specs.Json.{value}
use Rattle.pulled_json.proofs.Turns.{Goes}
use Rattle.pulled_json.proofs.lists.pull_items.Given as goal

abbrev pub invariant-items : goal.invariant-items
invariant-items t l = (n : ℕ) × (length l.reader ≤ n) × Goes (t.P.PullItem.reads l.pulls) (value l.depth) l.initial.reader l.found.items n l.reader
    × (length l.reader ≤ length l.initial.reader) × t.P.PullItem.knows l.known l.found.items

abbrev pub decreases-items : goal.decreases-items
decreases-items t l = length l.reader
