use Rattle.std.proofs.Common.{◌≤◌, length, ℕ}
use Rattle.json.specs.Json.{value}
use Rattle.pulled_json.proofs.Turns.{Gathered}
use Rattle.pulled_json.proofs.objects.pull_members.Given as goal

abbrev pub invariant-members : goal.invariant-members
invariant-members t l = (n : ℕ) × (length l.reader ≤ n) × Gathered (t.P.PullMember.has l.pulls) (value l.depth) l.initial.reader l.gathered n l.reader
    × (length l.reader ≤ length l.initial.reader)

abbrev pub decreases-members : goal.decreases-members
decreases-members t l = length l.reader
