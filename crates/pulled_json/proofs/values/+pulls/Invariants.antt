use Rattle.std.proofs.Common.{◌≡◌, ℕ, ◌+◌, ◌*◌, ◌≤◌, length}
use Rattle.json.specs.Json.{items, members, value, parse_map}
use Rattle.serde_json.specs.Data.{no_members}
use Rattle.serde_json.specs.Read.{of_items, of_members, converted}
use Rattle.serde_json.specs.View.{members_view}
use Rattle.pulled_json.proofs.Pulls.{items_before}
use Rattle.pulled_json.proofs.values.+pulls.Given as goal

abbrev pub decreases-value_from : goal.decreases-value_from
decreases-value_from l = 2 * l.depth

abbrev pub decreases-list_from : goal.decreases-list_from
decreases-list_from l = 2 * l.depth + 1

abbrev pub decreases-object_from : goal.decreases-object_from
decreases-object_from l = 2 * l.depth + 1

abbrev pub invariant-list_from-items : goal.invariant-list_from-items
invariant-list_from-items l =
    (n : ℕ) × (length l.reader ≤ n)
    × (converted of_items (items (value l.depth) (length l.initial.reader) l.initial.reader) ≡ parse_map (items_before l.found.items) (converted of_items (items (value l.depth) n l.reader)))
    × (length l.reader ≤ length l.initial.reader)

abbrev pub decreases-list_from-items : goal.decreases-list_from-items
decreases-list_from-items l = length l.reader

abbrev pub invariant-object_from-members : goal.invariant-object_from-members
invariant-object_from-members l =
    (n : ℕ) × (length l.reader ≤ n)
    × (converted (λ ms. of_members ms no_members) (members (value l.depth) (length l.initial.reader) l.initial.reader) ≡ converted (λ ms. of_members ms (members_view l.found.entries)) (members (value l.depth) n l.reader))
    × (length l.reader ≤ length l.initial.reader)

abbrev pub decreases-object_from-members : goal.decreases-object_from-members
decreases-object_from-members l = length l.reader
