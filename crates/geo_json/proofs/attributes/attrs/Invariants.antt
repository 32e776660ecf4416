-- The members that are left give, after the attributes so far, what all of them give; and the names are the keys so far.
use Rattle.std.proofs.Common.{◌≡◌, ◌++◌, [], map}
use Rattle.std.specs.Prelude.{string_bytes}
use Rattle.std.specs.Map.{keys_of}
use Rattle.serde_json.specs.View.{members_view}
use Rattle.geo_json.specs.Attributes.{attrs_after}
use Rattle.geo_json.proofs.attributes.attrs.Given as goal

abbrev pub invariant-loop-key : goal.invariant-loop-key
invariant-loop-key l = record {
  can : (goal.iterator-loop-key).can_next l.key-iterator;
  ends : (goal.iterator-loop-key).is_finite l.key-iterator;
  told : attrs_after l.shape l.attrs.items (members_view l.key-iterator) ≡ attrs_after l.shape [] (members_view l.members.entries);
  names : map (λ a. a.name) l.attrs.items ++ map string_bytes (keys_of l.key-iterator) ≡ map string_bytes (keys_of l.members.entries);
}
