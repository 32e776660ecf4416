use Rattle.std.proofs.Common.{sym, ◌∙◌, append-nil}
use Rattle.std.specs.Map.{keys_of}
use Rattle.std.specs.Map.Iter.{deref_pair}
use Rattle.std.proofs.lemmas.Map.Iter.{rest_more}
use Rattle.geo_json.proofs.Keys.{attrs_more, attrs_fails, attrs_ends, names_more, keys_apart}
use Rattle.geo_json.proofs.attributes.attrs.Goals as goal

pub returns-in-Err-clause-value : goal.returns-in-Err-clause-value
returns-in-Err-clause-value c = λ n.
    let left = rest_more deref_pair c.loop-key.key-iterator c.next.new.self c.next.result (c.in-Some.key, c.in-Some.value) c.in-Some.is c.next.ensures.steps in
    attrs_fails c.args.shape c.loop-key.attrs.items c.in-Some.key.now c.in-Some.value.now c.loop-key.key-iterator c.next.new.self c.in-Err.fault _ left
    (rw c.as_str.ensures.value at (c.in-Err.ensures.value n)) c.loop-key.invariant.told

pub loop-key-preserved : goal.loop-key-preserved
loop-key-preserved c =
    let left = rest_more deref_pair c.loop-key.key-iterator c.next.new.self c.next.result (c.in-Some.key, c.in-Some.value) c.in-Some.is c.next.ensures.steps in
    let given = rw c.as_str.ensures.value at c.in-Ok.ensures.value in
    record {
      can = tt;
      ends = tt;
      told = attrs_more c.args.shape c.loop-key.attrs.items c.push.new.self.items c.in-Some.key.now c.in-Some.value.now c.loop-key.key-iterator c.next.new.self
          c.in-Ok.attr _ c.in_ok-push-in-Ok.ensures.items left given c.loop-key.invariant.told;
      names = names_more c.loop-key.attrs.items c.push.new.self.items c.in-Some.key.now c.in-Some.value.now c.loop-key.key-iterator c.next.new.self
          c.in-Ok.attr _ c.in_ok-push-in-Ok.ensures.items left (c.in-Ok.ensures.named ∙ c.as_str.ensures.value) c.loop-key.invariant.names;
    }

pub returns-clause-value : goal.returns-clause-value
returns-clause-value c =
    attrs_ends c.args.shape c.loop-key.attrs.items c.loop-key.key-iterator _ c.in-None.ensures.steps.0 c.loop-key.invariant.told

pub returns-clause-apart : goal.returns-clause-apart
returns-clause-apart c =
    keys_apart c.loop-key.attrs.items (keys_of c.args.members.now.entries) c.into_iter-key-iterator.ensures.into_iter_gives.5
    (sym (append-nil _) ∙ (rw c.in-None.ensures.steps.0 at c.loop-key.invariant.names))
