use Rattle.std.proofs.Common.{length, ap, ◌∙◌, refl, arith}
use Rattle.std.specs.Map.{keys_of}
use Rattle.std.proofs.lemmas.Map.Entries.{length-keys_of}
use Rattle.expiry_lists.specs.Marks.{is_in_box}
use Rattle.expiry_lists.proofs.Boxed.{walks_no_key, walks_key, walks_keys, key_there}
use Rattle.expiry_lists.proofs.Placing.{key_at_place}
use Rattle.expiry_lists.proofs.Walked.{walks_few}
use Rattle.expiry_lists.proofs.rectangles.mark_box_dirty.Goals as goal

pub loop-i-init : goal.loop-i-init
loop-i-init c = record { walks = walks_no_key (is_in_box c.args.map c.args.z c.args.b) c.args.nodes.now c.requires; keys = refl }

pub at-mark-requires : goal.at-mark-requires
at-mark-requires c =
    omega (arith, c.loop-i-test.true, c.len-i-end.ensures.len, ap length c.loop-i.invariant.keys, length-keys_of c.loop-i.nodes.entries, length-keys_of c.args.nodes.now.entries)

pub mark_key_dirty-count-requires-clause-meta : goal.mark_key_dirty-count-requires-clause-meta
mark_key_dirty-count-requires-clause-meta c =
    c.loop-i.invariant.walks.tree.metas c.at-mark.result.0 (key_there c.loop-i.nodes.entries c.loop-i.i c.at-mark.result.0 (key_at_place c.loop-i.nodes.entries c.loop-i.i c.at-mark.result.0 _ c.at-mark.ensures))

pub mark_key_dirty-count-requires-clause-tree : goal.mark_key_dirty-count-requires-clause-tree
mark_key_dirty-count-requires-clause-tree c = c.loop-i.invariant.walks.tree

pub overflow_add-count : goal.overflow_add-count
overflow_add-count c =
    let es = c.args.nodes.now.entries in
    let both = walks_key (is_in_box c.args.map c.args.z c.args.b) (keys_of es) (keys_of c.loop-i.nodes.entries) c.loop-i.i c.at-mark.result.0 c.loop-i.invariant.keys
    (omega (arith, c.loop-i-test.true, c.len-i-end.ensures.len, length-keys_of es)) (key_at_place c.loop-i.nodes.entries c.loop-i.i c.at-mark.result.0 _ c.at-mark.ensures) c.loop-i.invariant.walks c.mark_key_dirty-count.ensures.walks in
    omega (arith, walks_few both, c.len-i-end.ensures.small, c.len-i-end.ensures.len)

pub loop-i-preserved : goal.loop-i-preserved
loop-i-preserved c =
    let es = c.args.nodes.now.entries in
    record {
      walks = walks_key (is_in_box c.args.map c.args.z c.args.b) (keys_of es) (keys_of c.loop-i.nodes.entries) c.loop-i.i c.at-mark.result.0 c.loop-i.invariant.keys
          (omega (arith, c.loop-i-test.true, c.len-i-end.ensures.len, length-keys_of es)) (key_at_place c.loop-i.nodes.entries c.loop-i.i c.at-mark.result.0 _ c.at-mark.ensures) c.loop-i.invariant.walks c.mark_key_dirty-count.ensures.walks;
      keys = c.mark_key_dirty-count.ensures.keys ∙ c.loop-i.invariant.keys;
    }

pub returns : goal.returns
returns c = record {
  walks =
      walks_keys (is_in_box c.args.map c.args.z c.args.b) c.args.nodes.now c.loop-i.nodes c.loop-i.i c.loop-i.count c.len-i-end.ensures.unique
      (omega (arith, c.loop-i-test.false, c.len-i-end.ensures.len)) c.loop-i.invariant.walks;
}
