use Rattle.std.proofs.Common.{◌<◌, length, ap, arith}
use Rattle.data_versions.specs.inner.Questions.{answers}
use Rattle.data_versions.proofs.Laid.{start_is, part_in, none_more, reach_more}
use Rattle.data_versions.proofs.blocks.Blocks.part_from.Goals as goal

pub overflow_add-result : goal.overflow_add-result
overflow_add-result g c =
    let inside = g.B.Block.features in
    let ps = c.self.inside.list.items in
    let small : c.loop-at.at < length ps = omega (arith, c.loop-at-test.true, c.len-at-end.ensures) in
    let start = start_is inside c.self.inside.starts.items c.self.inside.count ps c.loop-at.at c.index-start.result.now c.self.invariant small c.index-start.ensures in
    let whole = part_in inside (answers c.args.question) ps c.args.from c.loop-at.at c.index-start.result.now c.part_from-place.result.0 c.index-block.result.now c.part_from-place.result.1.now
    small c.index-block.ensures start c.loop-at.invariant.reach c.loop-at.invariant.none (rw c.saturating_sub.ensures at c.part_from-place.ensures.part) in
    let size = ap length c.self.view_is in
    omega (arith, whole.within (omega (arith, c.if-from-count.false, c.len-count.ensures, size)), c.len-count.ensures, c.len-count.type_inv, size)

pub returns-then-may_answer-clause-part : goal.returns-then-may_answer-clause-part
returns-then-may_answer-clause-part g c =
    let inside = g.B.Block.features in
    let ps = c.self.inside.list.items in
    let small : c.loop-at.at < length ps = omega (arith, c.loop-at-test.true, c.len-at-end.ensures) in
    let start = start_is inside c.self.inside.starts.items c.self.inside.count ps c.loop-at.at c.index-start.result.now c.self.invariant small c.index-start.ensures in
    rw (← c.self.view_is) (part_in inside (answers c.args.question) ps c.args.from c.loop-at.at c.index-start.result.now c.part_from-place.result.0 c.index-block.result.now
    c.part_from-place.result.1.now small c.index-block.ensures start c.loop-at.invariant.reach c.loop-at.invariant.none (rw c.saturating_sub.ensures at c.part_from-place.ensures.part))

pub loop-at-preserved : goal.loop-at-preserved
loop-at-preserved g c =
    let ps = c.self.inside.list.items in
    let small : c.loop-at.at < length ps = omega (arith, c.loop-at-test.true, c.len-at-end.ensures) in record {
      none = none_more g.B.Block.features (answers c.args.question) ps c.args.from c.loop-at.at c.index-block.result.now small c.index-block.ensures
          (c.may_answer.ensures c.if-may_answer.false) c.loop-at.invariant.none;
      reach = reach_more g.B.Block.features ps c.args.from c.loop-at.at c.loop-at.invariant.reach;
    }
