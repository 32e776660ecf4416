use Rattle.std.proofs.Common.{◌-◌, ◌*◌, ◌<◌, false, true, take, drop, refl, sym, ◌∙◌, arith}
use Rattle.std.proofs.lemmas.List.Sorted.{IsPermutation-refl, IsPermutation-trans}
use Rattle.expiry_lists.proofs.Walked.{walks_then, five_few}
use Rattle.expiry_lists.proofs.Bits.{none_live}
use Rattle.expiry_lists.proofs.Near.{test_near, front_moved, front_some, near_none, near_quiet, near_front, near_own, near_quarter, near_quarters}
use Rattle.expiry_lists.proofs.walks.+boxes.Goals as goal

pub mark_boxes_dirty-returns-then-near-eq0-clause-walks : goal.mark_boxes_dirty-returns-then-near-eq0-clause-walks
mark_boxes_dirty-returns-then-near-eq0-clause-walks t c =
    near_none c.args.nodes.now c.len-count.ensures.unique c.requires.tree c.args.size (18 - c.args.top.meta.z) c.args.top c.args.mask c.requires.size c.requires.node c.args.boxes.now c.gather-near.new.boxes c.gather-near.result c.gather-near.ensures.moved
    c.if-near-eq0.true (test_near (drop c.gather-near.result c.gather-near.new.boxes) c.args.size c.args.top c.margin_of-margin.result c.meta_square.result false c.margin_of-margin.ensures.value c.meta_square.ensures.value c.gather-near.ensures.others)

pub mark_boxes_dirty-mark_near_dirty-requires : goal.mark_boxes_dirty-mark_near_dirty-requires
mark_boxes_dirty-mark_near_dirty-requires t c =
    let falls : 2 * (18 - c.args.top.meta.z) < t = omega (arith, c.decreases) in
    let near = test_near (take c.gather-near.result c.gather-near.new.boxes) c.args.size c.args.top c.margin_of-margin.result c.meta_square.result true c.margin_of-margin.ensures.value c.meta_square.ensures.value c.gather-near.ensures.near in (
      falls,
      (
        c.requires.node,
        (
          c.requires.size,
          (
            c.requires.tree,
            front_some c.gather-near.new.boxes (take c.gather-near.result c.gather-near.new.boxes) c.gather-near.result c.args.size c.args.top c.if-near-eq0.false c.gather-near.ensures.few refl near,
          ),
        ),
      ),
    )

pub mark_boxes_dirty-returns-clause-walks : goal.mark_boxes_dirty-returns-clause-walks
mark_boxes_dirty-returns-clause-walks t c =
    near_front c.args.nodes.now c.len-count.ensures.unique c.requires.tree c.args.size (18 - c.args.top.meta.z) c.args.top c.args.mask c.requires.size c.requires.node c.args.boxes.now c.gather-near.new.boxes (take c.gather-near.result c.gather-near.new.boxes) c.gather-near.result
    c.gather-near.ensures.moved refl (test_near (drop c.gather-near.result c.gather-near.new.boxes) c.args.size c.args.top c.margin_of-margin.result c.meta_square.result false c.margin_of-margin.ensures.value c.meta_square.ensures.value c.gather-near.ensures.others)
    c.mark_near_dirty.ensures.walks

pub mark_boxes_dirty-returns-clause-moved : goal.mark_boxes_dirty-returns-clause-moved
mark_boxes_dirty-returns-clause-moved t c = front_moved c.args.boxes.now c.gather-near.new.boxes c.mark_near_dirty.new.boxes c.gather-near.result c.gather-near.ensures.moved c.mark_near_dirty.ensures.moved

pub mark_near_dirty-returns-then-top-eq-LAST_ZOOM-clause-walks : goal.mark_near_dirty-returns-then-top-eq-LAST_ZOOM-clause-walks
mark_near_dirty-returns-then-top-eq-LAST_ZOOM-clause-walks t c = near_own (18 - c.args.top.meta.z) c.args.size c.args.boxes.now c.args.top c.args.mask (omega (arith, c.if-top-eq-LAST_ZOOM.true)) c.requires.near c.mark_place_dirty.ensures.walks

pub mark_near_dirty-returns-then-not-is_live-clause-walks : goal.mark_near_dirty-returns-then-not-is_live-clause-walks
mark_near_dirty-returns-then-not-is_live-clause-walks t c =
    near_quiet c.args.nodes.now c.len-count.ensures.unique c.requires.tree c.args.size (18 - c.args.top.meta.z) c.args.top c.args.mask c.requires.size c.requires.node c.args.boxes.now (none_live _ c.args.mask (sym c.is_live.ensures ∙ c.if-not-is_live.true))

pub mark_near_dirty-overflow_add-result : goal.mark_near_dirty-overflow_add-result
mark_near_dirty-overflow_add-result t c =
    let few = five_few c.mark_boxes_dirty-first.ensures.walks c.mark_boxes_dirty-second.ensures.walks c.mark_boxes_dirty-third.ensures.walks c.mark_boxes_dirty-fourth.ensures.walks c.mark_place_dirty-own.ensures.walks in
    omega (arith, few, c.len-count.ensures.small, c.len-count.ensures.len)

pub mark_near_dirty-overflow_add-result-2 : goal.mark_near_dirty-overflow_add-result-2
mark_near_dirty-overflow_add-result-2 t c =
    let few = five_few c.mark_boxes_dirty-first.ensures.walks c.mark_boxes_dirty-second.ensures.walks c.mark_boxes_dirty-third.ensures.walks c.mark_boxes_dirty-fourth.ensures.walks c.mark_place_dirty-own.ensures.walks in
    omega (arith, few, c.len-count.ensures.small, c.len-count.ensures.len)

pub mark_near_dirty-overflow_add-result-3 : goal.mark_near_dirty-overflow_add-result-3
mark_near_dirty-overflow_add-result-3 t c =
    let few = five_few c.mark_boxes_dirty-first.ensures.walks c.mark_boxes_dirty-second.ensures.walks c.mark_boxes_dirty-third.ensures.walks c.mark_boxes_dirty-fourth.ensures.walks c.mark_place_dirty-own.ensures.walks in
    omega (arith, few, c.len-count.ensures.small, c.len-count.ensures.len)

pub mark_near_dirty-overflow_add-result-4 : goal.mark_near_dirty-overflow_add-result-4
mark_near_dirty-overflow_add-result-4 t c =
    let few = five_few c.mark_boxes_dirty-first.ensures.walks c.mark_boxes_dirty-second.ensures.walks c.mark_boxes_dirty-third.ensures.walks c.mark_boxes_dirty-fourth.ensures.walks c.mark_place_dirty-own.ensures.walks in
    omega (arith, few, c.len-count.ensures.small, c.len-count.ensures.len)

pub mark_near_dirty-returns-clause-walks : goal.mark_near_dirty-returns-clause-walks
mark_near_dirty-returns-clause-walks t c =
    let boxes = c.args.boxes.now in
    let moved_1 = c.mark_boxes_dirty-first.ensures.moved in
    let moved_2 = IsPermutation-trans boxes c.mark_boxes_dirty-first.new.boxes c.mark_boxes_dirty-second.new.boxes moved_1 c.mark_boxes_dirty-second.ensures.moved in
    let moved_3 = IsPermutation-trans boxes c.mark_boxes_dirty-second.new.boxes c.mark_boxes_dirty-third.new.boxes moved_2 c.mark_boxes_dirty-third.ensures.moved in
    near_quarters c.args.size boxes c.args.top c.args.mask (omega (arith, c.requires.node.meta.z_fits, c.if-top-eq-LAST_ZOOM.false)) c.requires.near
    (walks_then (walks_then (walks_then (walks_then
    (near_quarter c.args.size boxes boxes c.args.top c.child.result c.args.mask 0 c.child.ensures.value (IsPermutation-refl boxes) c.mark_boxes_dirty-first.ensures.walks)
    (near_quarter c.args.size boxes c.mark_boxes_dirty-first.new.boxes c.args.top c.child-2.result c.args.mask 1 c.child-2.ensures.value moved_1 c.mark_boxes_dirty-second.ensures.walks))
    (near_quarter c.args.size boxes c.mark_boxes_dirty-second.new.boxes c.args.top c.child-3.result c.args.mask 2 c.child-3.ensures.value moved_2 c.mark_boxes_dirty-third.ensures.walks))
    (near_quarter c.args.size boxes c.mark_boxes_dirty-third.new.boxes c.args.top c.child-4.result c.args.mask 3 c.child-4.ensures.value moved_3 c.mark_boxes_dirty-fourth.ensures.walks))
    c.mark_place_dirty-own.ensures.walks)

pub mark_near_dirty-returns-clause-moved : goal.mark_near_dirty-returns-clause-moved
mark_near_dirty-returns-clause-moved t c =
    let boxes = c.args.boxes.now in
    let moved_2 = IsPermutation-trans boxes c.mark_boxes_dirty-first.new.boxes c.mark_boxes_dirty-second.new.boxes c.mark_boxes_dirty-first.ensures.moved c.mark_boxes_dirty-second.ensures.moved in
    let moved_3 = IsPermutation-trans boxes c.mark_boxes_dirty-second.new.boxes c.mark_boxes_dirty-third.new.boxes moved_2 c.mark_boxes_dirty-third.ensures.moved in
    IsPermutation-trans boxes c.mark_boxes_dirty-third.new.boxes c.mark_boxes_dirty-fourth.new.boxes moved_3 c.mark_boxes_dirty-fourth.ensures.moved
