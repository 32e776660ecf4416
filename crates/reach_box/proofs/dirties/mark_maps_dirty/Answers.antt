-- One size after another.
use Rattle.std.proofs.Common.{arith}
use Rattle.std.proofs.lemmas.List.Sorted.{IsPermutation-refl, IsPermutation-trans}
use Rattle.reach_box.proofs.Dirtied.{below_size, expires_none, near_told, no_size, size_more, size_at, size_whole, all_sizes}
use Rattle.reach_box.proofs.dirties.mark_maps_dirty.Goals as goal

pub loop-i-init : goal.loop-i-init
loop-i-init c = record {
  dirties = expires_none (below_size c.args.maps.now c.args.boxes.now 0) c.args.marks.now.shown (no_size c.args.maps.now c.args.boxes.now c.requires.few c.requires.maps);
  moved = IsPermutation-refl c.args.boxes.now;
}

pub expire_bits_boxes-requires : goal.expire_bits_boxes-requires
expire_bits_boxes-requires c = size_at c.loop-i.i (omega (arith, c.loop-i-test.true))

pub loop-i-preserved : goal.loop-i-preserved
loop-i-preserved c = record {
  dirties =
      size_more c.args.maps.now c.args.boxes.now c.requires.few c.requires.maps c.loop-i.i c.word_of-word.result _ c.args.marks.now.shown c.loop-i.marks.shown c.expire_bits_boxes.new.self.shown c.loop-i.clean c.expire_bits_boxes.result c.saturating_add-clean.result
      (omega (arith, c.loop-i-test.true)) (size_whole c.loop-i.i (omega (arith, c.loop-i-test.true))) c.word_of-word.ensures
      (near_told c.word_of-word.result _ c.args.boxes.now c.loop-i.boxes c.loop-i.marks.shown c.expire_bits_boxes.new.self.shown c.expire_bits_boxes.result c.loop-i.invariant.moved c.expire_bits_boxes.type_inv c.expire_bits_boxes.ensures.shown c.expire_bits_boxes.ensures.count)
      c.saturating_add-clean.ensures c.loop-i.invariant.dirties;
  moved = IsPermutation-trans c.args.boxes.now c.loop-i.boxes c.expire_bits_boxes.new.boxes c.loop-i.invariant.moved c.expire_bits_boxes.ensures.moved;
}

pub returns-clause-dirties : goal.returns-clause-dirties
returns-clause-dirties c = all_sizes c.args.maps.now c.args.boxes.now c.requires.few c.requires.maps c.loop-i.i (omega (arith, c.loop-i-test.false)) c.loop-i.invariant.dirties
