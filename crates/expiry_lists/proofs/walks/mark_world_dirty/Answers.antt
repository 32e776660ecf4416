use Rattle.std.proofs.Common.{◌∙◌}
use Rattle.expiry_lists.specs.inner.Tiles.{world_key}
use Rattle.expiry_lists.proofs.Near.{some_told, own_near, own_far}
use Rattle.expiry_lists.proofs.Spots.{place_told}
use Rattle.expiry_lists.proofs.walks.mark_world_dirty.Goals as goal

pub returns-then-some_comes_near : goal.returns-then-some_comes_near
returns-then-some_comes_near c = record {
  walks = own_near (world_key c.args.at.group c.args.z) c.args.at.mask c.args.size c.args.boxes.now
      (some_told c.args.boxes.now c.args.size c.args.at.group c.args.z c.margin_of-margin.result c.world_key-place.result c.meta_square.result c.some_comes_near.result c.margin_of-margin.ensures.value c.world_key-place.ensures c.meta_square.ensures.value c.some_comes_near.ensures ∙ c.if-some_comes_near.true)
      (place_told c.world_key-place.result (world_key c.args.at.group c.args.z) c.args.at.mask c.world_key-place.ensures c.mark_place_dirty.ensures.walks);
}

pub returns-else-some_comes_near : goal.returns-else-some_comes_near
returns-else-some_comes_near c = record {
  walks = own_far c.args.nodes.now c.requires.tree (world_key c.args.at.group c.args.z) c.args.at.mask c.args.size c.args.boxes.now
      (some_told c.args.boxes.now c.args.size c.args.at.group c.args.z c.margin_of-margin.result c.world_key-place.result c.meta_square.result c.some_comes_near.result c.margin_of-margin.ensures.value c.world_key-place.ensures c.meta_square.ensures.value c.some_comes_near.ensures ∙ c.if-some_comes_near.false);
}
