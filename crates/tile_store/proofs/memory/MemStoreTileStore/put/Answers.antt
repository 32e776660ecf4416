use Rattle.std.proofs.Common.{ap, refl, length}
use Rattle.tile_store.specs.Held.{StoreHeld, told_of, half}
use Rattle.tile_store.proofs.Contents.{stored, half_stored, counted_one}
use Rattle.tile_store.proofs.memory.MemStoreTileStore.put.Goals as goal

pub returns-then-put_is_to_fail-clause-state : goal.returns-then-put_is_to_fail-clause-state
returns-then-put_is_to_fail-clause-state c = (
  (
    told_of c.keep_half.new.self,
    refl,
    half_stored c.args.self.now c.keep_half.new.self c.args.path.now (half c.args.bytes.now)
        (ap (λ (s : StoreHeld). s.held) c.in_ok-keep_half.ensures.done) (ap (λ (s : StoreHeld). s.failed) c.in_ok-keep_half.ensures.done),
  ),
  counted_one _ _ _ (ap (λ (s : StoreHeld). s.failed) c.in_ok-keep_half.ensures.done),
)

pub returns-clause-state : goal.returns-clause-state
returns-clause-state c = (
  (
    told_of c.keep.new.self,
    refl,
    stored c.args.self.now c.keep.new.self c.args.path.now c.args.bytes.now
        (ap (λ (s : StoreHeld). s.held) c.in_ok-keep.ensures.done) (ap (λ (s : StoreHeld). s.failed) c.in_ok-keep.ensures.done),
  ),
  ap (λ (s : StoreHeld). length s.failed) c.in_ok-keep.ensures.done,
)
