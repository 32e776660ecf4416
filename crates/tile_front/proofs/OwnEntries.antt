-- The entries of the tile front are a front's.
use Rattle.std.proofs.Common.{ℕ, List, Option, refl}
use Rattle.front_loop.specs.Kinds.{IsOfFront}
use Rattle.front_loop.specs.Leaves.{IsFront}
use Rattle.tile_front.specs.Tiles.{tile_rules}
use Rattle.tile_front.proofs.EntryKinds as tiles

pub is_front : (maps : List ℕ → Option ℕ) → IsFront 1 (tile_rules 1 maps)
is_front maps = record {
  number = refl;
  acts = λ c a. tiles.each_entry (IsOfFront 1) (λ s f. tt) (λ conn command spot answer. tt) (λ s l. tt) _ a;
  behinds = λ ms r behind fits. tiles.each_behind (IsOfFront 1) (λ s f. tt) _ behind fits;
}
