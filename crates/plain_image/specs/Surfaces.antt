-- What is said of the bits that a surface shows.
use Rattle.std.specs.Prelude.{◌≡◌, Bool}
use Rattle.plain_world.specs.declared.world.Point.{Point}
use Rattle.plain_world.specs.declared.world.Window.{Window}
use Rattle.plain_world.specs.World.{centres}
use Rattle.plain_shapes.specs.Images.{Bits}
use Rattle.plain_shapes.specs.inner.Canvas.{marked}

-- the surface shows bits that are as R says
pub record ShowsSome {S : Type 0} (shows : S → Bits → Type 0) (R : Bits → Type 0)
    (s : S) : Type 0 where
  pub bits : Bits
  pub shown : shows s bits
  pub is : R bits

-- whatever bits the old surface shows, the new one shows bits that are as R says of them
abbrev pub Becomes : {S : Type 0} → (S → S → Bits → Type 0) → (Bits → Bits → Type 0) → S
    → S → Type 0
Becomes shows R old new = (start : _) (bits : Bits) → shows start old bits
    → ShowsSome (shows start) (R bits) new

-- the new surface shows what the old one does, and the pixels whose centre is a member; of a mask,
-- its bits with theirs also set
abbrev pub Marks : {S : Type 0} → (S → S → Bits → Type 0) → (Point → Bool) → Window → S → S → Type 0
Marks shows member w old new = Becomes shows
    (λ bits next. next ≡ record bits { bits = marked member (centres w) bits.bits }) old new

-- whatever bits the surface shows, they are as R says
abbrev pub Knows : {S : Type 0} → (S → S → Bits → Type 0) → (Bits → Type 0) → S → Type 0
Knows shows R now = (start : _) (bits : Bits) → shows start now bits → R bits
