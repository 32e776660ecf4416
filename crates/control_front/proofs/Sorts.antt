-- The entries of the control front's moves are a front's, and a Stop is its own.
use Rattle.std.proofs.Common.{◌≡◌, ℕ, true, List, [], ◌∷◌, refl}
use Rattle.plain_world.specs.declared.world.Tile.{Tile}
use Rattle.farm_history.specs.declared.queues.Reply.{Reply}
use Rattle.farm_history.specs.Entries.{Entry}
use Rattle.farm_history.specs.Lists.{Each}
use Rattle.front_loop.specs.Kinds.{IsOfFront}
use Rattle.front_loop.specs.Rules.{Move, Gets}
use Rattle.control_front.specs.declared.acts.Act.{Act}
use Rattle.control_front.specs.declared.acts.Act.TheVariants.{Expires, Stops, Refuses}
use Rattle.control_front.specs.Control.{control_rules, tiles_at}
use Rattle.control_front.specs.inner.Doing.{expiries}

each_expires : (tiles : List Tile) (counts : List ℕ) → Each (IsOfFront 2) (expiries tiles counts)
each_expires [] counts = tt
each_expires (t ∷ tiles) [] = tt
each_expires (t ∷ tiles) (k ∷ counts) = (tt, each_expires tiles counts)

pub each_entry : (lists : List (List Tile)) (c : ℕ) (a : Act) → Each (IsOfFront 2) ((control_rules 2 lists).entries c a)
each_entry lists c (Expires n counts) = each_expires (tiles_at lists n) counts
each_entry lists c Stops = (refl, tt)
each_entry lists c Refuses = tt
each_entry lists c a = (tt, tt)

-- nothing stands behind the Collect of a reply
pub each_behind : (lists : List (List Tile)) (ms : List (Move Act)) (r : Reply) (behind : List Entry) → (control_rules 2 lists).fits ms (Gets r behind) ≡ true → Each (IsOfFront 2) behind
each_behind lists ms r [] h = tt
each_behind lists ms r (e ∷ es) h = cc
