-- The entries of the renderd front are a front's.
use Rattle.std.proofs.Common.{ℕ, List, Option, refl}
use Rattle.front_loop.specs.Leaves.{IsFront}
use Rattle.session_front.specs.Renderd.{renderd_rules}
use Rattle.session_front.proofs.Sorts.{each_entry, each_behind}

pub is_front : (maps : List ℕ → Option ℕ) → IsFront 0 (renderd_rules 0 maps)
is_front maps = record { number = refl; acts = each_entry maps; behinds = each_behind maps }
