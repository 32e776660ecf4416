-- The texts of the faults of META containers.
use Rattle.std.specs.Prelude.{ℕ, List, Option, Some, codes}
use Rattle.farm_base.specs.declared.faults.MetaFault.{MetaFault}
use Rattle.farm_base.specs.declared.faults.MetaFault.TheVariants.{Short, Magic, Compressed, Count, Place, Index}

-- the text of a fault: its number
abbrev pub meta_text : MetaFault → Option (List ℕ)
meta_text (Short len) = Some (codes "meta 1")
meta_text Magic = Some (codes "meta 2")
meta_text Compressed = Some (codes "meta 3")
meta_text (Count count) = Some (codes "meta 4")
meta_text (Place x y z) = Some (codes "meta 5")
meta_text (Index place) = Some (codes "meta 6")
