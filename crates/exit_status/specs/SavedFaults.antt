-- The texts of the faults of saved farms; want of memory has none.
use Rattle.std.specs.Prelude.{ℕ, List, Option, Some, None, codes}
use Rattle.farm_saved.specs.declared.fault.SavedFault.{SavedFault}
use Rattle.farm_saved.specs.declared.fault.SavedFault.TheVariants.{Short, Magic, Kind, Order, Extra, NoMemory}

-- the text of a fault: its number
abbrev pub saved_text : SavedFault → Option (List ℕ)
saved_text (Short length) = Some (codes "saved 1")
saved_text Magic = Some (codes "saved 2")
saved_text (Kind place) = Some (codes "saved 3")
saved_text (Order place) = Some (codes "saved 4")
saved_text (Extra offset) = Some (codes "saved 5")
saved_text NoMemory = None
