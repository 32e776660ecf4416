-- The lines that tell what a container holds.
use Rattle.std.specs.Prelude.{ℕ, List, ◌++◌, codes}
use Rattle.std.specs.List.{flat_map}
use Rattle.std.specs.Fmt.{decimal}
use Rattle.meta_container.specs.declared.container.Listing.{Listing}

-- three numbers in decimal on a line, with a space between them
abbrev pub three_numbers : ℕ → ℕ → ℕ → List ℕ
three_numbers a b c = decimal a ++ codes " " ++ decimal b ++ codes " " ++ decimal c ++ codes "\n"

-- what a container holds: a line of its metatile, the zoom, the column and the row of the lowest
-- tile; and one of each of its tiles in order, its place, where it begins and how many bytes it has
abbrev pub listing_text : Listing → List ℕ
listing_text listing =
    three_numbers listing.meta.z listing.meta.x listing.meta.y ++ flat_map
    (λ entry. three_numbers entry.place entry.offset entry.size) listing.entries.items
