-- Single lines of what a container holds. Words of inner contracts.
use Rattle.std.specs.Prelude.{ℕ, List}
use Rattle.plain_world.specs.declared.world.Meta.{Meta}
use Rattle.meta_container.specs.declared.container.Entry.{Entry}
use Rattle.render_command.specs.MetaLines.{three_numbers}

-- the line of a metatile: the zoom, the column and the row of its lowest tile
abbrev pub meta_line : Meta → List ℕ
meta_line m = three_numbers m.z m.x m.y

-- the line of a tile: its place, where it begins, and how many bytes it has
abbrev pub entry_line : Entry → List ℕ
entry_line entry = three_numbers entry.place entry.offset entry.size
