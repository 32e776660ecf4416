-- What an expiry list says, line by line: its tiles, or the first line that is none. Each reader is
-- given the fault of its line.
use Rattle.std.specs.Prelude.{ℕ, ◌^◌, List, [], ◌∷◌, Option, Some, None, Result, Ok}
use Rattle.std.specs.Option.{ok_or}
use Rattle.std.specs.Str.Lines.{lines}
use Rattle.farm_base.specs.Cuts.{cut_at}
use Rattle.farm_base.specs.Numbers.{decimal_below}
use Rattle.reading.specs.Lines.{line_text, items_after}
use Rattle.reading.specs.Steps.{◌>>=◌}
use Rattle.plain_world.specs.declared.world.Tile.{Tile}
use Rattle.merc_fixed.specs.Tiles.{tile_if_any}
use Rattle.expiry_lists.specs.declared.faults.ListFault.{ListFault}
use Rattle.expiry_lists.specs.declared.faults.ListFault.TheVariants.{Line}

-- what stands before the first slash, and what stands behind it
abbrev pub list_word : ListFault → List ℕ → Result (List ℕ × List ℕ) ListFault
list_word fault text = ok_or (cut_at 47 text) fault

-- a number of 32 bits, in decimal without leading zeros
abbrev pub list_number : ListFault → List ℕ → Result ℕ ListFault
list_number fault word = ok_or (decimal_below (2 ^ 32) word) fault

-- the tile of a line: z/x/y
unfoldable pub list_tile : ListFault → List ℕ → Result Tile ListFault
list_tile fault text = do
  first ← list_word fault text
  second ← list_word fault first.1
  z ← list_number fault first.0
  x ← list_number fault second.0
  y ← list_number fault second.1
  ok_or (tile_if_any z x y) fault

-- what a line says, nothing where it is empty
unfoldable pub list_line : ListFault → List ℕ → Result (Option Tile) ListFault
list_line fault [] = Ok None
list_line fault (b ∷ bs) =
    line_text fault (b ∷ bs) >>= λ text. list_tile fault text >>= λ t. Ok (Some t)

-- what the bytes of an expiry list say; lines are counted from 1, the empty ones too
unfoldable pub list_in : List ℕ → Result (List Tile) ListFault
list_in bytes = items_after list_line Line 1 [] (lines bytes)
