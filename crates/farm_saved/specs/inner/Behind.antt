-- What stands in a saved text behind its styles, as the code reads it. Words of inner contracts.
use Rattle.std.specs.Prelude.{ℕ, List, [], length, Option, Result, Ok}
use Rattle.reading.specs.Steps.{◌>>=◌}
use Rattle.farm_history.specs.declared.saved.Past.{Past}
use Rattle.farm_history.specs.Replays.{Saving}
use Rattle.farm_saved.specs.Reading.{bytes_number, many, past_in, entry_in, nothing_left}
use Rattle.farm_saved.specs.declared.fault.SavedFault.{SavedFault}

-- behind these styles and updates: the clean entries, and nothing more
unfoldable pub behind_updates : SavedFault → ℕ → List (Option ℕ) → List Past → List ℕ
    → Result Saving SavedFault
behind_updates short all styles updates bytes = do
  entries ← bytes_number short 8 bytes
  clean ← many (entry_in short (length updates)) entries.0 [] entries.1
  u ← nothing_left all clean.1
  Ok (record { styles = styles; updates = updates; clean = clean.0 })

-- behind these styles: the updates, and what is behind them
unfoldable pub behind_styles : SavedFault → ℕ → List (Option ℕ) → List ℕ → Result Saving SavedFault
behind_styles short all styles bytes = do
  pasts ← bytes_number short 8 bytes
  updates ← many (past_in short) pasts.0 [] pasts.1
  behind_updates short all styles updates.0 updates.1
