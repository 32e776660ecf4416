-- How generated work ends, and what it leaves.
use Rattle.std.specs.Prelude.{◌≡◌, ℕ, ◌⊎◌, true, false, List, [], ◌++◌, take, slice_get, Option, Some, None, Result, Ok, Err}
use Rattle.farm_base.specs.Outside.{Outside, Puts}
use Rattle.farm_base.specs.declared.sinks.SinkFault.TheVariants.{Failed}
use Rattle.tile_store.specs.Stores.{StoreTold}
use Rattle.farm_history.specs.Entries.{Entry}
use Rattle.farm_history.specs.Lists.{Each}
use Rattle.exit_status.specs.Ends.{SinkAt}
use Rattle.exit_status.specs.declared.stops.Stop.{Stop}
use Rattle.exit_status.specs.declared.stops.Stop.TheVariants as stop
use Rattle.work_gen.specs.Work.{work_plan, steps_of}
use Rattle.work_gen.specs.declared.stepping.Step.{Step}
use Rattle.script_text.specs.ScriptTexts.{has_failed}
use Rattle.script_text.specs.Left.{Leaves}
use Rattle.load_command.specs.Loads.{IsLoad, IsEventOf, load_text}

-- nothing, or an event of the step
abbrev pub IsEventAt : Option Step → Entry → Type 0
IsEventAt None e = ⊥
IsEventAt (Some s) e = IsEventOf s e

-- Why so many steps were run and no more, after which there were one history and, at the end,
-- another: there are no more, their line was put, and it is told whether a call of the store
-- failed; or the put failed; or memory was wanting, in the next step or for the line, and nothing
-- was put.
abbrev pub LoadedSo : ℕ → ℕ → ℕ → List Entry → List Entry → SinkAt → SinkAt
    → Result (Unit {0}) Stop → Type 0
LoadedSo seed n count middle after out out' (Ok done) = (count ≡ 32) × (after ≡ middle)
    × (has_failed after ≡ false) × Puts out out' (load_text n after) (Ok tt)
LoadedSo seed n count middle after out out' (Err stop.StoreFailed) = (count ≡ 32) × (after ≡ middle)
    × (has_failed after ≡ true) × Puts out out' (load_text n after) (Ok tt)
LoadedSo seed n count middle after out out' (Err stop.SinkFailed) =
    (count ≡ 32) × (after ≡ middle) × Puts out out' (load_text n after) (Err Failed)
LoadedSo seed n count middle after out out' (Err stop.NoMemory) =
    (out' ≡ out) × ((rest : List Entry) × (after ≡ rest ++ middle)
    × Each (IsEventAt (slice_get (steps_of seed n 32) count)) rest)
LoadedSo seed n count middle after out out' (Err other) = ⊥

-- Generated work: its first so many steps were run on a farm that stood for no events, until this
-- end.
pub record LoadsOn (seed n : ℕ) (stands : List Entry → Type 0) (out out' : SinkAt)
    (end : Result (Unit {0}) Stop) : Type 0 where
  pub count : ℕ
  pub middle : List Entry
  pub run : IsLoad (take count (steps_of seed n 32)) [] middle
  pub after : List Entry
  pub stood_for : stands after
  pub loaded : LoadedSo seed n count middle after out out' end

-- the same over a store, on a farm of the generated plan; in want of memory it may not be started
abbrev pub Loads : {D : Type 0} → (D → Outside StoreTold) → ℕ → ℕ → D → D → SinkAt → SinkAt
    → Result (Unit {0}) Stop → Type 0
Loads state seed n store store' out out' end =
    Leaves state (work_plan seed n) store store' (λ stands. LoadsOn seed n stands out out' end)
    ⊎ ((end ≡ Err stop.NoMemory) × (store' ≡ store) × (out' ≡ out))
