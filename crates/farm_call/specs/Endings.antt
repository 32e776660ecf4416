-- How a call ends whose farm has served.
use Rattle.std.specs.Prelude.{◌≡◌, ℕ, Bool, true, false, ◌||◌, if◌then◌else◌, List, Option, Some, None, Result, Ok, Err}
use Rattle.std.specs.List.{list_any}
use Rattle.farm_base.specs.Outside.{Outside, Puts}
use Rattle.farm_base.specs.declared.sinks.SinkFault.{SinkFault}
use Rattle.tile_store.specs.Stores.{StoreTold}
use Rattle.reactor_ports.specs.declared.ends.FrontEnd.{FrontEnd}
use Rattle.reactor_ports.specs.declared.ends.FrontEnd.TheVariants.{Broken, Worn, NoMemory}
use Rattle.exit_status.specs.Ends.{SinkAt}
use Rattle.exit_status.specs.declared.stops.Stop.{Stop}
use Rattle.exit_status.specs.declared.stops.Stop.TheVariants as stop
use Rattle.farm_history.specs.declared.answers.Tally.{Tally}
use Rattle.farm_history.specs.Entries.{Entry}
use Rattle.script_answers.specs.Answers.{tally_line}
use Rattle.farm_refinement.specs.Seen.{FarmSeen}
use Rattle.farm_call.specs.Savings.{MaySave}

-- ---- why a run ended

-- whether a front that ended so is one of these
abbrev pub is_front_worn : FrontEnd → Bool
is_front_worn Worn = true
is_front_worn _ = false

abbrev pub is_broken : FrontEnd → Bool
is_broken Broken = true
is_broken _ = false

abbrev pub is_wanting : FrontEnd → Bool
is_wanting NoMemory = true
is_wanting _ = false

-- How a call ends whose fronts ended so, before anything is saved; `worn` says that the run itself
-- or a worker met that all turns were drawn. The first that holds
abbrev pub why_ended : Bool → List FrontEnd → Result (Unit {0}) Stop
why_ended worn ends =
    if worn || list_any is_front_worn ends
    then Err stop.TurnsUsedUp
    else (if list_any is_broken ends then Err stop.PortsFailed else
    (if list_any is_wanting ends then Err stop.NoMemory else Ok tt))

-- ---- the line of the counts

-- a put that failed is the end, and else it is as it was
abbrev pub end_after_put : Result (Unit {0}) SinkFault → Result (Unit {0}) Stop
    → Result (Unit {0}) Stop
end_after_put (Ok done) end = end
end_after_put (Err fault) end = Err stop.SinkFailed

-- The line of the counts was put on out, where they were taken; `end` is how the call ends without
-- it, and `end'` how it ends
abbrev pub TellsCounts : Option Tally → SinkAt → SinkAt → Result (Unit {0}) Stop
    → Result (Unit {0}) Stop → Type 0
TellsCounts None out out' end end' = (out' ≡ out) × (end' ≡ end)
TellsCounts (Some tally) out out' end end' =
    (put : Result (Unit {0}) SinkFault) × Puts out out' (tally_line tally) put
    × (end' ≡ end_after_put put end)

-- ---- the whole end

-- The farm was saved, where it is to be and the run ended in order, and then the line of its counts
-- was put
pub record WindsUp {D : Type 0} (state : D → Outside StoreTold) (resume : Bool)
    (why : Result (Unit {0}) Stop) (tally : Option Tally) (farm farm' : FarmSeen D)
    (log : List (ℕ × Entry)) (out out' : SinkAt) (end : Result (Unit {0}) Stop) : Type 0 where
  pub saved : Result (Unit {0}) Stop
  pub saves : MaySave state resume why farm farm' log saved
  pub told : TellsCounts tally out out' saved end
