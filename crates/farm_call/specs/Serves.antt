-- What the command `serve` works with: its ports, how its run ended, and why no actor was started.
use Rattle.std.specs.Prelude.{◌≡◌, ◌⊎◌, ℕ, Bool, ◌||◌, not, List, [], ◌∷◌, Option, Some, None, Ok, Err, is_none}
use Rattle.farm_base.specs.Outside.{Outside}
use Rattle.tile_store.specs.Stores.{StoreTold}
use Rattle.reactor_ports.specs.declared.ends.FrontDone.{FrontDone}
use Rattle.reactor_ports.specs.declared.ends.FrontEnd.{FrontEnd}
use Rattle.reactor_ports.specs.Told.{PortsTold}
use Rattle.exit_status.specs.declared.stops.Stop.{Stop}
use Rattle.exit_status.specs.declared.stops.Stop.TheVariants as stop
use Rattle.farm_history.specs.Entries.{Entry}
use Rattle.farm_config.specs.Configs.{Config}
use Rattle.farm_files.specs.Inputs.{ServeInputs}
use Rattle.farm_refinement.specs.Seen.{FarmSeen}
use Rattle.farm_shared.specs.Shared.{lasting_of, past}
use Rattle.farm_runs.specs.declared.each_front.EachFront.{EachFront}
use Rattle.farm_runs.specs.Promise.{Ends}
use Rattle.farm_call.specs.Beginnings.{HasBegun, CannotBegin}
use Rattle.farm_call.specs.Listens.{ListenPlace, Listening}

-- ---- the ports

-- an address; a configuration that is to listen has all three
abbrev pub address_of : Option (List ℕ) → List ℕ
address_of (Some address) = address
address_of None = []

-- the ports that are listened on, in this order: each with its address, and what it shows before
-- and after
abbrev pub places : Config → EachFront (Outside PortsTold) → EachFront (Outside PortsTold)
    → List ListenPlace
places config old new =
    (address_of config.renderd, old.renderd, new.renderd)
    ∷ (address_of config.tiles, old.tiles, new.tiles)
    ∷ (address_of config.control, old.control, new.control) ∷ []

-- ---- the end

-- what the fronts answered, by their numbers
abbrev pub fronts_of : EachFront FrontDone → List FrontDone
fronts_of done = done.renderd ∷ done.tiles ∷ done.control ∷ []

-- how a front ended
abbrev pub end_of : FrontDone → FrontEnd
end_of done = done.end

-- whether the run itself or a worker met that all turns were drawn: the run has not all its own
-- entries, or a worker ended worn
abbrev pub is_worn_out : Ends → Bool
is_worn_out ends = ends.worn || not ends.stopped || is_none ends.tally

-- ---- what is left

-- a farm, and the history of its turns
abbrev pub ClosedFarm : Type 0 → Type 0
ClosedFarm D = FarmSeen D × List (ℕ × Entry)

-- all that happened to the farm, the newest entry first: what it was resumed from, replayed, and
-- then the entries of
-- this run
abbrev pub whole_history : {D : Type 0} → (D → Outside StoreTold) → FarmSeen D → List (ℕ × Entry)
    → List Entry
whole_history state farm turns = past (lasting_of state farm) turns

module _ {D : Type 0} (state : D → Outside StoreTold) (s : ServeInputs) (store : D) where
  -- Why no actor was started: no farm was begun, and then no port was listened on; or a farm was,
  -- whose store is left, and
  -- a port could not be listened on, or memory was wanting after that
  abbrev pub WhyNot : D → EachFront (Outside PortsTold) → EachFront (Outside PortsTold) → Stop
      → Type 0
  WhyNot store' ports ports' why =
      (CannotBegin (state store) s.inputs.plan s.config.resume (state store') why
      × (ports' ≡ ports))
      ⊎ ((farm : FarmSeen D) × HasBegun state s.inputs.plan s.config.resume store farm
      × (store' ≡ farm.store)
      × (Listening (places s.config ports ports') (Err why)
      ⊎ (Listening (places s.config ports ports') (Ok tt) × (why ≡ stop.NoMemory))))
