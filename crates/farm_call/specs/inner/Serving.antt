-- What the command does with a store, with out and with three ports, once its files were read.
use Rattle.std.specs.Prelude.{◌≡◌, ℕ, List, [], map, Result, Ok, Err}
use Rattle.farm_base.specs.Outside.{Outside}
use Rattle.tile_store.specs.Stores.{StoreTold}
use Rattle.reactor_ports.specs.declared.ends.FrontDone.{FrontDone}
use Rattle.reactor_ports.specs.Told.{PortsTold}
use Rattle.exit_status.specs.Ends.{SinkAt}
use Rattle.exit_status.specs.declared.stops.Stop.{Stop}
use Rattle.farm_history.specs.Entries.{Entry}
use Rattle.farm_files.specs.Inputs.{ServeInputs}
use Rattle.farm_refinement.specs.Seen.{FarmSeen}
use Rattle.farm_runs.specs.declared.each_front.EachFront.{EachFront}
use Rattle.farm_plan.specs.Plans.{maps_in}
use Rattle.farm_runs.specs.Promise.{Ends, RunsWell}
use Rattle.farm_call.specs.inner.Fronts.{renderd_leaves, tiles_leave, control_leaves}
use Rattle.farm_call.specs.Beginnings.{HasBegun}
use Rattle.farm_call.specs.Listens.{Listening}
use Rattle.farm_call.specs.Endings.{why_ended, WindsUp}
use Rattle.farm_call.specs.Serves.{places, fronts_of, end_of, is_worn_out, WhyNot}
use Rattle.farm_call.specs.declared.left.Done.{Done}
use Rattle.farm_call.specs.declared.left.Left.{Left}
use Rattle.farm_call.specs.declared.left.Left.TheVariants.{Store, Farm}

-- what a command works on: out, the store or what is left of it, what the fronts answered, and what
-- the ports show
pub record World (D : Type 0) : Type 0 where
  pub out : SinkAt
  pub left : Left D
  pub fronts : List FrontDone
  pub ports : EachFront (Outside PortsTold)

-- out, the store and what the ports show, and no fronts
abbrev pub over : {D : Type 0} → SinkAt → D → EachFront (Outside PortsTold) → World D
over out store ports = record { out = out; left = Store store; fronts = []; ports = ports }

-- out, what a command left, and what the ports show
abbrev pub left_by : {D : Type 0} → SinkAt → Done D → EachFront (Outside PortsTold) → World D
left_by out done ports =
    record { out = out; left = done.left; fronts = done.fronts.items; ports = ports }

module _ {D : Type 0} (state : D → Outside StoreTold) (s : ServeInputs) (store : D) where
  -- **No actor was started.** Nothing was put on out and there are no fronts; the ports were
  -- listened on at most
  pub record NotServed (store' : D) (old new : World D)
      (end : Result (Unit {0}) Stop) : Type 0 where
    pub why : Stop
    pub end_is : end ≡ Err why
    pub why_not : WhyNot state s store store' old.ports new.ports why
    pub silent : new.out ≡ old.out
    pub no_fronts : new.fronts ≡ []

  -- **The farm has served.** `closed` is what is left: the farm, and the history of its turns
  pub record HasServed (closed : FarmSeen D × List (ℕ × Entry)) (old new : World D)
      (end : Result (Unit {0}) Stop) : Type 0 where
    -- the farm as it began, and what the ports showed when they listened
    pub first : FarmSeen D
    pub begun : HasBegun state s.inputs.plan s.config.resume store first
    pub listening : EachFront (Outside PortsTold)
    pub listens : Listening (places s.config old.ports listening) (Ok tt)
    -- it ran well from there on; `last` is the farm as the run left it, before anything was saved
    pub last : FarmSeen D
    pub done : EachFront FrontDone
    pub ends : Ends
    pub runs : RunsWell state first last closed.1 (renderd_leaves (maps_in s.inputs.plan))
        (tiles_leave (maps_in s.inputs.plan))
        (control_leaves s.inputs.lists) listening new.ports done ends
    pub fronts_are : new.fronts ≡ fronts_of done
    -- and then it was saved, where it is to be, and the line of its counts was put; and so the
    -- command ends
    pub winds : WindsUp state s.config.resume
        (why_ended (is_worn_out ends) (map end_of (fronts_of done))) ends.tally last closed.0
        closed.1 old.out new.out end

  -- one of both, by what is left
  abbrev pub ServesTo : World D → World D → Result (Unit {0}) Stop → Left D → Type 0
  ServesTo old new end (Store store') = NotServed store' old new end
  ServesTo old new end (Farm closed) = HasServed closed old new end

  -- **The command**, over a store
  abbrev pub Serves : World D → World D → Result (Unit {0}) Stop → Type 0
  Serves old new end = ServesTo old new end new.left
