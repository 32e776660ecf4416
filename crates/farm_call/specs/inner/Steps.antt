-- The steps of the command.
use Rattle.std.specs.Prelude.{◌≡◌, ℕ, Bool, List, [], map, Result, Ok, Err}
use Rattle.farm_base.specs.Outside.{Outside}
use Rattle.tile_store.specs.Stores.{StoreTold}
use Rattle.reactor_ports.specs.declared.ends.FrontDone.{FrontDone}
use Rattle.reactor_ports.specs.Told.{PortsTold}
use Rattle.exit_status.specs.Ends.{FilesAt, SinkAt}
use Rattle.exit_status.specs.declared.stops.Stop.{Stop}
use Rattle.exit_status.specs.declared.stops.Stop.TheVariants as stop
use Rattle.farm_files.specs.Course.{Course}
use Rattle.farm_files.specs.inner.Follows.{Follows}
use Rattle.farm_history.specs.Entries.{Entry}
use Rattle.farm_files.specs.Inputs.{ServeInputs}
use Rattle.farm_refinement.specs.Seen.{FarmSeen}
use Rattle.farm_runs.specs.declared.each_front.EachFront.{EachFront}
use Rattle.farm_plan.specs.Plans.{maps_in}
use Rattle.farm_runs.specs.Promise.{Ends, RunsWell}
use Rattle.farm_call.specs.inner.Fronts.{renderd_leaves, tiles_leave, control_leaves}
use Rattle.farm_runs.specs.declared.running.Run.{Run}
use Rattle.farm_call.specs.Beginnings.{HasBegun}
use Rattle.farm_call.specs.Listens.{Listening}
use Rattle.farm_call.specs.Endings.{why_ended, WindsUp}
use Rattle.farm_call.specs.declared.left.Left.{Left}
use Rattle.farm_call.specs.declared.left.Left.TheVariants.{Store, Farm}
use Rattle.farm_call.specs.declared.left.Done.{Done}
use Rattle.farm_call.specs.declared.serve.Ready.{Ready}
use Rattle.farm_call.specs.Serves.{WhyNot, places, fronts_of, end_of, is_worn_out}
use Rattle.farm_call.specs.inner.Serving.{World, Serves}

-- what the run told beside its fronts
abbrev pub ends_of : {D : Type 0} → Run D → Ends
ends_of run = record { worn = run.worn; stopped = run.stopped; tally = run.tally }

-- a run was ended
pub record EndsRun {D : Type 0} (state : D → Outside StoreTold) (resume : Bool) (run : Run D)
    (out out' : SinkAt) (done : Done D) : Type 0 where
  pub farm : FarmSeen D
  pub left_is : done.left ≡ Farm (farm, run.closed.1)
  pub fronts_are : done.fronts.items ≡ fronts_of run.fronts
  pub winds : WindsUp state resume
      (why_ended (is_worn_out (ends_of run)) (map end_of (fronts_of run.fronts))) run.tally
      run.closed.0 farm run.closed.1 out out' done.end

-- what was made of the files is served; where nothing was, nothing is done
abbrev pub ServesMade : {D : Type 0} → (D → Outside StoreTold) → D → World D → World D
    → Result (Unit {0}) Stop → Result ServeInputs Stop → Type 0
ServesMade state store old new end (Ok s) = Serves state s store old new end
ServesMade state store old new end (Err why) = (end ≡ Err why) × (new ≡ old)

-- the course of the command's files is followed, and what it makes is served
pub record Runs {D : Type 0} (state : D → Outside StoreTold) (course : Course ServeInputs)
    (files files' : FilesAt) (store : D) (old new : World D)
    (end : Result (Unit {0}) Stop) : Type 0 where
  pub made : Result ServeInputs Stop
  pub followed : Follows course files files' made
  pub serves : ServesMade state store old new end made

-- what the files say is ready to be served: a farm of it has begun, and its ports listen
pub record IsReady {D : Type 0} (state : D → Outside StoreTold) (s : ServeInputs) (store : D)
    (ports listening : EachFront (Outside PortsTold)) (ready : Ready D) : Type 0 where
  pub begun : HasBegun state s.inputs.plan s.config.resume store ready.farm
  pub listens : Listening (places s.config ports listening) (Ok tt)
  pub resume_is : ready.resume ≡ s.config.resume
  pub lists_are : ready.lists.items ≡ s.inputs.lists

-- it is; or the store that is left, and why not
abbrev pub MakesReady : {D : Type 0} → (D → Outside StoreTold) → ServeInputs → D
    → EachFront (Outside PortsTold) → EachFront (Outside PortsTold)
    → Result (Ready D) (D × Stop) → Type 0
MakesReady state s store ports ports' (Ok ready) = IsReady state s store ports ports' ready
MakesReady state s store ports ports' (Err back) = WhyNot state s store back.0 ports ports' back.1

-- A farm that was ready, with its ports, has run: it ran well and was ended; or memory was wanting
-- before its threads, and then it is as it was
pub record RanWell {D : Type 0} (state : D → Outside StoreTold) (ready : Ready D)
    (closed : FarmSeen D × List (ℕ × Entry)) (old new : World D)
    (end : Result (Unit {0}) Stop) : Type 0 where
  pub last : FarmSeen D
  pub done : EachFront FrontDone
  pub ends : Ends
  pub runs :
      RunsWell state ready.farm last closed.1 (renderd_leaves (maps_in ready.farm.plan))
      (tiles_leave (maps_in ready.farm.plan))
      (control_leaves ready.lists.items) old.ports new.ports done ends
  pub fronts_are : new.fronts ≡ fronts_of done
  pub winds : WindsUp state ready.resume
      (why_ended (is_worn_out ends) (map end_of (fronts_of done))) ends.tally last closed.0 closed.1
      old.out new.out end

abbrev pub RanTo : {D : Type 0} → (D → Outside StoreTold) → Ready D → World D → World D
    → Result (Unit {0}) Stop → Left D → Type 0
RanTo state ready old new end (Store store') =
    (end ≡ Err stop.NoMemory) × (store' ≡ ready.farm.store) × (new.out ≡ old.out)
    × (new.fronts ≡ []) × (new.ports ≡ old.ports)
RanTo state ready old new end (Farm closed) = RanWell state ready closed old new end

abbrev pub HasRun : {D : Type 0} → (D → Outside StoreTold) → Ready D → World D → World D
    → Result (Unit {0}) Stop → Type 0
HasRun state ready old new end = RanTo state ready old new end new.left
