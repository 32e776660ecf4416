-- What is promised of a farm that was served. `was` is what the call was handed, `is` what it left; `state` shows a store at a moment; `farm` is the farm that is left, and `turns` the history of its turns: a list of
-- pairs, a seat's number and an entry, the first turn first, as the cell counted them; so are the entries of a front and of a worker. `whole_history` is what happened as the promise says it, the newest entry first. Seat 0 is the call's own, seats 1 to 3 are those of the renderd front, the tile front and the control front, and seat w + 4 is that of worker w.
use Rattle.std.specs.Prelude.{◌≡◌, ℕ, ◌≤◌, Bool, true, false, not, ◌||◌, is_none}
use Rattle.std.specs.Prelude.{List, [], ◌∷◌, ◌++◌, length, map, reverse, Some}
use Rattle.std.specs.Prelude.{Ok, Err, IfSome}
use Rattle.farm_base.specs.Limits.{most_turns}
use Rattle.farm_base.specs.Outside.{Outside}
use Rattle.tile_store.specs.Stores.{StoreTold, StorePuts}
use Rattle.tile_store.specs.declared.stores.StoreFault.TheVariants.{Failed}
use Rattle.reactor_ports.specs.declared.ends.FrontDone.{FrontDone}
use Rattle.reactor_ports.specs.Told.{PortsTold}
use Rattle.exit_status.specs.declared.stops.Stop.TheVariants as stop
use Rattle.farm_history.specs.declared.answers.Collected.{Collected}
use Rattle.farm_history.specs.Entries.{Entry, Collect, Stop as StopEntry}
use Rattle.farm_history.specs.Past.{due_replies}
use Rattle.farm_history.specs.Replays.{Saving, IsSaved}
use Rattle.farm_plan.specs.Plans.{FarmPlan, maps_in}
use Rattle.farm_plan.specs.Drawings.{plan_of}
use Rattle.farm_saved.specs.Writing.{saved_bytes}
use Rattle.farm_saved.specs.Reading.{saved_in}
use Rattle.farm_core.specs.Answers.{at_saved}
use Rattle.farm_core.specs.Begins.{Tells}
use Rattle.farm_refinement.specs.Seen.{FarmSeen}
use Rattle.farm_refinement.specs.Stands.{StandsFor}
use Rattle.farm_shared.specs.Seats.{plain, Seated}
use Rattle.farm_shared.specs.Shared.{lasting_of, past}
use Rattle.turn_cell.specs.Turns.{by}
use Rattle.farm_runs.specs.declared.each_front.EachFront.{EachFront}
use Rattle.farm_runs.specs.Promise.{Ends, AreSeated, IsServed, AreWorked, IsStop}
use Rattle.session_front.specs.Renderd.{renderd_rules}
use Rattle.tile_front.specs.Tiles.{tile_rules}
use Rattle.control_front.specs.Control.{control_rules}
use Rattle.front_loop.specs.Leaves.{FrontLeaves}
use Rattle.farm_files.specs.Inputs.{ServeInputs}
use Rattle.farm_call.specs.Beginnings.{ResumesFrom}
use Rattle.tile_paths.specs.Paths.{saved_path}
use Rattle.farm_call.specs.Listens.{Listening}
use Rattle.farm_call.specs.Endings.{why_ended, TellsCounts}
use Rattle.load_command.specs.Loads.{GivesNone}
use Rattle.farm_call.specs.Serves.{whole_history}
use Rattle.farm_call.specs.Serves.{places}
use Rattle.farm_call.specs.Call.{CallBefore, CallAfter, End, store_of}
use Rattle.farm_call.specs.Owing.{IsPaidUp}

module _ {D : Type 0} (state : D → Outside StoreTold) (was : CallBefore D) (is : CallAfter D) where
  -- the store tells what it holds; and of a farm that was resumed, it held what was shown when the other one stopped
  abbrev pub StoreTells : FarmSeen D → Type 0
  StoreTells farm = Tells (state was.store) farm.plan farm.saved

  -- where the store that is left tells, these bytes stand in the place of a saved farm
  abbrev pub HoldsSaved : List ℕ → Type 0
  HoldsSaved bytes = IfSome (state (store_of is.left)).told (λ t. t.content saved_path ≡ Some bytes)

  -- the put of the text of what is saved after the history failed
  pub record SavingFailed (plan : FarmPlan) (h : List Entry) : Type 0 where
    pub saving : Saving
    pub is_saved : IsSaved (plan_of plan) h saving
    pub before : Outside StoreTold
    pub puts : StorePuts before (state (store_of is.left)) saved_path (saved_bytes saving) (Err Failed)

  -- What was saved, by whether a farm is to be resumed, why the run ended and how the saving went:
  -- after a run that ended in order the text of what is saved after its history, which reads as just
  -- that, where it could be put; else no bytes
  abbrev pub SavesSo : FarmPlan → List Entry → Bool → End → End → Type 0
  SavesSo plan h false (Ok done) saved = saved ≡ Ok tt
  SavesSo plan h true (Ok done) (Ok done') =
      (saving : Saving) × IsSaved (plan_of plan) h saving × (saved_in (saved_bytes saving) ≡ Ok saving) × HoldsSaved (saved_bytes saving)
  SavesSo plan h true (Ok done) (Err stop.StoreFailed) = SavingFailed plan h
  SavesSo plan h true (Ok done) (Err stop.NoMemory) = HoldsSaved []
  SavesSo plan h true (Ok done) (Err other) = ⊥
  SavesSo plan h resume (Err why) saved = (saved ≡ Err why) × (resume ≡ true → HoldsSaved [])

  -- **A farm was served.** `s` is what its files say
  pub record ServedWell (s : ServeInputs) (farm : FarmSeen D) (turns : List (ℕ × Entry)) (end : End) : Type 0 where
    -- 1. The farm has the plan that the files spell; it began over the store that was handed in,
    -- with what is saved there, if the configuration says so; it stands for all that happened,
    -- which is legal; and each entry is of a seat that may make it
    pub plan_is : farm.plan ≡ s.inputs.plan
    pub first_is : state farm.first ≡ state was.store
    pub resumes : ResumesFrom (state was.store) farm.plan s.config.resume farm.saved
    pub stands : (store_tells : Bool) → (store_tells ≡ true → StoreTells farm)
        → StandsFor state store_tells farm (whole_history state farm turns)
    pub seated : Seated (reverse turns)
    -- 2. Each entry is of the call's own seat, which has a Stop and then a Tally, of a front's or a
    -- worker's
    pub ends : Ends
    pub owned : AreSeated farm.plan.workers ends turns
    -- 3. The ports listened at the addresses of the configuration; the entries of each front are
    -- those of what it did with their bytes since then, and what it answered is of the same
    pub listening : EachFront (Outside PortsTold)
    pub listens : Listening (places s.config was.ports listening) (Ok tt)
    pub done : EachFront FrontDone
    pub fronts_are : is.fronts ≡ done.renderd ∷ done.tiles ∷ done.control ∷ []
    pub renderd : IsServed (FrontLeaves (renderd_rules 0 (maps_in farm.plan)))
        listening.renderd is.ports.renderd done.renderd (plain (by 1 turns)) (length turns)
    pub tiles : IsServed (FrontLeaves (tile_rules 1 (maps_in farm.plan)))
        listening.tiles is.ports.tiles done.tiles (plain (by 2 turns)) (length turns)
    pub control : IsServed (FrontLeaves (control_rules 2 s.inputs.lists))
        listening.control is.ports.control done.control (plain (by 3 turns)) (length turns)
    -- 4. The entries of each worker are its Claims, each Job with its Finish, and no drawing is
    -- under way at the end, unless all turns were drawn
    pub worked : AreWorked farm.plan.workers ends.worn turns (whole_history state farm turns)
    -- 5. A Stop is that of a control line, or the last entry of a front that ended otherwise than
    -- Finished, or stands after all entries of the fronts
    pub stopped : (before after : List (ℕ × Entry)) (n : ℕ)
        → turns ≡ before ++ (n, StopEntry) ∷ after → IsStop done n after
    -- 6, 7. Why it ended: by what the workers, the call itself and the fronts met, the first that
    -- applies of TurnsUsedUp, PortsFailed and NoMemory; else as the saving went; and SinkFailed
    -- where the line of the counts, which are those of the last entry, could not be put. Where no
    -- farm is to be resumed, what stood in the place of a saved one stands there
    pub saved : End
    pub saves : SavesSo farm.plan (whole_history state farm turns) s.config.resume
        (why_ended (ends.worn || not ends.stopped || is_none ends.tally)
        (map (λ (d : FrontDone). d.end) is.fronts)) saved
    pub unsaved : s.config.resume ≡ false → at_saved (state (store_of is.left)) ≡ at_saved (state was.store)
    pub turns_gone : saved ≡ Err stop.TurnsUsedUp → most_turns ≤ length turns
    pub counted : TellsCounts ends.tally was.out is.out saved end
    -- 8. A Collect that gave no reply left none that had ended; and where all ended in order
    -- nothing is owed: no request, no reply and no answer
    pub collected : (before after : List (ℕ × Entry)) (n front : ℕ) (answer : Collected)
        → turns ≡ before ++ (n, Collect front answer) ∷ after → GivesNone answer
        → due_replies (past (lasting_of state farm) before) front ≡ []
    pub owes_nothing : end ≡ Ok tt → IsPaidUp renderd.left.served × IsPaidUp tiles.left.served
        × IsPaidUp control.left.served
