-- What a call promises. `was` is what it was handed, `is` what it left; `state` shows a store at a
-- moment. A history of turns is a list of pairs, a seat's number and an entry, the first turn first,
-- as the cell counted them; `whole_history` is what happened as the promise says it, the newest entry
-- first. Seat 0 is the call's own, seats 1 to 3 are those of the renderd front, the tile front and
-- the control front, and seat w + 4 is that of worker w.
use Rattle.std.specs.Prelude.{◌≡◌, ◌≢◌, ◌⊎◌, ℕ, ◌≤◌, true, false}
use Rattle.std.specs.Prelude.{List, [], length, Option, None, is_some, option_map}
use Rattle.std.specs.Prelude.{Ok, Err, IfSome}
use Rattle.farm_base.specs.Limits.{most_turns}
use Rattle.farm_base.specs.Outside.{Outside, Rose, failed_read, with_failed}
use Rattle.tile_store.specs.Stores.{StoreTold}
use Rattle.exit_status.specs.Stops.{told_of, unreadable_line}
use Rattle.exit_status.specs.Ends.{PutsAll, Reports}
use Rattle.exit_status.specs.declared.stops.Stop.{Stop}
use Rattle.exit_status.specs.declared.stops.Stop.TheVariants as stop
use Rattle.farm_files.specs.Course.{Course, made, refused, reads, Leads}
use Rattle.farm_history.specs.Entries.{Entry, EachMoment}
use Rattle.farm_history.specs.Laws.{has_plain_update}
use Rattle.farm_refinement.specs.Seen.{FarmSeen}
use Rattle.farm_laws.specs.Locality.{IsSentNow}
use Rattle.farm_laws.specs.Promise.{Promise}
use Rattle.farm_files.specs.Inputs.{ServeInputs}
use Rattle.farm_call.specs.Beginnings.{IsSavedIn, RefusesFor}
use Rattle.script_command.specs.Scripts.{Scripts}
use Rattle.load_command.specs.Runs.{Loads}
use Rattle.farm_call.specs.Serves.{whole_history, WhyNot}
use Rattle.farm_call.specs.Served.{StoreTells, ServedWell}
use Rattle.farm_call.specs.declared.left.Left.{Left}
use Rattle.farm_call.specs.declared.left.Left.TheVariants.{Store, Farm}
use Rattle.farm_call.specs.Call.{CallBefore, CallAfter, End, store_of, PortsRose}
use Rattle.farm_call.specs.Call.{Work, puts, scripts, loads, serves}
use Rattle.farm_call.specs.Words.{Asks}

module _ {D : Type 0} (state : D → Outside StoreTold) (was : CallBefore D) (is : CallAfter D) where
  -- ---- What is asked

  -- the words ask for a course, and the files that stand there, where they tell what they hold, lead
  -- it here
  pub record ComesTo (left : Course Work) : Type 0 where
    pub course : Course Work
    pub asks : Asks was.words course
    pub leads : IfSome was.files.told (λ t. Leads t.content course left)

  -- they make this work of what is asked; they refuse it by this line
  abbrev pub FilesMake : Work → Type 0
  FilesMake work = ComesTo (made work)

  abbrev pub FilesRefuse : List ℕ → Type 0
  FilesRefuse line = ComesTo (refused line)

  -- it is the line of what is saved in the store, which the configuration says is to be resumed
  pub record SavedRefused (line : List ℕ) : Type 0 where
    pub served : ServeInputs
    pub asked : FilesMake (serves served)
    pub resume : served.config.resume ≡ true
    pub why : Option (List ℕ)
    pub fault : IsSavedIn (state was.store) served.inputs.plan (Err why)
    pub line_is : RefusesFor why line

  -- it is the line of the file that is read next: that read failed, and else the files are as they
  -- were
  pub record ReadFailed (line : List ℕ) : Type 0 where
    pub name : List ℕ
    pub on : List ℕ → Course Work
    pub next : ComesTo (reads name on)
    pub line_is : line ≡ unreadable_line name
    pub failed : is.files.told ≡ option_map (with_failed (failed_read name)) was.files.told
    pub rose : Rose was.files.faults is.files.faults

  -- ---- What is done

  -- the store is left, of which this holds, and the ports are as they were
  pub record StoreIsLeft (holds : D → Type 0) : Type 0 where
    pub store : D
    pub left : is.left ≡ Store store
    pub ports : is.ports ≡ was.ports
    pub it_holds : holds store

  -- nothing is: out, the store and the ports are as they were
  abbrev pub Idle : Type 0
  Idle = (is.out ≡ was.out) × StoreIsLeft (λ store. store ≡ was.store)

  -- a farm was served to this end; or no actor was started, for a cause, and nothing was put on
  -- out; by what is left
  abbrev pub ServesTo : ServeInputs → End → Left D → Type 0
  ServesTo s end (Store store) = (why : Stop) × (end ≡ Err why) × (is.out ≡ was.out)
      × WhyNot state s was.store store was.ports is.ports why
  ServesTo s end (Farm closed) = ServedWell state was is s closed.0 closed.1 end

  -- the work was done to this end
  abbrev pub Done : Work → End → Type 0
  Done (puts text) end = PutsAll was.out is.out text end × StoreIsLeft (λ store. store ≡ was.store)
  Done (scripts s) end = StoreIsLeft (λ store. Scripts state s was.store store was.out is.out end)
  Done (loads seed n) end =
      StoreIsLeft (λ store. Loads state seed n was.store store was.out is.out end)
  Done (serves s) end = ServesTo s end is.left

  -- the files made what is asked, and it was done to this end
  pub record Worked (end : End) : Type 0 where
    pub work : Work
    pub asked : FilesMake work
    pub files : is.files ≡ was.files
    pub done : Done work end

  -- Why the call ended so, and what it did until then. Where a file is refused, the first that has a
  -- fault in the order in which they are read, nothing was done; where what is saved is refused, the
  -- store shows what it showed. Where memory was wanting before there was work, the files are as they
  -- were, or the read that was next failed
  abbrev pub Cause : End → Type 0
  Cause (Err stop.Words) =
      ((course : Course Work) → ¬ (Asks was.words course)) × (is.files ≡ was.files) × Idle
  Cause (Err (stop.Unreadable line)) = ReadFailed line × Idle
  Cause (Err (stop.Refused line)) = (is.files ≡ was.files) × ((FilesRefuse line × Idle)
      ⊎ (SavedRefused line × (is.out ≡ was.out)
      × StoreIsLeft (λ store. state store ≡ state was.store)))
  Cause (Err stop.NoMemory) =
      (Idle × ((is.files ≡ was.files) ⊎ ((line : List ℕ) × ReadFailed line))) ⊎ Worked (Err stop.NoMemory)
  Cause end = Worked end

  -- ---- What is promised

  -- it ended for that, or memory was wanting
  abbrev pub EndsFor : End → Stop → Type 0
  EndsFor end why = (end ≡ Err why) ⊎ (end ≡ Err stop.NoMemory)

  -- the store's count of faults rose over the call
  abbrev pub StoreFailed : Type 0
  StoreFailed = Rose (state was.store).faults (state (store_of is.left)).faults

  -- a farm is left whose history has used up all turns
  abbrev pub TurnsAreGone : Type 0
  TurnsAreGone = (farm : FarmSeen D) × (turns : List (ℕ × Entry)) × (is.left ≡ Farm (farm, turns))
      × (most_turns ≤ length turns)

  -- no count rose, not all turns were drawn, and nothing that is saved is refused
  pub record Unhindered : Type 0 where
    pub files : ¬ (Rose was.files.faults is.files.faults)
    pub out : ¬ (Rose was.out.faults is.out.faults)
    pub store : ¬ StoreFailed
    pub ports : ¬ (PortsRose was.ports is.ports)
    pub turns : ¬ TurnsAreGone
    pub saved : (line : List ℕ) → ¬ (SavedRefused line)

  -- **A farm that was served is left**
  pub record Served (farm : FarmSeen D) (turns : List (ℕ × Entry)) (end : End) : Type 0 where
    -- Whatever clients, workers, updates and expiries did, in any order, every tile sent as clean is
    -- the plain drawing of its style over the data of one version, taken after the last expiry that
    -- touches it; no metatile is drawn twice at once; an expiry during a drawing leaves the tile
    -- dirty; and every Done names a tile that was stored after the request or is clean at it. What is
    -- said of bytes needs a store that tells what it holds, and a farm that began with nothing saved
    pub headline : Promise farm.plan ((farm.saved ≡ None) × (is_some (state was.store).told ≡ true)) (whole_history state farm turns)
    -- So it is of a farm that was resumed, whose store held what was shown when another one stopped:
    -- over runs that go on one from another `law_restart` says it without that premise
    pub resumed : Promise farm.plan (StoreTells state was is farm) (whole_history state farm turns)
    -- And where every update that succeeded was made as a renew, over a store that tells what it
    -- holds: each tile sent as clean is the plain drawing of its style over the data of that very
    -- moment
    pub sent_now : StoreTells state was is farm → has_plain_update (whole_history state farm turns) ≡ false
        → EachMoment (IsSentNow farm.plan) (whole_history state farm turns)
    -- It is the farm that is asked for: its files were read whole, and spell its plan; and so each
    -- front, each worker, what was saved and the line of the counts are as they are to be
    pub inputs : ServeInputs
    pub asked : FilesMake (serves inputs)
    pub files : is.files ≡ was.files
    pub well : ServedWell state was is inputs farm turns end

  -- **What the call keeps**
  pub record Keeps : Type 0 where
    -- How it ended
    pub end : End
    -- Where a farm is left, the promise holds of it, and it was served as its files say
    pub served : (farm : FarmSeen D) (turns : List (ℕ × Entry)) → is.left ≡ Farm (farm, turns)
        → Served farm turns end
    -- The status and the line on err are those of this end; the status is 4 where the line could not
    -- be put
    pub report : Reports (told_of end) was.err is.err is.status
    -- Why it ended so, and what was done until then
    pub cause : Cause end
    -- Where the store is left no farm was shared, and there are no fronts
    pub no_fronts : (store : D) → is.left ≡ Store store → is.fronts ≡ []
    -- Words that ask for nothing are refused, unless memory is wanting
    pub no_words : ((course : Course Work) → ¬ (Asks was.words course)) → EndsFor end stop.Words
    -- So is the first file that has a fault, where no read fails,
    pub refused : (line : List ℕ) → was.files.told ≢ None → FilesRefuse line
        → ¬ (Rose was.files.faults is.files.faults) → EndsFor end (stop.Refused line)
    -- and what is saved in the store, where no call of the store fails either
    pub saved_refused : (line : List ℕ) → was.files.told ≢ None → (state was.store).told ≢ None
        → SavedRefused line → ¬ (Rose was.files.faults is.files.faults) → ¬ StoreFailed
        → EndsFor end (stop.Refused line)
    -- A read that failed is the end
    pub unread : is.files ≢ was.files → (line : List ℕ) × EndsFor end (stop.Unreadable line)
    -- So is a put on out that failed
    pub unput : is.out.faults ≢ was.out.faults → end ≡ Err stop.SinkFailed
    -- Where nothing hinders it, what is asked is done to its end
    pub complete : was.files.told ≢ None → (work : Work) → FilesMake work → Unhindered
        → (end ≡ Ok tt) ⊎ (end ≡ Err stop.NoMemory)
    -- Where the call says so, a put on out failed, a call of the store or one of a port, or all
    -- turns were drawn
    pub sink_lost : end ≡ Err stop.SinkFailed → Rose was.out.faults is.out.faults
    pub store_lost : end ≡ Err stop.StoreFailed → StoreFailed
    pub ports_lost : end ≡ Err stop.PortsFailed → PortsRose was.ports is.ports
    pub turns_gone : end ≡ Err stop.TurnsUsedUp → TurnsAreGone

-- ---- What the program promises

-- why words cannot be had: one is not UTF-8, or memory is wanting for them
abbrev pub IsWordless : Stop → Type 0
IsWordless stop.Words = Unit {0}
IsWordless stop.NoMemory = Unit {0}
IsWordless other = ⊥

module _ {D : Type 0} (state : D → Outside StoreTold) where
  -- the words cannot be had, and nothing but this is told
  pub record Wordless (was : CallBefore D) (is : CallAfter D) : Type 0 where
    pub why : Stop
    pub is_wordless : IsWordless why
    pub report : Reports (told_of (Err why)) was.err is.err is.status
    pub files : is.files ≡ was.files
    pub idle : Idle state was is
    pub no_fronts : is.fronts ≡ []

  -- **What the program keeps**: it is the call with some words, which it has of its runtime; or
  -- they cannot be had. The words of `was` count for nothing
  abbrev pub ProgramKeeps : CallBefore D → CallAfter D → Type 0
  ProgramKeeps was is =
      ((words : List (List ℕ)) × Keeps state (record was { words = words }) is) ⊎ Wordless was is
