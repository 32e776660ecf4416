-- The lines in which a script is answered. Each ends with a newline. Want of memory has no line.
use Rattle.std.specs.Prelude.{ℕ, true, false, if◌then◌else◌, List, [], ◌++◌, length, codes, slice_get, unwrap_or, Option, Some, None}
use Rattle.std.specs.Fmt.{decimal}
use Rattle.farm_base.specs.declared.faults.ApplyFault.{ApplyFault}
use Rattle.farm_base.specs.declared.faults.ApplyFault.TheVariants as apply
use Rattle.farm_base.specs.declared.faults.MetaFault.{MetaFault}
use Rattle.farm_base.specs.declared.faults.MetaFault.TheVariants as container
use Rattle.farm_history.specs.declared.asks.Why.{Why}
use Rattle.farm_history.specs.declared.asks.Why.TheVariants as why
use Rattle.farm_history.specs.declared.asks.AskAnswer.{AskAnswer}
use Rattle.farm_history.specs.declared.asks.AskAnswer.TheVariants as ask
use Rattle.farm_history.specs.declared.answers.ClaimAnswer.{ClaimAnswer}
use Rattle.farm_history.specs.declared.answers.ClaimAnswer.TheVariants as claim
use Rattle.farm_history.specs.declared.answers.Finished.{Finished}
use Rattle.farm_history.specs.declared.answers.Finished.TheVariants as finished
use Rattle.farm_history.specs.declared.answers.Updated.{Updated}
use Rattle.farm_history.specs.declared.answers.Updated.TheVariants as updated
use Rattle.farm_history.specs.declared.answers.Restyled.{Restyled}
use Rattle.farm_history.specs.declared.answers.Restyled.TheVariants as restyled
use Rattle.farm_history.specs.declared.answers.Renewed.{Renewed}
use Rattle.farm_history.specs.declared.answers.Renewed.TheVariants as renewed
use Rattle.farm_history.specs.declared.answers.Fetched.{Fetched}
use Rattle.farm_history.specs.declared.answers.Fetched.TheVariants as fetched
use Rattle.farm_history.specs.declared.answers.Looked.{Looked}
use Rattle.farm_history.specs.declared.answers.Looked.TheVariants as looked
use Rattle.farm_history.specs.declared.answers.Collected.{Collected}
use Rattle.farm_history.specs.declared.answers.Collected.TheVariants as collected
use Rattle.farm_history.specs.declared.answers.Tally.{Tally as Totals}
use Rattle.farm_history.specs.declared.queues.Outcome.{Outcome}
use Rattle.farm_history.specs.declared.queues.Outcome.TheVariants as outcome
use Rattle.farm_history.specs.Entries.{Entry, Ask, Claim, Finish, Update, Renew, Restyle, Expire, Fetch, Look, Collect, Leave, Stop, Tally}

-- a word and a number, as a line
abbrev pub number_line : List ℕ → ℕ → List ℕ
number_line word n = word ++ decimal n ++ codes "\n"

-- ---- asks

-- the number of why an ask is not done
abbrev pub why_number : Why → ℕ
why_number why.Stopping = 1
why_number why.Unservable = 2
why_number why.Backlog = 3
why_number why.Overtaken = 4
why_number why.InDirty = 5
why_number why.Deferred = 6
why_number why.Dropped = 7

-- the line of an ask
abbrev pub ask_line : AskAnswer → List ℕ
ask_line ask.Done = codes "done\n"
ask_line (ask.Queued n) = number_line (codes "queued ") n
ask_line (ask.Joined n) = number_line (codes "joined ") n
ask_line (ask.Lifted n) = number_line (codes "lifted ") n
ask_line (ask.NotDone reason) = number_line (codes "notdone ") (why_number reason)
ask_line ask.Silent = codes "silent\n"

-- ---- drawings

-- The line of a claim on a farm whose maps have these names. Of a drawing to make: its ticket, its
-- map's name, the numbers of the metatile's lowest tile, and the data version.
abbrev pub claim_line : List (List ℕ) → ClaimAnswer → List ℕ
claim_line names (claim.Job ticket key version) =
    codes "job " ++ decimal ticket ++ codes " " ++ unwrap_or (slice_get names key.map) []
    ++ codes " "
    ++ (decimal key.meta.z ++ codes " " ++ decimal key.meta.x ++ codes " " ++ decimal key.meta.y)
    ++ codes " " ++ decimal version ++ codes "\n"
claim_line names claim.Idle = codes "idle\n"
claim_line names claim.Crowded = codes "crowded\n"
claim_line names claim.Stopped = codes "stopped\n"

-- the line of the end of a drawing
abbrev pub finish_line : Finished → Option (List ℕ)
finish_line (finished.Stored clean) = Some (if clean then codes "clean\n" else codes "dirty\n")
finish_line finished.PutFailed = Some (codes "putfailed\n")
finish_line finished.NoMemory = None

-- ---- changes

-- the line of an update that does not fit the data, by its fault's number
abbrev pub fault_line : ApplyFault → Option (List ℕ)
fault_line (apply.NoLayer change) = Some (codes "refused 1\n")
fault_line (apply.NoFeature change id) = Some (codes "refused 2\n")
fault_line (apply.TooMany change) = Some (codes "refused 3\n")
fault_line apply.NoMemory = None

-- the line of an update
abbrev pub update_line : Updated → Option (List ℕ)
update_line (updated.Version v) = Some (number_line (codes "version ") v)
update_line updated.NoUpdate = Some (codes "noupdate\n")
update_line (updated.Refused fault) = fault_line fault

-- the line of a restyle
abbrev pub restyle_line : Restyled → List ℕ
restyle_line (restyled.Styled count) = number_line (codes "styled ") count
restyle_line restyled.NoRestyle = codes "norestyle\n"

-- the line of an update that expires what it reaches: its data version, and how many clean
-- metatiles became dirty
abbrev pub renew_line : Renewed → Option (List ℕ)
renew_line (renewed.Version v count) =
    Some (codes "version " ++ decimal v ++ codes " renewed " ++ decimal count ++ codes "\n")
renew_line renewed.NoUpdate = Some (codes "noupdate\n")
renew_line (renewed.Refused fault) = fault_line fault

-- the line of an expired tile
abbrev pub expire_line : ℕ → List ℕ
expire_line count = number_line (codes "expired ") count

-- ---- tiles

-- the number of a fault of a container
abbrev pub meta_number : MetaFault → ℕ
meta_number (container.Short n) = 1
meta_number container.Magic = 2
meta_number container.Compressed = 3
meta_number (container.Count n) = 4
meta_number (container.Place x y z) = 5
meta_number (container.Index place) = 6

-- a tile: a line with its version and the number of its bytes, then these and a newline
abbrev pub tile_text : List ℕ → ℕ → List ℕ → List ℕ
tile_text word version bytes = (word ++ decimal version ++ codes " " ++ decimal (length bytes)
    ++ codes "\n") ++ (bytes ++ codes "\n")

-- the text of a fetch
abbrev pub fetch_text : Fetched → Option (List ℕ)
fetch_text (fetched.Clean version bytes) = Some (tile_text (codes "clean ") version bytes)
fetch_text (fetched.Dirty version bytes) = Some (tile_text (codes "dirty ") version bytes)
fetch_text fetched.Missing = Some (codes "missing\n")
fetch_text fetched.Unservable = Some (codes "unservable\n")
fetch_text fetched.Gone = Some (codes "gone\n")
fetch_text (fetched.Spoilt fault) = Some (number_line (codes "spoilt ") (meta_number fault))
fetch_text fetched.GetFailed = Some (codes "getfailed\n")
fetch_text fetched.NoMemory = None

-- the line of a look
abbrev pub look_line : Looked → List ℕ
look_line (looked.Clean v) = number_line (codes "clean ") v
look_line (looked.Dirty v) = number_line (codes "dirty ") v
look_line looked.Missing = codes "missing\n"
look_line looked.Unservable = codes "unservable\n"

-- ---- replies and counts

-- how a drawing ended, at the end of its line
abbrev pub outcome_word : Outcome → List ℕ
outcome_word outcome.Done = codes " done\n"
outcome_word outcome.NotDone = codes " notdone\n"
outcome_word outcome.Cut = codes " cut\n"

-- the line of a collect: the connection's number, the ask's and the outcome
abbrev pub collect_line : Collected → List ℕ
collect_line (collected.Reply r) =
    codes "reply " ++ decimal r.conn.number ++ codes " " ++ decimal r.ask ++ outcome_word r.outcome
collect_line collected.Stopped = codes "stopped\n"
collect_line collected.Empty = codes "empty\n"

-- the line of the counts
abbrev pub tally_line : Totals → List ℕ
tally_line t =
    codes "asks " ++ decimal t.asks ++ codes " done " ++ decimal t.done ++ codes " stored "
    ++ decimal t.stored ++ codes " version "
    ++ decimal t.version ++ codes "\n"

-- the line of a stop
abbrev pub stop_line : List ℕ
stop_line = codes "stopping\n"

-- ---- entries

-- the text of an entry of a farm whose maps have these names; none where there was no memory, but
-- for a drawing that was cut
abbrev pub entry_text : List (List ℕ) → Entry → Option (List ℕ)
entry_text names (Ask conn cmd spot answer) = Some (ask_line answer)
entry_text names (Claim worker answer) = Some (claim_line names answer)
entry_text names (Finish ticket true answer) = finish_line answer
entry_text names (Finish ticket false answer) = Some (codes "cut\n")
entry_text names (Update n answer) = update_line answer
entry_text names (Renew n answer) = renew_line answer
entry_text names (Restyle n answer) = Some (restyle_line answer)
entry_text names (Expire tile count) = Some (expire_line count)
entry_text names (Fetch spot answer) = fetch_text answer
entry_text names (Look spot answer) = Some (look_line answer)
entry_text names (Collect front answer) = Some (collect_line answer)
entry_text names (Leave conn count) = Some (number_line (codes "left ") count)
entry_text names Stop = Some stop_line
entry_text names (Tally totals) = Some (tally_line totals)
