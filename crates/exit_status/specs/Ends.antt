-- How a command ends: what is put, and what is reported.
use Rattle.std.specs.Prelude.{◌≡◌, ℕ, if◌then◌else◌, List, [], Result, Ok, Err, Vec}
use Rattle.std.specs.Result.{is_ok, result_map_both}
use Rattle.std.specs.declared.alloc.Global.{Global}
use Rattle.farm_base.specs.Outside.{Outside, FilesTold, Puts}
use Rattle.farm_base.specs.declared.sinks.SinkFault.{SinkFault}
use Rattle.exit_status.specs.Stops.{told_of}
use Rattle.exit_status.specs.declared.stops.Stop.{Stop}
use Rattle.exit_status.specs.declared.stops.Stop.TheVariants as stop

-- files at a moment
abbrev pub FilesAt : Type 0
FilesAt = Outside FilesTold

-- a sink at a moment
abbrev pub SinkAt : Type 0
SinkAt = Outside (List ℕ)

-- ---- out and err

-- the bytes are put, or the sink failed
pub record PutsAll (old new : SinkAt) (bytes : List ℕ)
    (result : Result (Unit {0}) Stop) : Type 0 where
  pub put : Result (Unit {0}) SinkFault
  pub puts : Puts old new bytes put
  pub ends : result ≡ result_map_both (λ done. tt) (λ fault. stop.SinkFailed) put

-- what was made is put; where nothing was, nothing is put
abbrev pub PutsMade : SinkAt → SinkAt → Result (Vec ℕ Global) Stop → Result (Unit {0}) Stop → Type 0
PutsMade old new (Ok v) result = PutsAll old new v.items result
PutsMade old new (Err s) result = (result ≡ Err s) × (new ≡ old)

-- How an end is told: its line is put on err; an empty one is not: the sink is as it was. The
-- status is 4 where the line could not be put.
pub record Reports (told : ℕ × List ℕ) (old new : SinkAt) (result : ℕ) : Type 0 where
  pub put : Result (Unit {0}) SinkFault
  pub puts : Puts old new told.1 put
  pub status_is : result ≡ (if is_ok put then told.0 else 4)
  pub quiet : told.1 ≡ [] → (put ≡ Ok tt) × (new ≡ old)

-- a whole call: a command that runs so, and then the report of how it ended
pub record EndsWith (runs : Result (Unit {0}) Stop → Type 0) (err err' : SinkAt)
    (result : ℕ) : Type 0 where
  pub end : Result (Unit {0}) Stop
  pub ran : runs end
  pub reports : Reports (told_of end) err err' result
