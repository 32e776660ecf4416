-- What a put that failed says of the end of a command.
use Rattle.std.proofs.Common.{◌≡◌, ℕ, List}
use Rattle.std.specs.Prelude.{Result, Ok, Err}
use Rattle.std.specs.Result.{result_map_both}
use Rattle.farm_base.specs.Outside.{Rose}
use Rattle.farm_base.specs.declared.sinks.SinkFault.{SinkFault}
use Rattle.exit_status.specs.Ends.{SinkAt, PutsAll}
use Rattle.exit_status.proofs.Outsides.{PutCounts, put_counts}
use Rattle.exit_status.specs.declared.stops.Stop.{Stop}
use Rattle.exit_status.specs.declared.stops.Stop.TheVariants as stop

by_put : (out out' : SinkAt) (put : Result (Unit {0}) SinkFault) (s : Stop) → ◌≡◌ {A = Result (Unit {0}) Stop} (Err s) (result_map_both (λ done. tt) (λ fault. stop.SinkFailed) put) → PutCounts out.faults out'.faults put → (s ≡ stop.SinkFailed) × Rose out.faults out'.faults
by_put out out' (Ok u) s e c = absurd (cc)
by_put out out' (Err f) s e c = (cc, c.1)

-- a put ends a command only where it failed, and then the count rose
pub puts_failed : (out out' : SinkAt) (bytes : List ℕ) (s : Stop) → PutsAll out out' bytes (Err s) → (s ≡ stop.SinkFailed) × Rose out.faults out'.faults
puts_failed out out' bytes s h = by_put out out' h.put s h.ends (put_counts out out' bytes h.put h.puts)
