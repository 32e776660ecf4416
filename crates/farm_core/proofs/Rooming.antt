-- The room of a farm that begins anew.
use Rattle.std.proofs.Common.{◌≡◌, ℕ, List, length, Option, ap, arith}
use Rattle.farm_history.specs.Seen.{Taken}
use Rattle.render_jobs.specs.Shared.{ShareSeen}
use Rattle.render_queues.specs.Tables.{Tables}
use Rattle.farm_refinement.specs.declared.counts.Counts.{Counts}
use Rattle.farm_refinement.specs.inner.Events.{no_counts}
use Rattle.farm_core.specs.inner.Rooms.{IsRoomy}

-- maps were given styles, and nothing else has happened
pub room_anew : (own : ShareSeen) (spares : List ShareSeen) (taken : List Taken) (queues : Tables) (styled : List (Option ℕ)) (counts : Counts) (spares_room taken_room : ℕ) (styles : List (Option ℕ)) (turns : ℕ) →
    IsRoomy own spares taken queues styled counts spares_room taken_room → counts ≡ no_counts → length styles ≡ length own.plan.maps →
    IsRoomy own spares taken queues styles (record counts { turns = turns }) spares_room taken_room
room_anew own spares taken queues styled counts spares_room taken_room styles turns r none long = record {
  is_plan = r.is_plan;
  counted =
      let numbers = ap (λ (c : Counts). c.numbers) none in
      let jobs = ap (λ (c : Counts). c.jobs) none in
      let asks = ap (λ (c : Counts). c.asks) none in
      let done = ap (λ (c : Counts). c.done) none in
      let stored = ap (λ (c : Counts). c.stored) none in
      let version = ap (λ (c : Counts). c.version) none in
      record { numbers = omega (arith, numbers); jobs = omega (arith, jobs); asks = omega (arith, asks); done = omega (arith, done); stored = omega (arith, stored); version = omega (arith, version) };
  are_taken = r.are_taken;
  are_spares = r.are_spares;
  waiting = r.waiting;
  styles = long;
  spares_fit = r.spares_fit;
  taken_fit = r.taken_fit;
}
