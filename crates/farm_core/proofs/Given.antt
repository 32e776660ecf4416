-- A job that is given.
use Rattle.std.proofs.Common.{◌≡◌, ℕ, ◌<◌, List, length, get_or, Option, Some, sym, ap, ◌∙◌, subst}
use Rattle.std.specs.Prelude.{slice_get, option_map}
use Rattle.std.proofs.lemmas.Option.{slice_get-get_or, slice_get_within}
use Rattle.plain_world.specs.World.{IsTileSize}
use Rattle.farm_history.specs.declared.keys.Key.{Key}
use Rattle.farm_plan.specs.Plans.{MapPlan, FarmPlan}
use Rattle.farm_plan.specs.Spots.{IsKeyOf}
use Rattle.render_jobs.specs.Shared.{ShareSeen}
use Rattle.farm_refinement.specs.Seen.{FarmSeen}
use Rattle.farm_plan.specs.Jobs.{JobSeen, IsValidJob, job_key}
use Rattle.farm_core.specs.inner.Effects.{Claims, IsJobFor, own_of}
use Rattle.farm_core.specs.inner.Rooms.{AreKeysOf}
use Rattle.farm_core.proofs.Rooms.{key_taken}

-- the style's number of a map of the plan
pub styled_at : (plan : FarmPlan) (styled : List (Option ℕ)) (key : Key) → IsKeyOf plan key → length styled ≡ length plan.maps → (x : Option ℕ) → x ≡ get_or styled key.map x → slice_get styled key.map ≡ Some x
styled_at plan styled key at same x is =
    let within : key.map < length styled = subst (λ n. key.map < n) (sym same) (slice_get_within plan.maps key.map at.map at.is_map) in
    slice_get-get_or styled key.map x within ∙ ap Some (sym is)

-- a job made of a share that is the farm's own
pub job_for : {D : Type 0} (farm : FarmSeen D) (share : ShareSeen) (worker : ℕ) (key : Key) (styled : Option ℕ) (job : JobSeen) → share ≡ own_of farm → slice_get farm.styled key.map ≡ Some styled →
    job ≡ record { ticket = farm.counts.jobs; worker = worker; map = key.map; meta = key.meta; tile = job.tile; version = farm.counts.version; styled = styled; plan = share.plan; data_now = share.data_now } →
    Some job.tile ≡ option_map (λ (mp : MapPlan). mp.tile) (slice_get share.plan.maps key.map) → IsJobFor farm worker job
job_for farm share worker key styled job same at is tile =
    let map_is : job.map ≡ key.map = ap (λ (j : JobSeen). j.map) is in
    record {
      ticket_is = ap (λ (j : JobSeen). j.ticket) is;
      worker_is = ap (λ (j : JobSeen). j.worker) is;
      version_is = ap (λ (j : JobSeen). j.version) is;
      plan_is = ap (λ (j : JobSeen). j.plan) is ∙ ap (λ (s : ShareSeen). s.plan) same;
      data_is = ap (λ (j : JobSeen). j.data_now) is ∙ ap (λ (s : ShareSeen). s.data_now) same;
      style_is = ap (slice_get farm.styled) map_is ∙ at ∙ ap Some (sym (ap (λ (j : JobSeen). j.styled) is));
      tile_is = tile ∙ ap (λ (s : ShareSeen). option_map (λ (mp : MapPlan). mp.tile) (slice_get s.plan.maps key.map)) same
          ∙ ap (λ n. option_map (λ (mp : MapPlan). mp.tile) (slice_get farm.plan.maps n)) (sym map_is);
    }

-- a job that was claimed can be drawn
pub valid_job : {D : Type 0} (old new : FarmSeen D) (worker : ℕ) (job : JobSeen) → AreKeysOf old.plan old.queues → Claims old new worker (Some job) → IsValidJob job
valid_job old new worker job keys c =
    let at = key_taken old.plan old.queues (job_key job) keys c.0 in
    let tile_is : job.tile ≡ at.map.tile = let e : Some job.tile ≡ Some at.map.tile = c.1.tile_is ∙ ap (option_map (λ (mp : MapPlan). mp.tile)) at.is_map in cc in
    record {
      map = at.map;
      is_map = ap (λ (p : FarmPlan). slice_get p.maps job.map) c.1.plan_is ∙ at.is_map;
      tile_is = tile_is;
      sized = subst IsTileSize (sym tile_is) at.valid.sized;
      meta = at.meta;
    }
