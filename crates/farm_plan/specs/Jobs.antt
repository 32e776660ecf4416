-- A drawing to make, and what it carries of the moment of its Claim.
use Rattle.std.specs.Prelude.{ℕ, ◌≡◌, List, slice_get, Option, Some, option_map}
use Rattle.plain_world.specs.declared.world.Meta.{Meta}
use Rattle.plain_world.specs.World.{IsTileSize, IsMeta}
use Rattle.plain_shapes.specs.Features.{Layer}
use Rattle.plain_drawing.specs.Styles.{MapStyle}
use Rattle.farm_history.specs.declared.keys.Key.{Key}
use Rattle.farm_history.specs.Entries.{Entry}
use Rattle.farm_history.specs.Past.{data_after, version, style_after, Flight, flights, flight_in}
use Rattle.farm_plan.specs.Plans.{MapPlan, FarmPlan}
use Rattle.farm_plan.specs.Drawings.{styled_as, plan_of, data_of, container_bytes}

-- A job: its ticket, the worker that claimed it, the map and the metatile, how many pixels a tile
-- has side by side, the data version, the number of the map's style, and the plan and the data that
-- it shares with the farm.
pub record JobSeen : Type 0 where
  pub ticket : ℕ
  pub worker : ℕ
  pub map : ℕ
  pub meta : Meta
  pub tile : ℕ
  pub version : ℕ
  pub styled : Option ℕ
  pub plan : FarmPlan
  pub data_now : List Layer

-- the key of what it draws
abbrev pub job_key : JobSeen → Key
job_key job = record { map = job.map; meta = job.meta }

-- the style that it draws in
abbrev pub job_style : JobSeen → Option MapStyle
job_style job =
    option_map (λ mp. styled_as job.plan mp job.styled) (slice_get job.plan.maps job.map)

-- the container of what it draws, in the job's own terms
abbrev pub job_text : JobSeen → List ℕ
job_text job = container_bytes job.plan (job_key job) job.styled job.data_now

-- a job that can be drawn: its map is one of its plan, its tile that map's, a size that is drawn,
-- and its metatile is one
pub record IsValidJob (job : JobSeen) : Type 0 where
  pub map : MapPlan
  pub is_map : slice_get job.plan.maps job.map ≡ Some map
  pub tile_is : job.tile ≡ map.tile
  pub sized : IsTileSize job.tile
  pub meta : IsMeta job.meta

-- the job has the style of its map, the data and the version after g, with the farm's plan
pub record Carries (plan : FarmPlan) (g : List Entry) (job : JobSeen) : Type 0 where
  pub plan_is : job.plan ≡ plan
  pub style_is : job.styled ≡ style_after (plan_of plan) g job.map
  pub data_is : job.data_now ≡ data_of plan (data_after g)
  pub version_is : job.version ≡ version g

-- the job is a drawing that is under way after h, and carries what stood before its Claim
pub record IsFlight (plan : FarmPlan) (h : List Entry) (job : JobSeen) : Type 0 where
  pub flight : Flight
  pub is_flight : flight_in (flights h) job.ticket ≡ Some flight
  pub key_is : flight.key ≡ job_key job
  pub carries : Carries plan flight.before job
