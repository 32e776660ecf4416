-- A job that is a flight of the history that a farm stands for is a drawing under way of the farm, of a key of its plan.
use Rattle.std.proofs.Common.{◌≡◌, Bool, true, ◌==◌, ◌||◌, List, [], ◌∷◌, map, Option, refl, sym, ap, ◌∙◌, subst}
use Rattle.std.specs.Prelude.{option_map}
use Rattle.std.specs.List.{list_any}
use Rattle.farm_base.specs.Outside.{Outside}
use Rattle.tile_store.specs.Stores.{StoreTold}
use Rattle.farm_history.specs.declared.keys.Key.{Key}
use Rattle.farm_history.specs.Entries.{Entry}
use Rattle.farm_history.specs.Laws.{flight_key}
use Rattle.farm_history.specs.Plans.{is_in, same_key}
use Rattle.farm_history.specs.Past.{version, Flight, flights}
use Rattle.farm_history.specs.Seen.{Taken, taken_of}
use Rattle.farm_history.proofs.Flying.{find-map, data_before}
use Rattle.farm_history.proofs.Keyed.{are_served, FlightServed}
use Rattle.farm_history.proofs.Lists.{each-find, find-any, same_key-self}
use Rattle.farm_plan.specs.Drawings.{plan_of, data_of}
use Rattle.farm_plan.specs.Spots.{IsKeyOf}
use Rattle.farm_plan.proofs.Spots.{served_key}
use Rattle.farm_refinement.specs.Seen.{FarmSeen}
use Rattle.farm_plan.specs.Jobs.{JobSeen, job_key, IsFlight}
use Rattle.farm_refinement.specs.Stands.{StandsFor}
use Rattle.farm_refinement.specs.inner.Events.{taken_at}
use Rattle.farm_core.specs.inner.Effects.{IsTaken, turn}

pub flight_taken : {D : Type 0} (state : D → Outside StoreTold) (told : Bool) (farm : FarmSeen D) (h : List Entry) (job : JobSeen) → StandsFor state told farm h → IsFlight farm.plan h job → IsTaken farm job
flight_taken state told farm h job s f =
    let seen : Taken = taken_of (plan_of farm.plan) h f.flight in
    record {
      taken = seen;
      is_taken = ap (λ (ts : List Taken). taken_at ts job.ticket) s.taken_are
          ∙ find-map (taken_of (plan_of farm.plan) h) (λ (t : Taken). t.ticket == job.ticket) (flights h)
          ∙ ap (λ (o : Option Flight). option_map (taken_of (plan_of farm.plan) h) o) f.is_flight;
      key_is = f.key_is;
      version_is = sym f.carries.version_is;
      plan_is = f.carries.plan_is;
      data_is = λ newest.
          let same : version f.flight.before ≡ version h = sym f.carries.version_is ∙ newest ∙ s.counts_are.version_is in
          f.carries.data_is ∙ ap (data_of farm.plan) (data_before h job.ticket f.flight f.is_flight same) ∙ sym s.data_is;
    }

-- also after the call was counted
pub taken_turned : {D : Type 0} (farm : FarmSeen D) (job : JobSeen) → IsTaken farm job → IsTaken (turn farm) job
taken_turned farm job t = record { taken = t.taken; is_taken = t.is_taken; key_is = t.key_is; version_is = t.version_is; plan_is = t.plan_is; data_is = t.data_is }

-- its key is one of the plan
pub flight_of_plan : {D : Type 0} (state : D → Outside StoreTold) (told : Bool) (farm : FarmSeen D) (h : List Entry) (job : JobSeen) → StandsFor state told farm h → IsFlight farm.plan h job → IsKeyOf farm.plan (job_key job)
flight_of_plan state told farm h job s f =
    served_key farm.plan (job_key job) s.valid
    (subst (λ (k : Key). FlightServed (plan_of farm.plan) (record { ticket = f.flight.ticket; key = k; before = f.flight.before })) f.key_is
    (each-find (FlightServed (plan_of farm.plan)) (λ (x : Flight). x.ticket == job.ticket) (flights h) f.flight (are_served (plan_of farm.plan) told h s.legal).flying f.is_flight))

-- and it is among the keys that are taken
pub flight_stands : {D : Type 0} (state : D → Outside StoreTold) (told : Bool) (farm : FarmSeen D) (h : List Entry) (job : JobSeen) → StandsFor state told farm h → IsFlight farm.plan h job → is_in (job_key job) farm.queues.taken ≡ true
flight_stands state told farm h job s f =
    ap (is_in (job_key job)) s.queues_are.taken_is ∙ over (flights h)
    ∙ find-any (λ (x : Flight). x.ticket == job.ticket) (λ (x : Flight). same_key x.key (job_key job)) (flights h) f.flight f.is_flight
    (ap (λ (k : Key). same_key k (job_key job)) f.key_is ∙ same_key-self (job_key job))
  where
    over : (xs : List Flight) → is_in (job_key job) (map flight_key xs) ≡ list_any (λ (x : Flight). same_key x.key (job_key job)) xs
    over [] = refl
    over (x ∷ xs) = ap (λ b. same_key x.key (job_key job) || b) (over xs)
