-- A call of the store that failed is counted.
use Rattle.std.proofs.Common.{◌≡◌, ◌+◌, ◌≤◌, Bool, true, false, List, [], ◌∷◌, ◌++◌, length, arith}
use Rattle.std.proofs.lemmas.List.{length-append}
use Rattle.farm_base.specs.Outside.{Outside, Rose}
use Rattle.tile_store.specs.Stores.{StoreTold, failed_put, failed_get}
use Rattle.farm_history.specs.declared.answers.Finished.TheVariants as finished
use Rattle.farm_history.specs.declared.answers.Fetched.TheVariants as fetched
use Rattle.farm_history.specs.Entries.{Entry, Finish, Fetch}
use Rattle.farm_history.specs.Plans.{key_of}
use Rattle.farm_history.specs.Past.{flights, flight_in}
use Rattle.farm_plan.specs.Plans.{FarmPlan}
use Rattle.farm_plan.specs.Drawings.{key_path}
use Rattle.farm_refinement.specs.Seen.{FarmSeen}
use Rattle.farm_refinement.specs.Stands.{failures, flight_path, StandsFor}
use Rattle.script_text.specs.ScriptTexts.{has_failed}

-- what the history says failed is some call
some_failure : (plan : FarmPlan) (h : List Entry) → has_failed h ≡ true → 1 ≤ length (failures plan h)
unfolding failures
some_failure plan [] failed = absurd (cc)
some_failure plan (Finish t drawn finished.PutFailed ∷ g) failed =
    let more : length (failures plan g ++ failed_put (flight_path plan (flight_in (flights g) t)) ∷ []) ≡ length (failures plan g) + 1 = length-append (failures plan g) _ in
    omega (arith, more)
some_failure plan (Fetch spot fetched.GetFailed ∷ g) failed =
    let more : length (failures plan g ++ failed_get (key_path plan (key_of spot)) ∷ []) ≡ length (failures plan g) + 1 = length-append (failures plan g) _ in
    omega (arith, more)
some_failure plan (Finish t true (finished.Stored clean) ∷ g) failed = some_failure plan g failed
some_failure plan (Finish t false (finished.Stored clean) ∷ g) failed = some_failure plan g failed
some_failure plan (Finish t true finished.NoMemory ∷ g) failed = some_failure plan g failed
some_failure plan (Finish t false finished.NoMemory ∷ g) failed = some_failure plan g failed
some_failure plan (e ∷ g) failed = some_failure plan g failed

-- so the store's count rose since the farm began
pub lost : {D : Type 0} (state : D → Outside StoreTold) (told : Bool) (farm : FarmSeen D) (h : List Entry) → StandsFor state told farm h → has_failed h ≡ true
    → Rose (state farm.first).faults (state farm.store).faults
lost state told farm h stands failed =
    let some = some_failure farm.plan h failed in
    let counted = stands.store_is.counted in
    omega (arith, some, counted)
