-- Why a farm is not resumed: the first fault of what was saved, over a plan.
use Rattle.std.specs.Prelude.{ℕ, ◌+◌, Bool, true, false, ◌==◌, nat_lt, nat_le, if◌then◌else◌, List, [], ◌∷◌, length, slice_get, Option, Some, None, Result, Ok, Err}
use Rattle.std.specs.Option.{option_or}
use Rattle.farm_base.specs.declared.faults.ApplyFault.{ApplyFault}
use Rattle.plain_shapes.specs.Features.{Layer}
use Rattle.plain_shapes.specs.Data.{update_result}
use Rattle.farm_history.specs.declared.keys.Key.{Key}
use Rattle.farm_history.specs.declared.saved.Past.{Past}
use Rattle.farm_history.specs.Replays.{Saving, past_number}
use Rattle.farm_plan.specs.Plans.{MapPlan, Restyle, FarmPlan}
use Rattle.farm_plan.specs.Drawings.{update_of}
use Rattle.render_jobs.specs.declared.faults.ResumeFault.{ResumeFault}
use Rattle.render_jobs.specs.declared.faults.ResumeFault.TheVariants.{Maps, Number, Kept as NotKept, Apply}

-- whether a style of the table is one of that map
abbrev pub names_map : Option Restyle → ℕ → Bool
names_map None map = false
names_map (Some r) map = r.map == map

-- whether the style that a map was given last is in the table, as one of that map; or there is none
abbrev pub is_style_at : FarmPlan → ℕ → Option ℕ → Bool
is_style_at plan map None = true
is_style_at plan map (Some n) = names_map (slice_get plan.restyles n) map

-- whether the map is there and has that zoom
abbrev pub has_zoom : Option MapPlan → ℕ → Bool
has_zoom None z = false
has_zoom (Some mp) z = nat_le z mp.max_zoom

-- whether the plan has the map of the key, up to its zoom
abbrev pub can_show : FarmPlan → Key → Bool
can_show plan k = has_zoom (slice_get plan.maps k.map) k.meta.z

-- the fault of the first of the list, from that place on, that does not pass the test
unfoldable pub first_failing : {X : Type 0} → (ℕ → X → Bool) → (ℕ → ResumeFault) → ℕ → List X
    → Option ResumeFault
first_failing test fault place [] = None
first_failing test fault place (x ∷ xs) =
    if test place x then first_failing test fault (place + 1) xs else Some (fault place)

-- the fault of an update that is refused at that place
abbrev pub refused_at : ℕ → ApplyFault → ResumeFault
refused_at place ApplyFault.NoMemory = ResumeFault.NoMemory
refused_at place fault = Apply place fault

-- the fault of one update, or what comes after it
abbrev pub update_fault : ℕ → Result (List Layer) ApplyFault → (List Layer → Option ResumeFault)
    → Option ResumeFault
update_fault place (Ok new) later = later new
update_fault place (Err fault) later = Some (Apply place fault)

-- an update that is refused over the data that those before it leave
unfoldable pub apply_fault : FarmPlan → List Layer → ℕ → List Past → Option ResumeFault
apply_fault plan layers place [] = None
apply_fault plan layers place (c ∷ cs) = update_fault place (update_result
    (update_of plan (past_number c)) layers) (λ new. apply_fault plan new (place + 1) cs)

-- The first fault but those of the updates themselves: another number of maps; a style that is none
-- of its map; an update that is not in the table, whose place is counted on from those of the
-- styles; a clean key that the plan does not have.
abbrev pub form_fault : FarmPlan → Saving → Option ResumeFault
form_fault plan s =
    if length s.styles == length plan.maps
    then option_or (first_failing (is_style_at plan) (λ place. Number place) 0 s.styles)
    (option_or (first_failing (λ place c. nat_lt (past_number c) (length plan.updates))
    (λ place. Number (length s.styles + place)) 0 s.updates)
    (first_failing (λ place x. can_show plan x.key) (λ place. NotKept place) 0 s.clean))
    else Some (Maps (length s.styles))

-- the first fault
abbrev pub resume_fault : FarmPlan → Saving → Option ResumeFault
resume_fault plan s = option_or (form_fault plan s) (apply_fault plan plan.dataset 0 s.updates)

-- the fault of a refusal
abbrev pub cause : Result (Unit {0}) ResumeFault → Option ResumeFault
cause (Ok done) = None
cause (Err fault) = Some fault
