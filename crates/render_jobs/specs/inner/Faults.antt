-- The first faults of the parts of what is saved, as the code looks for them. Words of inner
-- contracts.
use Rattle.std.specs.Prelude.{ℕ, ◌+◌, nat_lt, List, length, Option}
use Rattle.farm_history.specs.declared.keys.Kept.{Kept}
use Rattle.farm_history.specs.declared.saved.Past.{Past}
use Rattle.farm_history.specs.Replays.{past_number}
use Rattle.farm_plan.specs.Plans.{FarmPlan}
use Rattle.render_jobs.specs.declared.faults.ResumeFault.{ResumeFault}
use Rattle.render_jobs.specs.declared.faults.ResumeFault.TheVariants.{Number, Kept as NotKept}
use Rattle.render_jobs.specs.Faults.{is_style_at, can_show, first_failing}

-- a style that is none of its map
abbrev pub styles_fault : FarmPlan → List (Option ℕ) → Option ResumeFault
styles_fault plan styles = first_failing (is_style_at plan) (λ place. Number place) 0 styles

-- an update that is not in the table; its place is counted on from those of the styles
abbrev pub updates_fault : FarmPlan → ℕ → List Past → Option ResumeFault
updates_fault plan styles updates =
    first_failing (λ place c. nat_lt (past_number c) (length plan.updates))
    (λ place. Number (styles + place)) 0 updates

-- a clean key that the plan does not have
abbrev pub kept_fault : FarmPlan → List Kept → Option ResumeFault
kept_fault plan clean =
    first_failing (λ place x. can_show plan x.key) (λ place. NotKept place) 0 clean
