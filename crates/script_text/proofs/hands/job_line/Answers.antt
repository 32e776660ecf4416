use Rattle.std.proofs.Common.{◌≡◌, ap, sym, subst, ◌∙◌}
use Rattle.std.specs.Prelude.{ℕ, IfOk, option_map, slice_get}
use Rattle.std.proofs.lemmas.Option.{slice_get-map}
use Rattle.farm_history.specs.declared.keys.Key.{Key}
use Rattle.farm_history.specs.declared.answers.ClaimAnswer.TheVariants.{Job}
use Rattle.farm_plan.specs.Plans.{MapPlan}
use Rattle.farm_plan.specs.Jobs.{JobSeen, job_key}
use Rattle.script_answers.specs.Answers.{claim_line}
use Rattle.script_text.specs.ScriptTexts.{names_of}
use Rattle.script_text.proofs.hands.job_line.Goals as goal

pub returns : goal.returns
returns g c =
    let names = names_of c.args.farm.now.plan in
    let key : c.key.result ≡ record { map = c.job.inside.map; meta = c.job.inside.meta } = c.key.ensures ∙ ap job_key (sym c.job.view_is) in
    let named = slice_get-map (λ (m : MapPlan). m.name) c.args.farm.now.plan.maps c.key.result.map
    ∙ ap (λ (n : ℕ). option_map (λ (m : MapPlan). m.name) (slice_get c.args.farm.now.plan.maps n)) (ap (λ (k : Key). k.map) key) ∙ sym c.map_name.ensures in
    subst (λ (j : JobSeen). IfOk c.claim_line.result (λ t. t ≡ claim_line names (Job j.ticket (job_key j) j.version))) c.job.view_is
    (subst (λ (k : Key). IfOk c.claim_line.result (λ t. t ≡ claim_line names (Job c.job.inside.ticket k c.job.inside.version))) key (c.claim_line.ensures names named))
