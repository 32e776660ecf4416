use Rattle.std.proofs.Common.{refl, ◌∙◌, sym}
use Rattle.farm_history.specs.declared.answers.ClaimAnswer.TheVariants as claimed
use Rattle.farm_history.specs.Entries as entry
use Rattle.script_text.specs.ScriptTexts.{names_of}
use Rattle.script_text.proofs.Entering.{answered_claim, answered_kept}
use Rattle.script_text.proofs.Saying.{line_said}
use Rattle.script_text.proofs.hands.claim.Goals as goal

pub take_in_hand-requires : goal.take_in_hand-requires
take_in_hand-requires g c = (c.in-Job.ensures.carries c.requires.stands.0 c.requires.stands.1 c.requires.stands.2).plan_is ∙ sym c.in-Job.ensures.kept.plan

pub returns-in-Job-clause-step : goal.returns-in-Job-clause-step
returns-in-Job-clause-step g c = λ told h s hand.
    answered_claim _ _ _ _ _ _ _ _ _ _ c.in-Job.ensures.kept.plan (c.in-Job.ensures.step told h s) (c.in-Job.ensures.carries told h s) c.in-Job.ensures.job.0 hand
    c.take_in_hand.ensures.said c.take_in_hand.ensures.hand

pub returns-in-Idle-clause-step : goal.returns-in-Idle-clause-step
returns-in-Idle-clause-step g c = λ told h s hand.
    answered_kept _ _ _ _ _ _ _ _ _ (entry.Claim c.args.worker claimed.Idle) tt (claimed.Idle, refl) refl (λ ticket. refl) refl hand (c.in-Idle.ensures.step told h s)
    (line_said _ _ _ _ _ _ c.said.ensures refl refl (c.claim_line.ensures (names_of c.args.farm.now.plan) tt))

pub returns-in-Crowded-clause-step : goal.returns-in-Crowded-clause-step
returns-in-Crowded-clause-step g c = λ told h s hand.
    answered_kept _ _ _ _ _ _ _ _ _ (entry.Claim c.args.worker claimed.Crowded) tt (claimed.Crowded, refl) refl (λ ticket. refl) refl hand (c.in-Crowded.ensures.step told h s)
    (line_said _ _ _ _ _ _ c.said-in-Crowded.ensures refl refl (c.claim_line-in-Crowded.ensures (names_of c.args.farm.now.plan) tt))

pub returns-in-Stopped-clause-step : goal.returns-in-Stopped-clause-step
returns-in-Stopped-clause-step g c = λ told h s hand.
    answered_kept _ _ _ _ _ _ _ _ _ (entry.Claim c.args.worker claimed.Stopped) tt (claimed.Stopped, refl) refl (λ ticket. refl) refl hand (c.in-Stopped.ensures.step told h s)
    (line_said _ _ _ _ _ _ c.said-in-Stopped.ensures refl refl (c.claim_line-in-Stopped.ensures (names_of c.args.farm.now.plan) tt))
