use Rattle.std.proofs.Common.{refl}
use Rattle.script_text.proofs.Entering.{answered_alone, of_line}
use Rattle.script_text.proofs.answers.answer.Goals as goal

pub returns-in-Ask-clause-step : goal.returns-in-Ask-clause-step
returns-in-Ask-clause-step g c = λ told h s hand.
    of_line _ _ _ _ _ _ _ _ _ _ c.in-Ask.is (answered_alone _ _ _ _ _ _ _ _ _ refl tt refl hand (c.ask.ensures.step told h s))

pub returns-in-Update-clause-step : goal.returns-in-Update-clause-step
returns-in-Update-clause-step g c = λ told h s hand.
    of_line _ _ _ _ _ _ _ _ _ _ c.in-Update.is (answered_alone _ _ _ _ _ _ _ _ _ refl tt refl hand (c.update.ensures.step told h s))

pub returns-in-Fetch-clause-step : goal.returns-in-Fetch-clause-step
returns-in-Fetch-clause-step g c = λ told h s hand.
    of_line _ _ _ _ _ _ _ _ _ _ c.in-Fetch.is (answered_alone _ _ _ _ _ _ _ _ _ refl tt refl hand (c.fetch.ensures.step told h s))

pub returns-in-Look-clause-step : goal.returns-in-Look-clause-step
returns-in-Look-clause-step g c = λ told h s hand.
    of_line _ _ _ _ _ _ _ _ _ _ c.in-Look.is (answered_alone _ _ _ _ _ _ _ _ _ refl tt refl hand (c.look.ensures.step told h s))

pub returns-in-Collect-clause-step : goal.returns-in-Collect-clause-step
returns-in-Collect-clause-step g c = λ told h s hand.
    of_line _ _ _ _ _ _ _ _ _ _ c.in-Collect.is (answered_alone _ _ _ _ _ _ _ _ _ refl tt refl hand (c.collect.ensures.step told h s))

pub returns-in-Leave-clause-step : goal.returns-in-Leave-clause-step
returns-in-Leave-clause-step g c = λ told h s hand.
    of_line _ _ _ _ _ _ _ _ _ _ c.in-Leave.is (answered_alone _ _ _ _ _ _ _ _ _ refl tt refl hand (c.leave.ensures.step told h s))

pub returns-in-Tally-clause-step : goal.returns-in-Tally-clause-step
returns-in-Tally-clause-step g c = λ told h s hand.
    of_line _ _ _ _ _ _ _ _ _ _ c.in-Tally.is (answered_alone _ _ _ _ _ _ _ _ _ refl tt refl hand (c.tally.ensures.step told h s))

pub returns-in-Stop-clause-step : goal.returns-in-Stop-clause-step
returns-in-Stop-clause-step g c = λ told h s hand.
    of_line _ _ _ _ _ _ _ _ _ _ c.in-Stop.is (answered_alone _ _ _ _ _ _ _ _ _ refl tt refl hand (c.stop.ensures.step told h s))

pub returns-in-Restyle-clause-step : goal.returns-in-Restyle-clause-step
returns-in-Restyle-clause-step g c = λ told h s hand.
    of_line _ _ _ _ _ _ _ _ _ _ c.in-Restyle.is (answered_alone _ _ _ _ _ _ _ _ _ refl tt refl hand (c.restyle.ensures.step told h s))

pub returns-in-Renew-clause-step : goal.returns-in-Renew-clause-step
returns-in-Renew-clause-step g c = λ told h s hand.
    of_line _ _ _ _ _ _ _ _ _ _ c.in-Renew.is (answered_alone _ _ _ _ _ _ _ _ _ refl tt refl hand (c.renew.ensures.step told h s))

pub returns-in-Claim-clause-step : goal.returns-in-Claim-clause-step
returns-in-Claim-clause-step g c = λ told h s hand. of_line _ _ _ _ _ _ _ _ _ _ c.in-Claim.is (c.claim.ensures.step told h s hand)

pub returns-in-Finish-clause-step : goal.returns-in-Finish-clause-step
returns-in-Finish-clause-step g c = λ told h s hand. of_line _ _ _ _ _ _ _ _ _ _ c.in-Finish.is (c.finish.ensures.step told h s hand)

pub returns-in-Cut-clause-step : goal.returns-in-Cut-clause-step
returns-in-Cut-clause-step g c = λ told h s hand. of_line _ _ _ _ _ _ _ _ _ _ c.in-Cut.is (c.cut.ensures.step told h s hand)

pub returns-in-Expire-clause-step : goal.returns-in-Expire-clause-step
returns-in-Expire-clause-step g c = λ told h s hand. of_line _ _ _ _ _ _ _ _ _ _ c.in-Expire.is (c.expire_at.ensures.step told h s hand)
