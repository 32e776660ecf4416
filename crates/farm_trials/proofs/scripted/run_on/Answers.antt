use Rattle.script_text.proofs.Beginning.{stands_new, few_new}
use Rattle.farm_trials.proofs.scripted.run_on.Goals as goal

pub run-end-requires-clause-few : goal.run-end-requires-clause-few
run-end-requires-clause-few g c = few_new _ _ (stands_new _ _ c.requires.0 _ c.requires.1)

pub run-end-requires-clause-stands : goal.run-end-requires-clause-stands
run-end-requires-clause-stands g c = (_, _, stands_new _ _ c.requires.0 _ c.requires.1)
