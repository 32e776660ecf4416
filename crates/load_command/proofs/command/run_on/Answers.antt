use Rattle.script_text.proofs.Beginning.{stands_new, leaves}
use Rattle.load_command.proofs.command.run_on.Goals as goal

pub work_on-end-requires-clause-stands : goal.work_on-end-requires-clause-stands
work_on-end-requires-clause-stands g c = (_, stands_new _ _ c.requires.begins.0 _ c.requires.begins.1)

pub returns : goal.returns
returns g c = λ store begins. leaves _ _ store _ _ _ _ begins c.work_on-end.ensures.kept c.into_store.ensures c.work_on-end.ensures.run
