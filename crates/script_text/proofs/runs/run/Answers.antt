use Rattle.script_text.proofs.runs.run.Goals as goal

pub returns-clause-run : goal.returns-clause-run
returns-clause-run g c = λ told h s. (c.run_noting.result.failed, c.run_noting.ensures.run told h s)
