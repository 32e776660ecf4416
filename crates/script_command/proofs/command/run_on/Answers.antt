use Rattle.script_text.proofs.Beginning.{stands_new, few_new, leaves}
use Rattle.script_command.proofs.Ran.{ran_on}
use Rattle.script_command.proofs.command.run_on.Goals as goal

pub run_noting-run-requires : goal.run_noting-run-requires
run_noting-run-requires g c =
    let stands = stands_new _ _ c.requires.0 _ c.requires.1 in
    record { few = few_new _ _ stands; stands = (_, _, stands) }

pub returns : goal.returns
returns g c = λ store begins.
    leaves _ _ store _ _ _ _ begins c.run_noting-run.ensures.kept c.into_store.ensures
    (λ told s. ran_on _ _ _ _ _ _ _ _ c.end_of.ensures (c.run_noting-run.ensures.run told _ s))
