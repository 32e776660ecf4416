use Rattle.std.proofs.Common.{rules}
use Rattle.std.proofs.lemmas.Result.{err_from_is_err_and}
use Rattle.farm_files.proofs.Whole.{script_read, script_unread, script_inputs_stop, script_config_stop}
use Rattle.farm_files.proofs.scripts.script_files.Goals as goal

pub returns-in_err-config-clause-follows : goal.returns-in_err-config-clause-follows
returns-in_err-config-clause-follows g c =
    let p = err_from_is_err_and c.from_residual.result c.from_residual.ensures.1 in
    rw (p.1, p.2) (script_config_stop _ _ _ _ _ c.in_err-config.ensures)

pub returns-in_err-inputs-clause-follows : goal.returns-in_err-inputs-clause-follows
returns-in_err-inputs-clause-follows g c =
    let p = err_from_is_err_and c.from_residual-in_err-inputs.result c.from_residual-in_err-inputs.ensures.1 in
    rw (p.1, p.2) (script_inputs_stop _ _ _ _ _ _ _ c.in_ok-config.ensures c.in_err-inputs.ensures.follows)

pub returns-in-Err-clause-follows : goal.returns-in-Err-clause-follows
returns-in-Err-clause-follows g c = script_unread _ _ _ _ _ _ _ _ _ c.in_ok-config.ensures c.in_ok-inputs.ensures.follows c.in-Err.ensures

pub returns-in-Ok-clause-follows : goal.returns-in-Ok-clause-follows
returns-in-Ok-clause-follows g c = script_read _ _ _ _ _ _ _ _ _ _ c.in_ok-config.ensures c.in_ok-inputs.ensures.follows c.in-Ok.ensures (search rules)
