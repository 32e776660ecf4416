use Rattle.std.proofs.Common.{rules}
use Rattle.std.proofs.lemmas.Result.{err_from_is_err_and}
use Rattle.farm_files.proofs.Whole.{serve_read, serve_inputs_stop, serve_config_stop}
use Rattle.farm_files.proofs.scripts.serve_files.Goals as goal

pub returns-in_err-config-clause-follows : goal.returns-in_err-config-clause-follows
returns-in_err-config-clause-follows g c =
    let p = err_from_is_err_and c.from_residual.result c.from_residual.ensures.1 in
    rw (p.1, p.2) (serve_config_stop _ _ _ _ c.in_err-config.ensures)

pub returns-in-Err-clause-follows : goal.returns-in-Err-clause-follows
returns-in-Err-clause-follows g c = serve_inputs_stop _ _ _ _ _ _ c.in_ok-config.ensures c.in-Err.ensures.follows

pub returns-in-Ok-clause-follows : goal.returns-in-Ok-clause-follows
returns-in-Ok-clause-follows g c = serve_read _ _ _ _ _ _ _ c.in_ok-config.ensures c.in-Ok.ensures.follows (search rules)
