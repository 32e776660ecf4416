use Rattle.std.proofs.Common.{subst, rules}
use Rattle.std.proofs.lemmas.Result.{err_from_is_err_and}
use Rattle.farm_config.specs.Configs.{Config, IsConfig}
use Rattle.farm_files.proofs.Courses.{followed_could}
use Rattle.farm_files.specs.Courses.{inputs_course}
use Rattle.farm_files.proofs.Steps.{maps_then, restyles_then, layers_then, updates_then, lists_then, maps_stop, restyles_stop, layers_stop, updates_stop, lists_stop}
use Rattle.farm_files.proofs.Plans.{plan_valid}
use Rattle.farm_files.proofs.inputs.farm_inputs.Goals as goal

pub returns-in_err-maps-clause-follows : goal.returns-in_err-maps-clause-follows
returns-in_err-maps-clause-follows g c =
    let p = err_from_is_err_and c.from_residual.result c.from_residual.ensures.1 in
    rw (p.1, p.2)
    (maps_stop c.args.config.now _ _ _ _ (search rules) c.in_err-maps.ensures)

pub returns-in_err-restyles-clause-follows : goal.returns-in_err-restyles-clause-follows
returns-in_err-restyles-clause-follows g c =
    let p = err_from_is_err_and c.from_residual-in_err-restyles.result c.from_residual-in_err-restyles.ensures.1 in
    rw (p.1, p.2)
    (maps_then c.args.config.now _ _ _ _ _ _ (search rules) c.in_ok-maps.ensures
    (restyles_stop c.args.config.now _ _ _ _ _ (search rules) c.in_err-restyles.ensures))

pub returns-in_err-dataset-clause-follows : goal.returns-in_err-dataset-clause-follows
returns-in_err-dataset-clause-follows g c =
    let p = err_from_is_err_and c.from_residual-in_err-dataset.result c.from_residual-in_err-dataset.ensures.1 in
    rw (p.1, p.2)
    (maps_then c.args.config.now _ _ _ _ _ _ (search rules) c.in_ok-maps.ensures
    (restyles_then c.args.config.now _ _ _ _ _ _ _ (search rules) c.in_ok-restyles.ensures
    (layers_stop c.args.config.now _ _ _ _ _ _ (search rules) c.in_err-dataset.ensures)))

pub returns-in_err-updates-clause-follows : goal.returns-in_err-updates-clause-follows
returns-in_err-updates-clause-follows g c =
    let p = err_from_is_err_and c.from_residual-in_err-updates.result c.from_residual-in_err-updates.ensures.1 in
    rw (p.1, p.2)
    (maps_then c.args.config.now _ _ _ _ _ _ (search rules) c.in_ok-maps.ensures
    (restyles_then c.args.config.now _ _ _ _ _ _ _ (search rules) c.in_ok-restyles.ensures
    (layers_then c.args.config.now _ _ _ _ _ _ _ _ (search rules) c.in_ok-dataset.ensures
    (updates_stop c.args.config.now _ _ _ _ _ _ _ (search rules) c.in_err-updates.ensures))))

pub returns-in_err-lists-clause-follows : goal.returns-in_err-lists-clause-follows
returns-in_err-lists-clause-follows g c =
    let p = err_from_is_err_and c.from_residual-in_err-lists.result c.from_residual-in_err-lists.ensures.1 in
    rw (p.1, p.2)
    (maps_then c.args.config.now _ _ _ _ _ _ (search rules) c.in_ok-maps.ensures
    (restyles_then c.args.config.now _ _ _ _ _ _ _ (search rules) c.in_ok-restyles.ensures
    (layers_then c.args.config.now _ _ _ _ _ _ _ _ (search rules) c.in_ok-dataset.ensures
    (updates_then c.args.config.now _ _ _ _ _ _ _ _ _ (search rules) c.in_ok-updates.ensures
    (lists_stop c.args.config.now _ _ _ _ _ _ _ _ (search rules) c.in_err-lists.ensures)))))

pub returns-clause-follows : goal.returns-clause-follows
returns-clause-follows g c =
    maps_then c.args.config.now _ _ _ _ _ _ (search rules) c.in_ok-maps.ensures
    (restyles_then c.args.config.now _ _ _ _ _ _ _ (search rules) c.in_ok-restyles.ensures
    (layers_then c.args.config.now _ _ _ _ _ _ _ _ (search rules) c.in_ok-dataset.ensures
    (updates_then c.args.config.now _ _ _ _ _ _ _ _ _ (search rules) c.in_ok-updates.ensures
    (lists_then c.args.config.now _ _ _ _ _ _ _ _ _ (search rules) c.in_ok-lists.ensures (search rules)))))

pub returns-clause-valid : goal.returns-clause-valid
returns-clause-valid g c =
    plan_valid c.args.config.now _
    (subst (λ (k : Config). IsConfig k.maps k.updates k.expiries k.workers k.limits k.restyles) c.config.view_is c.config.invariant)
    (followed_could (inputs_course c.args.config.now) _ _ _ (returns-clause-follows g c))
