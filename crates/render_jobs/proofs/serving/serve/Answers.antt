use Rattle.std.proofs.Common.{rules, sym, subst}
use Rattle.farm_plan.specs.Spots.{IsKeyOf}
use Rattle.render_jobs.proofs.Servable.{no_map, no_plan, too_deep, no_tile, served, served_key, key_made}
use Rattle.render_jobs.proofs.serving.serve.Goals as goal

pub returns-in_err-map-clause-served : goal.returns-in_err-map-clause-served
returns-in_err-map-clause-served c =
    let off = no_map c.args.setup.now c.args.spot (search rules) in
    search (rules, off)

pub returns-in_err-plan-clause-served : goal.returns-in_err-plan-clause-served
returns-in_err-plan-clause-served c =
    let off = no_plan c.args.setup.now c.args.spot c.in_ok-map.map (search rules) (search rules) in
    search (rules, off)

pub returns-then-spot-plan-clause-served : goal.returns-then-spot-plan-clause-served
returns-then-spot-plan-clause-served c = sym (too_deep c.args.setup.now c.args.spot c.in_ok-map.map c.in_ok-plan.plan.now (search rules) (search rules) (search rules))

pub returns-in_err-tile-clause-served : goal.returns-in_err-tile-clause-served
returns-in_err-tile-clause-served c =
    let off = no_tile c.args.setup.now c.args.spot c.in_ok-map.map c.in_ok-plan.plan.now c.requires (search rules) (search rules) (search rules) (search rules) in
    search (rules, off)

pub returns-clause-served : goal.returns-clause-served
returns-clause-served c = sym (served c.args.setup.now c.args.spot c.in_ok-map.map c.in_ok-plan.plan.now (search rules) (search rules) (search rules) (search rules))

pub returns-clause-key : goal.returns-clause-key
returns-clause-key c =
    let on = served c.args.setup.now c.args.spot c.in_ok-map.map c.in_ok-plan.plan.now (search rules) (search rules) (search rules) (search rules) in
    let same = key_made c.args.spot c.in_ok-map.map c.in_ok-tile.tile c.meta_of.result (search rules) (search rules) c.meta_of.ensures.value in
    (same, subst (IsKeyOf c.args.setup.now) (sym same) (served_key c.args.setup.now c.args.spot c.requires on))
