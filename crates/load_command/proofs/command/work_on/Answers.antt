use Rattle.std.proofs.Common.{◌≡◌, List, rules, sym, subst, ◌∙◌}
use Rattle.std.specs.Prelude.{string_bytes}
use Rattle.plain_world.specs.World.{IsTile}
use Rattle.farm_history.specs.Lists.{Each}
use Rattle.farm_history.specs.Plans.{spot_tile}
use Rattle.work_gen.specs.Work.{steps_of}
use Rattle.work_gen.specs.declared.stepping.Step.{Step}
use Rattle.load_command.proofs.Running.{short_work, lineless_work, told_work}
use Rattle.load_command.proofs.Tiles.{steps_tiles}
use Rattle.load_command.proofs.command.work_on.Goals as goal

pub run_steps-requires-clause-tiles : goal.run_steps-requires-clause-tiles
run_steps-requires-clause-tiles g c =
    let is : c.as_slice.result.now ≡ steps_of c.args.seed c.args.features 32 = search rules in
    subst (λ (xs : List Step). Each (λ (s : Step). IsTile (spot_tile s.spot)) xs) (sym is) (steps_tiles c.args.seed c.args.features 32)

pub returns-in-Err-clause-run : goal.returns-in-Err-clause-run
returns-in-Err-clause-run g c = λ told s.
    let is : c.as_slice.result.now ≡ steps_of c.args.seed c.args.features 32 = search rules in
    short_work _ told _ _ _ _ _ is (c.in-Err.ensures.run told s)

pub returns-in-Ok-line-clause-run : goal.returns-in-Ok-line-clause-run
returns-in-Ok-line-clause-run g c = λ told s.
    let is : c.as_slice.result.now ≡ steps_of c.args.seed c.args.features 32 = search rules in
    let text : c.as_str.result.now ≡ string_bytes c.in-Ok-line.line = search rules in
    told_work _ told _ _ _ c.in-Ok.totals _ _ _ _ _ _ is c.has_failed.ensures (λ count h t. text ∙ c.in-Ok-line.ensures count h t) (c.in-Ok.ensures.run told s) c.tell.ensures

pub returns-in-Err-line-clause-run : goal.returns-in-Err-line-clause-run
returns-in-Err-line-clause-run g c = λ told s.
    let is : c.as_slice.result.now ≡ steps_of c.args.seed c.args.features 32 = search rules in
    lineless_work _ told _ _ _ c.in-Ok.totals _ _ is (c.in-Ok.ensures.run told s)
