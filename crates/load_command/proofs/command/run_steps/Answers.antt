use Rattle.std.proofs.Common.{◌<◌, ◌≤◌, length, get_or, rules, arith}
use Rattle.script_text.proofs.Lasting.{lasts_same, lasts_then}
use Rattle.load_command.proofs.Running.{begun, run_more, run_short, run_all, each_get, own_get, no_step}
use Rattle.load_command.proofs.command.run_steps.Goals as goal

pub loop-step-init : goal.loop-step-init
loop-step-init g c = record { goes = λ told s. begun _ told c.args.steps.now _ _ c.none-totals.ensures s; kept = lasts_same _ _ }

pub run_step-requires : goal.run_step-requires
run_step-requires g c =
    let told = c.requires.stands.0 in
    let goes = c.loop-step.invariant.goes told c.requires.stands.1 in
    let small = goes.small in
    let inside : c.loop-step.step-index < length c.args.steps.now = search rules in
    let few = c.requires.few in
    record { stands = (told, goes.after, goes.stands, omega (arith, small, inside, few)); tile = each_get _ _ _ (get_or c.args.steps.now c.loop-step.step-index no_step) inside (own_get c.args.steps.now c.loop-step.step-index no_step inside) c.requires.tiles }

pub with-totals-requires : goal.with-totals-requires
with-totals-requires g c =
    let goes = c.loop-step.invariant.goes c.requires.stands.0 c.requires.stands.1 in
    let inside : c.loop-step.step-index < length c.args.steps.now = search rules in
    let few = c.requires.few in
    let a = goes.held.1.few in
    let b = goes.held.1.few_bytes in
    let d = goes.held.1.small_sum in
    record { few = omega (arith, a, inside, few); few_bytes = omega (arith, b, inside, few); small_sum = omega (arith, d, inside, few) }

pub loop-step-preserved : goal.loop-step-preserved
loop-step-preserved g c =
    let inside : c.loop-step.step-index < length c.args.steps.now = search rules in
    record {
      goes = λ told s.
          let goes = c.loop-step.invariant.goes told s in
          run_more _ told _ _ (get_or c.args.steps.now c.loop-step.step-index no_step) _ _ _ _ _ inside (own_get c.args.steps.now c.loop-step.step-index no_step inside) c.with-totals.ensures goes (c.in-Ok.ensures.grows told goes.after goes.stands);
      kept = lasts_then _ _ _ _ c.loop-step.invariant.kept c.in-Ok.ensures.kept;
    }

pub returns-in-Err-clause-run : goal.returns-in-Err-clause-run
returns-in-Err-clause-run g c = λ told s.
    let inside : c.loop-step.step-index < length c.args.steps.now = search rules in
    let goes = c.loop-step.invariant.goes told s in
    run_short _ told _ _ (get_or c.args.steps.now c.loop-step.step-index no_step) _ _ _ _ inside (own_get c.args.steps.now c.loop-step.step-index no_step inside) goes (c.in-Err.ensures.grows told goes.after goes.stands)

pub returns-clause-run : goal.returns-clause-run
returns-clause-run g c = λ told s.
    let past : length c.args.steps.now ≤ c.loop-step.step-index = search rules in
    let within : c.loop-step.step-index ≤ length c.args.steps.now = search rules in
    run_all _ told _ _ _ _ past within (c.loop-step.invariant.goes told s)
