use Rattle.std.proofs.Common.{◌≡◌, ◌<◌, ◌≤◌, List, length, get_or, rules, sym, subst}
use Rattle.farm_plan.specs.Plans.{FarmPlan}
use Rattle.script_lines.specs.declared.script.ScriptLine.{ScriptLine}
use Rattle.script_text.specs.inner.Hands.{HandStands}
use Rattle.script_text.proofs.Lasting.{lasts_same, lasts_then}
use Rattle.script_text.proofs.Running.{goes_first, goes_few, goes_more, goes_cut, goes_short, goes_all}
use Rattle.script_text.proofs.runs.run_noting.Goals as goal

pub loop-line-init : goal.loop-line-init
loop-line-init g c = record {
  goes = λ told before s. goes_first _ _ _ _ _ _ _ _ c.new-hand.ensures.items s;
  kept = lasts_same _ _;
}

pub answer-requires : goal.answer-requires
answer-requires g c =
    let told = c.requires.stands.0 in
    let before = c.requires.stands.1 in
    let s = c.requires.stands.2 in
    let goes = c.loop-line.invariant.goes told before s in
    let small : c.loop-line.line-index ≤ 1000000 = search rules in
    record {
      turns = goes_few _ _ _ _ _ _ _ _ _ _ _ _ small s c.requires.few goes;
      stands = (told, goes.after, goes.stands, subst (λ (p : FarmPlan). HandStands p goes.after c.loop-line.hand.items) (sym c.loop-line.invariant.kept.plan) goes.held);
    }

pub returns-in-Err-clause-run : goal.returns-in-Err-clause-run
returns-in-Err-clause-run g c = λ told before s.
    let goes = c.loop-line.invariant.goes told before s in
    let own = c.loop-line.invariant.kept.plan in
    let lines : c.as_slice-line-items.result.now ≡ c.args.script.now = search rules in
    let inside : c.loop-line.line-index < length c.args.script.now = subst (λ (xs : List ScriptLine). c.loop-line.line-index < length xs) lines c.loop-line-test.true in
    let is : c.line-item.result ≡ get_or c.args.script.now c.loop-line.line-index c.line-item.result = subst (λ (xs : List ScriptLine). c.line-item.result ≡ get_or xs c.loop-line.line-index c.line-item.result) lines c.line-item.is in
    let held = subst (λ (p : FarmPlan). HandStands p goes.after c.loop-line.hand.items) (sym own) goes.held in
    goes_short _ _ _ _ _ _ _ _ _ _ c.answer.new.hand.items _ _ _ _ inside is own goes (c.in-Err.ensures.step told goes.after goes.stands held)

pub returns-in-Err-put_said-clause-run : goal.returns-in-Err-put_said-clause-run
returns-in-Err-put_said-clause-run g c = λ told before s.
    let goes = c.loop-line.invariant.goes told before s in
    let own = c.loop-line.invariant.kept.plan in
    let lines : c.as_slice-line-items.result.now ≡ c.args.script.now = search rules in
    let inside : c.loop-line.line-index < length c.args.script.now = subst (λ (xs : List ScriptLine). c.loop-line.line-index < length xs) lines c.loop-line-test.true in
    let is : c.line-item.result ≡ get_or c.args.script.now c.loop-line.line-index c.line-item.result = subst (λ (xs : List ScriptLine). c.line-item.result ≡ get_or xs c.loop-line.line-index c.line-item.result) lines c.line-item.is in
    let held = subst (λ (p : FarmPlan). HandStands p goes.after c.loop-line.hand.items) (sym own) goes.held in
    goes_cut _ _ _ _ _ _ _ _ _ _ _ _ _ _ _ c.loop-line.failed c.in-Err-put_said.field-0 inside is own goes (c.in-Ok.ensures.step told goes.after goes.stands held) c.in-Err-put_said.ensures

pub loop-line-preserved : goal.loop-line-preserved
loop-line-preserved g c =
    let own = c.loop-line.invariant.kept.plan in
    let lines : c.as_slice-line-items.result.now ≡ c.args.script.now = search rules in
    let inside : c.loop-line.line-index < length c.args.script.now = subst (λ (xs : List ScriptLine). c.loop-line.line-index < length xs) lines c.loop-line-test.true in
    let is : c.line-item.result ≡ get_or c.args.script.now c.loop-line.line-index c.line-item.result = subst (λ (xs : List ScriptLine). c.line-item.result ≡ get_or xs c.loop-line.line-index c.line-item.result) lines c.line-item.is in
    record {
      goes = λ told before s.
          let goes = c.loop-line.invariant.goes told before s in
          let held = subst (λ (p : FarmPlan). HandStands p goes.after c.loop-line.hand.items) (sym own) goes.held in
          rw c.has_failed-failed.ensures
          (goes_more _ _ _ _ _ _ _ _ _ _ _ _ _ _ _ c.loop-line.failed inside is own goes (c.in-Ok.ensures.step told goes.after goes.stands held) c.in-Ok-put_said.ensures);
      kept = lasts_then _ _ _ _ c.loop-line.invariant.kept c.answer.ensures.kept;
    }

pub returns-clause-run : goal.returns-clause-run
returns-clause-run g c = λ told before s.
    let lines : c.as_slice-line-items.result.now ≡ c.args.script.now = search rules in
    goes_all _ _ _ _ _ _ _ _ _ _ _ (subst (λ (xs : List ScriptLine). length xs ≤ c.loop-line.line-index) lines c.loop-line-test.false) (c.loop-line.invariant.goes told before s)
