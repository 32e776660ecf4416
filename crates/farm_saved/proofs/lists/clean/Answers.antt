use Rattle.farm_saved.proofs.Sound.{clean_push}
use Rattle.std.proofs.Common.{ap, ◌∙◌, arith, rules}
use Rattle.farm_saved.specs.Reading.{entry_in}
use Rattle.farm_saved.proofs.Loops.{many_more, many_fail, many_end}
use Rattle.farm_saved.proofs.lists.clean.Goals as goal

pub returns-in-Err-clause-value : goal.returns-in-Err-clause-value
returns-in-Err-clause-value c = λ n. many_fail (entry_in c.args.short c.args.updates) c.args.count c.loop.counter c.loop.clean.items c.loop.rest.now c.in-Err.fault _
    c.loop-test.true c.loop.invariant.told (c.in-Err.ensures.value ∙ ap (λ xs. entry_in c.args.short c.args.updates xs c.loop.rest.now) c.as_slice.ensures.value)

pub loop-preserved : goal.loop-preserved
loop-preserved c = record {
  told = many_more (entry_in c.args.short c.args.updates) c.args.count c.loop.counter c.in-Ok.field.0 c.loop.clean.items _ c.loop.rest.now c.in-Ok.field.1.now _
      c.loop-test.true c.loop.invariant.told (c.in-Ok.ensures.value ∙ ap (λ xs. entry_in c.args.short c.args.updates xs c.loop.rest.now) c.as_slice.ensures.value) c.in_ok-push.ensures.items;
  sound = search (rules, clean_push);
  left = search (rules, arith);
}

pub returns-clause-value : goal.returns-clause-value
returns-clause-value c = many_end (entry_in c.args.short c.args.updates) c.args.count c.loop.counter c.loop.clean.items c.loop.rest.now _ c.loop-test.false c.loop.invariant.told
