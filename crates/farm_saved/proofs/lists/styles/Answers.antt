use Rattle.std.proofs.Common.{rules, arith}
use Rattle.std.proofs.lemmas.List.Elements.{All-same, All-push}
use Rattle.farm_saved.specs.Savings.{StyleFits}
use Rattle.farm_saved.specs.Reading.{style_number_in}
use Rattle.farm_saved.proofs.Loops.{many_more, many_fail, many_end}
use Rattle.farm_saved.proofs.lists.styles.Goals as goal

pub returns-in-Err-clause-value : goal.returns-in-Err-clause-value
returns-in-Err-clause-value c = λ n. many_fail (style_number_in c.args.short) c.args.count c.loop.counter c.loop.styles.items c.loop.rest.now c.in-Err.fault _
    c.loop-test.true c.loop.invariant.told (c.in-Err.ensures.value c.loop.styles.items)

pub loop-preserved : goal.loop-preserved
loop-preserved c = record {
  told = many_more (style_number_in c.args.short) c.args.count c.loop.counter c.in-Ok.field.0 c.loop.styles.items _ c.loop.rest.now c.in-Ok.field.1.now _
      c.loop-test.true c.loop.invariant.told (c.in-Ok.ensures.value c.loop.styles.items) c.in_ok-push.ensures.items;
  fit = All-same StyleFits _ _ c.in_ok-push.ensures.items (All-push StyleFits c.loop.styles.items c.in-Ok.field.0 c.loop.invariant.fit c.in-Ok.ensures.fits);
  count = search (rules, arith);
  left = search (rules, arith);
}

pub returns-clause-value : goal.returns-clause-value
returns-clause-value c = many_end (style_number_in c.args.short) c.args.count c.loop.counter c.loop.styles.items c.loop.rest.now _ c.loop-test.false c.loop.invariant.told
