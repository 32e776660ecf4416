use Rattle.std.proofs.Common.{arith}
use Rattle.script_text.proofs.Lasting.{lasts_then}
use Rattle.load_command.proofs.Stepping.{collecting_more, collected_all, fewer_kept}
use Rattle.load_command.proofs.steps.collect_all.Goals as goal

pub loop-smaller : goal.loop-smaller
loop-smaller g c =
    let told = c.requires.stands.0 in
    let goes = c.loop.invariant.goes told c.requires.stands.1 c.requires.stands.2 in
    let less = fewer_kept _ told _ _ _ c.in-Reply.field-0 goes.stands (c.in-Reply.ensures.step told _ goes.stands) in
    omega (arith, less)

pub loop-preserved : goal.loop-preserved
loop-preserved g c = record {
  goes = λ told before s.
      let goes = c.loop.invariant.goes told before s in
      collecting_more _ told _ _ before c.in-Reply.field-0 goes (c.in-Reply.ensures.step told _ goes.stands);
  kept = lasts_then _ _ _ _ c.loop.invariant.kept c.in-Reply.ensures.kept;
}

pub returns : goal.returns
returns g c = record {
  grows = λ told h s.
      let goes = c.loop.invariant.goes told h s in
      collected_all _ told _ _ h c.collect.result goes c.in_default.not-Reply (c.collect.ensures.step told _ goes.stands);
  kept = lasts_then _ _ _ _ c.loop.invariant.kept c.collect.ensures.kept;
}
