use Rattle.std.proofs.Common.{sym, ◌∙◌, arith}
use Rattle.data_versions.specs.inner.Questions.{answers}
use Rattle.data_versions.proofs.Laid.{part_found, part_lacks}
use Rattle.data_versions.proofs.blocks.Blocks.find.Goals as goal

pub overflow_cast-result : goal.overflow_cast-result
overflow_cast-result g c =
    let within = c.part_from-place.ensures.part.within (omega (arith, c.loop-from-test.true, c.len-count.ensures)) in
    omega (arith, within, c.in-Some.ensures.bound, c.len-count.ensures, c.len-count.type_inv)

pub overflow_add-result : goal.overflow_add-result
overflow_add-result g c =
    let within = c.part_from-place.ensures.part.within (omega (arith, c.loop-from-test.true, c.len-count.ensures)) in
    omega (arith, within, c.in-Some.ensures.bound, c.len-count.ensures, c.len-count.type_inv)

pub returns-in-Some : goal.returns-in-Some
returns-in-Some g c =
    sym (c.loop-from.invariant ∙ part_found (answers c.args.question) c.args.self.now c.loop-from.from c.part_from-place.result.0 c.in-Some.steps c.part_from-place.result.1.now
    (omega (arith, c.loop-from-test.true, c.len-count.ensures)) c.part_from-place.ensures.part (sym c.first_answer.ensures.place ∙ c.in-Some.is))

pub overflow_cast-from : goal.overflow_cast-from
overflow_cast-from g c =
    let within = c.part_from-place.ensures.part.within (omega (arith, c.loop-from-test.true, c.len-count.ensures)) in
    omega (arith, within, c.len-count.ensures, c.len-count.type_inv)

pub overflow_add-from : goal.overflow_add-from
overflow_add-from g c =
    let within = c.part_from-place.ensures.part.within (omega (arith, c.loop-from-test.true, c.len-count.ensures)) in
    omega (arith, within, c.len-count.ensures, c.len-count.type_inv)

pub loop-from-preserved : goal.loop-from-preserved
loop-from-preserved g c =
    c.loop-from.invariant ∙ part_lacks (answers c.args.question) c.args.self.now c.loop-from.from c.part_from-place.result.0 c.part_from-place.result.1.now
    (omega (arith, c.loop-from-test.true, c.len-count.ensures)) c.part_from-place.ensures.part (sym c.first_answer.ensures.place ∙ c.in_default.is)
