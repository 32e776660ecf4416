use Rattle.std.proofs.Common.{arith, subst, sym, ◌∙◌}
use Rattle.std.specs.Prelude.{List, All}
use Rattle.std.proofs.lemmas.Grind.{common_steps}
use Rattle.std.proofs.lemmas.List.{take_all}
use Rattle.plain_shapes.specs.Data.{IsLayer, IsDataset}
use Rattle.plain_shapes.specs.Features.{Layer}
use Rattle.data_versions.proofs.Named.{layers_more}
use Rattle.data_versions.proofs.updates.finish.Goals as goal

pub loop-edited-preserved : goal.loop-edited-preserved
loop-edited-preserved c = record {
  same = grind (arith, common_steps);
  each = layers_more c.args.edited_layers.now c.loop-edited.edited-index c.edited-item.result c.loop-edited-test.true c.edited-item.is c.loop-edited.invariant.each c.in_ok-finish.ensures.valid;
}

pub of-requires : goal.of-requires
of-requires c =
    let layers = c.args.edited_layers.now in
    let whole = take_all c.loop-edited.edited-index layers c.loop-edited-test.false in
    subst (λ (ls : List Layer). IsDataset ls) (sym (c.loop-edited.invariant.same ∙ whole))
    (record { few = c.requires.few; each = subst (λ (ls : List Layer). All IsLayer ls) whole c.loop-edited.invariant.each; distinct = c.requires.distinct })
