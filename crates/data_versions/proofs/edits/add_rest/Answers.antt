use Rattle.data_versions.specs.inner.Building.{built}
use Rattle.data_versions.proofs.Merged.{rest_more}
use Rattle.data_versions.proofs.edits.add_rest.Goals as goal

pub loop-edit-preserved : goal.loop-edit-preserved
loop-edit-preserved c = rest_more (built c.args.builder.now) (built c.loop-edit.builder) (built c.add_edit.new.builder) c.left-edit-items.result.now c.loop-edit.edit-index c.edit-item.result
    c.loop-edit-test.true c.edit-item.is c.loop-edit.invariant c.in_ok-add_edit.ensures
