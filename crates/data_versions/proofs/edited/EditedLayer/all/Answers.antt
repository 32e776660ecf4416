use Rattle.std.proofs.Common.{refl}
use Rattle.data_versions.proofs.Named.{shared_valid, shares_more}
use Rattle.data_versions.proofs.edited.EditedLayer.all.Goals as goal

pub invariant_of-push : goal.invariant_of-push
invariant_of-push c = shared_valid c.args.layers.now c.loop-shared.shared-index c.shared-item.result c.loop-shared-test.true c.requires c.shared-item.is

pub loop-shared-preserved : goal.loop-shared-preserved
loop-shared-preserved c =
    shares_more c.args.layers.now c.loop-shared.shared-index c.shared-item.result c.loop-shared.edited_layers.items c.push.new.self.items _
    c.loop-shared-test.true c.shared-item.is c.loop-shared.invariant refl c.in_ok-push.ensures.items
