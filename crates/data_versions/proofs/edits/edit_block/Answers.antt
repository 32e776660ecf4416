use Rattle.std.proofs.Common.{◌+◌, length, refl, sym, ◌∙◌}
use Rattle.std.proofs.lemmas.Result.{on_ok_weaker}
use Rattle.data_versions.specs.inner.Building.{built}
use Rattle.data_versions.proofs.Merged.{built_shared}
use Rattle.data_versions.proofs.edits.edit_block.Goals as goal

pub returns-then-begin_past : goal.returns-then-begin_past
returns-then-begin_past g c =
    let xs = g.B.Block.features c.args.block.now in
    on_ok_weaker c.share_into.result (λ is more. built_shared (built c.args.builder.now) (built c.share_into.new.builder) c.args.first (c.args.first + length xs)
    c.args.edits.now xs more refl (sym (rw c.len.ensures at c.begin_past.ensures) ∙ c.if-begin_past.true) is) c.share_into.ensures
