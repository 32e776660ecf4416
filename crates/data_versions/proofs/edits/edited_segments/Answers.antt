use Rattle.std.proofs.Common.{◌≡◌, ◌∙◌}
use Rattle.std.proofs.lemmas.Result.{IfOk-weaker}
use Rattle.data_versions.specs.inner.Building.{built}
use Rattle.data_versions.specs.inner.Edits.{edited}
use Rattle.data_versions.specs.inner.Parts.{laid}
use Rattle.data_versions.proofs.Merged.{rest_ends}
use Rattle.data_versions.proofs.edits.edited_segments.Goals as goal

pub returns : goal.returns
returns c =
    IfOk-weaker c.into_segments.result (λ v. laid v.items ≡ built c.add_rest.new.builder) (λ v. laid v.items ≡ edited 0 c.args.edits c.args.segments.now)
    (λ v e. e ∙ c.in_ok-add_rest.ensures ∙ rest_ends c.args.segments.now (built c.new-builder.result) (built c.edit_blocks.new.builder) _ c.args.edits c.edit_blocks.new.edits
    c.new-builder.ensures c.in_ok-edit_blocks.ensures) c.into_segments.ensures
