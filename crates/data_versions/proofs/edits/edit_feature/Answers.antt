use Rattle.std.specs.Option.{option_copied}
use Rattle.std.proofs.lemmas.Result.{on_ok_weaker}
use Rattle.data_versions.specs.inner.Building.{built}
use Rattle.data_versions.proofs.Merged.{built_edited, built_other}
use Rattle.data_versions.proofs.edits.edit_feature.Goals as goal

pub returns-in-Some : goal.returns-in-Some
returns-in-Some c =
    on_ok_weaker c.add_edit.result (λ is more. built_edited (built c.args.builder.now) (built c.add_edit.new.builder) c.args.number (option_copied c.in-Some.edit) c.args.edits.now
    c.take.new.self c.args.feature.now more c.in-Some.ensures is) c.add_edit.ensures

pub returns-in_ok-share-in-None : goal.returns-in_ok-share-in-None
returns-in_ok-share-in-None c =
    on_ok_weaker c.add.result (λ is more. rw c.in-None.ensures.0 (built_other (built c.args.builder.now) (built c.add.new.self) c.args.number c.args.edits.now c.args.feature.now more
    c.in-None.ensures.1 (rw c.in_ok-share-in-None.ensures at is))) c.add.ensures
