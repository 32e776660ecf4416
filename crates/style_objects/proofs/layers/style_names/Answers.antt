use Rattle.std.specs.Prelude.{[], IsTrue}
use Rattle.std.specs.List.{list_all}
use Rattle.std.proofs.lemmas.Result.{IfOk-weaker}
use Rattle.farm_base.specs.Earlier.{each_after}
use Rattle.plain_drawing.specs.Styles.{style_has}
use Rattle.style_objects.proofs.Opening.{names_known}
use Rattle.style_objects.proofs.layers.style_names.Goals as goal

pub returns-clause-known : goal.returns-clause-known
returns-clause-known c =
    IfOk-weaker c.read_list.result (λ v. IsTrue (each_after (λ before name. style_has name c.args.styles.now) [] v.items)) (λ v. IsTrue (list_all (λ name. style_has name c.args.styles.now) v.items))
    (λ v. names_known c.args.styles.now v.items) c.read_list.ensures.kept
