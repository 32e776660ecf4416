use Rattle.std.specs.Prelude.{[], IsTrue}
use Rattle.std.specs.List.{list_all}
use Rattle.std.proofs.lemmas.Result.{IfOk-weaker}
use Rattle.farm_base.specs.Earlier.{each_after}
use Rattle.plain_drawing.specs.Styles.{is_paint}
use Rattle.style_objects.proofs.Opening.{paints_fit}
use Rattle.style_objects.proofs.symbolizers.symbolizers.Goals as goal

pub returns-clause-fits : goal.returns-clause-fits
returns-clause-fits c =
    IfOk-weaker c.read_list.result (λ v. IsTrue (each_after (λ before s. is_paint s) [] v.items)) (λ v. IsTrue (list_all is_paint v.items))
    (λ v. paints_fit v.items) c.read_list.ensures.kept
