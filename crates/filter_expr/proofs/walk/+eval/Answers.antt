use Rattle.std.proofs.Common.{◌∙◌, ap, sym, not, map}
use Rattle.std.specs.List.{list_any, list_all}
use Rattle.farm_base.specs.declared.Value.TheVariants.{Truth}
use Rattle.plain_filters.specs.Values.{truth, compares, negative_of}
use Rattle.filter_expr.specs.inner.Parts.{valued, sum_part, product_part, sum_value, product_value}
use Rattle.filter_expr.specs.inner.Shown.{plain}
use Rattle.filter_expr.proofs.Nodes.{valued-Or, valued-And, valued-Not, valued-Compare, valued-Sum, valued-Product, valued-Negate}
use Rattle.filter_expr.proofs.walk.+eval.Goals as goal

pub eval-returns-in-Or : goal.eval-returns-in-Or
eval-returns-in-Or t c =
    let attrs = c.args.attrs.now in
    ap Truth (c.any_of.ensures ∙ ap (λ es. list_any truth (map (valued attrs) es)) c.deref.ensures.value)
    ∙ sym (valued-Or attrs c.in-Or.parts) ∙ ap (valued attrs) (sym c.in-Or.is)

pub eval-returns-in-And : goal.eval-returns-in-And
eval-returns-in-And t c =
    let attrs = c.args.attrs.now in
    ap Truth (c.all_of.ensures ∙ ap (λ es. list_all truth (map (valued attrs) es)) c.deref-in-And.ensures.value)
    ∙ sym (valued-And attrs c.in-And.parts) ∙ ap (valued attrs) (sym c.in-And.is)

pub eval-returns-in-Sum : goal.eval-returns-in-Sum
eval-returns-in-Sum t c =
    let attrs = c.args.attrs.now in
    c.after_sums.ensures
    ∙ ap (λ v. sum_value v (map (sum_part attrs) c.deref-in-Sum-2.result.now)) (c.eval-in-Sum.ensures ∙ ap (valued attrs) c.deref-in-Sum.ensures)
    ∙ ap (λ ps. sum_value (valued attrs c.in-Sum.first.value) (map (sum_part attrs) ps)) c.deref-in-Sum-2.ensures.value
    ∙ sym (valued-Sum attrs c.in-Sum.first c.in-Sum.parts) ∙ ap (valued attrs) (sym c.in-Sum.is)

pub eval-returns-in-Product : goal.eval-returns-in-Product
eval-returns-in-Product t c =
    let attrs = c.args.attrs.now in
    c.after_products.ensures
    ∙ ap (λ v. product_value v (map (product_part attrs) c.deref-in-Product-2.result.now)) (c.eval-in-Product.ensures ∙ ap (valued attrs) c.deref-in-Product.ensures)
    ∙ ap (λ ps. product_value (valued attrs c.in-Product.first.value) (map (product_part attrs) ps)) c.deref-in-Product-2.ensures.value
    ∙ sym (valued-Product attrs c.in-Product.first c.in-Product.parts) ∙ ap (valued attrs) (sym c.in-Product.is)

pub eval-returns-in-Not : goal.eval-returns-in-Not
eval-returns-in-Not t c =
    let attrs = c.args.attrs.now in
    ap (λ b. Truth (not b)) (c.truth.ensures ∙ ap truth (c.eval.ensures ∙ ap (valued attrs) c.deref-in-Not.ensures))
    ∙ sym (valued-Not attrs c.in-Not.part) ∙ ap (valued attrs) (sym c.in-Not.is)

pub eval-returns-in-Compare : goal.eval-returns-in-Compare
eval-returns-in-Compare t c =
    let attrs = c.args.attrs.now in
    let sign = c.in-Compare.sign in
    ap Truth (c.compares.ensures
    ∙ ap (λ v. compares sign v (plain c.eval-in-Compare-2.result)) (c.eval-in-Compare.ensures ∙ ap (valued attrs) c.deref-in-Compare.ensures)
    ∙ ap (compares sign (valued attrs c.in-Compare.a.value)) (c.eval-in-Compare-2.ensures ∙ ap (valued attrs) c.deref-in-Compare-2.ensures))
    ∙ sym (valued-Compare attrs c.in-Compare.a sign c.in-Compare.b) ∙ ap (valued attrs) (sym c.in-Compare.is)

pub eval-returns-in-Negate : goal.eval-returns-in-Negate
eval-returns-in-Negate t c =
    let attrs = c.args.attrs.now in
    c.negated.ensures ∙ ap negative_of (c.eval-in-Negate.ensures ∙ ap (valued attrs) c.deref-in-Negate.ensures)
    ∙ sym (valued-Negate attrs c.in-Negate.part) ∙ ap (valued attrs) (sym c.in-Negate.is)
