use Rattle.std.proofs.Common.{◌<◌, ◌≤◌, ◌∙◌, length, ap, arith}
use Rattle.farm_base.specs.declared.Value.{Value}
use Rattle.plain_filters.specs.Values.{compares}
use Rattle.plain_filters.specs.Filters.{tree_value}
use Rattle.filter_expr.specs.Looked.{Looked}
use Rattle.filter_expr.specs.Numbered.{name_at}
use Rattle.filter_expr.specs.inner.Shown.{plain}
use Rattle.filter_expr.proofs.Numbers.{value_there, value_past}
use Rattle.filter_expr.proofs.names.NamedValues.compares.Goals as goal

pub returns-then-number-len : goal.returns-then-number-len
returns-then-number-len c =
    let within : c.args.number < length c.self.inside.values.items = omega (arith, c.if-number-len.true, c.len.ensures) in
    c.compares_there.ensures
    ∙ ap (λ (v : Value). compares c.args.sign v (plain c.args.w.now))
    (value_there (λ m. m.now) c.self.inside.attrs.now c.self.inside.names.items c.self.inside.values.items c.args.number c.index.result.now c.self.invariant within c.index.ensures
    ∙ ap (λ (k : Looked). tree_value k.attrs (name_at k.names c.args.number)) c.self.view_is)

pub returns-else-number-len : goal.returns-else-number-len
returns-else-number-len c =
    let past : length c.self.inside.values.items ≤ c.args.number = omega (arith, c.if-number-len.false, c.len.ensures) in
    c.compares_there-else-number-len.ensures
    ∙ ap (λ (v : Value). compares c.args.sign v (plain c.args.w.now))
    (value_past (λ m. m.now) c.self.inside.attrs.now c.self.inside.names.items c.self.inside.values.items c.args.number c.self.invariant past
    ∙ ap (λ (k : Looked). tree_value k.attrs (name_at k.names c.args.number)) c.self.view_is)
