use Rattle.std.proofs.Common.{sym, ◌∙◌, rules, tests}
use Rattle.std.specs.Str.{bytes_eq}
use Rattle.std.proofs.lemmas.Iterator.{YieldsList-from_slice}
use Rattle.std.proofs.lemmas.Iterator.Search.{position_from_yields_List}
use Rattle.farm_shared.proofs.Names.{named}
use Rattle.farm_shared.proofs.shared.SharedFarm.map_of.Goals as goal

pub returns-in_err-place : goal.returns-in_err-place
returns-in_err-place g c =
    let found = position_from_yields_List (λ n. bytes_eq n c.args.name.now) _ _ c.position.result c.position.ensures.ran (YieldsList-from_slice c.as_slice-names.result.now cc) (λ x b q k. search (rules, tests)) in
    c.from_residual.ensures ∙ (sym c.in_err-place.was ∙ rw (← c.self.view_is) (named _ _ _ _ _ c.self.invariant c.as_slice-names.ensures.value found))

pub returns : goal.returns
returns g c =
    let found = position_from_yields_List (λ n. bytes_eq n c.args.name.now) _ _ c.position.result c.position.ensures.ran (YieldsList-from_slice c.as_slice-names.result.now cc) (λ x b q k. search (rules, tests)) in
    sym c.in_ok-place.was ∙ rw (← c.self.view_is) (named _ _ _ _ _ c.self.invariant c.as_slice-names.ensures.value found)
