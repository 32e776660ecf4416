use Rattle.std.proofs.Common.{◌≡◌, ◌+◌, ◌-◌, eqb, length, take, drop, sym, ◌∙◌, rules, tests, arith}
use Rattle.std.proofs.lemmas.Iterator.{YieldsList-from_slice}
use Rattle.std.proofs.lemmas.Iterator.Search.{position_from_yields_List}
use Rattle.farm_base.proofs.CutTexts.{place, lines_at, lines_one, found_at, found_none, all_behind, behind_at, behind_none}
use Rattle.farm_base.proofs.cuts.first_line.Goals as goal

pub returns-in-Some-clause-some : goal.returns-in-Some-clause-some
returns-in-Some-clause-some c =
    let bytes = c.args.bytes.now in
    let found : c.position.result ≡ place bytes = position_from_yields_List (λ b. eqb b 10) _ _ _ c.position.ensures.ran (YieldsList-from_slice bytes cc) (λ x b q k. search (rules, tests)) in
    let at = found_at bytes c.in-Some.end (sym found ∙ c.in-Some.is) in
    let behind : take (length bytes - (c.in-Some.end + 1)) (drop (c.in-Some.end + 1) bytes) ≡ drop (c.in-Some.end + 1) bytes =
    all_behind bytes (c.in-Some.end + 1) (omega (arith, at.1)) in
    rw (c.without_return.ensures, behind) (lines_at bytes c.in-Some.end at.0 at.1)

pub returns-in-Some-clause-behind : goal.returns-in-Some-clause-behind
returns-in-Some-clause-behind c =
    let bytes = c.args.bytes.now in
    let found : c.position.result ≡ place bytes = position_from_yields_List (λ b. eqb b 10) _ _ _ c.position.ensures.ran (YieldsList-from_slice bytes cc) (λ x b q k. search (rules, tests)) in
    let at = found_at bytes c.in-Some.end (sym found ∙ c.in-Some.is) in
    all_behind bytes (c.in-Some.end + 1) (omega (arith, at.1)) ∙ behind_at bytes c.in-Some.end at.0

pub returns-in-None-clause-some : goal.returns-in-None-clause-some
returns-in-None-clause-some c =
    let bytes = c.args.bytes.now in
    let found : c.position.result ≡ place bytes = position_from_yields_List (λ b. eqb b 10) _ _ _ c.position.ensures.ran (YieldsList-from_slice bytes cc) (λ x b q k. search (rules, tests)) in
    lines_one bytes (search rules) (found_none bytes (sym found ∙ c.in-None.is))

pub returns-in-None-clause-behind : goal.returns-in-None-clause-behind
returns-in-None-clause-behind c =
    let bytes = c.args.bytes.now in
    let found : c.position.result ≡ place bytes = position_from_yields_List (λ b. eqb b 10) _ _ _ c.position.ensures.ran (YieldsList-from_slice bytes cc) (λ x b q k. search (rules, tests)) in
    behind_none bytes (found_none bytes (sym found ∙ c.in-None.is))
