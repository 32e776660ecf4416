use Rattle.std.proofs.Common.{◌≡◌, sym, ◌∙◌, rules, tests, arith}
use Rattle.std.proofs.lemmas.Bool.{false≢true}
use Rattle.std.proofs.lemmas.Iterator.Splits.{YieldsList-from_str_split}
use Rattle.std.proofs.lemmas.Iterator.Search.{all_from_yields_List}
use Rattle.tile_store.specs.Files.{is_part, is_own_path}
use Rattle.tile_store.proofs.files.name_of.Goals as goal
use Rattle.tile_store.proofs.files.name_of.Goals.{After-all}

own : (c : After-all) → c.all.result ≡ is_own_path c.args.path.now
own c = all_from_yields_List is_part _ _ c.all.result c.all.ensures.ran
    (YieldsList-from_str_split 47 c.args.path.now (omega arith) c.split.ensures.text c.split.ensures.has_more c.split.ensures.pattern)
    (λ x b q k. search (rules, tests))

pub returns-in_err-format : goal.returns-in_err-format
returns-in_err-format c = λ no. absurd (false≢true (sym no ∙ sym (own (goal.at.returns-in_err-format c).After-all) ∙ c.if-not-all.false))

pub returns : goal.returns
returns c = λ no. absurd (false≢true (sym no ∙ sym (own (goal.at.returns c).After-all) ∙ c.if-not-all.false))
