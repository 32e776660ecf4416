use Rattle.std.proofs.Common.{◌≡◌, ◌+◌, ◌∙◌, ap, sym, drop, get_or, arith}
use Rattle.std.proofs.lemmas.Result.{IfOk-weaker}
use Rattle.filter_expr.specs.Lexing.{name_token_at, quoted_at, sign_at, token_at}
use Rattle.filter_expr.proofs.Firsts.{digit_first, letter_first, bracket_first, quote_first, sign_first}
use Rattle.filter_expr.proofs.lexer.token_at.Goals as goal

pub returns-then-is_digit : goal.returns-then-is_digit
returns-then-is_digit c =
    let bytes = c.as_bytes-bytes.result.now in
    c.number_token_at.ensures ∙ digit_first bytes c.args.at (omega (arith, c.requires, c.as_bytes-bytes.ensures.len)) (sym c.is_digit.ensures ∙ c.if-is_digit.true)
    ∙ ap (λ l. token_at (drop c.args.at l)) c.as_bytes-bytes.ensures.value

pub returns-then-is_letter : goal.returns-then-is_letter
returns-then-is_letter c =
    let bytes = c.as_bytes-bytes.result.now in
    c.word_at.ensures
    ∙ letter_first bytes c.args.at (omega (arith, c.requires, c.as_bytes-bytes.ensures.len)) (sym c.is_digit.ensures ∙ c.if-is_digit.false) (sym c.is_letter.ensures ∙ c.if-is_letter.true)
    ∙ ap (λ l. token_at (drop c.args.at l)) c.as_bytes-bytes.ensures.value

pub returns-then-first-eq91 : goal.returns-then-first-eq91
returns-then-first-eq91 c =
    let bytes = c.as_bytes-bytes.result.now in
    IfOk-weaker c.name_token_at.result (λ r. r ≡ name_token_at c.range_from.result.now) (λ r. r ≡ token_at (drop c.args.at c.args.text.now))
    (λ r e. e ∙ ap name_token_at (c.range_from.ensures.value ∙ ap (drop (c.args.at + 1)) (sym c.as_bytes-bytes.ensures.value))
    ∙ bracket_first bytes c.args.at (omega (arith, c.requires, c.as_bytes-bytes.ensures.len)) (sym c.is_digit.ensures ∙ c.if-is_digit.false)
    (sym c.is_letter.ensures ∙ c.if-is_letter.false) c.if-first-eq91.true
    ∙ ap (λ l. token_at (drop c.args.at l)) c.as_bytes-bytes.ensures.value)
    c.name_token_at.ensures

pub returns-then-is_quote : goal.returns-then-is_quote
returns-then-is_quote c =
    let bytes = c.as_bytes-bytes.result.now in
    let b = get_or bytes c.args.at 0 in
    IfOk-weaker c.quoted_at.result (λ r. r ≡ quoted_at b c.range_from-then-is_quote.result.now) (λ r. r ≡ token_at (drop c.args.at c.args.text.now))
    (λ r e. e ∙ ap (quoted_at b) (c.range_from-then-is_quote.ensures.value ∙ ap (drop (c.args.at + 1)) (sym c.as_bytes-bytes.ensures.value))
    ∙ quote_first bytes c.args.at (omega (arith, c.requires, c.as_bytes-bytes.ensures.len)) (sym c.is_digit.ensures ∙ c.if-is_digit.false)
    (sym c.is_letter.ensures ∙ c.if-is_letter.false) c.if-first-eq91.false (sym c.is_quote.ensures ∙ c.if-is_quote.true)
    ∙ ap (λ l. token_at (drop c.args.at l)) c.as_bytes-bytes.ensures.value)
    c.quoted_at.ensures

pub returns : goal.returns
returns c =
    let bytes = c.as_bytes-bytes.result.now in
    let b = get_or bytes c.args.at 0 in
    c.sign_at.ensures.sign ∙ ap (sign_at b) c.byte_at.ensures
    ∙ sign_first bytes c.args.at (omega (arith, c.requires, c.as_bytes-bytes.ensures.len)) (sym c.is_digit.ensures ∙ c.if-is_digit.false)
    (sym c.is_letter.ensures ∙ c.if-is_letter.false) c.if-first-eq91.false (sym c.is_quote.ensures ∙ c.if-is_quote.false)
    ∙ ap (λ l. token_at (drop c.args.at l)) c.as_bytes-bytes.ensures.value
