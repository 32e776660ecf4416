use Rattle.std.proofs.Common.{◌≡◌, ◌≤◌, ◌+◌, ◌++◌, [], drop, length, get_or, false, true, rules, arith, sym, ap, ◌∙◌, append_assoc}
use Rattle.filter_expr.specs.declared.tokens.Token.TheVariants as token
use Rattle.filter_expr.specs.Signs.{is_unknown}
use Rattle.filter_expr.specs.Spelling.{is_blank}
use Rattle.filter_expr.specs.Lexing.{Taken, token_at, tokens_from}
use Rattle.filter_expr.proofs.Lexes.{placed_then, lexed_blank, lexed_unknown, lexed_token, lexed_end, token_least, token_most, unknown_is}
use Rattle.filter_expr.proofs.lexer.tokens.Goals as goal

pub tokens-preserved-then-is_blank : goal.tokens-preserved-then-is_blank
tokens-preserved-then-is_blank c = record {
  read =
      let blank : is_blank (get_or c.as_bytes-bytes.result.now c.tokens.at 0) ≡ true = search rules in
      ap (λ l. c.tokens.stream.items ++ l) (sym (lexed_blank c.as_bytes-bytes.result.now c.tokens.at c.tokens-test.true blank)) ∙ c.tokens.invariant.read;
  within = omega (arith, c.tokens-test.true);
}

pub returns-then-unknown : goal.returns-then-unknown
returns-then-unknown c =
    let solid : is_blank (get_or c.as_bytes-bytes.result.now c.tokens.at 0) ≡ false = search rules in
    let taken : ◌≡◌ {A = Taken} (c.in_ok-token.token, c.in_ok-token.count) (token_at (drop c.tokens.at c.as_bytes-bytes.result.now)) = search rules in
    let unknown : is_unknown c.in_ok-token.token ≡ true = search rules in
    let made : c.of.result ≡ c.tokens.stream.items ++ placed_then c.in_ok-token.token c.tokens.at [] = search rules in
    made ∙ ap (λ t. c.tokens.stream.items ++ placed_then t c.tokens.at []) (unknown_is c.in_ok-token.token unknown)
    ∙ ap (λ l. c.tokens.stream.items ++ l) (sym (lexed_unknown c.as_bytes-bytes.result.now c.tokens.at c.tokens-test.true solid c.in_ok-token.token c.in_ok-token.count taken unknown))
    ∙ c.tokens.invariant.read ∙ ap (λ l. tokens_from 0 0 l) c.as_bytes-bytes.ensures.value

pub overflow_add-at-in-tokens : goal.overflow_add-at-in-tokens
overflow_add-at-in-tokens c =
    let solid : is_blank (get_or c.as_bytes-bytes.result.now c.tokens.at 0) ≡ false = search rules in
    let taken : ◌≡◌ {A = Taken} (c.in_ok-token.token, c.in_ok-token.count) (token_at (drop c.tokens.at c.as_bytes-bytes.result.now)) = search rules in
    let most : c.tokens.at + c.in_ok-token.count ≤ length c.as_bytes-bytes.result.now = token_most c.as_bytes-bytes.result.now c.tokens.at c.tokens-test.true solid c.in_ok-token.token c.in_ok-token.count taken in
    search rules

pub tokens-smaller : goal.tokens-smaller
tokens-smaller c =
    let solid : is_blank (get_or c.as_bytes-bytes.result.now c.tokens.at 0) ≡ false = search rules in
    let taken : ◌≡◌ {A = Taken} (c.in_ok-token.token, c.in_ok-token.count) (token_at (drop c.tokens.at c.as_bytes-bytes.result.now)) = search rules in
    let least = token_least c.as_bytes-bytes.result.now c.tokens.at c.tokens-test.true solid c.in_ok-token.token c.in_ok-token.count taken in
    omega (arith, least, c.tokens-test.true)

pub tokens-preserved : goal.tokens-preserved
tokens-preserved c =
    let solid : is_blank (get_or c.as_bytes-bytes.result.now c.tokens.at 0) ≡ false = search rules in
    let taken : ◌≡◌ {A = Taken} (c.in_ok-token.token, c.in_ok-token.count) (token_at (drop c.tokens.at c.as_bytes-bytes.result.now)) = search rules in
    let known : is_unknown c.in_ok-token.token ≡ false = search rules in
    let made : c.push_back.new.self.items ≡ c.tokens.stream.items ++ placed_then c.in_ok-token.token c.tokens.at [] = search rules in
    record {
      read =
          ap (λ l. l ++ tokens_from (c.tokens.at + c.in_ok-token.count) 0 (drop (c.tokens.at + c.in_ok-token.count) c.as_bytes-bytes.result.now)) made
          ∙ append_assoc c.tokens.stream.items (placed_then c.in_ok-token.token c.tokens.at []) (tokens_from (c.tokens.at + c.in_ok-token.count) 0 (drop (c.tokens.at + c.in_ok-token.count) c.as_bytes-bytes.result.now))
          ∙ ap (λ l. c.tokens.stream.items ++ l) (sym (lexed_token c.as_bytes-bytes.result.now c.tokens.at c.tokens-test.true solid c.in_ok-token.token c.in_ok-token.count taken known))
          ∙ c.tokens.invariant.read;
      within = token_most c.as_bytes-bytes.result.now c.tokens.at c.tokens-test.true solid c.in_ok-token.token c.in_ok-token.count taken;
    }

pub returns : goal.returns
returns c =
    let ended : c.tokens.at ≡ length c.as_bytes-bytes.result.now = omega (arith, c.tokens-test.false, c.tokens.invariant.within) in
    let made : c.of-2.result ≡ c.tokens.stream.items ++ placed_then token.End c.tokens.at [] = search rules in
    made ∙ ap (λ l. c.tokens.stream.items ++ l) (sym (lexed_end c.as_bytes-bytes.result.now c.tokens.at ended))
    ∙ c.tokens.invariant.read ∙ ap (λ l. tokens_from 0 0 l) c.as_bytes-bytes.ensures.value
