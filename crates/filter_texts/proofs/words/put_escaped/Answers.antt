use Rattle.std.proofs.Common.{rules, ◌≡◌, ◌++◌, ap, ◌∙◌, string_bytes, encode_utf8}
use Rattle.std.specs.Str.Iter.{chars_rest}
use Rattle.filter_texts.specs.Written.{escaped_text}
use Rattle.filter_texts.specs.inner.Pieces.{escaped_char}
use Rattle.filter_texts.proofs.Escapes.{escapes_go}
use Rattle.filter_texts.proofs.words.put_escaped.Goals as goal

pub loop-c-preserved : goal.loop-c-preserved
loop-c-preserved c =
    let next : chars_rest c.loop-c.c-iterator ≡ encode_utf8 c.in-Some.c ++ chars_rest c.next.new.self = search rules in
    let put : string_bytes c.put_char.new.out ≡ string_bytes c.loop-c.out ++ escaped_char c.in-Some.c = search rules in
    ap (λ l. l ++ escaped_text (chars_rest c.next.new.self)) put
    ∙ escapes_go (string_bytes c.loop-c.out) (chars_rest c.loop-c.c-iterator) (chars_rest c.next.new.self) c.args.text.now (string_bytes c.args.out.now) c.in-Some.c c.loop-c.invariant next
