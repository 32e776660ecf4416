use Rattle.std.proofs.Common.{◌≡◌, ◌++◌, string_bytes}
use Rattle.std.specs.Str.Iter.{chars_rest}
use Rattle.filter_texts.specs.Written.{escaped_text}
use Rattle.filter_texts.proofs.words.put_escaped.Given as goal

abbrev pub invariant-loop-c : goal.invariant-loop-c
invariant-loop-c l = string_bytes l.out ++ escaped_text (chars_rest l.c-iterator) ≡ string_bytes l.initial.out ++ escaped_text l.text
