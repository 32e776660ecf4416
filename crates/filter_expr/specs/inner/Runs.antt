-- Bytes of one sort that stand together. Words of inner contracts.
use Rattle.std.specs.Prelude.{ℕ, Bool, not, ◌==◌}
use Rattle.filter_expr.specs.declared.lexer.Run.{Run}
use Rattle.filter_expr.specs.declared.lexer.Run.TheVariants.{Digits, Word, Name, Plain}
use Rattle.farm_base.specs.Digits.{is_digit}
use Rattle.filter_expr.specs.Spelling.{is_word_byte, is_attribute_byte}

-- every byte but the backslash
abbrev pub is_plain_byte : ℕ → Bool
is_plain_byte b = not (b == 92)

-- the bytes of which a run of each kind is made
abbrev pub run_test : Run → ℕ → Bool
run_test Digits = is_digit
run_test Word = is_word_byte
run_test Name = is_attribute_byte
run_test Plain = is_plain_byte
