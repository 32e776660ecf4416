-- Bytes that are UTF-8, and bytes that are not.
use Rattle.std.proofs.Common.{◌≡◌, ℕ, List, Some, None, refl}
use Rattle.std.specs.Str.{is_utf8, IsUtf8}
use Rattle.std.proofs.lemmas.Str.{IsUtf8-from_is_utf8, is_utf8-from_IsUtf8}
use Rattle.std.proofs.lemmas.Bool.{false_from_ne_true}
use Rattle.control_front.specs.Lines.{utf8_text}

pub text_known : (bytes : List ℕ) → IsUtf8 bytes → utf8_text bytes ≡ Some bytes
unfolding utf8_text
text_known bytes is = rw (is_utf8-from_IsUtf8 bytes is) refl

pub text_unknown : (bytes : List ℕ) → (IsUtf8 bytes → ⊥) → utf8_text bytes ≡ None
unfolding utf8_text
text_unknown bytes other = rw (false_from_ne_true (is_utf8 bytes) (λ e. other (IsUtf8-from_is_utf8 bytes e))) refl
