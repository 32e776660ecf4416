-- The value of a text, from what serde_json says of the bytes.
use Rattle.std.specs.Prelude.{◌≡◌, ℕ, Bool, true, false, cond, List, Some, None, refl}
use Rattle.std.specs.Str.{is_utf8, IsUtf8}
use Rattle.std.proofs.lemmas.Str.{IsUtf8-from_is_utf8, is_utf8-from_IsUtf8}
use Rattle.serde_json.specs.Data.{Data}
use Rattle.serde_json.specs.Read.{read}
use Rattle.reading.specs.Json.{json_of}

pub json_read : (bytes : List ℕ) (d : Data) → IsUtf8 bytes → read bytes ≡ Some d → json_of bytes ≡ Some d
unfolding json_of
json_read bytes d u e = rw (is_utf8-from_IsUtf8 bytes u, e) refl

pub json_refused : (bytes : List ℕ) → (IsUtf8 bytes → read bytes ≡ None) → json_of bytes ≡ None
unfolding json_of
json_refused bytes h = go (is_utf8 bytes) (λ u. h (IsUtf8-from_is_utf8 bytes u))
  where
    go : (b : Bool) → (b ≡ true → read bytes ≡ None) → cond b (read bytes) None ≡ None
    go true k = k refl
    go false k = refl
