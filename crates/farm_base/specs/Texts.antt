-- Texts, which are kept in themselves where they are short.
use Rattle.std.specs.Prelude.{ℕ, List, string_bytes}
use Rattle.farm_base.specs.declared.texts.Kept.{Kept}
use Rattle.farm_base.specs.declared.texts.Kept.TheVariants.{Here, Apart}

-- the bytes of a text
abbrev pub bytes_kept : Kept → List ℕ
bytes_kept (Here text) = text.bytes
bytes_kept (Apart text) = string_bytes text
