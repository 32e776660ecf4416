-- What holds of styles by the grammars of their texts.
use Rattle.std.specs.Prelude.{◌≡◌, ℕ, List}
use Rattle.style_objects.specs.TextReadings.{TextReading, SaysGrammar, text_reading}
use Rattle.style_objects.specs.Tables.{style_by, style_in}

-- the functions that go over a text say what the grammars say
abbrev pub ReadsGrammar : Type 0
ReadsGrammar = SaysGrammar text_reading

-- by each reading that says what the grammars say, the bytes of a style say the same
abbrev pub OneStyle : Type 0
OneStyle = (says : TextReading) → SaysGrammar says → (bytes : List ℕ)
    → style_by says bytes ≡ style_in bytes
