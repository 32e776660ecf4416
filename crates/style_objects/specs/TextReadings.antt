-- Readings of the texts that stand in a style and in the files that it names, as their grammars
-- have them.
use Rattle.std.specs.Prelude.{◌≡◌, ◌≤◌, ℕ, List, Option, Some, None, Result, Ok, Err}
use Rattle.plain_shapes.specs.declared.colour.Colour.{Colour}
use Rattle.plain_shapes.specs.Images.{Pixels}
use Rattle.plain_filters.specs.Filters.{FilterTree}
use Rattle.filter_expr.specs.declared.faults.FilterFault.{FilterFault}
use Rattle.filter_expr.specs.Filters.{FilterOf, FaultOf}
use Rattle.filter_expr.specs.FilterTexts.{filter_of}
use Rattle.paint_texts.specs.Colours.{IsColour, colour_of}
use Rattle.paint_texts.specs.Decimals.{IsDecimal, hundredths_of, thousandths_of}
use Rattle.plain_image.specs.declared.reading.PpmFault.{PpmFault}
use Rattle.plain_image.specs.declared.reading.PpmFault.TheVariants.{Bad, TooLarge}
use Rattle.plain_image.specs.PpmText.{ppm_of}
use Rattle.plain_image.specs.PpmGrammar.{IsPpm, IsBadAt, IsTooLarge}

-- What each text is: as a filter, its tree or its first fault; as a colour; as a number of
-- hundredths, or of thousandths up to 1; and as a picture, its pixels or its first fault.
pub record TextReading : Type 0 where
  pub filter : List ℕ → Result FilterTree FilterFault
  pub colour : List ℕ → Option Colour
  pub hundredths : List ℕ → Option ℕ
  pub thousandths : List ℕ → Option ℕ
  pub picture : List ℕ → Result Pixels PpmFault

-- the text is no such text of any value
abbrev pub IsNone : {A : Type 0} → (List ℕ → A → Type 0) → List ℕ → Type 0
IsNone {A} Is text = (a : A) → ¬ (Is text a)

-- a number of thousandths up to 1
abbrev pub IsPortion : List ℕ → ℕ → Type 0
IsPortion text n = IsDecimal 3 text n × (n ≤ 1000)

-- The reading says what the grammars say. Each text has one value by a grammar, or one first fault,
-- or is none of its texts, so there is one such reading and no other.
pub record SaysGrammar (says : TextReading) : Type 0 where
  pub filter : (text : List ℕ) (t : FilterTree) → FilterOf text t → says.filter text ≡ Ok t
  pub fault : (text : List ℕ) (f : FilterFault) → FaultOf text f → says.filter text ≡ Err f
  pub colour : (text : List ℕ) (c : Colour) → IsColour text c → says.colour text ≡ Some c
  pub no_colour : (text : List ℕ) → IsNone IsColour text → says.colour text ≡ None
  pub hundredths : (text : List ℕ) (n : ℕ) → IsDecimal 2 text n → says.hundredths text ≡ Some n
  pub no_hundredths : (text : List ℕ) → IsNone (IsDecimal 2) text → says.hundredths text ≡ None
  pub thousandths : (text : List ℕ) (n : ℕ) → IsPortion text n → says.thousandths text ≡ Some n
  pub no_thousandths : (text : List ℕ) → IsNone IsPortion text → says.thousandths text ≡ None
  pub picture : (text : List ℕ) (image : Pixels) → IsPpm text image → says.picture text ≡ Ok image
  pub too_large : (text : List ℕ) → IsTooLarge text → says.picture text ≡ Err TooLarge
  pub bad : (text : List ℕ) (n : ℕ) → IsBadAt text n → says.picture text ≡ Err (Bad n)

-- the reading by the functions that go over a text byte after byte
abbrev pub text_reading : TextReading
text_reading = record {
  filter = filter_of;
  colour = colour_of;
  hundredths = hundredths_of;
  thousandths = thousandths_of;
  picture = ppm_of;
}
