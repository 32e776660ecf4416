-- There is one reading of texts that says what the grammars say, and so one style for the bytes.
use Rattle.std.proofs.Common.{◌≡◌, ◌↔◌, ℕ, List, ◌⊎◌, inl, inr, refl, sym, ◌∙◌, ap, subst}
use Rattle.std.specs.Prelude.{Option, Some, None, Result, Ok, Err}
use Rattle.std.proofs.lemmas.Option.{none-some}
use Rattle.plain_filters.specs.Filters.{FilterTree}
use Rattle.plain_drawing.specs.Styles.{MapStyle}
use Rattle.plain_image.specs.declared.reading.PpmFault.TheVariants.{Bad, TooLarge, NoMemory}
use Rattle.plain_image.specs.declared.reading.PpmFault.{PpmFault}
use Rattle.plain_shapes.specs.Images.{Pixels}
use Rattle.plain_image.specs.PpmText.{ppm_of}
use Rattle.filter_expr.specs.declared.faults.FilterFault.{FilterFault}
use Rattle.filter_expr.specs.Filters.{FilterOf, FaultOf}
use Rattle.filter_expr.proofs.Texts.{some_answer, says_filter, says_fault}
use Rattle.paint_texts.specs.Colours.{IsColour, colour_of}
use Rattle.paint_texts.specs.Decimals.{IsDecimal, hundredths_of, thousandths_of}
use Rattle.paint_texts.proofs.Exact.{colour_exact}
use Rattle.paint_texts.proofs.Grammar.{hundredths_exact, thousandths_exact}
use Rattle.plain_image.proofs.Whole.{says_images, says_too_large, says_bad, says_nothing_else}
use Rattle.reading.specs.Steps.{Gives}
use Rattle.style_objects.specs.declared.fault.StyleFault.{StyleFault}
use Rattle.style_objects.specs.declared.fault.StyleFault.TheVariants as fault
use Rattle.style_objects.specs.TextReadings.{TextReading, SaysGrammar, IsNone, IsPortion, text_reading}
use Rattle.style_objects.specs.Laws.{ReadsGrammar, OneStyle}
use Rattle.style_objects.specs.Tables.{style_by, style_in}

-- a text has a value or is of none, by a function that is exact for the grammar
decided : {A : Type 0} (Is : List ℕ → A → Type 0) (f : List ℕ → Option A) → ((text : List ℕ) (a : A) → (f text ≡ Some a) ↔ Is text a)
    → (text : List ℕ) → ((a : A) × Is text a) ⊎ IsNone Is text
decided {A = A} Is f exact text = go (f text) refl
  where
    go : (o : Option A) → f text ≡ o → ((a : A) × Is text a) ⊎ IsNone Is text
    go (Some a) e = inl (a, (exact text a).0 e)
    go None e = inr (λ a h. none-some a (sym e ∙ (exact text a).1 h))

-- where it is of none, the function has no value
none_of : {A : Type 0} (Is : List ℕ → A → Type 0) (f : List ℕ → Option A) → ((text : List ℕ) (a : A) → (f text ≡ Some a) ↔ Is text a)
    → (text : List ℕ) → IsNone Is text → f text ≡ None
none_of {A = A} Is f exact text never = go (f text) refl
  where
    go : (o : Option A) → f text ≡ o → f text ≡ None
    go (Some a) e = absurd (never a ((exact text a).0 e))
    go None e = e

pub reads_grammar : ReadsGrammar
reads_grammar = record {
  filter = says_filter;
  fault = says_fault;
  colour = λ text c h. (colour_exact text c).1 h;
  no_colour = none_of IsColour colour_of colour_exact;
  hundredths = λ text n h. (hundredths_exact text n).1 h;
  no_hundredths = none_of (IsDecimal 2) hundredths_of hundredths_exact;
  thousandths = λ text n h. (thousandths_exact text n).1 h;
  no_thousandths = none_of IsPortion thousandths_of thousandths_exact;
  picture = λ text image h. (says_images text image).1 h;
  too_large = λ text h. (says_too_large text).1 h;
  bad = λ text n h. (says_bad text n).1 h;
}

-- two functions that say so of each text that has a value and of each that has none agree
agree : {A : Type 0} (Is : List ℕ → A → Type 0) (f g : List ℕ → Option A) (text : List ℕ) → ((a : A) × Is text a) ⊎ IsNone Is text
    → ((a : A) → Is text a → f text ≡ Some a) → (IsNone Is text → f text ≡ None)
    → ((a : A) → Is text a → g text ≡ Some a) → (IsNone Is text → g text ≡ None) → f text ≡ g text
agree Is f g text (inl (a, h)) some none some' none' = some a h ∙ sym (some' a h)
agree Is f g text (inr never) some none some' none' = none never ∙ sym (none' never)

module _ (says also : TextReading) (g : SaysGrammar says) (h : SaysGrammar also) where
  filters : (text : List ℕ) → says.filter text ≡ also.filter text
  filters text = go (some_answer text)
    where
      go : ((t : FilterTree) × FilterOf text t) ⊎ ((f : FilterFault) × FaultOf text f) → says.filter text ≡ also.filter text
      go (inl a) = g.filter text a.0 a.1 ∙ sym (h.filter text a.0 a.1)
      go (inr a) = g.fault text a.0 a.1 ∙ sym (h.fault text a.0 a.1)

  colours : (text : List ℕ) → says.colour text ≡ also.colour text
  colours text = agree IsColour says.colour also.colour text (decided IsColour colour_of colour_exact text) (g.colour text) (g.no_colour text) (h.colour text) (h.no_colour text)

  hundredths : (text : List ℕ) → says.hundredths text ≡ also.hundredths text
  hundredths text = agree (IsDecimal 2) says.hundredths also.hundredths text (decided (IsDecimal 2) hundredths_of hundredths_exact text)
      (g.hundredths text) (g.no_hundredths text) (h.hundredths text) (h.no_hundredths text)

  thousandths : (text : List ℕ) → says.thousandths text ≡ also.thousandths text
  thousandths text = agree IsPortion says.thousandths also.thousandths text (decided IsPortion thousandths_of thousandths_exact text)
      (g.thousandths text) (g.no_thousandths text) (h.thousandths text) (h.no_thousandths text)

  pictures : (text : List ℕ) → says.picture text ≡ also.picture text
  pictures text = go (ppm_of text) refl
    where
      go : (r : Result Pixels PpmFault) → ppm_of text ≡ r → says.picture text ≡ also.picture text
      go (Ok image) e = let is = (says_images text image).0 e in g.picture text image is ∙ sym (h.picture text image is)
      go (Err (Bad n)) e = let is = (says_bad text n).0 e in g.bad text n is ∙ sym (h.bad text n is)
      go (Err TooLarge) e = let is = (says_too_large text).0 e in g.too_large text is ∙ sym (h.too_large text is)
      go (Err NoMemory) e = absurd (says_nothing_else text e)

  -- so the two are one
  pub one_reading : says ≡ also
  one_reading = λ i. record {
    filter = λ text. filters text i;
    colour = λ text. colours text i;
    hundredths = λ text. hundredths text i;
    thousandths = λ text. thousandths text i;
    picture = λ text. pictures text i;
  }

pub by_grammar : (says : TextReading) → SaysGrammar says → says ≡ text_reading
by_grammar says g = one_reading says text_reading g reads_grammar

pub one_style : OneStyle
one_style says g bytes = ap (λ read. style_by read bytes) (by_grammar says g)

pub gives_by_grammar : (r : Result MapStyle StyleFault) (bytes : List ℕ) → Gives fault.NoMemory (λ x. x) (style_in bytes) r
    → (says : TextReading) → SaysGrammar says → Gives fault.NoMemory (λ x. x) (style_by says bytes) r
gives_by_grammar r bytes h says g = subst (λ said. Gives fault.NoMemory (λ x. x) said r) (sym (one_style says g bytes)) h
