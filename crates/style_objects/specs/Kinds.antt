-- The kinds of values in a style text. A value of the wrong kind is Shape, a text outside its
-- grammar or set is Text, a number outside its range is Range, at the object that holds it.
use Rattle.std.specs.Prelude.{ℕ, ◌^◌, Bool, true, false, if◌then◌else◌, List, codes, Option, Some, None, Result, Ok, Err}
use Rattle.std.specs.Option.{ok_or}
use Rattle.std.specs.Result.{result_map_both}
use Rattle.std.specs.Str.{bytes_eq}
use Rattle.serde_json.specs.Data.{Data, boolean, number, object}
use Rattle.plain_shapes.specs.declared.shapes.LineCap.{LineCap}
use Rattle.plain_shapes.specs.declared.shapes.LineCap.TheVariants as cap
use Rattle.plain_drawing.specs.declared.style.FilterMode.{FilterMode}
use Rattle.plain_drawing.specs.declared.style.FilterMode.TheVariants as mode
use Rattle.plain_filters.specs.Filters.{FilterTree}
use Rattle.plain_drawing.specs.Styles.{is_text_to, is_width}
use Rattle.reading.specs.Steps.{◌>>=◌, check}
use Rattle.reading.specs.Values.{text, whole_number}
use Rattle.style_objects.specs.declared.fault.At.{At}
use Rattle.style_objects.specs.declared.fault.StyleFault.{StyleFault}
use Rattle.style_objects.specs.declared.fault.StyleFault.TheVariants as fault
use Rattle.style_objects.specs.TextReadings.{TextReading}

-- a text that some grammar gives a value
abbrev pub in_grammar : {A : Type 0} → (List ℕ → Option A) → At → Data → Result A StyleFault
in_grammar value at d = text (fault.Shape at) d >>= λ s. ok_or (value s) (fault.Text at)

-- a greatest scale denominator, in hundredths, where there is one
unfoldable pub a_bound : TextReading → At → Data → Result (Option ℕ) StyleFault
a_bound says at d = in_grammar says.hundredths at d >>= λ n. Ok (Some n)

-- a width or height of 0.01 to 64 pixels, in hundredths
unfoldable pub a_width : TextReading → At → Data → Result ℕ StyleFault
a_width says at d =
    in_grammar says.hundredths at d >>= λ n. if is_width n then Ok n else Err (fault.Range at)

-- a text of 1 to so many bytes
unfoldable pub a_text_to : ℕ → At → Data → Result (List ℕ) StyleFault
a_text_to limit at d =
    text (fault.Shape at) d >>= λ s. if is_text_to limit s then Ok s else Err (fault.Text at)

-- any text, which has no effect
unfoldable pub any_text : At → Data → Result (Unit {0}) StyleFault
any_text at d = text (fault.Shape at) d >>= λ s. Ok tt

-- the filter mode of a text, `all` or `first`
abbrev pub mode_of : List ℕ → Option FilterMode
mode_of s = if bytes_eq s (codes "all") then Some mode.All else if bytes_eq s (codes "first")
    then Some mode.First else None

-- the line cap of a text, `butt`, `round` or `square`
abbrev pub cap_of : List ℕ → Option LineCap
cap_of s = if bytes_eq s (codes "butt") then Some cap.Butt else if bytes_eq s (codes "round")
    then Some cap.Round else
    if bytes_eq s (codes "square") then Some cap.Square else None

-- a whole number of a raster, from this least one to 2^30
unfoldable pub a_number : ℕ → At → Data → Result ℕ StyleFault
a_number low at d = whole_number (fault.Shape at) (fault.Range at) low (2 ^ 30) d

-- a filter, as its text is read, or the fault of that text
unfoldable pub a_filter : TextReading → At → Data → Result (Option FilterTree) StyleFault
a_filter says at d = text (fault.Shape at)
    d >>= λ s. result_map_both (λ t. Some t) (λ f. fault.Filter at f) (says.filter s)

-- the JSON value true
abbrev pub is_true : Data → Bool
is_true (boolean b) = b
is_true _ = false

-- the value of ElseFilter, which has to be true, in a rule that has no Filter
unfoldable pub an_else : Bool → At → Data → Result Bool StyleFault
an_else has_filter at d =
    check (is_true d) (fault.Shape at) >>= λ u. if has_filter then Err (fault.Shape at) else Ok true
