-- One step of the loop that reads the lines of a text.
use Rattle.std.proofs.Common.{◌≡◌, ℕ, ◌+◌, ◌<◌, ◌≤◌, List, [], ◌∷◌, ◌++◌, true, false, leb, Option, None, Result, Ok, Err, refl, sym, ap, ◌∙◌, subst, append-nil, arith}
use Rattle.std.specs.Prelude.{option_to_list}
use Rattle.std.specs.Str.{is_utf8, IsUtf8}
use Rattle.std.specs.Str.Lines.{lines}
use Rattle.std.proofs.lemmas.Bool.{false_from_ne_true}
use Rattle.std.proofs.lemmas.Bool.Decides.{nat_tests}
use Rattle.std.proofs.lemmas.Str.{IsUtf8-from_is_utf8, is_utf8-from_IsUtf8}
use Rattle.reading.specs.Lines.{line_text, items_after}
use Rattle.reading.specs.Steps.{◌>>=◌}

-- ---- a line's text

pub text_known : {E : Type 0} (fault : E) (line : List ℕ) → IsUtf8 line → line_text fault line ≡ Ok line
unfolding line_text
text_known fault line is = rw (is_utf8-from_IsUtf8 line is) refl

pub text_unknown : {E : Type 0} (fault : E) (line : List ℕ) → (IsUtf8 line → ⊥) → line_text fault line ≡ Err fault
unfolding line_text
text_unknown fault line other = rw (false_from_ne_true (is_utf8 line) (λ e. other (IsUtf8-from_is_utf8 line e))) refl

-- ---- the lines that are left

-- a line within the limit is read, and then those behind it
step : {T E : Type 0} (read : E → List ℕ → Result (Option T) E) (fault : ℕ → E) (number : ℕ) (before : List T) (line : List ℕ) (rest : List (List ℕ)) → number ≤ 1000000
    → items_after read fault number before (line ∷ rest) ≡ (read (fault number) line >>= λ item. items_after read fault (number + 1) (before ++ option_to_list item) rest)
unfolding items_after
step read fault number before line rest h = let t : leb number 1000000 ≡ true = grind (arith, nat_tests) in rw t refl

-- a line was read
pub items_more : {T E : Type 0} (read : E → List ℕ → Result (Option T) E) (fault : ℕ → E) (number next : ℕ) (before : List T) (text line behind : List ℕ) (item : Option T) (all : Result (List T) E)
    → items_after read fault number before (lines text) ≡ all → next ≡ number + 1 → number ≤ 1000000 → lines text ≡ line ∷ lines behind → read (fault number) line ≡ Ok item
    → items_after read fault next (before ++ option_to_list item) (lines behind) ≡ all
items_more {T} {E} read fault number next before text line behind item all is n h e r =
    let start : items_after read fault number before (line ∷ lines behind) ≡ all = rw e at is in
    let here : items_after read fault number before (line ∷ lines behind) ≡ items_after read fault (number + 1) (before ++ option_to_list item) (lines behind) =
    step read fault number before line (lines behind) h ∙ ap (λ (x : Result (Option T) E). x >>= λ l. items_after read fault (number + 1) (before ++ option_to_list l) (lines behind)) r in
    rw n (sym here ∙ start)

-- a line said nothing
pub items_skipped : {T E : Type 0} (read : E → List ℕ → Result (Option T) E) (fault : ℕ → E) (number next : ℕ) (before : List T) (text line behind : List ℕ) (all : Result (List T) E)
    → items_after read fault number before (lines text) ≡ all → next ≡ number + 1 → number ≤ 1000000 → lines text ≡ line ∷ lines behind → read (fault number) line ≡ Ok None
    → items_after read fault next before (lines behind) ≡ all
items_skipped {T} read fault number next before text line behind all is n h e r =
    subst (λ (xs : List T). items_after read fault next xs (lines behind) ≡ all) (append-nil before) (items_more read fault number next before text line behind None all is n h e r)

-- a line was refused
pub items_refused : {T E : Type 0} (read : E → List ℕ → Result (Option T) E) (fault : ℕ → E) (number : ℕ) (before : List T) (text line behind : List ℕ) (why : E) (all : Result (List T) E)
    → items_after read fault number before (lines text) ≡ all → number ≤ 1000000 → lines text ≡ line ∷ lines behind → read (fault number) line ≡ Err why → all ≡ Err why
items_refused {T} {E} read fault number before text line behind why all is h e r =
    let start : items_after read fault number before (line ∷ lines behind) ≡ all = rw e at is in
    sym start ∙ step read fault number before line (lines behind) h ∙ ap (λ (x : Result (Option T) E). x >>= λ l. items_after read fault (number + 1) (before ++ option_to_list l) (lines behind)) r

-- there is a line after the last that may be
pub items_beyond : {T E : Type 0} (read : E → List ℕ → Result (Option T) E) (fault : ℕ → E) (number : ℕ) (before : List T) (text line behind : List ℕ) (all : Result (List T) E)
    → items_after read fault number before (lines text) ≡ all → 1000000 < number → lines text ≡ line ∷ lines behind → all ≡ Err (fault number)
unfolding items_after
items_beyond read fault number before text line behind all is h e =
    let start : items_after read fault number before (line ∷ lines behind) ≡ all = rw e at is in
    let t : leb number 1000000 ≡ false = grind (arith, nat_tests) in sym start ∙ rw t refl

-- no line is left
pub items_end : {T E : Type 0} (read : E → List ℕ → Result (Option T) E) (fault : ℕ → E) (number : ℕ) (before : List T) (text : List ℕ) (all : Result (List T) E)
    → items_after read fault number before (lines text) ≡ all → lines text ≡ [] → all ≡ Ok before
unfolding items_after
items_end read fault number before text all is e = let start : items_after read fault number before [] ≡ all = rw e at is in sym start
