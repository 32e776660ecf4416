-- Cuts and lines.
use Rattle.std.proofs.Common.{◌≡◌, ℕ, suc, ◌+◌, ◌-◌, ◌<◌, ◌≤◌, List, [], ◌∷◌, length, take, drop, Bool, true, false, eqb, ltb, cond, Option, Some, None, refl, sym, ap, ◌∙◌, arith}
use Rattle.std.specs.Prelude.{option_map}
use Rattle.std.specs.Borrow.{Bor}
use Rattle.std.specs.List.{slice_split, position_or_len, before_first, after_first}
use Rattle.std.specs.Str.Lines.{lines, lines_of_parts, strip_carriage_return}
use Rattle.std.proofs.lemmas.Str.Pattern.{IsSplitOnceResult, split_once_first}
use Rattle.std.proofs.lemmas.List.Splits.{slice_split_first, length-slice_split}
use Rattle.std.proofs.lemmas.List.{take_all, drop_all, length-drop}
use Rattle.std.proofs.lemmas.Bool.Decides.{nat_tests}
use Rattle.std.proofs.lemmas.Option.{cond_some}
use Rattle.farm_base.specs.Cuts.{cut_at}

cut_none : (byte : ℕ) (text : List ℕ) → position_or_len (λ b. eqb b byte) text ≡ length text → None ≡ cut_at byte text
unfolding cut_at
cut_none byte text e = let t : ltb (position_or_len (λ b. eqb b byte) text) (length text) ≡ false = grind (arith, nat_tests) in rw t refl

cut_some : (byte : ℕ) (text xs ys : List ℕ) → position_or_len (λ b. eqb b byte) text < length text → xs ≡ before_first (λ b. eqb b byte) text
    → ys ≡ after_first (λ b. eqb b byte) text → Some (xs, ys) ≡ cut_at byte text
unfolding cut_at
cut_some byte text xs ys l e f =
    let t : ltb (position_or_len (λ b. eqb b byte) text) (length text) ≡ true = grind (arith, nat_tests) in rw (t, e, f) refl

-- what `split_once` answers is the cut
pub cut_known : (byte : ℕ) (text : List ℕ) (r : Option (Bor (List ℕ) × Bor (List ℕ))) → IsSplitOnceResult byte text r → byte < 128
    → option_map (λ p. (p.0.now, p.1.now)) r ≡ cut_at byte text
cut_known byte text None is low = cut_none byte text (split_once_first byte text None is low)
cut_known byte text (Some p) is low =
    let parts = split_once_first byte text (Some p) is low in cut_some byte text p.0.now p.1.now parts.0 parts.1 parts.2

-- a part before others is a line, less its carriage return
line_first : (x : List ℕ) (parts : List (List ℕ)) → 0 < length parts → lines_of_parts (x ∷ parts) ≡ strip_carriage_return x ∷ lines_of_parts parts
line_first x [] some = absurd (omega arith)
line_first x (y ∷ more) some = refl

-- the first line ends at the first newline
pub lines_at : (bytes : List ℕ) (end : ℕ) → position_or_len (λ b. eqb b 10) bytes ≡ end → end < length bytes
    → lines bytes ≡ strip_carriage_return (take end bytes) ∷ lines (drop (end + 1) bytes)
lines_at bytes end is l =
    let at : position_or_len (λ b. eqb b 10) bytes < length bytes = omega arith in
    let cut : slice_split (λ b. eqb b 10) bytes ≡ before_first (λ b. eqb b 10) bytes ∷ slice_split (λ b. eqb b 10) (after_first (λ b. eqb b 10) bytes) =
    slice_split_first (λ b. eqb b 10) bytes 0 at in
    let some : 0 < length (slice_split (λ b. eqb b 10) (drop (end + 1) bytes)) = omega (arith, length-slice_split (λ b. eqb b 10) (drop (end + 1) bytes)) in
    ap lines_of_parts cut ∙ ap (λ e. lines_of_parts (take e bytes ∷ slice_split (λ b. eqb b 10) (drop (e + 1) bytes))) is
    ∙ line_first (take end bytes) (slice_split (λ b. eqb b 10) (drop (end + 1) bytes)) some

-- with no newline there is one part
one_more : (b : ℕ) (bytes : List ℕ) (newline : Bool) → eqb b 10 ≡ newline → length (b ∷ bytes) ≤ position_or_len (λ b. eqb b 10) (b ∷ bytes)
    → (length bytes ≤ position_or_len (λ b. eqb b 10) bytes → slice_split (λ b. eqb b 10) bytes ≡ bytes ∷ [])
    → slice_split (λ b. eqb b 10) (b ∷ bytes) ≡ (b ∷ bytes) ∷ []
one_more b bytes true is h rest = let no : suc (length bytes) ≤ 0 = rw is at h in absurd (omega arith)
one_more b bytes false is h rest = let on : suc (length bytes) ≤ 1 + position_or_len (λ b. eqb b 10) bytes = rw is at h in
    rw (is, rest (omega arith)) refl

one_part : (bytes : List ℕ) → length bytes ≤ position_or_len (λ b. eqb b 10) bytes → slice_split (λ b. eqb b 10) bytes ≡ bytes ∷ []
one_part [] h = refl
one_part (b ∷ bytes) h = one_more b bytes (eqb b 10) refl h (one_part bytes)

pub lines_one : (bytes : List ℕ) → 0 < length bytes → length bytes ≤ position_or_len (λ b. eqb b 10) bytes → lines bytes ≡ bytes ∷ []
lines_one [] some h = absurd (omega arith)
lines_one (b ∷ bytes) some h =
    let more : eqb (suc (length bytes)) 0 ≡ false = grind (arith, nat_tests) in ap lines_of_parts (one_part (b ∷ bytes) h) ∙ rw more refl

-- the place of the first newline
abbrev pub place : List ℕ → Option ℕ
place bytes = cond (ltb (position_or_len (λ b. eqb b 10) bytes) (length bytes)) (Some (position_or_len (λ b. eqb b 10) bytes)) None

-- where the place of the newline is found, and where there is none
pub found_at : (bytes : List ℕ) (end : ℕ) → place bytes ≡ Some end → (position_or_len (λ b. eqb b 10) bytes ≡ end) × (end < length bytes)
found_at bytes end e =
    let p = cond_some (ltb (position_or_len (λ b. eqb b 10) bytes) (length bytes)) (position_or_len (λ b. eqb b 10) bytes) end e in
    let below : ltb (position_or_len (λ b. eqb b 10) bytes) (length bytes) ≡ true = p.0 in
    let at : position_or_len (λ b. eqb b 10) bytes ≡ end = p.1 in
    (at, grind (arith, nat_tests))

pub found_none : (bytes : List ℕ) → place bytes ≡ None → length bytes ≤ position_or_len (λ b. eqb b 10) bytes
found_none bytes e = grind (arith, nat_tests)

-- the rest of a list is all of it behind a place
pub all_behind : (bytes : List ℕ) (n : ℕ) → n ≤ length bytes → take (length bytes - n) (drop n bytes) ≡ drop n bytes
all_behind bytes n h = take_all (length bytes - n) (drop n bytes) (omega (arith, length-drop n bytes))

-- what is behind the first newline, and that nothing is where there is none
pub behind_at : (bytes : List ℕ) (end : ℕ) → position_or_len (λ b. eqb b 10) bytes ≡ end → drop (end + 1) bytes ≡ after_first (λ b. eqb b 10) bytes
behind_at bytes end is = ap (λ n. drop (n + 1) bytes) (sym is)

pub behind_none : (bytes : List ℕ) → length bytes ≤ position_or_len (λ b. eqb b 10) bytes → [] ≡ after_first (λ b. eqb b 10) bytes
behind_none bytes h = sym (drop_all (position_or_len (λ b. eqb b 10) bytes + 1) bytes (omega arith))
