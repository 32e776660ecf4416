-- Bytes that are read one piece after another.
use Rattle.std.proofs.Common.{◌≡◌, ◌==◌, ℕ, Bool, true, false, cond, nat_lt, List, [], ◌∷◌, ◌++◌, length, map, refl, sym, ap, ◌∙◌, append_assoc}
use Rattle.std.proofs.lemmas.List.{append-nil}
use Rattle.farm_base.specs.Limits.{most_control_bytes}
use Rattle.control_front.specs.declared.acts.Line.{Line}
use Rattle.control_front.specs.declared.acts.Line.TheVariants as line
use Rattle.control_front.specs.Lines.{line_in}
use Rattle.control_front.specs.inner.Readings.{Reading, with_byte, read_on, part_alone, wants}

-- what was read, behind these lines
abbrev pub behind : List (List ℕ) → Reading → Reading
behind ls r = record { lines = ls ++ r.lines; part = r.part; long = r.long }

abbrev pub opened : List (List ℕ) → List ℕ → Reading
opened ls part = record { lines = ls; part = part; long = false }

abbrev pub shut : List (List ℕ) → List ℕ → Reading
shut ls part = record { lines = ls; part = part; long = true }

pub read_both : (r : Reading) (xs ys : List ℕ) → read_on r (xs ++ ys) ≡ read_on (read_on r xs) ys
read_both r [] ys = refl
read_both r (b ∷ xs) ys = read_both (with_byte r b) xs ys

-- behind a line that is too long nothing is read
pub read_none : (ls : List (List ℕ)) (part ys : List ℕ) → read_on (shut ls part) ys ≡ shut ls part
read_none ls part [] = refl
read_none ls part (b ∷ ys) = read_none ls part ys

behind_none : (ls : List (List ℕ)) (part : List ℕ) (long : Bool) → record { lines = ls; part = part; long = long } ≡ behind ls (record { lines = []; part = part; long = long })
behind_none ls part long = ap (λ v. record { lines = v; part = part; long = long }) (sym (append-nil ls))

behind_both : (ls ms : List (List ℕ)) (r : Reading) → behind (ls ++ ms) r ≡ behind ls (behind ms r)
behind_both ls ms r = ap (λ v. record { lines = v; part = r.part; long = r.long }) (append_assoc ls ms r.lines)

-- one byte, by its two tests
abbrev by_tests : List (List ℕ) → List ℕ → ℕ → Bool → Bool → Reading
by_tests ls part b newline short = cond newline (opened (ls ++ part ∷ []) []) (cond short (opened ls (part ++ b ∷ [])) (shut ls part))

from_by : (ls : List (List ℕ)) (part : List ℕ) (b : ℕ) (ys : List ℕ) (newline short : Bool)
    → ((ms : List (List ℕ)) (p : List ℕ) → read_on (opened ms p) ys ≡ behind ms (read_on (part_alone p) ys))
    → read_on (by_tests ls part b newline short) ys ≡ behind ls (read_on (by_tests [] part b newline short) ys)
from_by ls part b ys true short f =
    f (ls ++ part ∷ []) [] ∙ behind_both ls (part ∷ []) (read_on (part_alone []) ys) ∙ ap (behind ls) (sym (f (part ∷ []) []))
from_by ls part b ys false true f = f ls (part ++ b ∷ [])
from_by ls part b ys false false f = read_none ls part ys ∙ behind_none ls part true ∙ ap (behind ls) (sym (read_none [] part ys))

pub read_from : (ls : List (List ℕ)) (part ys : List ℕ) → read_on (opened ls part) ys ≡ behind ls (read_on (part_alone part) ys)
read_from ls part [] = behind_none ls part false
read_from ls part (b ∷ ys) = from_by ls part b ys (b == 10) (nat_lt (length part) most_control_bytes) (λ ms p. read_from ms p ys)

-- the requests behind these lines
map_both : (ls ms : List (List ℕ)) → map line_in (ls ++ ms) ≡ map line_in ls ++ map line_in ms
map_both [] ms = refl
map_both (l ∷ ls) ms = ap (λ v. line_in l ∷ v) (map_both ls ms)

pub wants_behind : (ls : List (List ℕ)) (r : Reading) → wants (behind ls r) ≡ map line_in ls ++ wants r
wants_behind ls r = ap (λ v. v ++ cond r.long (line.Bad ∷ []) []) (map_both ls r.lines) ∙ append_assoc (map line_in ls) (map line_in r.lines) (cond r.long (line.Bad ∷ []) [])

-- what was read, where no line is too long
open_is : (r : Reading) → r.long ≡ false → r ≡ opened r.lines r.part
open_is r e = ap (λ v. record { lines = r.lines; part = r.part; long = v }) e

wants_open : (r : Reading) → r.long ≡ false → wants r ≡ map line_in r.lines
wants_open r e = ap (λ v. map line_in r.lines ++ cond v (line.Bad ∷ []) []) e ∙ append-nil (map line_in r.lines)

-- more bytes behind what was read, where no line is too long
pub read_more : (r : Reading) (ys : List ℕ) → r.long ≡ false → read_on r ys ≡ behind r.lines (read_on (part_alone r.part) ys)
read_more r ys e = ap (λ v. read_on v ys) (open_is r e) ∙ read_from r.lines r.part ys

pub wants_more : (r : Reading) (ys : List ℕ) → r.long ≡ false → wants (read_on r ys) ≡ wants r ++ wants (read_on (part_alone r.part) ys)
wants_more r ys e =
    ap wants (read_more r ys e) ∙ wants_behind r.lines (read_on (part_alone r.part) ys) ∙ ap (λ v. v ++ wants (read_on (part_alone r.part) ys)) (sym (wants_open r e))

pub read_shut : (r : Reading) (ys : List ℕ) → r.long ≡ true → read_on r ys ≡ r
read_shut r ys e =
    let is : r ≡ shut r.lines r.part = ap (λ v. record { lines = r.lines; part = r.part; long = v }) e in
    ap (λ v. read_on v ys) is ∙ read_none r.lines r.part ys ∙ sym is

-- the requests in more bytes begin with those in the first
pub wants_begin : (r : Reading) (ys : List ℕ) → (more : List Line) × (wants (read_on r ys) ≡ wants r ++ more)
wants_begin r ys = by_long r.long refl
  where
    by_long : (b : Bool) → r.long ≡ b → (more : List Line) × (wants (read_on r ys) ≡ wants r ++ more)
    by_long false e = (wants (read_on (part_alone r.part) ys), wants_more r ys e)
    by_long true e = ([], ap wants (read_shut r ys e) ∙ sym (append-nil (wants r)))
