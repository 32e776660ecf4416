-- What is read byte by byte is what stands between newlines.
use Rattle.std.proofs.Common.{◌≡◌, ◌==◌, ◌≤◌, ℕ, Bool, true, false, ◌||◌, cond, nat_lt, List, [], ◌∷◌, ◌++◌, length, refl, sym, ap, subst, ◌∙◌, arith, append_assoc, length-append}
use Rattle.std.proofs.lemmas.List.{append-nil}
use Rattle.std.specs.List.{list_any, onto_first}
use Rattle.std.proofs.lemmas.Bool.Decides.{nat_tests}
use Rattle.farm_base.specs.Limits.{most_control_bytes}
use Rattle.control_front.specs.declared.acts.Line.{Line}
use Rattle.control_front.specs.declared.acts.Line.TheVariants as line
use Rattle.control_front.specs.Lines.{is_long, requests_in, line_in}
use Rattle.control_front.specs.inner.Readings.{Reading, read_on, read_all, part_alone, wants, line_parts}
use Rattle.control_front.proofs.Streams.{opened, shut, read_none, read_from, wants_behind}

-- a part of a line, in front of the first of these parts
abbrev onto : List ℕ → List (List ℕ) → List (List ℕ)
onto p [] = p ∷ []
onto p (x ∷ xs) = (p ++ x) ∷ xs

-- what is said of a part of a line and the bytes behind it
record Same (r : Reading) (parts : List (List ℕ)) : Type 0 where
  asked : wants r ≡ requests_in parts
  long : r.long ≡ list_any is_long parts

-- bytes have a first part
record HasFirst (parts : List (List ℕ)) : Type 0 where
  first : List ℕ
  later : List (List ℕ)
  is : parts ≡ first ∷ later

has_first : (bytes : List ℕ) → HasFirst (line_parts bytes)
has_first [] = record { first = []; later = []; is = refl }
has_first (b ∷ bytes) = by_newline (b == 10) (has_first bytes)
  where
    by_newline : (newline : Bool) → HasFirst (line_parts bytes) → HasFirst (cond newline ([] ∷ line_parts bytes) (onto_first b (line_parts bytes)))
    by_newline true h = record { first = []; later = line_parts bytes; is = refl }
    by_newline false h = record { first = b ∷ h.first; later = h.later; is = ap (onto_first b) h.is }

short_is : (p : List ℕ) → length p ≤ most_control_bytes → is_long p ≡ false
short_is p h = grind (arith, nat_tests)

-- a whole line in front
asked_line : (p : List ℕ) (parts : List (List ℕ)) → is_long p ≡ false → HasFirst parts → requests_in (p ∷ parts) ≡ line_in p ∷ requests_in parts
asked_line p parts short h =
    ap (λ l. requests_in (p ∷ l)) h.is ∙ ap (λ b. cond b (line.Bad ∷ []) (line_in p ∷ requests_in (h.first ∷ h.later))) short ∙ ap (λ l. line_in p ∷ requests_in l) (sym h.is)

-- a line that is too long is the last
asked_long : (p : List ℕ) (parts : List (List ℕ)) → is_long p ≡ true → requests_in (p ∷ parts) ≡ line.Bad ∷ []
asked_long p [] long = ap (λ b. cond b (line.Bad ∷ []) []) long
asked_long p (x ∷ xs) long = ap (λ b. cond b (line.Bad ∷ []) (line_in p ∷ requests_in (x ∷ xs))) long

long_more : (p x : List ℕ) (b : ℕ) → nat_lt (length p) most_control_bytes ≡ false → is_long (p ++ b ∷ x) ≡ true
long_more p x b h = let l = length-append p (b ∷ x) in grind (arith, nat_tests, l, h)

-- what is kept of a part, with nothing in front
onto_none : (parts : List (List ℕ)) → HasFirst parts → onto [] parts ≡ parts
onto_none parts h = ap (onto []) h.is ∙ sym h.is

module _ (p : List ℕ) (b : ℕ) (bytes : List ℕ) (f : (q : List ℕ) → length q ≤ most_control_bytes → Same (read_on (part_alone q) bytes) (onto q (line_parts bytes))) where
  same_line : length p ≤ most_control_bytes → Same (read_on (opened (p ∷ []) []) bytes) (onto p ([] ∷ line_parts bytes))
  same_line h =
      let h0 : 0 ≤ most_control_bytes = omega arith in
      let rest : Same (read_on (part_alone []) bytes) (onto [] (line_parts bytes)) = f [] h0 in
      let all : onto [] (line_parts bytes) ≡ line_parts bytes = onto_none (line_parts bytes) (has_first bytes) in
      record {
        asked =
            ap wants (read_from (p ∷ []) [] bytes) ∙ wants_behind (p ∷ []) (read_on (part_alone []) bytes)
            ∙ ap (λ (l : List Line). line_in p ∷ l) (rest.asked ∙ ap requests_in all)
            ∙ sym (asked_line p (line_parts bytes) (short_is p h) (has_first bytes))
            ∙ ap (λ l. requests_in (l ∷ line_parts bytes)) (sym (append-nil p));
        long =
            ap (λ (r : Reading). r.long) (read_from (p ∷ []) [] bytes) ∙ rest.long ∙ ap (list_any is_long) all
            ∙ sym (ap (λ v. v || list_any is_long (line_parts bytes)) (ap is_long (append-nil p) ∙ short_is p h));
      }

  same_more : nat_lt (length p) most_control_bytes ≡ true → Same (read_on (part_alone (p ++ b ∷ [])) bytes) (onto p (onto_first b (line_parts bytes)))
  same_more h =
      let first : HasFirst (line_parts bytes) = has_first bytes in
      let one : length (p ++ b ∷ []) ≤ most_control_bytes = (let l = length-append p (b ∷ []) in grind (arith, nat_tests, l, h)) in
      let parts : onto (p ++ b ∷ []) (line_parts bytes) ≡ onto p (onto_first b (line_parts bytes)) =
      ap (onto (p ++ b ∷ [])) first.is ∙ ap (λ (l : List ℕ). l ∷ first.later) (append_assoc p (b ∷ []) first.first) ∙ ap (λ l. onto p (onto_first b l)) (sym first.is)
      in
      subst (λ (l : List (List ℕ)). Same (read_on (part_alone (p ++ b ∷ [])) bytes) l) parts (f (p ++ b ∷ []) one)

  same_shut : nat_lt (length p) most_control_bytes ≡ false → Same (read_on (shut [] p) bytes) (onto p (onto_first b (line_parts bytes)))
  same_shut h =
      let first : HasFirst (line_parts bytes) = has_first bytes in
      let long : is_long (p ++ b ∷ first.first) ≡ true = long_more p first.first b h in
      let parts : (p ++ b ∷ first.first) ∷ first.later ≡ onto p (onto_first b (line_parts bytes)) = ap (λ l. onto p (onto_first b l)) (sym first.is) in
      subst (λ (l : List (List ℕ)). Same (read_on (shut [] p) bytes) l) parts
      (record {
        asked = ap wants (read_none [] p bytes) ∙ sym (asked_long (p ++ b ∷ first.first) first.later long);
        long = ap (λ (r : Reading). r.long) (read_none [] p bytes) ∙ sym (ap (λ v. v || list_any is_long first.later) long);
      })

  same_byte : (newline short : Bool) → nat_lt (length p) most_control_bytes ≡ short → length p ≤ most_control_bytes
      → Same (read_on (cond newline (opened (p ∷ []) []) (cond short (part_alone (p ++ b ∷ [])) (shut [] p))) bytes) (onto p (cond newline ([] ∷ line_parts bytes) (onto_first b (line_parts bytes))))
  same_byte true short e h = same_line h
  same_byte false true e h = same_more e
  same_byte false false e h = same_shut e

same_parts : (p bytes : List ℕ) → length p ≤ most_control_bytes → Same (read_on (part_alone p) bytes) (onto p (line_parts bytes))
same_parts p [] h = record {
  asked = sym (ap (λ v. cond v (line.Bad ∷ []) []) (ap is_long (append-nil p) ∙ short_is p h));
  long = sym (ap (λ v. v || false) (ap is_long (append-nil p) ∙ short_is p h));
}
same_parts p (b ∷ bytes) h = same_byte p b bytes (λ q l. same_parts q bytes l) (b == 10) (nat_lt (length p) most_control_bytes) refl h

all_same : (given : List ℕ) → Same (read_all given) (line_parts given)
all_same given =
    let none : 0 ≤ most_control_bytes = omega arith in
    subst (λ (l : List (List ℕ)). Same (read_all given) l) (onto_none (line_parts given) (has_first given)) (same_parts [] given none)

pub asked_same : (given : List ℕ) → wants (read_all given) ≡ requests_in (line_parts given)
asked_same given = (all_same given).asked

pub long_same : (given : List ℕ) → (read_all given).long ≡ list_any is_long (line_parts given)
long_same given = (all_same given).long
