-- Whole texts: what the parts read together is what the grammar says.
use Rattle.std.proofs.Common.{◌≡◌, ◌≤◌, ◌<◌, ℕ, ◌+◌, ◌-◌, ◌*◌, Bool, true, List, [], ◌∷◌, ◌++◌, length, take, drop, flat_map, None, refl, sym, ap, ap₂, ◌∙◌, subst, inl, inr, ◌⊎◌, Result, Ok, Err, arith, append_assoc, length-append, take-append-drop, take-take, take_at}
use Rattle.std.specs.Prelude.{nat_le, codes}
use Rattle.std.specs.List.{list_all}
use Rattle.std.proofs.lemmas.Bool.{cases_Bool, cases_order, ne_eqb, eqb-true, and_parts, and_from, leb-true, le-leb}
use Rattle.std.proofs.lemmas.Option.{none-some}
use Rattle.farm_base.specs.Digits.{is_digit, number_after}
use Rattle.plain_shapes.specs.Images.{Pixels}
use Rattle.plain_shapes.specs.Ppm.{pixel_bytes}
use Rattle.plain_image.specs.PpmText.{is_whitespace, after_in_gap, ppm_of}
use Rattle.plain_image.specs.declared.reading.PpmFault.{PpmFault}
use Rattle.plain_image.specs.declared.reading.PpmFault.TheVariants.{Bad, TooLarge, NoMemory}
use Rattle.plain_image.specs.declared.reading.Gap.TheVariants.{Bare, Blank}
use Rattle.plain_image.specs.PpmGrammar.{IsNumber, IsPpm, IsBeforeCols, IsTooLarge, BeginsPpm, IsBadAt}
use Rattle.plain_image.specs.Laws.{SaysImages, SaysBad, SaysTooLarge, SaysNothingElse}
use Rattle.plain_image.proofs.PpmParts.{Reader, Knows}
use Rattle.plain_image.proofs.PpmBytes.{one, One, one_refuses, knows_one}
use Rattle.plain_image.proofs.Gaps.{gap_then, Begins, Gapped, gap_stops, knows_gap, gap_ends, ends_gap}
use Rattle.farm_base.proofs.NumberTexts.{number_grows}
use Rattle.plain_image.proofs.Sides.{digits_then, NoDigit, Counted, Overflows, KnowsAll, knows_digits}
use Rattle.plain_image.proofs.Rasters.{raster, Painted, knows_raster}
use Rattle.plain_image.proofs.Flow.{leads, is, side_then, greatest_then, rows_then, whole, ppm_flow}

-- ---- first bytes

-- from the digits on no byte is a blank or begins a comment
digit_stays : (b : ℕ) → 48 ≤ b → after_in_gap Blank b ≡ None
digit_stays b h =
    rw (ne_eqb b 32 (λ e. omega arith), ne_eqb b 9 (λ e. omega arith), ne_eqb b 13 (λ e. omega arith), ne_eqb b 10 (λ e. omega arith), ne_eqb b 35 (λ e. omega arith)) refl

one_begins : (p : ℕ → Bool) (k : ℕ → Reader) → ((b : ℕ) → p b ≡ true → 48 ≤ b) → Begins (one p k)
one_begins p k low = record {
  none = λ n. refl;
  wrong = λ n b t next e. elim (cases_Bool (p b)) [
    | inl q ↦ absurd (none-some next (sym (digit_stays b (low b q)) ∙ e))
    | inr q ↦ one_refuses p k n b t q
  ];
}

gap_no_digit : (k : Reader) → NoDigit (gap_then Bare k)
gap_no_digit k = record { wrong = λ n b t e. gap_stops Bare k n b t (digit_stays b (leb-true 48 b (and_parts (nat_le 48 b) (nat_le b 57) e).0)) }

lead_low : (b : ℕ) → leads b ≡ true → (49 ≤ b) × (b ≤ 57)
lead_low b e = let p = and_parts (nat_le 49 b) (nat_le b 57) e in (leb-true 49 b p.0, leb-true b 57 p.1)

is_low : (c b : ℕ) → 48 ≤ c → is c b ≡ true → 48 ≤ b
is_low c b h e = let q = eqb-true b c e in omega (arith, h, q)

-- ---- the languages of the parts

abbrev SaysGreatest : ℕ → ℕ → List ℕ → Pixels → Type 0
SaysGreatest v w t i = One (is 50) (λ _ r. One (is 53) (λ _ r. One (is 53) (λ _ r. One is_whitespace (λ _ r. Painted v w r i) r) r) r) t

abbrev LargeGreatest : List ℕ → Type 0
LargeGreatest = One (is 50) (λ _. One (is 53) (λ _. One (is 53) (λ _. One is_whitespace (λ _ r. ⊥))))

abbrev SaysSide : (ℕ → List ℕ → Pixels → Type 0) → List ℕ → Pixels → Type 0
SaysSide says t i = One leads (λ b r. Counted (b - 48) (λ w r. says w r i) r) t

abbrev LargeSide : (ℕ → List ℕ → Type 0) → List ℕ → Type 0
LargeSide large = One leads (λ b r. Overflows (b - 48) r ⊎ Counted (b - 48) large r)

abbrev SaysRows : ℕ → List ℕ → Pixels → Type 0
SaysRows v t i = Gapped Bare (λ r. SaysSide (λ w r i. Gapped Bare (λ r. SaysGreatest v w r i) r) r i) t

abbrev LargeRows : List ℕ → Type 0
LargeRows = Gapped Bare (LargeSide (λ w. Gapped Bare LargeGreatest))

abbrev SaysText : List ℕ → Pixels → Type 0
SaysText t i = One (is 80) (λ _ r. One (is 54) (λ _ r. Gapped Bare (λ r. SaysSide SaysRows r i) r) r) t

abbrev LargeText : List ℕ → Type 0
LargeText = One (is 80) (λ _. One (is 54) (λ _. Gapped Bare (LargeSide (λ v. LargeRows))))

knows_greatest : (v w : ℕ) → Knows (greatest_then v w) (SaysGreatest v w) LargeGreatest
knows_greatest v w =
    knows_one (is 50) (λ _. one (is 53) (λ _. one (is 53) (λ _. one is_whitespace (λ _. raster v w))))
    (λ _ t i. One (is 53) (λ _ r. One (is 53) (λ _ r. One is_whitespace (λ _ r. Painted v w r i) r) r) t) (λ _. One (is 53) (λ _. One (is 53) (λ _. One is_whitespace (λ _ r. ⊥)))) 50 refl (λ _ _.
    knows_one (is 53) (λ _. one (is 53) (λ _. one is_whitespace (λ _. raster v w)))
    (λ _ t i. One (is 53) (λ _ r. One is_whitespace (λ _ r. Painted v w r i) r) t) (λ _. One (is 53) (λ _. One is_whitespace (λ _ r. ⊥))) 53 refl (λ _ _.
    knows_one (is 53) (λ _. one is_whitespace (λ _. raster v w))
    (λ _ t i. One is_whitespace (λ _ r. Painted v w r i) t) (λ _. One is_whitespace (λ _ r. ⊥)) 53 refl (λ _ _.
    knows_one is_whitespace (λ _. raster v w) (λ _. Painted v w) (λ _ r. ⊥) 32 refl (λ _ _. knows_raster v w))))

knows_side : (k : ℕ → Reader) (says : ℕ → List ℕ → Pixels → Type 0) (large : ℕ → List ℕ → Type 0) → ((w : ℕ) → NoDigit (k w)) → KnowsAll k says large
    → Knows (side_then k) (SaysSide says) (LargeSide large)
knows_side k says large s known =
    knows_one leads (λ b. digits_then k (b - 48)) (λ b t i. Counted (b - 48) (λ w r. says w r i) t) (λ b t. Overflows (b - 48) t ⊎ Counted (b - 48) large t) 49 refl
    (λ b e. let l = lead_low b e in knows_digits k says large s known (b - 48) (omega (arith, l)) (omega (arith, l)))

gap_side_knows : (k : ℕ → Reader) (says : ℕ → List ℕ → Pixels → Type 0) (large : ℕ → List ℕ → Type 0) → ((w : ℕ) → NoDigit (k w)) → KnowsAll k says large
    → Knows (gap_then Bare (side_then k)) (λ t i. Gapped Bare (λ r. SaysSide says r i) t) (Gapped Bare (LargeSide large))
gap_side_knows k says large s known =
    knows_gap (side_then k) (SaysSide says) (LargeSide large) (one_begins leads (λ b. digits_then k (b - 48)) (λ b e. let l = lead_low b e in omega (arith, l))) (knows_side k says large s known) Bare

knows_rows : (v : ℕ) → Knows (rows_then v) (SaysRows v) LargeRows
knows_rows v = gap_side_knows (λ w. gap_then Bare (greatest_then v w)) (λ w t i. Gapped Bare (λ r. SaysGreatest v w r i) t) (λ w. Gapped Bare LargeGreatest)
    (λ w. gap_no_digit (greatest_then v w))
    (λ w some few. knows_gap (greatest_then v w) (SaysGreatest v w) LargeGreatest
    (one_begins (is 50) (λ _. one (is 53) (λ _. one (is 53) (λ _. one is_whitespace (λ _. raster v w)))) (λ b e. is_low 50 b (omega arith) e)) (knows_greatest v w) Bare)

knows_whole : Knows whole SaysText LargeText
knows_whole =
    knows_one (is 80) (λ _. one (is 54) (λ _. gap_then Bare (side_then rows_then)))
    (λ _ t i. One (is 54) (λ _ r. Gapped Bare (λ r. SaysSide SaysRows r i) r) t) (λ _. One (is 54) (λ _. Gapped Bare (LargeSide (λ v. LargeRows)))) 80 refl (λ _ _.
    knows_one (is 54) (λ _. gap_then Bare (side_then rows_then)) (λ _ t i. Gapped Bare (λ r. SaysSide SaysRows r i) t) (λ _. Gapped Bare (LargeSide (λ v. LargeRows))) 54 refl (λ _ _.
    gap_side_knows rows_then SaysRows (λ v. LargeRows) (λ v. gap_no_digit (side_then (λ w. gap_then Bare (greatest_then v w)))) (λ v some few. knows_rows v)))

-- ---- numbers

number_is : (b : ℕ) (ds : List ℕ) → leads b ≡ true → list_all is_digit ds ≡ true → IsNumber (b ∷ ds) (number_after (b - 48) ds)
number_is b ds e d = let l = lead_low b e in record {
  first = b;
  more = ds;
  spelled = refl;
  from_one = l.0;
  to_nine = l.1;
  digits = d;
  value = ap (λ z. number_after z ds) (omega arith);
}

number_value : (text : List ℕ) (n : ℕ) (is : IsNumber text n) → n ≡ number_after (is.first - 48) is.more
number_value text n is = is.value ∙ ap (number_after 0) is.spelled ∙ ap (λ z. number_after z is.more) (omega arith)

number_leads : (text : List ℕ) (n : ℕ) (is : IsNumber text n) → leads is.first ≡ true
number_leads text n is = and_from (nat_le 49 is.first) (nat_le is.first 57) (le-leb 49 is.first is.from_one) (le-leb is.first 57 is.to_nine)

-- ---- images

to_ppm : (text : List ℕ) (i : Pixels) → SaysText text i → IsPpm text i
to_ppm text i o =
    let g = o.holds.holds in
    let c = g.holds in
    let d = c.holds in
    let h = d.holds in
    let r = h.holds in
    let s = r.holds in
    let k = s.holds in
    let x = k.holds in
    let y = x.holds in
    let z = y.holds in
    let w = z.holds in
    let q = w.holds in
    let p80 = eqb-true o.byte 80 o.test in
    let p54 = eqb-true o.holds.byte 54 o.holds.test in
    let p50 = eqb-true x.byte 50 x.test in
    let p53 = eqb-true y.byte 53 y.test in
    let q53 = eqb-true z.byte 53 z.test in
    let flat : text ≡ 80 ∷ 54 ∷ (g.gap ++ (c.byte ∷ (d.digits ++ (h.gap ++ (r.byte ∷ (s.digits ++ (k.gap ++ (50 ∷ 53 ∷ 53 ∷ w.byte ∷ flat_map pixel_bytes i.pixels)))))))) =
    cc (o.split, o.holds.split, g.split, c.split, d.split, h.split, r.split, s.split, k.split, x.split, y.split, z.split, w.split, q.bytes, p80, p54, p50, p53, q53) in
    let a = lead_low c.byte c.test in
    let b = lead_low r.byte r.test in
    let m = number_grows (c.byte - 48) d.digits in
    let n = number_grows (r.byte - 48) s.digits in
    record {
      gap_1 = g.gap;
      cols = c.byte ∷ d.digits;
      gap_2 = h.gap;
      rows = r.byte ∷ s.digits;
      gap_3 = k.gap;
      blank = w.byte ∷ [];
      spelled = flat ∙ sym (simp append_assoc);
      is_gap_1 = ends_gap g.gap g.ending;
      is_cols = subst (IsNumber (c.byte ∷ d.digits)) (sym q.cols_is) (number_is c.byte d.digits c.test d.each);
      is_gap_2 = ends_gap h.gap h.ending;
      is_rows = subst (IsNumber (r.byte ∷ s.digits)) (sym q.rows_is) (number_is r.byte s.digits r.test s.each);
      is_gap_3 = ends_gap k.gap k.ending;
      is_blank = (w.byte, refl, w.test);
      raster = record {
        some_col = omega (arith, q.cols_is, a, m);
        few_cols = omega (arith, q.cols_is, d.few);
        some_row = omega (arith, q.rows_is, b, n);
        few_rows = omega (arith, q.rows_is, s.few);
        count_is = q.count ∙ ap₂ (λ x y. x * y) (sym q.rows_is) (sym q.cols_is);
      };
    }

-- the parts of a text, one behind another
flat_ppm : (a c d r e w body : List ℕ) → codes "P6" ++ a ++ c ++ d ++ r ++ e ++ codes "255" ++ w ++ body ≡ 80 ∷ 54 ∷ (a ++ (c ++ (d ++ (r ++ (e ++ (50 ∷ 53 ∷ 53 ∷ (w ++ body)))))))
flat_ppm a c d r e w body = simp append_assoc

from_ppm : (text : List ℕ) (i : Pixels) → IsPpm text i → SaysText text i
from_ppm text i p =
    let body : List ℕ = flat_map pixel_bytes i.pixels in
    let b : ℕ = p.is_blank.0 in
    let behind : List ℕ = 50 ∷ 53 ∷ 53 ∷ b ∷ body in
    let f : ℕ = p.is_cols.first in
    let m : List ℕ = p.is_cols.more in
    let g : ℕ = p.is_rows.first in
    let n : List ℕ = p.is_rows.more in
    let from_rows : List ℕ = n ++ (p.gap_3 ++ behind) in
    let from_cols : List ℕ = m ++ (p.gap_2 ++ (g ∷ from_rows)) in
    let flat : text ≡ 80 ∷ 54 ∷ (p.gap_1 ++ (f ∷ from_cols)) =
    p.spelled ∙ flat_ppm p.gap_1 p.cols p.gap_2 p.rows p.gap_3 p.blank body ∙ rw (p.is_cols.spelled, p.is_rows.spelled, p.is_blank.1) refl in
    let cols_is = number_value p.cols i.cols p.is_cols in
    let rows_is = number_value p.rows i.rows p.is_rows in
    record {
      byte = 80;
      rest = 54 ∷ (p.gap_1 ++ (f ∷ from_cols));
      split = flat;
      test = refl;
      holds = record {
        byte = 54;
        rest = p.gap_1 ++ (f ∷ from_cols);
        split = refl;
        test = refl;
        holds = record {
          gap = p.gap_1;
          rest = f ∷ from_cols;
          split = refl;
          ending = gap_ends p.gap_1 p.is_gap_1;
          holds = record {
            byte = f;
            rest = from_cols;
            split = refl;
            test = number_leads p.cols i.cols p.is_cols;
            holds = record {
              digits = m;
              rest = p.gap_2 ++ (g ∷ from_rows);
              split = refl;
              each = p.is_cols.digits;
              few = subst (λ x. x ≤ 4096) cols_is p.raster.few_cols;
              holds = record {
                gap = p.gap_2;
                rest = g ∷ from_rows;
                split = refl;
                ending = gap_ends p.gap_2 p.is_gap_2;
                holds = record {
                  byte = g;
                  rest = from_rows;
                  split = refl;
                  test = number_leads p.rows i.rows p.is_rows;
                  holds = record {
                    digits = n;
                    rest = p.gap_3 ++ behind;
                    split = refl;
                    each = p.is_rows.digits;
                    few = subst (λ x. x ≤ 4096) rows_is p.raster.few_rows;
                    holds = record {
                      gap = p.gap_3;
                      rest = behind;
                      split = refl;
                      ending = gap_ends p.gap_3 p.is_gap_3;
                      holds = record {
                        byte = 50;
                        rest = 53 ∷ 53 ∷ b ∷ body;
                        split = refl;
                        test = refl;
                        holds = record {
                          byte = 53;
                          rest = 53 ∷ b ∷ body;
                          split = refl;
                          test = refl;
                          holds = record {
                            byte = 53;
                            rest = b ∷ body;
                            split = refl;
                            test = refl;
                            holds = record {
                              byte = b;
                              rest = body;
                              split = refl;
                              test = p.is_blank.2;
                              holds = record {
                                cols_is = cols_is;
                                rows_is = rows_is;
                                bytes = refl;
                                count = p.raster.count_is ∙ ap₂ (λ x y. x * y) rows_is cols_is;
                              };
                            };
                          };
                        };
                      };
                    };
                  };
                };
              };
            };
          };
        };
      };
    }

-- ---- sides past the limit

to_large : (text : List ℕ) → LargeText text → IsTooLarge text
to_large text o =
    let g = o.holds.holds in
    let c = g.holds in
    let p80 = eqb-true o.byte 80 o.test in
    let p54 = eqb-true o.holds.byte 54 o.holds.test in
    let flat : text ≡ 80 ∷ 54 ∷ (g.gap ++ (c.byte ∷ c.rest)) = cc (o.split, o.holds.split, g.split, c.split, p80, p54) in
    let before : IsBeforeCols (80 ∷ 54 ∷ g.gap) = (g.gap, refl, ends_gap g.gap g.ending) in
    elim c.holds [
      | inl d ↦ record {
        front = 80 ∷ 54 ∷ g.gap;
        side = c.byte ∷ d.digits;
        rest = d.rest;
        n = number_after (c.byte - 48) d.digits;
        spelled = flat ∙ ap (λ x. 80 ∷ 54 ∷ (g.gap ++ (c.byte ∷ x))) d.split ∙ sym (simp append_assoc);
        before = inl before;
        number = number_is c.byte d.digits c.test d.each;
        large = d.many;
      }
      | inr d ↦
          let h = d.holds in
          let r = h.holds in
          elim r.holds [
            | inl s ↦ record {
              front = (80 ∷ 54 ∷ g.gap) ++ (c.byte ∷ d.digits) ++ h.gap;
              side = r.byte ∷ s.digits;
              rest = s.rest;
              n = number_after (r.byte - 48) s.digits;
              spelled = flat ∙ ap (λ x. 80 ∷ 54 ∷ (g.gap ++ (c.byte ∷ x)))
                  (d.split ∙ ap (λ x. d.digits ++ x) (h.split ∙ ap (λ x. h.gap ++ x) (r.split ∙ ap (λ x. r.byte ∷ x) s.split))) ∙ sym (simp append_assoc);
              before = inr (80 ∷ 54 ∷ g.gap, c.byte ∷ d.digits, h.gap, number_after (c.byte - 48) d.digits, refl, before, number_is c.byte d.digits c.test d.each, d.few, ends_gap h.gap h.ending);
              number = number_is r.byte s.digits r.test s.each;
              large = s.many;
            }
            | inr s ↦ absurd s.holds.holds.holds.holds.holds.holds
          ]
    ]

flat_cols : (a c r : List ℕ) → codes "P6" ++ a ++ c ++ r ≡ 80 ∷ 54 ∷ (a ++ (c ++ r))
flat_cols a c r = simp append_assoc

flat_rows : (a c d s r : List ℕ) → codes "P6" ++ a ++ c ++ d ++ s ++ r ≡ 80 ∷ 54 ∷ (a ++ (c ++ (d ++ (s ++ r))))
flat_rows a c d s r = simp append_assoc

from_large : (text : List ℕ) → IsTooLarge text → LargeText text
from_large text p =
    let f : ℕ = p.number.first in
    let m : List ℕ = p.number.more in
    let over : 4096 < number_after (f - 48) m = subst (λ x. 4096 < x) (number_value p.side p.n p.number) p.large in
    let past : (r : List ℕ) → Overflows (f - 48) (m ++ r) = λ r. record { digits = m; rest = r; split = refl; each = p.number.digits; many = over } in
    elim p.before [
      | inl b ↦ record {
        byte = 80;
        rest = 54 ∷ (b.0 ++ (f ∷ (m ++ p.rest)));
        split = p.spelled ∙ ap (λ x. x ++ p.side ++ p.rest) b.1 ∙ flat_cols b.0 p.side p.rest ∙ ap (λ x. 80 ∷ 54 ∷ (b.0 ++ (x ++ p.rest))) p.number.spelled;
        test = refl;
        holds = record {
          byte = 54;
          rest = b.0 ++ (f ∷ (m ++ p.rest));
          split = refl;
          test = refl;
          holds = record {
            gap = b.0;
            rest = f ∷ (m ++ p.rest);
            split = refl;
            ending = gap_ends b.0 b.2;
            holds = record { byte = f; rest = m ++ p.rest; split = refl; test = number_leads p.side p.n p.number; holds = inl (past p.rest) };
          };
        };
      }
      | inr b ↦
          let c : ℕ = b.6.first in
          let d : List ℕ = b.6.more in
          let from_rows : List ℕ = b.2 ++ (f ∷ (m ++ p.rest)) in
          record {
            byte = 80;
            rest = 54 ∷ (b.5.0 ++ (c ∷ (d ++ from_rows)));
            split = p.spelled ∙ ap (λ x. x ++ p.side ++ p.rest) (b.4 ∙ ap (λ x. x ++ b.1 ++ b.2) b.5.1) ∙ flat_rows b.5.0 b.1 b.2 p.side p.rest
                ∙ ap₂ (λ x y. 80 ∷ 54 ∷ (b.5.0 ++ (x ++ (b.2 ++ (y ++ p.rest))))) b.6.spelled p.number.spelled;
            test = refl;
            holds = record {
              byte = 54;
              rest = b.5.0 ++ (c ∷ (d ++ from_rows));
              split = refl;
              test = refl;
              holds = record {
                gap = b.5.0;
                rest = c ∷ (d ++ from_rows);
                split = refl;
                ending = gap_ends b.5.0 b.5.2;
                holds = record {
                  byte = c;
                  rest = d ++ from_rows;
                  split = refl;
                  test = number_leads b.1 b.3 b.6;
                  holds = inr (record {
                    digits = d;
                    rest = from_rows;
                    split = refl;
                    each = b.6.digits;
                    few = subst (λ x. x ≤ 4096) (number_value b.1 b.3 b.6) b.7;
                    holds = record {
                      gap = b.2;
                      rest = f ∷ (m ++ p.rest);
                      split = refl;
                      ending = gap_ends b.2 b.8;
                      holds = record { byte = f; rest = m ++ p.rest; split = refl; test = number_leads p.side p.n p.number; holds = inl (past p.rest) };
                    };
                  });
                };
              };
            };
          }
    ]

-- ---- the laws

pub says_images : SaysImages
says_images text i =
    (λ e. to_ppm text i (knows_whole.sound 0 text i (sym (ppm_flow text) ∙ e)), λ p. ppm_flow text ∙ knows_whole.reads 0 text i (from_ppm text i p))

pub says_too_large : SaysTooLarge
says_too_large text = (λ e. to_large text (knows_whole.over 0 text (sym (ppm_flow text) ∙ e)), λ p. ppm_flow text ∙ knows_whole.passes 0 text (from_large text p))

pub says_nothing_else : SaysNothingElse
says_nothing_else text e = knows_whole.never 0 text (sym (ppm_flow text) ∙ e)

large_bad : (r : Result Pixels PpmFault) (n : ℕ) → r ≡ Err TooLarge → r ≡ Err (Bad n) → ⊥
large_bad r n e f = cc

ok_bad : (r : Result Pixels PpmFault) (i : Pixels) (n : ℕ) → r ≡ Ok i → r ≡ Err (Bad n) → ⊥
ok_bad r i n e f = cc

bad_found : (text : List ℕ) (n : ℕ) → ppm_of text ≡ Err (Bad n) → IsBadAt text n
bad_found text n e =
    let a = knows_whole.bad 0 text n (sym (ppm_flow text) ∙ e) in
    let len : length a.front ≡ n = omega (arith, a.place) in
    let front : take n text ≡ a.front = ap (take n) a.split ∙ take_at a.front a.rest n len in
    record {
      in_limits = λ l. large_bad (ppm_of text) n ((says_too_large text).1 l) e;
      begins = (a.more, a.image, subst (λ t. IsPpm (t ++ a.more) a.image) (sym front) (to_ppm (a.front ++ a.more) a.image a.goes));
      ends = behind a.front a.rest len a.split a.stays;
    }
  where
    behind : (front rest : List ℕ) → length front ≡ n → text ≡ front ++ rest → ((c : ℕ) (q r : List ℕ) → rest ≡ c ∷ q → whole 0 (front ++ c ∷ r) ≡ Err (Bad n))
        → ((n < length text) × (BeginsPpm (take (n + 1) text) → ⊥)) ⊎ ((n ≡ length text) × ((image : Pixels) → IsPpm text image → ⊥))
    behind front [] len split stays =
        inr (let l = length-append front [] in let k = ap length split in omega (arith, l, k, len), λ i p. ok_bad (ppm_of text) i n ((says_images text i).1 p) e)
    behind front (c ∷ q) len split stays =
        let l = length-append front (c ∷ q) in
        let k = ap length split in
        let one : length (front ++ c ∷ []) ≡ n + 1 = let j = length-append front (c ∷ []) in omega (arith, j, len) in
        let taken : take (n + 1) text ≡ front ++ c ∷ [] =
        ap (take (n + 1)) (split ∙ sym (append_assoc front (c ∷ []) q)) ∙ take_at (front ++ c ∷ []) q (n + 1) one in
        inl (
          omega (arith, l, k, len),
          λ b. let same : take (n + 1) text ++ b.0 ≡ front ++ c ∷ b.0 = ap (λ t. t ++ b.0) taken ∙ append_assoc front (c ∷ []) b.0 in
              ok_bad (ppm_of (take (n + 1) text ++ b.0)) b.1 n ((says_images (take (n + 1) text ++ b.0) b.1).1 b.2)
              (ap ppm_of same ∙ ppm_flow (front ++ c ∷ b.0) ∙ stays c q b.0 refl),
        )

begins_less : (text : List ℕ) (k n : ℕ) → k ≤ n → BeginsPpm (take n text) → BeginsPpm (take k text)
begins_less text k n h b =
    let same : take n text ++ b.0 ≡ take k text ++ (drop k (take n text) ++ b.0) =
    ap (λ t. t ++ b.0) (sym (take-append-drop k (take n text))) ∙ append_assoc (take k (take n text)) (drop k (take n text)) b.0
    ∙ ap (λ t. t ++ (drop k (take n text) ++ b.0)) (take-take k n text h) in
    (drop k (take n text) ++ b.0, b.1, subst (λ t. IsPpm t b.1) same b.2)

-- a text is bad at no second place
not_before : (text : List ℕ) (m n : ℕ) → IsBadAt text m → IsBadAt text n → m < n → ⊥
not_before text m n a b h = elim a.ends [
  | inl x ↦ x.1 (begins_less text (m + 1) n (omega (arith, h)) b.begins)
  | inr x ↦ elim b.ends [
    | inl y ↦ omega (arith, h, x.0, y.0)
    | inr y ↦ omega (arith, h, x.0, y.0)
  ]
]

bad_read : (text : List ℕ) (n : ℕ) → IsBadAt text n → (r : Result Pixels PpmFault) → ppm_of text ≡ r → r ≡ Err (Bad n)
bad_read text n b (Ok i) e =
    let p = (says_images text i).0 e in
    absurd (elim b.ends [
      | inl x ↦ x.1 (drop (n + 1) text, i, subst (λ t. IsPpm t i) (sym (take-append-drop (n + 1) text)) p)
      | inr x ↦ x.1 i p
    ])
bad_read text n b (Err (Bad m)) e =
    let a = bad_found text m e in
    elim (cases_order m n) [
      | inl s ↦ ap (λ k. Err (Bad k)) s
      | inr (inl l) ↦ absurd (not_before text m n a b l)
      | inr (inr l) ↦ absurd (not_before text n m b a l)
    ]
bad_read text n b (Err TooLarge) e = absurd (b.in_limits ((says_too_large text).0 e))
bad_read text n b (Err NoMemory) e = absurd (says_nothing_else text e)

pub says_bad : SaysBad
says_bad text n = (bad_found text n, λ b. bad_read text n b (ppm_of text) refl)
