-- The digits of a side, and what is read behind them.
use Rattle.std.proofs.Common.{◌≡◌, ◌≤◌, ◌<◌, ℕ, ◌+◌, ◌*◌, ◌-◌, true, false, List, [], ◌∷◌, ◌++◌, refl, sym, ap, ◌∙◌, subst, inl, inr, ◌⊎◌, Result, Ok, Err, arith}
use Rattle.std.specs.Prelude.{if◌then◌else◌, nat_lt}
use Rattle.std.specs.List.{list_all}
use Rattle.std.proofs.lemmas.Bool.{cases_Bool, and_parts, and_from, le-ltb, ltb-true, ltb-false}
use Rattle.farm_base.specs.Digits.{is_digit, number_after}
use Rattle.farm_base.proofs.NumberTexts.{number_grows}
use Rattle.plain_shapes.specs.Images.{Pixels}
use Rattle.plain_image.specs.declared.reading.PpmFault.{PpmFault}
use Rattle.plain_image.specs.declared.reading.PpmFault.TheVariants.{Bad, TooLarge, NoMemory}
use Rattle.plain_image.proofs.PpmParts.{Reader, BadAt, Knows, IsFirm, firm_ok, firm_large, firm_memory, bad_large, none_behind, same_first}

-- a number and one digit more
abbrev pub more_by : ℕ → ℕ → ℕ
more_by v b = v * 10 + (b - 48)

abbrev pub digits_then : (ℕ → Reader) → ℕ → Reader
digits_then k v n [] = k v n []
digits_then k v n (b ∷ t) = if is_digit b then (if nat_lt 4096 (more_by v b) then Err TooLarge else digits_then k (more_by v b) (n + 1) t) else k v n (b ∷ t)

-- what is read behind the digits does not begin with a digit
pub record NoDigit (k : Reader) : Type 0 where
  pub wrong : (n b : ℕ) (t : List ℕ) → is_digit b ≡ true → k n (b ∷ t) ≡ Err (Bad n)

-- further digits of a number within the limit, and behind them what holds there
pub record Counted (v : ℕ) (behind : ℕ → List ℕ → Type 0) (text : List ℕ) : Type 0 where
  pub digits : List ℕ
  pub rest : List ℕ
  pub split : text ≡ digits ++ rest
  pub each : list_all is_digit digits ≡ true
  pub few : number_after v digits ≤ 4096
  pub holds : behind (number_after v digits) rest

-- further digits of a number past the limit, whatever follows
pub record Overflows (v : ℕ) (text : List ℕ) : Type 0 where
  pub digits : List ℕ
  pub rest : List ℕ
  pub split : text ≡ digits ++ rest
  pub each : list_all is_digit digits ≡ true
  pub many : 4096 < number_after v digits

pub counted_map : (v : ℕ) (P Q : ℕ → List ℕ → Type 0) (text : List ℕ) → ((w : ℕ) (r : List ℕ) → v ≤ w → w ≤ 4096 → P w r → Q w r) → Counted v P text → Counted v Q text
counted_map v P Q text f c = record {
  digits = c.digits;
  rest = c.rest;
  split = c.split;
  each = c.each;
  few = c.few;
  holds = f (number_after v c.digits) c.rest (number_grows v c.digits) c.few c.holds;
}

-- the two ways in which a digit more is written
more_is : (v b : ℕ) → more_by v b ≡ 10 * v + (b - 48)
more_is v b = omega arith

counted_more : (v b : ℕ) (t : List ℕ) (P : ℕ → List ℕ → Type 0) → is_digit b ≡ true → Counted (more_by v b) P t → Counted v P (b ∷ t)
counted_more v b t P e c = record {
  digits = b ∷ c.digits;
  rest = c.rest;
  split = ap (λ x. b ∷ x) c.split;
  each = and_from (is_digit b) (list_all is_digit c.digits) e c.each;
  few = subst (λ z. number_after z c.digits ≤ 4096) (more_is v b) c.few;
  holds = subst (λ z. P (number_after z c.digits) c.rest) (more_is v b) c.holds;
}

overflows_more : (v b : ℕ) (t : List ℕ) → is_digit b ≡ true → Overflows (more_by v b) t → Overflows v (b ∷ t)
overflows_more v b t e c = record {
  digits = b ∷ c.digits;
  rest = c.rest;
  split = ap (λ x. b ∷ x) c.split;
  each = and_from (is_digit b) (list_all is_digit c.digits) e c.each;
  many = subst (λ z. 4096 < number_after z c.digits) (more_is v b) c.many;
}

-- ---- one byte

digit_ends : (k : ℕ → Reader) (v n b : ℕ) (t : List ℕ) → is_digit b ≡ false → digits_then k v n (b ∷ t) ≡ k v n (b ∷ t)
digit_ends k v n b t e = ap (λ o. if o then (if nat_lt 4096 (more_by v b) then Err TooLarge else digits_then k (more_by v b) (n + 1) t) else k v n (b ∷ t)) e

digit_large : (k : ℕ → Reader) (v n b : ℕ) (t : List ℕ) → is_digit b ≡ true → nat_lt 4096 (more_by v b) ≡ true → digits_then k v n (b ∷ t) ≡ Err TooLarge
digit_large k v n b t e l =
    ap (λ o. if o then (if nat_lt 4096 (more_by v b) then Err TooLarge else digits_then k (more_by v b) (n + 1) t) else k v n (b ∷ t)) e
    ∙ ap (λ o. if o then Err TooLarge else digits_then k (more_by v b) (n + 1) t) l

digit_next : (k : ℕ → Reader) (v n b : ℕ) (t : List ℕ) → is_digit b ≡ true → nat_lt 4096 (more_by v b) ≡ false → digits_then k v n (b ∷ t) ≡ digits_then k (more_by v b) (n + 1) t
digit_next k v n b t e l =
    ap (λ o. if o then (if nat_lt 4096 (more_by v b) then Err TooLarge else digits_then k (more_by v b) (n + 1) t) else k v n (b ∷ t)) e
    ∙ ap (λ o. if o then Err TooLarge else digits_then k (more_by v b) (n + 1) t) l

-- ---- all digits

digits_run : (k : ℕ → Reader) → ((w : ℕ) → NoDigit (k w)) → (ds : List ℕ) (v n : ℕ) (r : List ℕ) (x : Result Pixels PpmFault) → IsFirm x
    → list_all is_digit ds ≡ true → number_after v ds ≤ 4096 → ((m : ℕ) → k (number_after v ds) m r ≡ x) → digits_then k v n (ds ++ r) ≡ x
digits_run k s [] v n [] x f e w h = h n
digits_run k s [] v n (b ∷ r) x f e w h = elim (cases_Bool (is_digit b)) [
  | inl d ↦ absurd (f n (sym (h n) ∙ (s v).wrong n b r d))
  | inr d ↦ digit_ends k v n b r d ∙ h n
]
digits_run k s (d ∷ ds) v n r x f e w h =
    let p = and_parts (is_digit d) (list_all is_digit ds) e in
    let few : more_by v d ≤ 4096 = let g = number_grows (10 * v + (d - 48)) ds in omega (arith, g, w) in
    digit_next k v n d (ds ++ r) p.0 (le-ltb 4096 (more_by v d) few)
    ∙ ap (λ z. digits_then k z (n + 1) (ds ++ r)) (more_is v d)
    ∙ digits_run k s ds (10 * v + (d - 48)) (n + 1) r x f p.1 w h

digits_over : (k : ℕ → Reader) (ds : List ℕ) (v n : ℕ) (r : List ℕ) → list_all is_digit ds ≡ true → v ≤ 4096 → 4096 < number_after v ds → digits_then k v n (ds ++ r) ≡ Err TooLarge
digits_over k [] v n r e few many = absurd (omega (arith, few, many))
digits_over k (d ∷ ds) v n r e few many =
    let p = and_parts (is_digit d) (list_all is_digit ds) e in
    elim (cases_Bool (nat_lt 4096 (more_by v d))) [
      | inl l ↦ digit_large k v n d (ds ++ r) p.0 l
      | inr l ↦ digit_next k v n d (ds ++ r) p.0 l ∙ ap (λ z. digits_then k z (n + 1) (ds ++ r)) (more_is v d)
          ∙ digits_over k ds (10 * v + (d - 48)) (n + 1) r p.1 (let g = ltb-false 4096 (more_by v d) l in omega (arith, g)) many
    ]

abbrev Read : (ℕ → Reader) → ℕ → List ℕ → Result Pixels PpmFault → Type 0
Read k v t x = Counted v (λ w r. (m : ℕ) × (k w m r ≡ x)) t ⊎ ((x ≡ Err TooLarge) × Overflows v t)

digits_back : (k : ℕ → Reader) (v n : ℕ) (t : List ℕ) (x : Result Pixels PpmFault) → IsFirm x → v ≤ 4096 → digits_then k v n t ≡ x → Read k v t x
digits_back k v n [] x f few h = inl (record { digits = []; rest = []; split = refl; each = refl; few = few; holds = (n, h) })
digits_back k v n (b ∷ t) x f few h = elim (cases_Bool (is_digit b)) [
  | inl e ↦ elim (cases_Bool (nat_lt 4096 (more_by v b))) [
    | inl l ↦ inr (
      sym h ∙ digit_large k v n b t e l,
      record {
        digits = b ∷ [];
        rest = t;
        split = refl;
        each = and_from (is_digit b) true e refl;
        many = let g = ltb-true 4096 (more_by v b) l in omega (arith, g);
      },
    )
    | inr l ↦ elim (digits_back k (more_by v b) (n + 1) t x f (ltb-false 4096 (more_by v b) l) (sym (digit_next k v n b t e l) ∙ h)) [
      | inl c ↦ inl (counted_more v b t (λ w r. (m : ℕ) × (k w m r ≡ x)) e c)
      | inr o ↦ inr (o.0, overflows_more v b t e o.1)
    ]
  ]
  | inr e ↦ inl (record { digits = []; rest = b ∷ t; split = refl; each = refl; few = few; holds = (n, sym (digit_ends k v n b t e) ∙ h) })
]

-- what is known of what is read behind a side within the limit
abbrev pub KnowsAll : (ℕ → Reader) → (ℕ → List ℕ → Pixels → Type 0) → (ℕ → List ℕ → Type 0) → Type 0
KnowsAll k says large = (w : ℕ) → 1 ≤ w → w ≤ 4096 → Knows (k w) (says w) (large w)

digits_bad : (k : ℕ → Reader) (says : ℕ → List ℕ → Pixels → Type 0) (large : ℕ → List ℕ → Type 0) → KnowsAll k says large
    → (v n : ℕ) (t : List ℕ) (m : ℕ) → 1 ≤ v → v ≤ 4096 → digits_then k v n t ≡ Err (Bad m) → BadAt (digits_then k v) (λ t i. Counted v (λ w r. says w r i) t) n t m
digits_bad k says large known v n [] m some few h = let a = (known v some few).bad n [] m h in record {
  front = a.front;
  rest = a.rest;
  more = a.more;
  image = a.image;
  split = a.split;
  place = a.place;
  goes = record { digits = []; rest = a.front ++ a.more; split = refl; each = refl; few = few; holds = a.goes };
  stays = λ d q r s. absurd (none_behind a.front a.rest d q a.split s);
}
digits_bad k says large known v n (b ∷ t) m some few h = elim (cases_Bool (is_digit b)) [
  | inl e ↦ elim (cases_Bool (nat_lt 4096 (more_by v b))) [
    | inl l ↦ absurd (bad_large m (sym (digit_large k v n b t e l) ∙ h))
    | inr l ↦ let a = digits_bad k says large known (more_by v b) (n + 1) t m (omega (arith, some)) (ltb-false 4096 (more_by v b) l) (sym (digit_next k v n b t e l) ∙ h) in record {
      front = b ∷ a.front;
      rest = a.rest;
      more = a.more;
      image = a.image;
      split = ap (λ x. b ∷ x) a.split;
      place = omega (arith, a.place);
      goes = counted_more v b (a.front ++ a.more) (λ w r. says w r a.image) e a.goes;
      stays = λ d q r s. digit_next k v n b (a.front ++ d ∷ r) e l ∙ a.stays d q r s;
    }
  ]
  | inr e ↦ let a = (known v some few).bad n (b ∷ t) m (sym (digit_ends k v n b t e) ∙ h) in record {
    front = a.front;
    rest = a.rest;
    more = a.more;
    image = a.image;
    split = a.split;
    place = a.place;
    goes = record { digits = []; rest = a.front ++ a.more; split = refl; each = refl; few = few; holds = a.goes };
    stays = λ d q r s. let f = same_first b t a.front a.rest d q r a.split s in
        ap (digits_then k v n) f.1 ∙ digit_ends k v n b f.0 e ∙ ap (k v n) (sym f.1) ∙ a.stays d q r s;
  }
]

ok_large : (i : Pixels) → ◌≡◌ {A = Result Pixels PpmFault} (Ok i) (Err TooLarge) → ⊥
ok_large i e = cc

memory_large : ◌≡◌ {A = Result Pixels PpmFault} (Err NoMemory) (Err TooLarge) → ⊥
memory_large e = cc

pub knows_digits : (k : ℕ → Reader) (says : ℕ → List ℕ → Pixels → Type 0) (large : ℕ → List ℕ → Type 0) → ((w : ℕ) → NoDigit (k w)) → KnowsAll k says large
    → (v : ℕ) → 1 ≤ v → v ≤ 4096 → Knows (digits_then k v) (λ t i. Counted v (λ w r. says w r i) t) (λ t. Overflows v t ⊎ Counted v large t)
knows_digits k says large s known v some few = record {
  some = let q = (known v some few).some in (q.0, q.1, record { digits = []; rest = q.0; split = refl; each = refl; few = few; holds = q.2 });
  sound = λ n t i h. elim (digits_back k v n t (Ok i) (firm_ok i) few h) [
    | inl c ↦ counted_map v (λ w r. (m : ℕ) × (k w m r ≡ Ok i)) (λ w r. says w r i) t (λ w r l u q. (known w (omega (arith, some, l)) u).sound q.0 r i q.1) c
    | inr o ↦ absurd (ok_large i o.0)
  ];
  reads = λ n t i c. ap (digits_then k v n) c.split ∙ digits_run k s c.digits v n c.rest (Ok i) (firm_ok i) c.each c.few
      (λ m. (known (number_after v c.digits) (let g = number_grows v c.digits in omega (arith, some, g)) c.few).reads m c.rest i c.holds);
  over = λ n t h. elim (digits_back k v n t (Err TooLarge) firm_large few h) [
    | inl c ↦ inr (counted_map v (λ w r. (m : ℕ) × (k w m r ≡ Err TooLarge)) large t (λ w r l u q. (known w (omega (arith, some, l)) u).over q.0 r q.1) c)
    | inr o ↦ inl o.1
  ];
  passes = λ n t. elim [
    | inl o ↦ ap (digits_then k v n) o.split ∙ digits_over k o.digits v n o.rest o.each few o.many
    | inr c ↦ ap (digits_then k v n) c.split ∙ digits_run k s c.digits v n c.rest (Err TooLarge) firm_large c.each c.few
        (λ m. (known (number_after v c.digits) (let g = number_grows v c.digits in omega (arith, some, g)) c.few).passes m c.rest c.holds)
  ];
  bad = λ n t m h. digits_bad k says large known v n t m some few h;
  never = λ n t h. elim (digits_back k v n t (Err NoMemory) firm_memory few h) [
    | inl c ↦ (known (number_after v c.digits) (let g = number_grows v c.digits in omega (arith, some, g)) c.few).never c.holds.0 c.rest c.holds.1
    | inr o ↦ memory_large o.0
  ];
}
