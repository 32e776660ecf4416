-- Histories: the entries of one number, and beginnings of one list.
use Rattle.std.proofs.Common.{◌≡◌, ℕ, ◌<◌, ◌≤◌, ◌≢◌, List, [], ◌∷◌, ◌++◌, length, sym, refl, ap, ◌∙◌, subst, arith, cond, eqb, eq-eqb, ne_eqb, le-leb, length-append, append_assoc}
use Rattle.std.proofs.lemmas.List.{append-nil}
use Rattle.std.proofs.lemmas.Bool.{lt-leb}
use Rattle.std.proofs.lemmas.List.Elements.{filter-append}
use mathlib.Core.Logic.{dite}
use native.Mathlib.Decide.{dec_le}
use Rattle.turn_cell.specs.Turns.{by, longer, StartsWith}

module _ {A : Type 0} where
  -- a list that is no longer than itself with more at its end has nothing more there
  pub empty_of_append : (xs ys zs : List A) → (xs ++ ys) ++ zs ≡ xs → ys ≡ []
  empty_of_append xs [] zs e = refl
  empty_of_append xs (y ∷ ys) zs e =
      absurd (omega (arith, ap length e, length-append (xs ++ y ∷ ys) zs, length-append xs (y ∷ ys)))

  -- of two beginnings of one list, the shorter begins the longer
  pub begins : (s r t q : List A) → s ++ r ≡ t ++ q → length s ≤ length t → (more : List A) × (t ≡ s ++ more)
  begins [] r t q e le = (t, refl)
  begins (x ∷ xs) r [] q e le = absurd (omega arith)
  begins (x ∷ xs) r (y ∷ ys) q e le =
      let same : x ≡ y = cc in
      let tails : xs ++ r ≡ ys ++ q = cc in
      let b = begins xs r ys q tails (omega arith) in
      (b.0, λ i. sym same i ∷ b.1 i)

  pub longer-right : (xs ys : List A) → length xs ≤ length ys → longer xs ys ≡ ys
  longer-right xs ys le = ap (λ b. cond b ys xs) (le-leb (length xs) (length ys) le)

  pub longer-left : (xs ys : List A) → length ys < length xs → longer xs ys ≡ xs
  longer-left xs ys lt = ap (λ b. cond b ys xs) (lt-leb (length xs) (length ys) lt)

module _ {E : Type 0} where
  pub by-append : (n : ℕ) (xs ys : List (ℕ × E)) → by n (xs ++ ys) ≡ by n xs ++ by n ys
  by-append n xs ys = filter-append (λ (x : ℕ × E). eqb x.0 n) xs ys

  -- an entry of that number comes last
  pub by-own : (n : ℕ) (log : List (ℕ × E)) (x : ℕ × E) → x.0 ≡ n → by n (log ++ x ∷ []) ≡ by n log ++ x ∷ []
  by-own n log x is = by-append n log (x ∷ []) ∙ ap (λ b. by n log ++ cond b (x ∷ []) []) (eq-eqb x.0 n is)

  -- an entry of another number changes nothing
  pub by-other : (n : ℕ) (log : List (ℕ × E)) (x : ℕ × E) → x.0 ≢ n → by n (log ++ x ∷ []) ≡ by n log
  by-other n log x ne = by-append n log (x ∷ []) ∙ ap (λ b. by n log ++ cond b (x ∷ []) []) (ne_eqb x.0 n ne) ∙ append-nil (by n log)

  pub starts_more : (log seen more : List (ℕ × E)) → StartsWith log seen → StartsWith (log ++ more) seen
  starts_more log seen more s = (s.0 ++ more, ap (λ l. l ++ more) s.1 ∙ append_assoc seen s.0 more)

  pub starts_through : (log seen l : List (ℕ × E)) → StartsWith log seen → StartsWith seen l → StartsWith log l
  starts_through log seen l s t = (t.0 ++ s.0, s.1 ∙ ap (λ x. x ++ s.0) t.1 ∙ append_assoc l t.0 s.0)

  -- both begin one list, and the first is no longer
  pub starts_shorter : (log s t : List (ℕ × E)) → StartsWith log s → StartsWith log t → length s ≤ length t → StartsWith t s
  starts_shorter log s t a b le = begins s a.0 t b.0 (sym a.1 ∙ b.1) le

  pub starts_longer : (log s t : List (ℕ × E)) → StartsWith log s → StartsWith log t → StartsWith log (longer s t)
  starts_longer log s t a b = dite (dec_le (length s) (length t))
      (λ le. subst (λ (l : List (ℕ × E)). StartsWith log l) (sym (longer-right s t le)) b)
      (λ lt. subst (λ (l : List (ℕ × E)). StartsWith log l) (sym (longer-left s t (omega arith))) a)

  pub longer_starts_left : (log s t : List (ℕ × E)) → StartsWith log s → StartsWith log t → StartsWith (longer s t) s
  longer_starts_left log s t a b = dite (dec_le (length s) (length t))
      (λ le. subst (λ (l : List (ℕ × E)). StartsWith l s) (sym (longer-right s t le)) (starts_shorter log s t a b le))
      (λ lt. subst (λ (l : List (ℕ × E)). StartsWith l s) (sym (longer-left s t (omega arith))) ([], sym (append-nil s)))

  pub longer_starts_right : (log s t : List (ℕ × E)) → StartsWith log s → StartsWith log t → StartsWith (longer s t) t
  longer_starts_right log s t a b = dite (dec_le (length s) (length t))
      (λ le. subst (λ (l : List (ℕ × E)). StartsWith l t) (sym (longer-right s t le)) ([], sym (append-nil t)))
      (λ lt. subst (λ (l : List (ℕ × E)). StartsWith l t) (sym (longer-left s t (omega arith))) (starts_shorter log t s b a (omega arith)))

  -- a number with no entry after a beginning of the history has none up to any longer beginning
  pub by-between : (n : ℕ) (log t s : List (ℕ × E)) → by n log ≡ by n s → StartsWith log t → StartsWith t s → by n t ≡ by n s
  by-between n log t s same a b =
      let upper : by n log ≡ by n t ++ by n a.0 = ap (by n) a.1 ∙ by-append n t a.0 in
      let lower : by n t ≡ by n s ++ by n b.0 = ap (by n) b.1 ∙ by-append n s b.0 in
      let both : (by n s ++ by n b.0) ++ by n a.0 ≡ by n s = ap (λ l. l ++ by n a.0) (sym lower) ∙ sym upper ∙ same in
      let none : by n b.0 ≡ [] = empty_of_append (by n s) (by n b.0) (by n a.0) both in
      lower ∙ ap (λ l. by n s ++ l) none ∙ append-nil (by n s)

  pub by-longer_left : (n : ℕ) (log s t : List (ℕ × E)) → StartsWith log s → StartsWith log t → by n log ≡ by n s → by n (longer s t) ≡ by n s
  by-longer_left n log s t a b same = by-between n log (longer s t) s same (starts_longer log s t a b) (longer_starts_left log s t a b)

  pub by-longer_right : (n : ℕ) (log s t : List (ℕ × E)) → StartsWith log s → StartsWith log t → by n log ≡ by n t → by n (longer s t) ≡ by n t
  by-longer_right n log s t a b same = by-between n log (longer s t) t same (starts_longer log s t a b) (longer_starts_right log s t a b)

  -- a number with no entry in the history has none in a beginning of it
  pub none_before : (n : ℕ) (log seen : List (ℕ × E)) → by n log ≡ [] → StartsWith log seen → by n seen ≡ []
  none_before n log seen none s = empty_of_append [] (by n seen) (by n s.0) (sym (by-append n seen s.0) ∙ ap (by n) (sym s.1) ∙ none)

  nothing_more : (seen rest : List (ℕ × E)) → ((n : ℕ) → by n (seen ++ rest) ≡ by n seen) → rest ≡ []
  nothing_more seen [] each = refl
  nothing_more seen (x ∷ xs) each =
      let here : by x.0 (seen ++ x ∷ xs) ≡ by x.0 seen ++ (x ∷ by x.0 xs) = by-append x.0 seen (x ∷ xs) ∙ ap (λ b. by x.0 seen ++ cond b (x ∷ by x.0 xs) (by x.0 xs)) (eq-eqb x.0 x.0 refl) in
      absurd (omega (arith, ap length (sym here ∙ each x.0), length-append (by x.0 seen) (x ∷ by x.0 xs)))

  -- a beginning that has all entries of every number is the whole
  pub whole : (log seen : List (ℕ × E)) → StartsWith log seen → ((n : ℕ) → by n log ≡ by n seen) → log ≡ seen
  whole log seen s each =
      let none : s.0 ≡ [] = nothing_more seen s.0 (λ n. ap (by n) (sym s.1) ∙ each n) in
      s.1 ∙ ap (λ l. seen ++ l) none ∙ append-nil seen
