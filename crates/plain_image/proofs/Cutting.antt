-- One more row of a part of an image.
use Rattle.std.proofs.Common.{◌≡◌, ℕ, suc, zero, ◌+◌, ◌*◌, ◌≤◌, ◌<◌, length, List, [], ◌∷◌, ◌++◌, take, drop, flat_map, ap, subst, ◌∙◌, arith, add-one, length-append}
use Rattle.std.proofs.lemmas.List.{append-nil, length-take, length-drop}
use Rattle.std.proofs.Math.Nat.{mul-le-mul_right}
use Rattle.std.specs.List.{range_with_len}
use Rattle.std.proofs.lemmas.Grind.{flat_map-append}
use Rattle.plain_shapes.specs.inner.Canvas.{cut_rows}

range_suc : (a n : ℕ) → range_with_len a (suc n) ≡ range_with_len a n ++ (a + n) ∷ []
range_suc a zero = ap (λ k. k ∷ []) (omega arith)
range_suc a (suc n) =
    let e : a + 1 + n ≡ a + suc n = omega arith in
    ap (λ ks. a ∷ ks) (range_suc (a + 1) n ∙ ap (λ k. range_with_len (a + 1) n ++ k ∷ []) e)

pub cut_more : {X : Type 0} (across col row cols n j : ℕ) (xs : List X) → row + n ≡ j
    → cut_rows across col row cols (n + 1) xs ≡ cut_rows across col row cols n xs ++ take cols (drop (j * across + col) xs)
cut_more across col row cols n j xs e =
    let f = λ (k : ℕ). take cols (drop (k * across + col) xs) in
    ap (λ k. flat_map f (range_with_len row k)) (add-one n)
    ∙ ap (λ ks. flat_map f ks) (range_suc row n)
    ∙ flat_map-append f (range_with_len row n) ((row + n) ∷ [])
    ∙ ap (λ ys. flat_map f (range_with_len row n) ++ ys) (append-nil (f (row + n)) ∙ ap f e)

pub part_len : {X : Type 0} (xs : List X) (s n : ℕ) → s + n ≤ length xs → length (take n (drop s xs)) ≡ n
part_len xs s n h = omega (arith, length-take n (drop s xs), length-drop s xs)

pub part_fits : (across col row cols rows j len : ℕ) → col + cols ≤ across → j < row + rows → (row + rows) * across ≤ len → j * across + col + cols ≤ len
part_fits across col row cols rows j len a b h =
    let k : j + 1 ≤ row + rows = omega arith in
    omega (arith, mul-le-mul_right across k)

-- a part that is inside has as many elements as its sides make
pub cut_len : {X : Type 0} (across col row cols rows : ℕ) (xs : List X) → col + cols ≤ across → (row + rows) * across ≤ length xs
    → length (cut_rows across col row cols rows xs) ≡ rows * cols
cut_len across col row cols zero xs a h = omega arith
cut_len across col row cols (suc n) xs a h =
    let e : row + suc n ≡ row + 1 + n = omega arith in
    let first : length (take cols (drop (row * across + col) xs)) ≡ cols = part_len xs (row * across + col) cols (part_fits across col row cols (suc n) row (length xs) a (omega arith) h) in
    let rest : length (cut_rows across col (row + 1) cols n xs) ≡ n * cols = cut_len across col (row + 1) cols n xs a (subst (λ k. k * across ≤ length xs) e h) in
    omega (arith, length-append (take cols (drop (row * across + col) xs)) (cut_rows across col (row + 1) cols n xs), first, rest)
