-- A run of colours among bytes.
use Rattle.std.proofs.Common.{◌≡◌, ℕ, ◌+◌, ◌-◌, ◌*◌, ◌/◌, List, [], ◌∷◌, ◌++◌, length, take, drop, map, replicate, flat_map, refl, ap, sym, ◌∙◌, arith, append_assoc}
use Rattle.std.proofs.lemmas.List.{take_at, drop_at, take_all, drop_all, append-nil}
use Rattle.std.proofs.lemmas.Grind.{flat_map-append}
use borrow.Rule.Slice.PartMut.{put_mid}
use Rattle.plain_shapes.specs.declared.colour.Colour.{Colour}
use Rattle.plain_shapes.specs.Ppm.{pixel_bytes}
use Rattle.plain_shapes.specs.Blending.{blend}
use Rattle.plain_image.specs.Runs.{run_changed}

-- its bytes stand between those before it and those behind it
pub regroup : (a b : List ℕ) (x m y : List Colour)
    → a ++ (flat_map pixel_bytes (x ++ m ++ y) ++ b) ≡ (a ++ flat_map pixel_bytes x) ++ (flat_map pixel_bytes m ++ (flat_map pixel_bytes y ++ b))
regroup a b x m y =
    ap (λ bs. a ++ (bs ++ b)) (flat_map-append pixel_bytes (x ++ m) y)
    ∙ ap (λ bs. a ++ ((bs ++ flat_map pixel_bytes y) ++ b)) (flat_map-append pixel_bytes x m)
    ∙ simp append_assoc

pub between : {X : Type 0} (p m q : List X) (i n : ℕ) → length p ≡ i → length m ≡ n → take n (drop i (p ++ (m ++ q))) ≡ m
between p m q i n place size = ap (λ xs. take n xs) (drop_at p (m ++ q) i place) ∙ take_at m q n size

-- others in its place
pub put_between : {X : Type 0} (p m q ys : List X) (i n : ℕ) → length p ≡ i → length m ≡ n → put_mid i n (p ++ (m ++ q)) ys ≡ p ++ (ys ++ q)
put_between p m q ys i n place size =
    ap (λ xs. xs ++ (ys ++ drop n (drop i (p ++ (m ++ q))))) (take_at p (m ++ q) i place)
    ∙ ap (λ xs. p ++ (ys ++ xs)) (ap (λ xs. drop n xs) (drop_at p (m ++ q) i place) ∙ drop_at m q n size)

-- a run that is all of the list
pub run_whole : {X : Type 0} (f : X → X) (n : ℕ) (xs : List X) → length xs ≡ n → run_changed f 0 n xs ≡ map f xs
run_whole f n xs size =
    ap (λ ys. map f ys ++ drop n xs) (take_all n xs (omega arith)) ∙ ap (λ ys. map f xs ++ ys) (drop_all n xs (omega arith)) ∙ append-nil (map f xs)

opaque_channel : (s d : ℕ) → s ≡ (s * 1000 + d * (1000 - 1000) + 500) / 1000
opaque_channel s d = omega arith

-- what is opaque hides what it is painted over
pub hidden : (c : Colour) (n : ℕ) (ds : List Colour) → length ds ≡ n → replicate n c ≡ map (blend c 1000) ds
hidden c n [] size = ap (λ k. replicate k c) (sym size)
hidden c n (d ∷ ds) size =
    ap (λ k. replicate k c) (sym size)
    ∙ (λ i. record { r = opaque_channel c.r d.r i; g = opaque_channel c.g d.g i; b = opaque_channel c.b d.b i } ∷ hidden c (length ds) ds refl i)
