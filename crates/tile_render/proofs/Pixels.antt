-- Pixels changed one after another.
use Rattle.std.proofs.Common.{◌≡◌, ℕ, zero, suc, ◌<◌, refl, ap, sym, arith, List, [], ◌∷◌, length, take, get_or}
use Rattle.plain_world.specs.declared.world.Point.{Point}
use Rattle.plain_shapes.specs.inner.Canvas.{at_centres}
use Rattle.tile_render.specs.inner.Places.{changed_at}

-- a step that leaves this element as it is changes nothing
pub unchanged_at : {X : Type 0} (f : Point → X → X) (c : Point) → ((x : X) → f c x ≡ x) → (place : ℕ) (xs : List X) → xs ≡ changed_at f place c xs
unfolding changed_at
unchanged_at f c same zero [] = refl
unchanged_at f c same zero (x ∷ xs) = ap (λ y. y ∷ xs) (sym (same x))
unchanged_at f c same (suc n) [] = refl
unchanged_at f c same (suc n) (x ∷ xs) = ap (λ ys. x ∷ ys) (unchanged_at f c same n xs)

-- one more centre is one more element changed
pub next_changed : {X : Type 0} (f : Point → X → X) (cs : List Point) (xs : List X) (n : ℕ) (d : Point) → n < length cs
    → changed_at f n (get_or cs n d) (at_centres f (take n cs) xs) ≡ at_centres f (take (suc n) cs) xs
unfolding changed_at
next_changed f [] xs n d h = absurd (omega arith)
next_changed f (c ∷ cs) xs zero d h = refl
next_changed f (c ∷ cs) [] (suc n) d h = refl
next_changed f (c ∷ cs) (x ∷ xs) (suc n) d h = ap (λ ys. f c x ∷ ys) (next_changed f cs xs n d (omega arith))
