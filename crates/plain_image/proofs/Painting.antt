-- One more pixel painted: what a loop over the bits leaves.
use Rattle.std.proofs.Common.{◌≡◌, ℕ, suc, zero, ◌+◌, ◌<◌, Bool, true, false, cond, List, [], ◌∷◌, length, take, get_or, set, refl, ap, ◌∙◌, arith, add-one, Some}
use Rattle.std.specs.Prelude.{slice_get}
use Rattle.plain_shapes.specs.declared.colour.Colour.{Colour}
use Rattle.plain_shapes.specs.inner.Canvas.{painted}
use Rattle.plain_shapes.specs.Blending.{blend}

yes : (s : Colour) (a : ℕ) (bs : List Bool) (ds : List Colour) (k : ℕ) (e : Colour) → k < length bs → get_or bs k false ≡ true → painted s a (take (suc k) bs) ds ≡ set (painted s a (take k bs) ds) k (blend s a (get_or (painted s a (take k bs) ds) k e))
yes s a [] ds k e lt h = absurd (omega arith)
yes s a (b ∷ bs) [] zero e lt h = refl
yes s a (b ∷ bs) [] (suc k) e lt h = refl
yes s a (b ∷ bs) (d ∷ ds) zero e lt h = ap (λ v. cond v (blend s a d) d ∷ ds) h
yes s a (b ∷ bs) (d ∷ ds) (suc k) e lt h = ap (λ v. cond b (blend s a d) d ∷ v) (yes s a bs ds k e (omega arith) h)

no : (s : Colour) (a : ℕ) (bs : List Bool) (ds : List Colour) (k : ℕ) → k < length bs → get_or bs k false ≡ false → painted s a (take (suc k) bs) ds ≡ painted s a (take k bs) ds
no s a [] ds k lt h = absurd (omega arith)
no s a (b ∷ bs) [] zero lt h = refl
no s a (b ∷ bs) [] (suc k) lt h = refl
no s a (b ∷ bs) (d ∷ ds) zero lt h = ap (λ v. cond v (blend s a d) d ∷ ds) h
no s a (b ∷ bs) (d ∷ ds) (suc k) lt h = ap (λ v. cond b (blend s a d) d ∷ v) (no s a bs ds k (omega arith) h)

there : (ps : List Colour) (k : ℕ) (d e : Colour) → slice_get ps k ≡ Some d → get_or ps k e ≡ d
there [] k d e h = absurd (cc)
there (p ∷ ps) zero d e h = cc
there (p ∷ ps) (suc k) d e h = there ps k d e h

pub painted_at : (s : Colour) (a : ℕ) (bs : List Bool) (ds : List Colour) (k : ℕ) (d : Colour) → k < length bs → get_or bs k false ≡ true → slice_get (painted s a (take k bs) ds) k ≡ Some d
    → painted s a (take (k + 1) bs) ds ≡ set (painted s a (take k bs) ds) k (blend s a d)
painted_at s a bs ds k d lt h at =
    rw (add-one k) (yes s a bs ds k d lt h ∙ ap (λ e. set (painted s a (take k bs) ds) k (blend s a e)) (there (painted s a (take k bs) ds) k d d at))

pub painted_no : (s : Colour) (a : ℕ) (bs : List Bool) (ds : List Colour) (k : ℕ) → k < length bs → get_or bs k false ≡ false → painted s a (take (k + 1) bs) ds ≡ painted s a (take k bs) ds
painted_no s a bs ds k lt h = rw (add-one k) (no s a bs ds k lt h)
