-- The pixels of a window changed by their centres, one after another.
use Rattle.std.proofs.Common.{◌≡◌, ℕ, zero, suc, ◌+◌, ◌-◌, ◌*◌, ◌/◌, ◌%◌, ◌<◌, ◌≤◌, List, length, take, get_or, refl, ap, sym, ◌∙◌, arith}
use Rattle.std.proofs.Math.Nat.{div-add-mod, mod-lt}
use Rattle.std.proofs.lemmas.List.{take_all}
use Rattle.std.proofs.lemmas.Nat.{div_below}
use Rattle.plain_world.specs.declared.world.Point.{Point}
use Rattle.plain_world.specs.declared.world.Window.{Window}
use Rattle.plain_shapes.specs.declared.colour.Colour.{Colour}
use Rattle.plain_world.specs.World.{centre, centres}
use Rattle.plain_shapes.specs.Images.{Pixels}
use Rattle.plain_shapes.specs.inner.Canvas.{at_centres, stepped}
use Rattle.plain_shapes.proofs.Places.{length-centres, get_or-centres}
use Rattle.tile_render.specs.inner.Regions.{Changed}
use Rattle.tile_render.proofs.Pixels.{unchanged_at, next_changed}

pub changed_start : (f : Point → Colour → Colour) (w : Window) (start : Pixels) → Changed f w 0 start start
changed_start f w start = record { is = refl }

at_off : (f : Point → Colour → Colour) (cs : List Point) (xs : List Colour) (n : ℕ) (d : Point) → n < length cs → ((x : Colour) → f (get_or cs n d) x ≡ x)
    → at_centres f (take (suc n) cs) xs ≡ at_centres f (take n cs) xs
at_off f cs xs n d within same =
    sym (next_changed f cs xs n d within) ∙ sym (unchanged_at f (get_or cs n d) same n (at_centres f (take n cs) xs))

at_skip : (f : Point → Colour → Colour) (cs : List Point) (xs : List Colour) (n k : ℕ) (d : Point) → n + k ≤ length cs
    → ((p : ℕ) → n ≤ p → p < n + k → (x : Colour) → f (get_or cs p d) x ≡ x)
    → at_centres f (take (n + k) cs) xs ≡ at_centres f (take n cs) xs
at_skip f cs xs n zero d fits off = ap (λ v. at_centres f (take v cs) xs) (let e : n + 0 ≡ n = omega arith in e)
at_skip f cs xs n (suc k) d fits off =
    ap (λ v. at_centres f (take v cs) xs) (let e : n + suc k ≡ suc (n + k) = omega arith in e)
    ∙ at_off f cs xs (n + k) d (omega arith) (off (n + k) (omega arith) (omega arith))
    ∙ at_skip f cs xs n k d (omega arith) (λ p low high. off p low (omega arith))

-- past pixels that the step does not change
pub changed_skip : (f : Point → Colour → Colour) (w : Window) (n next : ℕ) (start now : Pixels) → 1 ≤ w.cols → n ≤ next → next ≤ w.rows * w.cols
    → ((j i : ℕ) → i < w.cols → j < w.rows → n ≤ j * w.cols + i → j * w.cols + i < next → (x : Colour) → f (centre w i j) x ≡ x)
    → Changed f w n start now → Changed f w next start now
changed_skip f w n next start now some le fits off r =
    let d : Point = record { x = 0; y = 0 } in
    let k : ℕ = next - n in
    let at : n + k ≡ next = omega arith in
    let each : (p : ℕ) → n ≤ p → p < n + k → (x : Colour) → f (get_or (centres w) p d) x ≡ x = λ p low high x.
    (let split : p / w.cols * w.cols + p % w.cols ≡ p = omega (arith, div-add-mod p w.cols) in
    let col : p % w.cols < w.cols = mod-lt p (omega arith) in
    let row : p / w.cols < w.rows = div_below p w.cols w.rows some (omega arith) in
    ap (λ q. f (get_or (centres w) q d) x) (sym split)
    ∙ ap (λ c. f c x) (get_or-centres w (p / w.cols) (p % w.cols) d col row)
    ∙ off (p / w.cols) (p % w.cols) col row (omega arith) (omega arith) x) in
    record {
      is = r.is ∙ ap (λ ps. record start { pixels = ps })
          (sym (at_skip f (centres w) start.pixels n k d (omega (arith, length-centres w)) each) ∙ ap (λ q. at_centres f (take q (centres w)) start.pixels) at);
    }

pub changed_end : (f : Point → Colour → Colour) (w : Window) (n : ℕ) (start now : Pixels) → n ≡ w.rows * w.cols → Changed f w n start now → now ≡ stepped w f start
changed_end f w n start now e r = r.is ∙ ap (λ cs. record start { pixels = at_centres f cs start.pixels })
    (ap (λ k. take k (centres w)) (e ∙ sym (length-centres w)) ∙ take_all (length (centres w)) (centres w) (omega arith))
