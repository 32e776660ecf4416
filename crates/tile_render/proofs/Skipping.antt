-- Features that are far from the window are passed over.
use Rattle.std.proofs.Common.{◌≡◌, ℕ, ◌+◌, ◌*◌, ◌^◌, ◌<◌, ◌≤◌, Bool, true, false, ◌&&◌, List, [], ◌∷◌, map, fold, refl, ap, sym, ◌∙◌, arith}
use Rattle.std.specs.Prelude.{nat_le, cond, IsTrue}
use Rattle.std.proofs.Math.Nat.{mul-le-mul_right}
use Rattle.std.proofs.lemmas.Bool.{and_from, le-leb, false_from_ne_true}
use Rattle.plain_world.specs.declared.world.Window.{Window}
use Rattle.plain_drawing.specs.declared.style.Symbolizer.{Symbolizer}
use Rattle.plain_world.specs.World.{IsWindow, centre}
use Rattle.plain_shapes.specs.Features.{Feature}
use Rattle.plain_drawing.specs.Styles.{Style, is_paint}
use Rattle.plain_shapes.specs.Images.{Pixels}
use Rattle.plain_drawing.specs.Drawing.{covers, feature}
use Rattle.plain_drawing.specs.inner.Pictures.{with_item}
use Rattle.geo_model.specs.declared.bounds.Bounds.{Bounds}
use Rattle.geo_model.specs.Bounds.{bounds_of, meets}
use Rattle.geo_model.specs.Shapes.{parts_of}
use Rattle.data_versions.specs.Near.{is_near, all_near}
use Rattle.drawing_reach.specs.inner.Spreads.{Beside}
use Rattle.plain_drawing.specs.Styles.{KeepsRanges}
use Rattle.drawing_reach.proofs.Boxes.{box_holds, box_west, box_north}
use Rattle.drawing_reach.proofs.Reaching.{covered_within}
use Rattle.drawing_reach.proofs.Unreached.{Misses, all_centres, item_missed}
use Rattle.tile_render.specs.inner.Regions.{around}

-- ---- a feature far from the window leaves the picture

-- a centre of the window beside the box puts the box near the window
meets_near : (w : Window) (b : Bounds) (i j : ℕ) → i < w.cols → j < w.rows → 1 ≤ w.pixel → b.west ≤ 2 ^ 30 → b.north ≤ 2 ^ 30
    → Beside b (64 * w.pixel) (64 * w.pixel) (centre w i j) → meets b (around w) ≡ true
meets_near w b i j hi hj some west north near =
    let col : i + 1 ≤ w.cols = omega arith in
    let row : j + 1 ≤ w.rows = omega arith in
    let x = mul-le-mul_right w.pixel col in
    let y = mul-le-mul_right w.pixel row in
    let n = around w in
    let a : nat_le b.west n.east ≡ true = le-leb b.west n.east (omega (arith, near.west)) in
    let c : nat_le n.west b.east ≡ true = le-leb n.west b.east (omega (arith, near.east)) in
    let d : nat_le b.north n.south ≡ true = le-leb b.north n.south (omega (arith, near.north)) in
    let e : nat_le n.north b.south ≡ true = le-leb n.north b.south (omega (arith, near.south)) in
    and_from (nat_le b.west n.east && nat_le n.west b.east && nat_le b.north n.south) (nat_le n.north b.south)
    (and_from (nat_le b.west n.east && nat_le n.west b.east) (nat_le b.north n.south) (and_from (nat_le b.west n.east) (nat_le n.west b.east) a c) d) e

far_misses : (w : Window) (f : Feature) (s : Symbolizer) → IsWindow w → IsTrue (is_paint s) → is_near (around w) f ≡ false → Misses w f s
far_misses w f s ok valid far = all_centres (λ c. covers w.pixel f.geometry c s ≡ false) w (λ j i hi hj.
    false_from_ne_true (covers w.pixel f.geometry (centre w i j) s) (λ e.
    (let parts = parts_of f.geometry in
    let near = meets_near w (bounds_of parts) i j hi hj ok.some_pixel (box_west parts) (box_north parts)
    (covered_within (bounds_of parts) w.pixel f.geometry (centre w i j) s valid (box_holds parts) e) in
    cc)))

pub far_item : (w : Window) (d : ℕ) (style : Style) (f : Feature) (image : Pixels) → IsWindow w → KeepsRanges style → is_near (around w) f ≡ false
    → with_item w d style image (feature f) ≡ image
far_item w d style f image ok keeps far = item_missed w d style image f keeps (λ s valid. far_misses w f s ok valid far)

near_step : (b : Bool) (w : Window) (d : ℕ) (style : Style) (f : Feature) (features near : List Feature) (image : Pixels) → IsWindow w → KeepsRanges style
    → is_near (around w) f ≡ b → ((i : Pixels) → fold (with_item w d style) i (map feature near) ≡ fold (with_item w d style) i (map feature features))
    → fold (with_item w d style) image (map feature (cond b (f ∷ near) near)) ≡ fold (with_item w d style) image (map feature (f ∷ features))
near_step true w d style f features near image ok keeps is later = later (with_item w d style image (feature f))
near_step false w d style f features near image ok keeps far later =
    later image ∙ ap (λ i. fold (with_item w d style) i (map feature features)) (sym (far_item w d style f image ok keeps far))

-- the near features draw what all of them draw
pub near_drawn : (w : Window) (d : ℕ) (style : Style) (features : List Feature) (image : Pixels) → IsWindow w → KeepsRanges style
    → fold (with_item w d style) image (map feature (all_near features (around w))) ≡ fold (with_item w d style) image (map feature features)
near_drawn w d style [] image ok keeps = refl
near_drawn w d style (f ∷ features) image ok keeps =
    near_step (is_near (around w) f) w d style f features (all_near features (around w)) image ok keeps refl (λ i. near_drawn w d style features i ok keeps)

-- the first of them is drawn, and the rest is left
pub one_drawn : (w v : Window) (d : ℕ) (style : Style) (f : Feature) (features rest : List Feature) (now after : Pixels) → features ≡ f ∷ rest → v ≡ w
    → after ≡ with_item v d style now (feature f) → fold (with_item w d style) after (map feature rest) ≡ fold (with_item w d style) now (map feature features)
one_drawn w v d style f features rest now after first same step =
    ap (λ i. fold (with_item w d style) i (map feature rest)) (step ∙ ap (λ u. with_item u d style now (feature f)) same)
    ∙ ap (λ fs. fold (with_item w d style) now (map feature fs)) (sym first)
