-- Runs painted straight on the picture, one after another, at full opacity.
use Rattle.std.proofs.Common.{◌≡◌, ℕ, zero, suc, ◌+◌, ◌-◌, ◌*◌, ◌/◌, ◌%◌, ◌<◌, ◌≤◌, ◌⊎◌, Bool, true, false, List, [], ◌∷◌, length, get_or, replicate, refl, ap, sym, ◌∙◌, inl, inr, arith}
use Rattle.std.specs.Prelude.{if◌then◌else◌, ⊤}
use Rattle.std.proofs.Math.Nat.{mul-le-mul_right, div-add-mod, mod-lt}
use Rattle.std.proofs.lemmas.Bool.{cases_lt, true≢false}
use Rattle.std.proofs.lemmas.List.{get_or-replicate, get_or_past, ext_get_or, length-replicate}
use Rattle.std.proofs.lemmas.Nat.{div_below}
use Rattle.tiled_image.proofs.JoinedRuns.{run_at, run_before, run_behind}
use Rattle.plain_world.specs.declared.world.Point.{Point}
use Rattle.plain_world.specs.declared.world.Window.{Window}
use Rattle.plain_world.specs.World.{centre, centres}
use Rattle.plain_shapes.specs.declared.colour.Colour.{Colour}
use Rattle.plain_shapes.specs.Blending.{blend_channel, blend}
use Rattle.plain_shapes.specs.Images.{Bits, Pixels, IsRaster}
use Rattle.plain_shapes.specs.inner.Canvas.{at_centres, marked, stepped}
use Rattle.plain_shapes.proofs.Places.{length-centres, get_or-centres}
use Rattle.plain_image.specs.Runs.{run_changed}
use Rattle.plain_image.specs.Surfaces.{ShowsSome, Becomes, Marks}
use Rattle.plain_image.proofs.Runs.{run_length}
use Rattle.tile_render.specs.declared.regions.Region.{Region}
use Rattle.tile_render.specs.declared.brushes.Brush.{Brush}
use Rattle.tile_render.specs.inner.Regions.{IsRegion, InRegion, region_window, Holds, Tells, over_member}
use Rattle.tile_render.specs.inner.Canvases.{IsCanvas}
use Rattle.tile_render.specs.inner.Brushes.{brush_cols, brush_rows, IsOver, HasColour, ShowsBits}
use Rattle.tile_render.proofs.Covering.{region_told}

-- ---- what stands at a place of a list after a run of it is changed

-- a place before a run, or past it
abbrev pub Beyond : ℕ → ℕ → ℕ → Type 0
Beyond k s n = (k < s) ⊎ (s + n ≤ k)

pub run_beyond : {X : Type 0} (f : X → X) (s n : ℕ) (xs : List X) (k : ℕ) (d : X) → Beyond k s n → get_or (run_changed f s n xs) k d ≡ get_or xs k d
run_beyond f s n xs k d out = elim out [ inl lt ↦ run_before f s n k xs d lt | inr le ↦ run_behind f s n k xs d le ]

-- ---- one run more

-- a pixel of the region: in the run, or beyond it in the bits and in the picture
pub record InRun (v i j from n : ℕ) : Type 0 where
  pub row : v ≡ j
  pub from_col : from ≤ i
  pub to_col : i < from + n

pub record OutRun (r : Region) (across v i j from n : ℕ) : Type 0 where
  pub bits : Beyond (v * r.cols + i) (j * r.cols + from) n
  pub pixels : Beyond ((r.row + v) * across + (r.col + i)) ((r.row + j) * across + (r.col + from)) n

spot : (r : Region) (across v i j from n : ℕ) → r.col + r.cols ≤ across → i < r.cols → from + n ≤ r.cols → InRun v i j from n ⊎ OutRun r across v i j from n
spot r across v i j from n fits hi run = elim (cases_lt v j) [
  | inl up ↦ inr (
      let above : v + 1 ≤ j = omega arith in
      let down : r.row + v + 1 ≤ r.row + j = omega arith in
      record {
        bits = inl (omega (arith, mul-le-mul_right r.cols above));
        pixels = inl (omega (arith, mul-le-mul_right across down));
      })
  | inr level ↦ (elim (cases_lt j v) [
    | inl under ↦ inr (
        let below : j + 1 ≤ v = omega arith in
        let down : r.row + j + 1 ≤ r.row + v = omega arith in
        record {
          bits = inr (omega (arith, mul-le-mul_right r.cols below));
          pixels = inr (omega (arith, mul-le-mul_right across down));
        })
    | inr here ↦ (
        let e : v ≡ j = omega arith in
        let a = ap (λ k. k * r.cols) e in
        let b = ap (λ k. (r.row + k) * across) e in
        elim (cases_lt i from) [
          | inl west ↦ inr (record { bits = inl (omega (arith, a)); pixels = inl (omega (arith, b)) })
          | inr west ↦ (elim (cases_lt i (from + n)) [
            | inl east ↦ inl (record { row = e; from_col = west; to_col = east })
            | inr east ↦ inr (record { bits = inr (omega (arith, a)); pixels = inr (omega (arith, b)) })
          ])
        ])
  ])
]

-- a pixel outside the region is beyond each of its runs
afar : (r : Region) (across v u j from n : ℕ) → r.col + r.cols ≤ across → u < across → j < r.rows → from + n ≤ r.cols → (InRegion r u v → ⊥)
    → Beyond (v * across + u) ((r.row + j) * across + (r.col + from)) n
afar r across v u j from n fits hu hj run out = elim (cases_lt v (r.row + j)) [
  | inl up ↦ (let above : v + 1 ≤ r.row + j = omega arith in inl (omega (arith, mul-le-mul_right across above)))
  | inr level ↦ (elim (cases_lt (r.row + j) v) [
    | inl under ↦ (let below : r.row + j + 1 ≤ v = omega arith in inr (omega (arith, mul-le-mul_right across below)))
    | inr here ↦ (
        let e : v ≡ r.row + j = omega arith in
        let b = ap (λ k. k * across) e in
        elim (cases_lt u (r.col + from)) [
          | inl west ↦ inl (omega (arith, b))
          | inr west ↦ (elim (cases_lt u (r.col + from + n)) [
            | inl east ↦ absurd (out (record { from_col = omega arith; to_col = omega arith; from_row = omega arith; to_row = omega arith }))
            | inr east ↦ inr (omega (arith, b))
          ])
        ])
  ])
]

-- a colour painted in full opacity
pub full_over : (s d : Colour) → blend s 1000 d ≡ s
full_over s d = λ i. record { r = channel s.r d.r i; g = channel s.g d.g i; b = channel s.b d.b i }
  where
    channel : (s d : ℕ) → blend_channel 1000 s d ≡ s
    channel s d = omega arith

-- a run of a row painted in full opacity, where its bits are set; that some of them were set and painted before makes no difference
pub run_painted : (r : Region) (colour : Colour) (bits next : List Bool) (start now after : Pixels) (j from end : ℕ) → IsOver r start → length bits ≡ r.rows * r.cols
    → j < r.rows → from ≤ end → end ≤ r.cols → next ≡ run_changed (λ _. true) (j * r.cols + from) (end - from) bits
    → after ≡ record now { pixels = run_changed (blend colour 1000) ((r.row + j) * now.cols + (r.col + from)) (r.col + end - (r.col + from)) now.pixels }
    → HasColour r colour bits start now → HasColour r colour next start after
run_painted r colour bits next start now after j from end over count hj order fits next_is after_is p = record {
  cols = ap (λ m. m.cols) after_is ∙ p.cols;
  rows = ap (λ m. m.rows) after_is ∙ p.rows;
  count = ap length pixels ∙ run_length (blend colour 1000) place n now.pixels ∙ p.count;
  on = λ v i hv hi set. elim (spot r across v i j from n over.in_cols hi run) [
    | inl here ↦ ap (λ ps. get_or ps (at v i) colour) pixels
        ∙ run_at (blend colour 1000) place n (at v i) now.pixels colour (low v i here) (high v i here) (inside v i hv hi)
        ∙ full_over colour (get_or now.pixels (at v i) colour)
    | inr far ↦ kept v i far ∙ p.on v i hv hi (sym (same v i far) ∙ set)
  ];
  off = λ v i hv hi unset. elim (spot r across v i j from n over.in_cols hi run) [
    | inl here ↦ absurd (true≢false (sym (set_here v i hv hi here) ∙ unset))
    | inr far ↦ kept v i far ∙ p.off v i hv hi (sym (same v i far) ∙ unset)
  ];
  out = λ v u hu far.
      ap (λ ps. get_or ps (v * across + u) colour) pixels
      ∙ run_beyond (blend colour 1000) place n now.pixels (v * across + u) colour (afar r across v u j from n over.in_cols hu hj run far)
      ∙ p.out v u hu far;
}
  where
    across : ℕ
    across = start.cols

    n : ℕ
    n = end - from

    run : from + n ≤ r.cols
    run = omega arith

    place : ℕ
    place = (r.row + j) * across + (r.col + from)

    at : ℕ → ℕ → ℕ
    at v i = (r.row + v) * across + (r.col + i)

    pixels : after.pixels ≡ run_changed (blend colour 1000) place n now.pixels
    pixels =
        let size : r.col + end - (r.col + from) ≡ n = omega arith in
        ap (λ m. m.pixels) after_is
        ∙ ap (λ k. run_changed (blend colour 1000) ((r.row + j) * k + (r.col + from)) (r.col + end - (r.col + from)) now.pixels) p.cols
        ∙ ap (λ k. run_changed (blend colour 1000) place k now.pixels) size

    low : (v i : ℕ) → InRun v i j from n → place ≤ at v i
    low v i here = omega (arith, here.from_col, ap (λ k. (r.row + k) * across) here.row)

    high : (v i : ℕ) → InRun v i j from n → at v i < place + n
    high v i here = omega (arith, here.to_col, ap (λ k. (r.row + k) * across) here.row)

    inside : (v i : ℕ) → v < r.rows → i < r.cols → at v i < length now.pixels
    inside v i hv hi =
        let down : r.row + v + 1 ≤ start.rows = omega (arith, over.in_rows) in
        omega (arith, p.count, over.raster.count_is, over.in_cols, mul-le-mul_right across down)

    kept : (v i : ℕ) → OutRun r across v i j from n → get_or after.pixels (at v i) colour ≡ get_or now.pixels (at v i) colour
    kept v i far = ap (λ ps. get_or ps (at v i) colour) pixels ∙ run_beyond (blend colour 1000) place n now.pixels (at v i) colour far.pixels

    same : (v i : ℕ) → OutRun r across v i j from n → get_or next (v * r.cols + i) false ≡ get_or bits (v * r.cols + i) false
    same v i far = ap (λ bs. get_or bs (v * r.cols + i) false) next_is ∙ run_beyond (λ _. true) (j * r.cols + from) n bits (v * r.cols + i) false far.bits

    set_here : (v i : ℕ) → v < r.rows → i < r.cols → InRun v i j from n → get_or next (v * r.cols + i) false ≡ true
    set_here v i hv hi here =
        let down : v + 1 ≤ r.rows = omega arith in
        let a = ap (λ k. k * r.cols) here.row in
        ap (λ bs. get_or bs (v * r.cols + i) false) next_is
        ∙ run_at (λ _. true) (j * r.cols + from) n (v * r.cols + i) bits false (omega (arith, here.from_col, a)) (omega (arith, here.to_col, a))
        (omega (arith, count, mul-le-mul_right r.cols down))

-- ---- no run, and all runs

pub unset : (n k : ℕ) → get_or (replicate n false) k false ≡ false
unset n k = elim (cases_lt k n) [
  | inl lt ↦ get_or-replicate n k false false lt
  | inr past ↦ get_or_past (replicate n false) k false (omega (arith, length-replicate n false))
]

-- nothing is painted yet
pub none_painted : (r : Region) (colour : Colour) (n : ℕ) (start : Pixels) → HasColour r colour (replicate n false) start start
none_painted r colour n start = record {
  cols = refl;
  rows = refl;
  count = refl;
  on = λ j i hj hi set. absurd (true≢false (sym set ∙ unset n (j * r.cols + i)));
  off = λ j i hj hi off. refl;
  out = λ j i hi far. refl;
}

at_get : (f : Point → Colour → Colour) (cs : List Point) (xs : List Colour) (k : ℕ) (c : Point) (d : Colour) → k < length cs → k < length xs
    → get_or (at_centres f cs xs) k d ≡ f (get_or cs k c) (get_or xs k d)
at_get f [] xs k c d h within = absurd (omega arith)
at_get f (p ∷ cs) [] k c d h within = absurd (omega arith)
at_get f (p ∷ cs) (x ∷ xs) zero c d h within = refl
at_get f (p ∷ cs) (x ∷ xs) (suc k) c d h within = at_get f cs xs k c d (omega arith) (omega arith)

at_length : (f : Point → Colour → Colour) (cs : List Point) (xs : List Colour) → length (at_centres f cs xs) ≡ length xs
at_length f [] xs = refl
at_length f (c ∷ cs) [] = refl
at_length f (c ∷ cs) (x ∷ xs) = ap suc (at_length f cs xs)

in_or_out : (r : Region) (u v : ℕ) → InRegion r u v ⊎ (InRegion r u v → ⊥)
in_or_out r u v = elim (cases_lt u r.col) [
  | inl a ↦ inr (λ inside. omega (arith, inside.from_col))
  | inr a ↦ (elim (cases_lt u (r.col + r.cols)) [
    | inr b ↦ inr (λ inside. omega (arith, inside.to_col))
    | inl b ↦ (elim (cases_lt v r.row) [
      | inl c ↦ inr (λ inside. omega (arith, inside.from_row))
      | inr c ↦ (elim (cases_lt v (r.row + r.rows)) [
        | inr d ↦ inr (λ inside. omega (arith, inside.to_row))
        | inl d ↦ inl (record { from_col = a; to_col = b; from_row = c; to_row = d })
      ])
    ])
  ])
]

-- one pixel, where the bits tell the members
pixel_is : (w : Window) (r : Region) (member : Point → Bool) (colour : Colour) (bits : List Bool) (start now : Pixels) (v u : ℕ) → start.cols ≡ w.cols → u < w.cols → v < w.rows
    → Tells w r member bits → HasColour r colour bits start now
    → get_or now.pixels (v * start.cols + u) colour ≡ over_member member colour 1000 (centre w u v) (get_or start.pixels (v * start.cols + u) colour)
pixel_is w r member colour bits start now v u cols hu hv tells p = one (member (centre w u v)) refl
  where
    old : Colour
    old = get_or start.pixels (v * start.cols + u) colour

    place : (row col : ℕ) → v ≡ row → u ≡ col → v * start.cols + u ≡ row * start.cols + col
    place row col e f = ap (λ k. k * start.cols + u) e ∙ ap (λ k. row * start.cols + k) f

    bit : (j i : ℕ) → v ≡ r.row + j → u ≡ r.col + i → j < r.rows → i < r.cols → get_or bits (j * r.cols + i) false ≡ member (centre w u v)
    bit j i e f hj hi = tells.at j i hj hi ∙ ap (λ k. member (centre w k (r.row + j))) (sym f) ∙ ap (λ k. member (centre w u k)) (sym e)

    one : (b : Bool) → member (centre w u v) ≡ b → get_or now.pixels (v * start.cols + u) colour ≡ over_member member colour 1000 (centre w u v) old
    one true e =
        let inside : InRegion r u v = tells.holds.at v u hu hv e in
        let j : ℕ = v - r.row in
        let i : ℕ = u - r.col in
        let down : v ≡ r.row + j = omega (arith, inside.from_row) in
        let across : u ≡ r.col + i = omega (arith, inside.from_col) in
        let hj : j < r.rows = omega (arith, inside.to_row, inside.from_row) in
        let hi : i < r.cols = omega (arith, inside.to_col, inside.from_col) in
        ap (λ k. get_or now.pixels k colour) (place (r.row + j) (r.col + i) down across)
        ∙ p.on j i hj hi (bit j i down across hj hi ∙ e)
        ∙ sym (ap (λ t. if t then blend colour 1000 old else old) e ∙ full_over colour old)
    one false e =
        elim (in_or_out r u v) [
          | inl inside ↦ (
              let j : ℕ = v - r.row in
              let i : ℕ = u - r.col in
              let down : v ≡ r.row + j = omega (arith, inside.from_row) in
              let across : u ≡ r.col + i = omega (arith, inside.from_col) in
              let hj : j < r.rows = omega (arith, inside.to_row, inside.from_row) in
              let hi : i < r.cols = omega (arith, inside.to_col, inside.from_col) in
              ap (λ k. get_or now.pixels k colour) (place (r.row + j) (r.col + i) down across)
              ∙ p.off j i hj hi (bit j i down across hj hi ∙ e)
              ∙ ap (λ k. get_or start.pixels k colour) (sym (place (r.row + j) (r.col + i) down across)))
          | inr outside ↦ p.out v u (omega (arith, cols)) outside
        ]
        ∙ sym (ap (λ t. if t then blend colour 1000 old else old) e)

-- the picture with its covered pixels painted is that of the step
pub all_painted : (w : Window) (r : Region) (member : Point → Bool) (colour : Colour) (bits : List Bool) (start now : Pixels) → IsRegion w r
    → start.cols ≡ w.cols → start.rows ≡ w.rows → length start.pixels ≡ start.rows * start.cols → Tells w r member bits → HasColour r colour bits start now
    → now ≡ stepped w (over_member member colour 1000) start
all_painted w r member colour bits start now ok cols rows count tells p = λ i. record { cols = p.cols i; rows = p.rows i; pixels = pixels i }
  where
    f : Point → Colour → Colour
    f = over_member member colour 1000

    c0 : Point
    c0 = record { x = 0; y = 0 }

    size : length start.pixels ≡ w.rows * w.cols
    size = count ∙ ap (λ n. n * start.cols) rows ∙ ap (λ n. w.rows * n) cols

    each : (k : ℕ) → k < length now.pixels → get_or now.pixels k colour ≡ get_or (at_centres f (centres w) start.pixels) k colour
    each k lt =
        let v : ℕ = k / w.cols in
        let u : ℕ = k % w.cols in
        let some : 1 ≤ w.cols = omega (arith, ok.in_cols, ok.some_col) in
        let within : k < w.rows * w.cols = omega (arith, p.count, size) in
        let split : k ≡ v * w.cols + u = omega (arith, div-add-mod k w.cols) in
        let here : k ≡ v * start.cols + u = split ∙ ap (λ n. v * n + u) (sym cols) in
        let hu : u < w.cols = mod-lt k some in
        let hv : v < w.rows = div_below k w.cols w.rows some within in
        ap (λ q. get_or now.pixels q colour) here
        ∙ pixel_is w r member colour bits start now v u cols hu hv tells p
        ∙ ap (λ q. f (centre w u v) (get_or start.pixels q colour)) (sym here)
        ∙ ap (λ c. f c (get_or start.pixels k colour)) (sym (ap (λ q. get_or (centres w) q c0) split ∙ get_or-centres w v u c0 hu hv))
        ∙ sym (at_get f (centres w) start.pixels k c0 colour (omega (arith, length-centres w)) (omega (arith, p.count)))

    pixels : now.pixels ≡ at_centres f (centres w) start.pixels
    pixels = ext_get_or colour now.pixels (at_centres f (centres w) start.pixels) (p.count ∙ sym (at_length f (centres w) start.pixels)) each

-- ---- brushes

-- one run more
pub brush_step : (start old new : Brush) (bits : Bits) (j from end : ℕ) → j < brush_rows old → end ≤ brush_cols old → from < end
    → new.image.ghost_name ≡ old.image.ghost_name → new.region ≡ old.region → new.colour ≡ old.colour
    → new.image.now ≡ record old.image.now {
      pixels = run_changed (blend old.colour 1000) ((old.region.row + j) * old.image.now.cols + (old.region.col + from))
          (old.region.col + end - (old.region.col + from)) old.image.now.pixels;
    }
    → ShowsBits start old bits
    → ShowsSome (ShowsBits start) (λ next. next ≡ record bits { bits = run_changed (λ _. true) (j * brush_cols old + from) (end - from) bits.bits }) new
brush_step start old new bits j from end row col order reference region colour is s =
    let r : Region = start.region in
    let image : Pixels = old.image.now in
    let wide : brush_cols old ≡ r.cols =
    omega (arith, ap (λ q. q.cols) s.region, ap (λ q. q.col) s.region, s.painted.cols, s.over.in_cols, s.over.raster.few_cols) in
    let next : List Bool = run_changed (λ _. true) (j * brush_cols old + from) (end - from) bits.bits in
    record {
      bits = record bits { bits = next };
      shown = record {
        reference = reference ∙ s.reference;
        region = region ∙ s.region;
        colour = colour ∙ s.colour;
        over = s.over;
        count = run_length (λ _. true) (j * brush_cols old + from) (end - from) bits.bits ∙ s.count;
        painted = run_painted r start.colour bits.bits next start.image.now image new.image.now j from end s.over s.count
            (omega (arith, ap (λ q. q.rows) s.region)) (omega arith) (omega (arith, wide))
            (ap (λ k. run_changed (λ _. true) (j * k + from) (end - from) bits.bits) wide)
            (is
            ∙ ap (λ (q : Region). record image { pixels = run_changed (blend old.colour 1000) ((q.row + j) * image.cols + (q.col + from)) (q.col + end - (q.col + from)) image.pixels }) s.region
            ∙ ap (λ (c : Colour). record image { pixels = run_changed (blend c 1000) ((r.row + j) * image.cols + (r.col + from)) (r.col + end - (r.col + from)) image.pixels }) s.colour)
            s.painted;
      };
      is = refl;
    }

abbrev fresh : Region → Bits
fresh r = record { cols = r.cols; rows = r.rows; bits = replicate (r.rows * r.cols) false }

-- a region of a window lies in the window's picture
pub over_picture : (w : Window) (r : Region) (image : Pixels) → IsRegion w r → IsCanvas w image → IsRaster image.cols image.rows (length image.pixels) → IsOver r image
over_picture w r image region canvas raster = record {
  in_cols = omega (arith, region.in_cols, canvas.cols);
  in_rows = omega (arith, region.in_rows, canvas.rows);
  raster = raster;
}

brush_fresh : (start : Brush) → IsOver start.region start.image.now → ShowsBits start start (fresh start.region)
brush_fresh start over = record {
  reference = refl;
  region = refl;
  colour = refl;
  over = over;
  count = length-replicate (start.region.rows * start.region.cols) false;
  painted = none_painted start.region start.colour (start.region.rows * start.region.cols) start.image.now;
}

-- whatever is painted, the brush keeps its picture, which keeps its sides
pub brush_kept : (start now : Brush) → Becomes ShowsBits (λ _ _. ⊤) start now → IsOver start.region start.image.now
    → (now.image.ghost_name ≡ start.image.ghost_name) × (now.image.now.cols ≡ start.image.now.cols) × (now.image.now.rows ≡ start.image.now.rows)
brush_kept start now turns over =
    let made = turns start (fresh start.region) (brush_fresh start over) in
    (made.shown.reference, made.shown.painted.cols, made.shown.painted.rows)

-- all that is covered of the region is painted
pub brush_done : (w near : Window) (start now : Brush) (member : ℕ → Point → Bool) → Marks ShowsBits (member near.pixel) near start now
    → IsRegion w start.region → near ≡ region_window w start.region → start.image.now.cols ≡ w.cols → start.image.now.rows ≡ w.rows
    → IsOver start.region start.image.now → Holds w start.region (member w.pixel) → now.image.now ≡ stepped w (over_member (member w.pixel) start.colour 1000) start.image.now
brush_done w near start now member marks ok near_is cols rows over holds =
    let r : Region = start.region in
    let made = marks start (fresh r) (brush_fresh start over) in
    all_painted w r (member w.pixel) start.colour made.bits.bits start.image.now now.image.now ok cols rows over.raster.count_is
    (region_told w r (member w.pixel) made.bits.bits holds
    (ap (λ b. b.bits) made.is ∙ ap (λ (v : Window). marked (member v.pixel) (centres v) (replicate (r.rows * r.cols) false)) near_is))
    made.shown.painted
