-- Runs of pixels painted, one after another.
use Rattle.std.proofs.Common.{◌≡◌, ℕ, zero, suc, ◌+◌, ◌-◌, ◌*◌, ◌/◌, ◌<◌, ◌≤◌, Bool, true, false, List, [], ◌∷◌, ◌++◌, length, take, drop, map, get_or, refl, ap, sym, subst, ◌∙◌, inl, inr, arith}
use Rattle.std.specs.Prelude.{if◌then◌else◌}
use Rattle.std.proofs.Math.Nat.{mul-le-mul_right}
use Rattle.std.proofs.lemmas.Bool.{cases_lt, false_from_ne_true, true≢false}
use Rattle.plain_world.specs.declared.world.Point.{Point}
use Rattle.plain_world.specs.declared.world.Window.{Window}
use Rattle.plain_world.specs.World.{centre, centres}
use Rattle.plain_shapes.specs.declared.colour.Colour.{Colour}
use Rattle.plain_shapes.specs.Blending.{blend}
use Rattle.plain_shapes.specs.Images.{Pixels}
use Rattle.plain_shapes.specs.inner.Canvas.{at_centres, stepped}
use Rattle.plain_shapes.proofs.Places.{length-centres, get_or-centres}
use Rattle.plain_image.specs.Runs.{run_changed}
use Rattle.plain_image.proofs.Runs.{run_none}
use Rattle.tile_render.specs.declared.regions.Region.{Region}
use Rattle.tile_render.specs.inner.Regions.{IsRegion, InRegion, region_window, Holds, Changed, over_member}
use Rattle.tile_render.proofs.Changing.{changed_start, changed_skip, changed_end}

-- the first elements changed alike
at_first : {X : Type 0} (f : Point → X → X) (g : X → X) (cs : List Point) (xs : List X) (k : ℕ) (d : Point) → k ≤ length cs
    → ((p : ℕ) → p < k → (x : X) → f (get_or cs p d) x ≡ g x) → at_centres f (take k cs) xs ≡ map g (take k xs) ++ drop k xs
at_first f g cs xs zero d fits each = refl
at_first f g [] xs (suc k) d fits each = absurd (omega arith)
at_first f g (c ∷ cs) [] (suc k) d fits each = refl
at_first f g (c ∷ cs) (x ∷ xs) (suc k) d fits each =
    ap (λ y. y ∷ at_centres f (take k cs) xs) (each 0 (omega arith) x)
    ∙ ap (λ ys. g x ∷ ys) (at_first f g cs xs k d (omega arith) (λ p lt. each (suc p) (omega arith)))

-- elements side by side that their centres change alike are a run changed
at_run : {X : Type 0} (f : Point → X → X) (g : X → X) (cs : List Point) (xs : List X) (n k : ℕ) (d : Point) → n + k ≤ length cs
    → ((p : ℕ) → n ≤ p → p < n + k → (x : X) → f (get_or cs p d) x ≡ g x)
    → at_centres f (take (n + k) cs) xs ≡ run_changed g n k (at_centres f (take n cs) xs)
at_run f g cs xs zero k d fits each =
    ap (λ m. at_centres f (take m cs) xs) (let e : 0 + k ≡ k = omega arith in e)
    ∙ at_first f g cs xs k d (omega arith) (λ p lt. each p (omega arith) (omega arith))
at_run f g [] xs (suc n) k d fits each = absurd (omega arith)
at_run f g (c ∷ cs) [] (suc n) zero d fits each = ap (λ m. at_centres f (take m (c ∷ cs)) []) (let e : suc n + 0 ≡ suc n = omega arith in e)
at_run f g (c ∷ cs) [] (suc n) (suc k) d fits each = ap (λ m. at_centres f (take m (c ∷ cs)) []) (let e : suc n + suc k ≡ suc (n + suc k) = omega arith in e)
at_run f g (c ∷ cs) (x ∷ xs) (suc n) k d fits each =
    ap (λ m. at_centres f (take m (c ∷ cs)) (x ∷ xs)) (let e : suc n + k ≡ suc (n + k) = omega arith in e)
    ∙ ap (λ ys. f c x ∷ ys) (at_run f g cs xs n k d (omega arith) (λ p low high. each (suc p) (omega arith) (omega arith)))

-- a run of one row painted
pub changed_run : (f : Point → Colour → Colour) (w : Window) (g : Colour → Colour) (j from end : ℕ) (start now after : Pixels) → from ≤ end → end ≤ w.cols → j < w.rows
    → now.cols ≡ w.cols → ((i : ℕ) → from ≤ i → i < end → (d : Colour) → f (centre w i j) d ≡ g d)
    → after ≡ record now { pixels = run_changed g (j * now.cols + from) (end - from) now.pixels }
    → Changed f w (j * w.cols + from) start now → Changed f w (j * w.cols + end) start after
changed_run f w g j from end start now after order fits row cols each written r =
    let d : Point = record { x = 0; y = 0 } in
    let n : ℕ = j * w.cols + from in
    let next : j + 1 ≤ w.rows = omega arith in
    let e : n + (end - from) ≡ j * w.cols + end = omega arith in
    let within : n + (end - from) ≤ length (centres w) = omega (arith, length-centres w, mul-le-mul_right w.cols next) in
    let one : (p : ℕ) → n ≤ p → p < n + (end - from) → (x : Colour) → f (get_or (centres w) p d) x ≡ g x = λ p low high x.
    (let i : ℕ = p - j * w.cols in
    let at : p ≡ j * w.cols + i = omega arith in
    ap (λ q. f (get_or (centres w) q d) x) at
    ∙ ap (λ c. f c x) (get_or-centres w j i d (omega arith) row)
    ∙ each i (omega arith) (omega arith) x) in
    record {
      is =
          written
          ∙ ap (λ k. record now { pixels = run_changed g (j * k + from) (end - from) now.pixels }) cols
          ∙ ap (λ (b : Pixels). record b { pixels = run_changed g n (end - from) b.pixels }) r.is
          ∙ ap (λ ps. record start { pixels = ps }) (sym (at_run f g (centres w) start.pixels n (end - from) d within one))
          ∙ ap (λ q. record start { pixels = at_centres f (take q (centres w)) start.pixels }) e;
    }

-- ---- runs of a region

near_centre : (w : Window) (p : Region) (i j : ℕ) → centre (region_window w p) i j ≡ centre w (p.col + i) (p.row + j)
near_centre w p i j =
    let x : w.west + p.col * w.pixel + i * w.pixel + w.pixel / 2 ≡ w.west + (p.col + i) * w.pixel + w.pixel / 2 = omega arith in
    let y : w.north + p.row * w.pixel + j * w.pixel + w.pixel / 2 ≡ w.north + (p.row + j) * w.pixel + w.pixel / 2 = omega arith in
    λ t. record { x = x t; y = y t }

-- a pixel of the window whose centre is no member, as the region says
not_there : (w : Window) (p : Region) (member : Point → Bool) (colour : Colour) (opacity v u : ℕ) → Holds w p member → u < w.cols → v < w.rows
    → ((j i : ℕ) → v ≡ p.row + j → u ≡ p.col + i → j < p.rows → i < p.cols → member (centre (region_window w p) i j) ≡ false)
    → (x : Colour) → over_member member colour opacity (centre w u v) x ≡ x
not_there w p member colour opacity v u holds col row none x =
    ap (λ t. if t then blend colour opacity x else x) (false_from_ne_true (member (centre w u v)) (λ e.
    let inside : InRegion p u v = holds.at v u col row e in
    let j : ℕ = v - p.row in
    let i : ℕ = u - p.col in
    let down : v ≡ p.row + j = omega (arith, inside.from_row) in
    let across : u ≡ p.col + i = omega (arith, inside.from_col) in
    let off : member (centre (region_window w p) i j) ≡ false = none j i down across (omega (arith, inside.to_row)) (omega (arith, inside.to_col)) in
    true≢false (sym e ∙ ap (λ k. member (centre w k v)) across ∙ ap (λ k. member (centre w (p.col + i) k)) down ∙ ap member (sym (near_centre w p i j)) ∙ off)))

-- places of two rows: one comes before another as its row and its column say
in_order : (a b j i c : ℕ) → i < c → a * c + b ≤ j * c + i → (a ≤ j) × (j ≤ a → b ≤ i)
in_order a b j i c col h = elim (cases_lt j a) [
  | inl q ↦ (let k : j + 1 ≤ a = omega arith in absurd (omega (arith, mul-le-mul_right c k)))
  | inr q ↦ (q, λ r. omega (arith, mul-le-mul_right c r))
]

pub ordered : (a b j i c : ℕ) → b ≤ c → a ≤ j → (j ≤ a → b ≤ i) → a * c + b ≤ j * c + i
ordered a b j i c fits row col = elim (cases_lt a j) [
  | inl q ↦ (let k : a + 1 ≤ j = omega arith in omega (arith, mul-le-mul_right c k))
  | inr q ↦ omega (arith, mul-le-mul_right c row, col q)
]

-- the region's place of row a and column b, and that of the window: the region's pixels from the one on are those from the other on
to_window : (w : Window) (p : Region) (a b j i : ℕ) → IsRegion w p → i < p.cols → b ≤ p.cols → a * p.cols + b ≤ j * p.cols + i
    → (p.row + a) * w.cols + (p.col + b) ≤ (p.row + j) * w.cols + (p.col + i)
to_window w p a b j i ok col fits h =
    let o = in_order a b j i p.cols col h in
    ordered (p.row + a) (p.col + b) (p.row + j) (p.col + i) w.cols (omega (arith, ok.in_cols)) (omega (arith, o.0)) (λ r. omega (arith, o.1 (omega arith)))

to_region : (w : Window) (p : Region) (a b j i : ℕ) → IsRegion w p → i < p.cols → b ≤ p.cols → (p.row + a) * w.cols + (p.col + b) ≤ (p.row + j) * w.cols + (p.col + i)
    → a * p.cols + b ≤ j * p.cols + i
to_region w p a b j i ok col fits h =
    let o = in_order (p.row + a) (p.col + b) (p.row + j) (p.col + i) w.cols (omega (arith, ok.in_cols)) h in
    ordered a b j i p.cols fits (omega (arith, o.0)) (λ r. omega (arith, o.1 (omega arith)))

-- the region's pixels before a place n are painted, of which D says what is done with
pub record PaintedTo (w : Window) (p : Region) (member : Point → Bool) (colour : Colour) (opacity : ℕ) (D : ℕ → Type 0) (start now : Pixels) : Type 0 where
  pub n : ℕ
  pub q : ℕ
  pub fits : q ≤ w.rows * w.cols
  pub done : D n
  pub changed : Changed (over_member member colour opacity) w q start now
  pub behind : (j i : ℕ) → i < p.cols → n ≤ j * p.cols + i → q ≤ (p.row + j) * w.cols + (p.col + i)
  pub ahead : (j i : ℕ) → i < p.cols → q ≤ (p.row + j) * w.cols + (p.col + i) → n ≤ j * p.cols + i

-- past the pixels before n, the next members are those of a run of a row: none before it, all of it, and then E says what is done with
pub record NextRun (w : Window) (member : Point → Bool) (E : ℕ → Type 0) (n row from end : ℕ) : Type 0 where
  pub begins : n ≤ row * w.cols + from
  pub before : (j i : ℕ) → i < w.cols → j < w.rows → n ≤ j * w.cols + i → j * w.cols + i < row * w.cols + from → member (centre w i j) ≡ false
  pub within : (i : ℕ) → from ≤ i → i < end → member (centre w i row) ≡ true
  pub past : E (row * w.cols + end)

pub painted_none : (w : Window) (p : Region) (member : Point → Bool) (colour : Colour) (opacity : ℕ) (D : ℕ → Type 0) (start : Pixels) → D 0
    → PaintedTo w p member colour opacity D start start
painted_none w p member colour opacity D start none = record {
  n = 0;
  q = 0;
  fits = omega arith;
  done = none;
  changed = changed_start (over_member member colour opacity) w start;
  behind = λ j i col from. omega arith;
  ahead = λ j i col from. omega arith;
}

-- one run more
pub painted_more : (w : Window) (p : Region) (member : Point → Bool) (colour : Colour) (opacity : ℕ) (D E : ℕ → Type 0) (row left right : ℕ) (start now after : Pixels) → IsRegion w p
    → row < p.rows → left ≤ right → right ≤ p.cols → now.cols ≡ w.cols → Holds w p member
    → (f : PaintedTo w p member colour opacity D start now) → NextRun (region_window w p) member E f.n row left right
    → after ≡ record now {
      pixels = run_changed (blend colour opacity) ((p.row + row) * now.cols + (p.col + left)) (p.col + right - (p.col + left)) now.pixels;
    }
    → PaintedTo w p member colour opacity E start after
painted_more w p member colour opacity D E row left right start now after ok hrow order fits cols holds f is written = elim (cases_lt from f.q) [
  | inl over ↦ record {
    n = row * p.cols + right;
    q = f.q;
    fits = f.fits;
    done = is.past;
    changed = subst (λ b. Changed step w f.q start b) (empty over) f.changed;
    behind = λ j i col low. f.behind j i col (omega (arith, is.begins, low, order));
    ahead = λ j i col low. to_region w p row right j i ok col fits (omega (arith, over, low, at_end over));
  }
  | inr le ↦ record {
    n = row * p.cols + right;
    q = (p.row + row) * w.cols + (p.col + right);
    fits = (let next : p.row + row + 1 ≤ w.rows = omega (arith, ok.in_rows) in omega (arith, ok.in_cols, mul-le-mul_right w.cols next));
    done = is.past;
    changed =
        changed_run step w (blend colour opacity) (p.row + row) (p.col + left) (p.col + right) start now after (omega arith) (omega (arith, ok.in_cols)) (omega (arith, ok.in_rows)) cols
        (λ i low high d.
        let x : ℕ = i - p.col in
        let at : i ≡ p.col + x = omega arith in
        ap (λ u. step (centre w u (p.row + row)) d) at ∙ ap (λ c. step c d) (sym (near_centre w p x row))
        ∙ ap (λ b. if b then blend colour opacity d else d) (is.within x (omega arith) (omega arith)))
        written (skipped le);
    behind = λ j i col low. to_window w p row right j i ok col fits low;
    ahead = λ j i col low. to_region w p row right j i ok col fits low;
  }
]
  where
    step : Point → Colour → Colour
    step = over_member member colour opacity

    from : ℕ
    from = (p.row + row) * w.cols + (p.col + left)

    -- where more is painted already than what lies before the run, the run is empty and lies at its row's end
    at_end : from < f.q → right ≡ left
    at_end over = elim (cases_lt left p.cols) [
      | inl lt ↦ absurd (omega (arith, over, f.behind row left lt is.begins))
      | inr past ↦ (let e : right ≡ left = omega arith in e)
    ]

    empty : from < f.q → now ≡ after
    empty over =
        let m : ℕ = (p.row + row) * now.cols + (p.col + left) in
        let e : m - m ≡ p.col + right - (p.col + left) = omega (arith, at_end over) in
        ap (λ ps. record now { pixels = ps }) (run_none (blend colour opacity) m now.pixels ∙ ap (λ c. run_changed (blend colour opacity) m c now.pixels) e) ∙ sym written

    skipped : f.q ≤ from → Changed step w from start now
    skipped le =
        let next : p.row + row + 1 ≤ w.rows = omega (arith, ok.in_rows) in
        changed_skip step w f.q from start now (omega (arith, ok.in_cols, ok.some_col)) le (omega (arith, ok.in_cols, mul-le-mul_right w.cols next))
        (λ v u col high_row low high.
        not_there w p member colour opacity v u holds col high_row (λ j i down across hj hi.
        let here : v * w.cols + u ≡ (p.row + j) * w.cols + (p.col + i) = omega (arith, across, ap (λ y. y * w.cols) down) in
        is.before j i hi hj (f.ahead j i hi (omega (arith, low, here))) (earlier j i hi (omega (arith, high, here)))))
        f.changed
      where
        earlier : (j i : ℕ) → i < p.cols → (p.row + j) * w.cols + (p.col + i) < from → j * p.cols + i < row * p.cols + left
        earlier j i hi h = elim (cases_lt (j * p.cols + i) (row * p.cols + left)) [
          | inl lt ↦ lt
          | inr past ↦ absurd (omega (arith, h, to_window w p row left j i ok hi (omega arith) past))
        ]

-- all runs
pub painted_all : (w : Window) (p : Region) (member : Point → Bool) (colour : Colour) (opacity : ℕ) (D : ℕ → Type 0) (start now : Pixels) → IsRegion w p
    → Holds w p member → (f : PaintedTo w p member colour opacity D start now)
    → ((j i : ℕ) → i < p.cols → j < p.rows → f.n ≤ j * p.cols + i → member (centre (region_window w p) i j) ≡ false)
    → now ≡ stepped w (over_member member colour opacity) start
painted_all w p member colour opacity D start now ok holds f rest =
    changed_end (over_member member colour opacity) w (w.rows * w.cols) start now refl
    (changed_skip (over_member member colour opacity) w f.q (w.rows * w.cols) start now (omega (arith, ok.in_cols, ok.some_col)) f.fits (omega arith)
    (λ v u col row low high.
    not_there w p member colour opacity v u holds col row (λ j i down across hj hi.
    rest j i hi hj (f.ahead j i hi (omega (arith, low, across, ap (λ y. y * w.cols) down)))))
    f.changed)
