-- What lies in a round, row by row, and bits that were all set before.
use Rattle.std.proofs.Common.{◌≡◌, ℕ, suc, ◌+◌, ◌-◌, ◌*◌, ◌/◌, ◌%◌, ◌<◌, ◌≤◌, Bool, true, false, ◌||◌, List, [], ◌∷◌, length, get_or, refl, ap, sym, ◌∙◌, arith}
use Rattle.std.proofs.Math.Nat.{mul-le-mul, mul-le-mul_right, div-add-mod, mod-lt}
use Rattle.std.proofs.lemmas.Nat.{div_below}
use Rattle.plain_world.specs.declared.world.Point.{Point}
use Rattle.plain_world.specs.declared.world.Window.{Window}
use Rattle.plain_world.specs.World.{centre, centres}
use Rattle.plain_shapes.specs.Images.{Bits}
use Rattle.plain_shapes.specs.inner.Canvas.{marked}
use Rattle.plain_shapes.proofs.Places.{length-centres, get_or-centres}
use Rattle.plain_image.specs.Surfaces.{Knows}
use Rattle.centre_spans.specs.declared.known.Round.{Round}
use Rattle.centre_spans.specs.Stretches.{gap, InRound}

-- the bits of a row that lie in a round are known to be set
abbrev pub RowKnown : {S : Type 0} → (S → S → Bits → Type 0) → Round → Window → ℕ → S → Type 0
RowKnown shows r w j now = Knows shows (λ bits. (i : ℕ) → i < w.cols → InRound r (centre w i j) → get_or bits.bits (j * w.cols + i) false ≡ true) now

-- a centre before one that lies outside to the west, and one from such a one on to the east
pub out_west : (r : Round) (w : Window) (i j n first west down : ℕ) → i < n → first ≡ w.west + n * w.pixel + w.pixel / 2 → west ≡ r.p.x + w.pixel - first
    → down ≡ gap (w.north + j * w.pixel + w.pixel / 2) r.p.y → r.square < west * west + down * down → InRound r (centre w i j) → ⊥
out_west r w i j n first west down lt f e d out inside =
    let col : i + 1 ≤ n = omega arith in
    let far : west ≤ gap (centre w i j).x r.p.x = omega (arith, mul-le-mul_right w.pixel col) in
    omega (arith, mul-le-mul far far, ap (λ t. t * t) d)

pub out_east : (r : Round) (w : Window) (i j n behind east down : ℕ) → n ≤ i → behind ≡ w.west + n * w.pixel + w.pixel / 2 → east ≡ behind - r.p.x
    → down ≡ gap (w.north + j * w.pixel + w.pixel / 2) r.p.y → r.square < east * east + down * down → InRound r (centre w i j) → ⊥
out_east r w i j n behind east down le f e d out inside =
    let far : east ≤ gap (centre w i j).x r.p.x = omega (arith, mul-le-mul_right w.pixel le) in
    omega (arith, mul-le-mul far far, ap (λ t. t * t) d)

-- where each member's bit is set, marking the members changes nothing
kept : (m : Point → Bool) (cs : List Point) (bs : List Bool) (d : Point) → ((k : ℕ) → k < length cs → m (get_or cs k d) ≡ true → get_or bs k false ≡ true) → marked m cs bs ≡ bs
kept m [] bs d h = refl
kept m (c ∷ cs) [] d h = refl
kept m (c ∷ cs) (b ∷ bs) d h = λ i. bit b (m c) (h 0 (omega arith)) i ∷ kept m cs bs d (λ k lt. h (suc k) (omega arith)) i
  where
    bit : (b t : Bool) → (t ≡ true → b ≡ true) → (b || t) ≡ b
    bit true t h = refl
    bit false true h = sym (h refl)
    bit false false h = refl

pub all_kept : (m : Point → Bool) (w : Window) (bs : List Bool) → 1 ≤ w.cols
    → ((j i : ℕ) → i < w.cols → j < w.rows → m (centre w i j) ≡ true → get_or bs (j * w.cols + i) false ≡ true) → marked m (centres w) bs ≡ bs
all_kept m w bs some set =
    let d : Point = centre w 0 0 in
    kept m (centres w) bs d (λ k lt member.
    (let split : k / w.cols * w.cols + k % w.cols ≡ k = omega (arith, div-add-mod k w.cols) in
    let col : k % w.cols < w.cols = mod-lt k (omega arith) in
    let row : k / w.cols < w.rows = div_below k w.cols w.rows some (omega (arith, length-centres w)) in
    ap (λ n. get_or bs n false) (sym split)
    ∙ set (k / w.cols) (k % w.cols) col row
    (sym (ap (λ n. m (get_or (centres w) n d)) (sym split) ∙ ap m (get_or-centres w (k / w.cols) (k % w.cols) d col row)) ∙ member)))
