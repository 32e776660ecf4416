-- Targets: a target asks for one thing of one tile at most.
use Rattle.std.proofs.Common.{◌≡◌, ◌≢◌, ℕ, ◌<◌, ◌^◌, List, ◌∷◌, ◌++◌, length, drop, get_or, refl, sym, ap, ◌∙◌, arith}
use Rattle.std.specs.Fmt.{decimal}
use Rattle.std.proofs.lemmas.Fmt.{decimal_injective, decimal_is_IsNumeral}
use Rattle.std.proofs.lemmas.Str.Parse.{digit_at}
use Rattle.tile_paths.proofs.Alike.{parted}
use Rattle.tile_paths.proofs.Numbers.{no_slash}
use Rattle.tile_front.specs.declared.targets.Kind.{Kind}
use Rattle.tile_front.specs.declared.targets.Kind.TheVariants as kind
use Rattle.tile_front.specs.Targets.{Place, ending}
use Rattle.tile_front.specs.Laws.{OneTarget}

-- no byte of the number is c, which is no digit
pub no_end : (n c i : ℕ) → n < 2 ^ 32 → c < 48 → i < length (decimal n) → get_or (decimal n) i 0 ≢ c
no_end n c i small low l e = let d = digit_at (decimal n) i (decimal_is_IsNumeral n (omega arith)).0.1 l in omega arith

number_parted : (c m n : ℕ) (rest others : List ℕ) → c < 48 → m < 2 ^ 32 → n < 2 ^ 32 → decimal m ++ c ∷ rest ≡ decimal n ++ c ∷ others → (m ≡ n) × (rest ≡ others)
number_parted c m n rest others low a b e =
    let p = parted c (decimal m) (decimal n) rest others (λ i l. no_end m c i a low l) (λ i l. no_end n c i b low l) e in
    (decimal_injective m n (omega arith) (omega arith) p.0, p.1)

-- the endings differ by their lengths
one_ending : (k l : Kind) → ending k ≡ ending l → k ≡ l
one_ending kind.Tile kind.Tile e = refl
one_ending kind.Tile kind.Status e = let counts : ◌≡◌ {A = ℕ} 3 10 = ap (length {A = ℕ}) e in absurd (omega arith)
one_ending kind.Tile kind.Dirty e = let counts : ◌≡◌ {A = ℕ} 3 9 = ap (length {A = ℕ}) e in absurd (omega arith)
one_ending kind.Status kind.Tile e = let counts : ◌≡◌ {A = ℕ} 10 3 = ap (length {A = ℕ}) e in absurd (omega arith)
one_ending kind.Status kind.Status e = refl
one_ending kind.Status kind.Dirty e = let counts : ◌≡◌ {A = ℕ} 10 9 = ap (length {A = ℕ}) e in absurd (omega arith)
one_ending kind.Dirty kind.Tile e = let counts : ◌≡◌ {A = ℕ} 9 3 = ap (length {A = ℕ}) e in absurd (omega arith)
one_ending kind.Dirty kind.Status e = let counts : ◌≡◌ {A = ℕ} 9 10 = ap (length {A = ℕ}) e in absurd (omega arith)
one_ending kind.Dirty kind.Dirty e = refl

place_is : (p q : Place) → p.name ≡ q.name → p.z ≡ q.z → p.x ≡ q.x → p.y ≡ q.y → p ≡ q
place_is p q name z x y =
    ap (λ (l : List ℕ). record { name = l; z = p.z; x = p.x; y = p.y }) name
    ∙ ap (λ (n : ℕ). record { name = q.name; z = n; x = p.x; y = p.y }) z
    ∙ ap (λ (n : ℕ). record { name = q.name; z = q.z; x = n; y = p.y }) x
    ∙ ap (λ (n : ℕ). record { name = q.name; z = q.z; x = q.x; y = n }) y

pub one_target : OneTarget
one_target target k l p q one other =
    let a = one.place in
    let b = other.place in
    let name = parted 47 p.name q.name _ _ (λ i h. no_slash p.name i a.name h) (λ i h. no_slash q.name i b.name h) (ap (drop 1) (sym one.text ∙ other.text)) in
    let z = number_parted 47 p.z q.z _ _ (omega arith) a.z_fits b.z_fits name.1 in
    let x = number_parted 47 p.x q.x _ _ (omega arith) a.x_fits b.x_fits z.1 in
    let y = number_parted 46 p.y q.y _ _ (omega arith) a.y_fits b.y_fits x.1 in
    (one_ending k l y.1, place_is p q name.0 z.0 x.0 y.0)
