-- Paths that are alike are of the same name and metatile.
use Rattle.std.proofs.Common.{◌≡◌, ◌≢◌, ℕ, suc, ◌+◌, ◌<◌, List, [], ◌∷◌, ◌++◌, length, drop, get_or, refl, sym, ap, ◌∙◌, arith, append_assoc, length-append}
use Rattle.std.specs.Prelude.{codes}
use Rattle.std.specs.Fmt.{decimal}
use Rattle.std.proofs.lemmas.Fmt.{decimal_injective}
use Rattle.std.proofs.Math.Seq.{drop-append_seam}
use Rattle.plain_world.specs.declared.world.Meta.{Meta}
use Rattle.tile_paths.specs.Paths.{in_folder, path_of, saved_path}
use Rattle.tile_paths.specs.Laws.{OnePath, EndsInMeta, IsNotSaved}
use Rattle.tile_paths.specs.declared.reading.Five.{Five}
use Rattle.tile_paths.proofs.Numbers.{digits_only, no_slash}
use Rattle.tile_paths.proofs.Bits.{small, numbers, five_of, high, low, high_is, low_is, path_parts}

-- no byte of a text is c
abbrev pub Lacks : ℕ → List ℕ → Type 0
Lacks c text = (i : ℕ) → i < length text → get_or text i 0 ≢ c

-- texts that are alike are alike before their first byte c, and behind it
pub parted : (c : ℕ) (xs ys rest others : List ℕ) → Lacks c xs → Lacks c ys → xs ++ c ∷ rest ≡ ys ++ c ∷ others → (xs ≡ ys) × (rest ≡ others)
parted c [] [] rest others f g e = (refl, ap (drop 1) e)
parted c [] (y ∷ ys) rest others f g e = absurd (g 0 (omega arith) (sym (ap (λ l. get_or l 0 0) e)))
parted c (x ∷ xs) [] rest others f g e = absurd (f 0 (omega arith) (ap (λ l. get_or l 0 0) e))
parted c (x ∷ xs) (y ∷ ys) rest others f g e =
    let same : x ≡ y = ap (λ l. get_or l 0 0) e in
    let more = parted c xs ys rest others (λ i l. f (suc i) (omega arith)) (λ i l. g (suc i) (omega arith)) (ap (drop 1) e) in
    (ap (λ a. a ∷ xs) same ∙ ap (λ l. y ∷ l) more.0, more.1)

-- a number and what follows it
number_parted : (e m n : ℕ) (rest others : List ℕ) → e < 48 → m < 256 → n < 256 → decimal m ++ e ∷ rest ≡ decimal n ++ e ∷ others → (m ≡ n) × (rest ≡ others)
number_parted e m n rest others low a b is =
    let p = parted e (decimal m) (decimal n) rest others (λ i l. digits_only m e i a low l) (λ i l. digits_only n e i b low l) is in
    (decimal_injective m n (omega arith) (omega arith) p.0, p.1)

abbrev five_numbers : ℕ → ℕ → ℕ → ℕ → ℕ → Five
five_numbers a b c d e = record { h4 = a; h3 = b; h2 = c; h1 = d; h0 = e }

-- the five numbers
five_parted : (m n : Meta) → five_of m ≡ five_of n → numbers m ≡ numbers n
five_parted m n e =
    let p4 = number_parted 47 (numbers m).h4 (numbers n).h4 _ _ (omega arith) (small _ _) (small _ _) e in
    let p3 = number_parted 47 (numbers m).h3 (numbers n).h3 _ _ (omega arith) (small _ _) (small _ _) p4.1 in
    let p2 = number_parted 47 (numbers m).h2 (numbers n).h2 _ _ (omega arith) (small _ _) (small _ _) p3.1 in
    let p1 = number_parted 47 (numbers m).h1 (numbers n).h1 _ _ (omega arith) (small _ _) (small _ _) p2.1 in
    let p0 = number_parted 46 (numbers m).h0 (numbers n).h0 _ _ (omega arith) (small _ _) (small _ _) p1.1 in
    joined _ _ _ _ _ _ _ _ _ _ p4.0 p3.0 p2.0 p1.0 p0.0
  where
    joined : (a b c d e a' b' c' d' e' : ℕ) → a ≡ a' → b ≡ b' → c ≡ c' → d ≡ d' → e ≡ e'
        → five_numbers a b c d e ≡ five_numbers a' b' c' d' e'
    joined a b c d e a' b' c' d' e' p q r s t = rw (p, q, r, s, t) refl

meta_is : (m n : Meta) → m.z ≡ n.z → m.x ≡ n.x → m.y ≡ n.y → m ≡ n
meta_is m n z x y =
    ap (λ (k : ℕ). record { z = k; x = m.x; y = m.y }) z
    ∙ ap (λ (k : ℕ). record { z = n.z; x = k; y = m.y }) x
    ∙ ap (λ (k : ℕ). record { z = n.z; x = n.x; y = k }) y

pub one_path : OnePath
one_path name other m n is_name is_other is_m is_n e =
    let alike = sym (path_parts name m (path_of name m) refl) ∙ e ∙ path_parts other n (path_of other n) refl in
    let named = parted 47 name other _ _ (λ i l. no_slash name i is_name l) (λ i l. no_slash other i is_other l) alike in
    let p = is_m.z_fits in
    let q = is_n.z_fits in
    let zoomed = number_parted 47 m.z n.z (five_of m) (five_of n) (omega arith) (omega arith) (omega arith) named.1 in
    let same = five_parted m n zoomed.1 in
    let x = sym (high_is m is_m) ∙ ap (λ (f : Five). high f) same ∙ high_is n is_n in
    let y = sym (low_is m is_m) ∙ ap (λ (f : Five). low f) same ∙ low_is n is_n in
    (named.0, meta_is m n zoomed.0 x y)

-- a path without its ending
abbrev front_of : List ℕ → Meta → List ℕ
front_of name m =
    in_folder name (in_folder (decimal m.z)
    (in_folder (decimal (numbers m).h4) (in_folder (decimal (numbers m).h3) (in_folder (decimal (numbers m).h2) (in_folder (decimal (numbers m).h1) (decimal (numbers m).h0))))))

pub ends_in_meta : EndsInMeta
ends_in_meta name m = (front_of name m, path_parts name m (path_of name m) refl ∙ simp append_assoc)

-- a text with this ending is none with another
other_ending : (front : List ℕ) → front ++ codes ".meta" ≢ saved_path
other_ending front e =
    let counts : length front + 5 ≡ 10 = sym (length-append front (codes ".meta")) ∙ ap length e in
    let len : length front ≡ 5 = omega (arith, counts) in
    let tail : codes ".meta" ≡ codes "saved" = sym (drop-append_seam front (codes ".meta")) ∙ ap (λ n. drop n (front ++ codes ".meta")) len ∙ ap (drop 5) e in
    let first : get_or (codes ".meta") 0 0 ≡ get_or (codes "saved") 0 0 = ap (λ (l : List ℕ). get_or l 0 0) tail in
    let differ : get_or (codes ".meta") 0 0 < get_or (codes "saved") 0 0 = omega arith in
    omega (arith, first, differ)

pub is_not_saved : IsNotSaved
is_not_saved name m e = let ends = ends_in_meta name m in other_ending ends.0 (sym ends.1 ∙ e)
