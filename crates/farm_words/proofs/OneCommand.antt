-- Words spell one command at most.
use Rattle.std.proofs.Common.{◌≡◌, ℕ, ◌^◌, ◌<◌, ◌≤◌, List, [], ◌∷◌, sym, ap, ◌∙◌, arith}
use Rattle.std.specs.Prelude.{codes}
use Rattle.std.specs.Fmt.{decimal}
use Rattle.std.proofs.Math.Nat.{pow-le-pow_right}
use Rattle.std.proofs.lemmas.Fmt.{decimal_injective}
use Rattle.plain_world.specs.declared.world.Tile.{Tile}
use Rattle.plain_world.specs.World.{IsTile, IsTileSize}
use Rattle.plain_world.proofs.Windows.{size_bounds}
use Rattle.farm_words.specs.declared.command.Command.TheVariants.{Render, Script, Serve, Load, Meta}
use Rattle.farm_words.specs.Forms.{SpellOne}

size_small : (n : ℕ) → IsTileSize n → n < 2 ^ 64
size_small n h = omega (arith, (size_bounds n h).1)

below : (t : Tile) (n : ℕ) → IsTile t → n < 2 ^ t.z → n < 2 ^ 64
below t n is h = let p : 2 ^ t.z ≤ 2 ^ 18 = pow-le-pow_right {n = 2} (omega arith) is.z_fits in omega arith

zoom_small : (t : Tile) → IsTile t → t.z < 2 ^ 64
zoom_small t is = let z = is.z_fits in omega arith

abbrev tile : ℕ → ℕ → ℕ → Tile
tile z x y = record { z = z; x = x; y = y }

same_tile : (t u : Tile) → IsTile t → IsTile u → decimal t.z ≡ decimal u.z → decimal t.x ≡ decimal u.x → decimal t.y ≡ decimal u.y → t ≡ u
same_tile t u it iu z x y =
    let ez : t.z ≡ u.z = decimal_injective t.z u.z (zoom_small t it) (zoom_small u iu) z in
    let ex : t.x ≡ u.x = decimal_injective t.x u.x (below t t.x it it.x_fits) (below u u.x iu iu.x_fits) x in
    let ey : t.y ≡ u.y = decimal_injective t.y u.y (below t t.y it it.y_fits) (below u u.y iu iu.y_fits) y in
    ap (λ n. tile n t.x t.y) ez ∙ ap (λ n. tile u.z n t.y) ex ∙ ap (λ n. tile u.z u.x n) ey

-- the parts of equal lists of words
same_seven : (a b c d e f g a' b' c' d' e' f' g' : List ℕ)
    → a ∷ b ∷ c ∷ d ∷ e ∷ f ∷ g ∷ [] ≡ a' ∷ b' ∷ c' ∷ d' ∷ e' ∷ f' ∷ g' ∷ []
    → (b ≡ b') × (c ≡ c') × (d ≡ d') × (e ≡ e') × (f ≡ f') × (g ≡ g')
same_seven a b c d e f g a' b' c' d' e' f' g' h = ((cc), (cc), (cc), (cc), (cc), (cc))

same_three : (a b c a' b' c' : List ℕ) → a ∷ b ∷ c ∷ [] ≡ a' ∷ b' ∷ c' ∷ [] → (b ≡ b') × (c ≡ c')
same_three a b c a' b' c' h = ((cc), (cc))

same_two : (a b a' b' : List ℕ) → a ∷ b ∷ [] ≡ a' ∷ b' ∷ [] → b ≡ b'
same_two a b a' b' h = cc

-- words that begin with different words are different
apart : (a b : List ℕ) (rest others : List (List ℕ)) (words : List (List ℕ)) → (a ≡ b → ⊥) → words ≡ a ∷ rest → words ≡ b ∷ others → ⊥
apart a b rest others words ne e f = let h : a ∷ rest ≡ b ∷ others = sym e ∙ f in ne (cc)

pub spell_one : SpellOne
spell_one (Render s f n t) (Render s' f' n' t') ws a b =
    let e = same_seven _ _ _ _ _ _ _ _ _ _ _ _ _ _ (sym a.0 ∙ b.0) in
    let size : n ≡ n' = decimal_injective n n' (size_small n a.1) (size_small n' b.1) e.2 in
    let tile : t ≡ t' = same_tile t t' a.2 b.2 e.3 e.4 e.5 in
    ap (λ x. Render x f n t) e.0 ∙ ap (λ x. Render s' x n t) e.1 ∙ ap (λ x. Render s' f' x t) size ∙ ap (λ x. Render s' f' n' x) tile
spell_one (Render s f n t) (Script c d) ws a b = absurd (apart (codes "render") (codes "script") _ _ ws (λ h. cc) a.0 b)
spell_one (Render s f n t) (Serve c) ws a b = absurd (apart (codes "render") (codes "serve") _ _ ws (λ h. cc) a.0 b)
spell_one (Render s f n t) (Load x y) ws a b = absurd (apart (codes "render") (codes "load") _ _ ws (λ h. cc) a.0 b.0)
spell_one (Render s f n t) (Meta c) ws a b = absurd (apart (codes "render") (codes "meta") _ _ ws (λ h. cc) a.0 b)
spell_one (Script c d) (Render s f n t) ws a b = absurd (apart (codes "script") (codes "render") _ _ ws (λ h. cc) a b.0)
spell_one (Script c d) (Script c' d') ws a b =
    let e = same_three _ _ _ _ _ _ (sym a ∙ b) in ap (λ x. Script x d) e.0 ∙ ap (λ x. Script c' x) e.1
spell_one (Script c d) (Serve c') ws a b = absurd (apart (codes "script") (codes "serve") _ _ ws (λ h. cc) a b)
spell_one (Script c d) (Load x y) ws a b = absurd (apart (codes "script") (codes "load") _ _ ws (λ h. cc) a b.0)
spell_one (Script c d) (Meta c') ws a b = absurd (apart (codes "script") (codes "meta") _ _ ws (λ h. cc) a b)
spell_one (Serve c) (Render s f n t) ws a b = absurd (apart (codes "serve") (codes "render") _ _ ws (λ h. cc) a b.0)
spell_one (Serve c) (Script c' d) ws a b = absurd (apart (codes "serve") (codes "script") _ _ ws (λ h. cc) a b)
spell_one (Serve c) (Serve c') ws a b = ap (λ x. Serve x) (same_two _ _ _ _ (sym a ∙ b))
spell_one (Serve c) (Load x y) ws a b = absurd (apart (codes "serve") (codes "load") _ _ ws (λ h. cc) a b.0)
spell_one (Serve c) (Meta c') ws a b = absurd (apart (codes "serve") (codes "meta") _ _ ws (λ h. cc) a b)
spell_one (Load x y) (Render s f n t) ws a b = absurd (apart (codes "load") (codes "render") _ _ ws (λ h. cc) a.0 b.0)
spell_one (Load x y) (Script c d) ws a b = absurd (apart (codes "load") (codes "script") _ _ ws (λ h. cc) a.0 b)
spell_one (Load x y) (Serve c) ws a b = absurd (apart (codes "load") (codes "serve") _ _ ws (λ h. cc) a.0 b)
spell_one (Load x y) (Load x' y') ws a b =
    let e = same_three _ _ _ _ _ _ (sym a.0 ∙ b.0) in
    let low = a.3 in
    let low' = b.3 in
    let seed : x ≡ x' = decimal_injective x x' a.1 b.1 e.0 in
    let count : y ≡ y' = decimal_injective y y' (omega arith) (omega arith) e.1 in
    ap (λ z. Load z y) seed ∙ ap (λ z. Load x' z) count
spell_one (Load x y) (Meta c) ws a b = absurd (apart (codes "load") (codes "meta") _ _ ws (λ h. cc) a.0 b)
spell_one (Meta c) (Render s f n t) ws a b = absurd (apart (codes "meta") (codes "render") _ _ ws (λ h. cc) a b.0)
spell_one (Meta c) (Script c' d) ws a b = absurd (apart (codes "meta") (codes "script") _ _ ws (λ h. cc) a b)
spell_one (Meta c) (Serve c') ws a b = absurd (apart (codes "meta") (codes "serve") _ _ ws (λ h. cc) a b)
spell_one (Meta c) (Load x y) ws a b = absurd (apart (codes "meta") (codes "load") _ _ ws (λ h. cc) a b.0)
spell_one (Meta c) (Meta c') ws a b = ap (λ x. Meta x) (same_two _ _ _ _ (sym a ∙ b))
