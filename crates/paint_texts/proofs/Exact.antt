-- The function that reads a colour meets the grammar, both ways.
use Rattle.std.specs.Prelude.{◌≡◌, ◌≤◌, ◌↔◌, ◌==◌, ◌⊎◌, ℕ, ◌+◌, ◌*◌, Bool, true, false, cond, ◌&&◌, List, [], ◌∷◌, ◌++◌, length, drop, take, nat_le, codes, Option, Some, None, find, option_map, option_and_then, if◌then◌else◌, refl}
use Rattle.std.specs.List.{Contains, All, list_all, prefix_len}
use Rattle.std.specs.Option.{option_or}
use Rattle.std.specs.Str.{bytes_eq}
use Rattle.std.proofs.Common.{◌∙◌, ap, ap₂, sym, subst, inl, inr, arith, length-take-le}
use Rattle.std.proofs.lemmas.List.{take-append-drop, append_assoc}
use Rattle.std.proofs.lemmas.List.Elements.{All-from_recursion, All-contains, Contains-append_right}
use Rattle.std.proofs.lemmas.Bool.{le-leb, leb-true, eqb-true, eq-eqb, ne_eqb, and_parts}
use Rattle.std.proofs.lemmas.Option.{cond_some, none-some, same_Some}
use Rattle.std.proofs.lemmas.Slice.Eq.{bytes_eq-Decides}
use Rattle.std.proofs.Math.Seq.{take-append_seam, drop-append_seam}
use Rattle.plain_shapes.specs.declared.colour.Colour.{Colour}
use Rattle.farm_base.specs.Digits.{is_digit}
use Rattle.paint_texts.specs.Decimals.{number}
use Rattle.paint_texts.specs.Colours.{rgb, colour_names, colour_by_name, hex, IsChannel, IsShortHash, IsLongHash, is_space, IsPart, IsMixed, IsColour, two_digits, three_channels, channels, behind, hash_colour, without_spaces, part_of, number_before, only, parts, rgb_colour, colour_of}
use Rattle.paint_texts.proofs.Runs.{front_passes, front_spelled}

-- ---- hexadecimal digits

channel_is : (high low n : ℕ) → two_digits (hex high) (hex low) ≡ Some n → IsChannel high low n
channel_is high low n h = go (hex high) (hex low) refl refl h
  where
    go : (o p : Option ℕ) → hex high ≡ o → hex low ≡ p → two_digits o p ≡ Some n → IsChannel high low n
    go (Some x) (Some y) e f h = (x, y, e, f, sym (same_Some (16 * x + y) n h))
    go (Some x) None e f h = absurd (none-some n h)
    go None p e f h = absurd (none-some n h)

is_channel : (high low n : ℕ) → IsChannel high low n → two_digits (hex high) (hex low) ≡ Some n
is_channel high low n (x, y, e, f, v) = ap (λ o. two_digits o (hex low)) e ∙ ap (two_digits (Some x)) f ∙ ap Some (sym v)

joined_is : (o p q : Option ℕ) (c : Colour) → three_channels o p q ≡ Some c → (o ≡ Some c.r) × (p ≡ Some c.g) × (q ≡ Some c.b)
joined_is (Some r) (Some g) (Some b) c h = let e = same_Some (rgb r g b) c h in (ap (λ d. Some d.r) e, ap (λ d. Some d.g) e, ap (λ d. Some d.b) e)
joined_is (Some r) (Some g) None c h = absurd (none-some c h)
joined_is (Some r) None q c h = absurd (none-some c h)
joined_is None p q c h = absurd (none-some c h)

-- what three or six digits are
abbrev AreDigits : List ℕ → Colour → Type 0
AreDigits ds c =
    ((r : ℕ) × (g : ℕ) × (b : ℕ) × (ds ≡ r ∷ g ∷ b ∷ []) × IsChannel r r c.r × IsChannel g g c.g × IsChannel b b c.b)
    ⊎ ((r : ℕ) × (s : ℕ) × (g : ℕ) × (h : ℕ) × (b : ℕ) × (d : ℕ) × (ds ≡ r ∷ s ∷ g ∷ h ∷ b ∷ d ∷ []) × IsChannel r s c.r × IsChannel g h c.g × IsChannel b d c.b)

channels_are : (ds : List ℕ) (c : Colour) → channels ds ≡ Some c → AreDigits ds c
unfolding channels
channels_are [] c e = absurd (none-some c e)
channels_are (r ∷ []) c e = absurd (none-some c e)
channels_are (r ∷ s ∷ []) c e = absurd (none-some c e)
channels_are (r ∷ g ∷ b ∷ []) c e =
    let j = joined_is (two_digits (hex r) (hex r)) (two_digits (hex g) (hex g)) (two_digits (hex b) (hex b)) c e in
    inl (r, g, b, refl, channel_is r r c.r j.0, channel_is g g c.g j.1, channel_is b b c.b j.2)
channels_are (r ∷ s ∷ g ∷ h ∷ []) c e = absurd (none-some c e)
channels_are (r ∷ s ∷ g ∷ h ∷ b ∷ []) c e = absurd (none-some c e)
channels_are (r ∷ s ∷ g ∷ h ∷ b ∷ d ∷ []) c e =
    let j = joined_is (two_digits (hex r) (hex s)) (two_digits (hex g) (hex h)) (two_digits (hex b) (hex d)) c e in
    inr (r, s, g, h, b, d, refl, channel_is r s c.r j.0, channel_is g h c.g j.1, channel_is b d c.b j.2)
channels_are (r ∷ s ∷ g ∷ h ∷ b ∷ d ∷ x ∷ more) c e = absurd (none-some c e)

-- a byte at the front
behind_is : (sign : ℕ) (text rest : List ℕ) → behind sign text ≡ Some rest → text ≡ sign ∷ rest
behind_is sign [] rest e = absurd (none-some rest e)
behind_is sign (c ∷ t) rest e =
    let k = cond_some (c == sign) t rest e in
    ap (λ x. x ∷ t) (eqb-true c sign k.0) ∙ ap (λ x. sign ∷ x) k.1

hash_is : (text : List ℕ) (c : Colour) → hash_colour text ≡ Some c → IsColour text c
unfolding hash_colour
hash_is text c e = go (behind 35 text) refl e
  where
    go : (o : Option (List ℕ)) → behind 35 text ≡ o → option_and_then channels o ≡ Some c → IsColour text c
    go None b e = absurd (none-some c e)
    go (Some ds) b e = elim (channels_are ds c e) [
      | inl (r, g, b', s, x, y, z) ↦ inl (r, g, b', behind_is 35 text ds b ∙ ap (λ x. 35 ∷ x) s, x, y, z)
      | inr (r, s, g, h, b', d, q, x, y, z) ↦ inr (inl (r, s, g, h, b', d, behind_is 35 text ds b ∙ ap (λ x. 35 ∷ x) q, x, y, z))
    ]

short_read : (text : List ℕ) (c : Colour) → IsShortHash text c → colour_of text ≡ Some c
unfolding colour_of hash_colour channels
short_read text c (r, g, b, s, x, y, z) =
    let k : channels (r ∷ g ∷ b ∷ []) ≡ Some c = rw (is_channel r r c.r x, is_channel g g c.g y, is_channel b b c.b z) refl in
    ap (λ t. option_or (hash_colour t) (option_or (rgb_colour t) (colour_by_name t))) s
    ∙ ap (λ o. option_or o (option_or (rgb_colour (35 ∷ r ∷ g ∷ b ∷ [])) (colour_by_name (35 ∷ r ∷ g ∷ b ∷ [])))) k

long_read : (text : List ℕ) (c : Colour) → IsLongHash text c → colour_of text ≡ Some c
unfolding colour_of hash_colour channels
long_read text c (r, s, g, h, b, d, q, x, y, z) =
    let k : channels (r ∷ s ∷ g ∷ h ∷ b ∷ d ∷ []) ≡ Some c = rw (is_channel r s c.r x, is_channel g h c.g y, is_channel b d c.b z) refl in
    ap (λ t. option_or (hash_colour t) (option_or (rgb_colour t) (colour_by_name t))) q
    ∙ ap (λ o. option_or o (option_or (rgb_colour (35 ∷ r ∷ s ∷ g ∷ h ∷ b ∷ d ∷ [])) (colour_by_name (35 ∷ r ∷ s ∷ g ∷ h ∷ b ∷ d ∷ [])))) k

-- ---- numbers with spaces round them

if_some : {A : Type 0} (b : Bool) (o : Option A) (y : A) → (if b then o else None) ≡ Some y → (b ≡ true) × (o ≡ Some y)
if_some true o y e = (refl, e)
if_some false o y e = absurd (none-some y e)

map_some : {A B : Type 0} (f : A → B) (o : Option A) (y : B) → option_map f o ≡ Some y → (x : A) × (o ≡ Some x) × (f x ≡ y)
map_some f None y e = absurd (none-some y e)
map_some f (Some x) y e = (x, refl, same_Some (f x) y e)

prefix_fits : {A : Type 0} (p : A → Bool) (xs : List A) → prefix_len p xs ≤ length xs
prefix_fits p [] = omega arith
prefix_fits p (x ∷ xs) = go (p x) (prefix_fits p xs)
  where
    go : (b : Bool) → prefix_len p xs ≤ length xs → cond b (1 + prefix_len p xs) 0 ≤ length (x ∷ xs)
    go true h = omega (arith, h)
    go false h = omega arith

flat : (a b c d : List ℕ) → a ++ (b ++ (c ++ d)) ≡ a ++ b ++ c ++ d
flat a b c d = simp append_assoc

-- what is read of a number, and where it ends
part_is : (sign : ℕ) (text : List ℕ) (n : ℕ) (rest : List ℕ) → number_before sign text ≡ Some (n, rest) → (s : List ℕ) × (text ≡ s ++ sign ∷ rest) × IsPart s n
unfolding number_before
part_is sign text n rest e =
    let before : List ℕ = take (prefix_len is_space text) text in
    let t : List ℕ = without_spaces text in
    let len : ℕ = prefix_len is_digit t in
    let digits : List ℕ = take len t in
    let u : List ℕ = drop len t in
    let after : List ℕ = take (prefix_len is_space u) u in
    let k = if_some (nat_le 1 len && nat_le len 3 && nat_le (number digits) 255) (option_map (λ rest. (number digits, rest)) (behind sign (without_spaces u))) (n, rest) e in
    let m = map_some (λ rest. (number digits, rest)) (behind sign (without_spaces u)) (n, rest) k.1 in
    let value : number digits ≡ n = ap (λ p. p.0) m.2 in
    let ending : without_spaces u ≡ sign ∷ rest = behind_is sign (without_spaces u) m.0 m.1 ∙ ap (λ p. sign ∷ p.1) m.2 in
    let long : length digits ≡ len = length-take-le len t (prefix_fits is_digit t) in
    let a = and_parts (nat_le 1 len && nat_le len 3) (nat_le (number digits) 255) k.0 in
    let b = and_parts (nat_le 1 len) (nat_le len 3) a.0 in
    let some = leb-true 1 len b.0 in
    let few = leb-true len 3 b.1 in
    let fits = leb-true (number digits) 255 a.1 in (
      before ++ digits ++ after,
      sym (take-append-drop (prefix_len is_space text) text)
          ∙ ap (λ x. before ++ x) (sym (take-append-drop len t) ∙ ap (λ x. digits ++ x) (sym (take-append-drop (prefix_len is_space u) u) ∙ ap (λ x. after ++ x) ending))
          ∙ flat before digits after (sign ∷ rest),
      record {
        before = before;
        digits = digits;
        after = after;
        spelled = refl;
        spaces_before = front_passes is_space text;
        are_digits = front_passes is_digit t;
        spaces_after = front_passes is_space u;
        some = omega (arith, some, long);
        few = omega (arith, few, long);
        value = sym value;
        fits = omega (arith, fits, value);
      },
    )

-- a run at the front ends where a byte does not pass
run_stops : (p : ℕ → Bool) (c : ℕ) (rest : List ℕ) → p c ≡ false → prefix_len p (c ∷ rest) ≡ 0
run_stops p c rest e = ap (λ b. cond b (1 + prefix_len p rest) 0) e

trimmed_is : (before u : List ℕ) → list_all is_space before ≡ true → prefix_len is_space u ≡ 0 → without_spaces (before ++ u) ≡ u
trimmed_is before u h z = ap (λ k. drop k (before ++ u)) (front_spelled is_space before u h z) ∙ drop-append_seam before u

no_space : (d : ℕ) → is_digit d ≡ true → is_space d ≡ false
no_space d e = let k = and_parts (nat_le 48 d) (nat_le d 57) e in let l = leb-true 48 d k.0 in ne_eqb d 32 (λ q. omega (arith, l, q))

no_digit : (d : ℕ) → is_space d ≡ true → is_digit d ≡ false
no_digit d e = let q = eqb-true d 32 e in ap is_digit q

-- digits are no spaces, and spaces no digits
digits_stop : (ds rest : List ℕ) → list_all is_digit ds ≡ true → 1 ≤ length ds → prefix_len is_space (ds ++ rest) ≡ 0
digits_stop [] rest e some = absurd (omega (arith, some))
digits_stop (d ∷ ds) rest e some = run_stops is_space d (ds ++ rest) (no_space d (and_parts (is_digit d) (list_all is_digit ds) e).0)

spaces_stop : (after rest : List ℕ) (sign : ℕ) → list_all is_space after ≡ true → is_digit sign ≡ false → prefix_len is_digit (after ++ sign ∷ rest) ≡ 0
spaces_stop [] rest sign e h = run_stops is_digit sign rest h
spaces_stop (d ∷ after) rest sign e h = run_stops is_digit d (after ++ sign ∷ rest) (no_digit d (and_parts (is_space d) (list_all is_space after) e).0)

-- a number that is spelled so is read, with what stands behind its sign
is_part : (sign : ℕ) (s : List ℕ) (n : ℕ) (rest : List ℕ) → is_space sign ≡ false → is_digit sign ≡ false → IsPart s n → number_before sign (s ++ sign ∷ rest) ≡ Some (n, rest)
unfolding number_before
is_part sign s n rest space digit p =
    let u : List ℕ = p.after ++ sign ∷ rest in
    let t : List ℕ = p.digits ++ u in
    let text : s ++ sign ∷ rest ≡ p.before ++ t = ap (λ x. x ++ sign ∷ rest) p.spelled ∙ sym (flat p.before p.digits p.after (sign ∷ rest)) in
    let front : without_spaces (s ++ sign ∷ rest) ≡ t =
    ap without_spaces text ∙ trimmed_is p.before t p.spaces_before (digits_stop p.digits u p.are_digits p.some) in
    let len : prefix_len is_digit t ≡ length p.digits = front_spelled is_digit p.digits u p.are_digits (spaces_stop p.after rest sign p.spaces_after digit) in
    let ending : without_spaces u ≡ sign ∷ rest = trimmed_is p.after (sign ∷ rest) p.spaces_after (run_stops is_space sign rest space) in
    let same : behind sign (sign ∷ rest) ≡ Some rest = rw (eq-eqb sign sign refl) refl in
    let fits : number p.digits ≤ 255 = let v = p.value in omega (arith, v, p.fits) in
    ap (λ x. part_of sign (prefix_len is_digit x) x) front
    ∙ ap (λ k. part_of sign k t) len
    ∙ rw (le-leb 1 (length p.digits) p.some, le-leb (length p.digits) 3 p.few, take-append_seam p.digits u, le-leb (number p.digits) 255 fits, drop-append_seam p.digits u, ending, same)
    (ap (λ v. Some (v, rest)) (sym p.value))

-- ---- three numbers

-- three numbers with commas between them, and a parenthesis
abbrev Three : List ℕ → Colour → Type 0
Three text c = (r : List ℕ) × (g : List ℕ) × (b : List ℕ) × (text ≡ r ++ 44 ∷ (g ++ 44 ∷ (b ++ 41 ∷ []))) × IsPart r c.r × IsPart g c.g × IsPart b c.b

parts_are : (text : List ℕ) (c : Colour) → parts text ≡ Some c → Three text c
unfolding parts
parts_are text c e = first (number_before 44 text) refl e
  where
    last : (x y z : ℕ) (rest : List ℕ) → only x y z rest ≡ Some c → (rest ≡ []) × (rgb x y z ≡ c)
    last x y z [] e = (refl, same_Some (rgb x y z) c e)
    last x y z (d ∷ rest) e = absurd (none-some c e)

    third : (x : ℕ) (r : List ℕ) (t : List ℕ) → text ≡ r ++ 44 ∷ t → IsPart r x → (y : ℕ) (g : List ℕ) (u : List ℕ) → t ≡ g ++ 44 ∷ u → IsPart g y
        → (o : Option (ℕ × List ℕ)) → number_before 41 u ≡ o → option_and_then (λ b. only x y b.0 b.1) o ≡ Some c → Three text c
    third x r t s p y g u q w None a e = absurd (none-some c e)
    third x r t s p y g u q w (Some (z, v)) a e =
        let l = last x y z v e in
        let k = part_is 41 u z v a in (
          r,
          g,
          k.0,
          s ∙ ap (λ m. r ++ 44 ∷ m) (q ∙ ap (λ m. g ++ 44 ∷ m) (k.1 ∙ ap (λ m. k.0 ++ 41 ∷ m) l.0)),
          subst (IsPart r) (ap (λ d. d.r) l.1) p,
          subst (IsPart g) (ap (λ d. d.g) l.1) w,
          subst (IsPart k.0) (ap (λ d. d.b) l.1) k.2,
        )

    second : (x : ℕ) (r : List ℕ) (t : List ℕ) → text ≡ r ++ 44 ∷ t → IsPart r x
        → (o : Option (ℕ × List ℕ)) → number_before 44 t ≡ o → option_and_then (λ g. option_and_then (λ b. only x g.0 b.0 b.1) (number_before 41 g.1)) o ≡ Some c → Three text c
    second x r t s p None a e = absurd (none-some c e)
    second x r t s p (Some (y, u)) a e = let k = part_is 44 t y u a in third x r t s p y k.0 u k.1 k.2 (number_before 41 u) refl e

    first : (o : Option (ℕ × List ℕ)) → number_before 44 text ≡ o
        → option_and_then (λ r. option_and_then (λ g. option_and_then (λ b. only r.0 g.0 b.0 b.1) (number_before 41 g.1)) (number_before 44 r.1)) o ≡ Some c → Three text c
    first None a e = absurd (none-some c e)
    first (Some (x, t)) a e = let k = part_is 44 text x t a in second x k.0 t k.1 k.2 (number_before 44 t) refl e

parts_read : (r g b : List ℕ) (c : Colour) → IsPart r c.r → IsPart g c.g → IsPart b c.b → parts (r ++ 44 ∷ (g ++ 44 ∷ (b ++ 41 ∷ []))) ≡ Some c
unfolding parts
parts_read r g b c p q w =
    ap (option_and_then (λ r. option_and_then (λ g. option_and_then (λ b. only r.0 g.0 b.0 b.1) (number_before 41 g.1)) (number_before 44 r.1))) (is_part 44 r c.r (g ++ 44 ∷ (b ++ 41 ∷ [])) refl refl p)
    ∙ ap (option_and_then (λ g. option_and_then (λ b. only c.r g.0 b.0 b.1) (number_before 41 g.1))) (is_part 44 g c.g (b ++ 41 ∷ []) refl refl q)
    ∙ ap (option_and_then (λ b. only c.r c.g b.0 b.1)) (is_part 41 b c.b [] refl refl w)

spell : (r g b : List ℕ) → codes "rgb(" ++ r ++ codes "," ++ g ++ codes "," ++ b ++ codes ")" ≡ codes "rgb(" ++ (r ++ 44 ∷ (g ++ 44 ∷ (b ++ 41 ∷ [])))
spell r g b = simp append_assoc

mixed_is : (text : List ℕ) (c : Colour) → rgb_colour text ≡ Some c → IsMixed text c
unfolding rgb_colour
mixed_is text c e =
    let k = if_some (bytes_eq (take 4 text) (codes "rgb(")) (parts (drop 4 text)) c e in
    let (r, g, b, s, x, y, z) = parts_are (drop 4 text) c k.1 in
    (r, g, b, sym (take-append-drop 4 text) ∙ ap (λ t. t ++ drop 4 text) ((bytes_eq-Decides (take 4 text) (codes "rgb(")).0 k.0) ∙ ap (λ t. codes "rgb(" ++ t) s ∙ sym (spell r g b), x, y, z)

mixed_read : (text : List ℕ) (c : Colour) → IsMixed text c → colour_of text ≡ Some c
unfolding colour_of hash_colour rgb_colour
mixed_read text c (r, g, b, s, x, y, z) =
    let body : List ℕ = r ++ 44 ∷ (g ++ 44 ∷ (b ++ 41 ∷ [])) in
    ap (λ t. option_or (hash_colour t) (option_or (rgb_colour t) (colour_by_name t))) (s ∙ spell r g b)
    ∙ ap (λ o. option_or o (colour_by_name (codes "rgb(" ++ body))) (parts_read r g b c x y z)

-- ---- names

find_in : {A : Type 0} (p : A → Bool) (xs : List A) (x : A) → find p xs ≡ Some x → Contains xs x × (p x ≡ true)
find_in p [] x e = absurd (none-some x e)
find_in p (y ∷ xs) x e = go (p y) refl e (find_in p xs x)
  where
    go : (b : Bool) → p y ≡ b → cond b (Some y) (find p xs) ≡ Some x → (find p xs ≡ Some x → Contains xs x × (p x ≡ true)) → Contains (y ∷ xs) x × (p x ≡ true)
    go true q e ih = let s = same_Some y x e in ((0, omega arith, s), sym (ap p s) ∙ q)
    go false q e ih = let k = ih e in (Contains-append_right (y ∷ []) xs x k.0, k.1)

named_is : (text : List ℕ) (c : Colour) → colour_by_name text ≡ Some c → Contains colour_names (text, c)
unfolding colour_by_name
named_is text c e =
    let k = map_some (λ e. e.1) (find (λ e. bytes_eq text e.0) colour_names) c e in
    let f = find_in (λ e. bytes_eq text e.0) colour_names k.0 k.1 in
    let same : k.0 ≡ (text, c) = ap₂ (λ x y. (x, y)) (sym ((bytes_eq-Decides text k.0.0).0 f.1)) k.2 in
    subst (Contains colour_names) same f.0

names_read : All (λ e. colour_of e.0 ≡ Some e.1) colour_names
unfolding colour_of hash_colour rgb_colour colour_by_name
names_read = All-from_recursion (λ e. colour_of e.0 ≡ Some e.1) colour_names
    (refl, (refl, (refl, (refl, (refl, (refl, (refl, (refl, (refl, (refl, (refl, (refl, (refl, (refl, (refl, (refl, tt))))))))))))))))

-- ---- whole texts

colour_is : (text : List ℕ) (c : Colour) → colour_of text ≡ Some c → IsColour text c
unfolding colour_of
colour_is text c e = hash (hash_colour text) refl e
  where
    mix : (o : Option Colour) → rgb_colour text ≡ o → option_or o (colour_by_name text) ≡ Some c → IsColour text c
    mix (Some d) m e = inr (inr (inl (mixed_is text c (m ∙ e))))
    mix None m e = inr (inr (inr (named_is text c e)))

    hash : (o : Option Colour) → hash_colour text ≡ o → option_or o (option_or (rgb_colour text) (colour_by_name text)) ≡ Some c → IsColour text c
    hash (Some d) h e = hash_is text c (h ∙ e)
    hash None h e = mix (rgb_colour text) refl e

is_colour : (text : List ℕ) (c : Colour) → IsColour text c → colour_of text ≡ Some c
is_colour text c (inl h) = short_read text c h
is_colour text c (inr (inl h)) = long_read text c h
is_colour text c (inr (inr (inl h))) = mixed_read text c h
is_colour text c (inr (inr (inr h))) = All-contains (λ e. colour_of e.0 ≡ Some e.1) colour_names (text, c) names_read h

pub colour_exact : (text : List ℕ) (c : Colour) → (colour_of text ≡ Some c) ↔ IsColour text c
colour_exact text c = (colour_is text c, is_colour text c)
