-- The sides, joins and ends of lines and rings by their places.
use Rattle.std.proofs.Common.{◌≡◌, ◌==◌, ℕ, suc, zero, ◌+◌, ◌-◌, ◌<◌, ◌≤◌, Bool, true, false, not, ◌&&◌, ◌||◌, List, [], ◌∷◌, length, take, drop, get_or, All, refl, ap, sym, subst, ◌∙◌, inl, inr, arith, add-one, drop-cons}
use Rattle.std.specs.Prelude.{Result, Ok, Err, OnErr, if◌then◌else◌, option_map, unwrap_or}
use Rattle.std.specs.List.{list_any}
use Rattle.std.proofs.Math.Bool.{or-false, or_assoc}
use Rattle.std.proofs.lemmas.Bool.{and_parts, or_cases, or_left, or_right, eqb-true}
use Rattle.std.proofs.lemmas.List.{drop_all}
use Rattle.std.proofs.lemmas.List.Elements.{All-cons, All-head, All-tail}
use Rattle.std.proofs.lemmas.Option.{slice_get-get_or}
use Rattle.plain_world.specs.declared.world.Point.{Point}
use Rattle.plain_shapes.specs.declared.shapes.LineCap.{LineCap}
use Rattle.plain_shapes.specs.declared.shapes.LineCap.TheVariants as with
use Rattle.plain_world.specs.World.{InWorld}
use Rattle.plain_shapes.specs.Strokes.{is_same, in_body, in_disk, before_start, past_end, line_points, kept_after, on_bodies, on_joins, in_last_disk, past_last, on_caps, on_kept, on_line, on_sides, on_disks, on_ring}
use Rattle.stroke_core.specs.inner.Parts.{point_at, on_ends, on_long, on_parts}

-- whether the body of the segment from a to b holds c, which has to have some length
abbrev pub side : ℕ → Point → Point → Point → Bool
side half a b c = not (is_same a b) && in_body half a b c

sides_step : (half : ℕ) (before : Point) (ps : List Point) (i : ℕ) (d : Point) → i < length ps → (c : Point)
    → on_sides half before (drop i ps) c ≡ (side half before (get_or ps i d) c || on_sides half (get_or ps i d) (drop (i + 1) ps) c)
sides_step half before ps i d lt c =
    ap (λ qs. on_sides half before qs c) (drop-cons ps i d lt)
    ∙ ap (λ k. side half before (get_or ps i d) c || on_sides half (get_or ps i d) (drop k ps) c) (sym (add-one i))

disks_step : (half : ℕ) (ps : List Point) (i : ℕ) (d : Point) → i < length ps → (c : Point)
    → on_disks half (drop i ps) c ≡ (in_disk half (get_or ps i d) c || on_disks half (drop (i + 1) ps) c)
disks_step half ps i d lt c =
    ap (λ qs. on_disks half qs c) (drop-cons ps i d lt)
    ∙ ap (λ k. in_disk half (get_or ps i d) c || on_disks half (drop k ps) c) (sym (add-one i))

or_paired : (a b c d : Bool) → ((a || b) || (c || d)) ≡ ((a || c) || (b || d))
or_paired true b c d = refl
or_paired false true true d = refl
or_paired false true false d = refl
or_paired false false c d = refl

-- one side more, and the disk at its end
pub rounded_step : (half : ℕ) (before : Point) (ps : List Point) (i : ℕ) (d : Point) → i < length ps → (c : Point)
    → (on_sides half before (drop i ps) c || on_disks half (drop i ps) c)
    ≡ ((side half before (get_or ps i d) c || in_disk half (get_or ps i d) c) || (on_sides half (get_or ps i d) (drop (i + 1) ps) c || on_disks half (drop (i + 1) ps) c))
rounded_step half before ps i d lt c =
    (λ k. sides_step half before ps i d lt c k || disks_step half ps i d lt c k)
    ∙ or_paired (side half before (get_or ps i d) c) (on_sides half (get_or ps i d) (drop (i + 1) ps) c) (in_disk half (get_or ps i d) c) (on_disks half (drop (i + 1) ps) c)

pub rounded_none : (half : ℕ) (before : Point) (ps : List Point) (i : ℕ) → length ps ≤ i → (c : Point) → (on_sides half before (drop i ps) c || on_disks half (drop i ps) c) ≡ false
rounded_none half before ps i le c = ap (λ qs. on_sides half before qs c || on_disks half qs c) (drop_all i ps le)

pub any_take : {X : Type 0} (p : X → Bool) (i : ℕ) (xs : List X) → list_any p (take i xs) ≡ true → list_any p xs ≡ true
any_take p zero [] h = h
any_take p zero (x ∷ xs) h = absurd (cc)
any_take p (suc i) [] h = h
any_take p (suc i) (x ∷ xs) h = elim (or_cases (p x) (list_any p (take i xs)) h) [
  | inl e ↦ or_left (p x) (list_any p xs) e
  | inr e ↦ or_right (p x) (list_any p xs) (any_take p i xs e)
]

-- the last side apart from those before it
sides_last : (half : ℕ) (a : Point) (ps : List Point) (k : ℕ) (c : Point) → length ps ≡ suc k
    → on_sides half a ps c ≡ (on_sides half a (take k ps) c || side half (point_at (a ∷ ps) k) (point_at (a ∷ ps) (suc k)) c)
sides_last half a [] k c e = absurd (omega arith)
sides_last half a (b ∷ []) zero c e = or-false (side half a b c)
sides_last half a (b ∷ q ∷ ps) zero c e = absurd (omega arith)
sides_last half a (b ∷ ps) (suc k) c e =
    ap (λ t. side half a b c || t) (sides_last half b ps k c (omega arith))
    ∙ sym (or_assoc (side half a b c) (on_sides half b (take k ps) c) (side half (point_at (b ∷ ps) k) (point_at (b ∷ ps) (suc k)) c))

or_last : (s d b e : Bool) → (((s || d) || b) || e) ≡ (((s || b) || d) || e)
or_last true d b e = refl
or_last false true true e = refl
or_last false true false e = refl
or_last false false b e = ap (λ t. t || e) (sym (or-false b))

-- the slices that the code takes, and its last side
pub long_is : (half : ℕ) (cap : LineCap) (ps : List Point) → 2 ≤ length ps → (c : Point)
    → (((on_sides half (point_at ps 0) (take (length ps - 1 - 1) (drop 1 ps)) c || on_disks half (take (length ps - 1 - 1) (drop 1 ps)) c)
    || side half (point_at ps (length ps - 2)) (point_at ps (length ps - 1)) c)
    || on_ends half cap (point_at ps 0) (point_at ps 1) (point_at ps (length ps - 2)) (point_at ps (length ps - 1)) c) ≡ on_long half cap ps c
long_is half cap [] some c = absurd (omega arith)
long_is half cap (a ∷ []) some c = absurd (omega arith)
long_is half cap (a ∷ b ∷ ps) some c =
    let l : List Point = a ∷ b ∷ ps in
    let k : ℕ = length ps in
    let two : length l - 1 - 1 ≡ k = omega arith in
    let before : length l - 2 ≡ k = omega arith in
    let last : length l - 1 ≡ suc k = omega arith in
    let ends : Bool = on_ends half cap a b (point_at l (length l - 2)) (point_at l (length l - 1)) c in
    let disks : Bool = on_disks half (take k (b ∷ ps)) c in
    ap (λ n. ((on_sides half a (take n (b ∷ ps)) c || on_disks half (take n (b ∷ ps)) c) || side half (point_at l (length l - 2)) (point_at l (length l - 1)) c) || ends) two
    ∙ ap (λ n. ((on_sides half a (take k (b ∷ ps)) c || disks) || side half (point_at l n) (point_at l (length l - 1)) c) || ends) before
    ∙ ap (λ n. ((on_sides half a (take k (b ∷ ps)) c || disks) || side half (point_at l k) (point_at l n) c) || ends) last
    ∙ or_last (on_sides half a (take k (b ∷ ps)) c) disks (side half (point_at l k) (point_at l (suc k)) c) ends
    ∙ ap (λ t. (t || disks) || ends) (sym (sides_last half a (b ∷ ps) k c refl))
    ∙ ap (λ n. (on_sides half a (b ∷ ps) c || on_disks half (take n (b ∷ ps)) c) || ends) (sym before)

pub parts_none : (half : ℕ) (cap : LineCap) (ps : List Point) → length ps ≡ 0 → (c : Point) → on_parts half cap ps c ≡ false
parts_none half cap [] e c = refl
parts_none half cap (p ∷ ps) e c = absurd (omega arith)

pub ring_none : (half : ℕ) (ps : List Point) → length ps ≡ 0 → (c : Point) → on_ring half c ps ≡ false
ring_none half [] e c = refl
ring_none half (p ∷ ps) e c = absurd (omega arith)

pub ring_is : (half : ℕ) (ps : List Point) → (length ps ≡ 0 → ⊥) → (c : Point)
    → (on_sides half (point_at ps (length ps - 1)) ps c || on_disks half ps c) ≡ on_ring half c ps
ring_is half ps some c =
    let lt : length ps - 1 < length ps = omega arith in
    sym (ap (λ o. unwrap_or (option_map (λ last. on_sides half last ps c || on_disks half ps c) o) false) (slice_get-get_or ps (length ps - 1) (record { x = 0; y = 0 }) lt))

-- kept points lie in the world where all do
choose_within : (t : Bool) (p : Point) (rest : List Point) → InWorld p → All InWorld rest → All InWorld (if t then rest else p ∷ rest)
choose_within true p rest h r = r
choose_within false p rest h r = All-cons InWorld p rest h r

kept_after_within : (before : Point) (ps : List Point) → All InWorld ps → All InWorld (kept_after before ps)
kept_after_within before [] h = h
kept_after_within before (p ∷ ps) h =
    choose_within (is_same before p) p (kept_after p ps) (All-head InWorld p ps h) (kept_after_within p ps (All-tail InWorld p ps h))

pub kept_within : (ps : List Point) → All InWorld ps → All InWorld (line_points ps)
kept_within [] h = h
kept_within (p ∷ ps) h = All-cons InWorld p (kept_after p ps) (All-head InWorld p ps h) (kept_after_within p ps (All-tail InWorld p ps h))

point_same : (p q : Point) → is_same p q ≡ true → p ≡ q
point_same p q h =
    let parts = and_parts (p.x == q.x) (p.y == q.y) h in
    ap (λ x. record { x = x; y = p.y }) (eqb-true p.x q.x parts.0) ∙ ap (λ y. record { x = q.x; y = y }) (eqb-true p.y q.y parts.1)

-- no point equals the one before it
abbrev apart_from : Point → List Point → Type 0
apart_from a [] = Unit {0}
apart_from a (b ∷ ps) = (is_same a b ≡ false) × apart_from b ps

choose_apart : (t : Bool) (before p : Point) (rest : List Point) → is_same before p ≡ t → apart_from p rest → apart_from before (if t then rest else p ∷ rest)
choose_apart true before p rest e h = (let P : Point → Type 0 = λ q. apart_from q rest in subst P (sym (point_same before p e)) h)
choose_apart false before p rest e h = (e, h)

kept_apart : (before : Point) (ps : List Point) → apart_from before (kept_after before ps)
kept_apart before [] = tt
kept_apart before (p ∷ ps) = choose_apart (is_same before p) before p (kept_after p ps) refl (kept_apart p ps)

sides_bodies : (half : ℕ) (a : Point) (ps : List Point) (c : Point) → apart_from a ps → on_sides half a ps c ≡ on_bodies half a ps c
sides_bodies half a [] c h = refl
sides_bodies half a (b ∷ ps) c h =
    ap (λ t. (not t && in_body half a b c) || on_sides half b ps c) h.0 ∙ ap (λ t. in_body half a b c || t) (sides_bodies half b ps c h.1)

joins_disks : (half : ℕ) (p : Point) (ps : List Point) (c : Point) → on_disks half (take (length ps) (p ∷ ps)) c ≡ on_joins half (p ∷ ps) c
joins_disks half p [] c = refl
joins_disks half p (q ∷ ps) c = ap (λ t. in_disk half p c || t) (joins_disks half q ps c)

last_disk : (half : ℕ) (b : Point) (ps : List Point) (c : Point) → in_disk half (point_at (b ∷ ps) (length ps)) c ≡ in_last_disk half b ps c
last_disk half b [] c = refl
last_disk half b (p ∷ ps) c = last_disk half p ps c

past_ends : (half : ℕ) (a b : Point) (ps : List Point) (c : Point)
    → past_end half (point_at (a ∷ b ∷ ps) (length ps)) (point_at (b ∷ ps) (length ps)) c ≡ past_last half a b ps c
past_ends half a b [] c = refl
past_ends half a b (p ∷ ps) c = past_ends half b p ps c

last_apart : (a b : Point) (ps : List Point) → apart_from a (b ∷ ps) → is_same (point_at (a ∷ b ∷ ps) (length ps)) (point_at (b ∷ ps) (length ps)) ≡ false
last_apart a b [] h = h.0
last_apart a b (p ∷ ps) h = last_apart b p ps h.1

ends_caps : (half : ℕ) (cap : LineCap) (a b : Point) (ps : List Point) (c : Point) → apart_from a (b ∷ ps)
    → on_ends half cap a b (point_at (a ∷ b ∷ ps) (length ps)) (point_at (b ∷ ps) (length ps)) c ≡ on_caps half cap a b ps c
ends_caps half with.Butt a b ps c h = refl
ends_caps half with.Round a b ps c h = ap (λ t. in_disk half a c || t) (last_disk half b ps c)
ends_caps half with.Square a b ps c h =
    let y : Point = point_at (a ∷ b ∷ ps) (length ps) in
    let z : Point = point_at (b ∷ ps) (length ps) in
    ap (λ t. (not t && before_start half a b c) || (not (is_same y z) && past_end half y z c)) h.0
    ∙ ap (λ t. before_start half a b c || (not t && past_end half y z c)) (last_apart a b ps h)
    ∙ ap (λ t. before_start half a b c || t) (past_ends half a b ps c)

long_kept : (half : ℕ) (cap : LineCap) (a b : Point) (ps : List Point) (c : Point) → apart_from a (b ∷ ps)
    → on_long half cap (a ∷ b ∷ ps) c ≡ on_kept half cap (a ∷ b ∷ ps) c
long_kept half cap a b ps c h =
    let l : List Point = a ∷ b ∷ ps in
    let two : length l - 2 ≡ length ps = omega arith in
    let one : length l - 1 ≡ suc (length ps) = omega arith in
    ap (λ k. (on_sides half a (b ∷ ps) c || on_disks half (take k (b ∷ ps)) c) || on_ends half cap a b (point_at l k) (point_at l (length l - 1)) c) two
    ∙ ap (λ k. (on_sides half a (b ∷ ps) c || on_disks half (take (length ps) (b ∷ ps)) c) || on_ends half cap a b (point_at l (length ps)) (point_at l k) c) one
    ∙ ap (λ t. (on_sides half a (b ∷ ps) c || on_disks half (take (length ps) (b ∷ ps)) c) || t) (ends_caps half cap a b ps c h)
    ∙ ap (λ t. (t || on_disks half (take (length ps) (b ∷ ps)) c) || on_caps half cap a b ps c) (sides_bodies half a (b ∷ ps) c h)
    ∙ ap (λ t. (on_bodies half a (b ∷ ps) c || t) || on_caps half cap a b ps c) (joins_disks half b ps c)

parts_are : (half : ℕ) (cap : LineCap) (p : Point) (ps : List Point) (c : Point) → apart_from p ps → on_parts half cap (p ∷ ps) c ≡ on_kept half cap (p ∷ ps) c
parts_are half cap p [] c h = refl
parts_are half cap p (q ∷ ps) c h = long_kept half cap p q ps c h

-- the parts of the kept points are the line
pub parts_kept : (half : ℕ) (cap : LineCap) (points : List Point) (c : Point) → on_parts half cap (line_points points) c ≡ on_line half cap c points
parts_kept half cap [] c = refl
parts_kept half cap (p ∷ ps) c = parts_are half cap p (kept_after p ps) c (kept_apart p ps)

pub on_err : {V E : Type 0} (r : Result V E) (P : Type 0) → P → OnErr r P
on_err (Ok v) P p = tt
on_err (Err e) P p = p
