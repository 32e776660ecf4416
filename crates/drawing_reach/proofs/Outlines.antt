-- Strokes and marks lie in every rectangle that holds their points, widened by what they spread.
use Rattle.std.proofs.Common.{◌≡◌, ℕ, ◌+◌, ◌-◌, Bool, true, false, not, ◌&&◌, ◌||◌, List, [], ◌∷◌, length, take, ap, sym, ◌∙◌, inl, inr, arith}
use Rattle.std.specs.Prelude.{if◌then◌else◌, option_map, unwrap_or, All}
use Rattle.std.specs.List.{AllByRecursion}
use Rattle.std.proofs.lemmas.Bool.{or_cases, and_parts, not-true}
use Rattle.std.proofs.lemmas.List.Elements.{All-from_recursion}
use Rattle.plain_world.specs.declared.world.Point.{Point}
use Rattle.plain_shapes.specs.declared.shapes.LineCap.{LineCap}
use Rattle.plain_shapes.specs.declared.shapes.LineCap.TheVariants as with
use Rattle.plain_shapes.specs.Strokes.{is_same, in_body, in_disk, in_mark, before_start, past_end, line_points, kept_after, on_sides, on_disks, on_dot, on_line, on_stroke, on_ring, on_outline, on_marks}
use Rattle.geo_model.specs.declared.bounds.Bounds.{Bounds}
use Rattle.geo_model.specs.Bounds.{InBounds}
use Rattle.stroke_core.specs.inner.Parts.{point_at, on_ends, on_parts}
use Rattle.stroke_core.proofs.Boxes.{InBox, body_box, start_box, end_box, disk_box, block_box}
use Rattle.stroke_core.proofs.Sides.{any_take, parts_kept}
use Rattle.mark_core.proofs.Marks.{mark_near}
use Rattle.drawing_reach.specs.inner.Spreads.{Beside}
use Rattle.drawing_reach.proofs.Members.{any_in, last_of, last_at, last_has}

-- the box of two points of the rectangle
beside_box : (b : Bounds) (half : ℕ) (p q c : Point) → InBounds b p → InBounds b q → InBox half p q c → Beside b (half + half) (half + half) c
beside_box b half p q c hp hq h = record { west = omega arith; east = omega arith; north = omega arith; south = omega arith }

beside_wide_box : (b : Bounds) (half : ℕ) (p c : Point) → InBounds b p → InBox (half + half) p p c → Beside b (half + half) (half + half) c
beside_wide_box b half p c hp h = record { west = omega arith; east = omega arith; north = omega arith; south = omega arith }

body_beside : (b : Bounds) (half : ℕ) (p q c : Point) → InBounds b p → InBounds b q → (not (is_same p q) && in_body half p q c) ≡ true → Beside b (half + half) (half + half) c
body_beside b half p q c hp hq h =
    let parts = and_parts (not (is_same p q)) (in_body half p q c) h in
    beside_box b half p q c hp hq (body_box half p q c (not-true (is_same p q) parts.0) parts.1)

disk_beside : (b : Bounds) (half : ℕ) (c p : Point) → InBounds b p → in_disk half p c ≡ true → Beside b (half + half) (half + half) c
disk_beside b half c p hp h = beside_box b half p p c hp hp (disk_box half p c h)

sides_beside : (b : Bounds) (half : ℕ) (c p : Point) (ps : List Point) → InBounds b p → AllByRecursion (InBounds b) ps → on_sides half p ps c ≡ true → Beside b (half + half) (half + half) c
sides_beside b half c p [] hp all h = absurd (cc)
sides_beside b half c p (q ∷ ps) hp all h = elim (or_cases (not (is_same p q) && in_body half p q c) (on_sides half q ps c) h) [
  | inl e ↦ body_beside b half p q c hp all.0 e
  | inr e ↦ sides_beside b half c q ps all.0 all.1 e
]

disks_beside : (b : Bounds) (half : ℕ) (c : Point) (ps : List Point) → AllByRecursion (InBounds b) ps → on_disks half ps c ≡ true → Beside b (half + half) (half + half) c
disks_beside b half c ps all h = any_in (InBounds b) (Beside b (half + half) (half + half) c) (λ q. in_disk half q c) (disk_beside b half c) ps all h

dot_beside : (b : Bounds) (half : ℕ) (cap : LineCap) (p c : Point) → InBounds b p → on_dot half cap p c ≡ true → Beside b (half + half) (half + half) c
dot_beside b half with.Butt p c hp h = absurd (cc)
dot_beside b half with.Round p c hp h = disk_beside b half c p hp h
dot_beside b half with.Square p c hp h = beside_box b half p p c hp hp (block_box half p c h)

ends_beside : (b : Bounds) (half : ℕ) (cap : LineCap) (p q y z c : Point) → InBounds b p → InBounds b z → on_ends half cap p q y z c ≡ true → Beside b (half + half) (half + half) c
ends_beside b half with.Butt p q y z c hp hz h = absurd (cc)
ends_beside b half with.Round p q y z c hp hz h = elim (or_cases (in_disk half p c) (in_disk half z c) h) [
  | inl e ↦ disk_beside b half c p hp e
  | inr e ↦ disk_beside b half c z hz e
]
ends_beside b half with.Square p q y z c hp hz h = elim (or_cases (not (is_same p q) && before_start half p q c) (not (is_same y z) && past_end half y z c) h) [
  | inl e ↦ (
      let parts = and_parts (not (is_same p q)) (before_start half p q c) e in
      beside_wide_box b half p c hp (start_box half p q c (not-true (is_same p q) parts.0) parts.1))
  | inr e ↦ (
      let parts = and_parts (not (is_same y z)) (past_end half y z c) e in
      beside_wide_box b half z c hz (end_box half y z c (not-true (is_same y z) parts.0) parts.1))
]

parts_beside : (b : Bounds) (half : ℕ) (cap : LineCap) (c : Point) (ps : List Point) → AllByRecursion (InBounds b) ps → on_parts half cap ps c ≡ true → Beside b (half + half) (half + half) c
parts_beside b half cap c [] all h = absurd (cc)
parts_beside b half cap c (p ∷ []) all h = dot_beside b half cap p c all.0 h
parts_beside b half cap c (p ∷ q ∷ ps) all h =
    let l : List Point = p ∷ q ∷ ps in
    let each : All (InBounds b) l = All-from_recursion (InBounds b) l all in
    let body : Bool = on_sides half p (q ∷ ps) c in
    let joins : Bool = on_disks half (take (length l - 2) (q ∷ ps)) c in
    let ends : Bool = on_ends half cap p q (point_at l (length l - 2)) (point_at l (length l - 1)) c in
    elim (or_cases (body || joins) ends h) [
      | inl e ↦ (elim (or_cases body joins e) [
        | inl k ↦ sides_beside b half c p (q ∷ ps) all.0 all.1 k
        | inr k ↦ disks_beside b half c (q ∷ ps) all.1 (any_take (λ r. in_disk half r c) (length l - 2) (q ∷ ps) k)
      ])
      | inr e ↦ ends_beside b half cap p q (point_at l (length l - 2)) (point_at l (length l - 1)) c all.0 (each (length l - 1) (record { x = 0; y = 0 }) (omega arith)) e
    ]

choose_all : (P : Point → Type 0) (t : Bool) (p : Point) (rest : List Point) → P p → AllByRecursion P rest → AllByRecursion P (if t then rest else p ∷ rest)
choose_all P true p rest h r = r
choose_all P false p rest h r = (h, r)

kept_after_all : (P : Point → Type 0) (before : Point) (ps : List Point) → AllByRecursion P ps → AllByRecursion P (kept_after before ps)
kept_after_all P before [] h = tt
kept_after_all P before (p ∷ ps) h = choose_all P (is_same before p) p (kept_after p ps) h.0 (kept_after_all P p ps h.1)

kept_all : (P : Point → Type 0) (ps : List Point) → AllByRecursion P ps → AllByRecursion P (line_points ps)
kept_all P [] h = tt
kept_all P (p ∷ ps) h = (h.0, kept_after_all P p ps h.1)

line_beside : (b : Bounds) (half : ℕ) (cap : LineCap) (c : Point) (ps : List Point) → AllByRecursion (InBounds b) ps → on_line half cap c ps ≡ true → Beside b (half + half) (half + half) c
line_beside b half cap c ps all h = parts_beside b half cap c (line_points ps) (kept_all (InBounds b) ps all) (parts_kept half cap ps c ∙ h)

pub lines_beside : (b : Bounds) (half : ℕ) (cap : LineCap) (c : Point) (lines : List (List Point)) → AllByRecursion (AllByRecursion (InBounds b)) lines
    → on_stroke lines half cap c ≡ true → Beside b (half + half) (half + half) c
lines_beside b half cap c lines all h =
    any_in (AllByRecursion (InBounds b)) (Beside b (half + half) (half + half) c) (on_line half cap c) (line_beside b half cap c) lines all h

ring_beside : (b : Bounds) (half : ℕ) (c : Point) (ps : List Point) → AllByRecursion (InBounds b) ps → on_ring half c ps ≡ true → Beside b (half + half) (half + half) c
ring_beside b half c [] all h = absurd (cc)
ring_beside b half c (p ∷ ps) all h =
    let last : Point = last_of p ps in
    let is : on_ring half c (p ∷ ps) ≡ (on_sides half last (p ∷ ps) c || on_disks half (p ∷ ps) c) =
    ap (λ o. unwrap_or (option_map (λ last. on_sides half last (p ∷ ps) c || on_disks half (p ∷ ps) c) o) false) (last_at p ps) in
    elim (or_cases (on_sides half last (p ∷ ps) c) (on_disks half (p ∷ ps) c) (sym is ∙ h)) [
      | inl e ↦ sides_beside b half c last (p ∷ ps) (last_has (InBounds b) p ps all.0 all.1) all e
      | inr e ↦ disks_beside b half c (p ∷ ps) all e
    ]

pub outlines_beside : (b : Bounds) (half : ℕ) (c : Point) (rings : List (List Point)) → AllByRecursion (AllByRecursion (InBounds b)) rings
    → on_outline rings half c ≡ true → Beside b (half + half) (half + half) c
outlines_beside b half c rings all h =
    any_in (AllByRecursion (InBounds b)) (Beside b (half + half) (half + half) c) (on_ring half c) (ring_beside b half c) rings all h

mark_beside : (bounds : Bounds) (a b : ℕ) (c p : Point) → InBounds bounds p → in_mark a b c p ≡ true → Beside bounds a b c
mark_beside bounds a b c p hp h =
    let near = mark_near a b c p h in
    let x = near.0 in
    let y = near.1 in
    record { west = omega arith; east = omega arith; north = omega arith; south = omega arith }

pub marks_beside : (bounds : Bounds) (a b : ℕ) (c : Point) (points : List Point) → AllByRecursion (InBounds bounds) points → on_marks points a b c ≡ true → Beside bounds a b c
marks_beside bounds a b c points all h = any_in (InBounds bounds) (Beside bounds a b c) (in_mark a b c) (mark_beside bounds a b c) points all h
