-- Strokes and marks: which points lie on a line, on a ring's outline or in a mark, all in whole
-- numbers. The shapes of bodies and caps are those of Mapnik's strokes; that every join is round,
-- and the ellipse of a mark, are this project's own.
use Rattle.std.specs.Prelude.{ℕ, ◌-◌, ◌*◌, ◌/◌, ◌==◌, Bool, false, not, ◌&&◌, ◌||◌, nat_le, if◌then◌else◌, List, [], ◌∷◌, length, slice_get, option_map, unwrap_or, ℤ, pos, ◌+ℤ◌, ◌-ℤ◌, ◌*ℤ◌, int_le, int_lt, unsigned_abs}
use Rattle.std.specs.List.{list_any}
use Rattle.plain_world.specs.declared.world.Point.{Point}
use Rattle.plain_shapes.specs.declared.shapes.LineCap.{LineCap}
use Rattle.plain_shapes.specs.declared.shapes.LineCap.TheVariants as with
use Rattle.plain_shapes.specs.Rings.{less}

-- a number times itself
abbrev pub square : ℤ → ℤ
square z = z *ℤ z

-- the square of the length of the segment from a to b
unfoldable pub long : Point → Point → ℤ
long a b = square (less b.x a.x) +ℤ square (less b.y a.y)

-- how far c lies along the segment from a to b, times its length: 0 beside a, and the square of the
-- length beside b
unfoldable pub along : Point → Point → Point → ℤ
along a b c = less c.x a.x *ℤ less b.x a.x +ℤ less c.y a.y *ℤ less b.y a.y

-- how far c lies beside the line through a and b, times the segment's length; its sign says on
-- which side
unfoldable pub beside : Point → Point → Point → ℤ
beside a b c = less c.x a.x *ℤ less b.y a.y -ℤ less c.y a.y *ℤ less b.x a.x

-- the square of half a stroke's width, times the square of the segment's length
unfoldable pub reach : ℕ → Point → Point → ℤ
reach half a b = pos half *ℤ pos half *ℤ long a b

-- c lies at most half a width from the line through a and b
unfoldable pub is_near : ℕ → Point → Point → Point → Bool
is_near half a b c = int_le (square (beside a b c)) (reach half a b)

-- the body of the stroked segment from a to b holds c: beside the segment, and near
unfoldable pub in_body : ℕ → Point → Point → Point → Bool
in_body half a b c =
    int_le (pos 0) (along a b c) && int_le (along a b c) (long a b) && is_near half a b c

-- the disk round p holds c
unfoldable pub in_disk : ℕ → Point → Point → Bool
in_disk half p c = int_le (square (less c.x p.x) +ℤ square (less c.y p.y)) (pos half *ℤ pos half)

-- the square cap of the segment from a to b before a holds c: near, before a, and by at most half a
-- width
unfoldable pub before_start : ℕ → Point → Point → Point → Bool
before_start half a b c = is_near half a b c && int_lt (along a b c) (pos 0)
    && int_le (square (along a b c)) (reach half a b)

-- the square cap past b
unfoldable pub past_end : ℕ → Point → Point → Point → Bool
past_end half a b c = is_near half a b c && int_lt (long a b) (along a b c)
    && int_le (square (along a b c -ℤ long a b)) (reach half a b)

-- the square round p holds c
unfoldable pub in_block : ℕ → Point → Point → Bool
in_block half p c =
    nat_le (unsigned_abs (less c.x p.x)) half && nat_le (unsigned_abs (less c.y p.y)) half

-- two points are one
abbrev pub is_same : Point → Point → Bool
is_same p q = p.x == q.x && p.y == q.y

-- a line's points without those that equal the point before them
abbrev pub kept_after : Point → List Point → List Point
kept_after before [] = []
kept_after before (p ∷ ps) = if is_same before p then kept_after p ps else p ∷ kept_after p ps

-- a line's points, the first always with them
abbrev pub line_points : List Point → List Point
line_points [] = []
line_points (p ∷ ps) = p ∷ kept_after p ps

-- the body of one of the segments from a along the points
abbrev pub on_bodies : ℕ → Point → List Point → Point → Bool
on_bodies half a [] c = false
on_bodies half a (b ∷ ps) c = in_body half a b c || on_bodies half b ps c

-- the disk of one of the points but the last: behind a first point these are the joins
abbrev pub on_joins : ℕ → List Point → Point → Bool
on_joins half [] c = false
on_joins half (p ∷ []) c = false
on_joins half (p ∷ q ∷ ps) c = in_disk half p c || on_joins half (q ∷ ps) c

-- the disk at the last point, which is b where none follows
abbrev pub in_last_disk : ℕ → Point → List Point → Point → Bool
in_last_disk half b [] c = in_disk half b c
in_last_disk half b (p ∷ ps) c = in_last_disk half p ps c

-- the square cap past the end of the last segment, which is the one from a to b where no point
-- follows
abbrev pub past_last : ℕ → Point → Point → List Point → Point → Bool
past_last half a b [] c = past_end half a b c
past_last half a b (p ∷ ps) c = past_last half b p ps c

-- the caps at the two ends of the line a, b and the points behind: nothing, disks, or half squares
abbrev pub on_caps : ℕ → LineCap → Point → Point → List Point → Point → Bool
on_caps half with.Butt a b ps c = false
on_caps half with.Round a b ps c = in_disk half a c || in_last_disk half b ps c
on_caps half with.Square a b ps c = before_start half a b c || past_last half a b ps c

-- a line of one point: nothing, its disk, or its square
abbrev pub on_dot : ℕ → LineCap → Point → Point → Bool
on_dot half with.Butt p c = false
on_dot half with.Round p c = in_disk half p c
on_dot half with.Square p c = in_block half p c

-- a line none of whose points equals the one before: its bodies, the disks at its inner points, and
-- its caps
abbrev pub on_kept : ℕ → LineCap → List Point → Point → Bool
on_kept half cap [] c = false
on_kept half cap (p ∷ []) c = on_dot half cap p c
on_kept half cap (a ∷ b ∷ ps) c =
    on_bodies half a (b ∷ ps) c || on_joins half (b ∷ ps) c || on_caps half cap a b ps c

-- the stroke of a line holds c
abbrev pub on_line : ℕ → LineCap → Point → List Point → Bool
on_line half cap c points = on_kept half cap (line_points points) c

-- the stroke of one of the lines holds c
abbrev pub on_stroke : List (List Point) → ℕ → LineCap → Point → Bool
on_stroke lines half cap c = list_any (on_line half cap c) lines

-- the body of one of the segments from a along the points, those without length aside
abbrev pub on_sides : ℕ → Point → List Point → Point → Bool
on_sides half a [] c = false
on_sides half a (b ∷ ps) c = (not (is_same a b) && in_body half a b c) || on_sides half b ps c

-- the disk round one of the points
abbrev pub on_disks : ℕ → List Point → Point → Bool
on_disks half ps c = list_any (λ q. in_disk half q c) ps

-- the outline of a ring, which is closed from its last point to its first, holds c: a body of its
-- segments, or the disk at one of its points
abbrev pub on_ring : ℕ → Point → List Point → Bool
on_ring half c ps = unwrap_or (option_map (λ last. on_sides half last ps c || on_disks half ps c)
    (slice_get ps (length ps - 1))) false

-- the outline of one of the rings holds c
abbrev pub on_outline : List (List Point) → ℕ → Point → Bool
on_outline rings half c = list_any (on_ring half c) rings

-- the ellipse round p holds c: its half width is a, its half height b, and none of them is 0
unfoldable pub in_mark : ℕ → ℕ → Point → Point → Bool
in_mark a b c p = nat_le 1 a && nat_le 1 b && int_le (square (less c.x p.x) *ℤ square
    (pos b) +ℤ square (less c.y p.y) *ℤ square (pos a)) (square (pos a) *ℤ square (pos b))

-- the ellipse round one of the points holds c
abbrev pub on_marks : List Point → ℕ → ℕ → Point → Bool
on_marks points a b c = list_any (in_mark a b c) points

-- half the width of a stroke, or of a mark, of so many hundredths of a pixel, in world units,
-- rounded down
abbrev pub half_of : ℕ → ℕ → ℕ
half_of width pixel = width * pixel / 200
