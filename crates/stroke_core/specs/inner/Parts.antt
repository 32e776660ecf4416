-- A line's stroke as the code goes through it: sides, joins and ends by their places in the list of kept points.
use Rattle.std.specs.Prelude.{ℕ, ◌-◌, Bool, false, not, ◌&&◌, ◌||◌, List, [], ◌∷◌, length, take, drop, slice_index_or}
use Rattle.plain_world.specs.declared.world.Point.{Point}
use Rattle.plain_shapes.specs.declared.shapes.LineCap.{LineCap}
use Rattle.plain_shapes.specs.declared.shapes.LineCap.TheVariants as with
use Rattle.plain_shapes.specs.Strokes.{is_same, in_body, in_disk, before_start, past_end, on_sides, on_disks, on_dot}

-- the point at a place of a list that has it
abbrev pub point_at : List Point → ℕ → Point
point_at ps k = slice_index_or ps k (record { x = 0; y = 0 })

-- the body of the segment from a to b, which has to have some length, or the disk at b
abbrev pub on_part : ℕ → Point → Point → Point → Bool
on_part half a b c = (not (is_same a b) && in_body half a b c) || in_disk half b c

-- the caps of a line that begins with the segment from a to b and ends with the one from y to z
abbrev pub on_ends : ℕ → LineCap → Point → Point → Point → Point → Point → Bool
on_ends half with.Butt a b y z c = false
on_ends half with.Round a b y z c = in_disk half a c || in_disk half z c
on_ends half with.Square a b y z c = (not (is_same a b) && before_start half a b c) || (not (is_same y z) && past_end half y z c)

-- the stroke of a line of two points or more: its sides, the disks at its inner points, and its ends
abbrev pub on_long : ℕ → LineCap → List Point → Point → Bool
on_long half cap ps c =
    (on_sides half (point_at ps 0) (drop 1 ps) c || on_disks half (take (length ps - 2) (drop 1 ps)) c)
    || on_ends half cap (point_at ps 0) (point_at ps 1) (point_at ps (length ps - 2)) (point_at ps (length ps - 1)) c

-- the stroke of any line: of no point nothing, of one point a dot
abbrev pub on_parts : ℕ → LineCap → List Point → Point → Bool
on_parts half cap [] c = false
on_parts half cap (p ∷ []) c = on_dot half cap p c
on_parts half cap (a ∷ b ∷ ps) c = on_long half cap (a ∷ b ∷ ps) c
