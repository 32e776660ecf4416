-- The bytes of a connection as they are read, one after another.
use Rattle.std.specs.Prelude.{ℕ, ◌==◌, Bool, true, false, cond, nat_lt, List, [], ◌∷◌, ◌++◌, length, map}
use Rattle.std.specs.List.{slice_split}
use Rattle.farm_base.specs.Limits.{most_control_bytes}
use Rattle.control_front.specs.declared.acts.Line.{Line}
use Rattle.control_front.specs.declared.acts.Line.TheVariants as line
use Rattle.control_front.specs.Lines.{line_in}

-- the parts of the bytes between newlines: the whole lines, and then what stands behind the last newline
abbrev pub line_parts : List ℕ → List (List ℕ)
line_parts given = slice_split (λ b. b == 10) given

-- What was read of a connection: its whole lines without their newlines, the oldest first; the bytes of the line that
-- has not ended; and whether that line is too long.
pub record Reading : Type 0 where
  pub lines : List (List ℕ)
  pub part : List ℕ
  pub long : Bool

-- One byte more. A newline ends the line; a line has at most 64 bytes; behind a line that is too long nothing is read.
abbrev pub with_byte : Reading → ℕ → Reading
with_byte r b =
    cond r.long r
    (cond (b == 10) (record { lines = r.lines ++ r.part ∷ []; part = []; long = false })
    (cond (nat_lt (length r.part) most_control_bytes)
    (record { lines = r.lines; part = r.part ++ b ∷ []; long = false })
    (record { lines = r.lines; part = r.part; long = true })))

-- these bytes more
abbrev pub read_on : Reading → List ℕ → Reading
read_on r [] = r
read_on r (b ∷ bytes) = read_on (with_byte r b) bytes

-- nothing but this part of a line
abbrev pub part_alone : List ℕ → Reading
part_alone part = record { lines = []; part = part; long = false }

-- what was read of all bytes that came
abbrev pub read_all : List ℕ → Reading
read_all given = read_on (part_alone []) given

-- the requests in what was read: what its lines say, and a bad line for the one that is too long
abbrev pub wants : Reading → List Line
wants r = map line_in r.lines ++ cond r.long (line.Bad ∷ []) []
