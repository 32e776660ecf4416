-- The paths that the store in files takes, and the parts that it reads.
use Rattle.std.specs.Prelude.{ℕ, ◌==◌, ◌&&◌, not, Bool, List, codes}
use Rattle.std.specs.List.{list_all, slice_split, ends_with}
use Rattle.std.specs.Str.{bytes_eq}

-- A part of a path names a file or folder of its own: it is not empty and none of `.` and `..`,
-- which name other folders, nor `.lock`, whose lock shows that a program has the folder, and it
-- does not end in `.new`, as the files do that are not written to their end.
abbrev pub is_part : List ℕ → Bool
is_part part =
    not (bytes_eq part (codes ""))
    && (not (bytes_eq part (codes ".")) && (not (bytes_eq part (codes "..")) && (not
    (bytes_eq part (codes ".lock")) && not (ends_with (λ a b. a == b) part (codes ".new")))))

-- a path whose parts between slashes all name files or folders of their own
abbrev pub is_own_path : List ℕ → Bool
is_own_path path = list_all is_part (slice_split (λ b. b == 47) path)

-- the most bytes of a part: as many as the longest text of a tile has, a head of 15 bytes and 512
-- by 512 pixels of 3, and 256 for what is read with it
abbrev pub most_part_bytes : ℕ
most_part_bytes = 786703
