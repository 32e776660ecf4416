-- Parts of lines, as the code writes them. Words of inner contracts.
use Rattle.std.specs.Prelude.{◌≡◌, ℕ, List, [], ◌++◌, length, codes, slice_get, Option, Some, None}
use Rattle.std.specs.Fmt.{decimal}
use Rattle.farm_history.specs.declared.keys.Key.{Key}
use Rattle.farm_history.specs.declared.answers.ClaimAnswer.{ClaimAnswer}
use Rattle.farm_history.specs.declared.answers.ClaimAnswer.TheVariants as claim
use Rattle.farm_history.specs.declared.answers.Fetched.{Fetched}
use Rattle.farm_history.specs.declared.answers.Fetched.TheVariants as fetched
use Rattle.script_answers.specs.Answers.{number_line, meta_number}

-- the numbers of a metatile's lowest tile
abbrev pub place_words : Key → List ℕ
place_words key =
    decimal key.meta.z ++ codes " " ++ decimal key.meta.x ++ codes " " ++ decimal key.meta.y

-- a drawing to make: its ticket, its map's name, its place in words and the data version
abbrev pub job_words : ℕ → List ℕ → List ℕ → ℕ → List ℕ
job_words ticket name place version = codes "job " ++ decimal ticket ++ codes " " ++ name
    ++ codes " " ++ place ++ codes " " ++ decimal version ++ codes "\n"

-- the same by its key
abbrev pub job_line : ℕ → List ℕ → Key → ℕ → List ℕ
job_line ticket name key version = job_words ticket name (place_words key) version

-- the name is that of a job's map, among the names of all maps
abbrev pub NamesJob : List (List ℕ) → List ℕ → ClaimAnswer → Type 0
NamesJob names name (claim.Job ticket key version) = slice_get names key.map ≡ Some name
NamesJob names name _ = Unit {0}

-- a new data version, and how many clean metatiles became dirty
abbrev pub renewed_line : ℕ → ℕ → List ℕ
renewed_line v count =
    codes "version " ++ decimal v ++ codes " renewed " ++ decimal count ++ codes "\n"

-- the line before a tile's bytes: its version and their number
abbrev pub tile_head : List ℕ → ℕ → List ℕ → List ℕ
tile_head word version bytes =
    word ++ decimal version ++ codes " " ++ decimal (length bytes) ++ codes "\n"

-- the first line of a fetch
abbrev pub fetch_head : Fetched → Option (List ℕ)
fetch_head (fetched.Clean version bytes) = Some (tile_head (codes "clean ") version bytes)
fetch_head (fetched.Dirty version bytes) = Some (tile_head (codes "dirty ") version bytes)
fetch_head fetched.Missing = Some (codes "missing\n")
fetch_head fetched.Unservable = Some (codes "unservable\n")
fetch_head fetched.Gone = Some (codes "gone\n")
fetch_head (fetched.Spoilt fault) = Some (number_line (codes "spoilt ") (meta_number fault))
fetch_head fetched.GetFailed = Some (codes "getfailed\n")
fetch_head fetched.NoMemory = None

-- what stands behind the first line of a fetch: the tile's bytes and a newline
abbrev pub fetch_rest : Fetched → List ℕ
fetch_rest (fetched.Clean version bytes) = bytes ++ codes "\n"
fetch_rest (fetched.Dirty version bytes) = bytes ++ codes "\n"
fetch_rest _ = []
