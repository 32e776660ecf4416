-- The texts in which a tile front answers. Their lines end with a carriage return and a newline,
-- and an empty line stands before the body.
use Rattle.std.specs.Prelude.{ℕ, List, [], ◌++◌, length, codes}
use Rattle.std.specs.Fmt.{decimal}
use Rattle.farm_history.specs.declared.answers.Fetched.{Fetched}
use Rattle.farm_history.specs.declared.answers.Fetched.TheVariants as fetched
use Rattle.farm_history.specs.declared.answers.Looked.{Looked}
use Rattle.farm_history.specs.declared.answers.Looked.TheVariants as looked
use Rattle.tile_front.specs.declared.faults.Fault.{Fault}
use Rattle.tile_front.specs.declared.faults.Fault.TheVariants as fault

-- the head of an answer: its status, its body's kind and length, and more lines, which may be none
unfoldable pub response_head : List ℕ → List ℕ → ℕ → List ℕ → List ℕ
response_head status kind len more =
    codes "HTTP/1.1 " ++ (status
    ++ (codes "\r\nContent-Type: " ++ (kind ++ (codes "\r\nContent-Length: " ++ (decimal len
    ++ (codes "\r\n" ++ (more ++ codes "Connection: close\r\n\r\n")))))))

abbrev pub answer : List ℕ → List ℕ → List ℕ → List ℕ → List ℕ
answer status kind more body = response_head status kind (length body) more ++ body

-- an answer whose body is a text
unfoldable pub text_answer : List ℕ → List ℕ → List ℕ
text_answer status body = answer status (codes "text/plain") [] body

-- the lines that tell of a tile
unfoldable pub tile_lines : List ℕ → ℕ → List ℕ
tile_lines word version =
    codes "X-Tile: " ++ (word ++ (codes "\r\nX-Version: " ++ (decimal version ++ codes "\r\n")))

-- an answer with a picture, clean or dirty, of a data version
abbrev pub picture_answer : List ℕ → ℕ → List ℕ → List ℕ
picture_answer word version picture =
    answer (codes "200 OK") (codes "image/x-portable-pixmap") (tile_lines word version) picture

-- a refusal or a failure: the body is the reason as a line
abbrev pub fault_answer : Fault → List ℕ
fault_answer fault.BadRequest = text_answer (codes "400 Bad Request") (codes "Bad Request\n")
fault_answer fault.NotFound = text_answer (codes "404 Not Found") (codes "Not Found\n")
fault_answer fault.NotAllowed =
    text_answer (codes "405 Method Not Allowed") (codes "Method Not Allowed\n")
fault_answer fault.Failed =
    text_answer (codes "500 Internal Server Error") (codes "Internal Server Error\n")

-- the answer to a tile, by what was fetched; want of memory has none
abbrev pub tile_answer : Fetched → List ℕ
tile_answer (fetched.Clean version picture) = picture_answer (codes "clean") version picture
tile_answer (fetched.Dirty version picture) = picture_answer (codes "dirty") version picture
tile_answer fetched.Missing = fault_answer fault.NotFound
tile_answer fetched.Unservable = fault_answer fault.NotFound
tile_answer fetched.NoMemory = []
tile_answer _ = fault_answer fault.Failed

-- a word and a data version, as a line
abbrev pub version_line : List ℕ → ℕ → List ℕ
version_line word version = word ++ codes " " ++ decimal version ++ codes "\n"

-- the answer to `/status`
abbrev pub status_answer : Looked → List ℕ
status_answer (looked.Clean version) =
    text_answer (codes "200 OK") (version_line (codes "clean") version)
status_answer (looked.Dirty version) =
    text_answer (codes "200 OK") (version_line (codes "dirty") version)
status_answer looked.Missing = text_answer (codes "200 OK") (codes "missing\n")
status_answer looked.Unservable = fault_answer fault.NotFound

-- the answer to `/dirty`
abbrev pub dirty_answer : List ℕ
dirty_answer = text_answer (codes "200 OK") (codes "dirty\n")
