-- The lines of a connection, and what each says.
use Rattle.std.specs.Prelude.{ℕ, ◌^◌, Bool, cond, nat_lt, if◌then◌else◌, List, [], ◌∷◌, length, codes, Option, Some, None, option_map, unwrap_or}
use Rattle.std.specs.Str.{bytes_eq, is_utf8}
use Rattle.std.specs.Str.Lines.{strip_carriage_return}
use Rattle.farm_base.specs.Limits.{most_control_bytes}
use Rattle.farm_base.specs.Cuts.{cut_at}
use Rattle.farm_base.specs.Numbers.{decimal_below}
use Rattle.control_front.specs.declared.acts.Line.{Line}
use Rattle.control_front.specs.declared.acts.Line.TheVariants as line

-- ---- what a line says

-- the line that is one word
unfoldable pub command_alone : List ℕ → Line
command_alone word =
    if bytes_eq word (codes "stats") then line.Stats else
    if bytes_eq word (codes "stop") then line.Stop else line.Bad

-- a line whose word behind its name is a number, decimal without leading zeros
abbrev pub with_number : (ℕ → Line) → Option ℕ → Line
with_number make number = unwrap_or (option_map make number) line.Bad

-- the line of this name with these words behind it
unfoldable pub command_named : List ℕ → List ℕ → Line
command_named name words =
    if bytes_eq name (codes "update")
    then with_number line.Update (decimal_below (2 ^ 32) words) else
    if bytes_eq name (codes "restyle")
    then with_number line.Restyle (decimal_below (2 ^ 32) words) else
    if bytes_eq name (codes "renew")
    then with_number line.Renew (decimal_below (2 ^ 32) words) else
    if bytes_eq name (codes "expire")
    then with_number line.Expire (decimal_below (2 ^ 32) words) else line.Bad

-- a line in words: it is cut at its first space, if it has one
unfoldable pub control_line : List ℕ → Line
control_line text =
    unwrap_or (option_map (λ (p : List ℕ × List ℕ). command_named p.0 p.1) (cut_at 32 text))
    (command_alone text)

-- bytes as a text
unfoldable pub utf8_text : List ℕ → Option (List ℕ)
utf8_text bytes = if is_utf8 bytes then Some bytes else None

-- what a line says; one carriage return at its end is dropped, and bytes that are no text are a bad line
abbrev pub line_in : List ℕ → Line
line_in bytes =
    unwrap_or (option_map control_line (utf8_text (strip_carriage_return bytes))) line.Bad

-- ---- lines

-- a line has at most 64 bytes
abbrev pub is_long : List ℕ → Bool
is_long part = nat_lt most_control_bytes (length part)

-- The requests in these parts, the whole lines and then what stands behind the last newline: what each whole line says. One that is too long is a bad line, as soon as its 65th byte
-- is there, and the last that is read.
abbrev pub requests_in : List (List ℕ) → List Line
requests_in [] = []
requests_in (part ∷ []) = cond (is_long part) (line.Bad ∷ []) []
requests_in (part ∷ more ∷ parts) =
    cond (is_long part) (line.Bad ∷ []) (line_in part ∷ requests_in (more ∷ parts))
