-- Each fault that a script or an expiry list may be refused for has a text.
use Rattle.std.specs.Prelude.{ℕ, ◌+◌, ◌^◌, nat_le, List, [], ◌∷◌, ◌++◌, length, codes, Option, Some, None, option_to_list, is_some, Result, Ok, IsTrue, refl}
use Rattle.std.specs.Option.{ok_or}
use Rattle.std.specs.Str.{bytes_eq, is_utf8}
use Rattle.std.specs.Str.Lines.{lines}
use Rattle.farm_base.specs.Cuts.{cut_at}
use Rattle.farm_base.specs.Numbers.{decimal_below}
use Rattle.reading.specs.Lines.{line_text, items_after}
use Rattle.reading.specs.Steps.{◌>>=◌}
use Rattle.merc_fixed.specs.Tiles.{tile_if_any}
use Rattle.expiry_lists.specs.Lists as list
use Rattle.expiry_lists.specs.declared.faults.ListFault.{ListFault}
use Rattle.expiry_lists.specs.declared.faults.ListFault.TheVariants.{Line}
use Rattle.script_lines.specs.Lines.{cmd_of, line_tile, place_of, ask_of, line_named, line_alone, line_cut, script_line_of}
use Rattle.script_lines.specs.inner.Lines.{fetch_of, look_of, expire_of}
use Rattle.script_lines.specs.Scripts.{is_skipped, line_read, script_in}
use Rattle.script_lines.specs.declared.script.ScriptFault.{ScriptFault}
use Rattle.script_lines.specs.declared.script.ScriptFault.TheVariants as script
use Rattle.script_lines.specs.declared.script.ScriptLine.{ScriptLine}
use Rattle.script_lines.specs.declared.script.ScriptLine.TheVariants as script_line
use Rattle.exit_status.specs.LineFaults.{script_text, list_text}
use Rattle.exit_status.specs.Told.{ScriptsAreTold, ListsAreTold}
use Rattle.exit_status.proofs.Steps.{OnFault, of_fault, step, either, checks, has}

-- ---- lines

utf8_told : {E : Type 0} (T : E → Type 0) (fault : E) → T fault → (line : List ℕ) → OnFault T (line_text fault line)
unfolding line_text
utf8_told T fault h line = step T _ _ (checks T (is_utf8 line) fault h) (λ u. tt)

items_told : {A E : Type 0} (T : E → Type 0) (read : E → List ℕ → Result (Option A) E) (fault : ℕ → E) → ((number : ℕ) → T (fault number)) → ((e : E) → T e → (line : List ℕ) → OnFault T (read e line))
    → (number : ℕ) (before : List A) (rest : List (List ℕ)) → OnFault T (items_after read fault number before rest)
unfolding items_after
items_told T read fault h g number before [] = tt
items_told T read fault h g number before (line ∷ rest) =
    step T _ _ (checks T (nat_le number 1000000) (fault number) (h number)) (λ u.
    step T _ _ (g (fault number) (h number) line) (λ item. items_told T read fault h g (number + 1) (before ++ option_to_list item) rest))

-- ---- expiry lists

abbrev ListText : ListFault → Type 0
ListText e = IsTrue (is_some (list_text e))

abbrev ListTold : {A : Type 0} → Result A ListFault → Type 0
ListTold r = OnFault ListText r

tile_told : (fault : ListFault) → ListText fault → (text : List ℕ) → ListTold (list.list_tile fault text)
unfolding list.list_tile
tile_told fault h text =
    step ListText _ _ (has ListText (cut_at 47 text) fault h) (λ first.
    step ListText _ _ (has ListText (cut_at 47 first.1) fault h) (λ second.
    step ListText _ _ (has ListText (decimal_below (2 ^ 32) first.0) fault h) (λ z.
    step ListText _ _ (has ListText (decimal_below (2 ^ 32) second.0) fault h) (λ x.
    step ListText _ _ (has ListText (decimal_below (2 ^ 32) second.1) fault h) (λ y.
    has ListText (tile_if_any z x y) fault h)))))

list_line_told : (fault : ListFault) → ListText fault → (line : List ℕ) → ListTold (list.list_line fault line)
unfolding list.list_line
list_line_told fault h [] = tt
list_line_told fault h (b ∷ bs) =
    step ListText _ _ (utf8_told ListText fault h (b ∷ bs)) (λ text.
    step ListText _ _ (tile_told fault h text) (λ t. tt))

list_told : (bytes : List ℕ) → ListTold (list.list_in bytes)
unfolding list.list_in
list_told bytes = items_told ListText list.list_line Line (λ number. refl) list_line_told 1 [] (lines bytes)

pub lists_are_told : ListsAreTold
lists_are_told bytes e q = of_fault ListText (list.list_in bytes) e (list_told bytes) q

-- ---- scripts

abbrev HasText : ScriptFault → Type 0
HasText e = IsTrue (is_some (script_text e))

abbrev Told : {A : Type 0} → Result A ScriptFault → Type 0
Told r = OnFault HasText r

numbers_told : (fault : ScriptFault) → HasText fault → (text : List ℕ) → Told (line_tile fault text)
unfolding line_tile
numbers_told fault h text =
    step HasText _ _ (has HasText (cut_at 32 text) fault h) (λ first.
    step HasText _ _ (has HasText (cut_at 32 first.1) fault h) (λ second.
    step HasText _ _ (has HasText (decimal_below (2 ^ 32) first.0) fault h) (λ z.
    step HasText _ _ (has HasText (decimal_below (2 ^ 32) second.0) fault h) (λ x.
    step HasText _ _ (has HasText (decimal_below (2 ^ 32) second.1) fault h) (λ y. tt)))))

place_told : (fault : ScriptFault) → HasText fault → (text : List ℕ) → Told (place_of fault text)
unfolding place_of
place_told fault h text =
    step HasText _ _ (has HasText (cut_at 32 text) fault h) (λ first.
    step HasText _ _ (step HasText _ _ (checks HasText (nat_le 1 (length first.0)) fault h) (λ u. tt)) (λ map.
    step HasText _ _ (numbers_told fault h first.1) (λ tile. tt)))

ask_told : (fault : ScriptFault) → HasText fault → (text : List ℕ) → Told (ask_of fault text)
unfolding ask_of
ask_told fault h text =
    step HasText _ _ (has HasText (cut_at 32 text) fault h) (λ first.
    step HasText _ _ (has HasText (cut_at 32 first.1) fault h) (λ second.
    step HasText _ _ (has HasText (decimal_below (2 ^ 32) first.0) fault h) (λ conn.
    step HasText _ _ (has HasText (cmd_of second.0) fault h) (λ command.
    step HasText _ _ (place_told fault h second.1) (λ place. tt)))))

fetch_told : (fault : ScriptFault) → HasText fault → (text : List ℕ) → Told (fetch_of fault text)
fetch_told fault h text = step HasText _ _ (place_told fault h text) (λ place. tt)

look_told : (fault : ScriptFault) → HasText fault → (text : List ℕ) → Told (look_of fault text)
look_told fault h text = step HasText _ _ (place_told fault h text) (λ place. tt)

expire_told : (fault : ScriptFault) → HasText fault → (text : List ℕ) → Told (expire_of fault text)
expire_told fault h text = step HasText _ _ (numbers_told fault h text) (λ tile. tt)

-- a line of one number below a bound
number_told : (line : ℕ → ScriptLine) (bound : ℕ) (fault : ScriptFault) → HasText fault → (word : List ℕ) → Told (ok_or (decimal_below bound word) fault >>= λ n. Ok (line n))
number_told line bound fault h word = step HasText _ _ (has HasText (decimal_below bound word) fault h) (λ n. tt)

named_told : (fault : ScriptFault) → HasText fault → (name rest : List ℕ) → Told (line_named fault name rest)
unfolding line_named
named_told fault h name rest =
    either HasText (bytes_eq name (codes "ask")) _ _ (ask_told fault h rest) (
    either HasText (bytes_eq name (codes "claim")) _ _ (number_told script_line.Claim (2 ^ 32) fault h rest) (
    either HasText (bytes_eq name (codes "finish")) _ _ (number_told script_line.Finish (2 ^ 64) fault h rest) (
    either HasText (bytes_eq name (codes "cut")) _ _ (number_told script_line.Cut (2 ^ 64) fault h rest) (
    either HasText (bytes_eq name (codes "update")) _ _ (number_told script_line.Update (2 ^ 32) fault h rest) (
    either HasText (bytes_eq name (codes "restyle")) _ _ (number_told script_line.Restyle (2 ^ 32) fault h rest) (
    either HasText (bytes_eq name (codes "renew")) _ _ (number_told script_line.Renew (2 ^ 32) fault h rest) (
    either HasText (bytes_eq name (codes "expire")) _ _ (expire_told fault h rest) (
    either HasText (bytes_eq name (codes "fetch")) _ _ (fetch_told fault h rest) (
    either HasText (bytes_eq name (codes "look")) _ _ (look_told fault h rest) (
    either HasText (bytes_eq name (codes "collect")) _ _ (number_told script_line.Collect (2 ^ 32) fault h rest) (
    either HasText (bytes_eq name (codes "leave")) _ _ (number_told script_line.Leave (2 ^ 32) fault h rest) h)))))))))))

alone_told : (fault : ScriptFault) → HasText fault → (word : List ℕ) → Told (line_alone fault word)
unfolding line_alone
alone_told fault h word = either HasText (bytes_eq word (codes "tally")) _ _ tt (either HasText (bytes_eq word (codes "stop")) _ _ tt h)

cut_told : (fault : ScriptFault) → HasText fault → (line : List ℕ) (at : Option (List ℕ × List ℕ)) → Told (line_cut fault line at)
cut_told fault h line None = alone_told fault h line
cut_told fault h line (Some p) = named_told fault h p.0 p.1

line_told : (fault : ScriptFault) → HasText fault → (line : List ℕ) → Told (line_read fault line)
unfolding line_read script_line_of
line_told fault h line =
    either HasText (is_skipped line) _ _ tt (
    step HasText _ _ (utf8_told HasText fault h line) (λ text.
    step HasText _ _ (cut_told fault h text (cut_at 32 text)) (λ l. tt)))

script_told : (bytes : List ℕ) → Told (script_in bytes)
unfolding script_in
script_told bytes = items_told HasText line_read script.Line (λ number. refl) line_told 1 [] (lines bytes)

pub scripts_are_told : ScriptsAreTold
scripts_are_told bytes e q = of_fault HasText (script_in bytes) e (script_told bytes) q
