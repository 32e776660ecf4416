-- The values that clap reads of the words: one positional that takes each word, in a simple command
-- without a help flag.
use Rattle.std.specs.Prelude.{◌≡◌, ℕ, ◌==◌, true, false, if◌then◌else◌, List, [], ◌∷◌, length, Option, Some, None, codes, unwrap_or}
use Rattle.clap.specs.Words.{App, new_app, new_rule, with_rule, fault_of, matches_of, all_of}
use Rattle.clap.specs.declared.builder.action.ArgAction.TheVariants.{Append}

-- The command by which clap reads the words: without its own name among them and without a help
-- flag, with one positional, which takes each word.
abbrev pub farm_app : App
farm_app =
    let app = new_app (codes "tilefarm") in
    with_rule
    (record app { top = record app.top { no_binary_name = true; disable_help_flag = true } })
    (record (new_rule (codes "words")) { action = Some Append })

-- clap's reading of the words: the values, or none where it finds a fault
unfoldable pub values_of : List (List ℕ) → Option (List (List ℕ))
values_of words =
    if length (fault_of farm_app words) == 0
    then Some (unwrap_or (all_of (codes "words") (matches_of farm_app words)) []) else None

-- a word that is not empty and does not begin with `-`
abbrev pub IsPlain : List ℕ → Type 0
IsPlain [] = ⊥
IsPlain (b ∷ bs) = (b == 45) ≡ false

-- none of the words is empty or begins with `-`
abbrev pub ArePlain : List (List ℕ) → Type 0
ArePlain [] = Unit {0}
ArePlain (word ∷ words) = IsPlain word × ArePlain words

-- Where no word is empty or begins with `-`, the values are the words themselves.
abbrev pub PlainAreValues : Type 0
PlainAreValues = (words : List (List ℕ)) → ArePlain words → values_of words ≡ Some words
