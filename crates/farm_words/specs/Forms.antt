-- The five forms of words, and the command that each spells.
use Rattle.std.specs.Prelude.{◌≡◌, ℕ, ◌^◌, ◌<◌, ◌≤◌, List, [], ◌∷◌, Result, Ok, Err, codes}
use Rattle.std.specs.Fmt.{decimal}
use Rattle.plain_world.specs.World.{IsTile, IsTileSize}
use Rattle.farm_words.specs.declared.command.Command.{Command}
use Rattle.farm_words.specs.declared.command.Command.TheVariants.{Render, Script, Serve, Load, Meta}
use Rattle.farm_words.specs.declared.command.WordsFault.{WordsFault}
use Rattle.farm_words.specs.declared.command.WordsFault.TheVariants.{Refused, NoMemory}

-- These words spell the command. Numbers stand in decimal, without sign or leading zeros.
abbrev pub Spells : Command → List (List ℕ) → Type 0
Spells (Render style data_name size tile) words =
    (words ≡ codes "render" ∷ style ∷ data_name ∷ decimal size ∷ decimal tile.z ∷ decimal tile.x
    ∷ decimal tile.y ∷ []) × IsTileSize size × IsTile tile
Spells (Script config script) words = words ≡ codes "script" ∷ config ∷ script ∷ []
Spells (Serve config) words = words ≡ codes "serve" ∷ config ∷ []
Spells (Load seed features) words =
    (words ≡ codes "load" ∷ decimal seed ∷ decimal features ∷ []) × (seed < 2 ^ 64) × (1 ≤ features)
    × (features ≤ 100000)
Spells (Meta file) words = words ≡ codes "meta" ∷ file ∷ []

-- The answer to values, exactly: the command that they spell; Refused where they spell none; and
-- want of memory at any time.
abbrev pub Answers : List (List ℕ) → Result Command WordsFault → Type 0
Answers values (Ok command) = Spells command values
Answers values (Err Refused) = (command : Command) → Spells command values → ⊥
Answers values (Err NoMemory) = Unit {0}

-- Refused, or want of memory.
abbrev pub IsRefused : Result Command WordsFault → Type 0
IsRefused (Ok command) = ⊥
IsRefused (Err fault) = Unit {0}

-- Words spell one command at most.
abbrev pub SpellOne : Type 0
SpellOne = (one other : Command) (words : List (List ℕ)) → Spells one words → Spells other words
    → one ≡ other
