-- Runs each of which goes on where the one before it stopped: what is promised of each rests on what the store told that the first was handed.
use Rattle.std.specs.Prelude.{◌≡◌, ◌≢◌, ℕ, true, List, [], ◌∷◌, None, is_some, option_map, Ok}
use Rattle.farm_base.specs.Outside.{Outside}
use Rattle.tile_store.specs.Stores.{StoreTold}
use Rattle.farm_history.specs.Entries.{Entry}
use Rattle.farm_history.specs.Lists.{Each}
use Rattle.farm_refinement.specs.Seen.{FarmSeen}
use Rattle.farm_laws.specs.Promise.{Promise}
use Rattle.farm_call.specs.Call.{CallBefore, CallAfter, End}
use Rattle.farm_call.specs.Keeps.{Served}
use Rattle.farm_call.specs.Serves.{whole_history}
use Rattle.farm_call.specs.Served.{StoreTells}
use Rattle.farm_call.specs.declared.left.Left.TheVariants.{Farm}

module _ {D : Type 0} (state : D → Outside StoreTold) where
  -- a call that served a farm: what it was handed, what it left, that farm with its turns, and how it ended
  pub record Run : Type 0 where
    pub was : CallBefore D
    pub is : CallAfter D
    pub farm : FarmSeen D
    pub turns : List (ℕ × Entry)
    pub left : is.left ≡ Farm (farm, turns)
    pub end : End
    pub served : Served state was is farm turns end

  -- the second goes on where the first stopped: the first was to be resumed and ended in order; and the second was handed the same words, files that hold the same, and a store that holds what the first left
  pub record GoesOn (first second : Run) : Type 0 where
    pub ended : first.end ≡ Ok tt
    pub resume : first.served.inputs.config.resume ≡ true
    pub same_words : second.was.words ≡ first.was.words
    pub files_tell : first.was.files.told ≢ None
    pub same_files : option_map (λ t. t.content) second.was.files.told ≡ option_map (λ t. t.content) first.was.files.told
    pub same_store : option_map (λ t. t.content) (state second.was.store).told ≡ option_map (λ t. t.content) (state first.farm.store).told

  -- each of the later runs goes on where the one before it stopped
  abbrev pub GoOn : Run → List Run → Type 0
  GoOn first [] = Unit {0}
  GoOn first (next ∷ later) = GoesOn first next × GoOn next later

  abbrev pub Tells : Run → Type 0
  Tells r = StoreTells state r.was r.is r.farm

  -- Where so much may be said of the first run's store, it may be said of each later one's
  abbrev pub LawRestart : Type 0
  LawRestart = (first : Run) (later : List Run) → GoOn first later → Tells first → Each Tells later

  -- And where the first run went on from nothing, the promise holds of each later one, and of all that happened to its farm: of bytes where the store told what it held that the first was handed
  abbrev pub LawGoesOn : Type 0
  LawGoesOn = (first : Run) (later : List Run) → GoOn first later → first.farm.saved ≡ None
      → Each (λ r. Promise r.farm.plan (is_some (state first.was.store).told ≡ true) (whole_history state r.farm r.turns)) later
