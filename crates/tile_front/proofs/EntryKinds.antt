-- Which entries the tile front makes: of an act Asks, Fetches and Looks alone, and behind a Collect a Fetch alone.
use Rattle.std.proofs.Common.{◌≡◌, List, [], ◌∷◌, true, Option, Some, None}
use Rattle.farm_history.specs.declared.queues.Conn.{Conn}
use Rattle.farm_history.specs.declared.asks.Spot.{Spot}
use Rattle.farm_history.specs.declared.asks.Cmd.{Cmd}
use Rattle.farm_history.specs.declared.asks.AskAnswer.{AskAnswer}
use Rattle.farm_history.specs.declared.answers.Fetched.{Fetched}
use Rattle.farm_history.specs.declared.answers.Looked.{Looked}
use Rattle.farm_history.specs.Entries.{Entry, Ask, Fetch, Look}
use Rattle.farm_history.specs.Lists.{Each}
use Rattle.tile_front.specs.declared.acts.Act.{Act}
use Rattle.tile_front.specs.declared.acts.Act.TheVariants as act
use Rattle.tile_front.specs.Tiles.{fits_behind}
use Rattle.tile_front.specs.inner.Steps.{tile_entries}

module _ (P : Entry → Type 0) (fetches : (s : Spot) (f : Fetched) → P (Fetch s f)) where
  pub each_entry : ((c : Conn) (d : Cmd) (s : Spot) (a : AskAnswer) → P (Ask c d s a)) → ((s : Spot) (l : Looked) → P (Look s l))
      → (c : Conn) (a : Act) → Each P (tile_entries c a)
  each_entry asks looks c (act.Refused w) = tt
  each_entry asks looks c (act.Asked s a) = (asks _ _ _ _, tt)
  each_entry asks looks c (act.Served s a f) = (asks _ _ _ _, (fetches s f, tt))
  each_entry asks looks c (act.Seen s l) = (looks s l, tt)
  each_entry asks looks c (act.Marked s a) = (asks _ _ _ _, tt)

  one : (s : Spot) (e : Entry) → fits_behind (Some s) (e ∷ []) ≡ true → P e
  one s (Fetch t f) is = fetches t f
  one s e is = cc

  pub each_behind : (o : Option Spot) (es : List Entry) → fits_behind o es ≡ true → Each P es
  each_behind o [] is = tt
  each_behind None (e ∷ es) is = cc
  each_behind (Some s) (e ∷ []) is = (one s e is, tt)
  each_behind (Some s) (Fetch t f ∷ d ∷ es) is = cc
  each_behind (Some s) (e ∷ d ∷ es) is = cc
