-- What a farm promises: four sentences over one word, `Drawing`. Each is said of a whole history h,
-- whose newest entry stands first, as in every list of entries here: in `h ≡ later ++ e ∷ g` the
-- entry e is one of h, g is what came before it, and `later` what came after it; its place is the
-- number of those before it, `length g`. A metatile is being drawn from the Claim that gives it to
-- a worker, with a ticket, to the Finish of that ticket. `tells` says that the store tells what it
-- holds; what is said of bytes needs it, and nothing else does. These words may be taken by their
-- names: key_of, map_of, spot_tile: the metatile of a spot with its map, its map, its tile;
-- version: how many updates succeeded; data_after: which did, the first of them first; data_of: the
-- plan's data with these made; style_after: the style that a map was last given; styled_as: the map
-- in that style; is_clean: of the drawings of the key that were stored or could not be put the last
-- was stored, and nothing has touched the key since its Claim; number_in: the number that an ask
-- was given, by which its reply names it; drawn_tile: the picture of a tile, pixel by pixel;
-- plan_of: what of the plan a history depends on.
use Rattle.std.specs.Prelude.{ℕ, Bool, true, false, ◌≡◌, ◌==◌, ◌||◌, List, [], ◌∷◌, ◌++◌, length, slice_get, Some}
use Rattle.plain_drawing.specs.Drawing.{drawn_tile}
use Rattle.farm_history.specs.declared.keys.Key.{Key}
use Rattle.farm_history.specs.declared.queues.Conn.{Conn}
use Rattle.farm_history.specs.declared.queues.Reply.{Reply}
use Rattle.farm_history.specs.declared.queues.Outcome.{Outcome}
use Rattle.farm_history.specs.declared.asks.Spot.{Spot}
use Rattle.farm_history.specs.declared.asks.Cmd.{Cmd}
use Rattle.farm_history.specs.declared.asks.AskAnswer.{AskAnswer}
use Rattle.farm_history.specs.declared.answers.ClaimAnswer.TheVariants.{Job}
use Rattle.farm_history.specs.declared.answers.Finished.TheVariants.{Stored}
use Rattle.farm_history.specs.declared.answers.Fetched.{Fetched}
use Rattle.farm_history.specs.declared.answers.Collected.{Collected}
use Rattle.farm_history.specs.Entries.{Entry, Ask, Claim, Finish, Fetch, Collect}
use Rattle.farm_history.specs.Plans.{key_of, map_of, spot_tile}
use Rattle.farm_history.specs.Past.{data_after, version, style_after, is_touched_after, is_clean, number_in}
use Rattle.farm_history.specs.Rules.{Legal}
use Rattle.farm_history.specs.Laws.{is_stored_in}
use Rattle.farm_plan.specs.Plans.{MapPlan, FarmPlan, IsPlan}
use Rattle.farm_plan.specs.Drawings.{data_of, styled_as, plan_of}

-- whether the drawing of that ticket is finished in those entries
abbrev pub is_finished_in : List Entry → ℕ → Bool
is_finished_in [] ticket = false
is_finished_in (Finish t drawn answer ∷ g) ticket = t == ticket || is_finished_in g ticket
is_finished_in (_ ∷ g) ticket = is_finished_in g ticket

-- a drawing of the key, among these entries: the Claim that gave it, with its ticket, what came
-- before that, and what came since
pub record Drawing (h : List Entry) (k : Key) : Type 0 where
  pub since : List Entry
  pub worker : ℕ
  pub ticket : ℕ
  pub of_version : ℕ
  pub before : List Entry
  pub is_in : h ≡ since ++ Claim worker (Job ticket k of_version) ∷ before

-- since that ask, a drawing of its metatile was stored: so it is where a reply to the ask says
-- Done, g being what came before the reply
pub record IsAnswered (g : List Entry) (r : Reply) : Type 0 where
  pub since : List Entry
  pub command : Cmd
  pub spot : Spot
  pub answer : AskAnswer
  pub before : List Entry
  pub is_asked : g ≡ since ++ Ask r.conn command spot answer ∷ before
  pub has_number : number_in answer ≡ Some r.ask
  pub drawing : Drawing g (key_of spot)
  pub stored : is_stored_in since drawing.ticket ≡ true

module _ (plan : FarmPlan) (tells : Type 0) where
  -- something has touched the key since that drawing was claimed
  abbrev pub IsTouched : (h : List Entry) (k : Key) → Drawing h k → Type 0
  IsTouched h k d = is_touched_after (plan_of plan) h (length d.before) k ≡ true

  -- the bytes are the plain drawing of the spot's tile: in the style that its map has after g, over
  -- the data after `before`
  pub record IsPlainTile (g before : List Entry) (spot : Spot) (bytes : List ℕ) : Type 0 where
    pub map : MapPlan
    pub is_map : slice_get plan.maps (map_of spot) ≡ Some map
    pub are : bytes ≡ drawn_tile (styled_as plan map (style_after (plan_of plan) g (map_of spot)))
        map.tile (spot_tile spot) (data_of plan (data_after before))

  -- a tile sent as clean, after g, is of a drawing that was stored and that nothing has touched
  -- since its Claim; it is sent with the version of the data before that Claim, which the worker
  -- was told; and its bytes are the plain drawing over those data
  pub record IsClean (g : List Entry) (spot : Spot) (v : ℕ) (bytes : List ℕ) : Type 0 where
    pub drawing : Drawing g (key_of spot)
    pub stored : is_stored_in drawing.since drawing.ticket ≡ true
    pub untouched : is_touched_after (plan_of plan) g (length drawing.before) (key_of spot) ≡ false
    pub version_is : (v ≡ version drawing.before) × (v ≡ drawing.of_version)
    pub plain : tells → IsPlainTile g drawing.before spot bytes

  -- wherever the key is clean later, g being what came before `later`, a drawing of it was claimed
  -- after g and stored
  abbrev pub StaysDirty : (later g : List Entry) → Key → Type 0
  StaysDirty later g k = (after between : List Entry) → later ≡ after ++ between
      → is_clean (plan_of plan) (between ++ g) k ≡ true
      → (d : Drawing between k) × (is_stored_in d.since d.ticket ≡ true)

  -- **The promise**: whatever clients, workers, updates and expiries do, in any order, these hold
  -- of the history that comes of it.
  pub record Promise (h : List Entry) : Type 0 where
    -- 1. Every tile sent as clean is byte for byte the plain drawing of its style over the data of
    -- one version, taken after the last expiry that touches it
    pub clean_tiles : (later g : List Entry) (spot : Spot) (v : ℕ) (bytes : List ℕ)
        → h ≡ later ++ Fetch spot (Fetched.Clean v bytes) ∷ g → IsClean g spot v bytes
    -- 2. No metatile is drawn twice at once: where a drawing is claimed, each one before it of the
    -- same metatile was finished
    pub drawn_once : (later g : List Entry) (worker ticket v : ℕ) (k : Key)
        → h ≡ later ++ Claim worker (Job ticket k v) ∷ g → (d : Drawing g k)
        → is_finished_in d.since d.ticket ≡ true
    -- 3. An expiry during a drawing leaves the tile dirty: where a drawing is stored whose metatile
    -- something has touched since its Claim, it is stored as dirty, and stays so until a drawing
    -- that was claimed later is stored
    pub left_dirty : (later g : List Entry) (k : Key) (d : Drawing g k) (drawn clean : Bool)
        → h ≡ later ++ Finish d.ticket drawn (Stored clean) ∷ g → IsTouched g k d
        → (clean ≡ false) × StaysDirty later (Finish d.ticket drawn (Stored clean) ∷ g) k
    -- 4. Every Done names a tile that is clean at the request, where it is answered Done at once,
    -- or one that was stored after the request, where a reply says Done
    pub done_at_once : (later g : List Entry) (conn : Conn) (command : Cmd) (spot : Spot)
        → h ≡ later ++ Ask conn command spot AskAnswer.Done ∷ g
        → is_clean (plan_of plan) g (key_of spot) ≡ true
    pub done_by_reply : (later g : List Entry) (front : ℕ) (r : Reply)
        → h ≡ later ++ Collect front (Collected.Reply r) ∷ g
        → r.outcome ≡ Outcome.Done → IsAnswered g r

-- Each legal history of a valid plan keeps it; and of bytes one that is legal over a store that
-- tells
abbrev pub LawPromise : Type 0
LawPromise = (plan : FarmPlan) (h : List Entry) → IsPlan plan → Legal (plan_of plan) false h
    → Promise plan (Legal (plan_of plan) true h) h
