-- How requests are done one after another, and what becomes of a session by them.
use Rattle.std.specs.Prelude.{◌≡◌, ℕ, ◌-◌, ◌^◌, ◌≤◌, Bool, true, false, List, [], ◌∷◌, ◌++◌, length, map, min, zip, Result, Ok, Err, unwrap_or}
use Rattle.plain_world.specs.declared.world.Tile.{Tile}
use Rattle.farm_history.specs.Entries.{Entry, Expire}
use Rattle.farm_base.specs.declared.turns.Worn.{Worn}
use Rattle.front_loop.specs.declared.dispositions.Disposition.{Disposition}
use Rattle.front_loop.specs.declared.dispositions.Disposition.TheVariants.{Stays, Leaves}
use Rattle.front_loop.specs.declared.dispositions.Reason.TheVariants as reason
use Rattle.front_loop.specs.Calls.{Seats}
use Rattle.front_loop.specs.Rules.{Move, wants_of, answer_bytes, each_whole, any_starves}
use Rattle.front_loop.specs.Front.{keeps, disposition_of, does, EachFits, with_acts}
use Rattle.control_front.specs.declared.acts.Line.{Line}
use Rattle.control_front.specs.declared.acts.Act.{Act}
use Rattle.control_front.specs.declared.hearing.ConnState.{ConnState}
use Rattle.control_front.specs.inner.Readings.{read_on, read_all, part_alone, wants}
use Rattle.control_front.specs.Control.{control_rules, line_done, total_of}
use Rattle.std.specs.Option.{is_none}

module _ (lists : List (List Tile)) where
  -- the entries of what was done
  abbrev pub control_entries : Act → List Entry
  control_entries a = (line_done lists a).entries

  -- the bytes that are answered to it
  abbrev pub act_text : Act → List ℕ
  act_text a = unwrap_or (line_done lists a).answer []

  -- no more tiles were expired than the list has
  abbrev pub act_fits : Act → Bool
  act_fits a = (line_done lists a).fits

  -- all tiles of the list were expired
  abbrev pub act_whole : Act → Bool
  act_whole a = (line_done lists a).whole

  -- an update found no memory
  abbrev pub act_starves : Act → Bool
  act_starves a = is_none (line_done lists a).answer

-- a text is said, or there is no memory for it and nothing is
pub data Says (answer_bytes old new : List ℕ) (disposition : Disposition) : Type 0 where
  Said : disposition ≡ Stays → new ≡ old ++ answer_bytes → Says answer_bytes old new disposition
  Lacks : disposition ≡ Leaves reason.Starved → new ≡ old → Says answer_bytes old new disposition

-- the answer to a line that was done is said; or there is no memory for it; or there was none for what was done
pub data Answers (lists : List (List Tile)) (a : Act) (old new : List ℕ) (disposition : Disposition)
    : Type 0 where
  Gives : disposition ≡ Stays → act_starves lists a ≡ false → new ≡ old ++ act_text lists a
      → Answers lists a old new disposition
  Wants : disposition ≡ Leaves reason.Starved → act_starves lists a ≡ false
      → Answers lists a old new disposition
  Starves : disposition ≡ Leaves reason.NoMemory → act_starves lists a ≡ true
      → Answers lists a old new disposition

-- an Expire for each count, of the first tiles in order
abbrev pub expiries : List Tile → List ℕ → List Entry
expiries tiles counts = map (λ (p : Tile × ℕ). Expire p.0 p.1) (zip tiles counts)

-- so many of the tiles were expired, all of them where no turn was worn; the answer is the sum of the counts
abbrev pub Expired : List Tile → List Entry → List Entry → Result ℕ Worn → Type 0
Expired tiles mine mine' (Ok total) =
    (counts : List ℕ) × (length counts ≡ length tiles) × (mine' ≡ mine ++ expiries tiles counts)
    × (total ≡ min (total_of counts) (2 ^ 64 - 1))
Expired tiles mine mine' (Err w) =
    (counts : List ℕ) × (length counts ≤ length tiles) × (mine' ≡ mine ++ expiries tiles counts)

-- a session is left as unread exactly where its line is too long
abbrev pub LongWhy : Bool → Disposition → Type 0
LongWhy long Stays = long ≡ false
LongWhy long (Leaves reason.Unread) = long ≡ true
LongWhy long (Leaves reason.NoMemory) = Unit {0}
LongWhy long (Leaves reason.Starved) = Unit {0}
LongWhy long (Leaves _) = ⊥

-- how its last request left the session: one that is too long is answered as any other
abbrev pub as_done : Disposition → Disposition
as_done (Leaves reason.Unread) = Stays
as_done f = f

module _ (number : ℕ) (lists : List (List Tile)) (c : ℕ) where
  -- why a session goes on after its requests, or does not
  abbrev pub DoneWhy : List Act → Disposition → Type 0
  DoneWhy acts Stays = any_starves (control_rules number lists) (does acts) ≡ false
  DoneWhy acts (Leaves reason.NoMemory) =
      any_starves (control_rules number lists) (does acts) ≡ true
  DoneWhy acts (Leaves reason.Starved) =
      any_starves (control_rules number lists) (does acts) ≡ false
  DoneWhy acts (Leaves _) = ⊥

  -- Of these requests the first were done, the newest first in acts; all of them where the session goes on.
  pub record Did (lines : List Line) (mine mine' : List Entry) (response response' : List ℕ)
      (disposition : Disposition) : Type 0 where
    pub acts : List Act
    pub mine_is : mine' ≡ with_acts (control_rules number lists) c acts mine
    pub begins :
        (more : List Line) × (lines ≡ wants_of (control_rules number lists) (does acts) ++ more)
    pub fits : EachFits (control_rules number lists) acts []
    pub why : DoneWhy acts disposition
    pub response_is : keeps disposition ≡ true
        → response' ≡ response ++ answer_bytes (control_rules number lists) (does acts)
    pub asked_is : keeps disposition ≡ true
        → lines ≡ wants_of (control_rules number lists) (does acts)
    pub whole : keeps disposition ≡ true
        → each_whole (control_rules number lists) (does acts) ≡ true

  -- these bytes were read behind a part of a line
  pub record Heeds (part bytes : List ℕ) (mine mine' : List Entry)
      (part' response response' : List ℕ) (disposition : Disposition) : Type 0 where
    pub did :
        Did (wants (read_on (part_alone part) bytes)) mine mine' response response'
        (as_done disposition)
    pub why : LongWhy (read_on (part_alone part) bytes).long disposition
    pub part_is : keeps disposition ≡ true → part' ≡ (read_on (part_alone part) bytes).part

module _ {S P : Type 0} (seats : Seats S P) (lists : List (List Tile)) where
  -- a line was done on a farm's seat, by a front of any number, on any connection
  abbrev pub DidLine : Line → S → S → List ℕ → List ℕ → Result Disposition Worn → Type 0
  DidLine line seat seat' response response' result = (front c : ℕ)
      → Did front lists c (line ∷ []) (seats.mine seat) (seats.mine seat') response response'
      (disposition_of result)

  -- these bytes were read behind a part of a line, likewise
  abbrev pub HeedsBytes : List ℕ → List ℕ → S → S → List ℕ → List ℕ → List ℕ
      → Result Disposition Worn → Type 0
  HeedsBytes part bytes seat seat' part' response response' result = (front c : ℕ)
      → Heeds front lists c part bytes (seats.mine seat) (seats.mine seat') part' response response'
      (disposition_of result)

-- what is kept of a session is right: the part of the line that has not ended
abbrev pub Knows : List ℕ → List (Move Act) → ConnState → Type 0
Knows given ms conn_state = conn_state.part.items ≡ (read_all given).part
