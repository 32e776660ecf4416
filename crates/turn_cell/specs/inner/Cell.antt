-- The rule of the cell's table: what holds at every moment of the three words, of the value and of what all seats have seen.
-- The words are the next ticket to draw (0), the ticket that is served (1) and the number of entries (2). The one slot has the
-- value, or nothing while a turn has it.
use Rattle.std.specs.Prelude.{◌≡◌, ℕ, suc, ◌+◌, ◌≤◌, true, false, List, [], ◌∷◌, map, length, sum, sum_by, Option, Some, None}
use Rattle.std.specs.List.{range_with_len}
use mathlib.Core.Option.{some}
use lib.ListN.{get_elem?}
use Rattle.atomic_table.specs.Table.{State, Me}
use Rattle.farm_base.specs.Limits.{most_turns}
use Rattle.turn_cell.specs.Turns.{by, StartsWith, HasJoined, NoneAbove}
use Rattle.turn_cell.specs.declared.view.Terms.{Terms}
use Rattle.turn_cell.specs.declared.view.View.{View}

-- a weight, added up over the numbers below n
abbrev pub below : (ℕ → ℕ) → ℕ → ℕ
below f n = sum (map f (range_with_len 0 n))

-- a number where there is something, and 0 where there is nothing
abbrev pub if_some : {A : Type 0} → ℕ → Option A → ℕ
if_some n None = 0
if_some n (Some x) = n

-- the weight of a seat's number, or nothing where the seat was joined into the first and is spent
abbrev pub named : {T E : Type 0} → (ℕ → ℕ) → View T E → ℕ
named f v = if_some (f v.number) v.about

-- the weight of a number that was joined into the first seat
abbrev pub gone : {A : Type 0} → (ℕ → ℕ) → ℕ × A → ℕ
gone f p = f p.0

-- the weight of the tickets that a seat has
abbrev pub drawn : {T E : Type 0} → (ℕ → ℕ) → View T E → ℕ
drawn f v = sum_by f v.tickets

-- what a step's caller knows and has: the view, and the value while it is out
abbrev pub Sat : Type 0 → Type 0 → Type 0
Sat T E = Me (Option T) (View T E)

-- the first seat as it is made
abbrev pub newcomer : {T E : Type 0} → Terms T → View T E
newcomer a = record {
  about = Some a;
  number = 0;
  seen = [];
  mine = [];
  worn = false;
  tickets = [];
  holds = false;
  counted = 0;
  first = true;
  splits = 0;
  joined = [];
  heard = [];
}

-- a moment of the cell: its words, how often the first seat was split, the history, and each joined number with its entries
pub record Moment (E : Type 0) : Type 0 where
  pub ticket : ℕ
  pub serving : ℕ
  pub splits : ℕ
  pub log : List (ℕ × E)
  pub joined : List (ℕ × List (ℕ × E))

-- what is so of one seat at a moment, the seat having the place j among all
pub record Fits {T E : Type 0} (about : Terms T) (d : Moment E) (j : ℕ) (v : View T E)
    : Type 0 where
  -- it has seen the beginning of the history
  pub sees : StartsWith d.log v.seen
  -- unless it is spent: all its entries stand in what it has seen
  pub own : (a : Terms T) → v.about ≡ Some a
      → (a ≡ about) × (by v.number d.log ≡ v.mine) × (by v.number v.seen ≡ v.mine)
  -- its mark says that the limit was drawn
  pub worn : v.worn ≡ true → about.limit ≤ d.ticket
  -- where it has the value, its ticket is served and it has seen the whole history
  pub holds : v.holds ≡ true → (v.tickets ≡ d.serving ∷ []) × (v.seen ≡ d.log)
  -- only the seat that has the value counts
  pub counts : v.holds ≡ false → v.counted ≡ 0
  pub spent : v.about ≡ None → (v.tickets ≡ []) × (v.holds ≡ false)
  pub heard : (k : ℕ) (l : List (ℕ × E)) → get_elem? v.heard k ≡ some l → StartsWith v.seen l
  -- the first seat knows how often it was split and what was joined, and has seen every entry of a joined number
  pub first : v.first ≡ true
      → (j ≡ 0) × (v.splits ≡ d.splits) × (v.joined ≡ d.joined) × HasJoined d.joined v.seen

module _ {T E L : Type 0} (stands : T → List (ℕ × E) → Type 0) (lasting : T → L) where
  -- the value is at home, stands for the whole history and has the cell's lasting part
  abbrev pub AtHome : Terms T → List (ℕ × E) → List (mathlib.Core.Option.Option (Option T)) → Type 0
  AtHome about log homes =
      (x : T)
      × (get_elem? homes 0 ≡ some (some (Some x)))
      × stands x log
      × (lasting x ≡ lasting about.first.value)

  -- what holds at every moment of the cell's words, of its value and of its seats
  pub record Kept (about : Terms T) (s : State (Option T) (View T E)) : Type 0 where
    pub now : Moment E
    pub words : s.words ≡ now.ticket ∷ now.serving ∷ length now.log ∷ []
    pub few : now.ticket ≤ about.limit
    pub small : about.limit ≤ most_turns
    pub slots : length s.homes ≡ 1
    pub fits : (j : ℕ) (v : View T E) → get_elem? s.views j ≡ some v → Fits about now j v
    -- the tickets from the one that is served to below the next one are with the seats, each with one
    pub tickets : (f : ℕ → ℕ) → below f now.serving + sum_by (drawn f) s.views ≡ below f now.ticket
    -- the numbers from 0 to the splits are those of the seats and of the joined, each once
    pub numbers : (f : ℕ → ℕ)
        → sum_by (named f) s.views + sum_by (gone f) now.joined ≡ below f (suc now.splits)
    -- there are as many entries as turns were served, and one more from the step that counts to the step that serves
    pub counted : length now.log ≡ now.serving + sum_by (λ v. v.counted) s.views
    pub home : ((j : ℕ) (v : View T E) → get_elem? s.views j ≡ some v → v.holds ≡ false)
        → AtHome about now.log s.homes
    -- a joined number has no entry but those at its end, and a number above the splits has none
    pub past : HasJoined now.joined now.log
    pub strangers : NoneAbove now.splits now.log
