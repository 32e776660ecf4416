-- What each kind of step tells the seat that makes it: of the step, the seat before, the number found and the seat after.
use Rattle.std.specs.Prelude.{◌≡◌, ◌≢◌, ℕ, ◌+◌, ◌<◌, ◌≤◌, ◌==◌, ◌||◌, cond, true, false, List, [], ◌∷◌, ◌++◌, length, Option, Some, None}
use Rattle.farm_base.specs.Limits.{most_turns}
use mathlib.Core.Option.{some}
use lib.ListN.{get_elem?}
use Rattle.atomic_table.specs.Table.{Step, rest}
use Rattle.turn_cell.specs.Turns.{by, longer, StartsWith, Follows, HasJoined, NoneAbove}
use Rattle.turn_cell.specs.inner.Cell.{Sat}
use Rattle.turn_cell.specs.declared.view.Terms.{Terms}
use Rattle.turn_cell.specs.declared.view.View.{View}

-- what a seat knows of whose entries stand in the history
module _ {T E : Type 0} where
  -- in what the seat has seen, the entries of its number are just its own
  abbrev pub KnowsOwn : View T E → Type 0
  KnowsOwn v = by v.number v.seen ≡ v.mine

  -- if it is the first seat, each number that was joined into it has just the entries that are noted with it
  abbrev pub KnowsJoined : View T E → List (ℕ × E) → Type 0
  KnowsJoined v log = v.first ≡ true → HasJoined v.joined log

  -- if it is the first seat, no number above its splits has an entry
  abbrev pub KnowsStrangers : View T E → List (ℕ × E) → Type 0
  KnowsStrangers v log = v.first ≡ true → NoneAbove v.splits log

  -- the seat has seen all that either seat of its last join had seen
  abbrev pub KnowsHeard : View T E → Type 0
  KnowsHeard v = (k : ℕ) (l : List (ℕ × E)) → get_elem? v.heard k ≡ some l → StartsWith v.seen l

-- how many turns the cell gives at most; 0 for a seat that is spent
abbrev pub limit_of : {T : Type 0} → Option (Terms T) → ℕ
limit_of None = 0
limit_of (Some a) = a.limit

module _ {T E : Type 0} where
  -- the seat after a try to draw a ticket: with the mark where it found the limit, with the ticket where it found the number
  -- that it expected, and as before where it found any other
  abbrev pub after_draw : ℕ → View T E → ℕ → View T E
  after_draw old v found =
      cond (found == limit_of v.about) (record v { worn = true })
      (cond (found == old) (record v { tickets = found ∷ [] }) v)

  -- a try to draw a ticket changes the seat by the number that it found, and nothing else
  abbrev pub drew : Step (Option T) → Sat T E → ℕ → Sat T E → Type 0
  drew st m r n = n ≡ (after_draw st.first m.0 r, m.1)

  -- the seat that has found its ticket served: the value is out with it, and it has seen the whole history
  abbrev pub holding : View T E → List (ℕ × E) → View T E
  holding v log = record v { holds = true; seen = log }

  -- the seat that has counted its entry: this stands last in what it has seen and among its own
  abbrev pub counting : View T E → E → View T E
  counting v e = record v {
    seen = v.seen ++ (v.number, e) ∷ [];
    mine = v.mine ++ (v.number, e) ∷ [];
    counted = 1;
  }

  -- a step that counts an entry leaves the seat with it, and what a first seat knows holds with the entry too
  abbrev pub counted_as : Option E → Step (Option T) → Sat T E → ℕ → Sat T E → Type 0
  counted_as said st m r n = (e : E) → said ≡ Some e
      → (n ≡ (counting m.0 e, m.1))
      × KnowsJoined m.0 (m.0.seen ++ (m.0.number, e) ∷ [])
      × KnowsStrangers m.0 (m.0.seen ++ (m.0.number, e) ∷ [])

  -- the seat that has served the next ticket: it has no ticket and no value
  abbrev pub leaving : View T E → View T E
  leaving v = record v { tickets = []; holds = false; counted = 0 }

  -- a step that serves the next ticket leaves the seat without a ticket, and the value is home
  abbrev pub served : Step (Option T) → Sat T E → ℕ → Sat T E → Type 0
  served st m r n = n ≡ (leaving m.0, rest m.1)

  -- The look after a join: it changes nothing, and tells what the rule knows of the seat.
  abbrev pub learned : Step (Option T) → Sat T E → ℕ → Sat T E → Type 0
  learned st m r n =
      (n ≡ m)
      × KnowsHeard m.0
      × KnowsOwn m.0
      × KnowsJoined m.0 m.0.seen
      × KnowsStrangers m.0 m.0.seen

  -- the first seat after a split, which it counts
  abbrev pub split_first : View T E → View T E
  split_first v = record v { splits = v.splits + 1 }

  -- the seat that a split gives: it has the next number, has seen as much, and has no entries of its own
  abbrev pub split_new : View T E → View T E
  split_new v = record v {
    number = v.splits + 1;
    mine = [];
    tickets = [];
    holds = false;
    counted = 0;
    first = false;
    splits = 0;
    joined = [];
    heard = [];
  }

  -- the first seat after a join: it has seen what either had seen, and notes the number of the other with its entries
  abbrev pub joining_views : View T E → View T E → View T E
  joining_views v w = record v {
    seen = longer v.seen w.seen;
    worn = v.worn || w.worn;
    joined = v.joined ++ (w.number, w.mine) ∷ [];
    heard = v.seen ∷ w.seen ∷ [];
  }

  -- a seat after it was joined into the first: nothing is left with it
  abbrev pub spent : View T E
  spent = record {
    about = None;
    number = 0;
    seen = [];
    mine = [];
    worn = false;
    tickets = [];
    holds = false;
    counted = 0;
    first = false;
    splits = 0;
    joined = [];
    heard = [];
  }

module _ {T E L : Type 0} (stands : T → List (ℕ × E) → Type 0) (lasting : T → L) where
  -- the value is out with the seat: it stands for the history, which the seat has now seen, and has the cell's lasting part
  abbrev pub Gets : Sat T E → Sat T E → Type 0
  Gets m n =
      (x : T) × (log : List (ℕ × E)) × (n ≡ (holding m.0 log, (0, Some x) ∷ m.1)) × stands x log
      × ((a : Terms T) → m.0.about ≡ Some a
      → (lasting x ≡ lasting a.first.value) × (length log < a.limit) × (a.limit ≤ most_turns))
      × Follows m.0.number m.0.seen log × KnowsJoined m.0 log × KnowsStrangers m.0 log

  -- a look whether the seat's ticket is served: if it is, the value comes to the seat, and else nothing changes
  abbrev pub looked : Step (Option T) → Sat T E → ℕ → Sat T E → Type 0
  looked st m r n = (k : ℕ) → m.0.tickets ≡ k ∷ [] → (r ≡ k → Gets m n) × (r ≢ k → n ≡ m)
