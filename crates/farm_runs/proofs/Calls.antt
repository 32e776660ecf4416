-- From the calls of a run to what happened to its first seat.
use Rattle.std.proofs.Common.{◌≡◌, ℕ, suc, ◌+◌, ◌<◌, Bool, true, false, ◌||◌, Option, refl, List, [], ◌∷◌, ◌++◌, length, slice_index_or, All, None, zero, sym, ap, ◌∙◌, subst, arith, append_assoc, append-nil, length-append}
use Rattle.std.specs.List.{list_any}
use Rattle.std.proofs.lemmas.List.Elements.{All-append}
use Rattle.std.proofs.lemmas.Option.{same_Some}
use Rattle.farm_base.specs.Outside.{Outside}
use Rattle.farm_history.specs.Entries.{Entry}
use Rattle.farm_history.specs.Lists.{Each}
use Rattle.reactor_ports.specs.declared.ends.FrontDone.{FrontDone}
use Rattle.reactor_ports.specs.Told.{PortsTold}
use Rattle.turn_cell.specs.Turns.{StartsWith}
use Rattle.turn_cell.specs.SeatStates.{Made, SeatState, IsSeatOf, SameSeat, joining, split_left, split_right}
use Rattle.render_workers.specs.declared.worker.WorkEnd.{WorkEnd}
use Rattle.turn_cell.proofs.Logs.{starts_through}
use Rattle.farm_runs.specs.declared.each_front.EachFront.{EachFront}
use Rattle.farm_runs.specs.declared.pool.Actor.{Actor}
use Rattle.farm_runs.specs.declared.together.FrontSeats.{FrontSeats}
use Rattle.farm_runs.specs.declared.together.RunSeats.{RunSeats}
use Rattle.front_loop.specs.Kinds.{Leaving}
use Rattle.farm_runs.specs.Actors.{HasServed, HasWorked, IsFrontSeat, IsReady, AreStanding, HaveServed}
use Rattle.farm_runs.specs.Promise.{is_worker_worn}
use Rattle.farm_runs.specs.inner.Chain.{first_seat_after, notes, ends_in, Numbered, IsStart, IsSet, HasLeft, IsSpent, Ran}
use Rattle.farm_runs.proofs.Gathering.{each_left, each_right, gathered_first, gathered_splits, gathered_joined, notes_length}

module _ {T : Type 0} (made : Made T) where
  abbrev Sat : Type 0
  Sat = SeatState T Entry

  -- Seats that are made.

  -- one worker more
  pub numbered_more : (k : ℕ) (pool : List (Actor Sat)) (a : Actor Sat) → Numbered k pool → a.worker ≡ k + length pool → a.seat.number ≡ (k + length pool) + 4 → Numbered k (pool ++ a ∷ [])
  numbered_more k [] a numbered worker number = (worker ∙ omega arith, number ∙ omega arith, tt)
  numbered_more k (b ∷ rest) a numbered worker number = (numbered.0, numbered.1, numbered_more (k + 1) rest a numbered.2 (worker ∙ omega arith) (number ∙ omega arith))

  -- the first seat after a split more
  start_more : (v w : Sat) (k m : ℕ) → IsStart made k v → w ≡ split_left v → m ≡ k + 1 → IsStart made m w
  start_more v w k m s is more =
      subst (IsStart made m) (sym is) (record {
        seat = s.seat;
        number = s.number;
        is_first = s.is_first;
        unused = s.unused;
        unjoined = s.unjoined;
        splits = let before = s.splits in omega arith;
      })

  one_ready : (a : Actor Sat) → IsReady made a → (k : ℕ) (d : Actor Sat) → k < length (a ∷ []) → IsReady made (slice_index_or (a ∷ []) k d)
  one_ready a ready zero d lt = ready
  one_ready a ready (suc k) d lt = absurd (omega arith)

  -- one worker more has its seat
  pub pool_more : (own own' : Sat) (pool pool' : List (Actor Sat)) (a : Actor Sat) → IsStart made (length pool) own → All (IsReady made) pool → Numbered 0 pool →
      own' ≡ split_left own → a.seat ≡ split_right own → a.worker ≡ length pool → a.end ≡ None → pool' ≡ pool ++ a ∷ [] →
      IsStart made (length pool') own' × (length pool' ≡ length pool + 1) × All (IsReady made) pool' × Numbered 0 pool'
  pool_more own own' pool pool' a start ready numbered left right worker unended is =
      let long : length pool' ≡ length pool + 1 = ap length is ∙ length-append pool (a ∷ []) in
      let number : a.seat.number ≡ own.splits + 1 = ap (λ (s : Sat). s.number) right in
      let splits = start.splits in (
        start_more own own' (length pool) (length pool') start left long,
        long,
        subst (All (IsReady made)) (sym is) (All-append (IsReady made) pool (a ∷ []) ready
            (one_ready a (record { seat = subst (IsSeatOf made) (sym right) start.seat; unused = ap (λ (s : Sat). s.mine) right; not_ended = unended }))),
        subst (Numbered 0) (sym is) (numbered_more 0 pool a numbered (omega arith) (omega arith)),
      )

  -- Workers that have ended.

  -- all that worked are spent, and have their numbers
  pub all_spent : (k : ℕ) (old new : List (Actor Sat)) → length new ≡ length old → Numbered k old → ((i : ℕ) (d : Actor Sat) → i < length old → HasWorked made (slice_index_or old i d) (slice_index_or new i d)) → Each (IsSpent made) new × Numbered k new
  all_spent k [] [] same numbered worked = (tt, tt)
  all_spent k [] (b ∷ new) same numbered worked = absurd (omega arith)
  all_spent k (a ∷ old) [] same numbered worked = absurd (omega arith)
  all_spent k (a ∷ old) (b ∷ new) same numbered worked =
      let w = worked 0 a (omega arith) in
      let rest = all_spent (k + 1) old new (omega arith) numbered.2 (λ i d lt. worked (suc i) d (omega arith)) in
      ((record { seat = w.seat; work = w.work; worn = w.worn }, rest.0), (w.worker ∙ numbered.0, w.same.0 ∙ numbered.1, rest.1))

  -- Fronts that have ended.

  has_left : (n : ℕ) (l : Leaving) (v w : Sat) (t u : Outside PortsTold) (d : FrontDone) → IsFrontSeat made n v → HasServed made l v w t u d → HasLeft made (n + 1) l t u d w
  has_left n l v w t u d front_seat s = record { seat = s.seat; number = s.same.0 ∙ front_seat.number; left = s.left }

  -- the numbers of the fronts may be said otherwise
  pub standing_at : (n m k : ℕ) (seats : FrontSeats Sat) → n ≡ 0 → m ≡ 1 → k ≡ 2 → AreStanding made 0 1 2 seats → AreStanding made n m k seats
  standing_at n m k seats one two last s =
      subst (λ (x : ℕ). AreStanding made x m k seats) (sym one)
      (subst (λ (x : ℕ). AreStanding made 0 x k seats) (sym two) (subst (λ (x : ℕ). AreStanding made 0 1 x seats) (sym last) s))

  -- the threads have run
  pub ran : (l l' l'' : Leaving) (old new : RunSeats Sat) (told told' : EachFront (Outside PortsTold)) (done : EachFront FrontDone) (stopped : Bool) → IsSet made (length old.pool.items) old → length new.pool.items ≡ length old.pool.items →
      ((i : ℕ) (d : Actor Sat) → i < length old.pool.items → HasWorked made (slice_index_or old.pool.items i d) (slice_index_or new.pool.items i d)) → HaveServed made l l' l'' old.front_seats new.front_seats told told' done stopped →
      Ran made l l' l'' old.front_seats.own new.front_seats.own new.pool.items told told' done stopped
  ran l l' l'' old new told told' done stopped set long worked served =
      let same : set.standing.seats ≡ served.began = same_Some _ _ (sym set.standing.are ∙ served.are) in
      let spent = all_spent 0 old.pool.items new.pool.items long set.numbered worked in
      record {
        start_is = subst (λ n. IsStart made n old.front_seats.own) (sym long) set.own;
        seats = served.ended;
        renderd = has_left 0 l served.began.renderd served.ended.renderd told.renderd told'.renderd done.renderd (subst (λ (p : EachFront Sat). IsFrontSeat made 0 p.renderd) same set.standing.renderd) served.renderd;
        tiles = has_left 1 l' served.began.tiles served.ended.tiles told.tiles told'.tiles done.tiles (subst (λ (p : EachFront Sat). IsFrontSeat made 1 p.tiles) same set.standing.tiles) served.tiles;
        control = has_left 2 l'' served.began.control served.ended.control told.control told'.control done.control (subst (λ (p : EachFront Sat). IsFrontSeat made 2 p.control) same set.standing.control) served.control;
        ended = served.own;
        spent = spent.0;
        numbered = spent.1;
      }

  -- Seats at the end.

  -- as many seats were joined as were split
  pub whole : (own h : Sat) (pool : List (Actor Sat)) → own.first ≡ true → own.splits ≡ length own.joined + length pool → SameSeat (first_seat_after own pool) h → (h.first ≡ true) × (length h.joined ≡ h.splits)
  whole own h pool first splits same = (
    same.1 ∙ (gathered_first own pool ∙ first),
    (let joined : length h.joined ≡ length (own.joined ++ notes pool) = ap length (same.3 ∙ gathered_joined own pool) in
        let long = length-append own.joined (notes pool) in
        let notes_are = notes_length pool in
        let splits_are : h.splits ≡ own.splits = same.2 ∙ gathered_splits own pool in
        omega arith),
  )

  -- The seats of the workers are joined, from the last one on.

  list_any_or : (b c : Bool) (o : Option WorkEnd) (rest : List (Option WorkEnd)) → b ≡ list_any is_worker_worn rest → c ≡ (is_worker_worn o || b) → c ≡ list_any is_worker_worn (o ∷ rest)
  list_any_or b c o rest is or = or ∙ ap (λ x. is_worker_worn o || x) is

  -- what is so of the first seat while they are joined: of the pool that began, these are left
  pub record Gathering (start own : Sat) (all left : List (Actor Sat)) (worn : Bool) : Type 0 where
    pub rest : List (Actor Sat)
    pub are : all ≡ left ++ rest
    pub own_is : own ≡ first_seat_after start rest
    pub longer : StartsWith own.seen start.seen
    pub worn_is : worn ≡ list_any is_worker_worn (ends_in rest)
    pub spent : Each (IsSpent made) left

  pub gathering_first : (start : Sat) (all : List (Actor Sat)) → Each (IsSpent made) all → Gathering start start all all false
  gathering_first start all each = record {
    rest = [];
    are = sym (append-nil all);
    own_is = refl;
    longer = ([], sym (append-nil start.seen));
    worn_is = refl;
    spent = each;
  }

  pub last_spent : (left : List (Actor Sat)) (a : Actor Sat) (had : List (Actor Sat)) → had ≡ left ++ a ∷ [] → Each (IsSpent made) had → IsSpent made a
  last_spent left a had is each = (each_right (IsSpent made) left (a ∷ []) (subst (Each (IsSpent made)) is each)).0

  pub gathering_more : (start own own' : Sat) (all had left : List (Actor Sat)) (a : Actor Sat) (worn worn' : Bool) → Gathering start own all had worn → had ≡ left ++ a ∷ [] → own' ≡ joining own a.seat → StartsWith own'.seen own.seen → worn' ≡ (is_worker_worn a.end || worn) → Gathering start own' all left worn'
  gathering_more start own own' all had left a worn worn' g is joins goes or = record {
    rest = a ∷ g.rest;
    are = g.are ∙ (ap (λ l. l ++ g.rest) is ∙ append_assoc left (a ∷ []) g.rest);
    own_is = joins ∙ ap (λ (s : Sat). joining s a.seat) g.own_is;
    longer = starts_through own'.seen own.seen start.seen goes g.longer;
    worn_is = list_any_or worn worn' a.end (ends_in g.rest) g.worn_is or;
    spent = each_left (IsSpent made) left (a ∷ []) (subst (Each (IsSpent made)) is g.spent);
  }

pub or_true : (r end worn worn' : Bool) → r ≡ end → r ≡ true → worn' ≡ true → worn' ≡ (end || worn)
or_true r end worn worn' same is worn_is = worn_is ∙ ap (λ b. b || worn) (sym is ∙ same)

pub or_false : (r end worn worn' : Bool) → r ≡ end → r ≡ false → worn' ≡ worn → worn' ≡ (end || worn)
or_false r end worn worn' same is worn_is = worn_is ∙ ap (λ b. b || worn) (sym is ∙ same)
