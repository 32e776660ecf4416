-- From what happened to the first seat of a run to what is promised of it.
use Rattle.std.proofs.Common.{◌≡◌, inl, inr, ℕ, zero, suc, ◌+◌, ◌^◌, ◌<◌, ◌≤◌, Bool, true, false, ◌==◌, nat_lt, List, [], ◌∷◌, ◌++◌, length, slice_get, Option, Some, None, MatchBool, refl, sym, ap, ◌∙◌, subst, arith, append_assoc, append-nil}
use Rattle.std.specs.List.{list_any}
use Rattle.std.proofs.lemmas.Bool.Decides.{nat_tests}
use Rattle.std.proofs.lemmas.List.{length-map}
use Rattle.std.proofs.lemmas.Bool.{or_left, or_right}
use Rattle.farm_core.proofs.Told.{none_past}
use Rattle.farm_base.specs.Outside.{Outside}
use Rattle.tile_store.specs.Stores.{StoreTold}
use Rattle.farm_history.specs.declared.answers.Tally.{Tally as Totals}
use Rattle.farm_history.specs.Entries.{Entry, EachMoment, Stop, Tally}
use Rattle.farm_history.specs.Laws.{has_plain_update}
use Rattle.farm_history.specs.Lists.{Each}
use Rattle.farm_history.specs.Past.{flights}
use Rattle.farm_history.proofs.Lists.{each-both}
use Rattle.farm_plan.specs.Plans.{AreRanged}
use Rattle.farm_plan.specs.Drawings.{plan_of}
use Rattle.farm_refinement.specs.Seen.{FarmSeen}
use Rattle.reactor_ports.specs.declared.ends.FrontDone.{FrontDone}
use Rattle.reactor_ports.specs.Told.{PortsTold}
use Rattle.turn_cell.specs.Turns.{by, NoneAbove, HasJoined, StartsWith}
use Rattle.turn_cell.proofs.Logs.{starts_through}
use Rattle.turn_cell.specs.SeatStates.{Made, SeatState, SameSeat, Knows, worn_out}
use Rattle.farm_shared.specs.declared.lasting.LastingPart.{LastingPart}
use Rattle.farm_shared.specs.declared.turned.Turned.{Turned}
use Rattle.farm_shared.specs.Seats.{plain}
use Rattle.farm_core.specs.Begins.{Tells}
use Rattle.farm_shared.specs.Shared.{lasting_of, past, MayTell, Adds, IsClosed}
use Rattle.render_workers.specs.declared.worker.WorkEnd.{WorkEnd}
use Rattle.farm_laws.specs.Locality.{IsSentNow}
use Rattle.farm_laws.proofs.Newest.{sent_now}
use Rattle.farm_laws.specs.Promise.{Promise}
use Rattle.farm_laws.proofs.Promised.{keeps}
use Rattle.farm_runs.specs.declared.each_front.EachFront.{EachFront}
use Rattle.farm_runs.specs.declared.pool.Actor.{Actor}
use Rattle.front_loop.specs.Kinds.{Leaving, AreOfFront}
use Rattle.farm_runs.specs.Actors.{WorkBy, with_front_seats}
use Rattle.farm_runs.specs.Promise.{Ends, own_entries, is_worker_worn, AreSeated, IsServed, AreWorked, IsStop, RunsWell}
use Rattle.farm_runs.specs.inner.Chain.{first_seat_after, notes, ends_in, IsTally, HasLeft, IsSpent, Ran}
use Rattle.farm_runs.proofs.Settling.{gives, Settled, landed}
use Rattle.farm_runs.proofs.Owners.{quiet, front_settled, own_settled, worker_settled, is_stop, worker_unstopped}
use Rattle.farm_runs.proofs.Stopping.{ends_front, never_stops, OwnStop, own_stop}
use Rattle.farm_runs.proofs.Gathering.{each_joined, each_right, gathered_number, gathered_mine, gathered_first, gathered_splits, gathered_joined, gathered_mark, pool_mark, each_noted, IsAt, at_place}

-- every entry that a front leaves is a front's
abbrev pub IsFronts : ℕ → Leaving → Type 0
IsFronts n leaves = (told told' : Outside PortsTold) (es : List Entry) (done : FrontDone) (worn : Bool) → leaves told told' es done worn → AreOfFront n es done.end

module _ {D : Type 0} (state : D → Outside StoreTold) (made : Made (Turned D)) where
  abbrev Sat : Type 0
  Sat = SeatState (Turned D) Entry

  -- The run's own seat.

  stop_mine : (v w : Sat) (stopped : Bool) → v.mine ≡ [] → MatchBool stopped (Adds Stop v w) (w ≡ worn_out v) → plain w.mine ≡ own_entries stopped None
  stop_mine v w true unused stops = ap plain (stops.mine ∙ ap (λ l. l ++ (v.number, Stop) ∷ []) unused)
  stop_mine v w false unused stops = ap (λ (s : Sat). plain s.mine) stops ∙ ap plain unused

  plain_more : (xs : List (ℕ × Entry)) (n : ℕ) (e : Entry) → plain (xs ++ (n, e) ∷ []) ≡ plain xs ++ e ∷ []
  plain_more [] n e = refl
  plain_more (x ∷ xs) n e = ap (λ l. x.1 ∷ l) (plain_more xs n e)

  tally_mine : (u h : Sat) (stopped : Bool) (tally : Option Totals) → plain u.mine ≡ own_entries stopped None → IsTally tally u h → plain h.mine ≡ own_entries stopped tally
  tally_mine u h true (Some a) mine is = ap plain is.mine ∙ (plain_more u.mine u.number (Tally a) ∙ ap (λ l. l ++ Tally a ∷ []) mine)
  tally_mine u h false (Some a) mine is = ap plain is.mine ∙ (plain_more u.mine u.number (Tally a) ∙ ap (λ l. l ++ Tally a ∷ []) mine)
  tally_mine u h stopped None mine is = ap (λ (s : Sat). plain s.mine) is ∙ mine

  tally_mark : (u h : Sat) (tally : Option Totals) → IsTally tally u h → u.worn ≡ true → h.worn ≡ true
  tally_mark u h (Some a) is mark = is.worn ∙ mark
  tally_mark u h None is mark = ap (λ (s : Sat). s.worn) is

  lost_mark : (u h : Sat) (tally : Option Totals) → IsTally tally u h → tally ≡ None → h.worn ≡ true
  lost_mark u h (Some a) is none = cc
  lost_mark u h None is none = ap (λ (s : Sat). s.worn) is

  stop_mark : (v w : Sat) (stopped : Bool) → MatchBool stopped (Adds Stop v w) (w ≡ worn_out v) → v.worn ≡ true → w.worn ≡ true
  stop_mark v w true stops mark = stops.worn ∙ mark
  stop_mark v w false stops mark = ap (λ (s : Sat). s.worn) stops

  unstopped_mark : (v w : Sat) (stopped : Bool) → MatchBool stopped (Adds Stop v w) (w ≡ worn_out v) → stopped ≡ false → w.worn ≡ true
  unstopped_mark v w true stops none = cc
  unstopped_mark v w false stops none = ap (λ (s : Sat). s.worn) stops

  tally_last : (u h : Sat) (tally : Option Totals) (a : Totals) → u.number ≡ 0 → IsTally tally u h → tally ≡ Some a → (before : List (ℕ × Entry)) × (h.seen ≡ before ++ (0, Tally a) ∷ [])
  tally_last u h (Some b) a zero_is is same = let e : b ≡ a = cc in (is.log, is.seen ∙ (ap (λ n. is.log ++ (n, Tally b) ∷ []) zero_is ∙ ap (λ c. is.log ++ (0, Tally c) ∷ []) e))
  tally_last u h None a zero_is is same = cc

  -- What is known at the end: the last seat h, and all before it.
  pub record Chain (leaves leaves' leaves'' : Leaving) (start own h : Sat) (pool : List (Actor Sat)) (told told' : EachFront (Outside PortsTold)) (done : EachFront FrontDone) (worn stopped : Bool) (tally : Option Totals) (farm : FarmSeen D) : Type 0 where
    pub limit : made.about.limit ≡ 2 ^ 62
    pub as_many : length pool ≡ made.about.first.value.farm.plan.workers
    pub ranged : AreRanged made.about.first.value.farm.plan
    pub ran : Ran made leaves leaves' leaves'' start own pool told told' done stopped
    pub worn_is : worn ≡ list_any is_worker_worn (ends_in pool)
    pub kinds : IsFronts 0 leaves
    pub kinds' : IsFronts 1 leaves'
    pub kinds'' : IsFronts 2 leaves''
    pub longer : StartsWith (first_seat_after own pool).seen own.seen
    pub tallies : IsTally tally (first_seat_after own pool) h
    pub same : SameSeat (first_seat_after own pool) h
    pub known : Knows h
    pub closed : IsClosed state made.about.limit made.about.first.value.farm h farm

  module _ (leaves leaves' leaves'' : Leaving) (start own h : Sat) (pool : List (Actor Sat)) (told told' : EachFront (Outside PortsTold)) (done : EachFront FrontDone) (worn stopped : Bool) (tally : Option Totals) (farm : FarmSeen D)
      (c : Chain leaves leaves' leaves'' start own h pool told told' done worn stopped tally farm) where
    abbrev ends_are : Ends
    ends_are = record { worn = worn; stopped = stopped; tally = tally }

    abbrev before : Sat
    before = with_front_seats start c.ran.seats

    own_number : own.number ≡ 0
    own_number = c.ran.ended.same.0 ∙ c.ran.start_is.number

    last_number : (first_seat_after own pool).number ≡ 0
    last_number = gathered_number own pool ∙ own_number

    -- the marks of a worn cell come to the last seat
    own_marked : own.worn ≡ true → h.worn ≡ true
    own_marked mark = tally_mark (first_seat_after own pool) h tally c.tallies (gathered_mark own pool mark)

    full : h.worn ≡ true → 2 ^ 62 ≤ length h.seen
    full mark = subst (λ n. n ≤ length h.seen) c.limit (c.closed.worn mark)

    front_marked : (with_front_seats start c.ran.seats).worn ≡ true → 2 ^ 62 ≤ length h.seen
    front_marked mark = full (own_marked (stop_mark (with_front_seats start c.ran.seats) own stopped c.ran.ended.stops mark))

    -- whose the entries are
    own_by : by 0 h.seen ≡ h.mine
    own_by = subst (λ n. by n h.seen ≡ h.mine) (c.same.0 ∙ last_number) c.known.0

    own_mine : plain (first_seat_after own pool).mine ≡ own_entries stopped None
    own_mine = ap plain (gathered_mine own pool) ∙ stop_mine (with_front_seats start c.ran.seats) own stopped c.ran.start_is.unused c.ran.ended.stops

    splits_are : h.splits ≡ 3 + length (ends_in pool)
    splits_are = c.same.2 ∙ (gathered_splits own pool ∙ (c.ran.ended.same.2 ∙ (c.ran.start_is.splits ∙ ap (λ n. 3 + n) (sym (length-map pool (λ a. a.end))))))

    is_first : h.first ≡ true
    is_first = c.same.1 ∙ (gathered_first own pool ∙ (c.ran.ended.same.1 ∙ c.ran.start_is.is_first))

    none_above : NoneAbove (3 + length (ends_in pool)) h.seen
    none_above = subst (λ n. NoneAbove n h.seen) splits_are (c.known.2 is_first)

    workers_are : length (ends_in pool) ≡ made.about.first.value.farm.plan.workers
    workers_are = length-map pool (λ a. a.end) ∙ c.as_many

    seated : AreSeated made.about.first.value.farm.plan.workers ends_are h.seen
    seated = record {
      own = ap plain own_by ∙ tally_mine (first_seat_after own pool) h stopped tally own_mine c.tallies;
      none_above = subst (λ n. NoneAbove (3 + n) h.seen) workers_are none_above;
      unstopped = λ none. full (own_marked (unstopped_mark (with_front_seats start c.ran.seats) own stopped c.ran.ended.stops none));
      untallied = λ none. full (lost_mark (first_seat_after own pool) h tally c.tallies none);
      last = λ a is. tally_last (first_seat_after own pool) h tally a last_number c.tallies is;
    }

    -- what was joined
    abbrev fronts_joined : List (ℕ × List (ℕ × Entry))
    fronts_joined = (c.ran.seats.renderd.number, c.ran.seats.renderd.mine) ∷ (c.ran.seats.tiles.number, c.ran.seats.tiles.mine) ∷ (c.ran.seats.control.number, c.ran.seats.control.mine) ∷ []

    joined_are : h.joined ≡ fronts_joined ++ notes pool
    joined_are =
        c.same.3 ∙ (gathered_joined own pool ∙ ap (λ l. l ++ notes pool) (c.ran.ended.same.3
        ∙ ap (λ l. ((l ++ (c.ran.seats.renderd.number, c.ran.seats.renderd.mine) ∷ []) ++ (c.ran.seats.tiles.number, c.ran.seats.tiles.mine) ∷ []) ++ (c.ran.seats.control.number, c.ran.seats.control.mine) ∷ []) c.ran.start_is.unjoined))

    each_is : Each (λ p. by p.0 h.seen ≡ p.1) (fronts_joined ++ notes pool)
    each_is = each_joined (fronts_joined ++ notes pool) h.seen (subst (λ l. HasJoined l h.seen) joined_are (c.known.1 is_first))

    served : (n : ℕ) (l : Leaving) (t u : Outside PortsTold) (d : FrontDone) (front_seat : Sat) → HasLeft made n l t u d front_seat → by front_seat.number h.seen ≡ front_seat.mine → (front_seat.worn ≡ true → 2 ^ 62 ≤ length h.seen) →
        IsServed l t u d (plain (by n h.seen)) (length h.seen)
    served n l t u d front_seat left is mark = record {
      worn = front_seat.worn;
      left = subst (λ es. l t u es d front_seat.worn) (ap plain (sym is) ∙ ap (λ m. plain (by m h.seen)) left.number) left.left;
      worn_out = mark;
    }

    renderd : IsServed leaves told.renderd told'.renderd done.renderd (plain (by 1 h.seen)) (length h.seen)
    renderd = served 1 leaves told.renderd told'.renderd done.renderd c.ran.seats.renderd c.ran.renderd each_is.0
        (λ mark. front_marked (or_left _ _ (or_left _ _ (or_right start.worn c.ran.seats.renderd.worn mark))))

    tiles : IsServed leaves' told.tiles told'.tiles done.tiles (plain (by 2 h.seen)) (length h.seen)
    tiles = served 2 leaves' told.tiles told'.tiles done.tiles c.ran.seats.tiles c.ran.tiles each_is.1.0
        (λ mark. front_marked (or_left _ _ (or_right _ c.ran.seats.tiles.worn mark)))

    control : IsServed leaves'' told.control told'.control done.control (plain (by 3 h.seen)) (length h.seen)
    control = served 3 leaves'' told.control told'.control done.control c.ran.seats.control c.ran.control each_is.1.1.0
        (λ mark. front_marked (or_right _ c.ran.seats.control.worn mark))

    -- the workers
    abbrev IsDone : Actor Sat → Type 0
    IsDone a = IsSpent made a × (by a.seat.number h.seen ≡ a.seat.mine)

    each_done : Each IsDone pool
    each_done = each-both _ _ pool c.ran.spent (each_noted h.seen pool (each_right _ fronts_joined (notes pool) each_is))

    work_at : (w : ℕ) (end : Option WorkEnd) → IsAt IsDone w end → WorkBy w end (plain (by (w + 4) h.seen))
    work_at w end at =
        subst (λ n. WorkBy w end (plain (by n h.seen))) at.number
        (subst (λ es. WorkBy w end (plain es)) (sym at.holds.1)
        (subst (λ o. WorkBy w o (plain at.actor.seat.mine)) at.end_is
        (subst (λ n. WorkBy n at.actor.end (plain at.actor.seat.mine)) at.worker at.holds.0.work)))

    at_zero : (w : ℕ) (end : Option WorkEnd) → slice_get (ends_in pool) w ≡ Some end → IsAt IsDone w end
    at_zero w end is = subst (λ n. IsAt IsDone n end) (let e : 0 + w ≡ w = omega arith in e) (at_place IsDone 0 w end pool c.ran.numbered each_done is)

    -- every seat settles its tickets where no worker ended worn
    fine_at : (w : ℕ) (end : Option WorkEnd) (ends : List (Option WorkEnd)) → slice_get ends w ≡ Some end → list_any is_worker_worn ends ≡ false → is_worker_worn end ≡ false
    fine_at w end [] is fine = cc
    fine_at zero end (x ∷ ends) is fine = let same : x ≡ end = cc in subst (λ o. is_worker_worn o ≡ false) same (grind arith)
    fine_at (suc w) end (x ∷ ends) is fine = fine_at w end ends is (grind arith)

    worker_at : (w : ℕ) → list_any is_worker_worn (ends_in pool) ≡ false → w < length (ends_in pool) → Settled (plain (by (w + 4) h.seen))
    worker_at w fine lt = go (slice_get (ends_in pool) w) refl
      where
        go : (o : Option (Option WorkEnd)) → slice_get (ends_in pool) w ≡ o → Settled (plain (by (w + 4) h.seen))
        go None is = absurd (let long = none_past (ends_in pool) w is in omega arith)
        go (Some end) is = worker_settled w end _ (fine_at w end (ends_in pool) is fine) (work_at w end (at_zero w end is))

    beyond : (n : ℕ) → 3 + length (ends_in pool) < n → Settled (plain (by n h.seen))
    beyond n lt = quiet (plain (by n h.seen)) (λ t. ap (λ l. gives t (plain l)) (none_above n lt))

    settled : list_any is_worker_worn (ends_in pool) ≡ false → (n : ℕ) → Settled (plain (by n h.seen))
    settled fine zero = subst Settled (sym seated.own) (own_settled stopped tally)
    settled fine (suc zero) = front_settled 0 _ done.renderd.end (c.kinds told.renderd told'.renderd _ done.renderd renderd.worn renderd.left)
    settled fine (suc (suc zero)) = front_settled 1 _ done.tiles.end (c.kinds' told.tiles told'.tiles _ done.tiles tiles.worn tiles.left)
    settled fine (suc (suc (suc zero))) = front_settled 2 _ done.control.end (c.kinds'' told.control told'.control _ done.control control.worn control.left)
    settled fine (suc (suc (suc (suc w)))) = go (nat_lt w (length (ends_in pool))) refl
      where
        same : w + 4 ≡ suc (suc (suc (suc w)))
        same = omega arith

        go : (b : Bool) → nat_lt w (length (ends_in pool)) ≡ b → Settled (plain (by (suc (suc (suc (suc w)))) h.seen))
        go true is = subst (λ n. Settled (plain (by n h.seen))) same (worker_at w fine (grind (arith, nat_tests)))
        go false is = beyond (suc (suc (suc (suc w)))) (let ge : length (ends_in pool) ≤ w = grind (arith, nat_tests) in omega arith)

    untold : MayTell state (lasting_of state farm) false
    untold never = cc

    none_flying : list_any is_worker_worn (ends_in pool) ≡ false → flights (past (lasting_of state farm) h.seen) ≡ []
    none_flying fine =
        landed (plan_of farm.plan) false _ c.closed.after.begun.unflown h.seen (c.closed.after.each false untold).legal c.closed.after.seated (settled fine)

    worked : AreWorked made.about.first.value.farm.plan.workers worn h.seen (past (lasting_of state made.about.first.value.farm) h.seen)
    worked = record {
      ended = ends_in pool;
      as_many = workers_are;
      each = λ w end is. work_at w end (at_zero w end is);
      worn_is = c.worn_is;
      worn_out = λ any. full (tally_mark (first_seat_after own pool) h tally c.tallies (pool_mark made own pool c.ran.spent (sym c.worn_is ∙ any)));
      landed = λ fine. subst (λ l. flights (past l h.seen) ≡ []) c.closed.kept (none_flying (sym c.worn_is ∙ fine));
    }

    -- who stopped the farm
    before_joined : Each (λ p. by p.0 before.seen ≡ p.1) fronts_joined
    before_joined =
        each_joined fronts_joined before.seen
        (subst (λ l. HasJoined l before.seen) (ap (λ l. ((l ++ (c.ran.seats.renderd.number, c.ran.seats.renderd.mine) ∷ []) ++ (c.ran.seats.tiles.number, c.ran.seats.tiles.mine) ∷ []) ++ (c.ran.seats.control.number, c.ran.seats.control.mine) ∷ []) c.ran.start_is.unjoined)
        (c.ran.ended.known_before.1 c.ran.start_is.is_first))

    -- all entries of the fronts had been seen before the run's own Stop
    seen_all : (n : ℕ) (front_seat : Sat) → front_seat.number ≡ n → by front_seat.number h.seen ≡ front_seat.mine → by front_seat.number before.seen ≡ front_seat.mine → by n h.seen ≡ by n before.seen
    seen_all n front_seat is all then = subst (λ m. by m h.seen ≡ by m before.seen) is (all ∙ sym then)

    tally_goes_on : (u w : Sat) (t : Option Totals) → IsTally t u w → StartsWith w.seen u.seen
    tally_goes_on u w (Some a) is = let f = is.follows.0 in (f.0 ++ (u.number, Tally a) ∷ [], is.seen ∙ (ap (λ l. l ++ (u.number, Tally a) ∷ []) f.1 ∙ append_assoc u.seen f.0 ((u.number, Tally a) ∷ [])))
    tally_goes_on u w None is = ([], ap (λ (x : Sat). x.seen) is ∙ sym (append-nil u.seen))

    after_own : StartsWith h.seen own.seen
    after_own = starts_through h.seen (first_seat_after own pool).seen own.seen (tally_goes_on (first_seat_after own pool) h tally c.tallies) c.longer

    stop_at : (v w : Sat) → v.number ≡ 0 → by v.number v.seen ≡ [] → Adds Stop v w → StartsWith h.seen w.seen → OwnStop h.seen v.seen
    stop_at v w zero_is none is later =
        let f = is.follows.0 in
        record {
          mid = f.0;
          rest = later.0;
          is = later.1 ∙ (ap (λ l. l ++ later.0) (is.seen ∙ ap (λ l. l ++ (v.number, Stop) ∷ []) f.1) ∙ (append_assoc (v.seen ++ f.0) ((v.number, Stop) ∷ []) later.0 ∙ ap (λ n. (v.seen ++ f.0) ++ (n, Stop) ∷ later.0) zero_is));
          none = subst (λ n. by n (v.seen ++ f.0) ≡ []) zero_is (ap (by v.number) (sym f.1) ∙ (is.follows.1 ∙ none));
        }

    own_stops : (s : Bool) → MatchBool s (Adds Stop before own) (own ≡ worn_out before) → s ≡ true → OwnStop h.seen before.seen
    own_stops true is same = stop_at before own c.ran.start_is.number (c.ran.ended.known_before.0 ∙ c.ran.start_is.unused) is after_own
    own_stops false is same = cc

    worker_none : (n : ℕ) → list_any is_stop (plain (by (suc (suc (suc (suc n)))) h.seen)) ≡ false
    worker_none w = go (nat_lt w (length (ends_in pool))) refl
      where
        same : w + 4 ≡ suc (suc (suc (suc w)))
        same = omega arith

        at : (o : Option (Option WorkEnd)) → w < length (ends_in pool) → slice_get (ends_in pool) w ≡ o → list_any is_stop (plain (by (w + 4) h.seen)) ≡ false
        at None lt is = absurd (let long = none_past (ends_in pool) w is in omega arith)
        at (Some end) lt is = worker_unstopped w end _ (work_at w end (at_zero w end is))

        go : (b : Bool) → nat_lt w (length (ends_in pool)) ≡ b → list_any is_stop (plain (by (suc (suc (suc (suc w)))) h.seen)) ≡ false
        go true is = subst (λ n. list_any is_stop (plain (by n h.seen)) ≡ false) same (at (slice_get (ends_in pool) w) (grind (arith, nat_tests)) refl)
        go false is = ap (λ l. list_any is_stop (plain l)) (none_above (suc (suc (suc (suc w)))) (let ge : length (ends_in pool) ≤ w = grind (arith, nat_tests) in omega arith))

    own_last : (xs ys : List (ℕ × Entry)) → h.seen ≡ xs ++ (0, Stop) ∷ ys → (k : ℕ) → (0 == k) ≡ false → by k h.seen ≡ by k before.seen → by k ys ≡ []
    own_last xs ys is = own_stop stopped tally h.seen before.seen xs ys seated.own (own_stops stopped c.ran.ended.stops) is

    stops : (xs ys : List (ℕ × Entry)) (n : ℕ) → h.seen ≡ xs ++ (n, Stop) ∷ ys → IsStop done n ys
    stops xs ys zero is =
        inr (inr (refl, own_last xs ys is 1 refl (seen_all 1 c.ran.seats.renderd c.ran.renderd.number each_is.0 before_joined.0), own_last xs ys is 2 refl (seen_all 2 c.ran.seats.tiles c.ran.tiles.number each_is.1.0 before_joined.1.0), own_last xs ys is 3 refl (seen_all 3 c.ran.seats.control c.ran.control.number each_is.1.1.0 before_joined.1.1.0)))
    stops xs ys (suc zero) is =
        let e = ends_front 0 1 done.renderd.end h.seen xs ys (λ never. cc) is (c.kinds told.renderd told'.renderd _ done.renderd renderd.worn renderd.left) in
        inr (inl (omega arith, omega arith, e.0, e.1))
    stops xs ys (suc (suc zero)) is =
        let e = ends_front 1 2 done.tiles.end h.seen xs ys (λ never. cc) is (c.kinds' told.tiles told'.tiles _ done.tiles tiles.worn tiles.left) in
        inr (inl (omega arith, omega arith, e.0, e.1))
    stops xs ys (suc (suc (suc zero))) is = inl refl
    stops xs ys (suc (suc (suc (suc w)))) is = absurd (never_stops (suc (suc (suc (suc w)))) h.seen xs ys is (worker_none w))

    -- the promise
    abbrev Told : LastingPart D → Type 0
    Told l = Tells (state l.first) l.plan l.saved

    promised : Promise farm.plan (Told (lasting_of state farm)) (past (lasting_of state farm) h.seen)
    promised = let s = c.closed.after.each false untold in keeps farm.plan (Told (lasting_of state farm)) false _ s.valid s.legal (λ tells. (c.closed.after.each true (λ is. tells)).legal)

    promised_of : (l : LastingPart D) → lasting_of state farm ≡ l → Promise l.plan (Told l) (past l h.seen)
    promised_of l is = subst (λ m. Promise m.plan (Told m) (past m h.seen)) is promised

    -- what is sent as clean, where every update was a renew
    abbrev SentNow : LastingPart D → Type 0
    SentNow l = Told l → has_plain_update (past l h.seen) ≡ false → EachMoment (IsSentNow l.plan) (past l h.seen)

    ranged : AreRanged farm.plan
    ranged = subst AreRanged (sym (ap (λ (l : LastingPart D). l.plan) c.closed.kept)) c.ranged

    sent_of : (l : LastingPart D) → lasting_of state farm ≡ l → SentNow l
    sent_of l is = subst SentNow is (λ tells renewed. let s = c.closed.after.each true (λ always. tells) in sent_now farm.plan _ s.valid ranged renewed s.legal)

    pub runs_well : RunsWell state made.about.first.value.farm farm h.seen leaves leaves' leaves'' told told' done ends_are
    runs_well = record {
      headline = promised_of (lasting_of state made.about.first.value.farm) c.closed.kept;
      sent_now = sent_of (lasting_of state made.about.first.value.farm) c.closed.kept;
      after = c.closed.after;
      kept = c.closed.kept;
      seated = seated;
      renderd = renderd;
      tiles = tiles;
      control = control;
      worked = worked;
      stops = stops;
    }
