-- What is true of each farm's fields stays so.
use Rattle.std.proofs.Common.{◌≡◌, ℕ, zero, suc, replicate, take, drop, ◌+◌, ◌<◌, ◌≤◌, Bool, true, false, ◌||◌, ◌==◌, not, cond, List, [], ◌∷◌, ◌++◌, length, map, filter, Option, Some, None, refl, sym, ap, ◌∙◌, subst, arith, length-append, append-nil}
use Rattle.std.specs.Prelude.{IfSome, count_by, slice_get, option_map}
use Rattle.std.specs.List.{list_any}
use Rattle.std.specs.Option.{option_or}
use Rattle.std.proofs.lemmas.Bool.Decides.{nat_tests}
use Rattle.farm_history.specs.declared.keys.Key.{Key}
use Rattle.farm_history.specs.declared.queues.Conn.{Conn}
use Rattle.farm_history.specs.declared.queues.Queue.{Queue}
use Rattle.farm_history.specs.declared.asks.AskAnswer.{AskAnswer}
use Rattle.farm_history.specs.declared.asks.Why.{Why}
use Rattle.farm_history.specs.Plans.{Waits, is_in}
use Rattle.farm_history.specs.Lists.{Each, Differ}
use Rattle.farm_history.specs.Seen.{Taken, overtaken_by}
use Rattle.plain_shapes.specs.Features.{Layer}
use Rattle.std.proofs.lemmas.List.{length-map, length-replicate}
use Rattle.farm_history.proofs.Lists.{each-append, each-map, each-over, each-filter, any-append, not_any}
use Rattle.farm_history.proofs.Counts.{count-cons}
use Rattle.render_queues.specs.OneQueue.{Lines, is_below}
use Rattle.render_queues.specs.Tables.{Tables, line_of, first_of, next_of, after_take, after_place, lifted_out}
use Rattle.render_queues.proofs.Ends.{filter_fewer}
use Rattle.farm_plan.specs.Plans.{FarmPlan, IsPlan}
use Rattle.farm_plan.specs.Spots.{IsKeyOf}
use Rattle.farm_refinement.specs.declared.counts.Counts.{Counts}
use Rattle.render_jobs.specs.Shared.{ShareSeen}
use Rattle.farm_refinement.specs.inner.Events.{taken_at, untaken, waits_at, with_dirty, stale_tables, asked_tables, marked_tables, dirtied_taken}
use Rattle.farm_core.specs.inner.Effects.{IsNext}
use Rattle.farm_core.specs.inner.Rooms.{ticket_of, how_many_at, AreSpares, AreKeysOf, IsRoomy}

-- no more pass a test than there are
pub count_few : {X : Type 0} (q : X → Bool) (xs : List X) → count_by q xs ≤ length xs
count_few q [] = omega arith
count_few q (x ∷ xs) = go (q x) (count-cons q x xs) (count_few q xs)
  where
    go : (b : Bool) → count_by q (x ∷ xs) ≡ cond b 1 0 + count_by q xs → count_by q xs ≤ length xs → count_by q (x ∷ xs) ≤ length (x ∷ xs)
    go true is few = omega (arith, is, few)
    go false is few = omega (arith, is, few)

-- the first of a queue is of its keys
first_each : (P : Key → Type 0) (ls : Lines) (queue : Queue) (w : Waits) → Each P (line_of ls queue).keys → first_of ls queue ≡ Some w → P w.key
first_each P ls queue w each is = go (line_of ls queue).keys each is
  where
    go : (keys : List Key) → Each P keys → option_map (λ k. record { queue = queue; key = k }) (slice_get keys 0) ≡ Some w → P w.key
    go [] e never = let none : Option Waits = None in let n : none ≡ Some w = never in cc
    go (k ∷ ks) e here =
        let same : k ≡ w.key = ap (λ (o : Option Waits). key_or k o) here in
        subst P same e.0
      where
        key_or : Key → Option Waits → Key
        key_or other None = other
        key_or other (Some x) = x.key

either : (P : Waits → Type 0) (a b : Option Waits) (w : Waits) → ((x : Waits) → a ≡ Some x → P x) → (b ≡ Some w → P w) → option_or a b ≡ Some w → P w
either P None b w f g is = g is
either P (Some x) b w f g is = let same : x ≡ w = cc in subst P same (f x refl)

-- what is taken next is one of the keys that wait
pub next_each : (P : Key → Type 0) (ls : Lines) (w : Waits) → ((queue : Queue) → Each P (line_of ls queue).keys) → next_of ls ≡ Some w → P w.key
next_each P ls w each is =
    either (λ (x : Waits). P x.key) (first_of ls Queue.Prio) _ w (λ x e. first_each P ls Queue.Prio x (each Queue.Prio) e)
    (λ is1. either (λ (x : Waits). P x.key) (first_of ls Queue.Request) _ w (λ x e. first_each P ls Queue.Request x (each Queue.Request) e)
    (λ is2. either (λ (x : Waits). P x.key) (first_of ls Queue.Low) _ w (λ x e. first_each P ls Queue.Low x (each Queue.Low) e)
    (λ is3. either (λ (x : Waits). P x.key) (first_of ls Queue.Dirty) (first_of ls Queue.Bulk) w (λ x e. first_each P ls Queue.Dirty x (each Queue.Dirty) e)
    (λ e. first_each P ls Queue.Bulk w (each Queue.Bulk) e) is3) is2) is1) is

-- after a key was taken the others still wait
take_each : (P : Key → Type 0) (t : Tables) (o : Option Waits) → ((queue : Queue) → Each P (line_of t.lines queue).keys) → (queue : Queue) → Each P (line_of (after_take t o).lines queue).keys
take_each P t None each queue = each queue
take_each P t (Some w) each queue = go w.queue queue
  where
    go : (own other : Queue) → Each P (line_of (after_take t (Some (record { queue = own; key = w.key }))).lines other).keys
    go Queue.Prio Queue.Prio = each-filter P _ _ (each Queue.Prio)
    go Queue.Request Queue.Request = each-filter P _ _ (each Queue.Request)
    go Queue.Low Queue.Low = each-filter P _ _ (each Queue.Low)
    go Queue.Dirty Queue.Dirty = each-filter P _ _ (each Queue.Dirty)
    go Queue.Bulk Queue.Bulk = each-filter P _ _ (each Queue.Bulk)
    go Queue.Prio q = each q
    go Queue.Request q = each q
    go Queue.Low q = each q
    go Queue.Dirty q = each q
    go Queue.Bulk q = each q

-- a new number differs from smaller ones
differ_append : (taken : List Taken) (t : Taken) → Differ ticket_of taken → Each (λ (x : Taken). x.ticket < t.ticket) taken → Differ ticket_of (taken ++ t ∷ [])
differ_append [] t differ below = (refl, tt)
differ_append (x ∷ xs) t differ below =
    (any-append (λ (y : Taken). y.ticket == x.ticket) xs (t ∷ []) ∙ (let b = below.0 in grind (arith, nat_tests, differ.0)), differ_append xs t differ.1 below.1)

count_append : (version : ℕ) (taken : List Taken) (t : Taken) → t.version ≡ version → how_many_at version (taken ++ t ∷ []) ≡ how_many_at version taken + 1
count_append version [] t is = let one = count-cons (λ (x : Taken). x.version == version) t [] in grind (arith, nat_tests)
count_append version (x ∷ xs) t is =
    let more = count_append version xs t is in
    let a = count-cons (λ (y : Taken). y.version == version) x (xs ++ t ∷ []) in
    let b = count-cons (λ (y : Taken). y.version == version) x xs in
    omega (arith, a, b, more)

front_all : {X : Type 0} (P : X → Type 0) (xs : List X) (x : X) → Each P (xs ++ x ∷ []) → Each P xs × P x
front_all P [] x e = (tt, e.0)
front_all P (y ∷ ys) x e = let rest = front_all P ys x e.1 in ((e.0, rest.0), rest.1)

-- the key that is taken is one of the plan
pub key_taken : (plan : FarmPlan) (queues : Tables) (key : Key) → AreKeysOf plan queues → option_map (λ (w : Waits). w.key) (next_of queues.lines) ≡ Some key → IsKeyOf plan key
key_taken plan queues key each is = go (next_of queues.lines) refl is
  where
    go : (o : Option Waits) → next_of queues.lines ≡ o → option_map (λ (w : Waits). w.key) o ≡ Some key → IsKeyOf plan key
    go None e never = let none : Option Key = None in let n : none ≡ Some key = never in cc
    go (Some w) e here = let same : w.key ≡ key = cc in subst (IsKeyOf plan) same (next_each (IsKeyOf plan) queues.lines w each e)

-- a job was given, with a spare share
pub room_claim : (own : ShareSeen) (spares front : List ShareSeen) (share : ShareSeen) (taken : List Taken) (queues : Tables) (styled : List (Option ℕ)) (counts : Counts) (spares_room taken_room : ℕ) (key : Key) →
    IsRoomy own spares taken queues styled counts spares_room taken_room → length taken < own.plan.workers → counts.jobs < counts.turns →
    IsKeyOf own.plan key → spares ≡ front ++ share ∷ [] →
    IsRoomy own front (taken ++ record { ticket = counts.jobs; key = key; version = counts.version; touched = false } ∷ []) queues styled (record counts { jobs = counts.jobs + 1 }) spares_room taken_room
room_claim own spares front share taken queues styled counts spares_room taken_room key r free more at popped =
    let t = r.are_taken in
    let new : Taken = record { ticket = counts.jobs; key = key; version = counts.version; touched = false } in
    let shares = front_all (λ (s : ShareSeen). s ≡ own) front share (subst (Each (λ (s : ShareSeen). s ≡ own)) popped r.are_spares.alike) in
    let enough = r.are_spares.enough in
    let longer : length spares ≡ length front + 1 = ap length popped ∙ length-append front (share ∷ []) in
    let counted_more = count_append counts.version taken new refl in
    record {
      is_plan = r.is_plan;
      counted = record { numbers = r.counted.numbers; jobs = omega (arith, more); asks = r.counted.asks; done = r.counted.done; stored = r.counted.stored; version = r.counted.version };
      are_taken = record {
        tickets = differ_append taken new t.tickets t.below;
        below = each-append (λ (x : Taken). x.ticket < counts.jobs + 1) taken new (each-map (λ (x : Taken). x.ticket < counts.jobs) (λ (x : Taken). x.ticket < counts.jobs + 1) taken (λ x h. omega (arith, h)) t.below) (omega arith);
        aged = each-append (λ (x : Taken). x.version ≤ counts.version) taken new t.aged (omega arith);
        keys = each-append (λ (x : Taken). IsKeyOf own.plan x.key) taken new t.keys at;
        few = omega (arith, length-append taken (new ∷ []), free);
      };
      are_spares = record { alike = shares.0; enough = omega (arith, enough, longer, counted_more) };
      waiting = r.waiting;
      styles = r.styles;
      spares_fit = r.spares_fit;
      taken_fit = r.taken_fit;
    }

-- what waits first was taken
pub room_take : (own : ShareSeen) (spares : List ShareSeen) (taken : List Taken) (queues : Tables) (styled : List (Option ℕ)) (counts : Counts) (spares_room taken_room : ℕ) →
    IsRoomy own spares taken queues styled counts spares_room taken_room → IsRoomy own spares taken (after_take queues (next_of queues.lines)) styled counts spares_room taken_room
room_take own spares taken queues styled counts spares_room taken_room r =
    record { is_plan = r.is_plan; counted = r.counted; are_taken = r.are_taken; are_spares = r.are_spares; waiting = take_each (IsKeyOf own.plan) queues (next_of queues.lines) r.waiting; styles = r.styles; spares_fit = r.spares_fit; taken_fit = r.taken_fit }

-- ---- ends of drawings

none_untaken : (ticket : ℕ) (taken : List Taken) → list_any (λ (y : Taken). y.ticket == ticket) taken ≡ false → untaken ticket taken ≡ taken
none_untaken ticket [] h = refl
none_untaken ticket (x ∷ xs) h =
    let other : x.ticket == ticket ≡ false = grind arith in
    let rest : list_any (λ (y : Taken). y.ticket == ticket) xs ≡ false = grind arith in
    ap (λ b. cond (not b) (x ∷ untaken ticket xs) (untaken ticket xs)) other ∙ ap (λ ys. x ∷ ys) (none_untaken ticket xs rest)

-- a drawing is one of those of its version, and the others stay
pub count_untaken : (version ticket : ℕ) (taken : List Taken) (t : Taken) → Differ ticket_of taken → taken_at taken ticket ≡ Some t →
    how_many_at version taken ≡ cond (t.version == version) 1 0 + how_many_at version (untaken ticket taken)
count_untaken version ticket [] t differ never = let none : Option Taken = None in let n : none ≡ Some t = never in cc
count_untaken version ticket (x ∷ xs) t differ found = go (x.ticket == ticket) refl found (count_untaken version ticket xs t differ.1)
  where
    go : (b : Bool) → x.ticket == ticket ≡ b → cond b (Some x) (taken_at xs ticket) ≡ Some t →
        (taken_at xs ticket ≡ Some t → how_many_at version xs ≡ cond (t.version == version) 1 0 + how_many_at version (untaken ticket xs)) →
        how_many_at version (x ∷ xs) ≡ cond (t.version == version) 1 0 + how_many_at version (cond (not b) (x ∷ untaken ticket xs) (untaken ticket xs))
    go true is here ih =
        let same : x ≡ t = cc in
        let ticket_is : x.ticket ≡ ticket = grind (arith, nat_tests) in
        let gone : untaken ticket xs ≡ xs = none_untaken ticket xs (subst (λ n. list_any (λ (y : Taken). y.ticket == n) xs ≡ false) ticket_is differ.0) in
        count-cons (λ (y : Taken). y.version == version) x xs
        ∙ ap (λ (y : Taken). cond (y.version == version) 1 0 + how_many_at version xs) same
        ∙ ap (λ ys. cond (t.version == version) 1 0 + how_many_at version ys) (sym gone)
    go false is there ih =
        let a = count-cons (λ (y : Taken). y.version == version) x xs in
        let b = count-cons (λ (y : Taken). y.version == version) x (untaken ticket xs) in
        let c = ih there in
        omega (arith, a, b, c)

differ_filter : (q : Taken → Bool) (taken : List Taken) → Differ ticket_of taken → Differ ticket_of (filter q taken)
differ_filter q [] differ = tt
differ_filter q (x ∷ xs) differ = go (q x) (differ_filter q xs differ.1)
  where
    go : (b : Bool) → Differ ticket_of (filter q xs) → Differ ticket_of (cond b (x ∷ filter q xs) (filter q xs))
    go true ih = (not_any (λ (y : Taken). y.ticket == x.ticket) q xs differ.0, ih)
    go false ih = ih

-- where a drawing over the newest data is under way, not every worker has a spare share
pub share_fits : (own : ShareSeen) (version ticket : ℕ) (spares : List ShareSeen) (taken : List Taken) (t : Taken) → AreSpares own version spares taken → Differ ticket_of taken → taken_at taken ticket ≡ Some t →
    t.version ≡ version → length spares < own.plan.workers
share_fits own version ticket spares taken t s differ found is =
    let c = count_untaken version ticket taken t differ found in
    let one : t.version == version ≡ true = grind (arith, nat_tests) in
    let d : how_many_at version taken ≡ 1 + how_many_at version (untaken ticket taken) = c ∙ ap (λ b. cond b 1 0 + how_many_at version (untaken ticket taken)) one in
    omega (arith, d, s.enough)

-- so the share of such a drawing has a place among them
pub share_newest : (own : ShareSeen) (version ticket job_version : ℕ) (spares : List ShareSeen) (taken : List Taken) (t : Taken) (room : ℕ) → AreSpares own version spares taken → Differ ticket_of taken → taken_at taken ticket ≡ Some t →
    job_version ≡ t.version → job_version == version ≡ true → own.plan.workers ≤ room → length spares < room
share_newest own version ticket job_version spares taken t room s differ found same newest fits =
    let is : t.version ≡ version = grind (arith, nat_tests) in
    omega (arith, share_fits own version ticket spares taken t s differ found is, fits)

-- a drawing is over, and its share is back where it is of the newest data
pub room_release : (own : ShareSeen) (spares : List ShareSeen) (share : ShareSeen) (taken : List Taken) (t : Taken) (queues : Tables) (styled : List (Option ℕ)) (counts : Counts) (spares_room taken_room ticket : ℕ) (newest : Bool) →
    IsRoomy own spares taken queues styled counts spares_room taken_room → taken_at taken ticket ≡ Some t → newest ≡ (t.version == counts.version) → (t.version ≡ counts.version → share ≡ own) →
    IsRoomy own (cond newest (spares ++ share ∷ []) spares) (untaken ticket taken) queues styled counts spares_room taken_room
room_release own spares share taken t queues styled counts spares_room taken_room ticket newest r found is shared =
    record {
      is_plan = r.is_plan;
      counted = r.counted;
      are_taken = record {
        tickets = differ_filter (λ (x : Taken). not (x.ticket == ticket)) taken r.are_taken.tickets;
        below = each-filter (λ (x : Taken). x.ticket < counts.jobs) (λ (x : Taken). not (x.ticket == ticket)) taken r.are_taken.below;
        aged = each-filter (λ (x : Taken). x.version ≤ counts.version) (λ (x : Taken). not (x.ticket == ticket)) taken r.are_taken.aged;
        keys = each-filter (λ (x : Taken). IsKeyOf own.plan x.key) (λ (x : Taken). not (x.ticket == ticket)) taken r.are_taken.keys;
        few = omega (arith, filter_fewer (λ (x : Taken). not (x.ticket == ticket)) taken, r.are_taken.few);
      };
      are_spares = shares newest is;
      waiting = r.waiting;
      styles = r.styles;
      spares_fit = r.spares_fit;
      taken_fit = r.taken_fit;
    }
  where
    shares : (b : Bool) → b ≡ (t.version == counts.version) → AreSpares own counts.version (cond b (spares ++ share ∷ []) spares) (untaken ticket taken)
    shares true e =
        let newest_is : t.version ≡ counts.version = grind (arith, nat_tests) in
        let c = count_untaken counts.version ticket taken t r.are_taken.tickets found ∙ ap (λ b. cond b 1 0 + how_many_at counts.version (untaken ticket taken)) (sym e) in
        record {
          alike = each-append (λ (s : ShareSeen). s ≡ own) spares share r.are_spares.alike (shared newest_is);
          enough = omega (arith, c, r.are_spares.enough, length-append spares (share ∷ []));
        }
    shares false e =
        let c = count_untaken counts.version ticket taken t r.are_taken.tickets found ∙ ap (λ b. cond b 1 0 + how_many_at counts.version (untaken ticket taken)) (sym e) in
        record { alike = r.are_spares.alike; enough = omega (arith, c, r.are_spares.enough) }

-- ---- keys that wait

-- a key of the plan goes last in a queue
pub placed_each : (P : Key → Type 0) (t : Tables) (own : Queue) (key : Key) → P key → ((queue : Queue) → Each P (line_of t.lines queue).keys) → (queue : Queue) → Each P (line_of (after_place t own key).lines queue).keys
placed_each P t own key here each queue = go own queue
  where
    go : (a b : Queue) → Each P (line_of (after_place t a key).lines b).keys
    go Queue.Prio Queue.Prio = each-append P _ key (each Queue.Prio) here
    go Queue.Request Queue.Request = each-append P _ key (each Queue.Request) here
    go Queue.Low Queue.Low = each-append P _ key (each Queue.Low) here
    go Queue.Dirty Queue.Dirty = each-append P _ key (each Queue.Dirty) here
    go Queue.Bulk Queue.Bulk = each-append P _ key (each Queue.Bulk) here
    go Queue.Prio q = each q
    go Queue.Request q = each q
    go Queue.Low q = each q
    go Queue.Dirty q = each q
    go Queue.Bulk q = each q

pub dirty_each : (P : Key → Type 0) (t : Tables) (key : Key) → P key → ((queue : Queue) → Each P (line_of t.lines queue).keys) → (queue : Queue) → Each P (line_of (with_dirty t key).lines queue).keys
dirty_each P t key here each queue = go (is_below t.lines.dirty)
  where
    go : (b : Bool) → Each P (line_of (cond b (after_place t Queue.Dirty key) t).lines queue).keys
    go true = placed_each P t Queue.Dirty key here each queue
    go false = each queue

pub stale_each : (P : Key → Type 0) (clean : Bool) (t : Tables) (key : Key) → P key → ((queue : Queue) → Each P (line_of t.lines queue).keys) → (queue : Queue) → Each P (line_of (stale_tables clean t key).lines queue).keys
stale_each P true t key here each queue = each queue
stale_each P false t key here each queue = dirty_each P t key here each queue

lifted_each : (P : Key → Type 0) (t : Tables) (key : Key) → ((queue : Queue) → Each P (line_of t.lines queue).keys) → (queue : Queue) → Each P (line_of (lifted_out t.lines key) queue).keys
lifted_each P t key each Queue.Prio = each Queue.Prio
lifted_each P t key each Queue.Request = each Queue.Request
lifted_each P t key each Queue.Low = each Queue.Low
lifted_each P t key each Queue.Dirty = each-filter P _ _ (each Queue.Dirty)
lifted_each P t key each Queue.Bulk = each-filter P _ _ (each Queue.Bulk)

-- what waits after an ask for a key of the plan
pub asked_each : (P : Key → Type 0) (t : Tables) (own : Queue) (key : Key) (conn : Conn) (answer : AskAnswer) → P key → ((queue : Queue) → Each P (line_of t.lines queue).keys) → (queue : Queue) → Each P (line_of (asked_tables t own key conn answer).lines queue).keys
asked_each P t own key conn AskAnswer.Done here each queue = each queue
asked_each P t own key conn (AskAnswer.Queued n) here each queue = placed_each P t own key here each queue
asked_each P t own key conn (AskAnswer.Joined n) here each queue = each queue
asked_each P t own key conn (AskAnswer.Lifted n) here each queue = placed_each P (record t { lines = lifted_out t.lines key }) own key here (lifted_each P t key each) queue
asked_each P t own key conn (AskAnswer.NotDone Why.Deferred) here each queue = placed_each P t Queue.Dirty key here each queue
asked_each P t own key conn (AskAnswer.NotDone Why.Stopping) here each queue = each queue
asked_each P t own key conn (AskAnswer.NotDone Why.Unservable) here each queue = each queue
asked_each P t own key conn (AskAnswer.NotDone Why.Backlog) here each queue = each queue
asked_each P t own key conn (AskAnswer.NotDone Why.Overtaken) here each queue = each queue
asked_each P t own key conn (AskAnswer.NotDone Why.InDirty) here each queue = each queue
asked_each P t own key conn (AskAnswer.NotDone Why.Dropped) here each queue = each queue
asked_each P t own key conn AskAnswer.Silent here each queue = each queue

-- what waits after a key of the plan was marked dirty
pub marked_each : (P : Key → Type 0) (t : Tables) (key : Key) → P key → ((queue : Queue) → Each P (line_of t.lines queue).keys) → (queue : Queue) → Each P (line_of (marked_tables t key).lines queue).keys
marked_each P t key here each queue = go (waits_at t key || is_in key t.taken)
  where
    go : (b : Bool) → Each P (line_of (cond b t (with_dirty t key)).lines queue).keys
    go true = each queue
    go false = dirty_each P t key here each queue

-- one more drawing is stored
pub room_stored : (own : ShareSeen) (spares : List ShareSeen) (taken : List Taken) (queues : Tables) (styled : List (Option ℕ)) (counts : Counts) (spares_room taken_room : ℕ) →
    IsRoomy own spares taken queues styled counts spares_room taken_room → counts.stored < counts.turns → IsRoomy own spares taken queues styled (record counts { stored = counts.stored + 1 }) spares_room taken_room
room_stored own spares taken queues styled counts spares_room taken_room r more = record {
  is_plan = r.is_plan;
  counted = record { numbers = r.counted.numbers; jobs = r.counted.jobs; asks = r.counted.asks; done = r.counted.done; stored = omega (arith, more); version = r.counted.version };
  are_taken = r.are_taken;
  are_spares = r.are_spares;
  waiting = r.waiting;
  styles = r.styles;
  spares_fit = r.spares_fit;
  taken_fit = r.taken_fit;
}

-- other queues whose keys are of the plan
pub room_queues : (own : ShareSeen) (spares : List ShareSeen) (taken : List Taken) (queues new : Tables) (styled : List (Option ℕ)) (counts : Counts) (spares_room taken_room : ℕ) →
    IsRoomy own spares taken queues styled counts spares_room taken_room → AreKeysOf own.plan new → IsRoomy own spares taken new styled counts spares_room taken_room
room_queues own spares taken queues new styled counts spares_room taken_room r each =
    record { is_plan = r.is_plan; counted = r.counted; are_taken = r.are_taken; are_spares = r.are_spares; waiting = each; styles = r.styles; spares_fit = r.spares_fit; taken_fit = r.taken_fit }

-- ---- updates

none_newer : (version : ℕ) (taken : List Taken) → Each (λ (t : Taken). t.version ≤ version) taken → how_many_at (version + 1) taken ≡ 0
none_newer version [] aged = refl
none_newer version (x ∷ xs) aged =
    let old = aged.0 in
    let other : x.version == version + 1 ≡ false = grind (arith, nat_tests) in
    count-cons (λ (t : Taken). t.version == version + 1) x xs ∙ ap (λ b. cond b 1 0 + how_many_at (version + 1) xs) other ∙ (let ih = none_newer version xs aged.1 in omega (arith, ih))

each_replicate : {X : Type 0} (P : X → Type 0) (n : ℕ) (x : X) → P x → Each P (replicate n x)
each_replicate P zero x h = tt
each_replicate P (suc n) x h = (h, each_replicate P n x h)

-- the next data are the newest
pub room_advance : (own next : ShareSeen) (spares others : List ShareSeen) (taken : List Taken) (queues : Tables) (styled : List (Option ℕ)) (counts : Counts) (spares_room others_room taken_room : ℕ) →
    IsRoomy own spares taken queues styled counts spares_room taken_room → IsNext own next.data_now next others others_room → counts.version < counts.turns →
    IsRoomy next others taken queues styled (record counts { version = counts.version + 1 }) others_room taken_room
room_advance own next spares others taken queues styled counts spares_room others_room taken_room r n more =
    let same = sym n.plan_is in
    let t = r.are_taken in
    record {
      is_plan = subst IsPlan same r.is_plan;
      counted = record { numbers = r.counted.numbers; jobs = r.counted.jobs; asks = r.counted.asks; done = r.counted.done; stored = r.counted.stored; version = omega (arith, more) };
      are_taken = record {
        tickets = t.tickets;
        below = t.below;
        aged = each-map (λ (x : Taken). x.version ≤ counts.version) (λ (x : Taken). x.version ≤ counts.version + 1) taken (λ x h. omega (arith, h)) t.aged;
        keys = subst (λ (p : FarmPlan). Each (λ (x : Taken). IsKeyOf p x.key) taken) same t.keys;
        few = subst (λ (p : FarmPlan). length taken ≤ p.workers) same t.few;
      };
      are_spares = record {
        alike = subst (Each (λ (s : ShareSeen). s ≡ next)) (sym n.alike) (each_replicate (λ (s : ShareSeen). s ≡ next) own.plan.workers next refl);
        enough = subst (λ (p : FarmPlan). length others + how_many_at (counts.version + 1) taken ≡ p.workers) same (let none = none_newer counts.version taken t.aged in omega (arith, none, ap length n.alike, length-replicate own.plan.workers next));
      };
      waiting = subst (λ (p : FarmPlan). AreKeysOf p queues) same r.waiting;
      styles = subst (λ (p : FarmPlan). length styled ≡ length p.maps) same r.styles;
      spares_fit = subst (λ (p : FarmPlan). p.workers ≤ others_room) same n.fits;
      taken_fit = subst (λ (p : FarmPlan). p.workers ≤ taken_room) same r.taken_fit;
    }

-- ---- touches

differ_over : (f : Taken → Taken) (taken : List Taken) → ((t : Taken) → ticket_of (f t) ≡ ticket_of t) → Differ ticket_of taken → Differ ticket_of (map f taken)
differ_over f [] same differ = tt
differ_over f (x ∷ xs) same differ = (other xs ∙ ap (λ n. list_any (λ (y : Taken). y.ticket == n) xs) (same x) ∙ differ.0, differ_over f xs same differ.1)
  where
    other : (ys : List Taken) → list_any (λ (y : Taken). y.ticket == (f x).ticket) (map f ys) ≡ list_any (λ (y : Taken). y.ticket == (f x).ticket) ys
    other [] = refl
    other (y ∷ ys) = ap (λ n. (n == (f x).ticket) || list_any (λ (z : Taken). z.ticket == (f x).ticket) (map f ys)) (same y) ∙ ap (λ b. (y.ticket == (f x).ticket) || b) (other ys)

-- an event touches drawings under way
pub room_dirtied : (own : ShareSeen) (test : Key → Bool) (spares : List ShareSeen) (taken : List Taken) (queues : Tables) (styled : List (Option ℕ)) (counts : Counts) (spares_room taken_room : ℕ) →
    IsRoomy own spares taken queues styled counts spares_room taken_room → IsRoomy own spares (dirtied_taken test taken) queues styled counts spares_room taken_room
room_dirtied own test spares taken queues styled counts spares_room taken_room r =
    let t = r.are_taken in
    record {
      is_plan = r.is_plan;
      counted = r.counted;
      are_taken = record {
        tickets = differ_over (overtaken_by test) taken (λ x. refl) t.tickets;
        below = each-over (overtaken_by test) (λ (x : Taken). x.ticket < counts.jobs) (λ (x : Taken). x.ticket < counts.jobs) taken (λ x h. h) t.below;
        aged = each-over (overtaken_by test) (λ (x : Taken). x.version ≤ counts.version) (λ (x : Taken). x.version ≤ counts.version) taken (λ x h. h) t.aged;
        keys = each-over (overtaken_by test) (λ (x : Taken). IsKeyOf own.plan x.key) (λ (x : Taken). IsKeyOf own.plan x.key) taken (λ x h. h) t.keys;
        few = omega (arith, length-map taken (overtaken_by test), t.few);
      };
      are_spares = record { alike = r.are_spares.alike; enough = omega (arith, as_many taken, r.are_spares.enough) };
      waiting = r.waiting;
      styles = r.styles;
      spares_fit = r.spares_fit;
      taken_fit = r.taken_fit;
    }
  where
    as_many : (xs : List Taken) → how_many_at counts.version (dirtied_taken test xs) ≡ how_many_at counts.version xs
    as_many [] = refl
    as_many (x ∷ xs) =
        let a = count-cons (λ (y : Taken). y.version == counts.version) (overtaken_by test x) (dirtied_taken test xs) in
        let b = count-cons (λ (y : Taken). y.version == counts.version) x xs in
        omega (arith, a, b, as_many xs)

-- the key that was taken, where there is one, is of the plan
pub key_valid : (plan : FarmPlan) (queues : Tables) (o : Option Key) → AreKeysOf plan queues → o ≡ option_map (λ (w : Waits). w.key) (next_of queues.lines) → IfSome o (IsKeyOf plan)
key_valid plan queues None each is = tt
key_valid plan queues (Some k) each is = key_taken plan queues k each (sym is)

-- ---- as the calls leave the fields

-- a vector whose items were all written
whole_back : {X : Type 0} (xs ys : List X) (n : ℕ) → length xs ≡ n → length ys ≡ n → take n (xs ++ drop (length xs) ys) ≡ xs
whole_back {X = X} xs ys n a b =
    ap (λ (zs : List X). take n (xs ++ zs)) (drop_none ys (length xs) (omega (arith, a, b))) ∙ ap (take n) (append-nil xs) ∙ ap (λ k. take k xs) (sym a) ∙ take_whole xs
  where
    drop_none : (zs : List X) (k : ℕ) → length zs ≤ k → drop k zs ≡ []
    drop_none [] zero h = refl
    drop_none [] (suc k) h = refl
    drop_none (z ∷ zs) zero h = absurd (omega (arith, h))
    drop_none (z ∷ zs) (suc k) h = drop_none zs k (omega (arith, h))

    take_whole : (zs : List X) → take (length zs) zs ≡ zs
    take_whole [] = refl
    take_whole (z ∷ zs) = ap (λ ws. z ∷ ws) (take_whole zs)

-- the drawings under way after the touch was written over them
pub touched_back : (test : Key → Bool) (ys xs : List Taken) (n : ℕ) → xs ≡ dirtied_taken test ys → length ys ≡ n → take n (xs ++ drop (length xs) ys) ≡ dirtied_taken test ys
touched_back test ys xs n is len = whole_back xs ys n (ap length is ∙ length-map ys (overtaken_by test) ∙ len) len ∙ is

pub room_touched : (own : ShareSeen) (test : Key → Bool) (spares : List ShareSeen) (taken xs : List Taken) (queues : Tables) (styled : List (Option ℕ)) (counts : Counts) (spares_room taken_room : ℕ) →
    IsRoomy own spares taken queues styled counts spares_room taken_room → xs ≡ dirtied_taken test taken → IsRoomy own spares xs queues styled counts spares_room taken_room
room_touched own test spares taken xs queues styled counts spares_room taken_room r is =
    subst (λ (ts : List Taken). IsRoomy own spares ts queues styled counts spares_room taken_room) (sym is) (room_dirtied own test spares taken queues styled counts spares_room taken_room r)

-- the last of the spare shares is the farm's own
pub last_alike : (own : ShareSeen) (spares front : List ShareSeen) (share : ShareSeen) → Each (λ (s : ShareSeen). s ≡ own) spares → spares ≡ front ++ share ∷ [] → share ≡ own
last_alike own spares front share alike popped = (front_all (λ (s : ShareSeen). s ≡ own) front share (subst (Each (λ (s : ShareSeen). s ≡ own)) popped alike)).1

pub room_begun : (own : ShareSeen) (spares front : List ShareSeen) (share : ShareSeen) (taken more_taken : List Taken) (queues : Tables) (styled : List (Option ℕ)) (counts : Counts) (spares_room front_room taken_room more_room : ℕ) (key : Key) →
    IsRoomy own spares taken queues styled counts spares_room taken_room → length taken < own.plan.workers → counts.jobs < counts.turns → IsKeyOf own.plan key → spares ≡ front ++ share ∷ [] →
    more_taken ≡ taken ++ record { ticket = counts.jobs; key = key; version = counts.version; touched = false } ∷ [] → front_room ≡ spares_room → more_room ≡ taken_room →
    IsRoomy own front more_taken queues styled (record counts { jobs = counts.jobs + 1 }) front_room more_room
room_begun own spares front share taken more_taken queues styled counts spares_room front_room taken_room more_room key r free more at popped pushed same_front same_more =
    subst (λ (ts : List Taken). IsRoomy own front ts queues styled (record counts { jobs = counts.jobs + 1 }) front_room more_room) (sym pushed)
    (subst (λ n. IsRoomy own front (taken ++ record { ticket = counts.jobs; key = key; version = counts.version; touched = false } ∷ []) queues styled (record counts { jobs = counts.jobs + 1 }) n more_room) (sym same_front)
    (subst (λ n. IsRoomy own front (taken ++ record { ticket = counts.jobs; key = key; version = counts.version; touched = false } ∷ []) queues styled (record counts { jobs = counts.jobs + 1 }) spares_room n) (sym same_more)
    (room_claim own spares front share taken queues styled counts spares_room taken_room key r free more at popped)))

pub room_released : (own : ShareSeen) (spares back : List ShareSeen) (share : ShareSeen) (taken fewer : List Taken) (t : Taken) (queues : Tables) (styled : List (Option ℕ)) (counts : Counts) (spares_room back_room taken_room fewer_room ticket : ℕ) (newest : Bool) →
    IsRoomy own spares taken queues styled counts spares_room taken_room → taken_at taken ticket ≡ Some t → newest ≡ (t.version == counts.version) → (t.version ≡ counts.version → share ≡ own) →
    back ≡ cond newest (spares ++ share ∷ []) spares → fewer ≡ untaken ticket taken → back_room ≡ spares_room → fewer_room ≡ taken_room →
    IsRoomy own back fewer queues styled counts back_room fewer_room
room_released own spares back share taken fewer t queues styled counts spares_room back_room taken_room fewer_room ticket newest r found is shared gave dropped same_back same_fewer =
    subst (λ (xs : List ShareSeen). IsRoomy own xs fewer queues styled counts back_room fewer_room) (sym gave)
    (subst (λ (ts : List Taken). IsRoomy own (cond newest (spares ++ share ∷ []) spares) ts queues styled counts back_room fewer_room) (sym dropped)
    (subst (λ n. IsRoomy own (cond newest (spares ++ share ∷ []) spares) (untaken ticket taken) queues styled counts n fewer_room) (sym same_back)
    (subst (λ n. IsRoomy own (cond newest (spares ++ share ∷ []) spares) (untaken ticket taken) queues styled counts spares_room n) (sym same_fewer)
    (room_release own spares share taken t queues styled counts spares_room taken_room ticket newest r found is shared))))

-- a share of the same plan and data is the same
pub same_share : (own share : ShareSeen) (plan : FarmPlan) (layers : List Layer) → share ≡ record { plan = plan; data_now = layers } → plan ≡ own.plan → layers ≡ own.data_now → share ≡ own
same_share own share plan layers is p d =
    is ∙ ap (λ (x : FarmPlan). record { plan = x; data_now = layers }) p ∙ ap (λ (x : List Layer). record { plan = own.plan; data_now = x }) d
