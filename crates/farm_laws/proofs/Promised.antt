-- Each legal history keeps the promise.
use Rattle.std.proofs.Common.{◌≡◌, ℕ, ◌<◌, ◌≤◌, Bool, true, false, ◌&&◌, ◌||◌, ◌==◌, nat_lt, List, [], ◌∷◌, ◌++◌, length, slice_get, Option, Some, None, refl, sym, ap, ap₂, ◌∙◌, subst, arith}
use Rattle.std.proofs.lemmas.Bool.Decides.{nat_tests}
use Rattle.std.proofs.lemmas.Bool.{ltb-true}
use Rattle.std.proofs.lemmas.Option.{same_Some}
use Rattle.farm_history.specs.Lists.{Each}
use Rattle.farm_history.specs.declared.keys.Key.{Key}
use Rattle.farm_history.specs.declared.queues.Conn.{Conn}
use Rattle.farm_history.specs.declared.queues.Reply.{Reply}
use Rattle.farm_history.specs.declared.asks.Spot.{Spot}
use Rattle.farm_history.specs.declared.asks.Cmd.{Cmd}
use Rattle.farm_history.specs.declared.asks.AskAnswer.{AskAnswer}
use Rattle.farm_history.specs.declared.answers.ClaimAnswer.TheVariants.{Job}
use Rattle.farm_history.specs.declared.answers.Finished.TheVariants.{Stored}
use Rattle.farm_history.specs.declared.answers.Fetched.{Fetched}
use Rattle.farm_history.specs.Entries.{Entry, Ask, Claim, Finish, Fetch, EachMoment}
use Rattle.farm_history.specs.Plans.{Plan, same_key, key_of, map_of, spot_tile}
use Rattle.farm_history.specs.Past.{Flight, flights, flight_in, is_on, version, is_touched_after, is_clean, drawn_after, data_after, style_after}
use Rattle.farm_history.specs.Rules.{Fits, Legal}
use Rattle.farm_history.specs.Laws.{is_stored_in, is_stored_after, is_claimed_after, is_redrawn_after, StaysDirty as StaysDirtyAt, IsStoredFor, DoneAt, DoneReply}
use Rattle.farm_history.proofs.Lists.{same_key-true, find-passes, each-find}
use Rattle.farm_history.proofs.Since.{clean_since}
use Rattle.farm_history.proofs.Sounds.{IsClaimed, flights_claimed, legal_before, sent_clean, shown_drawn, sound, stored_more}
use Rattle.farm_plan.specs.Plans.{MapPlan, FarmPlan, IsPlan}
use Rattle.farm_plan.specs.Drawings.{tile_in, data_of, plan_of}
use Rattle.farm_plan.proofs.Spots.{spot_of}
use Rattle.farm_laws.specs.Promise.{is_finished_in, Drawing, IsTouched, IsClean, IsAnswered, StaysDirty, Promise, LawPromise}
use Rattle.farm_laws.proofs.Sentences.{at_moment, drawn_once, left_dirty}

-- ---- lists

longer : {X : Type 0} (since : List X) (e : X) (before : List X) → length before < length (since ++ e ∷ before)
longer [] e before = omega arith
longer (s ∷ since) e before = let lt = longer since e before in omega arith

-- what has all of the second part behind it stands in the first
in_first : {X : Type 0} (since : List X) (e : X) (before first rest : List X) → first ++ rest ≡ since ++ e ∷ before → length rest ≤ length before → (mid : List X) × (first ≡ since ++ e ∷ mid)
in_first [] e before [] rest is le = absurd (let long = ap length is in omega (arith, long))
in_first [] e before (x ∷ first) rest is le = (first, let same : x ≡ e = cc in ap (λ y. y ∷ first) same)
in_first (s ∷ since) e before [] rest is le = absurd (let long = ap length is in let lt = longer since e before in omega (arith, long, lt))
in_first {X} (s ∷ since) e before (x ∷ first) rest is le =
    let same : x ≡ s = cc in
    let tail : first ++ rest ≡ since ++ e ∷ before = cc in
    let c = in_first since e before first rest tail le in
    (c.0, ap₂ (λ (y : X) (ys : List X). y ∷ ys) same c.1)

-- one that is cut into two parts
two_parts : (after between : List Entry) (g : List Entry) → (after ++ between) ++ g ≡ after ++ (between ++ g)
two_parts [] between g = refl
two_parts (x ∷ after) between g = ap (λ y. x ∷ y) (two_parts after between g)

-- ---- drawings

abbrev one_more : (e : Entry) (g : List Entry) (k : Key) → Drawing g k → Drawing (e ∷ g) k
one_more e g k d = record { since = e ∷ d.since; worker = d.worker; ticket = d.ticket; of_version = d.of_version; before = d.before; is_in = ap (λ x. e ∷ x) d.is_in }

-- one that has all of the second part behind it stands in the first
abbrev among : (first rest : List Entry) (k : Key) (d : Drawing (first ++ rest) k) → length rest ≤ length d.before → Drawing first k
among first rest k d le =
    let cut = in_first d.since (Claim d.worker (Job d.ticket k d.of_version)) d.before first rest d.is_in le in
    record { since = d.since; worker = d.worker; ticket = d.ticket; of_version = d.of_version; before = cut.0; is_in = cut.1 }

-- that of a flight
abbrev of_flight : (e : Entry) (g : List Entry) (f : Flight) → IsClaimed g f → Drawing (e ∷ g) f.key
of_flight e g f c = record { since = e ∷ c.since; worker = c.worker; ticket = f.ticket; of_version = version f.before; before = f.before; is_in = ap (λ x. e ∷ x) c.is_claim }

stored_now : (t : ℕ) (drawn clean : Bool) (g since : List Entry) (f : Flight) → flight_in (flights g) t ≡ Some f → is_stored_in (Finish t drawn (Stored clean) ∷ since) f.ticket ≡ true
unfolding is_stored_in
stored_now t drawn clean g since f is = let passed = find-passes (λ x. x.ticket == t) (flights g) f is in let same : (t == f.ticket) ≡ true = grind (arith, nat_tests, passed) in grind arith

-- ---- one that was claimed behind a place, and stored

record IsRedrawn (h : List Entry) (place : ℕ) (k : Key) : Type 0 where
  pub drawing : Drawing h k
  pub behind : place < length drawing.before
  pub stored : is_stored_in drawing.since drawing.ticket ≡ true

redrawn_more : (e : Entry) (g : List Entry) (place : ℕ) (k : Key) → IsRedrawn g place k → IsRedrawn (e ∷ g) place k
redrawn_more e g place k r = record { drawing = one_more e g k r.drawing; behind = r.behind; stored = stored_more e r.drawing.since r.drawing.ticket r.stored }

redrawn_by : (t : ℕ) (drawn clean : Bool) (g : List Entry) (place : ℕ) (k : Key) (o : Option Flight) → flight_in (flights g) t ≡ o → Each (IsClaimed g) (flights g) → (is_redrawn_after g place k ≡ true → IsRedrawn g place k)
    → (is_claimed_after o place k || is_redrawn_after g place k) ≡ true → IsRedrawn (Finish t drawn (Stored clean) ∷ g) place k
redrawn_by t drawn clean g place k None is claims old any = redrawn_more (Finish t drawn (Stored clean)) g place k (old any)
redrawn_by t drawn clean g place k (Some f) is claims old any = go (same_key f.key k) refl (nat_lt place (length f.before)) refl any
  where
    e : Entry
    e = Finish t drawn (Stored clean)

    claimed : IsClaimed g f
    claimed = each-find (IsClaimed g) _ (flights g) f claims is

    go : (b : Bool) → same_key f.key k ≡ b → (c : Bool) → nat_lt place (length f.before) ≡ c → ((b && c) || is_redrawn_after g place k) ≡ true → IsRedrawn (e ∷ g) place k
    go true same true lt any =
        subst (λ (x : Key). IsRedrawn (e ∷ g) place x) (same_key-true f.key k same)
        (record { drawing = of_flight e g f claimed; behind = ltb-true place (length f.before) lt; stored = stored_now t drawn clean g claimed.since f is })
    go true same false lt any = redrawn_more e g place k (old any)
    go false other c lt any = redrawn_more e g place k (old any)

redrawn : (p : Plan) (told : Bool) (h : List Entry) (place : ℕ) (k : Key) → Legal p told h → is_redrawn_after h place k ≡ true → IsRedrawn h place k
unfolding is_redrawn_after
redrawn p told [] place k legal is = cc
redrawn p told (Finish t drawn (Stored clean) ∷ g) place k legal is =
    redrawn_by t drawn clean g place k (flight_in (flights g) t) refl (flights_claimed p told g legal.1) (λ r. redrawn p told g place k legal.1 r) is
redrawn p told (e ∷ g) place k legal is = redrawn_more e g place k (redrawn p told g place k legal.1 is)

-- ---- one that was stored since

record IsStoredSince (g since : List Entry) (k : Key) : Type 0 where
  pub drawing : Drawing g k
  pub stored : is_stored_in since drawing.ticket ≡ true

since_more : (e : Entry) (g since : List Entry) (k : Key) → IsStoredSince g since k → IsStoredSince (e ∷ g) (e ∷ since) k
since_more e g since k s = record { drawing = one_more e g k s.drawing; stored = stored_more e since s.drawing.ticket s.stored }

no_either : (a b c : Bool) → b ≡ false → c ≡ false → ((a && b) || c) ≡ false
no_either true false false p q = refl
no_either false false false p q = refl
no_either a true c p q = cc
no_either a false true p q = cc

-- nothing is stored after a place that is not there
none_after : (g : List Entry) (place : ℕ) (k : Key) → length g ≤ place → is_stored_after g place k ≡ false
unfolding is_stored_after
none_after [] place k le = refl
none_after (Finish t drawn (Stored clean) ∷ g) place k le =
    no_either (is_on (flight_in (flights g) t) k) (nat_lt place (length g)) (is_stored_after g place k) (grind (arith, nat_tests)) (none_after g place k (omega arith))
none_after (e ∷ g) place k le = none_after g place k (omega arith)

since_by : (t : ℕ) (drawn clean : Bool) (g since : List Entry) (place : ℕ) (k : Key) (o : Option Flight) → flight_in (flights g) t ≡ o → Each (IsClaimed g) (flights g) → (is_stored_after g place k ≡ true → IsStoredSince g since k)
    → ((is_on o k && nat_lt place (length g)) || is_stored_after g place k) ≡ true → IsStoredSince (Finish t drawn (Stored clean) ∷ g) (Finish t drawn (Stored clean) ∷ since) k
since_by t drawn clean g since place k None is claims old any = since_more (Finish t drawn (Stored clean)) g since k (old any)
since_by t drawn clean g since place k (Some f) is claims old any = go (same_key f.key k) refl (nat_lt place (length g)) any
  where
    e : Entry
    e = Finish t drawn (Stored clean)

    go : (b : Bool) → same_key f.key k ≡ b → (c : Bool) → ((b && c) || is_stored_after g place k) ≡ true → IsStoredSince (e ∷ g) (e ∷ since) k
    go true same true any =
        subst (λ (x : Key). IsStoredSince (e ∷ g) (e ∷ since) x) (same_key-true f.key k same)
        (record { drawing = of_flight e g f (each-find (IsClaimed g) _ (flights g) f claims is); stored = stored_now t drawn clean g since f is })
    go true same false any = since_more e g since k (old any)
    go false other c any = since_more e g since k (old any)

module _ (p : Plan) (told : Bool) (conn : Conn) (command : Cmd) (spot : Spot) (answer : AskAnswer) (before : List Entry) (k : Key) where
  abbrev ask : Entry
  ask = Ask conn command spot answer

  stored_since : (since : List Entry) → Legal p told (since ++ ask ∷ before) → is_stored_after (since ++ ask ∷ before) (length before) k ≡ true → IsStoredSince (since ++ ask ∷ before) since k
  unfolding is_stored_after
  stored_since [] legal is = absurd (let none = none_after before (length before) k (omega arith) in cc)
  stored_since (Finish t drawn (Stored clean) ∷ since) legal is =
      since_by t drawn clean (since ++ ask ∷ before) since (length before) k (flight_in (flights (since ++ ask ∷ before)) t) refl (flights_claimed p told (since ++ ask ∷ before) legal.1) (λ r. stored_since since legal.1 r) is
  stored_since (e ∷ since) legal is = since_more e (since ++ ask ∷ before) since k (stored_since since legal.1 is)

answered : (p : Plan) (told : Bool) (g : List Entry) (r : Reply) → Legal p told g → IsStoredFor g r → IsAnswered g r
answered p told g r legal s =
    let at : IsStoredSince (s.since ++ Ask r.conn s.command s.spot s.answer ∷ s.before) s.since (key_of s.spot) =
    stored_since p told r.conn s.command s.spot s.answer s.before (key_of s.spot) s.since (subst (Legal p told) s.is_asked legal) (subst (λ (x : List Entry). is_stored_after x (length s.before) (key_of s.spot) ≡ true) s.is_asked s.is_stored)
    in
    let there : IsStoredSince g s.since (key_of s.spot) = subst (λ (x : List Entry). IsStoredSince x s.since (key_of s.spot)) (sym s.is_asked) at in
    record { since = s.since; command = s.command; spot = s.spot; answer = s.answer; before = s.before; is_asked = s.is_asked; has_number = s.has_number; drawing = there.drawing; stored = there.stored }

-- ---- what is sent as clean

sent : (plan : FarmPlan) (tells : Type 0) (told : Bool) (g : List Entry) (spot : Spot) (v : ℕ) (bytes : List ℕ) → IsPlan plan → Legal (plan_of plan) told (Fetch spot (Fetched.Clean v bytes) ∷ g) →
    (tells → Legal (plan_of plan) true (Fetch spot (Fetched.Clean v bytes) ∷ g)) → IsClean plan tells g spot v bytes
unfolding Fits plan_of
sent plan tells told g spot v bytes valid legal legal_told =
    let s = sent_clean (plan_of plan) told g spot v bytes legal.0 in
    let d = shown_drawn (plan_of plan) told g (key_of spot) s.before legal.1 s.is_shown in
    let c = clean_since (plan_of plan) told g (key_of spot) s.before legal.1 s.is_shown s.is_untouched in
    let m = spot_of plan spot valid s.servable in
    record {
      drawing = record { since = d.since; worker = d.worker; ticket = d.ticket; of_version = version s.before; before = s.before; is_in = d.is_claim };
      stored = d.is_stored;
      untouched = s.is_untouched;
      version_is = (s.version_is, s.version_is);
      plain = λ so.
          let q = sent_clean (plan_of plan) true g spot v bytes (legal_told so).0 in
          let same : q.before ≡ s.before = same_Some q.before s.before (sym q.is_shown ∙ s.is_shown) in
          record {
            map = m.map;
            is_map = m.is_map;
            are = q.bytes_are refl ∙ (ap (λ x. drawn_after (plan_of plan) x spot) same ∙ (ap (λ o. tile_in plan (slice_get plan.maps (map_of spot)) o (spot_tile spot) (data_of plan (data_after s.before))) (sym c.same_style)
                ∙ ap (λ (o : Option MapPlan). tile_in plan o (style_after (plan_of plan) g (map_of spot)) (spot_tile spot) (data_of plan (data_after s.before))) m.is_map));
          };
    }

-- ---- the sentences

was_redrawn : (b c : Bool) → (b ≡ false → c ≡ false) → c ≡ true → b ≡ true
was_redrawn true c not is = refl
was_redrawn false c not is = let never = not refl in cc

-- over a history that is legal at some store, and where `tells` holds at one that tells
module _ (plan : FarmPlan) (tells : Type 0) (told : Bool) (h : List Entry) (valid : IsPlan plan) (legal : Legal (plan_of plan) told h) (legal_told : tells → Legal (plan_of plan) true h) where
  abbrev p : Plan
  p = plan_of plan

  at : (b : Bool) (later : List Entry) (e : Entry) (g : List Entry) → h ≡ later ++ e ∷ g → Legal p b h → Legal p b (e ∷ g)
  at b later e g is so = legal_before p b later (e ∷ g) (subst (Legal p b) is so)

  clean : (later g : List Entry) (spot : Spot) (v : ℕ) (bytes : List ℕ) → h ≡ later ++ Fetch spot (Fetched.Clean v bytes) ∷ g → IsClean plan tells g spot v bytes
  clean later g spot v bytes is = sent plan tells told g spot v bytes valid (at told later _ g is legal) (λ so. at true later _ g is (legal_told so))

  once : (later g : List Entry) (worker ticket v : ℕ) (k : Key) → h ≡ later ++ Claim worker (Job ticket k v) ∷ g → (d : Drawing g k) → is_finished_in d.since d.ticket ≡ true
  once later g worker ticket v k is d =
      drawn_once p told d.since d.before d.worker worker d.ticket ticket d.of_version v k (subst (λ (x : List Entry). Legal p told (Claim worker (Job ticket k v) ∷ x)) d.is_in (at told later _ g is legal))

  module _ (later g : List Entry) (k : Key) (d : Drawing g k) (drawn clean : Bool) (is : h ≡ later ++ Finish d.ticket drawn (Stored clean) ∷ g) (touched : IsTouched plan tells g k d) where
    abbrev stored : Entry
    stored = Finish d.ticket drawn (Stored clean)

    stays : (h' later' : List Entry) → Legal p told h' → h' ≡ later' ++ stored ∷ g → StaysDirtyAt p h' (length g) k clean
    stays h' later' legal' is' =
        subst (λ (x : List Entry). StaysDirtyAt p h' (length x) k clean) (sym d.is_in)
        (left_dirty p told h' later' d.since d.before d.worker d.ticket d.of_version k drawn clean legal' (is' ∙ ap (λ x. later' ++ stored ∷ x) d.is_in)
        (subst (λ (x : List Entry). is_touched_after p x (length d.before) k ≡ true) d.is_in touched))

    until : StaysDirty plan tells later (stored ∷ g) k
    until after between cut shown =
        let whole : h ≡ after ++ (between ++ stored ∷ g) = is ∙ ap (λ x. x ++ stored ∷ g) cut ∙ two_parts after between (stored ∷ g) in
        let legal' : Legal p told (between ++ stored ∷ g) = legal_before p told after (between ++ stored ∷ g) (subst (Legal p told) whole legal) in
        let s : StaysDirtyAt p (between ++ stored ∷ g) (length g) k clean = stays (between ++ stored ∷ g) between legal' refl in
        let r : IsRedrawn (between ++ stored ∷ g) (length g) k = redrawn p told (between ++ stored ∷ g) (length g) k legal' (was_redrawn (is_redrawn_after (between ++ stored ∷ g) (length g) k) (is_clean p (between ++ stored ∷ g) k) s.not_clean shown) in
        let behind = r.behind in
        (among between (stored ∷ g) k r.drawing (omega (arith, behind)), r.stored)

    dirty : (clean ≡ false) × StaysDirty plan tells later (stored ∷ g) k
    dirty = ((stays h later legal is).stored_dirty, until)

  done_at : (later : List Entry) (e : Entry) (g : List Entry) → h ≡ later ++ e ∷ g → DoneAt p g e
  done_at later e g is = at_moment (DoneAt p) later e g (subst (EachMoment (DoneAt p)) is (sound p told h legal).done)

  pub keeps : Promise plan tells h
  keeps = record {
    clean_tiles = clean;
    drawn_once = once;
    left_dirty = dirty;
    done_at_once = λ later g conn command spot is. done_at later _ g is;
    done_by_reply = λ later g front r is done. answered p told g r (at told later _ g is legal).1 (subst (DoneReply g r) done (done_at later _ g is));
  }

pub promise : LawPromise
promise plan h valid legal = keeps plan (Legal (plan_of plan) true h) false h valid legal (λ so. so)
