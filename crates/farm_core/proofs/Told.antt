-- Each event, from what its parts do, to the history with the event.
use Rattle.std.proofs.Common.{◌≡◌, ◌≢◌, ℕ, zero, suc, ◌+◌, ◌<◌, ◌≤◌, Bool, true, false, ◌||◌, ◌==◌, not, cond, List, [], ◌∷◌, length, Option, Some, None, refl, sym, ap, ◌∙◌, subst, arith}
use Rattle.std.specs.Prelude.{Ok, Err, nat_lt, nat_le, option_map, slice_get, slice_set}
use Rattle.std.proofs.lemmas.Bool.Decides.{nat_tests}
use Rattle.std.proofs.lemmas.List.{length-map}
use Rattle.std.proofs.lemmas.Option.{slice_get_within}
use Rattle.farm_base.specs.Outside.{Outside}
use Rattle.farm_base.specs.declared.faults.ApplyFault.{ApplyFault}
use Rattle.tile_store.specs.Stores.{StoreTold, StorePuts}
use Rattle.plain_world.specs.declared.world.Tile.{Tile}
use Rattle.plain_world.specs.World.{index_place}
use Rattle.plain_shapes.specs.Data.{update_result}
use Rattle.farm_history.specs.declared.keys.Key.{Key}
use Rattle.farm_history.specs.declared.keys.Mark.{Mark}
use Rattle.farm_history.specs.declared.saved.Past.{Past}
use Rattle.farm_history.specs.declared.asks.Spot.{Spot}
use Rattle.farm_history.specs.declared.queues.Conn.{Conn}
use Rattle.farm_history.specs.declared.queues.Reply.{Reply}
use Rattle.farm_history.specs.declared.queues.Outcome.{Outcome}
use Rattle.farm_history.specs.declared.answers.ClaimAnswer.{ClaimAnswer}
use Rattle.farm_history.specs.declared.answers.Finished.{Finished}
use Rattle.farm_history.specs.declared.answers.Updated.{Updated}
use Rattle.farm_history.specs.declared.answers.Restyled.{Restyled}
use Rattle.farm_history.specs.declared.answers.Fetched.{Fetched}
use Rattle.farm_history.specs.declared.answers.Collected.{Collected}
use Rattle.farm_history.specs.Entries.{Entry, Claim, Finish, Update, Restyle, Expire, Fetch, Collect, Leave, Stop}
use Rattle.farm_history.specs.Plans.{Waits, is_servable, same_key, key_of, spot_tile, overlaps}
use Rattle.farm_history.specs.Past.{flights}
use Rattle.farm_history.specs.Laws.{flight_key}
use Rattle.farm_history.specs.Rules.{Fits, job_of}
use Rattle.farm_history.specs.Seen.{Taken, taken_of}
use Rattle.farm_plan.specs.Plans.{Restyle as PlanStyle}
use Rattle.farm_plan.specs.Drawings.{plan_of, update_of, key_path}
use Rattle.render_queues.specs.Tables.{next_of, after_end, after_leave, open_of, AreSound}
use Rattle.expiry_lists.specs.Marks.{mark_of, clean_marks, is_of_map}
use Rattle.farm_refinement.specs.Seen.{FarmSeen}
use Rattle.farm_plan.specs.Jobs.{JobSeen, job_key, job_text, IsFlight}
use Rattle.farm_refinement.specs.Reads.{fetched_by}
use Rattle.farm_refinement.specs.Stands.{StandsFor}
use Rattle.farm_refinement.specs.inner.Events.{claim_at, collected_by, stale_tables, stopped_counts, stored_counts, taken_at, untaken}
use Rattle.farm_refinement.proofs.Claiming.{claim_none_step, claim_job_step}
use Rattle.farm_refinement.proofs.Changing.{update_step, update_refused_step, update_unknown_step, restyle_step, restyle_unknown_step, expire_step}
use Rattle.farm_refinement.proofs.Finishing.{finish_stored_step, finish_lost_step, finish_cut_step}
use Rattle.farm_refinement.proofs.Marking.{dirtied_at}
use Rattle.farm_refinement.proofs.Reading.{fetch_unservable_step, fetch_missing_step, fetch_read_step}
use Rattle.farm_refinement.proofs.Replying.{collect_none_step, collect_reply_step, leave_step, stop_step}
use Rattle.farm_refinement.proofs.Stepping.{is_idle, idle_step}
use Rattle.farm_core.specs.inner.Effects.{Advances, Claims, Collects, Fetches, EndsDrawing, Dirties, after_claim, is_crowded, turn}

-- the place that was written holds what was written, and others what they held
get_set : {X : Type 0} (xs : List X) (i j : ℕ) (x : X) → i < length xs → slice_get (slice_set xs i x) j ≡ cond (i == j) (Some x) (slice_get xs j)
get_set [] i j x lt = absurd (omega (arith, lt))
get_set (y ∷ ys) zero zero x lt = refl
get_set (y ∷ ys) zero (suc j) x lt = let other : (0 == suc j) ≡ false = grind (arith, nat_tests) in ap (λ b. cond b (Some x) (slice_get ys j)) (sym other)
get_set (y ∷ ys) (suc i) zero x lt = let other : (suc i == 0) ≡ false = grind (arith, nat_tests) in ap (λ b. cond b (Some x) (Some y)) (sym other)
get_set (y ∷ ys) (suc i) (suc j) x lt = get_set ys i j x (omega (arith, lt)) ∙ ap (λ b. cond b (Some x) (slice_get ys j)) (same i j)
  where
    same : (m n : ℕ) → (m == n) ≡ (suc m == suc n)
    same m n = grind (arith, nat_tests)

-- where a list has nothing, it has ended
pub none_past : {X : Type 0} (xs : List X) (i : ℕ) → slice_get xs i ≡ None → length xs ≤ i
none_past [] i e = omega arith
none_past (x ∷ xs) zero e = let never : Some x ≡ None = e in cc
none_past (x ∷ xs) (suc i) e = omega (arith, none_past xs i e)

below : (n m : ℕ) → nat_lt n m ≡ true → n < m
below n m h = grind (arith, nat_tests)

not_below : (n m : ℕ) → nat_lt n m ≡ false → m ≤ n
not_below n m h = grind (arith, nat_tests)

module _ {D : Type 0} (state : D → Outside StoreTold) where
  -- ---- claims

  pub claim_stopped : (told : Bool) (old : FarmSeen D) (h : List Entry) (worker : ℕ) → old.counts.stopped ≡ true → StandsFor state told old h → StandsFor state told (turn old) (Claim worker ClaimAnswer.Stopped ∷ h)
  claim_stopped told old h worker stopped s =
      claim_none_step state told old h worker ClaimAnswer.Stopped tt (sym (ap (λ b. cond b ClaimAnswer.Stopped (cond (length old.queues.taken == old.queues.workers) ClaimAnswer.Crowded (job_of (next_of old.queues.lines) old.counts.jobs old.counts.version))) stopped)) s

  -- the two ways to count the drawings under way agree
  crowded_is : (told : Bool) (old : FarmSeen D) (h : List Entry) → AreSound old.queues → StandsFor state told old h → (length old.queues.taken == old.queues.workers) ≡ is_crowded old
  crowded_is told old h sound s =
      let a : length old.queues.taken ≡ length (flights h) = ap length s.queues_are.taken_is ∙ length-map (flights h) flight_key in
      let b : length old.taken ≡ length (flights h) = ap length s.taken_are ∙ length-map (flights h) (taken_of (plan_of old.plan) h) in
      let c : old.queues.workers ≡ old.plan.workers = s.queues_are.workers_are in
      let few : length old.queues.taken ≤ old.queues.workers = sound.few_taken in
      same (length old.queues.taken) old.queues.workers old.plan.workers (length old.taken) few c (a ∙ sym b)
    where
      same : (n m w k : ℕ) → n ≤ m → m ≡ w → n ≡ k → (n == m) ≡ (not (nat_lt n m) || nat_le w k)
      same n m w k few e f = grind (arith, nat_tests)

  pub claim_crowded : (told : Bool) (old : FarmSeen D) (h : List Entry) (worker : ℕ) → old.counts.stopped ≡ false → is_crowded old ≡ true → AreSound old.queues → StandsFor state told old h → StandsFor state told (turn old) (Claim worker ClaimAnswer.Crowded ∷ h)
  claim_crowded told old h worker running crowded sound s =
      claim_none_step state told old h worker ClaimAnswer.Crowded tt
      (sym (ap (λ b. cond b ClaimAnswer.Stopped (cond (length old.queues.taken == old.queues.workers) ClaimAnswer.Crowded (job_of (next_of old.queues.lines) old.counts.jobs old.counts.version))) running
      ∙ ap (λ b. cond b ClaimAnswer.Crowded (job_of (next_of old.queues.lines) old.counts.jobs old.counts.version)) (crowded_is told old h sound s ∙ crowded))) s

  free_claim : (told : Bool) (old : FarmSeen D) (h : List Entry) → old.counts.stopped ≡ false → is_crowded old ≡ false → AreSound old.queues → StandsFor state told old h → claim_at old ≡ job_of (next_of old.queues.lines) old.counts.jobs old.counts.version
  free_claim told old h running free sound s =
      ap (λ b. cond b ClaimAnswer.Stopped (cond (length old.queues.taken == old.queues.workers) ClaimAnswer.Crowded (job_of (next_of old.queues.lines) old.counts.jobs old.counts.version))) running
      ∙ ap (λ b. cond b ClaimAnswer.Crowded (job_of (next_of old.queues.lines) old.counts.jobs old.counts.version)) (crowded_is told old h sound s ∙ free)

  pub claim_idle : (told : Bool) (old new : FarmSeen D) (h : List Entry) (worker : ℕ) → old.counts.stopped ≡ false → is_crowded old ≡ false → AreSound old.queues → Claims (turn old) new worker None → StandsFor state told old h → StandsFor state told new (Claim worker ClaimAnswer.Idle ∷ h)
  claim_idle told old new h worker running free sound c s =
      subst (λ (f : FarmSeen D). StandsFor state told f (Claim worker ClaimAnswer.Idle ∷ h)) (sym c.1)
      (claim_none_step state told old h worker ClaimAnswer.Idle tt (sym (free_claim told old h running free sound s ∙ ap (λ o. job_of o old.counts.jobs old.counts.version) c.0)) s)

  -- what waits first, by its key
  record First (old : FarmSeen D) (key : Key) : Type 0 where
    pub waits : Waits
    pub is_next : next_of old.queues.lines ≡ Some waits
    pub key_is : waits.key ≡ key

  first_of : (old : FarmSeen D) (key : Key) → option_map (λ (w : Waits). w.key) (next_of old.queues.lines) ≡ Some key → First old key
  first_of old key is = go (next_of old.queues.lines) refl is
    where
      go : (o : Option Waits) → next_of old.queues.lines ≡ o → option_map (λ (w : Waits). w.key) o ≡ Some key → First old key
      go None e never = let none : Option Key = None in let n : none ≡ Some key = never in cc
      go (Some w) e is = record { waits = w; is_next = e; key_is = cc }

  pub claim_job : (told : Bool) (old new : FarmSeen D) (h : List Entry) (worker : ℕ) (job : JobSeen) → old.counts.stopped ≡ false → is_crowded old ≡ false → AreSound old.queues → Claims (turn old) new worker (Some job) → StandsFor state told old h →
      StandsFor state told new (Claim worker (ClaimAnswer.Job job.ticket (job_key job) job.version) ∷ h)
  claim_job told old new h worker job running free sound c s =
      let f = first_of old (job_key job) c.0 in
      let is = sym (free_claim told old h running free sound s ∙ ap (λ o. job_of o old.counts.jobs old.counts.version) f.is_next) in
      subst (λ (x : FarmSeen D). StandsFor state told x (Claim worker (ClaimAnswer.Job job.ticket (job_key job) job.version) ∷ h)) (sym c.2)
      (subst (λ (t : ℕ). StandsFor state told (after_claim (turn old) (job_key job)) (Claim worker (ClaimAnswer.Job t (job_key job) job.version) ∷ h)) (sym c.1.ticket_is)
      (subst (λ (v : ℕ). StandsFor state told (after_claim (turn old) (job_key job)) (Claim worker (ClaimAnswer.Job old.counts.jobs (job_key job) v) ∷ h)) (sym c.1.version_is)
      (subst (λ (k : Key). StandsFor state told (after_claim (turn old) k) (Claim worker (ClaimAnswer.Job old.counts.jobs k old.counts.version) ∷ h)) f.key_is
      (claim_job_step state told old h worker f.waits f.is_next is s))))

  -- ---- ends

  -- after one more call and without the ticket
  abbrev released : FarmSeen D → ℕ → FarmSeen D
  released old ticket = record (turn old) { taken = untaken ticket old.taken }

  pub finish_kept : (told : Bool) (old new : FarmSeen D) (h : List Entry) (job : JobSeen) (touched : Bool) (bytes : List ℕ) (answer : Finished) → IsFlight old.plan h job → option_map (λ (t : Taken). t.touched) (taken_at old.taken job.ticket) ≡ Some touched → bytes ≡ job_text job →
      EndsDrawing state (released old job.ticket) new (job_key job) job.version touched bytes answer → StandsFor state told old h → StandsFor state told new (Finish job.ticket true answer ∷ h)
  finish_kept told old new h job touched bytes (Finished.Stored clean) flight is drawn k s =
      let cleaned : (x : Taken) → taken_at old.taken job.ticket ≡ Some x → clean ≡ not x.touched =
      λ x found. k.0 ∙ ap not (let e : Some touched ≡ Some x.touched = sym is ∙ ap (λ (o : Option Taken). option_map (λ (t : Taken). t.touched) o) found in cc) in
      subst (λ (f : FarmSeen D). StandsFor state told f (Finish job.ticket true (Finished.Stored clean) ∷ h)) (sym k.3)
      (subst (λ (b : Bool). StandsFor state told (record old { counts = stored_counts old.counts; taken = untaken job.ticket old.taken; marks = new.marks; queues = stale_tables b (after_end old.queues (job_key job) Outcome.Done) (job_key job); store = new.store }) (Finish job.ticket true (Finished.Stored clean) ∷ h)) k.0
      (finish_stored_step state told old h job clean new.marks new.store flight cleaned
      (subst (λ (bs : List ℕ). StorePuts (state old.store) (state new.store) (key_path old.plan (job_key job)) bs (Ok tt)) drawn k.1)
      (subst (λ (b : Bool). (x : Key) → mark_of new.marks.shown x ≡ (cond (same_key (job_key job) x) (Some (record { version = job.version; clean = b })) (mark_of old.marks.shown x))) (sym k.0) k.2) s))
  finish_kept told old new h job touched bytes Finished.PutFailed flight is drawn k s =
      subst (λ (f : FarmSeen D). StandsFor state told f (Finish job.ticket true Finished.PutFailed ∷ h)) (sym k.2)
      (finish_lost_step state told old h job bytes new.marks new.store flight k.0 k.1 s)
  finish_kept told old new h job touched bytes Finished.NoMemory flight is drawn k s =
      subst (λ (f : FarmSeen D). StandsFor state told f (Finish job.ticket true Finished.NoMemory ∷ h)) (sym k.2)
      (finish_cut_step state told old h job true new.marks new.store flight k.0 (λ x. ap (λ ms. mark_of ms x) k.1) s)

  pub finish_cut : (told : Bool) (old new : FarmSeen D) (h : List Entry) (job : JobSeen) → IsFlight old.plan h job → new ≡ record (released old job.ticket) { queues = after_end old.queues (job_key job) Outcome.Cut } → StandsFor state told old h →
      StandsFor state told new (Finish job.ticket false Finished.NoMemory ∷ h)
  finish_cut told old new h job flight is s =
      subst (λ (f : FarmSeen D). StandsFor state told f (Finish job.ticket false Finished.NoMemory ∷ h)) (sym is)
      (finish_cut_step state told old h job false old.marks old.store flight refl (λ x. refl) s)

  -- ---- updates

  pub update_told : (told : Bool) (old new : FarmSeen D) (h : List Entry) (n v : ℕ) → nat_lt n (length old.plan.updates) ≡ true → Advances (turn old) new n (Past.Update n) → v ≡ new.counts.version → StandsFor state told old h → StandsFor state told new (Update n (Updated.Version v) ∷ h)
  update_told told old new h n v lt a is s =
      let later : new.counts.version ≡ old.counts.version + 1 = ap (λ (f : FarmSeen D). f.counts.version) a.1 in
      subst (λ (x : ℕ). StandsFor state told new (Update n (Updated.Version x) ∷ h)) (sym (is ∙ later))
      (subst (λ (f : FarmSeen D). StandsFor state told f (Update n (Updated.Version (old.counts.version + 1)) ∷ h)) (sym a.1) (update_step state told old h n new.data_now (below n (length old.plan.updates) lt) a.0 s))

  pub update_refused : (told : Bool) (old new : FarmSeen D) (h : List Entry) (n : ℕ) (fault : ApplyFault) → nat_lt n (length old.plan.updates) ≡ true → (fault ≢ ApplyFault.NoMemory → update_result (update_of old.plan n) old.data_now ≡ Err fault) → new ≡ turn old → StandsFor state told old h →
      StandsFor state told new (Update n (Updated.Refused fault) ∷ h)
  update_refused told old new h n fault lt first same s = subst (λ (f : FarmSeen D). StandsFor state told f (Update n (Updated.Refused fault) ∷ h)) (sym same) (update_refused_step state told old h n fault (below n (length old.plan.updates) lt) first s)

  pub update_unknown : (told : Bool) (old new : FarmSeen D) (h : List Entry) (n : ℕ) → nat_lt n (length old.plan.updates) ≡ false → new ≡ turn old → StandsFor state told old h → StandsFor state told new (Update n Updated.NoUpdate ∷ h)
  update_unknown told old new h n past same s = subst (λ (f : FarmSeen D). StandsFor state told f (Update n Updated.NoUpdate ∷ h)) (sym same) (update_unknown_step state told old h n (not_below n (length old.plan.updates) past) s)

  -- ---- touches

  pub expire_told : (told : Bool) (old new : FarmSeen D) (h : List Entry) (tile : Tile) (count : ℕ) → Dirties (overlaps tile) (turn old) new count → StandsFor state told old h → StandsFor state told new (Expire tile count ∷ h)
  expire_told told old new h tile count c s =
      subst (λ (n : ℕ). StandsFor state told new (Expire tile n ∷ h)) (sym c.count_is)
      (subst (λ (f : FarmSeen D). StandsFor state told f (Expire tile (clean_marks (overlaps tile) old.marks.shown) ∷ h)) (sym c.rest)
      (expire_step state told old h tile new.marks c.apart (λ k. ap (λ ms. mark_of ms k) c.shown ∙ dirtied_at (overlaps tile) old.marks.shown k) s))

  restyle_done : (told : Bool) (old new : FarmSeen D) (h : List Entry) (n count : ℕ) (r : PlanStyle) → slice_get old.plan.restyles n ≡ Some r → r.map < length old.styled →
      Dirties (is_of_map r.map) (record (turn old) { styled = slice_set old.styled r.map (Some n) }) new count → StandsFor state told old h → StandsFor state told new (Restyle n (Restyled.Styled count) ∷ h)
  restyle_done told old new h n count r is lt c s =
      subst (λ (m : ℕ). StandsFor state told new (Restyle n (Restyled.Styled m) ∷ h)) (sym c.count_is)
      (subst (λ (f : FarmSeen D). StandsFor state told f (Restyle n (Restyled.Styled (clean_marks (is_of_map r.map) old.marks.shown)) ∷ h)) (sym c.rest)
      (restyle_step state told old h n r (is_of_map r.map) (slice_set old.styled r.map (Some n)) new.marks is c.apart (λ k shown. refl)
      (λ m in_table. get_set old.styled r.map m (Some n) lt)
      (λ k. ap (λ ms. mark_of ms k) c.shown ∙ dirtied_at (is_of_map r.map) old.marks.shown k) s))

  pub restyle_told : (told : Bool) (old new : FarmSeen D) (h : List Entry) (n count m : ℕ) → Some m ≡ option_map (λ (r : PlanStyle). r.map) (slice_get old.plan.restyles n) → m < length old.plan.maps →
      Dirties (is_of_map m) (record (turn old) { styled = slice_set old.styled m (Some n) }) new count → StandsFor state told old h → StandsFor state told new (Restyle n (Restyled.Styled count) ∷ h)
  restyle_told told old new h n count m is lt c s = go (slice_get old.plan.restyles n) refl is
    where
      within : m < length old.styled
      within = slice_get_within old.styled m _ (s.styles_are m lt)

      go : (o : Option PlanStyle) → slice_get old.plan.restyles n ≡ o → Some m ≡ option_map (λ (r : PlanStyle). r.map) o → StandsFor state told new (Restyle n (Restyled.Styled count) ∷ h)
      go None e never = let none : Option ℕ = None in let n : Some m ≡ none = never in cc
      go (Some r) e some =
          let same : m ≡ r.map = cc in
          restyle_done told old new h n count r e (subst (λ k. k < length old.styled) same within)
          (subst (λ k. Dirties (is_of_map k) (record (turn old) { styled = slice_set old.styled k (Some n) }) new count) same c) s

  pub restyle_unknown : (told : Bool) (old new : FarmSeen D) (h : List Entry) (n : ℕ) → None ≡ option_map (λ (r : PlanStyle). r.map) (slice_get old.plan.restyles n) → new ≡ turn old → StandsFor state told old h → StandsFor state told new (Restyle n Restyled.NoRestyle ∷ h)
  restyle_unknown told old new h n none same s =
      subst (λ (f : FarmSeen D). StandsFor state told f (Restyle n Restyled.NoRestyle ∷ h)) (sym same) (restyle_unknown_step state told old h n (none_past old.plan.restyles n (none_mapped (slice_get old.plan.restyles n) none)) s)
    where
      none_mapped : (o : Option PlanStyle) → None ≡ option_map (λ (r : PlanStyle). r.map) o → o ≡ None
      none_mapped None e = refl
      none_mapped (Some r) e = let none : Option ℕ = None in let n : none ≡ Some r.map = e in cc

  -- ---- reads

  -- an event of which nothing but the number of calls comes, with a right answer
  pub idle_told : (told : Bool) (old new : FarmSeen D) (h : List Entry) (e : Entry) → new ≡ turn old → is_idle e ≡ true → Fits (plan_of old.plan) told h e → StandsFor state told old h → StandsFor state told new (e ∷ h)
  idle_told told old new h e same is fits s = subst (λ (f : FarmSeen D). StandsFor state told f (e ∷ h)) (sym same) (idle_step state told old h e is fits s)

  pub fetch_unservable : (told : Bool) (old new : FarmSeen D) (h : List Entry) (spot : Spot) → new ≡ turn old → is_servable (plan_of old.plan) spot ≡ false → StandsFor state told old h → StandsFor state told new (Fetch spot Fetched.Unservable ∷ h)
  fetch_unservable told old new h spot same off s = subst (λ (f : FarmSeen D). StandsFor state told f (Fetch spot Fetched.Unservable ∷ h)) (sym same) (fetch_unservable_step state told old h spot off s)

  pub fetch_missing : (told : Bool) (old new : FarmSeen D) (h : List Entry) (spot : Spot) → new ≡ turn old → is_servable (plan_of old.plan) spot ≡ true → mark_of old.marks.shown (key_of spot) ≡ None → StandsFor state told old h → StandsFor state told new (Fetch spot Fetched.Missing ∷ h)
  fetch_missing told old new h spot same on none s = subst (λ (f : FarmSeen D). StandsFor state told f (Fetch spot Fetched.Missing ∷ h)) (sym same) (fetch_missing_step state told old h spot on none s)

  pub fetch_read : (told : Bool) (old new : FarmSeen D) (h : List Entry) (spot : Spot) (mark : Mark) (answer : Fetched) → is_servable (plan_of old.plan) spot ≡ true → mark_of old.marks.shown (key_of spot) ≡ Some mark →
      Fetches state (turn old) new (key_of spot) (index_place (spot_tile spot)) mark answer → StandsFor state told old h → StandsFor state told new (Fetch spot answer ∷ h)
  fetch_read told old new h spot mark answer on marked f s =
      subst (λ (a : Fetched). StandsFor state told new (Fetch spot a ∷ h)) (sym f.answer_is)
      (subst (λ (x : FarmSeen D). StandsFor state told x (Fetch spot (fetched_by mark f.read) ∷ h)) (sym f.rest) (fetch_read_step state told old h spot mark f.read new.store on marked f.reads s))

  -- ---- replies

  pub collect_none : (told : Bool) (old new : FarmSeen D) (h : List Entry) (front : ℕ) (answer : Collected) → Collects (turn old) new front None → answer ≡ collected_by None new.counts.stopped → StandsFor state told old h → StandsFor state told new (Collect front answer ∷ h)
  collect_none told old new h front answer c is s =
      let same : answer ≡ collected_by None old.counts.stopped = is ∙ ap (λ (f : FarmSeen D). collected_by None f.counts.stopped) c.1 in
      subst (λ (a : Collected). StandsFor state told new (Collect front a ∷ h)) (sym same)
      (subst (λ (f : FarmSeen D). StandsFor state told f (Collect front (collected_by None old.counts.stopped) ∷ h)) (sym c.1) (collect_none_step state told old h front c.0 s))

  pub collect_reply : (told : Bool) (old new : FarmSeen D) (h : List Entry) (front : ℕ) (r : Reply) → Collects (turn old) new front (Some r) → StandsFor state told old h → StandsFor state told new (Collect front (Collected.Reply r) ∷ h)
  collect_reply told old new h front r c s = subst (λ (f : FarmSeen D). StandsFor state told f (Collect front (Collected.Reply r) ∷ h)) (sym c.1) (collect_reply_step state told old h front r c.0 s)

  pub leave_told : (told : Bool) (old new : FarmSeen D) (h : List Entry) (conn : Conn) (count : ℕ) → count ≡ open_of old.queues conn → new ≡ record (turn old) { queues = after_leave old.queues conn } → StandsFor state told old h → StandsFor state told new (Leave conn count ∷ h)
  leave_told told old new h conn count is same s =
      subst (λ (n : ℕ). StandsFor state told new (Leave conn n ∷ h)) (sym is) (subst (λ (f : FarmSeen D). StandsFor state told f (Leave conn (open_of old.queues conn) ∷ h)) (sym same) (leave_step state told old h conn s))

  pub stop_told : (told : Bool) (old new : FarmSeen D) (h : List Entry) → new ≡ record old { counts = stopped_counts old.counts } → StandsFor state told old h → StandsFor state told new (Stop ∷ h)
  stop_told told old new h same s = subst (λ (f : FarmSeen D). StandsFor state told f (Stop ∷ h)) (sym same) (stop_step state told old h s)
