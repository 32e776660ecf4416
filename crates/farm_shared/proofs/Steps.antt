-- From an event on the farm to a turn of the shared farm.
use Rattle.std.proofs.Common.{◌≡◌, ℕ, ◌^◌, ◌<◌, Bool, false, List, [], ◌∷◌, ◌++◌, length, reverse, Some, refl, sym, ap, ap₂, ◌∙◌, subst, arith, append_assoc, length-append}
use Rattle.std.specs.List.{list_any}
use Rattle.std.proofs.lemmas.List.{reverse-append, length-map, length-reverse}
use Rattle.farm_base.specs.Outside.{Outside}
use Rattle.tile_store.specs.Stores.{StoreTold}
use Rattle.farm_history.specs.declared.answers.ClaimAnswer.TheVariants.{Job}
use Rattle.farm_history.specs.declared.answers.Collected.{Collected}
use Rattle.farm_history.specs.Entries.{Entry, Claim, Collect}
use Rattle.farm_history.specs.Rules.{Fits, Legal}
use Rattle.farm_history.specs.Past.{Flight, flights, flight_in}
use Rattle.farm_history.proofs.Apart.{job_is_next}
use Rattle.farm_plan.specs.Drawings.{plan_of}
use Rattle.farm_refinement.specs.Seen.{FarmSeen}
use Rattle.farm_refinement.specs.Stands.{StandsFor}
use Rattle.farm_plan.specs.Jobs.{JobSeen, IsValidJob, Carries, IsFlight, job_key}
use Rattle.farm_core.specs.declared.claims.Claimed.{Claimed}
use Rattle.farm_core.specs.Answers.{IfJob, Lasts, claim_answer}
use Rattle.turn_cell.specs.Turns.{Follows}
use Rattle.farm_shared.specs.declared.lasting.LastingPart.{LastingPart}
use Rattle.farm_shared.specs.Seats.{plain, claimer, SeatFits, Seated, is_ended_by, ends_ticket}
use Rattle.farm_core.specs.Begins.{origin, BeginsWell}
use Rattle.farm_shared.specs.Afters.{lasting_of, past, MayTell, IsAfter, HasJob}
use Rattle.farm_shared.specs.Promises.{is_ended, GivesJob, GivesReply}
use Rattle.farm_shared.proofs.Orders.{reverse_more, ended_by}
use Rattle.farm_shared.proofs.Flying.{IsAway, claimer_new, no_end, flying}
use Rattle.farm_shared.proofs.Replying.{own_reply}

module _ {D : Type 0} (state : D → Outside StoreTold) where
  -- that the store does not tell may always be said
  untold : (part : LastingPart D) → MayTell state part false
  untold part is = cc

  -- the farm stands for its past, as far as it always may
  pub stands_untold : (f : FarmSeen D) (log : List (ℕ × Entry)) → IsAfter state f log → StandsFor state false f (past (lasting_of state f) log)
  stands_untold f log after = after.each false (untold (lasting_of state f))

  -- there is room for one more event
  pub room : (f : FarmSeen D) (log : List (ℕ × Entry)) → IsAfter state f log → length log < 2 ^ 62 → f.counts.turns < 2 ^ 63
  room f log after few =
      let turns = (stands_untold f log after).counts_are.turns_are in
      let long = length-append (plain (reverse log)) (origin f.plan f.saved) in
      let plain_long = length-map (reverse log) (λ x. x.1) in
      let turned = length-reverse log in
      let short = after.begun.short in
      omega arith

  -- no event changes the lasting part
  pub lasting : (f g : FarmSeen D) → Lasts state f g → lasting_of state g ≡ lasting_of state f
  lasting f g l = rw (l.plan, l.saved, l.first, l.beside) refl

  -- what is put beside the metatiles changes nothing that the farm stands for
  pub after_beside : (f g : FarmSeen D) → g.plan ≡ f.plan → g.saved ≡ f.saved → g.first ≡ f.first → ((told : Bool) (h : List Entry) → StandsFor state told f h → StandsFor state told g h) →
      (log : List (ℕ × Entry)) → IsAfter state f log → IsAfter state g log
  after_beside f g plan saved first stands log after = record {
    each = λ told may.
        subst (λ o. StandsFor state told g (plain (reverse log) ++ o)) (sym (ap₂ origin plan saved))
        (stands told (past (lasting_of state f) log) (after.each told (λ is. rw (← first, ← plan, ← saved) (may is))));
    seated = after.seated;
    begun = subst BeginsWell (sym (ap₂ origin plan saved)) after.begun;
  }

  -- an event of a right seat is a turn
  pub step : (f g : FarmSeen D) (n : ℕ) (e : Entry) (log : List (ℕ × Entry)) → Lasts state f g →
      ((told : Bool) → MayTell state (lasting_of state f) told → StandsFor state told g (e ∷ past (lasting_of state f) log)) → SeatFits (reverse log) n e →
      IsAfter state f log → IsAfter state g (log ++ (n, e) ∷ [])
  step f g n e log l steps fits after = record {
    each = λ told may.
        subst (λ part. StandsFor state told g (past part (log ++ (n, e) ∷ []))) (sym same)
        (subst (λ turns. StandsFor state told g (plain turns ++ origin f.plan f.saved)) (sym (reverse_more log (n, e)))
        (steps told (subst (λ part. MayTell state part told) same may)));
    seated = subst Seated (sym (reverse_more log (n, e))) (fits, after.seated);
    begun = subst BeginsWell (sym (ap₂ origin l.plan l.saved)) after.begun;
  }
    where
      same : lasting_of state g ≡ lasting_of state f
      same = lasting f g l

  -- the same, of an event that makes a step of whatever history
  pub step_any : (f g : FarmSeen D) (n : ℕ) (e : Entry) (log : List (ℕ × Entry)) → Lasts state f g →
      ((told : Bool) (h : List Entry) → StandsFor state told f h → StandsFor state told g (e ∷ h)) → SeatFits (reverse log) n e →
      IsAfter state f log → IsAfter state g (log ++ (n, e) ∷ [])
  step_any f g n e log l steps fits after = step f g n e log l (λ told may. steps told (past (lasting_of state f) log) (after.each told may)) fits after

  -- Claims.

  -- the ticket of a Claim's job has no Finish
  fresh : (f g : FarmSeen D) (log : List (ℕ × Entry)) (job : JobSeen) → IsAfter state f log → f.plan ≡ g.plan →
      StandsFor state false g (Claim job.worker (Job job.ticket (job_key job) job.version) ∷ past (lasting_of state f) log) → is_ended job.ticket (reverse log) ≡ false
  unfolding Fits
  fresh f g log job after same stands =
      let old = stands_untold f log after in
      let fits = stands.legal.0 in
      let next = (job_is_next (plan_of g.plan) (past (lasting_of state f) log) job.ticket (job_key job) job.version fits).ticket_is in
      no_end (reverse log) job.ticket after.seated
      (claimer_new (plan_of f.plan) false (origin f.plan f.saved) (reverse log) job.ticket old.legal (let le = next in omega arith))

  pub claimed : (f g : FarmSeen D) (worker : ℕ) (answer : Claimed) (log : List (ℕ × Entry)) → IsAfter state f log → Lasts state f g →
      ((told : Bool) (h : List Entry) → StandsFor state told f h → StandsFor state told g (Claim worker (claim_answer answer) ∷ h)) →
      ((told : Bool) (h : List Entry) → StandsFor state told f h → IfJob answer (Carries f.plan h)) → IfJob answer (λ job. IsValidJob job × (job.worker ≡ worker)) →
      GivesJob worker answer log f.plan f.saved
  claimed f g worker (Claimed.Job job) log after l steps carries valid = (
    valid.0,
    valid.1,
    carries false (past (lasting_of state f) log) (stands_untold f log after),
    fresh f g log job after (sym l.plan)
        (subst (λ w. StandsFor state false g (Claim w (Job job.ticket (job_key job) job.version) ∷ past (lasting_of state f) log)) (sym valid.1) (steps false (past (lasting_of state f) log) (stands_untold f log after))),
  )
  claimed f g worker Claimed.Idle log after l steps carries valid = tt
  claimed f g worker Claimed.Crowded log after l steps carries valid = tt
  claimed f g worker Claimed.Stopped log after l steps carries valid = tt

  -- Finishes.

  -- where the claim of a job stands in a history that goes on from what the seat has seen
  claim_in : {X : Type 0} (seen rest log since before : List X) (x : X) → log ≡ seen ++ rest → reverse seen ≡ since ++ x ∷ before → reverse log ≡ (reverse rest ++ since) ++ x ∷ before
  claim_in seen rest log since before x goes is =
      ap reverse goes ∙ (reverse-append seen rest ∙ (ap (λ l. reverse rest ++ l) is ∙ sym (append_assoc (reverse rest) since (x ∷ before))))

  -- a job that is the seat's to finish is a drawing under way, and the seat is its claimer
  pub in_flight : (f : FarmSeen D) (n : ℕ) (seen log : List (ℕ × Entry)) (job : JobSeen) → IsAfter state f log → Follows n seen log → HasJob (lasting_of state f) n seen job →
      IsFlight f.plan (past (lasting_of state f) log) job × (claimer (reverse log) job.ticket ≡ Some n)
  in_flight f n seen log job after follows has = (
    record {
      flight = flight;
      is_flight = subst (λ g. flight_in (flights (plain g ++ o)) job.ticket ≡ Some flight) (sym is) away.flies;
      key_is = refl;
      carries = has.carries;
    },
    subst (λ g. claimer g job.ticket ≡ Some n) (sym is) away.claimed,
  )
    where
      o : List Entry
      o = origin f.plan f.saved

      claim : ℕ × Entry
      claim = (n, Claim job.worker (Job job.ticket (job_key job) job.version))

      since : List (ℕ × Entry)
      since = reverse follows.0.0 ++ has.since

      is : reverse log ≡ since ++ claim ∷ has.before
      is = claim_in seen follows.0.0 log has.since has.before claim follows.0.1 has.is_claim

      unended : is_ended_by n job.ticket (reverse log) ≡ false
      unended = ended_by n job.ticket log ∙ (ap (λ l. list_any (λ x. ends_ticket x.1 job.ticket) (reverse l)) follows.1 ∙ (sym (ended_by n job.ticket seen) ∙ has.unended))

      flight : Flight
      flight = record { ticket = job.ticket; key = job_key job; before = plain has.before ++ o }

      away : IsAway o n job.ticket flight (since ++ claim ∷ has.before)
      away =
          flying (plan_of f.plan) false o n job.worker job.ticket job.version (job_key job) since has.before
          (subst (λ g. Legal (plan_of f.plan) false (plain g ++ o)) is (stands_untold f log after).legal) (subst Seated is after.seated)
          (subst (λ g. is_ended_by n job.ticket g ≡ false) is unended)

  -- Replies.

  pub replied : (f g : FarmSeen D) (front : ℕ) (answer : Collected) (log : List (ℕ × Entry)) → IsAfter state f log → f.plan ≡ g.plan →
      ((told : Bool) (h : List Entry) → StandsFor state told f h → StandsFor state told g (Collect front answer ∷ h)) → GivesReply front answer log
  replied f g front (Collected.Reply r) log after same steps other =
      own_reply (plan_of g.plan) false (origin f.plan f.saved) (reverse log) front r after.begun after.seated other (steps false (past (lasting_of state f) log) (stands_untold f log after)).legal
  replied f g front Collected.Stopped log after same steps other = tt
  replied f g front Collected.Empty log after same steps other = tt
