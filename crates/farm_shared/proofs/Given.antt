-- From a turn to what the caller is told of its seat.
use Rattle.std.proofs.Common.{◌≡◌, ℕ, ◌+◌, Bool, true, false, ◌&&◌, ◌||◌, ◌==◌, List, [], ◌∷◌, ◌++◌, reverse, refl, sym, ap, ◌∙◌, subst, Result, Ok, Err, IfOk, MatchResult}
use Rattle.std.proofs.lemmas.List.{append_cancel_right}
use Rattle.farm_base.specs.Outside.{Outside}
use Rattle.tile_store.specs.Stores.{StoreTold}
use Rattle.farm_history.specs.declared.answers.ClaimAnswer.TheVariants.{Job}
use Rattle.farm_history.specs.declared.answers.Collected.{Collected}
use Rattle.farm_history.specs.Entries.{Entry, Claim, Collect}
use Rattle.farm_history.specs.Laws.{IsOnlyReply}
use Rattle.farm_plan.specs.Jobs.{JobSeen, IsValidJob, job_key}
use Rattle.farm_core.specs.declared.claims.Claimed.{Claimed}
use Rattle.farm_core.specs.Answers.{IfJob, claim_answer}
use Rattle.turn_cell.specs.Turns.{by}
use Rattle.turn_cell.proofs.Logs.{by-own}
use Rattle.turn_cell.specs.SeatStates.{Made, SeatState, Closes, Took, worn_out}
use Rattle.farm_base.specs.declared.turns.Worn.{Worn}
use Rattle.farm_shared.specs.declared.lasting.LastingPart.{LastingPart}
use Rattle.farm_shared.specs.declared.turned.Turned.{Turned}
use Rattle.farm_shared.specs.Seats.{plain, ends_ticket, is_ended_by}
use Rattle.farm_shared.specs.Afters.{lasting_of, IsAfter, HasJob}
use Rattle.farm_shared.specs.Shared.{lasts, OwnReply, IsClosed, IsLegalSo}
use Rattle.farm_shared.specs.Promises.{is_ended, own_of, IfReply, GivesJob, GivesReply}
use Rattle.farm_shared.proofs.Orders.{reverse_more, own_by}

-- without a Finish of anybody there is none of a seat
none_by : (n t : ℕ) (xs : List (ℕ × Entry)) → is_ended t xs ≡ false → is_ended_by n t xs ≡ false
none_by n t [] none = refl
none_by n t (x ∷ xs) none = go (ends_ticket x.1 t) (x.0 == n) (none_by n t xs) none
  where
    go : (b own : Bool) → (is_ended t xs ≡ false → is_ended_by n t xs ≡ false) → (b || is_ended t xs) ≡ false → ((own && b) || is_ended_by n t xs) ≡ false
    go true own ih e = cc
    go false true ih e = ih e
    go false false ih e = ih e

module _ {D : Type 0} (state : D → Outside StoreTold) where
  -- a job that a turn gave is the seat's to finish
  job_given : (part : LastingPart D) (worker n : ℕ) (job : JobSeen) (log seen : List (ℕ × Entry)) → seen ≡ log ++ (n, Claim worker (Job job.ticket (job_key job) job.version)) ∷ [] →
      GivesJob worker (Claimed.Job job) log part.plan part.saved → IsValidJob job × (job.worker ≡ worker) × HasJob part n seen job
  job_given part worker n job log seen is gives = (
    gives.0,
    gives.1,
    record {
      since = [];
      before = reverse log;
      is_claim = turned;
      carries = gives.2;
      unended = ap (is_ended_by n job.ticket) turned ∙ none_by n job.ticket (claim ∷ reverse log) gives.3;
    },
  )
    where
      claim : ℕ × Entry
      claim = (n, Claim job.worker (Job job.ticket (job_key job) job.version))

      turned : reverse seen ≡ claim ∷ reverse log
      turned = ap reverse is ∙ (reverse_more log _ ∙ ap (λ w. (n, Claim w (Job job.ticket (job_key job) job.version)) ∷ reverse log) (sym gives.1))

  pub claim_given : (made : Made (Turned D)) (worker : ℕ) (answer : Claimed) (v w : SeatState (Turned D) Entry) → w.number ≡ v.number →
      Took (λ t log. IsAfter state t.farm log) (λ t. lasting_of state t.farm) made.about (Claim worker (claim_answer answer)) (λ log part. GivesJob worker answer log part.plan part.saved) v w →
      IfJob answer (λ job. IsValidJob job × (job.worker ≡ worker) × HasJob (lasts state made) w.number w.seen job)
  claim_given made worker (Claimed.Job job) v w same t =
      subst (λ n. IsValidJob job × (job.worker ≡ worker) × HasJob (lasts state made) n w.seen job) (sym same) (job_given (lasts state made) worker v.number job t.log w.seen t.seen t.promised)
  claim_given made worker Claimed.Idle v w same t = tt
  claim_given made worker Claimed.Crowded v w same t = tt
  claim_given made worker Claimed.Stopped v w same t = tt

  pub reply_given : (made : Made (Turned D)) (front : ℕ) (answer : Collected) (v w : SeatState (Turned D) Entry) → v.number ≡ front + 1 → w.number ≡ v.number → by w.number w.seen ≡ w.mine →
      Took (λ t log. IsAfter state t.farm log) (λ t. lasting_of state t.farm) made.about (Collect front answer) (λ log _. GivesReply front answer log) v w → OwnReply front v.mine answer
  reply_given made front answer v w is same known t other = go answer (t.promised other)
    where
      e : ℕ × Entry
      e = (v.number, Collect front answer)

      -- the seat's own entries, before the turn
      mine : by v.number t.log ≡ v.mine
      mine =
          append_cancel_right (by v.number t.log) v.mine (e ∷ [])
          (sym (by-own v.number t.log e refl) ∙ (ap (by v.number) (sym t.seen) ∙ (subst (λ n. by n w.seen ≡ w.mine) same known ∙ t.mine)))

      own : own_of (front + 1) (reverse t.log) ≡ plain (reverse v.mine)
      own = own_by (front + 1) t.log ∙ ap (λ l. plain (reverse l)) (subst (λ n. by n t.log ≡ v.mine) is mine)

      go : (a : Collected) → IfReply a (λ r. IsOnlyReply (own_of (front + 1) (reverse t.log)) r) → IfReply a (λ r. IsOnlyReply (plain (reverse v.mine)) r)
      go (Collected.Reply r) only = subst (λ es. IsOnlyReply es r) own only
      go Collected.Stopped only = tt
      go Collected.Empty only = tt

  -- The same, of a turn that may be worn out.

  pub claims_given : (made : Made (Turned D)) (worker : ℕ) (v w : SeatState (Turned D) Entry) (r : Result Claimed Worn) → w.number ≡ v.number →
      MatchResult r (λ answer. Took (λ t log. IsAfter state t.farm log) (λ t. lasting_of state t.farm) made.about (Claim worker (claim_answer answer)) (λ log part. GivesJob worker answer log part.plan part.saved) v w) (λ _. w ≡ worn_out v) →
      IfOk r (λ answer. IfJob answer (λ job. IsValidJob job × (job.worker ≡ worker) × HasJob (lasts state made) w.number w.seen job))
  claims_given made worker v w (Ok answer) same t = claim_given made worker answer v w same t
  claims_given made worker v w (Err worn) same t = tt

  pub replies_given : (made : Made (Turned D)) (front : ℕ) (v w : SeatState (Turned D) Entry) (r : Result Collected Worn) → v.number ≡ front + 1 → w.number ≡ v.number → by w.number w.seen ≡ w.mine →
      MatchResult r (λ answer. Took (λ t log. IsAfter state t.farm log) (λ t. lasting_of state t.farm) made.about (Collect front answer) (λ log _. GivesReply front answer log) v w) (λ _. w ≡ worn_out v) →
      IfOk r (λ answer. OwnReply front v.mine answer)
  replies_given made front v w (Ok answer) is same known t = reply_given made front answer v w is same known t
  replies_given made front v w (Err worn) is same known t = tt

  -- What was there at the turn, and its entry, are legal.

  pub legal_given : {A : Type 0} (made : Made (Turned D)) (entry : A → Entry) (promise : A → List (ℕ × Entry) → LastingPart D → Type 0) (v w : SeatState (Turned D) Entry) (r : Result A Worn) →
      MatchResult r (λ answer. Took (λ t log. IsAfter state t.farm log) (λ t. lasting_of state t.farm) made.about (entry answer) (promise answer) v w) (λ _. w ≡ worn_out v) →
      IfOk r (λ _. IsLegalSo state (lasts state made) w.seen)
  legal_given made entry promise v w (Ok answer) t =
      subst (λ (part : LastingPart D). IsLegalSo state part w.seen) t.lasts_after
      (subst (IsLegalSo state (lasting_of state t.after.farm)) (sym t.seen) (λ told may. (t.stands_now.each told may).legal))
  legal_given made entry promise v w (Err worn) t = tt

  -- What a closing gives.

  pub closed_given : (made : Made (Turned D)) (v : SeatState (Turned D) Entry) (x y : Turned D) → Closes (λ t log. IsAfter state t.farm log) (λ t. lasting_of state t.farm) made.about v x → y ≡ x →
      IsClosed state made.about.limit made.about.first.value.farm v y.farm
  closed_given made v x y closes is =
      subst (λ (t : Turned D). IsClosed state made.about.limit made.about.first.value.farm v t.farm) (sym is) (record { after = closes.stands_now; kept = closes.lasts; worn = closes.worn })
