-- Rounds put together.
use Rattle.std.proofs.Common.{◌≡◌, ℕ, Bool, List, [], ◌∷◌, ◌++◌, inl, inr, ◌⊎◌, refl, sym, ap, ◌∙◌, subst, append_assoc, append-nil}
use Rattle.farm_history.specs.declared.answers.ClaimAnswer.{ClaimAnswer}
use Rattle.farm_history.specs.declared.answers.ClaimAnswer.TheVariants.{Job}
use Rattle.farm_history.specs.declared.answers.Finished.{Finished}
use Rattle.farm_plan.specs.Jobs.{JobSeen, job_key}
use Rattle.farm_core.specs.declared.claims.Claimed.{Claimed}
use Rattle.farm_core.specs.Answers.{claim_answer}
use Rattle.std.specs.List.{flat_map}
use Rattle.std.proofs.lemmas.List.{map-append, flat_map_more}
use Rattle.farm_history.specs.Entries.{Entry, Claim, Finish}
use Rattle.turn_cell.specs.SeatStates.{Made, SeatState, IsSeatOf, SameSeat, worn_out}
use Rattle.farm_shared.specs.Seats.{plain}
use Rattle.farm_shared.specs.Shared.{Adds}
use Rattle.render_workers.specs.declared.worker.WorkEnd.{WorkEnd}
use Rattle.render_workers.specs.Rounds.{Round, Drew, FoundNone, FoundMany, round_entries, LastEntries, Gains, Worked}
use Rattle.render_workers.specs.inner.Nexts.{IsWorking}

module _ {T : Type 0} where
  -- a turn gains its entry
  pub gains_one : (e : Entry) (v w : SeatState T Entry) → Adds e v w → Gains (e ∷ []) v w
  gains_one e v w a = ap plain a.mine ∙ map-append (λ x. x.1) v.mine ((v.number, e) ∷ [])

  pub gains_both : (es fs : List Entry) (u v w : SeatState T Entry) → Gains es u v → Gains fs v w → Gains (es ++ fs) u w
  gains_both es fs u v w first second = second ∙ (ap (λ l. l ++ fs) first ∙ append_assoc (plain u.mine) es fs)

  -- a round more
  pub round_more : (w : ℕ) (rounds : List Round) (r : Round) (u v x : SeatState T Entry) → Gains (flat_map (round_entries w) rounds) u v → Gains (round_entries w r) v x → Gains (flat_map (round_entries w) (rounds ++ r ∷ [])) u x
  round_more w rounds r u v x first second =
      second ∙ (ap (λ l. l ++ round_entries w r) first ∙ flat_map_more (round_entries w) (plain u.mine) rounds r)

  -- and the end
  pub worked : (w : ℕ) (end : WorkEnd) (rounds : List Round) (last : List Entry) (u v x : SeatState T Entry) → Gains (flat_map (round_entries w) rounds) u v → Gains last v x → LastEntries w end last → Worked w end u x
  worked w end rounds last u v x first second ended = record {
    entries = flat_map (round_entries w) rounds ++ last;
    gains = gains_both (flat_map (round_entries w) rounds) last u v x first second;
    work = record { rounds = rounds; last = last; are = refl; ended = ended };
  }

  -- nothing is gained where the cell is worn out
  pub gains_none : (v w : SeatState T Entry) → w ≡ worn_out v → Gains [] v w
  gains_none v w is = ap (λ (h : SeatState T Entry). plain h.mine) is ∙ sym (append-nil (plain v.mine))

  -- What a round adds, by the claim's answer.

  found_none : (w : ℕ) (v u : SeatState T Entry) (a : Claimed) → a ≡ Claimed.Idle → Adds (Claim w (claim_answer a)) v u → (r : Round) × Gains (round_entries w r) v u
  found_none w v u a is t = (FoundNone, gains_one (Claim w ClaimAnswer.Idle) v u (subst (λ b. Adds (Claim w (claim_answer b)) v u) is t))

  found_many : (w : ℕ) (v u : SeatState T Entry) (a : Claimed) → a ≡ Claimed.Crowded → Adds (Claim w (claim_answer a)) v u → (r : Round) × Gains (round_entries w r) v u
  found_many w v u a is t = (FoundMany, gains_one (Claim w ClaimAnswer.Crowded) v u (subst (λ b. Adds (Claim w (claim_answer b)) v u) is t))

  pub found_nothing : (w : ℕ) (v u : SeatState T Entry) (a : Claimed) → (a ≡ Claimed.Idle) ⊎ (a ≡ Claimed.Crowded) → Adds (Claim w (claim_answer a)) v u → (r : Round) × Gains (round_entries w r) v u
  found_nothing w v u a (inl is) t = found_none w v u a is t
  found_nothing w v u a (inr is) t = found_many w v u a is t

  pub found_stopped : (w : ℕ) (v u : SeatState T Entry) (a : Claimed) → a ≡ Claimed.Stopped → Adds (Claim w (claim_answer a)) v u → (last : List Entry) × Gains last v u × LastEntries w WorkEnd.Stopped last
  found_stopped w v u a is t = (Claim w ClaimAnswer.Stopped ∷ [], gains_one (Claim w ClaimAnswer.Stopped) v u (subst (λ b. Adds (Claim w (claim_answer b)) v u) is t), refl)

  pub found_worn : (w : ℕ) (v u : SeatState T Entry) → u ≡ worn_out v → (last : List Entry) × Gains last v u × LastEntries w WorkEnd.Worn last
  found_worn w v u is = ([], gains_none v u is, inl refl)

  pub drew : (w : ℕ) (v u x : SeatState T Entry) (a : Claimed) (job : JobSeen) (d : Bool) (answer : Finished) → a ≡ Claimed.Job job → Adds (Claim w (claim_answer a)) v u → Adds (Finish job.ticket d answer) u x →
      (r : Round) × Gains (round_entries w r) v x
  drew w v u x a job d answer is claim finish = (
    Drew job.ticket (job_key job) job.version d answer,
    gains_both (Claim w (Job job.ticket (job_key job) job.version) ∷ []) (Finish job.ticket d answer ∷ []) v u x
        (gains_one (Claim w (Job job.ticket (job_key job) job.version)) v u (subst (λ b. Adds (Claim w (claim_answer b)) v u) is claim)) (gains_one (Finish job.ticket d answer) u x finish),
  )

  pub drew_worn : (w : ℕ) (v u x : SeatState T Entry) (a : Claimed) (job : JobSeen) → a ≡ Claimed.Job job → Adds (Claim w (claim_answer a)) v u → x ≡ worn_out u →
      (last : List Entry) × Gains last v x × LastEntries w WorkEnd.Worn last
  drew_worn w v u x a job is claim worn = (
    Claim w (Job job.ticket (job_key job) job.version) ∷ [],
    ap (λ (h : SeatState T Entry). plain h.mine) worn ∙ gains_one (Claim w (Job job.ticket (job_key job) job.version)) v u (subst (λ b. Adds (Claim w (claim_answer b)) v u) is claim),
    inr (job.ticket, job_key job, job.version, refl),
  )

  -- A worker's rounds.

  pub begins_work : (made : Made T) (w : ℕ) (v : SeatState T Entry) → IsSeatOf made v → IsWorking made w v v
  begins_work made w v seat = record { seat = seat; same = (refl, refl, refl, refl); rounds = []; gains = sym (append-nil (plain v.mine)) }

  same_both : (u v w : SeatState T Entry) → SameSeat u v → SameSeat v w → SameSeat u w
  same_both u v w first second = (second.0 ∙ first.0, second.1 ∙ first.1, second.2 ∙ first.2, second.3 ∙ first.3)

  pub goes_on : (made : Made T) (w : ℕ) (u v x : SeatState T Entry) → IsWorking made w u v → IsSeatOf made x → SameSeat v x → (r : Round) × Gains (round_entries w r) v x → IsWorking made w u x
  goes_on made w u v x k seat same added = record { seat = seat; same = same_both u v x k.same same; rounds = k.rounds ++ added.0 ∷ []; gains = round_more w k.rounds added.0 u v x k.gains added.1 }

  pub ends : (made : Made T) (w : ℕ) (end : WorkEnd) (u v x : SeatState T Entry) → IsWorking made w u v → (last : List Entry) × Gains last v x × LastEntries w end last → Worked w end u x
  ends made w end u v x k added = worked w end k.rounds added.0 u v x k.gains added.1 added.2
