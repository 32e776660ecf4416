-- What a seat may still finish after another of its turns.
use Rattle.std.proofs.Common.{◌≡◌, Bool, true, false, ◌&&◌, ◌||◌, ◌==◌, ◌∷◌, ◌++◌, reverse, Option, Result, Ok, Err, MatchResult, sym, ap, subst, ◌∙◌, append_assoc}
use Rattle.std.specs.List.{list_any}
use Rattle.std.proofs.lemmas.List.{reverse-append}
use Rattle.farm_history.specs.Entries.{Entry}
use Rattle.farm_history.specs.Replays.{Saving}
use Rattle.farm_plan.specs.Jobs.{JobSeen}
use Rattle.farm_plan.specs.Plans.{FarmPlan}
use Rattle.turn_cell.specs.SeatStates.{SeatState, SameSeat, worn_out}
use Rattle.farm_shared.specs.Afters.{MayFinish}
use Rattle.farm_shared.specs.Seats.{ends_ticket, is_ended_by}
use Rattle.farm_shared.specs.Shared.{Adds}
use Rattle.farm_shared.proofs.Orders.{reverse_more, ended_by}

module _ {T : Type 0} (plan : FarmPlan) (saved : Option Saving) where
  -- a job is the seat's to finish until the seat finishes it
  has_job_on : (e : Entry) (v w : SeatState T Entry) (job : JobSeen) → Adds e v w → ends_ticket e job.ticket ≡ false →
      MayFinish plan saved v.number v.seen job → MayFinish plan saved v.number w.seen job
  has_job_on e v w job a other h =
      let n = v.number in
      let t = job.ticket in
      let rest = a.follows.0.0 in
      let turned = ap reverse a.seen ∙ reverse_more a.log (n, e) in
      record {
        since = (n, e) ∷ (reverse rest ++ h.since);
        before = h.before;
        is_claim = turned ∙ ap (λ l. (n, e) ∷ l) (ap reverse a.follows.0.1 ∙ (reverse-append v.seen rest ∙ (ap (λ l. reverse rest ++ l) h.is_claim ∙ sym (append_assoc (reverse rest) h.since _))));
        carries = h.carries;
        unended = ap (is_ended_by n t) turned ∙ go (n == n) (ended_by n t a.log ∙ (ap (λ l. list_any (λ x. ends_ticket x.1 t) (reverse l)) a.follows.1 ∙ (sym (ended_by n t v.seen) ∙ h.unended)));
      }
    where
      go : (own : Bool) → is_ended_by v.number job.ticket (reverse a.log) ≡ false → ((own && ends_ticket e job.ticket) || is_ended_by v.number job.ticket (reverse a.log)) ≡ false
      go true unended = rw other unended
      go false unended = unended

  -- a turn that is no Finish leaves the seat its job
  pub keeps_job : {A B : Type 0} (entry : A → Entry) (r : Result A B) (v w : SeatState T Entry) (job : JobSeen) → ((a : A) → ends_ticket (entry a) job.ticket ≡ false) →
      SameSeat v w → MatchResult r (λ a. Adds (entry a) v w) (λ _. w ≡ worn_out v) → MayFinish plan saved v.number v.seen job → MayFinish plan saved w.number w.seen job
  keeps_job entry (Ok a) v w job other same turn h = subst (λ n. MayFinish plan saved n w.seen job) (sym same.0) (has_job_on (entry a) v w job turn (other a) h)
  keeps_job entry (Err e) v w job other same turn h = subst (λ s. MayFinish plan saved s.number s.seen job) (sym turn) h
