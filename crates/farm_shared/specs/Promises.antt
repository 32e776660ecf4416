-- What the events of workers and fronts promise of their answers.
use Rattle.std.specs.Prelude.{ℕ, ◌+◌, ◌≡◌, ◌≢◌, Bool, false, ◌==◌, if◌then◌else◌, List, [], ◌∷◌, ◌++◌, reverse, Option}
use Rattle.std.specs.List.{list_any}
use Rattle.farm_history.specs.declared.answers.Collected.{Collected}
use Rattle.farm_history.specs.declared.queues.Reply.{Reply}
use Rattle.farm_history.specs.Entries.{Entry}
use Rattle.farm_history.specs.Laws.{IsOnlyReply}
use Rattle.farm_history.specs.Replays.{Saving, replay_front}
use Rattle.farm_plan.specs.Plans.{FarmPlan}
use Rattle.farm_plan.specs.Jobs.{IsValidJob, Carries}
use Rattle.farm_core.specs.declared.claims.Claimed.{Claimed}
use Rattle.farm_core.specs.Answers.{IfJob}
use Rattle.farm_core.specs.Begins.{origin}
use Rattle.farm_shared.specs.Seats.{plain, ends_ticket}

-- whether a Finish of the ticket stands among them
abbrev pub is_ended : ℕ → List (ℕ × Entry) → Bool
is_ended ticket xs = list_any (λ x. ends_ticket x.1 ticket) xs

-- the entries of one seat, without its number
abbrev pub own_of : ℕ → List (ℕ × Entry) → List Entry
own_of n [] = []
own_of n (x ∷ xs) = if x.0 == n then x.1 ∷ own_of n xs else own_of n xs

-- where the answer is a reply, what holds of it
abbrev pub IfReply : Collected → (Reply → Type 0) → Type 0
IfReply (Collected.Reply r) holds = holds r
IfReply _ holds = Unit {0}

-- of a job that a worker is given: it can be drawn, is that worker's, carries what it should of the history,
-- and its ticket has no Finish
abbrev pub GivesJob : ℕ → Claimed → List (ℕ × Entry) → FarmPlan → Option Saving → Type 0
GivesJob worker answer log plan saved = IfJob answer (λ job.
    IsValidJob job × (job.worker ≡ worker)
    × Carries plan (plain (reverse log) ++ origin plan saved) job
    × (is_ended job.ticket (reverse log) ≡ false))

-- of a reply that a front is given, other than that of a replay: it is the only one to an ask among the
-- entries of its seat
abbrev pub GivesReply : ℕ → Collected → List (ℕ × Entry) → Type 0
GivesReply front answer log =
    front ≢ replay_front → IfReply answer (λ r. IsOnlyReply (own_of (front + 1) (reverse log)) r)
