-- The events of a step, on a farm that stands for a history.
use Rattle.std.proofs.Common.{◌≡◌, ◌≢◌, ℕ, ◌+◌, ◌≤◌, ◌||◌, Bool, true, false, List, [], ◌∷◌, ◌++◌, length, map, refl, sym, ap, subst, ◌∙◌, arith}
use Rattle.std.specs.Prelude.{Ok, Err}
use Rattle.farm_base.specs.Outside.{Outside}
use Rattle.farm_base.specs.declared.memory.NoMemory.{NoMemory}
use Rattle.tile_store.specs.Stores.{StoreTold}
use Rattle.farm_history.specs.declared.queues.Reply.{Reply}
use Rattle.farm_history.specs.declared.asks.Spot.{Spot}
use Rattle.farm_history.specs.declared.answers.ClaimAnswer.TheVariants as claimed
use Rattle.farm_history.specs.declared.answers.Finished.{Finished}
use Rattle.farm_history.specs.declared.answers.Finished.TheVariants as finished
use Rattle.farm_history.specs.declared.answers.Fetched.{Fetched}
use Rattle.farm_history.specs.declared.answers.Fetched.TheVariants as fetched
use Rattle.farm_history.specs.declared.answers.Collected.{Collected}
use Rattle.farm_history.specs.Entries.{Entry, Claim, Finish, Expire, Fetch, Collect}
use Rattle.farm_history.specs.Plans.{spot_tile}
use Rattle.farm_history.specs.Rules.{Fits}
use Rattle.farm_history.proofs.Apart.{job_is_next}
use Rattle.farm_plan.specs.Plans.{FarmPlan}
use Rattle.farm_plan.specs.Drawings.{plan_of}
use Rattle.farm_plan.specs.Jobs.{JobSeen, Carries, IsFlight, job_key}
use Rattle.farm_refinement.specs.Seen.{FarmSeen}
use Rattle.farm_refinement.specs.Stands.{StandsFor}
use Rattle.farm_refinement.proofs.Claiming.{job_flies}
use Rattle.farm_core.specs.Answers.{claim_answer}
use Rattle.farm_core.specs.declared.claims.Claimed.{Claimed}
use Rattle.farm_core.specs.declared.claims.Claimed.TheVariants as claims
use Rattle.script_text.specs.ScriptTexts.{has_failed}
use Rattle.script_text.specs.inner.Steps.{is_failed_finish, is_failed_fetch}
use Rattle.work_gen.specs.declared.stepping.Step.{Step}
use Rattle.load_command.specs.declared.steps.StepSeen.{StepSeen}
use Rattle.load_command.specs.Loads.{EndsClaim, GivesNone}
use Rattle.load_command.specs.inner.Progress.{Expires, collect_entry, weight, Grows, Draws, CollectsAll, FetchesOne}
use Rattle.load_command.proofs.Weights.{expire_weighs, claim_weighs, finish_weighs, fetch_weighs, last_weighs, reply_lowers, reply_closes, open_kept}

module _ {D : Type 0} (state : D → Outside StoreTold) (told : Bool) where
  -- the tile of a marked step is expired
  pub expired : (s : Step) (farm : FarmSeen D) (g : List Entry) (count : ℕ) → s.expire ≡ true → StandsFor state told farm (Expire (spot_tile s.spot) count ∷ g)
      → Grows state told farm (weight g + 1) (Expires s g)
  expired s farm g count is stands = record { after = Expire (spot_tile s.spot) count ∷ g; stands = stands; small = expire_weighs (spot_tile s.spot) count g; held = rw is (count, refl) }

  -- nothing was claimed
  pub unclaimed : (s : Step) (farm : FarmSeen D) (g : List Entry) (answer : Claimed) → ((j : JobSeen) → answer ≡ claims.Job j → ⊥) → StandsFor state told farm (Claim 0 (claim_answer answer) ∷ g)
      → Grows state told farm (weight g + 2) (Draws s g (Ok false))
  unclaimed s farm g answer none stands = record {
    after = Claim 0 (claim_answer answer) ∷ g;
    stands = stands;
    small = let more = claim_weighs 0 (claim_answer answer) g in omega (arith, more);
    held = (claim_answer answer, none_ends answer none, refl);
  }
    where
      none_ends : (a : Claimed) → ((j : JobSeen) → a ≡ claims.Job j → ⊥) → EndsClaim (claim_answer a) (Claim 0 (claim_answer answer) ∷ g) (Claim 0 (claim_answer answer) ∷ g)
      none_ends (claims.Job j) none = absurd (none j refl)
      none_ends claims.Idle none = refl
      none_ends claims.Crowded none = refl
      none_ends claims.Stopped none = refl

  -- the entry of a claim of a job
  abbrev pub claim_of : JobSeen → Entry
  claim_of job = Claim 0 (claimed.Job job.ticket (job_key job) job.version)

  -- its drawing is under way
  pub claimed_flies : (plan : FarmPlan) (new : FarmSeen D) (g : List Entry) (job : JobSeen) → StandsFor state told new (claim_of job ∷ g) → new.plan ≡ plan → Carries plan g job
      → IsFlight new.plan (claim_of job ∷ g) job
  unfolding Fits
  claimed_flies plan new g job stands same carries =
      job_flies new.plan told g 0 job stands.legal.1 (job_is_next (plan_of new.plan) g job.ticket (job_key job) job.version stands.legal.0).ticket_is (subst (λ (p : FarmPlan). Carries p g job) (sym same) carries)

  -- it could not be drawn
  pub undrawn : (s : Step) (farm : FarmSeen D) (g : List Entry) (job : JobSeen) (wanting : NoMemory) → StandsFor state told farm (claim_of job ∷ g)
      → Grows state told farm (weight g + 2) (Draws s g (Err wanting))
  undrawn s farm g job wanting stands = record {
    after = claim_of job ∷ g;
    stands = stands;
    small = let more = claim_weighs 0 (claimed.Job job.ticket (job_key job) job.version) g in omega (arith, more);
    held = (claim_of job ∷ [], refl, (refl, tt));
  }

  -- its end found no memory
  pub unended : (s : Step) (farm : FarmSeen D) (g : List Entry) (job : JobSeen) (answer : Finished) (wanting : NoMemory) → StandsFor state told farm (Finish job.ticket true answer ∷ claim_of job ∷ g)
      → Grows state told farm (weight g + 2) (Draws s g (Err wanting))
  unended s farm g job answer wanting stands = record {
    after = Finish job.ticket true answer ∷ claim_of job ∷ g;
    stands = stands;
    small =
        let first = claim_weighs 0 (claimed.Job job.ticket (job_key job) job.version) g in
        let more = finish_weighs job.ticket true answer (claim_of job ∷ g) in
        omega (arith, first, more);
    held = (Finish job.ticket true answer ∷ claim_of job ∷ [], refl, (refl, (refl, tt)));
  }

  finish_noted : (ticket : ℕ) (answer : Finished) (g : List Entry) → has_failed (Finish ticket true answer ∷ g) ≡ (is_failed_finish answer || has_failed g)
  finish_noted ticket finished.PutFailed g = refl
  finish_noted ticket (finished.Stored clean) g = refl
  finish_noted ticket finished.NoMemory g = refl

  -- it was drawn and ended
  pub drawn : (s : Step) (farm : FarmSeen D) (g : List Entry) (job : JobSeen) (answer : Finished) (failed : Bool) → answer ≢ finished.NoMemory → failed ≡ is_failed_finish answer
      → StandsFor state told farm (Finish job.ticket true answer ∷ claim_of job ∷ g) → Grows state told farm (weight g + 2) (Draws s g (Ok failed))
  drawn s farm g job answer failed some is stands = record {
    after = Finish job.ticket true answer ∷ claim_of job ∷ g;
    stands = stands;
    small =
        let first = claim_weighs 0 (claimed.Job job.ticket (job_key job) job.version) g in
        let more = finish_weighs job.ticket true answer (claim_of job ∷ g) in
        omega (arith, first, more);
    held = (
      claimed.Job job.ticket (job_key job) job.version,
      (answer, some, refl),
      finish_noted job.ticket answer (claim_of job ∷ g) ∙ ap (λ (b : Bool). b || has_failed g) (sym is),
    );
  }

  -- a tile was fetched
  pub fetched_one : (spot : Spot) (lost : Bool) (farm : FarmSeen D) (g : List Entry) (seen : StepSeen) → seen.fetched ≢ fetched.NoMemory → seen.failed ≡ (is_failed_fetch seen.fetched || lost)
      → StandsFor state told farm (Fetch spot seen.fetched ∷ g) → Grows state told farm (weight g + 1) (FetchesOne spot lost g (Ok seen))
  fetched_one spot lost farm g seen some failed stands = record { after = Fetch spot seen.fetched ∷ g; stands = stands; small = fetch_weighs spot seen.fetched g; held = (refl, some, failed) }

  pub unfetched : (spot : Spot) (lost : Bool) (farm : FarmSeen D) (g : List Entry) (answer : Fetched) (wanting : NoMemory) → answer ≡ fetched.NoMemory
      → StandsFor state told farm (Fetch spot answer ∷ g) → Grows state told farm (weight g + 1) (FetchesOne spot lost g (Err wanting))
  unfetched spot lost farm g answer wanting is stands = record { after = Fetch spot answer ∷ g; stands = stands; small = fetch_weighs spot answer g; held = ap (λ (a : Fetched). Fetch spot a ∷ g) is }

  -- ---- replies

  -- the replies so far were collected
  pub record Collecting (farm : FarmSeen D) (g : List Entry) : Type 0 where
    pub replies : List Reply
    pub stands : StandsFor state told farm (map collect_entry replies ++ g)
    pub small : weight (map collect_entry replies ++ g) ≤ weight g

  pub collecting_more : (old farm : FarmSeen D) (g : List Entry) (r : Reply) (c : Collecting old g) → StandsFor state told farm (Collect 0 (Collected.Reply r) ∷ (map collect_entry c.replies ++ g)) → Collecting farm g
  collecting_more old farm g r c stands = record {
    replies = r ∷ c.replies;
    stands = stands;
    small = let less = reply_lowers (plan_of farm.plan) told 0 r (map collect_entry c.replies ++ g) stands.legal in let small = c.small in omega (arith, less, small);
  }

  pub collected_all : (old farm : FarmSeen D) (g : List Entry) (last : Collected) (c : Collecting old g) → ((r : Reply) → last ≡ Collected.Reply r → ⊥)
      → StandsFor state told farm (Collect 0 last ∷ (map collect_entry c.replies ++ g)) → Grows state told farm (weight g + 1) (CollectsAll g)
  collected_all old farm g last c none stands = record {
    after = Collect 0 last ∷ (map collect_entry c.replies ++ g);
    stands = stands;
    small = let more = last_weighs 0 last (map collect_entry c.replies ++ g) (is_last last none) in let small = c.small in omega (arith, more, small);
    held = (c.replies, last, is_last last none, refl);
  }
    where
      is_last : (x : Collected) → ((r : Reply) → x ≡ Collected.Reply r → ⊥) → GivesNone x
      is_last (Collected.Reply r) none = absurd (none r refl)
      is_last Collected.Stopped none = tt
      is_last Collected.Empty none = tt

  -- a reply that is collected is one fewer
  pub fewer_kept : (old farm : FarmSeen D) (g : List Entry) (r : Reply) → StandsFor state told old g → StandsFor state told farm (Collect 0 (Collected.Reply r) ∷ g)
      → length farm.queues.asks + length farm.queues.ended + 1 ≤ length old.queues.asks + length old.queues.ended
  fewer_kept old farm g r before after =
      let a = open_kept state told old g before in
      let b = open_kept state told farm (Collect 0 (Collected.Reply r) ∷ g) after in
      let less = reply_closes (plan_of farm.plan) told 0 r g after.legal in
      omega (arith, a, b, less)
