-- The counts, entry by entry.
use Rattle.std.proofs.Common.{◌≡◌, ℕ, ◌+◌, Bool, cond, List, [], ◌∷◌, length, is_some, refl, sym, ap, ◌∙◌, arith, length-append}
use Rattle.farm_history.specs.declared.keys.Key.{Key}
use Rattle.farm_history.specs.declared.queues.Conn.{Conn}
use Rattle.farm_history.specs.declared.queues.Reply.{Reply}
use Rattle.farm_history.specs.declared.asks.Cmd.{Cmd}
use Rattle.farm_history.specs.declared.asks.Spot.{Spot}
use Rattle.farm_history.specs.declared.asks.AskAnswer.{AskAnswer}
use Rattle.farm_history.specs.declared.answers.ClaimAnswer.TheVariants.{Job}
use Rattle.farm_history.specs.declared.answers.Finished.TheVariants.{Stored}
use Rattle.farm_history.specs.declared.answers.Updated.{Updated}
use Rattle.farm_history.specs.declared.answers.Renewed.{Renewed}
use Rattle.farm_history.specs.declared.answers.Collected.{Collected}
use Rattle.farm_history.specs.Entries.{Entry, Ask, Claim, Finish, Update, Renew, Collect, Stop}
use Rattle.farm_history.specs.Plans.{is_dirty_command}
use Rattle.farm_history.specs.Past.{is_stopped, data_after, version, jobs, number_in, numbers, asks_made, is_done_answer, is_done, done_asks, stored_drawings}
use Rattle.farm_refinement.specs.declared.counts.Counts.{Counts}
use Rattle.farm_refinement.specs.Stands.{CountsStand}
use Rattle.farm_refinement.specs.inner.Events.{one_turn_more, asked_counts, claimed_counts, stored_counts, updated_counts, collected_counts, stopped_counts}

-- an entry that none of the counts but that of calls tells of
pub record IsUncounted (e : Entry) (g : List Entry) : Type 0 where
  pub stopped_same : is_stopped (e ∷ g) ≡ is_stopped g
  pub version_same : version (e ∷ g) ≡ version g
  pub numbers_same : numbers (e ∷ g) ≡ numbers g
  pub jobs_same : jobs (e ∷ g) ≡ jobs g
  pub asks_same : asks_made (e ∷ g) ≡ asks_made g
  pub done_same : done_asks (e ∷ g) ≡ done_asks g
  pub stored_same : stored_drawings (e ∷ g) ≡ stored_drawings g

turn : (n : ℕ) (g : List Entry) (e : Entry) → n ≡ length g → n + 1 ≡ length (e ∷ g)
turn n g e is = omega (arith, is)

pub counts_turn : (c : Counts) (g : List Entry) (e : Entry) → IsUncounted e g → CountsStand c g → CountsStand (one_turn_more c) (e ∷ g)
counts_turn c g e u s = record {
  turns_are = turn c.turns g e s.turns_are;
  stopped_is = s.stopped_is ∙ sym u.stopped_same;
  version_is = s.version_is ∙ sym u.version_same;
  numbers_are = s.numbers_are ∙ sym u.numbers_same;
  jobs_are = s.jobs_are ∙ sym u.jobs_same;
  asks_are = s.asks_are ∙ sym u.asks_same;
  done_are = s.done_are ∙ sym u.done_same;
  stored_are = s.stored_are ∙ sym u.stored_same;
}

pub counts_ask : (c : Counts) (g : List Entry) (conn : Conn) (command : Cmd) (spot : Spot) (answer : AskAnswer) → CountsStand c g → CountsStand (asked_counts command answer c) (Ask conn command spot answer ∷ g)
unfolding is_stopped data_after numbers jobs asks_made done_asks stored_drawings
counts_ask c g conn command spot answer s = record {
  turns_are = turn c.turns g (Ask conn command spot answer) s.turns_are;
  stopped_is = s.stopped_is;
  version_is = s.version_is;
  numbers_are = ap (λ n. cond (is_some (number_in answer)) (n + 1) n) s.numbers_are;
  jobs_are = s.jobs_are;
  asks_are = ap (λ n. cond (is_dirty_command command) n (n + 1)) s.asks_are;
  done_are = ap (λ n. cond (is_done_answer answer) (n + 1) n) s.done_are;
  stored_are = s.stored_are;
}

pub counts_claim : (c : Counts) (g : List Entry) (worker t : ℕ) (k : Key) (v : ℕ) → CountsStand c g → CountsStand (claimed_counts c) (Claim worker (Job t k v) ∷ g)
unfolding is_stopped data_after numbers jobs asks_made done_asks stored_drawings
counts_claim c g worker t k v s = record {
  turns_are = turn c.turns g (Claim worker (Job t k v)) s.turns_are;
  stopped_is = s.stopped_is;
  version_is = s.version_is;
  numbers_are = s.numbers_are;
  jobs_are = ap (λ n. n + 1) s.jobs_are;
  asks_are = s.asks_are;
  done_are = s.done_are;
  stored_are = s.stored_are;
}

pub counts_stored : (c : Counts) (g : List Entry) (t : ℕ) (drawn clean : Bool) → CountsStand c g → CountsStand (stored_counts c) (Finish t drawn (Stored clean) ∷ g)
unfolding is_stopped data_after numbers jobs asks_made done_asks stored_drawings
counts_stored c g t drawn clean s = record {
  turns_are = turn c.turns g (Finish t drawn (Stored clean)) s.turns_are;
  stopped_is = s.stopped_is;
  version_is = s.version_is;
  numbers_are = s.numbers_are;
  jobs_are = s.jobs_are;
  asks_are = s.asks_are;
  done_are = s.done_are;
  stored_are = ap (λ n. n + 1) s.stored_are;
}

pub counts_update : (c : Counts) (g : List Entry) (n v : ℕ) → CountsStand c g → CountsStand (updated_counts c) (Update n (Updated.Version v) ∷ g)
unfolding is_stopped data_after numbers jobs asks_made done_asks stored_drawings
counts_update c g n v s = record {
  turns_are = turn c.turns g (Update n (Updated.Version v)) s.turns_are;
  stopped_is = s.stopped_is;
  version_is = ap (λ m. m + 1) s.version_is ∙ sym (length-append (data_after g) (n ∷ []));
  numbers_are = s.numbers_are;
  jobs_are = s.jobs_are;
  asks_are = s.asks_are;
  done_are = s.done_are;
  stored_are = s.stored_are;
}

pub counts_renew : (c : Counts) (g : List Entry) (n v count : ℕ) → CountsStand c g → CountsStand (updated_counts c) (Renew n (Renewed.Version v count) ∷ g)
unfolding is_stopped data_after numbers jobs asks_made done_asks stored_drawings
counts_renew c g n v count s = record {
  turns_are = turn c.turns g (Renew n (Renewed.Version v count)) s.turns_are;
  stopped_is = s.stopped_is;
  version_is = ap (λ m. m + 1) s.version_is ∙ sym (length-append (data_after g) (n ∷ []));
  numbers_are = s.numbers_are;
  jobs_are = s.jobs_are;
  asks_are = s.asks_are;
  done_are = s.done_are;
  stored_are = s.stored_are;
}

pub counts_reply : (c : Counts) (g : List Entry) (front : ℕ) (r : Reply) → CountsStand c g → CountsStand (collected_counts r c) (Collect front (Collected.Reply r) ∷ g)
unfolding is_stopped data_after numbers jobs asks_made done_asks stored_drawings
counts_reply c g front r s = record {
  turns_are = turn c.turns g (Collect front (Collected.Reply r)) s.turns_are;
  stopped_is = s.stopped_is;
  version_is = s.version_is;
  numbers_are = s.numbers_are;
  jobs_are = s.jobs_are;
  asks_are = s.asks_are;
  done_are = ap (λ n. cond (is_done r.outcome) (n + 1) n) s.done_are;
  stored_are = s.stored_are;
}

pub counts_stop : (c : Counts) (g : List Entry) → CountsStand c g → CountsStand (stopped_counts c) (Stop ∷ g)
unfolding is_stopped data_after numbers jobs asks_made done_asks stored_drawings
counts_stop c g s = record {
  turns_are = turn c.turns g Stop s.turns_are;
  stopped_is = refl;
  version_is = s.version_is;
  numbers_are = s.numbers_are;
  jobs_are = s.jobs_are;
  asks_are = s.asks_are;
  done_are = s.done_are;
  stored_are = s.stored_are;
}
