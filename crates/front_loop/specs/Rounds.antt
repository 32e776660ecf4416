-- What a front does, round by round: a round is what it does with one event of its ports. The newest round comes
-- first, and so the newest of each list in it.
use Rattle.std.specs.Prelude.{ℕ, ◌+◌, ◌==◌, Bool, true, false, cond, List, [], ◌∷◌, ◌++◌, length, Option, Some, None, nat_lt}
use Rattle.farm_base.specs.Limits.{most_sessions}
use Rattle.reactor_ports.specs.declared.events.PortEvent.{PortEvent}
use Rattle.reactor_ports.specs.declared.events.PortEvent.TheVariants as event
use Rattle.farm_history.specs.declared.queues.Reply.{Reply}
use Rattle.farm_history.specs.declared.answers.Collected.TheVariants as collected
use Rattle.farm_history.specs.Entries.{Entry, Collect, Leave}
use Rattle.farm_history.specs.Lists.{without_first}
use Rattle.front_loop.specs.declared.dispositions.Reason.{Reason}
use Rattle.front_loop.specs.declared.dispositions.Reason.TheVariants as reason
use Rattle.front_loop.specs.Rules.{Rules}

-- a reply that a Collect gave, and the entries that stand directly behind that Collect
pub record Gathered : Type 0 where
  pub reply : Reply
  pub behind : List Entry

-- all bytes of a connection that were answered and not taken were offered in one send: how many of them were
-- taken, none where it failed
pub record Send : Type 0 where
  pub conn : ℕ
  pub taken : Option ℕ

-- a connection was left: how many of its asks were open, and why it was left
pub record Departure : Type 0 where
  pub conn : ℕ
  pub asks : ℕ
  pub why : Reason

pub record FrontRound (A : Type 0) : Type 0 where
  -- its event, with the bytes of the piece; true where an Opened made a session
  pub event : PortEvent
  pub piece : List ℕ
  pub kept : Bool
  -- the requests that were done, of the connection whose bytes came
  pub acts : List A
  -- the replies that Collects gave; then whether the Collect that gave none was answered Stopped. A round that is
  -- cut short before that Collect has none.
  pub replies : List Gathered
  pub last : Option Bool
  -- the sends, and the connections that were left
  pub sends : List Send
  pub left : List Departure

-- what the things of a list make of this in turn; the newest comes first, so the last is the first to be done
abbrev pub in_turn : {X T : Type 0} → (X → T → T) → List X → T → T
in_turn f [] t = t
in_turn f (x ∷ xs) t = f x (in_turn f xs t)

-- ---- connections

-- whether a connection is in the list
abbrev pub has : List ℕ → ℕ → Bool
has [] c = false
has (d ∷ ds) c = cond (d == c) true (has ds c)

-- the connections that are there after the event: an Opened adds one where it made a session
abbrev pub connections_after : List ℕ → PortEvent → Bool → List ℕ
connections_after cs (event.Opened c) true = cs ++ c ∷ []
connections_after cs _ _ = cs

-- those that are there when these were left
abbrev pub gone : List Departure → List ℕ → List ℕ
gone ds cs = in_turn (λ (d : Departure) cs. without_first (λ c. c == d.conn) cs) ds cs

-- the connections that are there after the rounds, in the order in which they were opened
abbrev pub there : {A : Type 0} → List (FrontRound A) → List ℕ
there [] = []
there (r ∷ rs) = gone r.left (connections_after (there rs) r.event r.kept)

-- one more, where a connection was refused although fewer than 1,024 were there
abbrev pub with_refused : ℕ → PortEvent → Bool → ℕ → ℕ
with_refused n (event.Opened c) false there = cond (nat_lt there most_sessions) (n + 1) n
with_refused n _ _ there = n

-- one more, where a connection is left with that as its cause
abbrev pub with_starved : ℕ → Reason → ℕ
with_starved n reason.Starved = n + 1
with_starved n _ = n

-- how many connections were closed for a want of memory that no entry shows: those refused with room for them, and
-- those left with that as their cause
abbrev pub starved_in : {A : Type 0} → List (FrontRound A) → ℕ
starved_in [] = 0
starved_in (r ∷ rs) =
    in_turn (λ (d : Departure) n. with_starved n d.why) r.left
    (with_refused (starved_in rs) r.event r.kept (length (there rs)))

-- ---- entries

module _ {A W : Type 0} (R : Rules A W) where
  -- the entries of a request of the connection whose bytes came
  abbrev pub asked_by : PortEvent → A → List Entry
  asked_by (event.Bytes c) a = R.entries c a
  asked_by _ a = []

  -- the entry of the Collect that gave no reply, behind others
  abbrev pub with_last : Option Bool → List Entry → List Entry
  with_last None es = es
  with_last (Some stopped) es =
      es ++ Collect R.number (cond stopped collected.Stopped collected.Empty) ∷ []

  -- the front's own entries, in order: in each round those of the requests, then the Collects with what stands behind them, then the Leaves
  abbrev pub own : List (FrontRound A) → List Entry
  own [] = []
  own (r ∷ rs) =
      in_turn
      (λ (d : Departure) es. es ++ Leave (record { front = R.number; number = d.conn }) d.asks ∷ [])
      r.left
      (with_last r.last (in_turn
      (λ (g : Gathered) es. es ++ Collect R.number (collected.Reply g.reply) ∷ g.behind)
      r.replies
      (in_turn (λ (a : A) es. es ++ asked_by r.event a) r.acts (own rs))))
