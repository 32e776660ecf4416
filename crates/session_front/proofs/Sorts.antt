-- The entries of the renderd front's moves are a front's.
use Rattle.std.proofs.Common.{◌≡◌, ℕ, true, List, [], ◌∷◌, Option, Some, None}
use Rattle.farm_history.specs.declared.queues.Reply.{Reply}
use Rattle.farm_history.specs.declared.asks.Cmd.{Cmd}
use Rattle.farm_history.specs.Entries.{Entry}
use Rattle.farm_history.specs.Lists.{Each}
use Rattle.front_loop.specs.Kinds.{IsOfFront}
use Rattle.front_loop.specs.Rules.{Move, Gets}
use Rattle.session_front.specs.declared.asked.Asked.{Asked}
use Rattle.session_front.specs.Renderd.{command_of, renderd_rules, request_spot}
use Rattle.session_front.specs.inner.Reads.{asks_by}

pub each_entry : (maps : List ℕ → Option ℕ) (c : ℕ) (a : Asked) → Each (IsOfFront 0) ((renderd_rules 0 maps).entries c a)
each_entry maps c a = go (command_of a.request.cmd)
  where
    go : (o : Option Cmd) → Each (IsOfFront 0) (asks_by (record { front = 0; number = c }) o (request_spot maps a.request) a.answer)
    go (Some command) = (tt, tt)
    go None = tt

-- nothing stands behind the Collect of a reply
pub each_behind : (maps : List ℕ → Option ℕ) (ms : List (Move Asked)) (r : Reply) (behind : List Entry) → (renderd_rules 0 maps).fits ms (Gets r behind) ≡ true → Each (IsOfFront 0) behind
each_behind maps ms r [] h = tt
each_behind maps ms r (e ∷ es) h = cc
