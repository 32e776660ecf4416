-- What a front leaves: its own entries, what its ports tell, and what it hands back.
use Rattle.std.specs.Prelude.{◌≡◌, ◌≢◌, ℕ, ◌-◌, ◌^◌, Bool, true, false, ◌&&◌, ◌⊎◌, cond, List, [], ◌∷◌, ◌++◌, map, min, take, drop, Option, Some, option_map, IfSome}
use Rattle.std.specs.List.{list_all}
use Rattle.reactor_ports.specs.declared.events.PortEvent.TheVariants as event
use Rattle.reactor_ports.specs.declared.ends.FrontEnd.{FrontEnd}
use Rattle.reactor_ports.specs.declared.ends.FrontEnd.TheVariants as ended
use Rattle.reactor_ports.specs.declared.ends.Rest.{Rest}
use Rattle.reactor_ports.specs.Told.{PortsTold, heard}
use Rattle.farm_history.specs.Entries.{Entry, Stop}
use Rattle.farm_history.specs.Lists.{Each}
use Rattle.front_loop.specs.Rules.{EachSoFar, Rules, answer_bytes}
use Rattle.front_loop.specs.Rounds.{FrontRound, there, has, own, starved_in}
use Rattle.front_loop.specs.Conns.{conn, is_open, told_after}
use Rattle.front_loop.specs.RoundRules.{EndsWhole, MayFollow, RoundFits}

module _ {A W : Type 0} (R : Rules A W) where
  -- the rests are those of the connections that are there, in the order in which they were opened: all bytes that
  -- were answered and not taken
  abbrev pub rests_of : List (FrontRound A) → List Rest
  rests_of rs = map (λ c. record {
    front = R.number;
    conn = c;
    bytes = drop (conn rs c).took (answer_bytes R (conn rs c).moves);
  }) (there rs)

  -- Why the front ended. Only a worn turn leaves a round that is cut short.
  abbrev pub EndHasCause : FrontEnd → List (FrontRound A) → List Entry → Bool → Type 0
  EndHasCause ended.Worn rs stop worn = (worn ≡ true) × (stop ≡ [])
  EndHasCause ended.Broken rs stop worn = MayFollow R rs × (stop ≡ Stop ∷ [])
  EndHasCause ended.NoMemory rs stop worn = MayFollow R rs × (stop ≡ Stop ∷ [])
  EndHasCause ended.Finished (r ∷ rs) stop worn =
      EndsWhole R rs r × (r.event ≡ event.Finished) × (r.last ≡ Some false) × (stop ≡ [])
  EndHasCause ended.Stopped (r ∷ rs) stop worn =
      EndsWhole R rs r × (r.last ≡ Some true) × (stop ≡ Stop ∷ [])
  EndHasCause _ _ stop worn = ⊥

  -- What ports that told t before tell of a connection after the rounds. The bytes taken since are a beginning of its
  -- answers. If it was not open before, it is open exactly where it is there and has not failed in the newest round.
  abbrev pub TellsOf : List (FrontRound A) → PortsTold → ℕ → Type 0
  TellsOf rs t c =
      ((told_after R rs t).taken c
      ≡ t.taken c ++ take (conn rs c).took (answer_bytes R (conn rs c).moves))
      × (t.is_open c ≡ false
      → (told_after R rs t).is_open c
      ≡ (has (there rs) c && list_all (λ (r : FrontRound A). is_open r c) (take 1 rs)))

  -- **What a front leaves.** Its own entries are those of its rounds, and then at most the Stop of its end. They fall
  -- into rounds in one way, where no request or reply has a Collect or a Leave among its entries: a round that is not cut
  -- short ends with the Collect that is answered Empty or Stopped and the Leaves behind it. What its ports tell is what the rounds make of what they told,
  -- and then at most that they broke. Each round may be made after those before it. The end has its cause; the ports
  -- break only where no round is under way; and the rests and the count of the starved are those of the rounds.
  pub record FrontRun (start told : Option PortsTold) (mine : List Entry) (end : FrontEnd)
      (rests : List Rest) (starved : ℕ) (worn : Bool) : Type 0 where
    pub rounds : List (FrontRound A)
    pub broke : Bool
    pub stop : List Entry
    pub entries : mine ≡ own R rounds ++ stop
    -- that the ports broke as a whole is the last line of their record
    pub telling : told
        ≡ option_map (λ t. cond broke (heard event.Broken [] t) t)
        (option_map (told_after R rounds) start)
    pub sound : EachSoFar (RoundFits R) rounds
    pub tells : IfSome start (λ t. (c : ℕ) → TellsOf rounds t c)
    pub end_fits : EndHasCause end rounds stop worn
    -- a front whose ports broke ends Broken, but where its Stop was worn
    pub broken : end ≡ ended.Broken → broke ≡ true
    pub breaks : broke ≡ true → MayFollow R rounds × ((end ≡ ended.Broken) ⊎ (end ≡ ended.Worn))
    -- where a turn was worn, what the rests are is free, but for the front's number in them
    pub handed : Each (λ (r : Rest). r.front ≡ R.number) rests
    pub rests_fit : end ≢ ended.Worn → rests ≡ rests_of rounds
    pub counted : starved ≡ min (starved_in rounds) (2 ^ 64 - 1)
