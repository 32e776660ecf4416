-- What a front's sessions, its outbox, its own entries and its ports have to do with its rounds. A round that is being
-- made is a round whose lists grow, and whose last Collect is not there yet.
use Rattle.std.specs.Prelude.{◌≡◌, ℕ, ◌+◌, ◌-◌, ◌^◌, ◌≤◌, Bool, true, false, ◌||◌, List, [], ◌∷◌, ◌++◌, length, drop, min, Option, None, option_map, IfSome, unwrap_or, nat_lt}
use Rattle.std.specs.List.{list_any}
use Rattle.farm_base.specs.Limits.{most_rest_bytes}
use Rattle.farm_history.specs.Lists.{Each}
use Rattle.farm_history.specs.Entries.{Entry}
use Rattle.reactor_ports.specs.Told.{PortsTold, MayCome, IsOpen}
use Rattle.reactor_ports.specs.Boxes.{HasRest, rest_in}
use Rattle.front_loop.specs.declared.dispositions.Disposition.{Disposition}
use Rattle.front_loop.specs.declared.dispositions.Disposition.TheVariants.{Stays, Leaves}
use Rattle.front_loop.specs.declared.dispositions.Reason.{Reason}
use Rattle.front_loop.specs.declared.dispositions.Reason.TheVariants as reason
use Rattle.front_loop.specs.declared.sessions.Session.{Session}
use Rattle.front_loop.specs.Rules.{EachSoFar, Rules, Move, is_cut, wants_of, answer_bytes, each_whole}
use Rattle.front_loop.specs.Rounds.{FrontRound, own, there, starved_in}
use Rattle.front_loop.specs.Conns.{Standing, ends_at, loses, calls, is_tried, made, after, conn, before, is_open, closes, Unclosed, MayLack, InHearing, AtReply, AtOffer, told_after}
use Rattle.front_loop.specs.RoundRules.{IsStarved, MayFollow, RoundFits}
use Rattle.front_loop.specs.Front.{keeps}
use Rattle.front_loop.specs.inner.Sessions.{conns, keys, Apart, is_up, asks_all}

-- all that rounds are told by
pub record World (T : Type 0) : Type 0 where
  pub told : Option PortsTold
  pub mine : List Entry
  pub sessions : List (Session T)
  pub box : List (ℕ × List ℕ)
  pub starved : ℕ

-- nothing is left to do for the session: it stays, and owes nothing
abbrev pub IsAtRest : {T : Type 0} → Session T → Type 0
IsAtRest s = (s.disposition ≡ Stays) × (s.owes ≡ false)

module _ {A W : Type 0} (R : Rules A W) where
  -- each event came as ports that told this may give it
  abbrev pub EachMayCome : List (FrontRound A) → PortsTold → Type 0
  EachMayCome [] t = Unit {0}
  EachMayCome (r ∷ rs) t = MayCome r.event (told_after R rs t) × EachMayCome rs t

  -- the bytes of a connection that were answered and not taken
  abbrev pub untaken : Standing A → List ℕ
  untaken q = drop q.took (answer_bytes R q.moves)

  -- What follows is of a connection of which this stood as the round began.
  module _ (p : Standing A) (r : FrontRound A) (c : ℕ) where
    -- memory was wanting to it before there was anything to offer
    abbrev pub IsEarly : MayLack R p r c → Type 0
    IsEarly (InHearing h) = Unit {0}
    IsEarly (AtReply later earlier reply behind m u k) = Unit {0}
    IsEarly (AtOffer m d k) = ⊥

    -- it may be left as starved: before the last Collect, memory can have been wanting only while it was heard, or at a reply
    pub record StarvesNow : Type 0 where
      pub starved : IsStarved R p r c
      pub early : r.last ≡ None → IsEarly starved.lacks

    -- And of these moves of the round.
    module _ (ms : List (Move A)) where
      -- there is a reason to offer it its bytes
      abbrev pub has_reason : Bool
      has_reason =
          (calls r.event c || unwrap_or r.last false)
          || (nat_lt (length (answer_bytes R p.moves)) (length (answer_bytes R (ms ++ p.moves)))
          || R.refuses (after r c p).given)

      -- where there is a reason and nothing was offered, nothing was due
      abbrev pub NothingDue : Type 0
      NothingDue =
          has_reason ≡ true → is_tried r.sends c ≡ false
          → drop p.took (answer_bytes R (ms ++ p.moves)) ≡ []

      -- all that its bytes ask was asked, and each move has its entries, but where a reply may lack them
      abbrev pub AllAsked : Type 0
      AllAsked =
          R.wanted (after r c p).given (wants_of R (ms ++ p.moves))
          × EachSoFar (λ ns m. R.whole ns m ≡ true) p.moves
          × EachSoFar
          (λ ns m.
          ((ends_at r.event c || loses r.event c)
          || (list_any is_cut (m ∷ ns) || R.whole (ns ++ p.moves) m)) ≡ true) ms

      -- its session stays where nothing closes it, and leaves with its cause
      abbrev pub DispositionFits : Disposition → Type 0
      DispositionFits Stays = (why : Reason) → closes R p r c ms why ≡ false
      DispositionFits (Leaves reason.Starved) = StarvesNow
      DispositionFits (Leaves why) = closes R p r c ms why ≡ true

  -- what is told by these rounds
  pub record AreTold (start told : Option PortsTold) (mine : List Entry) (starved : ℕ)
      (rs : List (FrontRound A)) : Type 0 where
    pub entries : mine ≡ own R rs
    pub telling : told ≡ option_map (told_after R rs) start
    pub coming : IfSome start (EachMayCome rs)
    pub sound : EachSoFar (RoundFits R) rs
    pub counted : starved ≡ min (starved_in rs) (2 ^ 64 - 1)

  -- the sessions, their rests and all else are those of these rounds
  pub record Stands {T : Type 0} (start : Option PortsTold) (rs : List (FrontRound A)) (w : World T)
      : Type 0 where
    pub are_told : AreTold start w.told w.mine w.starved rs
    pub conns_are : conns w.sessions ≡ there rs
    pub keys_are : keys w.box ≡ there rs
    pub apart : Apart (conns w.sessions)

module _ {A W T : Type 0} (R : Rules A W) (K : List ℕ → List (Move A) → T → Type 0) where
  -- A session while a round is made in which its connection has these moves: of this stood as the round began.
  module _ (p : Standing A) (r : FrontRound A) (c : ℕ) (ms : List (Move A)) (s : Session T) where
    -- its bytes are kept, with this rest
    pub record Keeping (rest : List ℕ) : Type 0 where
      pub rest_is : rest ≡ drop (after r c p).took (answer_bytes R (ms ++ p.moves))
      pub asked_all : R.wanted (after r c p).given (wants_of R (ms ++ p.moves))
      pub whole : each_whole R (ms ++ p.moves) ≡ true
      pub knows : K (after r c p).given (ms ++ p.moves) s.conn_state
      pub unclosed : Unclosed R p r c ms
      pub owed : s.owes ≡ true → (is_tried r.sends c ≡ false) × (has_reason R p r c ms ≡ true)
      pub nothing_due : s.owes ≡ false → NothingDue R p r c ms

    -- what the session, its rest and the ports have to do with that
    pub record Sits (told : Option PortsTold) (box : List (ℕ × List ℕ)) : Type 0 where
      pub rest_there : HasRest box c
      pub opening : is_up s.disposition ≡ true → IsOpen c told
      pub up : is_open r c ≡ is_up s.disposition
      pub low : (after r c p).took ≤ length (answer_bytes R (ms ++ p.moves))
      pub keeping : keeps s.disposition ≡ true → Keeping (rest_in box c)
      pub disposition_fits : DispositionFits R p r c ms s.disposition
      pub asked_all : asks_all s.disposition ≡ true → AllAsked R p r c ms

  -- a session between two rounds, of whose connection this stands
  pub record Waits (q : Standing A) (s : Session T) (told : Option PortsTold)
      (box : List (ℕ × List ℕ)) : Type 0 where
    pub rested : IsAtRest s
    pub rest_there : HasRest box s.conn
    pub opening : IsOpen s.conn told
    pub low : q.took ≤ length (answer_bytes R q.moves)
    pub small : length (answer_bytes R q.moves) ≤ q.took + most_rest_bytes
    pub rest_is : rest_in box s.conn ≡ untaken R q
    pub asked_all : R.wanted q.given (wants_of R q.moves)
    pub whole : each_whole R q.moves ≡ true
    pub knows : K q.given q.moves s.conn_state
    pub read : R.refuses q.given ≡ false

  -- another round may follow these
  pub record CanBegin (start : Option PortsTold) (rs : List (FrontRound A)) (w : World T)
      : Type 0 where
    pub stands : Stands R start rs w
    pub follows : MayFollow R rs
    pub each : Each (λ (s : Session T). Waits (conn rs s.conn) s w.told w.box) w.sessions

  -- a round is being made after these
  pub record Makes (start : Option PortsTold) (rs : List (FrontRound A)) (r : FrontRound A)
      (w : World T) : Type 0 where
    pub stands : Stands R start (r ∷ rs) w
    pub each :
        Each (λ (s : Session T). Sits (before rs r s.conn) r s.conn (made r s.conn) s w.told w.box)
        w.sessions
