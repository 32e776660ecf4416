-- Which round a front may make after those before it.
use Rattle.std.specs.Prelude.{◌≡◌, ◌≢◌, ℕ, ◌<◌, ◌≤◌, true, false, ◌⊎◌, List, [], ◌∷◌, ◌++◌, length, Some, None, IfSome}
use Rattle.farm_base.specs.Limits.{most_sessions}
use Rattle.reactor_ports.specs.declared.events.PortEvent.TheVariants as event
use Rattle.front_loop.specs.declared.dispositions.Reason.{Reason}
use Rattle.front_loop.specs.declared.dispositions.Reason.TheVariants as reason
use Rattle.front_loop.specs.Rules.{EachSoFar, Rules, wants_of}
use Rattle.front_loop.specs.Rounds.{Send, Departure, FrontRound, has, gone, connections_after, there}
use Rattle.front_loop.specs.Conns.{Standing, before, after, made, is_tried, due, must, Offered, closes, MayLack, HasAll, Kept}

module _ {A W : Type 0} (R : Rules A W) where
  -- A send: to a connection that is there, for a reason, once in a round, and of more than 0 bytes, of which no more
  -- are taken than there are.
  pub record SendFits (rs : List (FrontRound A)) (r : FrontRound A) (earlier : List Send) (s : Send)
      : Type 0 where
    pub is_there : has (connections_after (there rs) r.event r.kept) s.conn ≡ true
    pub reason : must R (before rs r s.conn) r s.conn ≡ true
    pub once : is_tried earlier s.conn ≡ false
    pub some : 0 < length (due R (before rs r s.conn) r s.conn)
    pub most : IfSome s.taken (λ n. n ≤ length (due R (before rs r s.conn) r s.conn))

  -- A connection is left as starved where memory may have been wanting to it before anything of the round closed it: nothing
  -- was offered to it, and nothing else closes it but what may stand beside that want, a reply that was Cut, a rest that was
  -- full, or what stands in its bytes.
  pub record IsStarved (p : Standing A) (r : FrontRound A) (c : ℕ) : Type 0 where
    pub lacks : MayLack R p r c
    pub untried : is_tried r.sends c ≡ false
    pub alone : (why : Reason) → closes R p r c (made r c) why ≡ true
        → (why ≡ reason.Cut) ⊎ ((why ≡ reason.Full) ⊎ (why ≡ reason.Unread))

  -- A connection that is left: it is still there, with its cause; if it is for what stood in its bytes alone, it was
  -- offered its bytes once; and all was asked, but where its rest was full or memory was wanting.
  pub record LeaveFits (rs : List (FrontRound A)) (r : FrontRound A) (earlier : List Departure)
      (d : Departure) : Type 0 where
    pub is_there : has (gone earlier (connections_after (there rs) r.event r.kept)) d.conn ≡ true
    pub caused : d.why ≢ reason.Starved
        → closes R (before rs r d.conn) r d.conn (made r d.conn) d.why ≡ true
    pub starved : d.why ≡ reason.Starved → IsStarved (before rs r d.conn) r d.conn
    pub last_try : d.why ≡ reason.Unread → Offered R (before rs r d.conn) r d.conn
    pub asked_all : d.why ≢ reason.Full → d.why ≢ reason.NoMemory → d.why ≢ reason.Starved
        → HasAll R (before rs r d.conn) r d.conn

  -- the round is whole: its last Collect is over, and each connection that is there is in order
  pub record EndsWhole (rs : List (FrontRound A)) (r : FrontRound A) : Type 0 where
    pub through : r.last ≢ None
    pub kept : (c : ℕ) → has (there (r ∷ rs)) c ≡ true → Kept R (before rs r c) r c

  -- a round may follow: the newest is whole, and neither was the farm stopped nor are the ports through
  abbrev pub MayFollow : List (FrontRound A) → Type 0
  MayFollow [] = Unit {0}
  MayFollow (r ∷ rs) = EndsWhole rs r × (r.last ≡ Some false) × (r.event ≢ event.Finished)

  -- **A round, whole or cut short.**
  pub record RoundFits (rs : List (FrontRound A)) (r : FrontRound A) : Type 0 where
    -- only the newest round is cut short
    pub follows : MayFollow rs
    -- want of memory of the ports, and their end as a whole, begin no round
    pub begins : (r.event ≢ event.Broken) × (r.event ≢ event.NoMemory)
    -- an Opened makes a session only where fewer than 1,024 are there and its connection is not
    pub room : r.kept ≡ true
        → (c : ℕ) × (r.event ≡ event.Opened c) × (has (there rs) c ≡ false)
        × (length (there rs) < most_sessions)
    -- What was asked before and by the requests of the round are the first of those that stand in the bytes. Nothing may be
    -- asked where memory was wanting.
    pub asks : (c : ℕ) → r.event ≡ event.Bytes c
        → (r.acts ≡ [])
        ⊎ ((more : List W)
        × R.wanted (after r c (before rs r c)).given
        (wants_of R (made r c ++ (before rs r c).moves) ++ more))
    -- each move has entries that fit
    pub fits : (c : ℕ) → EachSoFar (λ ms m. R.fits ms m ≡ true) (made r c ++ (before rs r c).moves)
    -- sends and Leaves stand behind the last Collect
    pub order : r.last ≡ None → (r.sends ≡ []) × (r.left ≡ [])
    pub sends : EachSoFar (SendFits rs r) r.sends
    pub left : EachSoFar (LeaveFits rs r) r.left
