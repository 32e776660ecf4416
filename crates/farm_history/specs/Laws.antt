-- What is promised of histories, and the laws: every legal history keeps it. `store_tells` says
-- that the store tells its content, as in the rules.
use Rattle.std.specs.Prelude.{ℕ, Bool, true, false, ◌&&◌, ◌||◌, ◌==◌, nat_lt, if◌then◌else◌, ◌≡◌, List, [], ◌∷◌, ◌++◌, length, Option, Some, None}
use Rattle.farm_history.specs.declared.keys.Key.{Key}
use Rattle.farm_history.specs.declared.queues.Conn.{Conn}
use Rattle.farm_history.specs.declared.queues.Reply.{Reply}
use Rattle.farm_history.specs.declared.queues.Outcome.{Outcome}
use Rattle.farm_history.specs.declared.asks.Cmd.{Cmd}
use Rattle.farm_history.specs.declared.asks.Spot.{Spot}
use Rattle.farm_history.specs.declared.asks.AskAnswer.{AskAnswer}
use Rattle.farm_history.specs.declared.answers.ClaimAnswer.TheVariants.{Job}
use Rattle.farm_history.specs.declared.answers.Finished.TheVariants.{Stored}
use Rattle.farm_history.specs.declared.answers.Fetched.{Fetched}
use Rattle.farm_history.specs.declared.answers.Updated.{Updated}
use Rattle.farm_history.specs.declared.answers.Collected.{Collected}
use Rattle.farm_history.specs.Entries.{Entry, Ask, Claim, Finish, Update, Fetch, Collect, Leave, EachMoment, EachPast}
use Rattle.farm_history.specs.Plans.{Plan, AreApart, same_key, same_conn, key_of, map_of, spot_tile, is_servable}
use Rattle.farm_history.specs.Past.{Flight, version, drawn_after, flights, flight_in, flies, is_on, is_touched_after, is_clean, waits, number_in, Numbered}
use Rattle.farm_history.specs.Rules.{Legal}

-- Fresh: what is sent as clean is of a drawing that was claimed and then stored, and nothing has
-- touched it since that Claim.

-- whether the drawing of that ticket is stored in those entries
unfoldable pub is_stored_in : List Entry → ℕ → Bool
is_stored_in [] ticket = false
is_stored_in (Finish t drawn (Stored clean) ∷ g) ticket = t == ticket || is_stored_in g ticket
is_stored_in (_ ∷ g) ticket = is_stored_in g ticket

-- A Fetch of the spot answered Clean with a version and bytes, after h: the history h has a Claim
-- on the spot's key whose ticket was stored after it; no entry after that Claim touches the key;
-- the version is the one before the Claim; and where the store tells its content, the bytes are
-- those that the plan draws of the tile in the style and over the data before the Claim
pub record IsDrawnFresh (p : Plan) (store_tells : Bool) (h : List Entry) (spot : Spot) (sent : ℕ)
    (bytes : List ℕ) : Type 0 where
  pub since : List Entry
  pub worker : ℕ
  pub ticket : ℕ
  pub before : List Entry
  pub is_claimed : h ≡ since ++ Claim worker (Job ticket (key_of spot) (version before)) ∷ before
  pub is_stored : is_stored_in since ticket ≡ true
  pub is_untouched : is_touched_after p h (length before) (key_of spot) ≡ false
  pub version_is : sent ≡ version before
  pub bytes_are : store_tells ≡ true → bytes ≡ drawn_after p before spot

-- where the entry sends a tile as clean, the tile is drawn fresh, g being what came before the
-- entry
abbrev pub FreshAt : Plan → Bool → List Entry → Entry → Type 0
FreshAt p store_tells g (Fetch spot (Fetched.Clean v bytes)) =
    IsDrawnFresh p store_tells g spot v bytes
FreshAt p store_tells g _ = Unit {0}

-- each tile sent as clean is drawn fresh
abbrev pub Fresh : Plan → Bool → List Entry → Type 0
Fresh p store_tells h = EachMoment (FreshAt p store_tells) h

-- Single: no metatile is drawn twice at once.

-- the key of a flight
abbrev pub flight_key : Flight → Key
flight_key f = f.key

-- at no time two flights have one key
abbrev pub Single : List Entry → Type 0
Single h = EachPast (λ past. AreApart flight_key (flights past)) h

-- Gap: what is touched while it is being drawn is stored as dirty, and stays dirty until a later
-- drawing of it is stored.

-- whether the flight is of the key and was claimed after that place
abbrev pub is_claimed_after : Option Flight → ℕ → Key → Bool
is_claimed_after None place k = false
is_claimed_after (Some f) place k = same_key f.key k && nat_lt place (length f.before)

-- whether a drawing of the key that was claimed after that place is stored
unfoldable pub is_redrawn_after : List Entry → ℕ → Key → Bool
is_redrawn_after [] place k = false
is_redrawn_after (Finish t drawn (Stored clean) ∷ g) place k =
    is_claimed_after (flight_in (flights g) t) place k || is_redrawn_after g place k
is_redrawn_after (_ ∷ g) place k = is_redrawn_after g place k

-- the Finish at that place was answered Stored(false), and the key is not clean after h unless a
-- drawing claimed after that place is stored
pub record StaysDirty (p : Plan) (h : List Entry) (place : ℕ) (k : Key)
    (clean : Bool) : Type 0 where
  pub stored_dirty : clean ≡ false
  pub not_clean : is_redrawn_after h place k ≡ false → is_clean p h k ≡ false

-- where a Finish in h is answered Stored and an entry between its Claim and it touches the key, the
-- key stays dirty after it
abbrev pub GapAt : Plan → List Entry → Type 0
GapAt p h =
    (since : List Entry) (t : ℕ) (drawn clean : Bool) (g : List Entry) (f : Flight) →
    h ≡ since ++ Finish t drawn (Stored clean) ∷ g
    → flight_in (flights g) t ≡ Some f → is_touched_after p g (length f.before) f.key ≡ true
    → StaysDirty p h (length g) f.key clean

-- at each time what was touched while it was being drawn stays dirty, until a drawing that was
-- claimed later is stored
abbrev pub Gap : Plan → List Entry → Type 0
Gap p h = EachPast (GapAt p) h

-- Done: each Done names a metatile that is clean at the ask, or stored after it.

-- whether a drawing of the key is stored after that place
unfoldable pub is_stored_after : List Entry → ℕ → Key → Bool
is_stored_after [] place k = false
is_stored_after (Finish t drawn (Stored clean) ∷ g) place k =
    (is_on (flight_in (flights g) t) k && nat_lt place (length g)) || is_stored_after g place k
is_stored_after (_ ∷ g) place k = is_stored_after g place k

-- the reply is that of an ask in h, of its connection and with its number, and a drawing of the
-- ask's key is stored after it
pub record IsStoredFor (h : List Entry) (r : Reply) : Type 0 where
  pub since : List Entry
  pub command : Cmd
  pub spot : Spot
  pub answer : AskAnswer
  pub before : List Entry
  pub is_asked : h ≡ since ++ Ask r.conn command spot answer ∷ before
  pub has_number : number_in answer ≡ Some r.ask
  pub is_stored : is_stored_after h (length before) (key_of spot) ≡ true

-- a reply Done, after h, is to an ask after which a drawing of its key is stored; of other replies
-- nothing is said
abbrev pub DoneReply : List Entry → Reply → Outcome → Type 0
DoneReply h r Outcome.Done = IsStoredFor h r
DoneReply h r _ = Unit {0}

-- where the entry is an ask answered Done, its key is clean before it; where it collects a reply,
-- that reply is as it should be
abbrev pub DoneAt : Plan → List Entry → Entry → Type 0
DoneAt p g (Ask conn command spot AskAnswer.Done) = is_clean p g (key_of spot) ≡ true
DoneAt p g (Collect front (Collected.Reply r)) = DoneReply g r r.outcome
DoneAt p g _ = Unit {0}

-- each ask answered Done is of a clean metatile, and each reply Done is of one stored after its ask
abbrev pub EachDone : Plan → List Entry → Type 0
EachDone p h = EachMoment (DoneAt p) h

-- the four promises; only the bytes of what is sent as clean rest on a store that tells its content
pub record Sound (p : Plan) (store_tells : Bool) (h : List Entry) : Type 0 where
  pub fresh : Fresh p store_tells h
  pub single : Single h
  pub gap : Gap p h
  pub done : EachDone p h

-- Each legal history is sound
abbrev pub LawSound : Type 0
LawSound = (p : Plan) (store_tells : Bool) (h : List Entry) → Legal p store_tells h
    → Sound p store_tells h

-- Apart: of waiting, flying and being clean a key does at most one.

-- of the three truths at most one holds
pub record AtMostOne (waits flies clean : Bool) : Type 0 where
  pub not_both : waits ≡ true → flies ≡ false
  pub clean_not_flying : clean ≡ true → flies ≡ false
  pub clean_not_waiting : clean ≡ true → waits ≡ false

-- In each legal history a key never waits and flies at once, and a clean key does neither
abbrev pub LawApart : Type 0
LawApart = (p : Plan) (store_tells : Bool) (h : List Entry) → Legal p store_tells h → (k : Key)
    → AtMostOne (waits p h k) (flies h k) (is_clean p h k)

-- One reply: an ask has at most one reply, and none after a Leave of its connection that stands
-- after the ask.

-- where the option holds that number, the ask; else what was found before
abbrev pub asked_here : Option ℕ → ℕ → Conn → Key → List Entry → Option Numbered → Option Numbered
asked_here None n conn k g otherwise = otherwise
asked_here (Some m) n conn k g otherwise =
    if m == n then Some (record { conn = conn; number = m; key = k; before = g }) else otherwise

-- the ask that was given that number
unfoldable pub ask_numbered : List Entry → ℕ → Option Numbered
ask_numbered [] n = None
ask_numbered (Ask conn command spot answer ∷ g) n =
    asked_here (number_in answer) n conn (key_of spot) g (ask_numbered g n)
ask_numbered (_ ∷ g) n = ask_numbered g n

-- whether a Leave of the connection stands after that place
unfoldable pub is_left_after : List Entry → ℕ → Conn → Bool
is_left_after [] place conn = false
is_left_after (Leave c count ∷ g) place conn =
    (same_conn c conn && nat_lt place (length g)) || is_left_after g place conn
is_left_after (_ ∷ g) place conn = is_left_after g place conn

-- whether a Collect gave a reply with that number
unfoldable pub is_replied : List Entry → ℕ → Bool
is_replied [] n = false
is_replied (Collect front (Collected.Reply r) ∷ g) n = r.ask == n || is_replied g n
is_replied (_ ∷ g) n = is_replied g n

-- the reply is that of an ask before it, of the asker's connection; no earlier reply has its
-- number, and no Leave of the connection stands after the ask
pub record IsOnlyReply (h : List Entry) (r : Reply) : Type 0 where
  pub ask : Numbered
  pub is_asked : ask_numbered h r.ask ≡ Some ask
  pub same_asker : r.conn ≡ ask.conn
  pub is_first : is_replied h r.ask ≡ false
  pub not_left : is_left_after h (length ask.before) ask.conn ≡ false

-- no earlier ask was given that number
abbrev pub IsNewNumber : List Entry → Option ℕ → Type 0
IsNewNumber g None = Unit {0}
IsNewNumber g (Some n) = ask_numbered g n ≡ None

-- where the entry is an ask with a number, the number is new; where it collects a reply, that is
-- the only one to its ask
abbrev pub OneReplyAt : List Entry → Entry → Type 0
OneReplyAt g (Ask conn command spot answer) = IsNewNumber g (number_in answer)
OneReplyAt g (Collect front (Collected.Reply r)) = IsOnlyReply g r
OneReplyAt g _ = Unit {0}

-- In each legal history the numbers of asks differ, and each ask has at most one reply, which goes
-- to its connection, and none after a Leave of its connection that stands after the ask
abbrev pub LawOneReply : Type 0
LawOneReply = (p : Plan) (store_tells : Bool) (h : List Entry) → Legal p store_tells h
    → EachMoment OneReplyAt h

-- Now: where every update is made as a renew, what is sent as clean is drawn over the newest data.

-- whether an update succeeded other than as a renew
unfoldable pub has_plain_update : List Entry → Bool
has_plain_update [] = false
has_plain_update (Update n (Updated.Version v) ∷ g) = true
has_plain_update (_ ∷ g) = has_plain_update g

-- Drawing is local: of a servable spot, an update whose features, old and new, do not reach the
-- metatile changes no byte of the tile. Of a spot that cannot be served nothing is said
abbrev pub IsLocal : Plan → Type 0
IsLocal p = (spot : Spot) (style : Option ℕ) (data_numbers : List ℕ) (n : ℕ) →
    is_servable p spot ≡ true →
    p.reaches data_numbers n (key_of spot) ≡ false →
    p.drawing (map_of spot) style (spot_tile spot) (data_numbers ++ n ∷ [])
    ≡ p.drawing (map_of spot) style (spot_tile spot) data_numbers

-- where the entry sends a tile as clean, its bytes are those that the plan draws in the style and
-- over the data of that moment
abbrev pub NowAt : Plan → List Entry → Entry → Type 0
NowAt p g (Fetch spot (Fetched.Clean v bytes)) = bytes ≡ drawn_after p g spot
NowAt p g _ = Unit {0}

-- Where drawing is local, in each legal history without plain updates, over a store that tells its
-- content, each tile sent as clean is as the plan draws it in the style and over the data of that
-- moment
abbrev pub LawNow : Type 0
LawNow = (p : Plan) (h : List Entry) → IsLocal p → has_plain_update h ≡ false → Legal p true h
    → EachMoment (NowAt p) h
