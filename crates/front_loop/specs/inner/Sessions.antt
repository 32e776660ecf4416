-- Sessions in a list: their connections, and what their fates mean.
use Rattle.std.specs.Prelude.{◌≡◌, ℕ, ◌<◌, Bool, true, false, ◌||◌, List, [], ◌∷◌, length, map, nat_lt, get_or}
use Rattle.front_loop.specs.declared.dispositions.Disposition.{Disposition}
use Rattle.front_loop.specs.declared.dispositions.Disposition.TheVariants.{Stays, Leaves}
use Rattle.front_loop.specs.declared.dispositions.Reason.{Reason}
use Rattle.front_loop.specs.declared.dispositions.Reason.TheVariants as reason
use Rattle.front_loop.specs.declared.sessions.Session.{Session}
use Rattle.front_loop.specs.Rounds.{has}

-- the connections of sessions
abbrev pub conns : {T : Type 0} → List (Session T) → List ℕ
conns ss = map (λ s. s.conn) ss

-- the connections of an outbox
abbrev pub keys : List (ℕ × List ℕ) → List ℕ
keys box = map (λ (p : ℕ × List ℕ). p.0) box

-- no connection stands in the list twice
abbrev pub Apart : List ℕ → Type 0
Apart [] = Unit {0}
Apart (c ∷ cs) = (has cs c ≡ false) × Apart cs

-- this session stands at this place
abbrev pub StandsAt : {T : Type 0} → List (Session T) → ℕ → Session T → Type 0
StandsAt ss i s = (i < length ss) × (get_or ss i s ≡ s)

-- the session at this place has this connection
abbrev pub HasConn : {T : Type 0} → List (Session T) → ℕ → ℕ → Type 0
HasConn {T} ss i c = (s : Session T) × (StandsAt ss i s) × (s.conn ≡ c)

-- its connection is still open in the ports
abbrev pub is_up : Disposition → Bool
is_up (Leaves reason.Lost) = false
is_up (Leaves reason.SendFailed) = false
is_up _ = true

-- all that its bytes ask was asked
abbrev pub asks_all : Disposition → Bool
asks_all (Leaves reason.Full) = false
asks_all (Leaves reason.NoMemory) = false
asks_all (Leaves reason.Starved) = false
asks_all _ = true

-- the session stays
abbrev pub stays : Disposition → Bool
stays Stays = true
stays (Leaves why) = false

-- what stands next in its bytes ends it
abbrev pub is_unread : Disposition → Bool
is_unread (Leaves reason.Unread) = true
is_unread _ = false

-- of an earlier disposition and a later one: the later, if it is an end
abbrev pub worse : Disposition → Disposition → Disposition
worse old Stays = old
worse old (Leaves why) = Leaves why

-- it owes an offer: it did so before, something was said, or its bytes end it
abbrev pub owing : Bool → List ℕ → Disposition → Bool
owing owes response disposition = owes || (nat_lt 0 (length response) || is_unread disposition)

-- the session owes an offer
abbrev pub woken : {T : Type 0} → Session T → Session T
woken s = record s { owes = true }

-- a session of a connection that was just opened
abbrev pub newcomer : {T : Type 0} → ℕ → T → Session T
newcomer c conn_state =
    record { conn = c; conn_state = conn_state; disposition = Stays; owes = false }

-- the session is left
abbrev pub leaves : Disposition → Bool
leaves Stays = false
leaves (Leaves why) = true

-- the session at this place has this connection, and leaves for this reason
abbrev pub IsLeaving : {T : Type 0} → List (Session T) → ℕ → ℕ → Reason → Type 0
IsLeaving {T} ss i c why =
    (s : Session T) × (StandsAt ss i s) × (s.conn ≡ c) × (s.disposition ≡ Leaves why)

-- a session that stays
abbrev pub StaysOn : {T : Type 0} → Session T → Type 0
StaysOn s = s.disposition ≡ Stays
