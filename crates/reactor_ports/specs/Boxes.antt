-- What an outbox keeps: pairs of a connection and its rest, the bytes that were answered and not
-- yet taken. Each word speaks of the first pair of a connection.
use Rattle.std.specs.Prelude.{◌≡◌, ◌<◌, ◌≤◌, ◌==◌, ℕ, List, [], ◌∷◌, ◌++◌, length, drop, Option, Some, None, Result, Ok, Err, cond}
use Rattle.farm_base.specs.Limits.{most_rest_bytes}
use Rattle.reactor_ports.specs.declared.events.SendFault.{SendFault}
use Rattle.reactor_ports.specs.declared.ends.Rest.{Rest}
use Rattle.reactor_ports.specs.declared.outbox.BoxFault.{BoxFault}
use Rattle.reactor_ports.specs.declared.outbox.BoxFault.TheVariants as fault
use Rattle.reactor_ports.specs.Told.{PortsTold, Sends}

-- the rest of a connection, if it is there
abbrev pub rest_at : List (ℕ × List ℕ) → ℕ → Option (List ℕ)
rest_at [] c = None
rest_at (p ∷ ps) c = cond (p.0 == c) (Some p.1) (rest_at ps c)

-- another rest for a connection
abbrev pub put_rest : List (ℕ × List ℕ) → ℕ → List ℕ → List (ℕ × List ℕ)
put_rest [] c rest = []
put_rest (p ∷ ps) c rest = cond (p.0 == c) ((p.0, rest) ∷ ps) (p ∷ put_rest ps c rest)

-- without a connection
abbrev pub without : List (ℕ × List ℕ) → ℕ → List (ℕ × List ℕ)
without [] c = []
without (p ∷ ps) c = cond (p.0 == c) ps (p ∷ without ps c)

-- the connection is there
abbrev pub HasRest : List (ℕ × List ℕ) → ℕ → Type 0
HasRest box c = (rest : List ℕ) × (rest_at box c ≡ Some rest)

abbrev pub rest_of : Option (List ℕ) → List ℕ
rest_of None = []
rest_of (Some rest) = rest

-- the rest of a connection; none of one that is not there
abbrev pub rest_in : List (ℕ × List ℕ) → ℕ → List ℕ
rest_in box c = rest_of (rest_at box c)

-- An answer of bytes to a connection. Ok has put them behind its rest; Full comes exactly where the
-- rest would pass 1,048,576 bytes, whether there is memory or not; a refusal changes nothing.
abbrev pub Answered : List (ℕ × List ℕ) → ℕ → List ℕ → Result (Unit {0}) BoxFault
    → List (ℕ × List ℕ) → Type 0
Answered box c bytes (Ok done) new = (new ≡ put_rest box c (rest_in box c ++ bytes))
    × (length (rest_in box c ++ bytes) ≤ most_rest_bytes)
Answered box c bytes (Err fault.Full) new =
    (new ≡ box) × (most_rest_bytes < length (rest_in box c ++ bytes))
Answered box c bytes (Err fault.NoMemory) new =
    (new ≡ box) × (length (rest_in box c ++ bytes) ≤ most_rest_bytes)

-- One send of the whole rest. What was taken is gone from its front; a refusal of the send is
-- handed on and the rest stays.
abbrev pub OfferedWhole : List ℕ → List (ℕ × List ℕ) → ℕ → Result (Unit {0}) SendFault
    → List (ℕ × List ℕ) → Option PortsTold → Option PortsTold → Type 0
OfferedWhole rest box c (Ok done) new was is =
    (n : ℕ) × (n ≤ length rest) × (new ≡ put_rest box c (drop n rest)) × Sends c rest (Ok n) was is
OfferedWhole rest box c (Err e) new was is = (new ≡ box) × Sends c rest (Err e) was is

-- An offer of a connection's rest to the ports, which told this before and after: nothing is done
-- where the rest is empty, and else it is offered whole.
abbrev pub Offered : List (ℕ × List ℕ) → ℕ → Result (Unit {0}) SendFault → List (ℕ × List ℕ)
    → Option PortsTold → Option PortsTold → Type 0
Offered box c result new was is =
    (length (rest_in box c) ≡ 0 → (result ≡ Ok tt) × (new ≡ box) × (is ≡ was))
    × (0 < length (rest_in box c) → OfferedWhole (rest_in box c) box c result new was is)

-- a pair as the rest that a front hands back
abbrev pub as_rest : ℕ → ℕ × List ℕ → Rest
as_rest front pair = record { front = front; conn = pair.0; bytes = pair.1 }

-- no connection stands in it twice
abbrev pub StandsOnce : List (ℕ × List ℕ) → Type 0
StandsOnce [] = Unit {0}
StandsOnce (p ∷ ps) = (rest_at ps p.0 ≡ None) × StandsOnce ps

-- Another rest for a connection, a connection less, and one more that was not there leave each
-- connection standing once.
abbrev pub ConnectionsStandOnce : Type 0
ConnectionsStandOnce = (box : List (ℕ × List ℕ)) (c : ℕ) (rest : List ℕ) → StandsOnce box
    → StandsOnce (put_rest box c rest) × StandsOnce (without box c)
    × (rest_at box c ≡ None → StandsOnce (box ++ (c, []) ∷ []))
