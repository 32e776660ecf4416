-- Whose the entries of a shared farm's history are. A history of turns is a list of pairs, a seat's number and an entry. A cell has its newest turn last; here, as in a history of entries, the newest comes first.
use Rattle.std.specs.Prelude.{ℕ, ◌+◌, ◌≡◌, Bool, false, ◌&&◌, ◌==◌, if◌then◌else◌, List, [], ◌∷◌, map, Option, Some, None}
use Rattle.std.specs.List.{list_any}
use Rattle.farm_history.specs.declared.answers.ClaimAnswer.TheVariants.{Job}
use Rattle.farm_history.specs.Entries.{Entry, Ask, Claim, Finish, Collect, Leave}

-- the entries, without the seats
abbrev pub plain : List (ℕ × Entry) → List Entry
plain xs = map (λ x. x.1) xs

-- whether the entry is the Claim that gave the ticket
abbrev pub gives_ticket : Entry → ℕ → Bool
gives_ticket (Claim worker (Job t k v)) ticket = t == ticket
gives_ticket _ ticket = false

-- whether the entry is the Finish of the ticket
abbrev pub ends_ticket : Entry → ℕ → Bool
ends_ticket (Finish t drawn answer) ticket = t == ticket
ends_ticket _ ticket = false

-- the seat of the Claim that gave the ticket
unfoldable pub claimer : List (ℕ × Entry) → ℕ → Option ℕ
claimer [] ticket = None
claimer (x ∷ g) ticket = if gives_ticket x.1 ticket then Some x.0 else claimer g ticket

-- The entry may be of that seat, g being what came before it: a Finish is of the seat of its ticket's Claim, and an Ask, a Collect and a Leave of the seat that is one more than the front that it names
abbrev pub SeatFits : List (ℕ × Entry) → ℕ → Entry → Type 0
SeatFits g n (Finish t drawn answer) = claimer g t ≡ Some n
SeatFits g n (Ask conn command spot answer) = n ≡ conn.front + 1
SeatFits g n (Collect front answer) = n ≡ front + 1
SeatFits g n (Leave conn count) = n ≡ conn.front + 1
SeatFits g n _ = Unit {0}

-- each entry is of a seat that it may be of
abbrev pub Seated : List (ℕ × Entry) → Type 0
Seated [] = Unit {0}
Seated (x ∷ g) = SeatFits g x.0 x.1 × Seated g

-- whether a Finish of the ticket by that seat stands among them
abbrev pub is_ended_by : ℕ → ℕ → List (ℕ × Entry) → Bool
is_ended_by n ticket xs = list_any (λ x. (x.0 == n) && ends_ticket x.1 ticket) xs
