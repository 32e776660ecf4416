-- A seat over several calls.
use Rattle.std.proofs.Common.{◌∙◌}
use Rattle.front_loop.specs.Calls.{Seats, SameSeat}

pub same_trans : {S P : Type 0} → (F : Seats S P) → (a b c : S) → SameSeat F a b → SameSeat F b c → SameSeat F a c
same_trans F a b c h k = record { seat = k.seat; number = k.number ∙ h.number; place = k.place ∙ h.place }
