-- Inner words of the outbox: where in it a connection stands.
use Rattle.std.specs.Prelude.{◌≡◌, ◌<◌, ◌+◌, ℕ, List, ◌++◌, length, take, drop, Some, get_or, set}
use Rattle.reactor_ports.specs.Boxes.{rest_at, put_rest, without}

-- the connection's first pair stands at this place: what a read, a write and a removal there are
pub record Here (box : List (ℕ × List ℕ)) (c i : ℕ) : Type 0 where
  pub small : i < length box
  pub rest : (d : ℕ × List ℕ) → rest_at box c ≡ Some (get_or box i d).1
  pub writes : (d : ℕ × List ℕ) (r : List ℕ) → set box i ((get_or box i d).0, r) ≡ put_rest box c r
  pub removes : take i box ++ drop (i + 1) box ≡ without box c
