use Rattle.std.proofs.Common.{ℕ, take}
use Rattle.front_loop.specs.declared.dispositions.Disposition.TheVariants.{Stays}
use Rattle.front_loop.specs.Calls.{SameSeat}
use Rattle.control_front.specs.inner.Doing.{Heeds}
use Rattle.control_front.proofs.hearing.hear_piece.Given as goal

abbrev pub invariant-loop-byte : goal.invariant-loop-byte
invariant-loop-byte g l = record {
  seat : SameSeat (g.M.Farm.seats l.context.farm.now) l.fn.seat l.seat;
  heeds : (front c : ℕ) → Heeds front l.context.front.now.lists.now c l.fn.part.items (take l.byte-index l.piece) ((g.M.Farm.seats l.context.farm.now).mine l.fn.seat) ((g.M.Farm.seats l.context.farm.now).mine l.seat)
      l.part.items l.fn.response.items l.response.items Stays;
}
