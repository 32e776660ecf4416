use Rattle.std.proofs.Common.{refl, subst}
use Rattle.std.proofs.lemmas.List.{take_all}
use Rattle.front_loop.specs.declared.dispositions.Disposition.TheVariants.{Stays, Leaves}
use Rattle.front_loop.specs.declared.dispositions.Reason.TheVariants as reason
use Rattle.front_loop.proofs.Seating.{same_trans}
use Rattle.control_front.specs.inner.Doing.{Heeds}
use Rattle.control_front.proofs.Deeds.{heeds_none, heeds_on, heeds_stop}
use Rattle.control_front.proofs.hearing.hear_piece.Goals as goal

pub loop-byte-init : goal.loop-byte-init
loop-byte-init g c = record {
  seat = record { seat = c.requires; number = refl; place = refl };
  heeds = λ front conn. heeds_none front c.args.context.now.front.now.lists.now conn c.args.part.now.items _ _;
}

pub returns-in_default-clause-heeds : goal.returns-in_default-clause-heeds
returns-in_default-clause-heeds g c = λ front conn.
    heeds_stop front c.args.context.now.front.now.lists.now conn c.args.part.now.items c.loop-byte.part.items c.take_byte.new.part.items c.args.piece.now c.loop-byte.byte-index _ _ _ _ _ _ _ (Leaves reason.Starved)
    c.loop-byte-test.true (λ e. cc) (c.loop-byte.invariant.heeds front conn) (c.in_default.ensures.heeds front conn)

pub returns-in-Leaves-clause-heeds : goal.returns-in-Leaves-clause-heeds
returns-in-Leaves-clause-heeds g c = λ front conn.
    heeds_stop front c.args.context.now.front.now.lists.now conn c.args.part.now.items c.loop-byte.part.items c.take_byte.new.part.items c.args.piece.now c.loop-byte.byte-index _ _ _ _ _ _ _ (Leaves c.in-Leaves.why)
    c.loop-byte-test.true (λ e. cc) (c.loop-byte.invariant.heeds front conn)
    (subst (Heeds front c.args.context.now.front.now.lists.now conn c.loop-byte.part.items _ _ _ c.take_byte.new.part.items _ _) c.in-Leaves.is (c.in-Ok.ensures.heeds front conn))

pub loop-byte-preserved : goal.loop-byte-preserved
loop-byte-preserved g c = record {
  seat = same_trans (g.M.Farm.seats c.args.context.now.farm.now) c.args.seat.now c.loop-byte.seat c.take_byte.new.seat c.loop-byte.invariant.seat c.take_byte.ensures.seat;
  heeds = λ front conn.
      heeds_on front c.args.context.now.front.now.lists.now conn c.args.part.now.items c.loop-byte.part.items c.take_byte.new.part.items c.args.piece.now c.loop-byte.byte-index _ _ _ _ _ _ _ Stays
      c.loop-byte-test.true (c.loop-byte.invariant.heeds front conn)
      (subst (Heeds front c.args.context.now.front.now.lists.now conn c.loop-byte.part.items _ _ _ c.take_byte.new.part.items _ _) c.in-Stays.is (c.in-Ok.ensures.heeds front conn));
}

pub returns-clause-heeds : goal.returns-clause-heeds
returns-clause-heeds g c = λ front conn.
    subst (λ xs. Heeds front c.args.context.now.front.now.lists.now conn c.args.part.now.items xs ((g.M.Farm.seats c.args.context.now.farm.now).mine c.args.seat.now) ((g.M.Farm.seats c.args.context.now.farm.now).mine c.loop-byte.seat) c.loop-byte.part.items
    c.args.response.now.items c.loop-byte.response.items Stays) (take_all c.loop-byte.byte-index c.args.piece.now c.loop-byte-test.false) (c.loop-byte.invariant.heeds front conn)
