use Rattle.std.proofs.Common.{sym, ap, subst, ◌∙◌}
use Rattle.farm_history.specs.Entries.{Tally}
use Rattle.turn_cell.specs.Turns.{StartsWith}
use Rattle.turn_cell.specs.SeatStates.{SameSeat, worn_out}
use Rattle.farm_shared.specs.Shared.{Adds}
use Rattle.farm_runs.specs.inner.Chain.{first_seat_after, IsTally}
use Rattle.farm_runs.proofs.Calls.{whole}
use Rattle.farm_runs.proofs.ending.close_run.Goals.{in-Ok, in-Err}
use Rattle.farm_runs.proofs.ending.close_run.Goals as goal

pub close-requires-clause-first : goal.close-requires-clause-first
close-requires-clause-first g c =
    whole c.args.farm c.args.own c.tally.new.seat c.args.pool.items c.requires.first c.requires.whole (subst (λ v. SameSeat v c.tally.new.seat) c.gather-worn.ensures.own c.tally.ensures.same)

pub returns-clause-end : goal.returns-clause-end
returns-clause-end g c =
    let own = c.gather-worn.ensures.own in
    record {
      h = c.tally.new.seat;
      longer = subst (λ v. StartsWith v.seen c.args.own.seen) own c.gather-worn.ensures.longer;
      tallies = elim c.match-tally.branch [
        | in-Ok w ↦ subst (λ t. IsTally t (first_seat_after c.args.own c.args.pool.items) c.tally.new.seat) (sym w.tally-is) (subst (λ v. Adds (Tally w.in-Ok.tally) v c.tally.new.seat) own w.in-Ok.ensures.turn)
        | in-Err w ↦ subst (λ t. IsTally t (first_seat_after c.args.own c.args.pool.items) c.tally.new.seat) (sym w.tally-is) (w.in-Err.ensures.turn ∙ ap worn_out own)
      ];
      same = subst (λ v. SameSeat v c.tally.new.seat) own c.tally.ensures.same;
      known = c.tally.ensures.known;
      is_closed = c.close.ensures.farm;
      history = c.close.ensures.history;
    }
