use Rattle.std.proofs.Common.{◌++◌, ◌∷◌, [], ap, ◌∙◌}
use Rattle.farm_history.specs.Entries.{Leave}
use Rattle.front_loop.proofs.Lefts.{left_table}
use Rattle.front_loop.proofs.closing.close_one.Goals as goal

pub returns-clause-goes : goal.returns-clause-goes
returns-clause-goes g c = λ e stopped start h.
    let seats = g.M.Farm.seats c.args.work.now.farm.now in
    let mine = seats.mine c.args.seat.now in
    left_table (g.F.Front.rules c.args.work.now.front.now (g.M.Farm.map_at c.args.work.now.farm.now)) g.F.Front.knows e stopped start (g.P.Ports.state c.shut.new.ports).told _
    c.args.left.0 c.args.left.1 c.in-Ok._asks c.args.left.2 (seats.mine c.turn.new.seat) c.remove.new.self.items c.forget.new.self c.starved_after-table.result h c.requires.leaving
    (c.in-Ok.ensures.takes ∙ ap (λ n. mine ++ Leave (record { front = n; number = c.args.left.1 }) c.in-Ok._asks ∷ []) (c.number.ensures (g.M.Farm.map_at c.args.work.now.farm.now)))
    c.shut.ensures.told c.starved_after-table.ensures c.forget.ensures c.remove.ensures.by_index.2
