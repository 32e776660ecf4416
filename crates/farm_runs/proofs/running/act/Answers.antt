use Rattle.std.proofs.Common.{sym, subst, ◌∙◌}
use Rattle.front_loop.proofs.Leaves.{kinds}
use Rattle.farm_runs.specs.Actors.{each_port, leaving}
use Rattle.farm_shared.specs.Shared.{maps_of}
use Rattle.farm_runs.specs.Promise.{RunsWell}
use Rattle.farm_runs.proofs.Calls.{ran, standing_at}
use Rattle.farm_runs.proofs.Keeping.{runs_well}
use Rattle.farm_runs.proofs.running.act.Goals as goal

pub run_actors-fronts-requires-clause-front_seats : goal.run_actors-fronts-requires-clause-front_seats
run_actors-fronts-requires-clause-front_seats g c =
    λ κs lives.
    standing_at c.args.farm _ _ _ c.args.run_seats.front_seats c.requires.renderd.number c.requires.tiles.number c.requires.control.number c.requires.set.standing

pub close_run-closed-requires-clause-pool : goal.close_run-closed-requires-clause-pool
close_run-closed-requires-clause-pool g c =
    (ran c.args.farm (leaving g.F.Front.rules c.args.actors.now.fronts.renderd.front (maps_of c.args.farm)) (leaving g.G.Front.rules c.args.actors.now.fronts.tiles.front (maps_of c.args.farm)) (leaving g.H.Front.rules c.args.actors.now.fronts.control.front (maps_of c.args.farm))
    c.args.run_seats c.run_actors-fronts.new.run_seats
    (each_port g.P.Ports.state c.args.ports.now)
    (each_port g.P.Ports.state c.run_actors-fronts.new.ports)
    c.run_actors-fronts.result.0 c.run_actors-fronts.result.1 c.requires.set c.run_actors-fronts.ensures.long c.run_actors-fronts.ensures.pool c.run_actors-fronts.ensures.fronts).spent

pub returns : goal.returns
returns g c =
    let maps = maps_of c.args.farm in
    let fronts = c.args.actors.now.fronts in
    let one = leaving g.F.Front.rules fronts.renderd.front maps in
    let two = leaving g.G.Front.rules fronts.tiles.front maps in
    let last = leaving g.H.Front.rules fronts.control.front maps in
    let told = each_port g.P.Ports.state c.args.ports.now in
    let told' = each_port g.P.Ports.state c.run_actors-fronts.new.ports in
    let own = c.run_actors-fronts.new.run_seats.front_seats.own in
    let pool = c.run_actors-fronts.new.run_seats.pool.items in
    let done = c.run_actors-fronts.result.0 in
    let stopped = c.run_actors-fronts.result.1 in
    let left = c.close_run-closed.result.0 in
    let tally = c.close_run-closed.result.1 in
    let worn = c.close_run-closed.result.2 in
    let end = c.close_run-closed.ensures.end in
    subst (λ H. RunsWell g.D.TileStore.state c.args.farm.about.first.value.farm left.0 H one two last told told' done (record { worn = worn; stopped = stopped; tally = tally })) (sym end.history)
    (runs_well g.D.TileStore.state c.args.farm one two last c.args.run_seats.front_seats.own own end.h pool told told' done worn stopped tally left.0 (record {
      limit = c.requires.limit;
      as_many = c.run_actors-fronts.ensures.long ∙ c.requires.workers;
      ranged = c.requires.ranged;
      ran = ran c.args.farm one two last c.args.run_seats c.run_actors-fronts.new.run_seats told told' done stopped c.requires.set c.run_actors-fronts.ensures.long c.run_actors-fronts.ensures.pool c.run_actors-fronts.ensures.fronts;
      worn_is = c.close_run-closed.ensures.worn;
      kinds = kinds (g.F.Front.rules fronts.renderd.front maps) 0 c.requires.renderd;
      kinds' = kinds (g.G.Front.rules fronts.tiles.front maps) 1 c.requires.tiles;
      kinds'' = kinds (g.H.Front.rules fronts.control.front maps) 2 c.requires.control;
      longer = end.longer;
      tallies = end.tallies;
      same = end.same;
      known = end.known;
      closed = end.is_closed;
    }))
