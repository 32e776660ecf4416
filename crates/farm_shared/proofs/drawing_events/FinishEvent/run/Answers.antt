use Rattle.std.proofs.Common.{false}
use Rattle.farm_shared.proofs.Steps.{in_flight, lasting, room, stands_untold, step}
use Rattle.farm_shared.proofs.drawing_events.FinishEvent.run.Goals as goal

pub finish-requires-clause-turns : goal.finish-requires-clause-turns
finish-requires-clause-turns g c = room g.D.TileStore.state _ c.requires.2 c.requires.3.0 c.requires.3.2

pub finish-requires-clause-flight : goal.finish-requires-clause-flight
finish-requires-clause-flight g c =
    let due = c.requires.3 in
    (false, _, stands_untold g.D.TileStore.state _ c.requires.2 due.0, (in_flight g.D.TileStore.state _ c.requires.0 c.requires.1 c.requires.2 _ due.0 due.1 due.3.0).0)

pub finish-requires-clause-drawing : goal.finish-requires-clause-drawing
finish-requires-clause-drawing g c = c.requires.3.3.1

pub returns : goal.returns
returns g c = (
  lasting g.D.TileStore.state _ _ c.finish.ensures.kept,
  λ n seen log due.
      let flight = in_flight g.D.TileStore.state _ n seen log _ due.0 due.1 due.3.0 in
      (step g.D.TileStore.state _ _ n _ log c.finish.ensures.kept (λ told may. c.finish.ensures.step told _ (due.0.each told may) flight.0) flight.1 due.0, tt),
)
