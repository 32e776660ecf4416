use Rattle.std.proofs.Common.{Bool, ◌∷◌, ◌∙◌, sym, subst}
use Rattle.farm_history.specs.Entries.{Finish}
use Rattle.farm_refinement.specs.Stands.{StandsFor}
use Rattle.farm_core.proofs.Putting.{drawn_text, puts_drawn, puts_none}
use Rattle.farm_core.proofs.farm.Farm.finish.Goals as goal

pub finish_drawn-requires-clause-drawing : goal.finish_drawn-requires-clause-drawing
finish_drawn-requires-clause-drawing g c = drawn_text c.args.job c.args.drawn (sym c.is_drawn.ensures ∙ c.if-is_drawn.true) c.requires.drawing

pub returns-then-is_drawn-clause-step : goal.returns-then-is_drawn-clause-step
returns-then-is_drawn-clause-step g c = λ told h s flight.
    subst (λ (drawn : Bool). StandsFor g.D.TileStore.state told c.finish_drawn.new.self (Finish c.args.job.ticket drawn c.finish_drawn.result ∷ h)) (sym c.if-is_drawn.true ∙ c.is_drawn.ensures) (c.finish_drawn.ensures.step told h s flight)

pub returns-then-is_drawn-clause-puts : goal.returns-then-is_drawn-clause-puts
returns-then-is_drawn-clause-puts g c =
    puts_drawn g.D.TileStore.state c.args.self.now c.finish_drawn.new.self c.args.job c.args.drawn c.finish_drawn.result (sym c.is_drawn.ensures ∙ c.if-is_drawn.true) c.finish_drawn.ensures.puts

pub returns-clause-step : goal.returns-clause-step
returns-clause-step g c = λ told h s flight.
    subst (λ (drawn : Bool). StandsFor g.D.TileStore.state told c.finish_none.new.self (Finish c.args.job.ticket drawn c.finish_none.result ∷ h)) (sym c.if-is_drawn.false ∙ c.is_drawn.ensures) (c.finish_none.ensures.step told h s flight)

pub returns-clause-puts : goal.returns-clause-puts
returns-clause-puts g c =
    puts_none g.D.TileStore.state c.args.self.now c.finish_none.new.self c.args.job c.args.drawn _ (sym c.is_drawn.ensures ∙ c.if-is_drawn.false) c.finish_none.ensures.puts
