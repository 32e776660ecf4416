-- What is kept is what is saved of each history that the farm stands for.
use Rattle.std.proofs.Common.{List, Bool}
use Rattle.std.proofs.lemmas.Result.{IfOk-weaker}
use Rattle.farm_history.specs.Entries.{Entry}
use Rattle.farm_history.specs.Replays.{Saving, IsSaved}
use Rattle.farm_plan.specs.Drawings.{plan_of}
use Rattle.farm_saved.specs.Savings.{IsSaving}
use Rattle.farm_refinement.specs.Stands.{StandsFor}
use Rattle.farm_core.specs.inner.Saves.{IsSavingOf}
use Rattle.farm_core.proofs.Savable.{kept_saved, kept_sound}
use Rattle.farm_core.proofs.farm.Farm.saved.Goals as goal

pub returns : goal.returns
returns g c = record {
  saved =
      IfOk-weaker c.kept.result (IsSavingOf c.args.self.now) (λ (s : Saving). (told : Bool) (h : List Entry) → StandsFor g.D.TileStore.state told c.args.self.now h → IsSaved (plan_of c.args.self.now.plan) h s)
      (λ s k told h stands. kept_saved g.D.TileStore.state told c.args.self.now h s k stands) c.kept.ensures;
  sound =
      IfOk-weaker c.kept.result (IsSavingOf c.args.self.now) (λ (s : Saving). (told : Bool) (h : List Entry) → StandsFor g.D.TileStore.state told c.args.self.now h → IsSaving s)
      (λ s k told h stands. kept_sound g.D.TileStore.state told c.args.self.now h s k stands) c.kept.ensures;
}
