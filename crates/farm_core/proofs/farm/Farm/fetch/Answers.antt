use Rattle.std.proofs.Common.{sym, ap, ◌∙◌, subst}
use Rattle.plain_world.specs.declared.world.Tile.{Tile}
use Rattle.plain_world.specs.World.{index_place}
use Rattle.farm_history.specs.declared.keys.Key.{Key}
use Rattle.farm_history.specs.Plans.{is_servable, spot_tile}
use Rattle.farm_plan.specs.Plans.{FarmPlan}
use Rattle.farm_plan.specs.Drawings.{plan_of}
use Rattle.expiry_lists.specs.Marks.{mark_of}
use Rattle.farm_refinement.specs.Seen.{FarmSeen}
use Rattle.farm_core.specs.inner.Effects.{Fetches, turn}
use Rattle.farm_core.proofs.Reading.{unserved, unshown, tile_read}
use Rattle.farm_core.proofs.Told.{fetch_unservable, fetch_missing, fetch_read}
use Rattle.farm_core.proofs.farm.Farm.fetch.Goals as goal

pub returns-in_default-clause-step : goal.returns-in_default-clause-step
returns-in_default-clause-step g c = λ told h s.
    let turned = c.self.view_is ∙ c.count_turn.ensures.turned in
    let plan = c.setup.ensures ∙ ap {A = FarmSeen g.row.D.Denot} (λ f. f.plan) turned in
    let off = sym (c.in_default.ensures.served ∙ ap (λ (p : FarmPlan). is_servable (plan_of p) c.args.spot) plan) in
    fetch_unservable g.D.TileStore.state told c.args.self.now c.count_turn.new.self h c.args.spot c.count_turn.ensures.turned off s

pub returns-in_default-of-clause-step : goal.returns-in_default-of-clause-step
returns-in_default-of-clause-step g c = λ told h s.
    let turned = c.self.view_is ∙ c.count_turn.ensures.turned in
    let plan = c.setup.ensures ∙ ap {A = FarmSeen g.row.D.Denot} (λ f. f.plan) turned in
    let on = sym (c.in-Some.ensures.served ∙ ap (λ (p : FarmPlan). is_servable (plan_of p) c.args.spot) plan) in
    let key = c.in-Some.ensures.key.0 in
    let missing = ap (λ (k : Key). mark_of c.args.self.now.marks.shown k) (sym key) ∙ ap {A = FarmSeen g.row.D.Denot} (λ f. mark_of f.marks.shown c.in-Some.key) (sym turned) ∙ sym c.of.ensures ∙ c.in_default-of.is in
    fetch_missing g.D.TileStore.state told c.args.self.now c.count_turn.new.self h c.args.spot c.count_turn.ensures.turned on missing s

pub read-requires-clause-tile : goal.read-requires-clause-tile
read-requires-clause-tile g c = c.in-Some.ensures.tile.1

pub returns-clause-step : goal.returns-clause-step
returns-clause-step g c = λ told h s.
    let turned = c.self.view_is ∙ c.count_turn.ensures.turned in
    let plan = c.setup.ensures ∙ ap {A = FarmSeen g.row.D.Denot} (λ f. f.plan) turned in
    let on = sym (c.in-Some.ensures.served ∙ ap (λ (p : FarmPlan). is_servable (plan_of p) c.args.spot) plan) in
    let key = c.in-Some.ensures.key.0 in
    let marked = ap (λ (k : Key). mark_of c.args.self.now.marks.shown k) (sym key) ∙ ap {A = FarmSeen g.row.D.Denot} (λ f. mark_of f.marks.shown c.in-Some.key) (sym turned) ∙ sym c.of.ensures ∙ c.in-Some-of.is in
    let read = subst (λ (tile : Tile). Fetches g.D.TileStore.state c.count_turn.new.self c.read.new.self c.in-Some.key (index_place tile) c.in-Some-of.mark c.read.result) c.in-Some.ensures.tile.0 c.read.ensures in
    let fetched = subst (λ (f : FarmSeen g.row.D.Denot). Fetches g.D.TileStore.state f c.read.new.self c.in-Some.key (index_place (spot_tile c.args.spot)) c.in-Some-of.mark c.read.result) c.count_turn.ensures.turned read in
    fetch_read g.D.TileStore.state told c.args.self.now c.read.new.self h c.args.spot c.in-Some-of.mark c.read.result on marked
    (subst (λ (k : Key). Fetches g.D.TileStore.state (turn c.args.self.now) c.read.new.self k (index_place (spot_tile c.args.spot)) c.in-Some-of.mark c.read.result) key fetched) s

pub returns-in_default-clause-reads : goal.returns-in_default-clause-reads
returns-in_default-clause-reads g c =
    let turned = c.self.view_is ∙ c.count_turn.ensures.turned in
    let plan = c.setup.ensures ∙ ap {A = FarmSeen g.row.D.Denot} (λ f. f.plan) turned in
    let off = sym (c.in_default.ensures.served ∙ ap (λ (p : FarmPlan). is_servable (plan_of p) c.args.spot) plan) in
    unserved g.D.TileStore.state c.args.self.now c.count_turn.new.self c.args.spot c.count_turn.ensures.turned off

pub returns-in_default-of-clause-reads : goal.returns-in_default-of-clause-reads
returns-in_default-of-clause-reads g c =
    let turned = c.self.view_is ∙ c.count_turn.ensures.turned in
    let plan = c.setup.ensures ∙ ap {A = FarmSeen g.row.D.Denot} (λ f. f.plan) turned in
    let on = sym (c.in-Some.ensures.served ∙ ap (λ (p : FarmPlan). is_servable (plan_of p) c.args.spot) plan) in
    let key = c.in-Some.ensures.key.0 in
    let missing = ap (λ (k : Key). mark_of c.args.self.now.marks.shown k) (sym key) ∙ ap {A = FarmSeen g.row.D.Denot} (λ f. mark_of f.marks.shown c.in-Some.key) (sym turned) ∙ sym c.of.ensures ∙ c.in_default-of.is in
    unshown g.D.TileStore.state c.args.self.now c.count_turn.new.self c.args.spot c.count_turn.ensures.turned on missing

pub returns-clause-reads : goal.returns-clause-reads
returns-clause-reads g c =
    let turned = c.self.view_is ∙ c.count_turn.ensures.turned in
    let plan = c.setup.ensures ∙ ap {A = FarmSeen g.row.D.Denot} (λ f. f.plan) turned in
    let on = sym (c.in-Some.ensures.served ∙ ap (λ (p : FarmPlan). is_servable (plan_of p) c.args.spot) plan) in
    let key = c.in-Some.ensures.key.0 in
    let marked = ap (λ (k : Key). mark_of c.args.self.now.marks.shown k) (sym key) ∙ ap {A = FarmSeen g.row.D.Denot} (λ f. mark_of f.marks.shown c.in-Some.key) (sym turned) ∙ sym c.of.ensures ∙ c.in-Some-of.is in
    let read = subst (λ (tile : Tile). Fetches g.D.TileStore.state c.count_turn.new.self c.read.new.self c.in-Some.key (index_place tile) c.in-Some-of.mark c.read.result) c.in-Some.ensures.tile.0 c.read.ensures in
    let fetched = subst (λ (f : FarmSeen g.row.D.Denot). Fetches g.D.TileStore.state f c.read.new.self c.in-Some.key (index_place (spot_tile c.args.spot)) c.in-Some-of.mark c.read.result) c.count_turn.ensures.turned read in
    tile_read g.D.TileStore.state c.args.self.now c.read.new.self c.args.spot c.in-Some-of.mark c.read.result on marked
    (subst (λ (k : Key). Fetches g.D.TileStore.state (turn c.args.self.now) c.read.new.self k (index_place (spot_tile c.args.spot)) c.in-Some-of.mark c.read.result) key fetched)
