use Rattle.std.proofs.Common.{◌≡◌, ◌<◌, ℕ, length, Option, Some, None, ap, ◌∙◌, subst}
use Rattle.std.specs.Prelude.{slice_get, slice_set, option_map}
use Rattle.farm_plan.specs.Plans.{Restyle}
use Rattle.expiry_lists.specs.Marks.{is_of_map}
use Rattle.farm_refinement.specs.Seen.{FarmSeen}
use Rattle.farm_core.specs.inner.Effects.{Dirties}
use Rattle.farm_core.proofs.Told.{restyle_told, restyle_unknown}
use Rattle.farm_core.proofs.farm.Farm.restyle.Goals as goal

pub returns-in-Some-clause-step : goal.returns-in-Some-clause-step
returns-in-Some-clause-step g c = λ told h s.
    let turned = c.self.view_is ∙ c.count_turn.ensures.turned in
    let given = ap {A = FarmSeen g.row.D.Denot} (λ f. record f { styled = slice_set f.styled c.in-Some.map (Some c.args.number) }) turned in
    restyle_told g.D.TileStore.state told c.args.self.now c.mark_map_dirty.new.self h c.args.number c.mark_map_dirty.result c.in-Some.map
    (subst (λ (f : FarmSeen g.row.D.Denot). Some c.in-Some.map ≡ option_map (λ (r : Restyle). r.map) (slice_get f.plan.restyles c.args.number)) c.count_turn.ensures.turned c.in-Some.ensures.map)
    (subst (λ (f : FarmSeen g.row.D.Denot). c.in-Some.map < length f.plan.maps) c.count_turn.ensures.turned c.in-Some.ensures.in_table)
    (subst (λ (f : FarmSeen g.row.D.Denot). Dirties (is_of_map c.in-Some.map) f c.mark_map_dirty.new.self c.mark_map_dirty.result) given c.mark_map_dirty.ensures) s

pub returns-in-None-clause-step : goal.returns-in-None-clause-step
returns-in-None-clause-step g c = λ told h s.
    restyle_unknown g.D.TileStore.state told c.args.self.now c.count_turn.new.self h c.args.number
    (subst (λ (f : FarmSeen g.row.D.Denot). ◌≡◌ {A = Option ℕ} None (option_map (λ (r : Restyle). r.map) (slice_get f.plan.restyles c.args.number))) c.count_turn.ensures.turned c.in-None.ensures.map)
    c.count_turn.ensures.turned s
