-- One drawing more is touched.
use Rattle.std.proofs.Common.{◌||◌, Bool, slice_get, sym, ap, ◌∙◌}
use Rattle.std.proofs.Math.ListN.{set}
use Rattle.std.proofs.lemmas.List.Edits.{map_over_more}
use Rattle.farm_history.specs.declared.keys.Key.{Key}
use Rattle.farm_history.specs.Seen.{Taken, overtaken_by}
use Rattle.reach_box.specs.NamedBoxes.{boxes_reach_map}
use Rattle.farm_core.proofs.renews.touch_reached.Goals as goal

pub loop-one-preserved : goal.loop-one-preserved
loop-one-preserved c =
    let touched = c.overtaken.ensures ∙ ap {A = Bool} (λ b. record { ticket = c.one.inside.ticket; key = c.one.inside.key; version = c.one.inside.version; touched = b || c.one.inside.touched }) c.is_reached.ensures in
    let own = ap {A = Taken} (overtaken_by (λ (k : Key). boxes_reach_map c.args.boxes.now (slice_get c.args.setup.now.maps k.map) k.meta)) (c.one.view_is ∙ sym c.one-item.is) in
    ap {A = Taken} (set c.loop-one.taken c.loop-one.one-index) (c.one-in-loop-one.view_is ∙ (touched ∙ own))
    ∙ map_over_more (overtaken_by (λ (k : Key). boxes_reach_map c.args.boxes.now (slice_get c.args.setup.now.maps k.map) k.meta)) c.args.taken.now c.loop-one.taken c.loop-one.one-index c.one-item.result c.loop-one-test.true c.loop-one.invariant c.one-item.is
