-- One change after another.
use Rattle.std.proofs.Common.{◌∙◌, List, [], subst, arith}
use Rattle.plain_shapes.specs.Data.{Change}
use Rattle.plain_shapes.specs.Reach.{feature_reaches}
use Rattle.farm_plan.specs.Drawings.{features_in}
use Rattle.reach_box.specs.NamedBoxes.{AreBoxesOf}
use Rattle.reach_box.specs.inner.Lookups.{met_by, features_met}
use Rattle.reach_box.proofs.Adding.{adds_more, adds_all, boxes_from, kept_whole}
use Rattle.reach_box.proofs.Naming.{met_named}
use Rattle.reach_box.proofs.boxes.named_boxes.Goals as goal
use Rattle.reach_box.proofs.boxes.named_boxes.Goals.{After-drop-layers-2}

pub loop-change-preserved : goal.loop-change-preserved
loop-change-preserved c = record {
  added = adds_more (λ (ch : Change). met_by (features_in c.args.snapshot.now ch.layer) ch) c.changes-change-items.result.now c.loop-change.change-index c.change-item.result [] c.loop-change.boxes.items c.add_named.new.boxes.items
      c.loop-change-test.true c.change-item.is c.loop-change.invariant.added (rw (c.as_mut_slice.ensures.value, c.loop-change.invariant.layers) at c.in_ok-add_named.ensures.added);
  layers = kept_whole c.loop-change.layers.items c.add_named.new.layers c.loop-change.layers.len (c.add_named.ensures.same ∙ c.as_mut_slice.ensures.value) (omega (arith, c.loop-change.layers.ok)) ∙ c.loop-change.invariant.layers;
}

all_met : (c : After-drop-layers-2) → AreBoxesOf (features_met c.args.snapshot.now c.args.update.now) c.loop-change.boxes.items
all_met c =
    subst (λ (cs : List Change). AreBoxesOf (features_met c.args.snapshot.now cs) c.loop-change.boxes.items) c.changes-change-items.ensures.value
    (boxes_from (features_met c.args.snapshot.now c.changes-change-items.result.now) c.loop-change.boxes.items
    (adds_all (λ (ch : Change). met_by (features_in c.args.snapshot.now ch.layer) ch) c.changes-change-items.result.now c.loop-change.change-index [] c.loop-change.boxes.items c.loop-change-test.false c.loop-change.invariant.added))

pub returns-clause-sound : goal.returns-clause-sound
returns-clause-sound c = (all_met c).sound

pub returns-clause-named : goal.returns-clause-named
returns-clause-named c = record {
  sound = (all_met c).sound;
  reach = λ size z s. (all_met c).reach size z s ∙ met_named (λ f. feature_reaches f size z s) c.args.snapshot.now c.args.update.now c.finders.ensures.valid.each;
}
