-- The margin and the square are those of the definition.
use Rattle.std.proofs.Common.{ℕ, ap, ◌∙◌}
use Rattle.std.specs.List.{list_any}
use Rattle.plain_world.specs.declared.world.Square.{Square}
use Rattle.plain_shapes.specs.Reach.{margin_of}
use Rattle.expiry_lists.specs.Boxes.{comes_near}
use Rattle.reach_box.proofs.boxes.boxes_reach.Goals as goal

pub returns : goal.returns
returns c =
    let boxes = c.args.boxes.now in
    c.some_comes_near.ensures
    ∙ ap (λ (m : ℕ). list_any (λ b. comes_near b m c.meta_square.result) boxes) c.margin_of.ensures.value
    ∙ ap (λ (s : Square). list_any (λ b. comes_near b (margin_of c.args.size c.args.m.z) s) boxes) c.meta_square.ensures.value
