use Rattle.std.proofs.Common.{◌≡◌, ◌∙◌, ap, sym, true, false, map, get_or, arith}
use Rattle.std.proofs.lemmas.List.{length-map, get_or-map}
use Rattle.plain_drawing.specs.Drawing.{item_attrs}
use Rattle.tile_render.specs.inner.Chosen.{is_chosen}
use Rattle.tile_render.specs.inner.Items.{item_of}
use Rattle.tile_render.proofs.Choices.{rule_passed, rule_drawn}
use Rattle.tile_render.proofs.styles.draw_rules.Goals as goal

pub loop-number-preserved-then-not-is_chosen : goal.loop-number-preserved-then-not-is_chosen
loop-number-preserved-then-not-is_chosen c =
    let b = c.index-rules-number.result in
    let p = is_chosen c.args.choice (item_attrs (item_of c.args.item)) in
    let off : p b.now ≡ false = sym (c.if-not-is_chosen.ensures ∙ ap (λ attrs. is_chosen c.args.choice attrs b.now) c.requires.attrs) in
    let there : b.now ≡ get_or (map (λ r. r.now) c.args.rules.now) c.loop-number.number b.now =
    ap (λ b. b.now) c.index-rules-number.is ∙ sym (get_or-map (λ r. r.now) c.args.rules.now c.loop-number.number b b.now c.loop-number-test.true) in
    record {
      drawn =
          rule_passed c.args.canvas.now.window (item_of c.args.item) p (map (λ r. r.now) c.args.rules.now) c.loop-number.number b.now c.args.canvas.now.image c.loop-number.canvas.image
          (omega (arith, c.loop-number-test.true, length-map c.args.rules.now (λ r. r.now))) there off c.loop-number.invariant.drawn;
      window = c.loop-number.invariant.window;
    }

pub loop-number-preserved : goal.loop-number-preserved
loop-number-preserved c =
    let b = c.index-rules-number.result in
    let p = is_chosen c.args.choice (item_attrs (item_of c.args.item)) in
    let on : p b.now ≡ true = sym (c.if-not-is_chosen.ensures ∙ ap (λ attrs. is_chosen c.args.choice attrs b.now) c.requires.attrs) in
    let there : b.now ≡ get_or (map (λ r. r.now) c.args.rules.now) c.loop-number.number b.now =
    ap (λ b. b.now) c.index-rules-number.is ∙ sym (get_or-map (λ r. r.now) c.args.rules.now c.loop-number.number b b.now c.loop-number-test.true) in
    record {
      drawn =
          rule_drawn c.args.canvas.now.window c.loop-number.canvas.window (item_of c.args.item) p (map (λ r. r.now) c.args.rules.now) c.loop-number.number b.now c.args.canvas.now.image
          c.loop-number.canvas.image c.draw_rule.new.canvas.image (omega (arith, c.loop-number-test.true, length-map c.args.rules.now (λ r. r.now))) there on c.loop-number.invariant.window
          c.loop-number.invariant.drawn c.in_ok-draw_rule.ensures.drawn;
      window = c.draw_rule.ensures.window ∙ c.loop-number.invariant.window;
    }
