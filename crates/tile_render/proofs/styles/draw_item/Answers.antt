use Rattle.std.proofs.Common.{◌≡◌, ◌+◌, ◌-◌, ◌∙◌, refl, ap, sym, length, map, fold, take, drop, Some, None}
use Rattle.std.specs.Prelude.{position}
use Rattle.std.proofs.lemmas.Result.{on_ok_weaker}
use Rattle.filter_expr.specs.Looked.{Asked}
use Rattle.plain_drawing.specs.Drawing.{item_attrs}
use Rattle.tile_render.specs.inner.Chosen.{takes, with_chosen}
use Rattle.tile_render.specs.inner.Items.{item_of}
use Rattle.tile_render.proofs.Choices.{named_first, no_match, all_drawn, first_drawn, fallbacks_drawn}
use Rattle.tile_render.proofs.Tables.{filters_are, filters_behind}
use Rattle.tile_render.proofs.styles.draw_item.Goals as goal

pub returns-in-All-clause-drawn : goal.returns-in-All-clause-drawn
returns-in-All-clause-drawn c =
    let item = item_of c.args.item in
    let p = takes (item_attrs item) in
    let bs = c.rules-rules.result.now in
    let b = c.index-rules-place.result in
    let found : Some c.in-Some.place ≡ position p (map (λ r. r.now) bs) = c.in-Some.ensures ∙ ap (λ attrs. position (takes attrs) (map (λ r. r.now) bs)) (ap (λ (t : Asked). t.attrs) c.look.ensures ∙ c.attrs.ensures) in
    let rest = map (λ r. r.now) (take (length bs - (c.in-Some.place + 1)) (drop (c.in-Some.place + 1) bs)) in
    let first = named_first (λ r. r.now) p bs c.in-Some.place b found c.index-rules-place.is in
    on_ok_weaker c.draw_rules.result
    (λ e. e ∙ ap (λ w. fold (with_chosen w item p) c.draw_rule.new.canvas.image rest) c.draw_rule.ensures.window
    ∙ all_drawn c.args.canvas.now.window c.args.scaled.now.denominator c.args.scaled.now.style (map (λ r. r.now) bs) item c.args.canvas.now.image c.draw_rule.new.canvas.image b.now rest
    c.rules-rules.ensures first (sym c.filter_mode.ensures ∙ c.in-All.is) c.in_ok-draw_rule-in-Some.ensures.drawn)
    c.draw_rules.ensures.drawn

pub returns-in-First-clause-drawn : goal.returns-in-First-clause-drawn
returns-in-First-clause-drawn c =
    let item = item_of c.args.item in
    let p = takes (item_attrs item) in
    let bs = c.rules-rules.result.now in
    let b = c.index-rules-place.result in
    let found : Some c.in-Some.place ≡ position p (map (λ r. r.now) bs) = c.in-Some.ensures ∙ ap (λ attrs. position (takes attrs) (map (λ r. r.now) bs)) (ap (λ (t : Asked). t.attrs) c.look.ensures ∙ c.attrs.ensures) in
    let rest = map (λ r. r.now) (take (length bs - (c.in-Some.place + 1)) (drop (c.in-Some.place + 1) bs)) in
    let first = named_first (λ r. r.now) p bs c.in-Some.place b found c.index-rules-place.is in
    first_drawn c.args.canvas.now.window c.args.scaled.now.denominator c.args.scaled.now.style (map (λ r. r.now) bs) item c.args.canvas.now.image c.draw_rule.new.canvas.image b.now rest
    c.rules-rules.ensures first (sym c.filter_mode.ensures ∙ c.in-First.is) c.in_ok-draw_rule-in-Some.ensures.drawn

pub returns-in-None-clause-drawn : goal.returns-in-None-clause-drawn
returns-in-None-clause-drawn c =
    let item = item_of c.args.item in
    let p = takes (item_attrs item) in
    let rules = map (λ r. r.now) c.rules-rules.result.now in
    let none : None ≡ position p rules = c.in-None.ensures ∙ ap (λ bs. position (takes bs) rules) (ap (λ (t : Asked). t.attrs) c.look.ensures ∙ c.attrs.ensures) in
    on_ok_weaker c.draw_rules-in-None.result
    (λ e. e ∙ fallbacks_drawn c.args.canvas.now.window c.args.scaled.now.denominator c.args.scaled.now.style rules item c.args.canvas.now.image c.rules-rules.ensures (no_match p rules none))
    c.draw_rules-in-None.ensures.drawn

pub first_match-requires : goal.first_match-requires
first_match-requires c =
    filters_are c.rules-rules.result.now _ c.look.new.self.filters c.rules-rules.ensures (ap (λ (t : Asked). t.filters) c.look.ensures ∙ c.requires)

pub draw_rules-requires-clause-filters : goal.draw_rules-requires-clause-filters
draw_rules-requires-clause-filters c =
    let bs = c.rules-rules.result.now in
    filters_behind bs c.look.new.self.filters (length bs) (c.in-Some.place + 1) refl
    (filters_are bs _ c.look.new.self.filters c.rules-rules.ensures (ap (λ (t : Asked). t.filters) c.look.ensures ∙ c.requires))

pub draw_rules-requires-in-None-clause-filters : goal.draw_rules-requires-in-None-clause-filters
draw_rules-requires-in-None-clause-filters c =
    sym (filters_are c.rules-rules.result.now _ c.look.new.self.filters c.rules-rules.ensures (ap (λ (t : Asked). t.filters) c.look.ensures ∙ c.requires))
