use Rattle.std.proofs.Common.{◌≡◌, ◌∙◌, map, get_or, ap, sym, arith}
use Rattle.std.proofs.lemmas.List.{length-map, get_or-map}
use Rattle.tile_render.specs.inner.Chosen.{takes}
use Rattle.tile_render.proofs.Choices.{still_none, found_there}
use Rattle.tile_render.proofs.rules.first_match.Goals as goal

pub returns-then-takes : goal.returns-then-takes
returns-then-takes c =
    let r = c.index-rules-place.result in
    let there : get_or (map (λ r. r.now) c.args.rules.now) c.loop-place.place r.now ≡ r.now =
    get_or-map (λ r. r.now) c.args.rules.now c.loop-place.place r r.now c.loop-place-test.true ∙ ap (λ b. b.now) (sym c.index-rules-place.is) in
    found_there (takes c.args.table.now.attrs) (map (λ r. r.now) c.args.rules.now) c.loop-place.place r.now
    (omega (arith, c.loop-place-test.true, length-map c.args.rules.now (λ r. r.now))) c.loop-place.invariant
    (ap (takes c.args.table.now.attrs) there ∙ sym c.takes.ensures ∙ c.if-takes.true)

pub loop-place-preserved : goal.loop-place-preserved
loop-place-preserved c =
    let r = c.index-rules-place.result in
    let there : get_or (map (λ r. r.now) c.args.rules.now) c.loop-place.place r.now ≡ r.now =
    get_or-map (λ r. r.now) c.args.rules.now c.loop-place.place r r.now c.loop-place-test.true ∙ ap (λ b. b.now) (sym c.index-rules-place.is) in
    still_none (takes c.args.table.now.attrs) (map (λ r. r.now) c.args.rules.now) c.loop-place.place r.now
    (omega (arith, c.loop-place-test.true, length-map c.args.rules.now (λ r. r.now))) c.loop-place.invariant
    (ap (takes c.args.table.now.attrs) there ∙ sym c.takes.ensures ∙ c.if-takes.false)
