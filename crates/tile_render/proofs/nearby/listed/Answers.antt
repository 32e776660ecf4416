use Rattle.std.proofs.Common.{Bor, ◌++◌, [], ◌∷◌, map, ap, sym, subst, ◌∙◌}
use Rattle.std.proofs.lemmas.List.{map-append}
use Rattle.data_versions.specs.declared.shared.SharedFeature.{SharedFeature}
use Rattle.tile_render.specs.inner.Nearby.{DrawAlike}
use Rattle.tile_render.proofs.Leaving.{alike_more, alike_end}
use Rattle.tile_render.proofs.nearby.listed.Goals as goal

pub loop-feature-preserved : goal.loop-feature-preserved
loop-feature-preserved c = record {
  alike = subst (λ xs. DrawAlike c.next.new.self.asked (xs ++ c.next.new.self.left) c.args.walk.left)
      (sym (ap (map (λ f. f.now)) c.in_ok-push.ensures.items ∙ map-append (λ (f : Bor SharedFeature). f.now) c.loop-feature.features.items (c.in-Some.feature ∷ [])))
      (alike_more c.loop-feature.walk c.next.new.self c.in-Some.feature.now (map (λ f. f.now) c.loop-feature.features.items) c.args.walk.left c.in-Some.ensures
      c.loop-feature.invariant.alike);
  asked = c.in-Some.ensures.asked ∙ c.loop-feature.invariant.asked;
}

pub returns : goal.returns
returns c =
    subst (λ a. DrawAlike a (map (λ f. f.now) c.loop-feature.features.items) c.args.walk.left) c.loop-feature.invariant.asked
    (alike_end c.loop-feature.walk c.next.new.self (map (λ f. f.now) c.loop-feature.features.items) c.args.walk.left c.in_default.ensures c.loop-feature.invariant.alike)
