use Rattle.std.proofs.Common.{◌++◌, ◌∷◌, [], if◌then◌else◌, get_or, false, List, ℕ, ◌∙◌, ap, sym}
use Rattle.std.proofs.lemmas.List.{take_all}
use Rattle.raster_core.specs.inner.Toggles.{set_places}
use Rattle.raster_core.proofs.Toggling.{next_set}
use Rattle.raster_core.proofs.parities.set_places.Goals as goal

pub loop-k-preserved : goal.loop-k-preserved
loop-k-preserved c =
    c.in_ok-add_set.ensures ∙ ap (λ (ps : List ℕ). ps ++ (if get_or c.args.bits.now c.loop-k.k false then c.loop-k.k ∷ [] else [])) c.loop-k.invariant ∙ sym (next_set c.loop-k.k c.args.bits.now c.loop-k-test.true)

pub returns : goal.returns
returns c = c.loop-k.invariant ∙ ap (set_places 0) (take_all c.loop-k.k c.args.bits.now c.loop-k-test.false)
