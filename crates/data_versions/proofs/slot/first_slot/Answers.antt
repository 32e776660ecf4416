use Rattle.std.proofs.Common.{ap, ◌∙◌, rules}
use Rattle.std.specs.Prelude.{slice_get}
use Rattle.data_versions.specs.inner.Slots.{slot_id}
use Rattle.data_versions.proofs.Old.{place_holds}
use Rattle.data_versions.proofs.slot.first_slot.Goals as goal

pub holds-requires : goal.holds-requires
holds-requires c =
    ap (λ fs. slot_id (slice_get fs c.in_ok-place.place)) c.requires ∙ place_holds c.args.finder.now.features c.args.id c.in_ok-place.place (search rules)
