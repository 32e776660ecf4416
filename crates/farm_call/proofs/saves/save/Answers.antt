use Rattle.std.proofs.Common.{◌<◌, ◌^◌, length, false, subst, ◌∙◌, arith}
use Rattle.farm_history.specs.Replays.{Saving}
use Rattle.farm_call.proofs.Saving.{stands, saves}
use Rattle.farm_call.proofs.Readable.{reads_again}
use Rattle.farm_call.proofs.saves.save.Goals as goal

pub write_saved-requires : goal.write_saved-requires
write_saved-requires g c = c.in-Ok.ensures.sound false _ (stands g.D.TileStore.state c.args.closed.now c.requires)

pub returns-in-Ok-write_saved-clause-saves : goal.returns-in-Ok-write_saved-clause-saves
returns-in-Ok-write_saved-clause-saves g c =
    let after = stands g.D.TileStore.state c.args.closed.now c.requires in
    let updates : length c.saved-2.inside.updates.items < 2 ^ 64 = let small = c.saved-2.inside.updates.small in let fine = c.saved-2.inside.updates.ok in omega (arith, small, fine) in
    let clean : length c.saved-2.inside.clean.items < 2 ^ 64 = let small = c.saved-2.inside.clean.small in let fine = c.saved-2.inside.clean.ok in omega (arith, small, fine) in
    let reads =
    reads_again _ false _ c.in-Ok.saved after.valid after.legal (c.in-Ok.ensures.saved false _ after)
    (subst (λ (s : Saving). length s.updates < 2 ^ 64) c.saved-2.view_is updates) (subst (λ (s : Saving). length s.clean < 2 ^ 64) c.saved-2.view_is clean) in
    saves g.D.TileStore.state c.args.closed.now c.requires c.in-Ok.saved c.in-Ok.ensures.saved reads _ (c.as_slice.ensures.value ∙ c.in-Ok-write_saved.ensures) _ _ c.put_saved.ensures
