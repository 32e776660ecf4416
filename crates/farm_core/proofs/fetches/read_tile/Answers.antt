use Rattle.std.proofs.Common.{◌≡◌, ℕ, ◌≤◌, ◌+◌, List, length, drop, min, sym, ◌∙◌, subst, arith, Some}
use Rattle.std.proofs.lemmas.List.{length-drop}
use Rattle.std.specs.Prelude.{Ok, Err, IfSome, option_map}
use Rattle.farm_base.specs.declared.faults.MetaFault.TheVariants.{Index}
use Rattle.farm_base.specs.Outside.{Outside}
use Rattle.plain_world.specs.World.{index_place}
use Rattle.meta_container.specs.Reading.{entry_found}
use Rattle.tile_store.specs.Stores.{StoreTold, part}
use Rattle.farm_history.specs.declared.answers.Fetched.{Fetched}
use Rattle.farm_refinement.specs.Reads.{IsSpoilt, IsTilePart, ReadsTile}
use Rattle.farm_core.specs.inner.Effects.{refused_by}
use Rattle.farm_core.proofs.Parts.{read_as, read_behind, read_short, short_as, read_whole, reads_refused}
use Rattle.farm_core.proofs.fetches.read_tile.Goals as goal

pub returns-in-Err : goal.returns-in-Err
returns-in-Err g c =
    subst (λ (a : Fetched). ReadsTile (g.D.TileStore.state c.args.store.now) (g.D.TileStore.state c.get_part.new.self) c.args.path.now c.args.meta (index_place c.args.tile) (Err a)) (sym c.refused.ensures)
    (reads_refused (part 0 532) _ _ _ _ _ c.in-Err.fault c.in-Err.ensures.state)

pub returns-then-left-entry : goal.returns-then-left-entry
returns-then-left-entry g c =
    let same : g.D.TileStore.state c.get_part.new.self ≡ g.D.TileStore.state c.args.store.now = c.in-Ok-Some.ensures.state.0 in
    let found : entry_found c.in-Ok-Some.head.items c.args.meta (index_place c.args.tile) ≡ Ok c.in-Ok.entry = cc (c.as_slice.ensures.value, c.entry_in.ensures, c.in-Ok.is) in
    let fits : c.min-room.result ≤ c.in-Ok.entry.offset = omega (arith, c.min.ensures, c.min-room.ensures) in
    let piece = drop (min c.min-room.result (length c.in-Ok-Some-get_part.part.items)) c.in-Ok-Some-get_part.part.items in (
      c.in-Ok-Some-get_part.ensures.state.0 ∙ same,
      subst (λ (n : ℕ). IfSome (g.D.TileStore.state c.args.store.now).told (λ (t : StoreTold). IsSpoilt (t.content c.args.path.now) c.args.meta (index_place c.args.tile) (Index n))) (sym c.index_place.ensures.value)
          (read_short (g.D.TileStore.state c.args.store.now).told c.args.path.now c.args.meta (index_place c.args.tile) c.in-Ok-Some.head.items piece c.in-Ok.entry (read_as _ (part 0 532) _ _ _ c.in-Ok-Some.field-0-is c.in-Ok-Some.ensures.state.1)
          (subst (λ (o : Outside StoreTold). IfSome o.told (λ (t : StoreTold). Some piece ≡ option_map (part c.in-Ok.entry.offset c.in-Ok.entry.size) (t.content c.args.path.now))) same
          (read_behind _ c.args.path.now c.in-Ok-Some-get_part.part.items c.in-Ok.entry.offset c.in-Ok.entry.size c.min-room.result c.from-offset.result fits c.from-offset.ensures
          (read_as _ (part c.from-offset.result (c.min-room.result + c.in-Ok.entry.size)) _ _ _ c.in-Ok-Some-get_part.field-0-is c.in-Ok-Some-get_part.ensures.state.1)))
          found (omega (arith, c.min-before.ensures, length-drop (min c.min-room.result (length c.in-Ok-Some-get_part.part.items)) c.in-Ok-Some-get_part.part.items))),
    )

pub returns-in-Ok-Some-get_part : goal.returns-in-Ok-Some-get_part
returns-in-Ok-Some-get_part g c =
    let same : g.D.TileStore.state c.get_part.new.self ≡ g.D.TileStore.state c.args.store.now = c.in-Ok-Some.ensures.state.0 in
    let found : entry_found c.in-Ok-Some.head.items c.args.meta (index_place c.args.tile) ≡ Ok c.in-Ok.entry = cc (c.as_slice.ensures.value, c.entry_in.ensures, c.in-Ok.is) in
    let fits : c.min-room.result ≤ c.in-Ok.entry.offset = omega (arith, c.min.ensures, c.min-room.ensures) in
    let piece = drop (min c.min-room.result (length c.in-Ok-Some-get_part.part.items)) c.in-Ok-Some-get_part.part.items in
    let cut : c.behind_room.result ≡ piece = cc in (
      c.in-Ok-Some-get_part.ensures.state.0 ∙ same,
      subst (λ (bytes : List ℕ). IfSome (g.D.TileStore.state c.args.store.now).told (λ (t : StoreTold). IsTilePart (t.content c.args.path.now) c.args.meta (index_place c.args.tile) bytes)) (sym cut)
          (read_whole (g.D.TileStore.state c.args.store.now).told c.args.path.now c.args.meta (index_place c.args.tile) c.in-Ok-Some.head.items piece c.in-Ok.entry (read_as _ (part 0 532) _ _ _ c.in-Ok-Some.field-0-is c.in-Ok-Some.ensures.state.1)
          (subst (λ (o : Outside StoreTold). IfSome o.told (λ (t : StoreTold). Some piece ≡ option_map (part c.in-Ok.entry.offset c.in-Ok.entry.size) (t.content c.args.path.now))) same
          (read_behind _ c.args.path.now c.in-Ok-Some-get_part.part.items c.in-Ok.entry.offset c.in-Ok.entry.size c.min-room.result c.from-offset.result fits c.from-offset.ensures
          (read_as _ (part c.from-offset.result (c.min-room.result + c.in-Ok.entry.size)) _ _ _ c.in-Ok-Some-get_part.field-0-is c.in-Ok-Some-get_part.ensures.state.1)))
          found (omega (arith, c.min-before.ensures, length-drop (min c.min-room.result (length c.in-Ok-Some-get_part.part.items)) c.in-Ok-Some-get_part.part.items, short_as _ _ _ c.in-Ok-Some-get_part.field-0-is c.in-Ok-Some-get_part.ensures.short))),
    )

pub returns : goal.returns
returns g c =
    let same : g.D.TileStore.state c.get_part.new.self ≡ g.D.TileStore.state c.args.store.now = c.in-Ok-Some.ensures.state.0 in
    subst (λ (a : Fetched). ReadsTile (g.D.TileStore.state c.args.store.now) (g.D.TileStore.state c.get_part-2.new.self) c.args.path.now c.args.meta (index_place c.args.tile) (Err a)) (sym c.refused-in-Err-get_part.ensures)
    (subst (λ (o : Outside StoreTold). ReadsTile o (g.D.TileStore.state c.get_part-2.new.self) c.args.path.now c.args.meta (index_place c.args.tile) (Err (refused_by c.in-Err-get_part.fault))) same
    (reads_refused (part c.from-offset.result (c.min-room.result + c.in-Ok.entry.size)) _ _ _ _ _ c.in-Err-get_part.fault c.in-Err-get_part.ensures.state))
