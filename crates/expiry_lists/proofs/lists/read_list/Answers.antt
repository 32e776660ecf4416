use Rattle.std.proofs.Common.{◌≡◌, ◌+◌, ◌++◌, ◌∷◌, [], length, length-append, Ok, Some, refl, sym, ap, ◌∙◌, arith}
use Rattle.std.proofs.lemmas.List.Elements.{All-nil, All-push}
use Rattle.plain_world.specs.World.{IsTile}
use Rattle.expiry_lists.specs.declared.faults.ListFault.TheVariants.{Line}
use Rattle.expiry_lists.specs.Lists.{list_line, list_in}
use Rattle.reading.proofs.LineLoop.{items_more, items_skipped, items_beyond}
use Rattle.expiry_lists.proofs.Lines.{list_starts}
use Rattle.expiry_lists.proofs.lists.read_list.Goals as goal

pub loop-line-init : goal.loop-line-init
loop-line-init c = record {
  told = rw c.new-tiles.ensures.items (list_starts c.args.bytes.now);
  few = omega arith;
  count = omega (arith, ap length c.new-tiles.ensures.items);
  valid = rw c.new-tiles.ensures.items (All-nil IsTile);
}

pub returns-then-number-eq-MOST_LINES-clause-value : goal.returns-then-number-eq-MOST_LINES-clause-value
returns-then-number-eq-MOST_LINES-clause-value c = λ n. items_beyond list_line Line (c.loop-line.number + 1) c.loop-line.tiles.items c.loop-line.rest.now c.in-Some.line.now c.in-Some.behind.now
    (list_in c.args.bytes.now) c.loop-line.invariant.told (omega arith) c.in-Some.ensures.some

pub loop-line-preserved-in_ok-push : goal.loop-line-preserved-in_ok-push
loop-line-preserved-in_ok-push c =
    let read : list_line (Line (c.loop-line.number + 1)) c.in-Some.line.now ≡ Ok (Some c.in-Some-2.tile) = sym c.in_ok-tile.ensures.value ∙ ap Ok c.in-Some-2.is in
    let items : c.push.new.self.items ≡ c.loop-line.tiles.items ++ c.in-Some-2.tile ∷ [] = c.in_ok-push.ensures.items in
    let valid : IsTile c.in-Some-2.tile = rw c.in-Some-2.is at c.in_ok-tile.ensures.valid in
    record {
      told = rw items (items_more list_line Line (c.loop-line.number + 1) (c.loop-line.number + 1 + 1) c.loop-line.tiles.items c.loop-line.rest.now c.in-Some.line.now c.in-Some.behind.now
          (Some c.in-Some-2.tile) (list_in c.args.bytes.now) c.loop-line.invariant.told refl (omega arith) c.in-Some.ensures.some read);
      few = omega arith;
      count = omega (arith, ap length items, length-append c.loop-line.tiles.items (c.in-Some-2.tile ∷ []));
      valid = rw items (All-push IsTile c.loop-line.tiles.items c.in-Some-2.tile c.loop-line.invariant.valid valid);
    }

pub loop-line-preserved : goal.loop-line-preserved
loop-line-preserved c =
    record {
      told = items_skipped list_line Line (c.loop-line.number + 1) (c.loop-line.number + 1 + 1) c.loop-line.tiles.items c.loop-line.rest.now c.in-Some.line.now c.in-Some.behind.now
          (list_in c.args.bytes.now) c.loop-line.invariant.told refl (omega arith) c.in-Some.ensures.some (sym c.in_ok-tile.ensures.value ∙ ap Ok c.in_default-2.is);
      few = omega arith;
      count = omega arith;
      valid = c.loop-line.invariant.valid;
    }
