use Rattle.std.proofs.Common.{◌≡◌, ◌+◌, ◌++◌, ◌∷◌, [], length, length-append, Ok, Some, refl, ap, ◌∙◌, arith}
use Rattle.script_lines.specs.declared.script.ScriptFault.TheVariants.{Line}
use Rattle.script_lines.specs.Scripts.{line_read, script_in}
use Rattle.reading.proofs.LineLoop.{items_more, items_skipped, items_beyond}
use Rattle.script_lines.proofs.Loop.{script_starts}
use Rattle.script_lines.proofs.scripts.read_script.Goals as goal

pub loop-line-init : goal.loop-line-init
loop-line-init c = record {
  told = rw c.new-lines.ensures.items (script_starts c.args.bytes.now);
  few = omega arith;
  count = omega (arith, ap length c.new-lines.ensures.items);
}

pub returns-then-number-eq-MOST_LINES : goal.returns-then-number-eq-MOST_LINES
returns-then-number-eq-MOST_LINES c = λ n. items_beyond line_read Line (c.loop-line.number + 1) c.loop-line.lines.items c.loop-line.rest.now c.in-Some.line.now c.in-Some.behind.now
    (script_in c.args.bytes.now) c.loop-line.invariant.told (omega arith) c.in-Some.ensures.some

pub loop-line-preserved-in_ok-push : goal.loop-line-preserved-in_ok-push
loop-line-preserved-in_ok-push c =
    let read : line_read (Line (c.loop-line.number + 1)) c.in-Some.line.now ≡ Ok (Some c.in-Some-2.line) = c.in_ok-line.ensures ∙ ap Ok c.in-Some-2.is in
    let items : c.push.new.self.items ≡ c.loop-line.lines.items ++ c.in-Some-2.line ∷ [] = c.in_ok-push.ensures.items in
    record {
      told = rw items (items_more line_read Line (c.loop-line.number + 1) (c.loop-line.number + 1 + 1) c.loop-line.lines.items c.loop-line.rest.now c.in-Some.line.now c.in-Some.behind.now
          (Some c.in-Some-2.line) (script_in c.args.bytes.now) c.loop-line.invariant.told refl (omega arith) c.in-Some.ensures.some read);
      few = omega arith;
      count = omega (arith, ap length items, length-append c.loop-line.lines.items (c.in-Some-2.line ∷ []));
    }

pub loop-line-preserved : goal.loop-line-preserved
loop-line-preserved c =
    record {
      told = items_skipped line_read Line (c.loop-line.number + 1) (c.loop-line.number + 1 + 1) c.loop-line.lines.items c.loop-line.rest.now c.in-Some.line.now c.in-Some.behind.now
          (script_in c.args.bytes.now) c.loop-line.invariant.told refl (omega arith) c.in-Some.ensures.some (c.in_ok-line.ensures ∙ ap Ok c.in_default-2.is);
      few = omega arith;
      count = omega arith;
    }
