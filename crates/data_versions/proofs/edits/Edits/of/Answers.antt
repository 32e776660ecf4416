use Rattle.std.proofs.Common.{◌∷◌, [], ◌++◌, append_assoc, ap, sym, ◌∙◌}
use Rattle.std.specs.Map.Iter.{deref_pair}
use Rattle.std.proofs.lemmas.Map.Iter.{rest_more}
use Rattle.data_versions.proofs.edits.Edits.of.Goals as goal

pub loop-number-preserved : goal.loop-number-preserved
loop-number-preserved c =
    let left = rest_more deref_pair c.loop-number.number-iterator c.next.new.self c.next.result (c.in-Some.number, c.in-Some.edit) c.in-Some.is c.next.ensures.steps in
    record {
      can = tt;
      ends = tt;
      same = ap (λ xs. xs ++ c.next.new.self) c.in_ok-push.ensures.items
          ∙ append_assoc c.loop-number.all.items ((c.in-Some.number.now, c.in-Some.edit.now) ∷ []) c.next.new.self
          ∙ ap (λ xs. c.loop-number.all.items ++ xs) (sym left) ∙ c.loop-number.invariant.same;
    }
