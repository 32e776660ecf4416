use Rattle.std.proofs.Common.{ℕ, sym, ◌∙◌, subst, rules, arith}
use Rattle.std.proofs.lemmas.List.{get_or-set_other}
use Rattle.attribute_marks.specs.Marks.{HasMarks}
use Rattle.data_versions.proofs.sieve.Sieve.put.Goals as goal
use Rattle.data_versions.proofs.sieve.Sieve.put.Goals.{then-self, else-self}

pub returns-clause-kept : goal.returns-clause-kept
returns-clause-kept c = λ j f below seen. record {
  box = search rules;
  marks = subst (λ (m : ℕ). HasMarks m f.attrs) (sym (get_or-set_other c.args.self.now.marks c.args.k j c.marks.result 0 (λ e. absurd (omega (arith, e))))) seen.marks;
  point = λ said. elim c.if-self.branch [
    | then-self w ↦ seen.point w.if-self.true
    | else-self w ↦ seen.point (sym w.self-is ∙ said)
  ];
}
