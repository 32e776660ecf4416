use Rattle.std.proofs.Common.{sym, ap, ◌∙◌}
use Rattle.expiry_lists.specs.Marks.{MarksSeen, mark_of}
use Rattle.expiry_lists.proofs.Finding.{mark_found}
use Rattle.expiry_lists.proofs.marks.Marks.of.Goals as goal

pub returns : goal.returns
returns c =
    c.mark_of.ensures.mark
    ∙ (sym (mark_found c.self.inside.nodes.entries c.mark_of.ensures.unique c.args.key) ∙ ap (λ (m : MarksSeen). mark_of m.shown c.args.key) c.self.view_is)
