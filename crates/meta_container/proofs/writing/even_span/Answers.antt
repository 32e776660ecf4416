use Rattle.std.proofs.Common.{sym, ◌∙◌}
use Rattle.meta_container.proofs.Heads.{even_pair}
use Rattle.meta_container.proofs.writing.even_span.Goals as goal

pub returns : goal.returns
returns c tiles count all = even_pair c.args.across c.args.size c.args.place tiles (sym c.has_tile.ensures ∙ c.if-not-has_tile.false) count all
