use Rattle.std.proofs.Common.{◌-◌, nat_le, ap, ◌∙◌, arith}
use Rattle.raster_core.proofs.Corners.{upper_at, lower_at, column_between}
use Rattle.raster_core.proofs.edges.same_column.Goals as goal

pub column-first-requires-clause-upper : goal.column-first-requires-clause-upper
column-first-requires-clause-upper c = upper_at c.args.w c.args.e c.args.from c.requires.edge c.requires.top (omega (arith, c.requires.bottom, c.requires.edge.few_rows))

pub column-first-requires-clause-lower : goal.column-first-requires-clause-lower
column-first-requires-clause-lower c = lower_at c.args.w c.args.e c.args.from c.requires.edge (omega (arith, c.requires.bottom)) (omega (arith, c.requires.bottom, c.requires.edge.few_rows))

pub column-last-requires-clause-upper : goal.column-last-requires-clause-upper
column-last-requires-clause-upper c = upper_at c.args.w c.args.e (c.args.to - 1) c.requires.edge (omega (arith, c.requires.top)) (omega (arith, c.requires.bottom, c.requires.edge.few_rows))

pub column-last-requires-clause-lower : goal.column-last-requires-clause-lower
column-last-requires-clause-lower c = lower_at c.args.w c.args.e (c.args.to - 1) c.requires.edge (omega (arith, c.requires.bottom)) (omega (arith, c.requires.bottom, c.requires.edge.few_rows))

pub returns-then-first-last : goal.returns-then-first-last
returns-then-first-last c = λ j i low high col.
    column_between c.args.w c.args.e c.column-first.result c.args.from (c.args.to - 1) c.requires.edge c.requires.top (omega (arith, c.requires.bottom)) c.requires.edge.few_rows c.column-first.ensures.splits
    (λ n q. ap (λ k. nat_le k n) c.if-first-last.true ∙ c.column-last.ensures.splits n q) j i low (omega (arith, high)) col
