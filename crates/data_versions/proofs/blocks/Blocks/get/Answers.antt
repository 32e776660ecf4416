use Rattle.std.proofs.Common.{◌∙◌}
use Rattle.data_versions.proofs.Laid.{get_in}
use Rattle.data_versions.proofs.blocks.Blocks.get.Goals as goal

pub returns : goal.returns
returns g c =
    let begun = rw c.as_slice.ensures.value at c.last_start-at.ensures.begun in
    let next = rw c.as_slice.ensures.value at c.last_start-at.ensures.next in
    let bound = rw c.as_slice.ensures.value at c.last_start-at.ensures.bound in
    rw (← c.self.view_is) (c.get.ensures ∙ get_in g.B.Block.features c.self.inside.starts.items c.self.inside.count c.self.inside.list.items c.last_start-at.result c.args.i
    c.index-2.result.now c.index.result.now c.self.invariant bound c.index-2.ensures c.index.ensures c.if-i-self.false begun next)
