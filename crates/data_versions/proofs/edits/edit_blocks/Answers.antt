use Rattle.std.proofs.Common.{◌+◌, ◌++◌, length, drop, ap, sym, ◌∙◌, arith}
use Rattle.std.specs.List.{flat_map}
use Rattle.data_versions.specs.inner.Building.{built}
use Rattle.data_versions.specs.inner.Edits.{edited}
use Rattle.data_versions.proofs.Laid.{length_more, laid_within}
use Rattle.data_versions.proofs.Merged.{block_first, blocks_end}
use Rattle.data_versions.proofs.edits.edit_blocks.Goals as goal

pub edit_block-requires : goal.edit_block-requires
edit_block-requires g c =
    let inside = g.B.Block.features in
    let blocks = c.blocks-block-items.result.now in
    let i = c.loop-block.block-index in
    omega (
      arith,
      c.requires,
      ap length c.blocks-block-items.ensures,
      c.loop-block.invariant.number,
      length_more inside blocks i c.block-item.result c.loop-block-test.true c.block-item.is,
      laid_within inside blocks (i + 1),
    )

pub overflow_add-start : goal.overflow_add-start
overflow_add-start g c =
    let inside = g.B.Block.features in
    let blocks = c.blocks-block-items.result.now in
    let i = c.loop-block.block-index in
    omega (
      arith,
      c.requires,
      c.len-start.ensures,
      ap length c.blocks-block-items.ensures,
      c.loop-block.invariant.number,
      length_more inside blocks i c.block-item.result c.loop-block-test.true c.block-item.is,
      laid_within inside blocks (i + 1),
    )

pub loop-block-preserved : goal.loop-block-preserved
loop-block-preserved g c =
    let inside = g.B.Block.features in
    let blocks = c.blocks-block-items.result.now in
    let i = c.loop-block.block-index in
    let rest = flat_map inside (drop (i + 1) blocks) in record {
      number = omega (arith, c.len-start.ensures, c.loop-block.invariant.number, length_more inside blocks i c.block-item.result c.loop-block-test.true c.block-item.is);
      same = λ more. c.loop-block.invariant.same more
          ∙ ap (λ fs. built c.loop-block.builder ++ edited c.loop-block.start c.loop-block.edits fs) (block_first inside blocks more i c.block-item.result c.loop-block-test.true c.block-item.is)
          ∙ c.in_ok-edit_block.ensures (rest ++ more)
          ∙ ap (λ n. built c.edit_block.new.builder ++ edited (c.loop-block.start + n) c.edit_block.new.edits (rest ++ more)) (sym c.len-start.ensures);
    }

pub returns : goal.returns
returns g c = λ more.
    let inside = g.B.Block.features in
    let blocks = c.blocks-block-items.result.now in
    blocks_end inside blocks c.args.blocks.now more (built c.args.builder.now) (built c.loop-block.builder) c.args.first c.loop-block.start c.loop-block.block-index c.args.edits.now
    c.loop-block.edits c.blocks-block-items.ensures c.loop-block-test.false c.loop-block.invariant.number (c.loop-block.invariant.same more)
