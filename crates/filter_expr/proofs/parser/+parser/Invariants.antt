use Rattle.std.proofs.Common.{◌≡◌, ℕ, ◌+◌, ◌*◌, ◌≤◌, length, map, false, None}
use Rattle.filter_expr.specs.declared.parser.Connective.{Connective}
use Rattle.filter_expr.specs.declared.parser.Connective.TheVariants as connective
use Rattle.filter_expr.specs.Signs.{sum_chain, product_chain}
use Rattle.plain_filters.specs.Filters.{tree_of}
use Rattle.filter_expr.specs.Reading.{with_front, later, within_depth, starts, product_in, unary_in}
use Rattle.filter_expr.specs.inner.Connectives.{connective_kind, connective_token, chain_kind, chain_in, part_in}
use Rattle.filter_expr.specs.inner.Kinds.{is_of, next_sign}
use Rattle.filter_expr.specs.inner.Parts.{read_sum, read_product}
use Rattle.filter_expr.proofs.Connectives.{resumed}
use Rattle.filter_expr.proofs.parser.+parser.Given as goal

-- how far a chain's row stands above the ones that no word joins
abbrev rank : Connective → ℕ
rank connective.Or = 9
rank connective.And = 7

abbrev pub decreases-chain : goal.decreases-chain
decreases-chain l = 16 * l.depth_left + rank l.connective + 1

abbrev pub decreases-chain_part : goal.decreases-chain_part
decreases-chain_part l = 16 * l.depth_left + rank l.connective

abbrev pub decreases-not_part : goal.decreases-not_part
decreases-not_part l = 16 * l.depth_left + 6

abbrev pub decreases-comparison : goal.decreases-comparison
decreases-comparison l = 16 * l.depth_left + 5

abbrev pub decreases-sum : goal.decreases-sum
decreases-sum l = 16 * l.depth_left + 4

abbrev pub decreases-product : goal.decreases-product
decreases-product l = 16 * l.depth_left + 3

abbrev pub decreases-unary : goal.decreases-unary
decreases-unary l = 16 * l.depth_left + 2

abbrev pub decreases-atom : goal.decreases-atom
decreases-atom l = 16 * l.depth_left + 1

abbrev pub invariant-chain-parts : goal.invariant-chain-parts
invariant-chain-parts l = record {
  read : resumed (chain_kind l.connective) (connective_token l.connective) (map tree_of l.parts.items)
      (later (chain_kind l.connective) (part_in l.connective (within_depth l.depth_left)) l.stream)
      ≡ chain_in l.connective (within_depth l.depth_left) l.fn.stream;
  some : 1 ≤ length l.parts.items;
  many : false ≡ starts (is_of (connective_kind l.connective)) l.stream → 2 ≤ length l.parts.items;
  left : length l.stream ≤ length l.fn.stream;
}

abbrev pub decreases-chain-parts : goal.decreases-chain-parts
decreases-chain-parts l = length l.stream

abbrev pub invariant-sum-sums : goal.invariant-sum-sums
invariant-sum-sums l = record {
  read : with_front (map read_sum l.parts.items) (later sum_chain (product_in (within_depth l.depth_left)) l.stream)
      ≡ later sum_chain (product_in (within_depth l.depth_left)) l.initial.stream;
  many : None ≡ next_sign sum_chain l.stream → 1 ≤ length l.parts.items;
  left : length l.stream ≤ length l.initial.stream;
}

abbrev pub decreases-sum-sums : goal.decreases-sum-sums
decreases-sum-sums l = length l.stream

abbrev pub invariant-product-products : goal.invariant-product-products
invariant-product-products l = record {
  read : with_front (map read_product l.parts.items) (later product_chain (unary_in (within_depth l.depth_left)) l.stream)
      ≡ later product_chain (unary_in (within_depth l.depth_left)) l.initial.stream;
  many : None ≡ next_sign product_chain l.stream → 1 ≤ length l.parts.items;
  left : length l.stream ≤ length l.initial.stream;
}

abbrev pub decreases-product-products : goal.decreases-product-products
decreases-product-products l = length l.stream
