use Rattle.std.proofs.Common.{◌≡◌, [], Some, None, length, map, true, false, sym, ◌∙◌, ap, arith, rules}
use Rattle.std.proofs.lemmas.List.{map-append}
use Rattle.std.proofs.lemmas.Result.{err_from_is_err_and}
use Rattle.plain_filters.specs.Filters.{tree_of, sum_tree, product_tree, sums_of, products_of}
use Rattle.filter_expr.specs.Spelled.{sum_token, product_token}
use Rattle.filter_expr.specs.Signs.{sum_chain, product_chain}
use Rattle.filter_expr.specs.Reading.{got, sum_in, product_in, unary_in, within_depth, starts, later}
use Rattle.filter_expr.specs.inner.Connectives.{connective_kind, chain_in}
use Rattle.filter_expr.specs.inner.Kinds.{is_of, next_sign}
use Rattle.filter_expr.specs.inner.Parts.{tree_of_sum, tree_of_product, read_sum, read_product}
use Rattle.filter_expr.proofs.Nodes.{read_sum-made, read_product-made, tree-Sum, tree-Product}
use Rattle.filter_expr.proofs.Chains.{wrong, loop_goes, later-stop, chain_reads}
use Rattle.filter_expr.proofs.Local.{shortens, drop_one, within_local, unary_local, product_local}
use Rattle.filter_expr.proofs.Loops.{sign_joins, sign_is, no_sign, first_fails, part_fails, chain_ends, sum_made, product_made, none_found, grown, grown_more}
use Rattle.filter_expr.proofs.Connectives.{no_first, first_alone, first_read, one_more, no_more, all_read}
use Rattle.filter_expr.proofs.parser.+parser.Goals as goal

pub product-returns-in_err-first-clause-read : goal.product-returns-in_err-first-clause-read
unfolding product_in
product-returns-in_err-first-clause-read t c =
    let p = err_from_is_err_and c.from_residual.result c.from_residual.ensures.1 in
    rw (p.1, p.2)
    (first_fails tree_of product_chain (unary_in (within_depth c.args.depth_left)) (shortens (unary_local (within_depth c.args.depth_left) (within_local c.args.depth_left)))
    c.args.stream.now c.unary.new.stream c.in_err-first.field-0.0 c.in_err-first.ensures.read)

pub product-returns-in_err-part-clause-read : goal.product-returns-in_err-part-clause-read
unfolding product_in
product-returns-in_err-part-clause-read t c =
    let next : Some (product_token c.in-Some.sign) ≡ next_sign product_chain c.products.stream = search rules in
    let p = err_from_is_err_and c.from_residual-in_err-part.result c.from_residual-in_err-part.ensures.1 in
    rw (p.1, p.2)
    (part_fails tree_of product_chain (unary_in (within_depth c.args.depth_left)) (shortens (unary_local (within_depth c.args.depth_left) (within_local c.args.depth_left)))
    c.args.stream.now c.unary.new.stream (tree_of c.in_ok-first.first) c.in_ok-first.ensures.read (map read_product c.products.parts.items) c.products.stream c.products.invariant.read
    (sign_joins product_chain c.products.stream (product_token c.in-Some.sign) next) c.in_err-part.field-0.0 c.unary-in-Some.new.stream (rw c.skip.ensures at c.in_err-part.ensures.read))

pub product-products-preserved : goal.product-products-preserved
product-products-preserved t c = record {
  read =
      let next : Some (product_token c.in-Some.sign) ≡ next_sign product_chain c.products.stream = search rules in
      rw (c.in_ok-push.ensures.items, map-append, read_product-made)
      (loop_goes product_chain (unary_in (within_depth c.args.depth_left)) (shortens (unary_local (within_depth c.args.depth_left) (within_local c.args.depth_left)))
      (map read_product c.products.parts.items) c.products.stream (later product_chain (unary_in (within_depth c.args.depth_left)) c.unary.new.stream) c.products.invariant.read
      (product_token c.in-Some.sign) (tree_of c.in_ok-part.part) c.unary-in-Some.new.stream (sign_joins product_chain c.products.stream (product_token c.in-Some.sign) next)
      (sign_is product_chain c.products.stream (product_token c.in-Some.sign) next) (rw c.skip.ensures at c.in_ok-part.ensures.read));
  many = λ _. rw c.in_ok-push.ensures.items (grown c.products.parts.items _);
  left = omega (arith, drop_one c.products.stream, ap length c.skip.ensures, c.unary-in-Some.ensures.left, c.products.invariant.left);
}

pub product-returns-then-is_none-clause-read : goal.product-returns-then-is_none-clause-read
unfolding product_in
product-returns-then-is_none-clause-read t c =
    let stop : None ≡ next_sign product_chain c.unary.new.stream = none_found product_token c.product_sign.result (next_sign product_chain c.unary.new.stream) c.is_none.result c.product_sign.ensures c.is_none.ensures c.if-is_none.true in
    chain_reads product_chain (unary_in (within_depth c.args.depth_left)) c.args.stream.now c.unary.new.stream (tree_of c.in_ok-first.first) (got [] c.unary.new.stream) c.in_ok-first.ensures.read
    (later-stop product_chain (unary_in (within_depth c.args.depth_left)) c.unary.new.stream (no_sign product_chain c.unary.new.stream stop))

pub product-returns-clause-read : goal.product-returns-clause-read
unfolding product_in
product-returns-clause-read t c =
    let stop : None ≡ next_sign product_chain c.products.stream = search rules in
    let some : length c.products.parts.items ≡ 0 → ⊥ = λ e. omega (arith, e, c.products.invariant.many stop) in
    (chain_ends tree_of product_chain (unary_in (within_depth c.args.depth_left)) (shortens (unary_local (within_depth c.args.depth_left) (within_local c.args.depth_left)))
    c.args.stream.now c.unary.new.stream (tree_of c.in_ok-first.first) c.in_ok-first.ensures.read (map read_product c.products.parts.items) c.products.stream c.products.invariant.read
    (no_sign product_chain c.products.stream stop)
    ∙ ap (λ e. got e c.products.stream) (product_made (tree_of c.in_ok-first.first) c.products.parts.items some ∙ sym (tree-Product c.in_ok-first-2.first c.products.parts ∙ ap (λ e. product_tree (tree_of e) (products_of (map tree_of_product c.products.parts.items))) c.in_ok-first-2.ensures.ok)))

pub sum-returns-in_err-first-clause-read : goal.sum-returns-in_err-first-clause-read
unfolding sum_in
sum-returns-in_err-first-clause-read t c =
    let p = err_from_is_err_and c.from_residual.result c.from_residual.ensures.1 in
    rw (p.1, p.2)
    (first_fails tree_of sum_chain (product_in (within_depth c.args.depth_left)) (shortens (product_local (within_depth c.args.depth_left) (within_local c.args.depth_left)))
    c.args.stream.now c.product.new.stream c.in_err-first.field-0.0 c.in_err-first.ensures.read)

pub sum-returns-in_err-part-clause-read : goal.sum-returns-in_err-part-clause-read
unfolding sum_in
sum-returns-in_err-part-clause-read t c =
    let next : Some (sum_token c.in-Some.sign) ≡ next_sign sum_chain c.sums.stream = search rules in
    let p = err_from_is_err_and c.from_residual-in_err-part.result c.from_residual-in_err-part.ensures.1 in
    rw (p.1, p.2)
    (part_fails tree_of sum_chain (product_in (within_depth c.args.depth_left)) (shortens (product_local (within_depth c.args.depth_left) (within_local c.args.depth_left)))
    c.args.stream.now c.product.new.stream (tree_of c.in_ok-first.first) c.in_ok-first.ensures.read (map read_sum c.sums.parts.items) c.sums.stream c.sums.invariant.read
    (sign_joins sum_chain c.sums.stream (sum_token c.in-Some.sign) next) c.in_err-part.field-0.0 c.product-in-Some.new.stream (rw c.skip.ensures at c.in_err-part.ensures.read))

pub sum-sums-preserved : goal.sum-sums-preserved
sum-sums-preserved t c = record {
  read =
      let next : Some (sum_token c.in-Some.sign) ≡ next_sign sum_chain c.sums.stream = search rules in
      rw (c.in_ok-push.ensures.items, map-append, read_sum-made)
      (loop_goes sum_chain (product_in (within_depth c.args.depth_left)) (shortens (product_local (within_depth c.args.depth_left) (within_local c.args.depth_left)))
      (map read_sum c.sums.parts.items) c.sums.stream (later sum_chain (product_in (within_depth c.args.depth_left)) c.product.new.stream) c.sums.invariant.read
      (sum_token c.in-Some.sign) (tree_of c.in_ok-part.part) c.product-in-Some.new.stream (sign_joins sum_chain c.sums.stream (sum_token c.in-Some.sign) next)
      (sign_is sum_chain c.sums.stream (sum_token c.in-Some.sign) next) (rw c.skip.ensures at c.in_ok-part.ensures.read));
  many = λ _. rw c.in_ok-push.ensures.items (grown c.sums.parts.items _);
  left = omega (arith, drop_one c.sums.stream, ap length c.skip.ensures, c.product-in-Some.ensures.left, c.sums.invariant.left);
}

pub sum-returns-then-is_none-clause-read : goal.sum-returns-then-is_none-clause-read
unfolding sum_in
sum-returns-then-is_none-clause-read t c =
    let stop : None ≡ next_sign sum_chain c.product.new.stream = none_found sum_token c.sum_sign.result (next_sign sum_chain c.product.new.stream) c.is_none.result c.sum_sign.ensures c.is_none.ensures c.if-is_none.true in
    chain_reads sum_chain (product_in (within_depth c.args.depth_left)) c.args.stream.now c.product.new.stream (tree_of c.in_ok-first.first) (got [] c.product.new.stream) c.in_ok-first.ensures.read
    (later-stop sum_chain (product_in (within_depth c.args.depth_left)) c.product.new.stream (no_sign sum_chain c.product.new.stream stop))

pub sum-returns-clause-read : goal.sum-returns-clause-read
unfolding sum_in
sum-returns-clause-read t c =
    let stop : None ≡ next_sign sum_chain c.sums.stream = search rules in
    let some : length c.sums.parts.items ≡ 0 → ⊥ = λ e. omega (arith, e, c.sums.invariant.many stop) in
    (chain_ends tree_of sum_chain (product_in (within_depth c.args.depth_left)) (shortens (product_local (within_depth c.args.depth_left) (within_local c.args.depth_left)))
    c.args.stream.now c.product.new.stream (tree_of c.in_ok-first.first) c.in_ok-first.ensures.read (map read_sum c.sums.parts.items) c.sums.stream c.sums.invariant.read
    (no_sign sum_chain c.sums.stream stop)
    ∙ ap (λ e. got e c.sums.stream) (sum_made (tree_of c.in_ok-first.first) c.sums.parts.items some ∙ sym (tree-Sum c.in_ok-first-2.first c.sums.parts ∙ ap (λ e. sum_tree (tree_of e) (sums_of (map tree_of_sum c.sums.parts.items))) c.in_ok-first-2.ensures.ok)))

pub chain-returns-in_err-first-clause-read : goal.chain-returns-in_err-first-clause-read
chain-returns-in_err-first-clause-read t c =
    let p = err_from_is_err_and c.from_residual.result c.from_residual.ensures.1 in
    rw (p.1, p.2) (no_first c.args.connective c.args.depth_left tree_of c.args.stream.now c.chain_part.new.stream c.in_err-first.field-0.0 c.in_err-first.ensures.read)

pub chain-returns-then-not-next_is-clause-read : goal.chain-returns-then-not-next_is-clause-read
chain-returns-then-not-next_is-clause-read t c =
    let stop : false ≡ starts (is_of (connective_kind c.args.connective)) c.chain_part.new.stream = rw (sym c.token.ensures) (search rules) in
    first_alone c.args.connective c.args.depth_left c.args.stream.now c.chain_part.new.stream (tree_of c.in_ok-first.first) c.in_ok-first.ensures.read stop

pub chain-parts-init : goal.chain-parts-init
chain-parts-init t c =
    let next : true ≡ starts (is_of (connective_kind c.args.connective)) c.chain_part.new.stream = rw (sym c.token.ensures) (search rules) in
    record {
      read = rw (c.in_ok-push.ensures.items, c.new-parts.ensures.items) (first_read c.args.connective c.args.depth_left c.args.stream.now c.chain_part.new.stream (tree_of c.in_ok-first.first) c.in_ok-first.ensures.read);
      some = rw c.in_ok-push.ensures.items (grown _ _);
      many = λ stop. absurd (wrong (stop ∙ sym next));
      left = c.chain_part.ensures.left;
    }

pub chain-returns-in_err-part-clause-read : goal.chain-returns-in_err-part-clause-read
chain-returns-in_err-part-clause-read t c =
    let next : true ≡ starts (is_of (connective_kind c.args.connective)) c.parts.stream = rw (sym c.token-in-parts.ensures) (search rules) in
    let p = err_from_is_err_and c.from_residual-in_err-part.result c.from_residual-in_err-part.ensures.1 in
    rw (p.1, p.2)
    (no_more c.args.connective c.args.depth_left (chain_in c.args.connective (within_depth c.args.depth_left) c.args.stream.now) c.parts.parts.items c.parts.invariant.some c.parts.stream
    c.parts.invariant.read tree_of next c.in_err-part.field-0.0 c.chain_part-in-parts.new.stream (rw c.skip.ensures at c.in_err-part.ensures.read))

pub chain-parts-preserved : goal.chain-parts-preserved
chain-parts-preserved t c =
    let next : true ≡ starts (is_of (connective_kind c.args.connective)) c.parts.stream = rw (sym c.token-in-parts.ensures) (search rules) in
    record {
      read = rw c.in_ok-push-2.ensures.items
          (one_more c.args.connective c.args.depth_left (chain_in c.args.connective (within_depth c.args.depth_left) c.args.stream.now) c.parts.parts.items c.parts.invariant.some c.parts.stream
          c.parts.invariant.read next c.in_ok-part.part c.chain_part-in-parts.new.stream (rw c.skip.ensures at c.in_ok-part.ensures.read));
      some = rw c.in_ok-push-2.ensures.items (grown c.parts.parts.items _);
      many = λ _. rw c.in_ok-push-2.ensures.items (grown_more c.parts.parts.items _ c.parts.invariant.some);
      left = omega (arith, drop_one c.parts.stream, ap length c.skip.ensures, c.chain_part-in-parts.ensures.left, c.parts.invariant.left);
    }

pub chain-returns-clause-read : goal.chain-returns-clause-read
chain-returns-clause-read t c =
    let stop : false ≡ starts (is_of (connective_kind c.args.connective)) c.parts.stream = rw (sym c.token-in-parts.ensures) (search rules) in
    all_read c.args.connective c.args.depth_left (chain_in c.args.connective (within_depth c.args.depth_left) c.args.stream.now) c.parts.parts.items c.parts.invariant.some c.parts.stream
    c.parts.invariant.read (c.parts.invariant.many stop) stop
    ∙ ap (λ e. got e c.parts.stream) (sym c.join.ensures)
