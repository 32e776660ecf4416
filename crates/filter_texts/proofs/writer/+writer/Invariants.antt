use Rattle.std.proofs.Common.{◌≡◌, map, drop, string_bytes}
use Rattle.plain_filters.specs.Filters.{tree_of}
use Rattle.filter_expr.specs.inner.Parts.{read_sum, read_product}
use Rattle.filter_texts.specs.inner.Pieces.{put_parts, put_list, put_terms}
use Rattle.filter_texts.proofs.writer.+writer.Given as goal

abbrev pub invariant-put_list-loop-i : goal.invariant-put_list-loop-i
invariant-put_list-loop-i l =
    put_parts l.word l.least (map tree_of (drop l.i l.parts)) (string_bytes l.out) ≡ put_list l.word l.least (map tree_of l.parts) (string_bytes l.fn.out)

abbrev pub invariant-put_sums-loop-later : goal.invariant-put_sums-loop-later
invariant-put_sums-loop-later l =
    put_terms 5 (map read_sum (drop l.later-index l.parts)) (string_bytes l.out) ≡ put_terms 5 (map read_sum l.parts) (string_bytes l.initial.out)

abbrev pub invariant-put_products-loop-later : goal.invariant-put_products-loop-later
invariant-put_products-loop-later l =
    put_terms 6 (map read_product (drop l.later-index l.parts)) (string_bytes l.out) ≡ put_terms 6 (map read_product l.parts) (string_bytes l.initial.out)
