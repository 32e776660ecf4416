use Rattle.std.proofs.Common.{List, ℕ, ◌++◌, sym, ap, ◌∙◌, append_assoc}
use Rattle.std.specs.List.{flat_map}
use Rattle.std.proofs.lemmas.List.{append-nil}
use Rattle.meta_container.specs.declared.container.Span.{Span}
use Rattle.meta_container.specs.Container.{span_bytes, span_at, index_below}
use Rattle.meta_container.proofs.Index.{no_pair, one_more_pair}
use Rattle.meta_container.proofs.writing.put_even_index.Goals as goal

pub loop-place-init : goal.loop-place-init
loop-place-init c tiles count all =
    sym (ap (λ (bs : List ℕ). c.args.out.now.items ++ bs) (no_pair c.args.across tiles) ∙ append-nil c.args.out.now.items)

pub loop-place-preserved : goal.loop-place-preserved
loop-place-preserved c tiles count all =
    c.in_ok-put_span.ensures
    ∙ ap (λ (s : Span). c.loop-place.out.items ++ span_bytes s) (c.even_span.ensures tiles count all)
    ∙ ap (λ (bs : List ℕ). bs ++ span_bytes (span_at c.args.across tiles c.loop-place.place)) (c.loop-place.invariant tiles count all)
    ∙ append_assoc c.args.out.now.items (flat_map span_bytes (index_below c.args.across tiles c.loop-place.place)) (span_bytes (span_at c.args.across tiles c.loop-place.place))
    ∙ ap (λ (bs : List ℕ). c.args.out.now.items ++ bs) (sym (one_more_pair c.args.across tiles c.loop-place.place))
