use Rattle.std.proofs.Common.{ap, sym, ◌∙◌, ◌*◌}
use Rattle.meta_container.proofs.Heads.{head_written}
use Rattle.meta_container.proofs.writing.put_head.Goals as goal

pub returns : goal.returns
returns c tiles count all =
    head_written c.args.m c.tiles_across.result c.args.out.now.items c.put_mark.new.out.items c.put_even_index.new.out.items tiles c.tiles_across.ensures.value c.in_ok-put_mark.ensures
    (c.in_ok-put_even_index.ensures tiles (count ∙ sym (ap (λ n. n * n) c.tiles_across.ensures.value)) all)
