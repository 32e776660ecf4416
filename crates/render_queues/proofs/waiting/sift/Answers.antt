use Rattle.std.proofs.Common.{rules, ◌≡◌, true, [], ◌∷◌, ◌++◌, ap, subst, sym, ◌∙◌, arith, append_assoc}
use Rattle.std.specs.Prelude.{is_some}
use Rattle.std.specs.List.{IsDistinct}
use Rattle.std.specs.Map.{keys_of}
use Rattle.indexmap.specs.IndexMap.{insert_entry}
use Rattle.indexmap.specs.Drain.{drain_rest}
use Rattle.farm_history.specs.Plans.{same_key}
use Rattle.render_queues.proofs.Entries.{sifted, sifted_more}
use Rattle.render_queues.proofs.waiting.sift.Goals as goal

pub loop-key-preserved-then-is_some : goal.loop-key-preserved-then-is_some
loop-key-preserved-then-is_some c =
    let all : c.loop-key.yielded ++ (c.in-Some.key, c.in-Some.queue) ∷ drain_rest c.next.new.self ≡ c.args.from.now.entries = ap (λ es. c.loop-key.yielded ++ es) (sym c.in-Some.ensures.steps.0) ∙ c.loop-key.invariant.all in
    let distinct : IsDistinct same_key (keys_of (c.loop-key.yielded ++ (c.in-Some.key, c.in-Some.queue) ∷ drain_rest c.next.new.self)) = subst (λ es. IsDistinct same_key (keys_of es)) (sym all) c.len-count.ensures.unique in
    let waits : is_some c.in-Some.queue ≡ true = search rules in
    let put : c.insert.new.self.entries ≡ insert_entry same_key c.loop-key.to.entries c.in-Some.key c.in-Some.queue = search (rules, c.insert.ensures.entries, c.unwrap.ensures) in
    let more = sifted_more c.loop-key.yielded (c.in-Some.key, c.in-Some.queue) waits in
    record {
      all = append_assoc c.loop-key.yielded ((c.in-Some.key, c.in-Some.queue) ∷ []) (drain_rest c.next.new.self) ∙ all;
      moved = put ∙ (ap (λ es. insert_entry same_key es c.in-Some.key c.in-Some.queue) c.loop-key.invariant.moved ∙ sifted c.loop-key.yielded _ (c.in-Some.key, c.in-Some.queue) distinct waits);
      room = omega (arith, more, c.insert.ensures.spare, c.loop-key.invariant.room);
    }
