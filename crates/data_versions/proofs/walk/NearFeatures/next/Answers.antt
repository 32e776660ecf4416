use Rattle.std.proofs.Common.{◌+◌, ◌++◌, ℕ, length, drop, ap, ◌∙◌, arith}
use Rattle.std.proofs.lemmas.List.{drop_all}
use Rattle.data_versions.specs.Near.{is_near, all_near}
use Rattle.data_versions.proofs.Laid.{part_kept}
use Rattle.data_versions.proofs.Walks.{part_next, found_next, at_end}
use Rattle.data_versions.proofs.walk.NearFeatures.next.Goals as goal

pub overflow_add-self : goal.overflow_add-self
overflow_add-self c = omega (arith, c.in-Some.ensures.place.1, c.loop-place.invariant.sifted.marked.few)

pub offset_bounds-here-place : goal.offset_bounds-here-place
offset_bounds-here-place c = omega (arith, c.in-Some.ensures.place.1, c.loop-place.invariant.sifted.marked.few)

pub invariant_of-self : goal.invariant_of-self
invariant_of-self c =
    rw (c.loop-place.invariant.wanted, c.loop-place.invariant.segments) ((c.loop-place.invariant.within, c.loop-place.invariant.sifted))

pub returns-in-Some : goal.returns-in-Some
returns-in-Some c =
    let w = c.self.inside.wanted in
    rw (c.loop-place.invariant.wanted, c.loop-place.invariant.segments)
    (found_next w c.args.self.now c.loop-place.here.now (drop c.loop-place.from c.self.inside.segments.now) c.loop-place.at c.in-Some.place c.index-here-place.result
    c.loop-place.invariant.asked c.loop-place.invariant.left c.in-Some.ensures.place.0 c.in-Some.ensures.place.1 c.index-here-place.is
    (ap (is_near w.around) c.index-here-place.is ∙ c.in-Some.ensures.near c.index-here-place.result) c.in-Some.ensures.passed)

pub invariant_of-self-then-from-count : goal.invariant_of-self-then-from-count
invariant_of-self-then-from-count c =
    rw (c.loop-place.invariant.wanted, c.loop-place.invariant.segments)
    ((
      c.loop-place.invariant.within,
      record {
        marked = record { few = omega arith; long = c.loop-place.invariant.sifted.marked.long; each = λ k d small off. absurd (omega arith) };
        near = λ said k d small. absurd (omega arith);
      },
    ))

pub returns-then-from-count : goal.returns-then-from-count
returns-then-from-count c =
    let w = c.self.inside.wanted in
    let rest = drop c.loop-place.from c.self.inside.segments.now in
    rw (c.loop-place.invariant.wanted, c.loop-place.invariant.segments)
    (at_end w c.args.self.now c.loop-place.here.now rest c.loop-place.at c.loop-place.invariant.asked c.loop-place.invariant.left c.in_default.ensures.passed
    (drop_all c.loop-place.from c.self.inside.segments.now (omega (arith, c.loop-place.invariant.count, c.if-from-count.true))))

pub loop-place-preserved : goal.loop-place-preserved
loop-place-preserved c =
    let w = c.self.inside.wanted in
    let all = c.self.inside.segments.now in
    let part = c.part_from-place.result.1.now in
    let after : ℕ = c.part_from-place.result.0 + length part in record {
      asked = c.loop-place.invariant.asked;
      left = part_next w c.args.self.now.left c.loop-place.here.now (drop c.loop-place.from all) (all_near (part ++ drop after all) w.around) c.loop-place.at
          c.loop-place.invariant.left c.in_default.ensures.passed (part_kept (is_near w.around) all c.loop-place.from c.part_from-place.result.0 part c.part_from-place.ensures.part);
      sifted = c.part_from-place.ensures.sifted;
      wanted = c.loop-place.invariant.wanted;
      segments = c.loop-place.invariant.segments;
      within = c.part_from-place.ensures.part.within c.loop-place.invariant.within;
      count = c.loop-place.invariant.count;
    }
