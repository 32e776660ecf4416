use Rattle.std.proofs.Common.{◌≡◌, ◌+◌, ◌*◌, ap, ◌∙◌, arith, length, subst, IsOkAnd}
use Rattle.turn_cell.specs.SeatStates.{split_left, split_right, joining}
use Rattle.turn_cell.proofs.Counting.{seen_by_two}
use Rattle.farm_trials.proofs.counter.count_both.Goals as goal

-- what the first seat has seen when it closes the cell
counted : (g : _) (c : goal.Then-both g) → length c.join-2.new.into.seen ≡ 2 * c.args.each
counted g c =
    let made = c.in-Ok.ensures.seat.1 in
    let one = subst (λ r. IsOkAnd r (λ seat. seat ≡ split_right c.in-Ok.first)) c.unwrap-one.ensures c.split.ensures.new in
    let two = subst (λ r. IsOkAnd r (λ seat. seat ≡ split_right c.split.new.first)) c.unwrap-two.ensures c.split-2.ensures.new in
    let split = c.split.ensures.first ∙ ap split_left made in
    let full = c.join-2.ensures.joined ∙ ap (λ h. joining h c.join-one.result.1.0) (c.join.ensures.joined ∙ ap (λ h. joining h c.join-one.result.0.0) (c.split-2.ensures.first ∙ ap split_left split)) in
    let n₁ = c.join-one.ensures.first.0.1.0 ∙ ap (λ h. h.number) one ∙ ap (λ h. h.splits + 1) made in
    let n₂ = c.join-one.ensures.second.0.1.0 ∙ ap (λ h. h.number) two ∙ ap (λ h. h.splits + 1) split in
    let long = seen_by_two c.in-Ok.cell c.join-one.result.0.0 c.join-one.result.1.0 c.join-2.new.into full c.join-2.ensures.known n₁ n₂ in
    let first = c.join-one.ensures.first.1 c.if-all.true in
    let second = c.join-one.ensures.second.1 c.if-both.true in
    let fresh₁ = ap (λ h. length h.mine) one in
    let fresh₂ = ap (λ h. length h.mine) two in
    omega (arith, long, first, second, fresh₁, fresh₂)

pub returns-then-both-clause-value : goal.returns-then-both-clause-value
returns-then-both-clause-value g c = c.close-closed.ensures.value.stands_now ∙ counted g c

pub returns-then-both-clause-history : goal.returns-then-both-clause-history
returns-then-both-clause-history g c = ap length c.close-closed.ensures.history ∙ counted g c
