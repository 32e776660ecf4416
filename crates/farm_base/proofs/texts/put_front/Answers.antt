use Rattle.std.proofs.Common.{◌≡◌, ◌≤◌, ◌-◌, length, ap, ◌∙◌, arith}
use borrow.Rule.Slice.PartMut.{mid_len}
use Rattle.farm_base.proofs.Fronts.{front_put}
use Rattle.farm_base.proofs.texts.put_front.Goals as goal

pub copy_from_slice-requires : goal.copy_from_slice-requires
copy_from_slice-requires c =
    let few : length c.args.front.now ≤ length c.deref_mut.result.now = omega (arith, c.requires, ap length c.deref_mut.ensures.value) in
    let all : length c.args.front.now - 0 ≡ length c.args.front.now = omega arith in
    mid_len 0 (length c.args.front.now) c.deref_mut.result.now few ∙ all

pub returns : goal.returns
returns c =
    front_put c.args.bytes.now c.deref_mut.result.now c.args.front.now c.copy_from_slice.new.self (omega (arith, c.requires, ap length c.deref_mut.ensures.value)) c.deref_mut.ensures.value
    c.deref_mut.ensures.len c.copy_from_slice.ensures.after
