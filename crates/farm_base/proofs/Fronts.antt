-- Bytes at the front of a vector.
use Rattle.std.proofs.Common.{◌≡◌, ℕ, ◌-◌, ◌≤◌, List, ◌++◌, length, drop, ap, sym, ◌∙◌, arith}
use Rattle.std.proofs.lemmas.List.{with_items_is}
use Rattle.std.specs.Vec.{with_items}
use Rattle.std.specs.declared.vec.Vec.{Vec}
use borrow.Rule.Slice.PartMut.{put_mid, same_len_mid, mid_len}

-- the list of bytes after others were copied to its front
pub front_put : {Z : Type 0} (v : Vec ℕ Z) (bytes front next : List ℕ) → length front ≤ length bytes → bytes ≡ v.items → length bytes ≡ v.len → next ≡ front
    → (with_items v (put_mid 0 (length front - 0) bytes next)).items ≡ front ++ drop (length front) v.items
front_put v bytes front next few value len copied =
    let all : length front - 0 ≡ length front = omega arith in
    let part : length next ≡ length front - 0 = ap length copied ∙ sym all in
    let as_many : length (put_mid 0 (length front - 0) bytes next) ≡ v.len = same_len_mid 0 (length front - 0) bytes next (part ∙ sym (mid_len 0 (length front) bytes few)) ∙ len in
    with_items_is v (put_mid 0 (length front - 0) bytes next) as_many
    ∙ ap (λ n. next ++ drop n bytes) all
    ∙ ap (λ bs. bs ++ drop (length front) bytes) copied
    ∙ ap (λ bs. front ++ drop (length front) bs) value
