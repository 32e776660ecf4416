use Rattle.std.proofs.Common.{◌≡◌, List, ℕ, Some, None, set, sym, ap, ◌∙◌}
use Rattle.std.specs.Prelude.{position}
use Rattle.std.specs.Str.{bytes_eq}
use Rattle.tile_store.proofs.Contents.{content_replaced, content_added}
use Rattle.tile_store.proofs.memory.hold.Goals as goal

pub returns-in-Some : goal.returns-in-Some
returns-in-Some c =
    let found : position (λ (p : List ℕ × List ℕ). bytes_eq p.0 c.args.path) c.args.held.now.items ≡ Some c.in-Some.place = sym (rw c.as_slice.ensures.value at c.in-Some.ensures) in
    ap (λ (x : List ℕ × List ℕ). set c.args.held.now.items c.in-Some.place (x.0, c.args.bytes)) c.index_mut.ensures.value
    ∙ content_replaced c.args.held.now.items c.args.path c.args.bytes c.in-Some.place c.index_mut.result.now found

pub returns-in-None : goal.returns-in-None
returns-in-None c =
    let none : position (λ (p : List ℕ × List ℕ). bytes_eq p.0 c.args.path) c.args.held.now.items ≡ None = sym (rw c.as_slice.ensures.value at c.in-None.ensures) in
    rw (c.push.ensures.items, c.unwrap.ensures) (content_added c.args.held.now.items c.args.path c.args.bytes none)
