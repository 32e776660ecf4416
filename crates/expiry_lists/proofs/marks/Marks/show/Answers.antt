use Rattle.std.proofs.Common.{◌≡◌, ◌≤◌, ◌-◌, ◌/◌, min, true, false, vec_len, vec_capacity, ap, sym, ◌∙◌, arith}
use Rattle.expiry_lists.specs.Marks.{MarksSeen}
use Rattle.expiry_lists.specs.inner.Nodes.{has_node, has_spot, place_of, bit_of}
use Rattle.expiry_lists.proofs.Showing.{place_for, shown_has, unlisted_gone, spotless_key, room_for_path, room_for_node, room_for_group, kept_after}
use Rattle.expiry_lists.proofs.marks.Marks.show.Goals as goal

pub add_group-requires : goal.add_group-requires
add_group-requires c = λ unlisted.
    let t = c.self.inside.nodes in
    let gone : has_node t.entries c.args.key ≡ false = spotless_key t c.self.invariant.tree c.args.key (unlisted_gone c.self.inside.groups.items t c.self.invariant (place_of c.args.key) unlisted) in
    let place = place_for t.entries c.len-count.ensures.unique c.args.key _ _ (ap (λ (m : MarksSeen). m.shown) c.self.view_is) c.requires.place gone in
    room_for_group _ _ _ _ _ (ap (λ (m : MarksSeen). m.room) c.self.view_is) place

pub wake-requires-clause-free : goal.wake-requires-clause-free
wake-requires-clause-free c = λ bare.
    let t = c.self.inside.nodes in
    let gone : has_node t.entries c.args.key ≡ false = spotless_key t c.self.invariant.tree c.args.key bare in
    let place = place_for t.entries c.len-count.ensures.unique c.args.key _ _ (ap (λ (m : MarksSeen). m.shown) c.self.view_is) c.requires.place gone in
    room_for_path _ _ _ _ c.args.key c.requires.meta (ap (λ (m : MarksSeen). m.room) c.self.view_is) place

pub put_mark-requires-clause-live : goal.put_mark-requires-clause-live
put_mark-requires-clause-live c = λ deep clean. c.wake.ensures.wakes.lives (bit_of c.args.key) (c.clean_bit-mask.ensures clean)

pub put_mark-requires-clause-room : goal.put_mark-requires-clause-room
put_mark-requires-clause-room c = λ absent.
    let t = c.self.inside.nodes in
    let gone : has_node t.entries c.args.key ≡ false = sym (ap (λ es. has_node es c.args.key) c.wake.ensures.wakes.entries) ∙ absent in
    let place = place_for t.entries c.len-count.ensures.unique c.args.key _ _ (ap (λ (m : MarksSeen). m.shown) c.self.view_is) c.requires.place gone in
    let some : 1 ≤ t.room = room_for_node _ _ _ _ (ap (λ (m : MarksSeen). m.room) c.self.view_is) place in
    omega (arith, some, c.wake.ensures.wakes.room)

pub invariant_of-self : goal.invariant_of-self
invariant_of-self c =
    kept_after c.self.inside.groups.items c.add_group.new.maps.items c.self.inside.nodes c.wake.new.nodes c.put_mark.new.nodes (place_of c.args.key) c.clean_bit-mask.result c.self.invariant c.wake.ensures.wakes
    c.put_mark.ensures.there c.put_mark.ensures.tree c.add_group.ensures.others c.add_group.ensures.added

pub returns-clause-free : goal.returns-clause-free
returns-clause-free c = λ some.
    let t = c.self.inside.nodes in
    let there : has_node t.entries c.args.key ≡ true = shown_has t.entries c.len-count.ensures.unique c.args.key _ (ap (λ (m : MarksSeen). m.shown) c.self.view_is) some in
    let spot : has_spot t.spots (place_of c.args.key) ≡ true = c.self.invariant.tree.spotted c.args.key there in
    let after : has_node c.wake.new.nodes.entries c.args.key ≡ true = ap (λ es. has_node es c.args.key) c.wake.ensures.wakes.entries ∙ there in
    let nodes : c.put_mark.new.nodes.room ≡ t.room = c.put_mark.ensures.known after ∙ c.wake.ensures.wakes.room in
    let free : c.put_mark.new.nodes.free ≡ t.free = c.put_mark.ensures.free ∙ c.wake.ensures.there spot in
    let groups : c.add_group.new.maps ≡ c.self.inside.groups = c.add_group.ensures.free (c.self.invariant.listed (place_of c.args.key) spot) in
    ap (λ n. min n (min (c.put_mark.new.nodes.free / 16) (vec_capacity c.add_group.new.maps - vec_len c.add_group.new.maps))) nodes
    ∙ (ap (λ n. min t.room (min (n / 16) (vec_capacity c.add_group.new.maps - vec_len c.add_group.new.maps))) free
    ∙ (ap (λ ms. min t.room (min (t.free / 16) (vec_capacity ms - vec_len ms))) groups ∙ ap (λ (m : MarksSeen). m.room) c.self.view_is))
