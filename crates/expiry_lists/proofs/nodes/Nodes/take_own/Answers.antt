use Rattle.std.proofs.Common.{◌≡◌, ◌<◌, ◌^◌, Some, ap, sym, ◌∙◌, subst, rules}
use Rattle.std.specs.Prelude.{bit_and, count_ones, position}
use Rattle.std.specs.Map.{keys_of, set_value}
use Rattle.farm_history.specs.Plans.{same_key}
use Rattle.expiry_lists.specs.inner.Nodes.{NodeTable, at_bits, seen_nodes, shown_of, spot_of, AreOwned}
use Rattle.expiry_lists.specs.inner.Walks.{Dirties}
use Rattle.expiry_lists.proofs.Placing.{placed_value}
use Rattle.expiry_lists.proofs.Seen.{seen_keys}
use Rattle.expiry_lists.proofs.Spots.{taken, taken_dirties, taken_owned}
use Rattle.expiry_lists.proofs.nodes.Nodes.take_own.Goals as goal
use Rattle.expiry_lists.proofs.nodes.Nodes.take_own.Goals.{After-from}

put : (c : After-from) → c.put_spot_at.new.self.spots ≡ set_value (same_key c.args.place) c.self.inside.tables.spots (taken c.args.spot c.args.mask)
put c = c.put_spot_at.ensures.spots ∙ placed_value c.self.inside.tables.spots c.args.place c.args.at _ (ap (λ (t : NodeTable). position (same_key c.args.place) (keys_of t.spots)) c.self.view_is ∙ c.requires.at)

found : (c : After-from) → spot_of c.self.inside.tables.spots c.args.place ≡ Some c.args.spot
found c = ap (λ (t : NodeTable). spot_of t.spots c.args.place) c.self.view_is ∙ c.requires.found

few : (c : After-from) → bit_and c.args.spot.own c.args.mask < 2 ^ 64
few c = search rules

pub invariant_of-self : goal.invariant_of-self
invariant_of-self c =
    let i = c.self.inside.tables in
    let new = c.put_spot_at.new.self in
    subst (λ vs. AreOwned (seen_nodes new.spots vs) new.spots) (sym c.put_spot_at.ensures.versions)
    (taken_owned i.versions i.spots new.spots c.args.place c.args.spot c.args.mask c.ranges.mask.fits (few c) c.len-count.ensures.unique (found c) c.self.invariant (put c))

pub returns-clause-dirties : goal.returns-clause-dirties
returns-clause-dirties c =
    let i = c.self.inside.tables in
    let new = c.put_spot_at.new.self in
    let at_inside : Dirties (at_bits c.args.place c.args.mask) (shown_of (seen_nodes i.spots i.versions)) (shown_of (seen_nodes new.spots i.versions)) (count_ones (bit_and c.args.spot.own c.args.mask))
    = taken_dirties i.versions i.spots new.spots c.args.place c.args.spot c.args.mask c.ranges.mask.fits (few c) c.len-count.ensures.unique (found c) c.self.invariant (put c) in
    let told : c.from.result ≡ count_ones (bit_and c.args.spot.own c.args.mask) = search rules in
    subst (λ n. Dirties (at_bits c.args.place c.args.mask) (shown_of c.args.self.now.entries) (shown_of (seen_nodes new.spots new.versions)) n) (sym told)
    (subst (λ vs. Dirties (at_bits c.args.place c.args.mask) (shown_of c.args.self.now.entries) (shown_of (seen_nodes new.spots vs)) (count_ones (bit_and c.args.spot.own c.args.mask))) (sym c.put_spot_at.ensures.versions)
    (subst (λ (t : NodeTable). Dirties (at_bits c.args.place c.args.mask) (shown_of t.entries) (shown_of (seen_nodes new.spots i.versions)) (count_ones (bit_and c.args.spot.own c.args.mask))) c.self.view_is at_inside))

pub returns-clause-keys : goal.returns-clause-keys
returns-clause-keys c =
    let i = c.self.inside.tables in
    seen_keys c.put_spot_at.new.self.spots c.put_spot_at.new.self.versions
    ∙ (ap keys_of c.put_spot_at.ensures.versions ∙ (sym (seen_keys i.spots i.versions) ∙ ap (λ (t : NodeTable). keys_of t.entries) c.self.view_is))

pub returns-clause-spots : goal.returns-clause-spots
returns-clause-spots c = put c ∙ ap (λ (t : NodeTable). set_value (same_key c.args.place) t.spots (taken c.args.spot c.args.mask)) c.self.view_is
