use Rattle.std.proofs.Common.{◌<◌, ◌^◌, subst, sym, rules}
use Rattle.expiry_lists.specs.inner.Nodes.{IsTree}
use Rattle.expiry_lists.proofs.Spots.{hush_tree, hush_there, hush_quieter, hush_quiet, spotless_quiet}
use Rattle.expiry_lists.proofs.places.hush.Goals as goal
use Rattle.expiry_lists.proofs.places.hush.Goals.{After-put_live}

fits : (c : After-put_live) → c.in-Some.spot.live < 2 ^ 64
fits c = search rules

pub returns-in_default-clause-quiet : goal.returns-in_default-clause-quiet
returns-in_default-clause-quiet c = λ b masked. spotless_quiet c.args.nodes.now.spots c.args.place b (search rules)

pub returns-clause-tree : goal.returns-clause-tree
returns-clause-tree c =
    subst (λ es. IsTree es c.put_live.new.self.spots) (sym c.put_live.ensures.entries)
    (hush_tree c.args.nodes.now.entries c.args.nodes.now.spots c.put_live.new.self.spots c.args.place c.in-Some.spot c.args.mask c.ranges.mask.fits (fits c) c.requires.tree (search rules) c.requires.dirty c.requires.quiet_below c.put_live.ensures.spots)

pub returns-clause-there : goal.returns-clause-there
returns-clause-there c =
    hush_there c.args.nodes.now.entries c.args.nodes.now.spots c.put_live.new.self.spots c.args.place c.in-Some.spot c.args.mask c.ranges.mask.fits (fits c) c.requires.tree (search rules) c.requires.dirty c.requires.quiet_below c.put_live.ensures.spots

pub returns-clause-quieter : goal.returns-clause-quieter
returns-clause-quieter c =
    hush_quieter c.args.nodes.now.entries c.args.nodes.now.spots c.put_live.new.self.spots c.args.place c.in-Some.spot c.args.mask c.ranges.mask.fits (fits c) c.requires.tree (search rules) c.requires.dirty c.requires.quiet_below c.put_live.ensures.spots

pub returns-clause-quiet : goal.returns-clause-quiet
returns-clause-quiet c =
    hush_quiet c.args.nodes.now.entries c.args.nodes.now.spots c.put_live.new.self.spots c.args.place c.in-Some.spot c.args.mask c.ranges.mask.fits (fits c) c.requires.tree (search rules) c.requires.dirty c.requires.quiet_below c.put_live.ensures.spots
