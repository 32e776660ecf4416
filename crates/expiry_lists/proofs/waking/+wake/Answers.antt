use Rattle.std.proofs.Common.{ap, sym, ◌∙◌}
use Rattle.farm_history.specs.declared.keys.Key.{Key}
use Rattle.expiry_lists.specs.inner.Nodes.{has_spot, lives_at}
use Rattle.expiry_lists.proofs.Paths.{wakes_same, wakes_then}
use Rattle.expiry_lists.proofs.waking.+wake.Goals as goal

pub returns-then-is_awake-clause-wakes : goal.returns-then-is_awake-clause-wakes
returns-then-is_awake-clause-wakes t c = wakes_same c.args.nodes.now c.args.place c.args.mask c.requires.tree (sym c.is_awake.ensures ∙ c.if-is_awake.true)

pub wake_one-requires-2-clause-tree : goal.wake_one-requires-2-clause-tree
wake_one-requires-2-clause-tree t c = c.wake.ensures.wakes.tree

pub wake_one-requires-2-clause-rooted : goal.wake_one-requires-2-clause-rooted
wake_one-requires-2-clause-rooted t c = λ deep. ap (has_spot c.wake.new.nodes.spots) (sym c.parent.ensures.value) ∙ c.wake.ensures.wakes.woken

pub wake_one-requires-2-clause-live_above : goal.wake_one-requires-2-clause-live_above
wake_one-requires-2-clause-live_above t c = λ b deep has. ap (λ (x : Key). lives_at c.wake.new.nodes.spots x b) (sym c.parent.ensures.value) ∙ c.wake.ensures.wakes.lives b has

pub returns-clause-wakes : goal.returns-clause-wakes
returns-clause-wakes t c = wakes_then c.parent.result c.args.place c.args.mask (ap (λ (x : Key). x.map) c.parent.ensures.value) c.wake.ensures.wakes c.wake_one-2.ensures.wakes
