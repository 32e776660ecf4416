-- One entry after another.
use Rattle.std.proofs.Common.{◌≡◌, ◌∙◌, get_or, sym, subst, arith}
use Rattle.std.proofs.lemmas.Option.{slice_get-get_or, get_or_from_slice_get}
use Rattle.farm_history.specs.declared.keys.Kept.{Kept}
use Rattle.farm_history.proofs.Resumed.{rising_apart}
use Rattle.farm_plan.specs.Plans.{FarmPlan}
use Rattle.farm_core.specs.inner.Replays.{CanReplay, ReplaysAt}
use Rattle.farm_core.proofs.Replaying.{each_at, stays_then, version_at, turns_at, many_more, fresh_more, fresh_next, keys_more, keys_all}
use Rattle.farm_core.proofs.farm.Farm.replay_keys.Goals as goal

abbrev nowhere : Kept
nowhere = record { key = record { map = 0; meta = record { z = 0; x = 0; y = 0 } }; version = 0 }

pub loop-kept-preserved : goal.loop-kept-preserved
loop-kept-preserved g c =
    let x : Kept = get_or c.args.clean.now c.loop-kept.kept-index nowhere in
    let at = slice_get-get_or c.args.clean.now c.loop-kept.kept-index nowhere c.loop-kept-test.true in
    let own : x ≡ get_or c.args.clean.now c.loop-kept.kept-index x = sym (get_or_from_slice_get c.args.clean.now c.loop-kept.kept-index x x at) in
    let replays : ReplaysAt c.args.version c.loop-kept.self c.replay_at.new.self x = c.in_ok-replay_at.ensures.done in
    let can = subst (λ (p : FarmPlan). CanReplay p x) (sym c.loop-kept.invariant.stays.plan) (each_at (CanReplay c.args.self.now.plan) c.args.clean.now c.loop-kept.kept-index x c.requires.keys at) in
    let same = version_at c.args.version c.loop-kept.self c.replay_at.new.self x replays in
    let long = turns_at c.args.version c.loop-kept.self c.replay_at.new.self x replays in
    let many = many_more c.args.version c.args.clean.now c.loop-kept.kept-index x c.loop-kept-test.true own in
    let so_far = c.loop-kept.invariant.turns in
    record {
      stays = stays_then c.args.self.now c.loop-kept.self c.replay_at.new.self c.loop-kept.invariant.stays c.in_ok-replay_at.ensures.stays;
      same = (same.0 ∙ c.loop-kept.invariant.same.0, same.1 ∙ c.loop-kept.invariant.same.1);
      turns = omega (arith, long, many, so_far);
      fresh = fresh_more c.args.version c.loop-kept.kept-index c.args.clean.now c.loop-kept.self c.replay_at.new.self x (rising_apart c.args.clean.now c.requires.rise) at replays c.loop-kept.invariant.fresh;
      replaying = λ h r. keys_more g.D.TileStore.state c.loop-kept.self c.replay_at.new.self c.args.version c.args.clean.now c.loop-kept.kept-index x h c.loop-kept-test.true own at can c.loop-kept.invariant.fresh replays (c.loop-kept.invariant.replaying h r);
    }

pub returns-clause-replayed : goal.returns-clause-replayed
returns-clause-replayed g c = λ h r. keys_all g.D.TileStore.state c.loop-kept.self c.args.version c.args.clean.now c.loop-kept.kept-index h c.loop-kept-test.false (c.loop-kept.invariant.replaying h r)

pub returns-clause-fresh : goal.returns-clause-fresh
returns-clause-fresh g c = fresh_next c.args.version c.args.clean.now c.loop-kept.kept-index c.loop-kept.self.marks.shown c.loop-kept-test.false c.loop-kept.invariant.fresh
