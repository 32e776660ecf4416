use Rattle.farm_saved.specs.Writing.{kept_bytes}
use Rattle.farm_saved.proofs.Puts.{put_more_at}
use Rattle.farm_saved.proofs.writing.put_clean.Goals as goal

pub loop-kept-preserved : goal.loop-kept-preserved
loop-kept-preserved c = put_more_at kept_bytes c.args.clean.now c.loop-kept.kept-index _ c.loop-kept.out.items c.put_entry.new.out.items _
    c.loop-kept-test.true c.loop-kept.invariant c.in_ok-put_entry.ensures
