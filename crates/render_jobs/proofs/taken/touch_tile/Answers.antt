use Rattle.std.proofs.Common.{rules}
use Rattle.std.proofs.lemmas.List.Edits.{map_over_more}
use Rattle.farm_history.specs.Plans.{overlaps}
use Rattle.farm_history.specs.Seen.{overtaken_by}
use Rattle.render_jobs.proofs.taken.touch_tile.Goals as goal

pub loop-one-preserved : goal.loop-one-preserved
loop-one-preserved c = search (rules, map_over_more (overtaken_by (overlaps c.args.tile)))
