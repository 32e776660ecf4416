use Rattle.std.proofs.Common.{rules}
use Rattle.std.proofs.lemmas.List.Edits.{map_over_more}
use Rattle.expiry_lists.specs.Marks.{is_of_map}
use Rattle.farm_history.specs.Seen.{overtaken_by}
use Rattle.render_jobs.proofs.taken.touch_map.Goals as goal

pub loop-one-preserved : goal.loop-one-preserved
loop-one-preserved c = search (rules, map_over_more (overtaken_by (is_of_map c.args.map)))
