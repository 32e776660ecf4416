use Rattle.farm_call.proofs.Asked.{runs_words, sound_read}
use Rattle.farm_call.proofs.Keeping.{keeps}
use Rattle.farm_call.proofs.call.farm_main.Goals as goal

pub do_command-done-requires-clause-sound : goal.do_command-done-requires-clause-sound
do_command-done-requires-clause-sound g c κs within = sound_read _ c.read_words-read.result (record { given = c.read_words-read.ensures.given; none = c.read_words-read.ensures.none })

pub returns : goal.returns
returns g c =
    keeps g.D.TileStore.state _ _ (record {
      end = c.do_command-done.result.end;
      ran = runs_words g.D.TileStore.state _ _ _ c.args.store _ _ _ _ c.read_words-read.result (record { given = c.read_words-read.ensures.given; none = c.read_words-read.ensures.none }) c.do_command-done.ensures;
      reports = c.report-status.ensures;
    })
