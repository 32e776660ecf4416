use Rattle.tile_paths.proofs.Numbers.{name_apart, some_and}
use Rattle.tile_paths.proofs.reading.read_name.Goals as goal

pub returns : goal.returns
returns c name rest is e = some_and c.split_once.result _ (name_apart name c.args.text.now rest c.split_once.result c.split_once.ensures.cases is e)
