use Rattle.meta_container.proofs.Written.{tiles_come_back, entries_come_back}
use Rattle.meta_container.proofs.laws.law_tiles_come_back.Goals as goal

pub returns : goal.returns
returns c = record { tiles = tiles_come_back; entries = entries_come_back }
