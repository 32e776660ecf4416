use Rattle.plain_world.proofs.Windows.{window_is}
use Rattle.merc_fixed.proofs.windows.window.Goals as goal

pub returns-clause-valid : goal.returns-clause-valid
returns-clause-valid c = rw (c.edge-west.ensures, c.edge-north.ensures, c.side.ensures) (window_is c.args.t c.args.size c.requires.tile c.requires.size)
