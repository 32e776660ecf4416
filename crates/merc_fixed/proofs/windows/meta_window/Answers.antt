use Rattle.plain_world.proofs.Windows.{meta_window_is}
use Rattle.merc_fixed.proofs.windows.meta_window.Goals as goal

pub returns-clause-valid : goal.returns-clause-valid
returns-clause-valid c = rw (c.edge-west.ensures, c.edge-north.ensures, c.side.ensures, c.tiles_across.ensures.value) (meta_window_is c.args.m c.args.size c.requires.meta c.requires.size)
