use Rattle.render_command.proofs.Pictures.{picture_drawn}
use Rattle.render_command.proofs.command.picture.Goals as goal

pub returns : goal.returns
returns g c = picture_drawn _ _ _ _ _ _ _ _ _ _ c.in_ok-style.ensures c.in_ok-dataset.ensures c.drawn.ensures
