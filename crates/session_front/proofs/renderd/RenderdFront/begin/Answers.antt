use Rattle.session_front.proofs.Hearings.{begun}
use Rattle.session_front.proofs.renderd.RenderdFront.begin.Goals as goal

pub returns : goal.returns
returns c = λ maps. begun c.args.self.now.front maps _ c.new.ensures.items c.new-2.ensures.items
