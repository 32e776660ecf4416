-- The law is proved with the test.
use Rattle.drawing_reach.proofs.Edges.{by_edges}
use Rattle.drawing_reach.proofs.law_reach_by_edges.Goals as goal

pub returns : goal.returns
returns c = by_edges
