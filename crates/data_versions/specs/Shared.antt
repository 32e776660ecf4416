-- Layers that snapshots share.
use Rattle.std.specs.Prelude.{List, map}
use Rattle.std.specs.declared.alloc.Global.{Global}
use Rattle.std.specs.declared.sync.Arc.{Arc}
use Rattle.std.specs.Arc.{arc_value}
use Rattle.plain_shapes.specs.Features.{Layer}

-- the layers behind their shares
abbrev pub shared_layers : List (Arc Layer Global) → List Layer
shared_layers shares = map arc_value shares
