use Rattle.std.proofs.Common.{subst, sym, List}
use Rattle.plain_shapes.specs.Features.{Layer}
use Rattle.plain_shapes.specs.Data.{IsDataset}
use Rattle.work_gen.proofs.Sound.{data_sound}
use Rattle.work_gen.proofs.data.dataset.Goals as goal

pub of-requires : goal.of-requires
of-requires c = subst (λ (layers : List Layer). IsDataset layers) (sym c.in_ok-layers.ensures) (data_sound c.args.seed c.args.count c.requires)
