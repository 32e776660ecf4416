use Rattle.tile_render.proofs.Passing.{passed_item}
use Rattle.tile_render.proofs.scaled.ScaledStyle.may_draw.Goals as goal

pub returns-else-may_match : goal.returns-else-may_match
returns-else-may_match c none = passed_item c.args.w c.args.self.now c.args.shared.now (c.may_match.ensures none)
