use Rattle.std.proofs.Common.{sym, ◌∙◌}
use Rattle.plain_image.proofs.Bytes.{pixels_length}
use Rattle.tiled_image.proofs.tile_texts.copy_line.Goals as goal

pub copy-requires : goal.copy-requires
copy-requires c = c.requires ∙ sym (pixels_length c.args.count c.prepare.new.self.0 c.bytes.result.now c.bytes.ensures)
