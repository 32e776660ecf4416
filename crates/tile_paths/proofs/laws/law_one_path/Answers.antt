use Rattle.tile_paths.proofs.Alike.{one_path, ends_in_meta, is_not_saved}
use Rattle.tile_paths.proofs.laws.law_one_path.Goals as goal

pub returns : goal.returns
returns c = record { alike = one_path; ending = ends_in_meta; saved = is_not_saved }
