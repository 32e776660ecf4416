use Rattle.exit_status.proofs.Rasters.{ppm_texts_are_told, grids_are_told}
use Rattle.exit_status.proofs.laws.law_rasters_are_told.Goals as goal

pub returns : goal.returns
returns c = record { texts = ppm_texts_are_told; grids = grids_are_told }
