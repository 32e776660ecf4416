use Rattle.std.proofs.Common.{◌≡◌, refl, rules}
use Rattle.plain_image.specs.declared.reading.PpmFault.TheVariants as ppm
use Rattle.farm_files.proofs.Judged.{told_by}
use Rattle.farm_files.specs.inner.Rasters.{raster_text}
use Rattle.farm_files.specs.declared.rasters.RasterFault.TheVariants as fault
use Rattle.farm_files.proofs.Fitting.{raster_checked}
use Rattle.farm_files.proofs.rasters.raster_file.Goals as goal

pub returns : goal.returns
returns g c =
    let name : c.as_str-name.result.now ≡ c.args.raster.now.file = search rules in
    raster_checked _ _ _ _ _ _ _ _ name c.in_ok-bytes.ensures c.as_slice.ensures.value
    (told_by raster_text (fault.Ppm ppm.NoMemory) _ _ refl c.read_raster.ensures) c.checked.ensures
