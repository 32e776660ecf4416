-- What the readers answer, as what the files say.
use Rattle.std.proofs.Common.{◌≡◌, ◌≢◌, refl, sym, ap, subst}
use Rattle.std.specs.Prelude.{Result, Ok, Err}
use Rattle.reading.specs.Steps.{Gives}
use Rattle.plain_shapes.specs.Images.{Pixels}
use Rattle.plain_drawing.specs.Grids.{Grid}
use Rattle.plain_drawing.specs.Styles.{RasterRef}
use Rattle.plain_image.specs.PpmText.{ReadsPpm}
use Rattle.plain_image.specs.declared.reading.PpmFault.{PpmFault}
use Rattle.plain_image.specs.declared.reading.PpmFault.TheVariants as ppm
use Rattle.farm_files.specs.inner.Rasters.{with_image, after_ppm}
use Rattle.farm_files.specs.declared.rasters.RasterFault.{RasterFault}
use Rattle.farm_files.specs.declared.rasters.RasterFault.TheVariants as fault

-- a fault of the PPM text is that of the raster's file
pub ppm_refused : (r : RasterRef) (says : Result Pixels PpmFault) (f : PpmFault) → ReadsPpm says (Err f) → fault.Ppm f ≢ fault.Ppm ppm.NoMemory → after_ppm r says ≡ Err (fault.Ppm f)
ppm_refused r says (ppm.Bad n) h free = ap (after_ppm r) h
ppm_refused r says ppm.TooLarge h free = ap (after_ppm r) h
ppm_refused r says ppm.NoMemory h free = absurd (free refl)

-- the picture of the PPM text makes what the raster's file says
pub ppm_read : (r : RasterRef) (says : Result Pixels PpmFault) (image : Pixels) (result : Result Grid RasterFault) → says ≡ Ok image
    → Gives (fault.Ppm ppm.NoMemory) (λ x. x) (with_image r image) result → Gives (fault.Ppm ppm.NoMemory) (λ x. x) (after_ppm r says) result
ppm_read r says image result e h = subst (λ d. Gives (fault.Ppm ppm.NoMemory) (λ x. x) (after_ppm r d) result) (sym e) h
