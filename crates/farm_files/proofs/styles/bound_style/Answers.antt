use Rattle.std.proofs.Common.{◌≡◌, rules}
use Rattle.std.proofs.lemmas.Result.{err_from_is_err_and}
use Rattle.farm_files.proofs.Fitting.{grids_bound}
use Rattle.farm_files.proofs.Bound.{style_bound, style_stops}
use Rattle.farm_files.proofs.styles.bound_style.Goals as goal

pub bind-requires : goal.bind-requires
bind-requires g c =
    let is : c.as_slice.result.now ≡ c.in_ok-style.style.rasters = search rules in
    grids_bound _ _ _ _ _ is c.in_ok-grids.ensures

pub returns-in_err-grids : goal.returns-in_err-grids
returns-in_err-grids g c =
    let is : c.as_slice.result.now ≡ c.in_ok-style.style.rasters = search rules in
    let p = err_from_is_err_and c.from_residual-in_err-grids.result c.from_residual-in_err-grids.ensures.1 in
    rw (p.1, p.2) (style_stops _ _ _ _ _ _ _ is c.in_ok-style.ensures c.in_err-grids.ensures)

pub returns : goal.returns
returns g c =
    let is : c.as_slice.result.now ≡ c.in_ok-style.style.rasters = search rules in
    style_bound _ _ _ _ _ _ _ _ is c.bind.ensures c.in_ok-style.ensures c.in_ok-grids.ensures
