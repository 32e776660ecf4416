-- The texts of the faults of data, with the places of the layer and of the feature; want of memory
-- has none.
use Rattle.std.specs.Prelude.{ℕ, List, ◌++◌, Option, Some, None, codes}
use Rattle.std.specs.Fmt.{decimal}
use Rattle.geo_model.specs.declared.faults.GeoFault.{GeoFault}
use Rattle.geo_model.specs.declared.faults.GeoFault.TheVariants as geometry
use Rattle.geo_json.specs.declared.faults.DataFault.{DataFault}
use Rattle.geo_json.specs.declared.faults.DataFault.TheVariants as fault

-- the text of a feature that its parts do not make: the places of its layer and of itself, and the
-- number of the parts' fault
abbrev pub geometry_text : GeoFault → ℕ → ℕ → Option (List ℕ)
geometry_text geometry.TooFewPoints part item =
    Some (codes "dataset 3 at " ++ decimal part ++ codes " " ++ decimal item ++ codes " geometry 1")
geometry_text geometry.OutOfWorld part item =
    Some (codes "dataset 3 at " ++ decimal part ++ codes " " ++ decimal item ++ codes " geometry 2")
geometry_text geometry.TooManyPoints part item =
    Some (codes "dataset 3 at " ++ decimal part ++ codes " " ++ decimal item ++ codes " geometry 3")
geometry_text geometry.TooManyAttrs part item =
    Some (codes "dataset 3 at " ++ decimal part ++ codes " " ++ decimal item ++ codes " geometry 4")
geometry_text geometry.DoubleName part item =
    Some (codes "dataset 3 at " ++ decimal part ++ codes " " ++ decimal item ++ codes " geometry 5")
geometry_text geometry.NoMemory part item = None

-- the text of a fault of data: its number, and where it stands
abbrev pub data_text : DataFault → Option (List ℕ)
data_text fault.NotJson = Some (codes "dataset 1")
data_text (fault.Shape part item) =
    Some (codes "dataset 2 at " ++ decimal part ++ codes " " ++ decimal item)
data_text (fault.Geo kind part item) = geometry_text kind part item
data_text (fault.DoubleId part id) =
    Some (codes "dataset 4 at " ++ decimal part ++ codes " id " ++ decimal id)
data_text (fault.DoubleLayer part) = Some (codes "dataset 5 at " ++ decimal part)
data_text (fault.TooMany part) = Some (codes "dataset 6 at " ++ decimal part)
data_text fault.NoMemory = None
