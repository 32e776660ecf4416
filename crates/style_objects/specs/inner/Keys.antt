-- The keys of each kind of object, as the code has them in one place. Words of inner contracts.
use Rattle.std.specs.Prelude.{ℕ, List, [], ◌∷◌, codes}
use Rattle.style_objects.specs.declared.keys.Object.{Object}
use Rattle.style_objects.specs.declared.keys.Object.TheVariants as object

-- the keys that an object of each kind may have
abbrev pub keys_of : Object → List (List ℕ)
keys_of object.Map =
    codes "background-color" ∷ codes "styles" ∷ codes "layers" ∷ codes "rasters" ∷ []
keys_of object.Style = codes "name" ∷ codes "filter-mode" ∷ codes "rules" ∷ []
keys_of object.Rule = codes "Filter" ∷ codes "ElseFilter" ∷ codes "MinScaleDenominator"
    ∷ codes "MaxScaleDenominator" ∷ codes "symbolizers" ∷ []
keys_of object.Layer = codes "name" ∷ codes "source" ∷ codes "minimum-scale-denominator"
    ∷ codes "maximum-scale-denominator" ∷ codes "styles" ∷ []
keys_of object.Raster =
    codes "name" ∷ codes "file" ∷ codes "west" ∷ codes "north" ∷ codes "pixel" ∷ []
keys_of object.PolygonSymbolizer = codes "symbolizer" ∷ codes "fill" ∷ codes "fill-opacity" ∷ []
keys_of object.LineSymbolizer = codes "symbolizer" ∷ codes "stroke" ∷ codes "stroke-width"
    ∷ codes "stroke-opacity" ∷ codes "stroke-linecap" ∷ codes "stroke-linejoin" ∷ []
keys_of object.MarkersSymbolizer =
    codes "symbolizer" ∷ codes "fill" ∷ codes "width" ∷ codes "height" ∷ codes "opacity" ∷ []
keys_of object.RasterSymbolizer = codes "symbolizer" ∷ codes "opacity" ∷ []
