-- The texts of a style's faults; want of memory has none.
use Rattle.std.specs.Prelude.{ℕ, List, ◌++◌, Option, Some, None, codes}
use Rattle.std.specs.Fmt.{decimal}
use Rattle.filter_expr.specs.declared.faults.FilterFault.{FilterFault}
use Rattle.filter_expr.specs.declared.faults.FilterFault.TheVariants as filter
use Rattle.style_objects.specs.declared.fault.At.{At}
use Rattle.style_objects.specs.declared.fault.Part.{Part}
use Rattle.style_objects.specs.declared.fault.Part.TheVariants as part
use Rattle.style_objects.specs.declared.fault.StyleFault.{StyleFault}
use Rattle.style_objects.specs.declared.fault.StyleFault.TheVariants as style

-- the word for the kind of an object
abbrev pub part_text : Part → List ℕ
part_text part.Map = codes "map"
part_text part.Style = codes "style"
part_text part.Rule = codes "rule"
part_text part.Symbolizer = codes "symbolizer"
part_text part.Layer = codes "layer"
part_text part.Raster = codes "raster"

-- an object by its kind and its three places
abbrev pub at_text : At → List ℕ
at_text at = codes " at " ++ part_text at.part ++ codes " " ++ decimal at.first ++ codes " "
    ++ decimal at.second ++ codes " " ++ decimal at.third

-- a filter's fault by its number and its offset, with the object of the filter
abbrev pub filter_text_at : At → FilterFault → Option (List ℕ)
filter_text_at at (filter.Bad offset) =
    Some (codes "style 3" ++ at_text at ++ codes " filter 1 " ++ decimal offset)
filter_text_at at (filter.NumberRange offset) =
    Some (codes "style 3" ++ at_text at ++ codes " filter 2 " ++ decimal offset)
filter_text_at at (filter.TooDeep offset) =
    Some (codes "style 3" ++ at_text at ++ codes " filter 3 " ++ decimal offset)
filter_text_at at filter.NoMemory = None

-- the text of a style's fault: its number, and the object that it stands in
abbrev pub style_text : StyleFault → Option (List ℕ)
style_text style.NotJson = Some (codes "style 1")
style_text (style.Shape at) = Some (codes "style 2" ++ at_text at)
style_text (style.Filter at fault) = filter_text_at at fault
style_text (style.Text at) = Some (codes "style 4" ++ at_text at)
style_text (style.NoStyle at) = Some (codes "style 5" ++ at_text at)
style_text (style.Double at) = Some (codes "style 6" ++ at_text at)
style_text (style.Unsupported at) = Some (codes "style 7" ++ at_text at)
style_text (style.Range at) = Some (codes "style 8" ++ at_text at)
style_text style.NoMemory = None
