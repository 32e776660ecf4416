use Rattle.std.proofs.Common.{sym, subst}
use Rattle.serde_json.specs.View.{view}
use Rattle.reading.specs.Steps.{Gives}
use Rattle.style_objects.specs.TextReadings.{text_reading}
use Rattle.style_objects.specs.declared.fault.StyleFault.TheVariants as fault
use Rattle.style_objects.specs.declared.fault.Part.TheVariants as part
use Rattle.style_objects.specs.Places.{at_place}
use Rattle.style_objects.proofs.Parts.{map_in_parts}
use Rattle.style_objects.proofs.map_style.map_style.Goals as goal

pub returns : goal.returns
returns c =
    subst (λ said. Gives fault.NoMemory (λ x. x) said c.map_by_parts.result) (sym (map_in_parts text_reading (at_place part.Map 0 0 0) (view c.args.object.now))) c.map_by_parts.ensures
