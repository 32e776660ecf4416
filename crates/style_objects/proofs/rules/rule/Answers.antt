use Rattle.std.proofs.Common.{sym, subst}
use Rattle.serde_json.specs.View.{view}
use Rattle.reading.specs.Steps.{Gives}
use Rattle.style_objects.specs.TextReadings.{text_reading}
use Rattle.style_objects.specs.declared.fault.StyleFault.TheVariants as fault
use Rattle.style_objects.specs.declared.fault.Part.TheVariants as part
use Rattle.style_objects.specs.Places.{at_place}
use Rattle.style_objects.proofs.Parts.{in_parts}
use Rattle.style_objects.proofs.rules.rule.Goals as goal

pub returns : goal.returns
returns c =
    subst (λ said. Gives fault.NoMemory (λ x. x) said c.rule_by_parts.result) (sym (in_parts text_reading (at_place part.Rule c.args.style c.args.place 0) (view c.args.object.now))) c.rule_by_parts.ensures
