use Rattle.style_objects.proofs.ByGrammar.{reads_grammar, one_style}
use Rattle.style_objects.proofs.laws.law_styles_by_grammar.Goals as goal

pub returns : goal.returns
returns c = record { reads = reads_grammar; style = one_style }
