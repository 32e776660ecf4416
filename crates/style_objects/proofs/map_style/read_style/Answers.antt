use Rattle.style_objects.proofs.ByGrammar.{gives_by_grammar}
use Rattle.style_objects.proofs.map_style.read_style.Goals as goal

pub returns-clause-grammar : goal.returns-clause-grammar
returns-clause-grammar c = gives_by_grammar c.read.result c.args.bytes.now c.read.ensures
