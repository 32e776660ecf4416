use Rattle.filter_expr.proofs.Texts.{may_answer, says, answers_tree, answers_fault}
use Rattle.filter_expr.proofs.reader.parse.Goals as goal

pub returns : goal.returns
returns c = record {
  answer = may_answer c.args.text.now c.read.result c.read.ensures;
  value = says c.args.text.now c.read.result c.read.ensures;
  tree = answers_tree c.args.text.now c.read.result (may_answer c.args.text.now c.read.result c.read.ensures);
  fault = answers_fault c.args.text.now c.read.result (may_answer c.args.text.now c.read.result c.read.ensures);
}
