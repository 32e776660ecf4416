use Rattle.std.proofs.Common.{refl, sym, codes}
use Rattle.std.proofs.lemmas.List.{append-nil}
use Rattle.control_front.specs.declared.acts.Act.TheVariants as act
use Rattle.control_front.proofs.Deeds.{did_one}
use Rattle.control_front.proofs.Saying.{says_answer, lacks_same}
use Rattle.control_front.proofs.doing.do_bad.Goals as goal

pub returns : goal.returns
returns c = record {
  did = λ front lists conn mine. did_one front lists conn act.Refuses mine mine _ _ c.say.result refl refl (sym (append-nil mine))
      (says_answer lists act.Refuses (codes "bad line\n") _ _ c.say.result refl refl c.say.ensures);
  lacks = λ e. lacks_same (codes "bad line\n") _ _ c.say.result c.say.ensures e;
}
