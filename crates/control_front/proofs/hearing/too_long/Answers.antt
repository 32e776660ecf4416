use Rattle.std.proofs.Common.{◌∷◌, [], subst}
use Rattle.front_loop.specs.declared.dispositions.Disposition.TheVariants.{Leaves}
use Rattle.control_front.specs.declared.acts.Line.TheVariants as line
use Rattle.control_front.specs.inner.Doing.{Did}
use Rattle.control_front.proofs.Deeds.{done_same, too_long}
use Rattle.control_front.proofs.hearing.too_long.Goals as goal

pub returns-in-Leaves-clause-did : goal.returns-in-Leaves-clause-did
returns-in-Leaves-clause-did c = λ front lists conn mine.
    done_same front lists conn (line.Bad ∷ []) mine mine _ _ (Leaves c.in-Leaves.why)
    (subst (Did front lists conn (line.Bad ∷ []) mine mine c.args.response.now.items c.do_bad.new.response.items) c.in-Leaves.is (c.do_bad.ensures.did front lists conn mine))

pub returns-in-Leaves-clause-long : goal.returns-in-Leaves-clause-long
returns-in-Leaves-clause-long c =
    let d = subst (Did 0 [] 0 (line.Bad ∷ []) [] [] c.args.response.now.items c.do_bad.new.response.items) c.in-Leaves.is (c.do_bad.ensures.did 0 [] 0 []) in
    too_long 0 [] 0 d.acts (Leaves c.in-Leaves.why) (λ e. cc) d.why
