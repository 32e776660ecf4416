use Rattle.std.proofs.Common.{◌++◌, List, subst}
use Rattle.std.specs.Prelude.{ℕ}
use Rattle.farm_base.specs.Outside.{Puts}
use Rattle.script_text.specs.inner.Steps.{SaidSeen, behind}
use Rattle.script_text.proofs.said.put_said.Goals as goal

pub returns : goal.returns
returns g c =
    subst (λ (s : SaidSeen). Puts (g.O.Sink.state c.args.out.now) (g.O.Sink.state c.put_parts.new.out) s.text c.put_parts.result) c.said.view_is
    (subst (λ (h : List ℕ). Puts (g.O.Sink.state c.args.out.now) (g.O.Sink.state c.put_parts.new.out) (h ++ behind c.said.inside.tile) c.put_parts.result) c.as_str.ensures c.put_parts.ensures)
