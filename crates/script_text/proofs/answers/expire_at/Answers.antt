use Rattle.std.proofs.Common.{codes, refl, subst}
use Rattle.plain_world.specs.declared.world.Tile.{Tile}
use Rattle.script_lines.specs.declared.script.ScriptLine.TheVariants as line
use Rattle.script_text.specs.ScriptTexts.{HasNone}
use Rattle.script_text.specs.inner.Hands.{tickets}
use Rattle.script_text.specs.inner.Steps.{Answers}
use Rattle.script_text.proofs.Entering.{answered_alone, answered_none}
use Rattle.script_text.proofs.Saying.{none_said}
use Rattle.script_text.proofs.answers.expire_at.Goals as goal

pub returns-in-Some-clause-step : goal.returns-in-Some-clause-step
returns-in-Some-clause-step g c = λ told h s hand.
    subst (λ (t : Tile). Answers g.D.TileStore.state told c.expire.new.farm c.args.farm.now.plan (line.Expire t.z t.x t.y) h c.args.hand.now.items c.args.hand.now.items c.expire.result) c.in-Some.ensures.made
    (answered_alone _ _ _ _ _ _ _ _ _ refl c.in-Some.ensures.valid refl hand (c.expire.ensures.step told h s))

pub returns-in-None-clause-step : goal.returns-in-None-clause-step
returns-in-None-clause-step g c = λ told h s hand.
    answered_none _ _ _ _ _ _ _ _ _
    (none_said _ _ (codes "unservable\n") (HasNone (tickets c.args.hand.now.items) (line.Expire c.args.place.0 c.args.place.1 c.args.place.2)) c.said.ensures c.of.ensures (λ said is. (c.in-None.ensures.none, is)))
    refl hand s
