use Rattle.std.proofs.Common.{arith}
use Rattle.farm_history.specs.declared.asks.Cmd.TheVariants.{Render}
use Rattle.load_command.specs.Loads.{loader}
use Rattle.load_command.proofs.Stepped.{step_undrawn, stepped}
use Rattle.load_command.proofs.Weights.{ask_weighs}
use Rattle.load_command.proofs.steps.run_step.Goals as goal

pub draw_next-requires : goal.draw_next-requires
draw_next-requires g c =
    let told = c.requires.stands.0 in
    let e = c.expire_marked.ensures.grows told c.requires.stands.1 c.requires.stands.2 in
    let a = e.small in
    let few = c.requires.stands.3 in
    let more = ask_weighs loader Render c.args.step.now.spot c.ask.result e.after in
    record { stands = (told, _, c.ask.ensures.step told e.after e.stands, omega (arith, a, few, more)) }

pub returns-in-Err-clause-grows : goal.returns-in-Err-clause-grows
returns-in-Err-clause-grows g c = λ told h s.
    let e = c.expire_marked.ensures.grows told h s in
    step_undrawn _ told c.args.step.now h _ e c.ask.result _ _ _ (c.in-Err.ensures.grows told _ c.args.step.now (c.ask.ensures.step told e.after e.stands))

pub collect_all-requires : goal.collect_all-requires
collect_all-requires g c =
    let told = c.requires.stands.0 in
    let e = c.expire_marked.ensures.grows told c.requires.stands.1 c.requires.stands.2 in
    let d = c.in-Ok.ensures.grows told _ c.args.step.now (c.ask.ensures.step told e.after e.stands) in
    let a = e.small in
    let b = d.small in
    let few = c.requires.stands.3 in
    let more = ask_weighs loader Render c.args.step.now.spot c.ask.result e.after in
    record { stands = (told, d.after, d.stands, omega (arith, a, b, few, more)) }

pub fetch_one-requires : goal.fetch_one-requires
fetch_one-requires g c =
    let told = c.requires.stands.0 in
    let e = c.expire_marked.ensures.grows told c.requires.stands.1 c.requires.stands.2 in
    let d = c.in-Ok.ensures.grows told _ c.args.step.now (c.ask.ensures.step told e.after e.stands) in
    let k = c.collect_all.ensures.grows told d.after d.stands in
    let a = e.small in
    let b = d.small in
    let x = k.small in
    let few = c.requires.stands.3 in
    let more = ask_weighs loader Render c.args.step.now.spot c.ask.result e.after in
    record { stands = (told, k.after, k.stands, omega (arith, a, b, x, few, more)) }

pub returns-clause-grows : goal.returns-clause-grows
returns-clause-grows g c = λ told h s.
    let e = c.expire_marked.ensures.grows told h s in
    let d = c.in-Ok.ensures.grows told _ c.args.step.now (c.ask.ensures.step told e.after e.stands) in
    let k = c.collect_all.ensures.grows told d.after d.stands in
    stepped _ told c.args.step.now h _ e c.ask.result c.in-Ok.lost _ _ _ d k _ (c.fetch_one.ensures.grows told k.after k.stands)
