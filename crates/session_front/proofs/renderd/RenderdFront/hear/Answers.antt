use Rattle.std.proofs.Common.{◌≡◌, ◌++◌, drop, refl, rules, ap, sym, ◌∙◌}
use Rattle.session_front.specs.inner.Reads.{disposition_at}
use Rattle.session_front.proofs.Making.{halts_now}
use Rattle.session_front.proofs.Hearings.{extended, heard_by, heard_halts, halted_by}
use Rattle.session_front.proofs.renderd.RenderdFront.hear.Goals as goal

pub returns-then-is_err-clause-heard : goal.returns-then-is_err-clause-heard
returns-then-is_err-clause-heard g c = λ given ms k all whole read.
    heard_halts c.args.context.now.front.now.front (g.M.Farm.map_at c.args.context.now.farm.now) c.args.piece.now.conn c.args.piece.now.bytes.now _ _ c.args.conn_state.now given ms k all _ _
    (halts_now c.args.context.now.front.now.front (g.M.Farm.map_at c.args.context.now.farm.now) c.args.piece.now.conn _ _ _ refl)

pub returns-in-Ok-clause-heard : goal.returns-in-Ok-clause-heard
returns-in-Ok-clause-heard g c = λ given ms k all whole read.
    let bytes : c.extend_from_slice.new.self.items ≡ c.args.conn_state.now.unread.items ++ c.args.piece.now.bytes.now = search (rules, extended) in
    heard_by c.args.context.now.front.now.front (g.M.Farm.map_at c.args.context.now.farm.now) c.args.piece.now.conn c.args.piece.now.bytes.now _ _ c.args.conn_state.now given ms k all _ c.as_slice.result.now c.in-Ok.used c.args.response.now.items _ _
    (c.as_slice.ensures.value ∙ bytes) c.requires.empty c.in-Ok.ensures.read.1 (c.drop_front.ensures ∙ ap (drop c.in-Ok.used) (sym c.as_slice.ensures.value))
    (c.disposition_at.ensures ∙ ap disposition_at c.as_slice-in-Ok.ensures.value) c.in-Ok.ensures.read.2

pub returns-in-Err-NoMemory-clause-heard : goal.returns-in-Err-NoMemory-clause-heard
returns-in-Err-NoMemory-clause-heard g c = λ given ms k all whole read.
    let bytes : c.extend_from_slice.new.self.items ≡ c.args.conn_state.now.unread.items ++ c.args.piece.now.bytes.now = search (rules, extended) in
    halted_by c.args.context.now.front.now.front (g.M.Farm.map_at c.args.context.now.farm.now) c.args.piece.now.conn c.args.piece.now.bytes.now _ _ c.args.conn_state.now given ms k all _ c.as_slice.result.now _
    (c.as_slice.ensures.value ∙ bytes) c.in-Err-NoMemory.ensures.read

pub returns-in-Err-Worn-clause-heard : goal.returns-in-Err-Worn-clause-heard
returns-in-Err-Worn-clause-heard g c = λ given ms k all whole read.
    let bytes : c.extend_from_slice.new.self.items ≡ c.args.conn_state.now.unread.items ++ c.args.piece.now.bytes.now = search (rules, extended) in
    halted_by c.args.context.now.front.now.front (g.M.Farm.map_at c.args.context.now.farm.now) c.args.piece.now.conn c.args.piece.now.bytes.now _ _ c.args.conn_state.now given ms k all _ c.as_slice.result.now _
    (c.as_slice.ensures.value ∙ bytes) c.in-Err-Worn.ensures.read
