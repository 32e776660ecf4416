use Rattle.std.proofs.Common.{◌≤◌, ◌+◌, [], drop, length, refl, rules, arith}
use Rattle.std.proofs.lemmas.List.{drop-drop}
use Rattle.front_loop.proofs.Seating.{same_trans}
use Rattle.session_front.proofs.Streaming.{ends_within, found_at, known_version, passes_on, read_halts, read_more, read_none}
use Rattle.session_front.proofs.messages.read_all.Goals as goal

pub messages-init : goal.messages-init
messages-init g c = record {
  seat = record { seat = c.requires.seat; number = refl; place = refl };
  within = omega arith;
  read = read_none c.args.context.now.front.now.front (g.M.Farm.map_at c.args.context.now.farm.now) c.args.piece.now.conn c.args.piece.now.bytes.now _ _ _;
}

pub ask-requires-clause-version : goal.ask-requires-clause-version
ask-requires-clause-version g c =
    known_version (drop c.messages.used c.args.piece.now.bytes.now) c.in-Message.request c.in-Message.len
    (found_at c.args.piece.now.bytes.now c.messages.used c.in-Message.request c.in-Message.len c.next.result c.next.ensures c.in-Message.is)

pub returns-in_err-ask-clause-read : goal.returns-in_err-ask-clause-read
returns-in_err-ask-clause-read g c =
    let found = found_at c.args.piece.now.bytes.now c.messages.used c.in-Message.request c.in-Message.len c.next.result c.next.ensures c.in-Message.is in
    passes_on c.from_residual.result _ _ c.from_residual.ensures.0
    (read_halts c.args.context.now.front.now.front (g.M.Farm.map_at c.args.context.now.farm.now) c.args.piece.now.conn c.args.piece.now.bytes.now (drop c.messages.used c.args.piece.now.bytes.now) c.in-Message.request c.in-Message.len found _ _ _ _ _ [] _ _ []
    c.messages.invariant.read c.in_err-ask.ensures.made)

pub overflow_add-used : goal.overflow_add-used
overflow_add-used g c =
    let found = found_at c.args.piece.now.bytes.now c.messages.used c.in-Message.request c.in-Message.len c.next.result c.next.ensures c.in-Message.is in
    let ends = ends_within c.args.piece.now.bytes.now c.messages.used c.in-Message.request c.in-Message.len found c.messages.invariant.within in
    let most : c.messages.used + c.in-Message.len ≤ length c.args.piece.now.bytes.now = ends.1 in
    search rules

pub messages-smaller : goal.messages-smaller
messages-smaller g c =
    let found = found_at c.args.piece.now.bytes.now c.messages.used c.in-Message.request c.in-Message.len c.next.result c.next.ensures c.in-Message.is in
    let ends = ends_within c.args.piece.now.bytes.now c.messages.used c.in-Message.request c.in-Message.len found c.messages.invariant.within in
    omega (arith, ends.0, ends.1)

pub messages-preserved : goal.messages-preserved
messages-preserved g c =
    let found = found_at c.args.piece.now.bytes.now c.messages.used c.in-Message.request c.in-Message.len c.next.result c.next.ensures c.in-Message.is in
    record {
      seat = same_trans (g.M.Farm.seats c.args.context.now.farm.now) c.args.seat.now c.messages.seat c.ask.new.seat c.messages.invariant.seat c.ask.ensures.seat;
      within = (ends_within c.args.piece.now.bytes.now c.messages.used c.in-Message.request c.in-Message.len found c.messages.invariant.within).1;
      read = read_more c.args.context.now.front.now.front (g.M.Farm.map_at c.args.context.now.farm.now) c.args.piece.now.conn c.args.piece.now.bytes.now (drop c.messages.used c.args.piece.now.bytes.now) c.in-Message.request c.in-Message.len found _ _ _ _ _ _ _ _ _ _
          (drop-drop c.in-Message.len c.messages.used c.args.piece.now.bytes.now) c.messages.invariant.read c.in_ok-ask.ensures.made;
    }
