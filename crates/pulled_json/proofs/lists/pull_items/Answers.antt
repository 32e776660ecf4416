use Rattle.std.proofs.Common.{rules, ◌≡◌, ◌-◌, ◌<◌, [], ◌∷◌, ◌++◌, length, None, arith}
use Rattle.json.specs.Json.{value, after_end_array}
use Rattle.pulled_json.proofs.Turns.{goes_on, goes_end, goes_first}
use Rattle.pulled_json.proofs.lists.pull_items.Goals as goal

pub items-init : goal.items-init
items-init t c = (length c.args.reader.now, omega arith, rw c.new-found.ensures.items (goes_first (t.P.PullItem.reads c.args.pulls.now) (value c.args.depth) c.args.reader.now), omega arith, rw c.new-found.ensures.items c.requires)

pub items-preserved : goal.items-preserved
items-preserved t c =
    let l = c.items in
    let n = l.invariant.0 in
    let going : (after_end_array l.reader ≡ None) × (c.take_end_array.new.self ≡ l.reader) = grind arith in
    let r = c.pull.new.reader in
    let done = c.in_ok-item.ensures in
    let less : length r < length l.reader = rw (← going.1) done.shorter in
    let pushed : c.push.new.self.items ≡ l.found.items ++ c.in_ok-item.item ∷ [] = search rules in
    let turn = goes_on (t.P.PullItem.reads c.args.pulls.now) (value c.args.depth) c.args.reader.now l.found.items n l.reader r done.value.0 c.in_ok-item.item (omega (arith, l.invariant.1, less)) going.0 (rw (← going.1) done.value.1) (rw c.as_slice.ensures.value at done.value.2) l.invariant.2 in
    (n - 1, omega (arith, l.invariant.1, less), rw pushed turn, omega (arith, l.invariant.3, less), rw pushed (rw c.as_slice.ensures.value at done.known))

pub returns-clause-value : goal.returns-clause-value
returns-clause-value t c =
    let l = c.items in
    goes_end (t.P.PullItem.reads c.args.pulls.now) (value c.args.depth) c.args.reader.now l.found.items l.invariant.0 l.reader c.take_end_array.new.self l.invariant.1 (grind arith) l.invariant.2
