use Rattle.std.proofs.Common.{◌≡◌, ◌-◌, ◌<◌, length, Some, refl, arith}
use Rattle.json.specs.Json.{value, read_key}
use Rattle.json.proofs.Grammar.{read_key-shorter}
use Rattle.serde_json.specs.Data.{no_members}
use Rattle.pulled_json.proofs.Turns.{one_more, no_more}
use Rattle.pulled_json.proofs.objects.pull_members.Goals as goal

pub members-init : goal.members-init
members-init t c = (length c.args.reader.now, omega arith, (no_members, c.requires, refl), omega arith)

pub members-preserved : goal.members-preserved
members-preserved t c =
    let l = c.members in
    let n = l.invariant.0 in
    let k = c.in-Some.key.now in
    let s = c.next_key.new.self in
    let named : read_key l.reader ≡ Some (Some k, s) = grind arith in
    let r = c.pull.new.reader in
    let less = read_key-shorter l.reader (Some k) s named in
    let done = c.in_ok-pull.ensures in
    let lesser : length r < length s = done.shorter in (
      n - 1,
      omega (arith, l.invariant.1, less, lesser),
      one_more (t.P.PullMember.has c.args.pulls.now) (value c.args.depth) c.args.reader.now l.gathered c.pull.new.gathered n k l.reader s r (omega (arith, l.invariant.1, less)) named done.value l.invariant.2,
      omega (arith, l.invariant.3, less, lesser),
    )

pub returns-clause-value : goal.returns-clause-value
returns-clause-value t c =
    let l = c.members in
    no_more (t.P.PullMember.has c.args.pulls.now) (value c.args.depth) c.args.reader.now l.gathered l.invariant.0 l.reader c.next_key.new.self l.invariant.1 (grind arith) l.invariant.2
