use Rattle.std.proofs.Common.{sym}
use Rattle.control_front.proofs.Saying.{expire_none, expire_some, expire_worn}
use Rattle.control_front.proofs.doing.do_expire.Goals as goal

pub returns-in_default-clause-did : goal.returns-in_default-clause-did
returns-in_default-clause-did g c = λ front conn. expire_none front c.args.context.now.front.now.lists.now conn c.args.number _ _ _ c.say.result (sym c.in_default.ensures.value) c.say.ensures

pub returns-in_default-expire_all-clause-did : goal.returns-in_default-expire_all-clause-did
returns-in_default-expire_all-clause-did g c = λ front conn.
    expire_worn front c.args.context.now.front.now.lists.now conn c.args.number _ c.in-Some.tiles.now _ _ _ _ (sym c.in-Some.ensures.value) c.in_default-expire_all.ensures.expired

pub returns-clause-did : goal.returns-clause-did
returns-clause-did g c = λ front conn.
    expire_some front c.args.context.now.front.now.lists.now conn c.args.number c.in-Ok.total c.in-Some.tiles.now _ _ _ _ c.say_expired.result (sym c.in-Some.ensures.value) c.in-Ok.ensures.expired c.say_expired.ensures
