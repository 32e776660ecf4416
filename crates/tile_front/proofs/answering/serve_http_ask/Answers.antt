use Rattle.std.proofs.Common.{refl}
use Rattle.tile_front.specs.declared.acts.HttpAsk.TheVariants as http_ask
use Rattle.tile_front.specs.Answers.{status_answer, dirty_answer}
use Rattle.tile_front.proofs.Says.{put_says, did_refuse, did_look, did_mark, as_http_ask}
use Rattle.tile_front.proofs.answering.serve_http_ask.Goals as goal

pub returns-in-Bad-clause-does : goal.returns-in-Bad-clause-does
returns-in-Bad-clause-does g c =
    as_http_ask _ _ _ _ _ _ _ _ c.in-Bad.is (did_refuse c.args.conn http_ask.Bad _ _ _ _ _ refl c.refuse.ensures.stage c.refuse.ensures.response)

pub returns-in-NotGet-clause-does : goal.returns-in-NotGet-clause-does
returns-in-NotGet-clause-does g c =
    as_http_ask _ _ _ _ _ _ _ _ c.in-NotGet.is (did_refuse c.args.conn http_ask.NotGet _ _ _ _ _ refl c.refuse-in-NotGet.ensures.stage c.refuse-in-NotGet.ensures.response)

pub returns-in-NoTarget-clause-does : goal.returns-in-NoTarget-clause-does
returns-in-NoTarget-clause-does g c =
    as_http_ask _ _ _ _ _ _ _ _ c.in-NoTarget.is (did_refuse c.args.conn http_ask.NoTarget _ _ _ _ _ refl c.refuse-in-NoTarget.ensures.stage c.refuse-in-NoTarget.ensures.response)

pub returns-in-Ok-clause-does : goal.returns-in-Ok-clause-does
returns-in-Ok-clause-does g c =
    as_http_ask _ _ _ _ _ _ _ _ c.in-Status.is (did_look c.args.conn c.in-Status.spot c.in-Ok.looked _ _ _ _ _ c.in-Ok.ensures.takes refl
    (put_says c.put_status.result (status_answer c.in-Ok.looked) c.args.response.now.items c.put_status.new.response.items c.disposition_of_put.result c.requires.empty c.put_status.ensures
    c.disposition_of_put.ensures))

pub returns-in-Ok-turn-clause-does : goal.returns-in-Ok-turn-clause-does
returns-in-Ok-turn-clause-does g c =
    as_http_ask _ _ _ _ _ _ _ _ c.in-Dirty.is (did_mark c.args.conn c.in-Dirty.spot c.in-Ok-turn.field-0 _ _ _ _ _ c.in-Ok-turn.ensures.takes refl
    (put_says c.put_dirty.result dirty_answer c.args.response.now.items c.put_dirty.new.response.items c.disposition_of_put-in-Dirty.result c.requires.empty c.put_dirty.ensures
    c.disposition_of_put-in-Dirty.ensures))
