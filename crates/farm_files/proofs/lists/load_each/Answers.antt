use Rattle.std.proofs.Common.{◌<◌, ◌≤◌, length, rules}
use Rattle.std.proofs.lemmas.List.{drop_all}
use Rattle.farm_files.proofs.Each.{each_more, each_done, each_stops, each_wanting}
use Rattle.farm_files.proofs.lists.load_each.Goals as goal

pub returns-in-Err-push : goal.returns-in-Err-push
returns-in-Err-push g c =
    let small : c.loop-item.item-index < length c.args.items.now = search rules in
    each_wanting _ _ _ _ _ _ _ _ _ _ small c.item-item.is c.loop-item.invariant c.in-Ok.ensures

pub returns-in-Err : goal.returns-in-Err
returns-in-Err g c =
    let small : c.loop-item.item-index < length c.args.items.now = search rules in
    each_stops _ _ _ _ _ _ _ _ _ _ small c.item-item.is c.loop-item.invariant c.in-Err.ensures

pub loop-item-preserved : goal.loop-item-preserved
loop-item-preserved g c =
    let small : c.loop-item.item-index < length c.args.items.now = search rules in
    each_more _ _ _ _ _ _ _ _ _ _ small c.item-item.is c.in-Ok-push.ensures.items c.loop-item.invariant c.in-Ok.ensures

pub returns : goal.returns
returns g c =
    let past : length c.args.items.now ≤ c.loop-item.item-index = search rules in
    each_done _ _ _ _ _ _ (drop_all _ _ past) c.loop-item.invariant
