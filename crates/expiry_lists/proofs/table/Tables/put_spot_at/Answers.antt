use Rattle.std.proofs.Common.{◌≡◌, ◌<◌, ◌≤◌, true, false, length, is_some, sym, ap, ◌∙◌, rules}
use Rattle.indexmap.specs.IndexMap.{set_value_at}
use Rattle.expiry_lists.specs.inner.Nodes.{TablesSeen}
use Rattle.expiry_lists.proofs.Placing.{past_from, put_past}
use Rattle.expiry_lists.proofs.table.Tables.put_spot_at.Goals as goal
use Rattle.expiry_lists.proofs.table.Tables.put_spot_at.Goals.{in-Some, in_default}

pub returns-clause-spots : goal.returns-clause-spots
returns-clause-spots c =
    let es = c.self.inside.spots.entries in
    let seen : set_value_at es c.args.place c.args.spot ≡ set_value_at c.args.self.now.spots c.args.place c.args.spot = ap (λ (t : TablesSeen). set_value_at t.spots c.args.place c.args.spot) c.self.view_is in
    elim c.match-get_index_mut.branch [
      | in-Some w ↦ let put : c.match-get_index_mut.self-inside.spots.entries ≡ set_value_at es c.args.place c.args.spot = search rules in put ∙ seen
      | in_default w ↦ (
          let none : c.args.place < length es → true ≡ false = λ within. sym (c.get_index_mut.ensures.found.1 within) ∙ ap is_some w.in_default.is in
          let past : length es ≤ c.args.place = past_from c.args.place (length es) none in
          let same : c.match-get_index_mut.self-inside.spots.entries ≡ es = search rules in
          same ∙ (sym (put_past es c.args.place c.args.spot past) ∙ seen))
    ]
