use Rattle.std.proofs.Common.{◌≡◌, ◌<◌, ◌≤◌, true, false, length, is_some, sym, ap, ◌∙◌, rules}
use Rattle.indexmap.specs.IndexMap.{set_value_at}
use Rattle.expiry_lists.specs.inner.Nodes.{TablesSeen}
use Rattle.expiry_lists.proofs.Placing.{past_from, put_past}
use Rattle.expiry_lists.proofs.table.Tables.put_at.Goals as goal
use Rattle.expiry_lists.proofs.table.Tables.put_at.Goals.{in-Some, in_default}

pub returns-clause-versions : goal.returns-clause-versions
returns-clause-versions c =
    let es = c.self.inside.versions.entries in
    let seen : set_value_at es c.args.place c.args.version ≡ set_value_at c.args.self.now.versions c.args.place c.args.version = ap (λ (t : TablesSeen). set_value_at t.versions c.args.place c.args.version) c.self.view_is in
    elim c.match-get_index_mut.branch [
      | in-Some w ↦ let put : c.match-get_index_mut.self-inside.versions.entries ≡ set_value_at es c.args.place c.args.version = search rules in put ∙ seen
      | in_default w ↦ (
          let none : c.args.place < length es → true ≡ false = λ within. sym (c.get_index_mut.ensures.found.1 within) ∙ ap is_some w.in_default.is in
          let past : length es ≤ c.args.place = past_from c.args.place (length es) none in
          let same : c.match-get_index_mut.self-inside.versions.entries ≡ es = search rules in
          same ∙ (sym (put_past es c.args.place c.args.version past) ∙ seen))
    ]
