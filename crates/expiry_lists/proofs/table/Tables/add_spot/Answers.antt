use Rattle.std.proofs.Common.{◌≡◌, ◌∷◌, ◌++◌, [], None, ap, ◌∙◌, rules}
use Rattle.indexmap.specs.IndexMap.{insert_entry}
use Rattle.indexmap.proofs.CallerLemmas.{insert_entry-new}
use Rattle.farm_history.specs.Plans.{same_key}
use Rattle.expiry_lists.specs.inner.Nodes.{TablesSeen, spot_of}
use Rattle.expiry_lists.proofs.table.Tables.add_spot.Goals as goal

pub returns-clause-spots : goal.returns-clause-spots
returns-clause-spots c =
    let es = c.self.inside.spots.entries in
    let gone : spot_of es c.args.key ≡ None = ap (λ (t : TablesSeen). spot_of t.spots c.args.key) c.self.view_is ∙ c.requires.absent in
    let put : c.insert.new.self.entries ≡ insert_entry same_key es c.args.key c.args.spot = search (rules, c.insert.ensures.entries, c.unwrap.ensures) in
    put ∙ (insert_entry-new same_key c.self.inside.spots c.args.key c.args.spot gone ∙ ap (λ (t : TablesSeen). t.spots ++ (c.args.key, c.args.spot) ∷ []) c.self.view_is)
