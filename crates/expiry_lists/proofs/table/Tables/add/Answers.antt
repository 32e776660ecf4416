use Rattle.std.proofs.Common.{◌≡◌, ◌∷◌, ◌++◌, [], None, ap, ◌∙◌, rules}
use Rattle.indexmap.specs.IndexMap.{insert_entry}
use Rattle.indexmap.proofs.CallerLemmas.{insert_entry-new}
use Rattle.farm_history.specs.Plans.{same_key}
use Rattle.expiry_lists.specs.inner.Nodes.{TablesSeen, version_of}
use Rattle.expiry_lists.proofs.table.Tables.add.Goals as goal

pub returns-clause-versions : goal.returns-clause-versions
returns-clause-versions c =
    let es = c.self.inside.versions.entries in
    let gone : version_of es c.args.key ≡ None = ap (λ (t : TablesSeen). version_of t.versions c.args.key) c.self.view_is ∙ c.requires.absent in
    let put : c.insert.new.self.entries ≡ insert_entry same_key es c.args.key c.args.version = search (rules, c.insert.ensures.entries, c.unwrap.ensures) in
    put ∙ (insert_entry-new same_key c.self.inside.versions c.args.key c.args.version gone ∙ ap (λ (t : TablesSeen). t.versions ++ (c.args.key, c.args.version) ∷ []) c.self.view_is)
