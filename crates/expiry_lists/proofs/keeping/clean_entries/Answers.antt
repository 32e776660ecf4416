use Rattle.std.proofs.Common.{◌≡◌, ◌∷◌, ◌++◌, [], None, Some, sym, ◌∙◌, rules}
use Rattle.std.proofs.lemmas.List.{append-nil}
use Rattle.expiry_lists.proofs.Saving.{kept_next}
use Rattle.expiry_lists.proofs.keeping.clean_entries.Goals as goal
use Rattle.expiry_lists.proofs.keeping.clean_entries.Goals.{in-Some+in_ok-push, in_default}

pub loop-i-preserved : goal.loop-i-preserved
loop-i-preserved c = record {
  clean = elim c.match-kept_at.branch [
    | in-Some+in_ok-push w ↦ (
        let pushed : c.match-kept_at.clean.items ≡ c.loop-i.clean.items ++ w.in-Some.kept ∷ [] = search rules in
        kept_next c.args.nodes.now.entries c.loop-i.i c.at-mark.result.0 c.at-mark.result.1 c.loop-i.clean.items c.match-kept_at.clean.items (Some w.in-Some.kept) c.at-mark.ensures c.loop-i.invariant.clean (search rules) pushed)
    | in_default w ↦ (
        let same : c.match-kept_at.clean.items ≡ c.loop-i.clean.items = search rules in
        kept_next c.args.nodes.now.entries c.loop-i.i c.at-mark.result.0 c.at-mark.result.1 c.loop-i.clean.items c.match-kept_at.clean.items None c.at-mark.ensures c.loop-i.invariant.clean (search rules) (same ∙ sym (append-nil c.loop-i.clean.items)))
  ];
}
