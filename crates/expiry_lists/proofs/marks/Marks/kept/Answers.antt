use Rattle.std.proofs.Common.{IsPermutation, option_map, ap, ◌∙◌, subst}
use Rattle.farm_history.specs.Plans.{AreApart}
use Rattle.farm_history.specs.Replays.{kept_version}
use Rattle.expiry_lists.specs.Marks.{MarksSeen, shown_key, mark_of, clean_version}
use Rattle.expiry_lists.specs.inner.Keeping.{kept_list}
use Rattle.expiry_lists.proofs.Finding.{apart_shown}
use Rattle.expiry_lists.proofs.Saving.{kept_found, kept_apart, kept_moved, moved_apart, sorted_rises}
use Rattle.expiry_lists.proofs.marks.Marks.kept.Goals as goal

pub returns-in_err-kept-clause-apart : goal.returns-in_err-kept-clause-apart
returns-in_err-kept-clause-apart c = subst (λ (m : MarksSeen). AreApart shown_key m.shown) c.self.view_is (apart_shown c.self.inside.nodes.entries c.len-count.ensures.unique)

pub returns-clause-apart : goal.returns-clause-apart
returns-clause-apart c = subst (λ (m : MarksSeen). AreApart shown_key m.shown) c.self.view_is (apart_shown c.self.inside.nodes.entries c.len-count.ensures.unique)

pub returns-clause-clean : goal.returns-clause-clean
returns-clause-clean c = λ k.
    let es = c.self.inside.nodes.entries in
    let ys = c.sort_by_key.new.kept.items in
    let moved : IsPermutation (kept_list es) ys = subst (λ zs. IsPermutation zs ys) c.in_ok-kept.ensures c.sort_by_key.ensures.permutation in
    ap (option_map kept_version) (kept_moved (kept_list es) ys (kept_apart es c.len-count.ensures.unique) moved k)
    ∙ (kept_found es c.len-count.ensures.unique k ∙ ap (λ (m : MarksSeen). clean_version (mark_of m.shown k)) c.self.view_is)

pub returns-clause-rising : goal.returns-clause-rising
returns-clause-rising c =
    let es = c.self.inside.nodes.entries in
    let ys = c.sort_by_key.new.kept.items in
    let moved : IsPermutation (kept_list es) ys = subst (λ zs. IsPermutation zs ys) c.in_ok-kept.ensures c.sort_by_key.ensures.permutation in
    sorted_rises ys (moved_apart (kept_list es) ys (kept_apart es c.len-count.ensures.unique) moved) c.sort_by_key.ensures.sorted
