use Rattle.std.proofs.Common.{◌&&◌, true, sym, ap, ◌∙◌, subst, List, ℕ}
use Rattle.farm_history.specs.declared.keys.Key.{Key}
use Rattle.farm_history.specs.Plans.{AreApart, overlaps}
use Rattle.expiry_lists.specs.Marks.{MarksSeen, shown_key, dirtied_marks, clean_marks}
use Rattle.expiry_lists.specs.inner.Nodes.{place_of, shown_of}
use Rattle.expiry_lists.specs.inner.Tiles.{is_of_maps}
use Rattle.expiry_lists.specs.inner.Walks.{Dirties}
use Rattle.expiry_lists.proofs.Finding.{apart_shown}
use Rattle.expiry_lists.proofs.Showing.{all_listed}
use Rattle.expiry_lists.proofs.Dirtying.{dirties_agree}
use Rattle.expiry_lists.proofs.marks.Marks.expire.Goals as goal
use Rattle.expiry_lists.proofs.Tiles.{agree_metas, all_overlap}
use Rattle.expiry_lists.proofs.marks.Marks.expire.Goals.{After-mark_groups_dirty, After-settle_all}

-- what was expired of the listed maps is all that the tile overlaps
dirtied : (c : After-mark_groups_dirty) → Dirties (overlaps c.args.t) (shown_of c.self.inside.nodes.entries) (shown_of c.mark_groups_dirty.new.nodes.entries) c.mark_groups_dirty.result
dirtied c =
    let es = c.self.inside.nodes.entries in
    let listed : Dirties (λ k. is_of_maps c.self.inside.groups.items (place_of k) && overlaps c.args.t k) (shown_of es) (shown_of c.mark_groups_dirty.new.nodes.entries) c.mark_groups_dirty.result =
    subst (λ (ms : List ℕ). Dirties (λ k. is_of_maps ms (place_of k) && overlaps c.args.t k) (shown_of es) (shown_of c.mark_groups_dirty.new.nodes.entries) c.mark_groups_dirty.result) c.deref-2.ensures.value c.mark_groups_dirty.ensures.walks.dirties in
    dirties_agree (overlaps c.args.t) (all_listed c.self.inside.groups.items c.self.inside.nodes c.len-count.ensures.unique c.self.invariant (overlaps c.args.t)) listed

pub returns-clause-shown : goal.returns-clause-shown
returns-clause-shown c = (dirtied c).marks ∙ ap (λ (m : MarksSeen). dirtied_marks (overlaps c.args.t) m.shown) c.self.view_is

pub returns-clause-count : goal.returns-clause-count
returns-clause-count c = (dirtied c).counted ∙ ap (λ (m : MarksSeen). clean_marks (overlaps c.args.t) m.shown) c.self.view_is

pub returns-clause-apart : goal.returns-clause-apart
returns-clause-apart c = subst (λ (m : MarksSeen). AreApart shown_key m.shown) c.self.view_is (apart_shown c.self.inside.nodes.entries c.len-count.ensures.unique)

-- a tile of zoom 0 overlaps all
settled : (c : After-settle_all) → Dirties (overlaps c.args.t) (shown_of c.self.inside.nodes.entries) (shown_of c.settle_all.new.nodes.entries) c.settle_all.result
settled c =
    let es = c.self.inside.nodes.entries in
    dirties_agree (overlaps c.args.t) (agree_metas es c.self.inside.nodes.spots c.len-count.ensures.unique c.self.invariant.tree (λ (k : Key). true) (overlaps c.args.t) (λ k meta. sym (all_overlap c.args.t c.requires c.if-t-eq0.true k meta))) c.settle_all.ensures.walks.dirties

pub returns-then-is_some_live-clause-shown : goal.returns-then-is_some_live-clause-shown
returns-then-is_some_live-clause-shown c = (settled c).marks ∙ ap (λ (m : MarksSeen). dirtied_marks (overlaps c.args.t) m.shown) c.self.view_is

pub returns-then-is_some_live-clause-count : goal.returns-then-is_some_live-clause-count
returns-then-is_some_live-clause-count c = (settled c).counted ∙ ap (λ (m : MarksSeen). clean_marks (overlaps c.args.t) m.shown) c.self.view_is

pub returns-then-is_some_live-clause-apart : goal.returns-then-is_some_live-clause-apart
returns-then-is_some_live-clause-apart c = subst (λ (m : MarksSeen). AreApart shown_key m.shown) c.self.view_is (apart_shown c.self.inside.nodes.entries c.len-count.ensures.unique)
