-- What was saved is replayed, and the farm begins with it.
use Rattle.std.proofs.Common.{Some, None, Result, Ok, Err, ap, ◌∙◌}
use Rattle.std.specs.Prelude.{IfErr, OnOk}
use Rattle.farm_history.specs.Replays.{Saving}
use Rattle.farm_refinement.specs.Seen.{FarmSeen}
use Rattle.farm_core.proofs.Resumed.{ready, resumed, later_fault}
use Rattle.farm_core.proofs.farm.Farm.replay_saved.Goals as goal

when_ok : {A E : Type 0} (r : Result A E) {P Q : Type 0} → (P → Q) → OnOk r P → OnOk r Q
when_ok (Ok a) f h = f h
when_ok (Err e) f h = tt

when_err : {A E : Type 0} (r : Result A E) {P Q : E → Type 0} → ((e : E) → P e → Q e) → IfErr r P → IfErr r Q
when_err (Ok a) f h = tt
when_err (Err e) f h = f e h

pub replay-requires-clause-version : goal.replay-requires-clause-version
replay-requires-clause-version g c = ap (λ (f : FarmSeen g.row.D.Denot). f.counts.version) c.requires.anew.is

pub replay-requires-clause-known : goal.replay-requires-clause-known
replay-requires-clause-known g c =
    let updates = c.as_slice.ensures.value ∙ ap (λ (s : Saving). s.updates) c.saved.view_is in
    let clean = c.as_slice-2.ensures.value ∙ ap (λ (s : Saving). s.clean) c.saved.view_is in
    (ready _ _ _ _ _ _ updates clean c.requires.plan c.requires.shape c.requires.saved c.requires.short c.requires.anew).known

pub replay-requires-clause-keys : goal.replay-requires-clause-keys
replay-requires-clause-keys g c =
    let updates = c.as_slice.ensures.value ∙ ap (λ (s : Saving). s.updates) c.saved.view_is in
    let clean = c.as_slice-2.ensures.value ∙ ap (λ (s : Saving). s.clean) c.saved.view_is in
    (ready _ _ _ _ _ _ updates clean c.requires.plan c.requires.shape c.requires.saved c.requires.short c.requires.anew).keys

pub replay-requires-clause-rise : goal.replay-requires-clause-rise
replay-requires-clause-rise g c =
    let updates = c.as_slice.ensures.value ∙ ap (λ (s : Saving). s.updates) c.saved.view_is in
    let clean = c.as_slice-2.ensures.value ∙ ap (λ (s : Saving). s.clean) c.saved.view_is in
    (ready _ _ _ _ _ _ updates clean c.requires.plan c.requires.shape c.requires.saved c.requires.short c.requires.anew).rise

pub replay-requires-clause-fresh : goal.replay-requires-clause-fresh
replay-requires-clause-fresh g c =
    let updates = c.as_slice.ensures.value ∙ ap (λ (s : Saving). s.updates) c.saved.view_is in
    let clean = c.as_slice-2.ensures.value ∙ ap (λ (s : Saving). s.clean) c.saved.view_is in
    (ready _ _ _ _ _ _ updates clean c.requires.plan c.requires.shape c.requires.saved c.requires.short c.requires.anew).fresh

pub replay-requires-clause-turns : goal.replay-requires-clause-turns
replay-requires-clause-turns g c =
    let updates = c.as_slice.ensures.value ∙ ap (λ (s : Saving). s.updates) c.saved.view_is in
    let clean = c.as_slice-2.ensures.value ∙ ap (λ (s : Saving). s.clean) c.saved.view_is in
    (ready _ _ _ _ _ _ updates clean c.requires.plan c.requires.shape c.requires.saved c.requires.short c.requires.anew).turns

pub returns-clause-begins : goal.returns-clause-begins
returns-clause-begins g c =
    let updates = c.as_slice.ensures.value ∙ ap (λ (s : Saving). s.updates) c.saved.view_is in
    let clean = c.as_slice-2.ensures.value ∙ ap (λ (s : Saving). s.clean) c.saved.view_is in
    when_ok c.replay.result
    (resumed g.D.TileStore.state c.args.self.now.plan c.args.saved.now c.args.self.now.store c.args.self.now c.replay.new.self _ _ updates clean c.requires.plan c.requires.shape (g.met.D.TileStore.counted c.args.self.now.store) c.requires.anew c.replay.ensures.stays)
    c.replay.ensures.replayed

pub returns-clause-fits : goal.returns-clause-fits
returns-clause-fits g c =
    let updates = c.as_slice.ensures.value ∙ ap (λ (s : Saving). s.updates) c.saved.view_is in
    when_ok c.replay.result (later_fault c.args.self.now.plan c.args.saved.now c.args.self.now.store c.args.self.now _ None updates c.requires.shape c.requires.anew) c.replay.ensures.fits

pub returns-clause-refused : goal.returns-clause-refused
returns-clause-refused g c =
    let updates = c.as_slice.ensures.value ∙ ap (λ (s : Saving). s.updates) c.saved.view_is in
    when_err c.replay.result (λ e is some. later_fault c.args.self.now.plan c.args.saved.now c.args.self.now.store c.args.self.now _ (Some e) updates c.requires.shape c.requires.anew (is some)) c.replay.ensures.refused

pub returns-clause-store : goal.returns-clause-store
returns-clause-store g c = c.replay.ensures.stays.store
