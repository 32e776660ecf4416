-- Updates, renews, changes of style and expiries.
use Rattle.std.proofs.Common.{◌≡◌, ◌≢◌, ℕ, ◌+◌, ◌<◌, ◌≤◌, Bool, true, false, cond, ◌==◌, List, [], ◌∷◌, ◌++◌, length, slice_get, Option, Some, None, is_some, option_map, Ok, Err, refl, sym, ap, ◌∙◌, subst}
use Rattle.std.proofs.lemmas.List.{length-map}
use Rattle.std.proofs.lemmas.List.Sums.{fold-append}
use Rattle.std.proofs.lemmas.Option.{slice_get-map, slice_get_within}
use Rattle.farm_base.specs.declared.faults.ApplyFault.{ApplyFault}
use Rattle.farm_base.specs.declared.faults.ApplyFault.TheVariants.{NoLayer, NoFeature, TooMany}
use Rattle.farm_base.specs.Outside.{Outside}
use Rattle.tile_store.specs.Stores.{StoreTold}
use Rattle.plain_world.specs.declared.world.Tile.{Tile}
use Rattle.plain_shapes.specs.Features.{Layer}
use Rattle.plain_shapes.specs.Data.{update_result}
use Rattle.farm_history.specs.declared.keys.Key.{Key}
use Rattle.farm_history.specs.declared.saved.Past.{Past}
use Rattle.farm_history.specs.declared.answers.Updated.{Updated}
use Rattle.farm_history.specs.declared.answers.Renewed.{Renewed}
use Rattle.farm_history.specs.declared.answers.Restyled.TheVariants.{Styled, NoRestyle}
use Rattle.farm_history.specs.Entries.{Entry, Update, Renew, Restyle, Expire}
use Rattle.farm_history.specs.Plans.{Plan, AreApart, holds, is_style_of, overlaps}
use Rattle.farm_history.specs.Past.{is_stopped, data_after, style_after, flights, jobs, numbers, asks_made, done_asks, stored_drawings, shown, waiting, open_asks, is_ended_after, replies_to, clean_count}
use Rattle.farm_history.specs.Rules.{UpdateFits, RenewFits, Fits}
use Rattle.farm_history.specs.Seen.{dirtied}
use Rattle.farm_history.specs.Replays.{changes_after}
use Rattle.farm_plan.specs.Plans.{FarmPlan, Restyle as PlanStyle}
use Rattle.farm_plan.specs.Drawings.{update_of, kept_or, fault_in, data_step, data_of, reaches_of, plan_of}
use Rattle.expiry_lists.specs.Marks.{MarksSeen, shown_key, mark_of, clean_marks}
use Rattle.farm_refinement.specs.Seen.{FarmSeen}
use Rattle.farm_refinement.specs.Stands.{failures, StandsFor}
use Rattle.farm_refinement.specs.inner.Events.{one_turn_more, updated_counts, dirtied_taken}
use Rattle.farm_refinement.proofs.Storing.{store_quiet}
use Rattle.farm_refinement.proofs.Counting.{counts_turn, counts_update, counts_renew}
use Rattle.farm_refinement.proofs.Queueing.{queues_quiet}
use Rattle.farm_refinement.proofs.Marking.{dirtied_agree, clean_agree, marks_counted}
use Rattle.farm_refinement.proofs.Stepping.{idle_step, changing, touching}

-- ---- data

-- an update that fits makes the next data
pub data_more : (plan : FarmPlan) (ns : List ℕ) (n : ℕ) (old new : List Layer) → update_result (update_of plan n) old ≡ Ok new → old ≡ data_of plan ns → new ≡ data_of plan (ns ++ n ∷ [])
unfolding data_of
data_more plan ns n old new fits is =
    sym (ap (kept_or old) fits) ∙ (ap (λ layers. data_step plan layers n) is ∙ sym (fold-append (data_step plan) plan.dataset ns (n ∷ [])))

-- it has no fault over the data
pub no_fault : {D : Type 0} (state : D → Outside StoreTold) (told : Bool) (farm : FarmSeen D) (g : List Entry) (n : ℕ) (new : List Layer) → update_result (update_of farm.plan n) farm.data_now ≡ Ok new → StandsFor state told farm g → (plan_of farm.plan).fault (data_after g) n ≡ None
unfolding plan_of
no_fault state told farm g n new fits s = ap (λ layers. fault_in (update_result (update_of farm.plan n) layers)) (sym s.data_is) ∙ ap fault_in fits

-- or it has one
one_fault : {D : Type 0} (state : D → Outside StoreTold) (told : Bool) (farm : FarmSeen D) (g : List Entry) (n : ℕ) (fault : ApplyFault) → update_result (update_of farm.plan n) farm.data_now ≡ Err fault → StandsFor state told farm g → (plan_of farm.plan).fault (data_after g) n ≡ Some fault
unfolding plan_of
one_fault state told farm g n fault is s = ap (λ layers. fault_in (update_result (update_of farm.plan n) layers)) (sym s.data_is) ∙ ap fault_in is

-- ---- updates

-- an update that fits
pub update_step : {D : Type 0} (state : D → Outside StoreTold) (told : Bool) (farm : FarmSeen D) (g : List Entry) (n : ℕ) (new : List Layer) → n < length farm.plan.updates → update_result (update_of farm.plan n) farm.data_now ≡ Ok new → StandsFor state told farm g →
    StandsFor state told (record farm { counts = updated_counts farm.counts; data_now = new; changes = farm.changes ++ Past.Update n ∷ [] }) (Update n (Updated.Version (farm.counts.version + 1)) ∷ g)
unfolding Fits data_after changes_after style_after flights shown failures waiting open_asks is_ended_after replies_to plan_of
update_step state told farm g n new lt fits s =
    changing state told farm g e (updated_counts farm.counts) new (farm.changes ++ Past.Update n ∷ []) s refl (λ k. refl) refl (λ m. refl)
    (lt, no_fault state told farm g n new fits s, ap (λ v. v + 1) s.counts_are.version_is) (counts_update farm.counts g n (farm.counts.version + 1) s.counts_are)
    (data_more farm.plan (data_after g) n farm.data_now new fits s.data_is) (ap (λ cs. cs ++ Past.Update n ∷ []) s.changes_are)
    (queues_quiet farm.plan farm.queues g e refl refl refl refl s.queues_are) (store_quiet farm.plan (state farm.first).faults told g e (state farm.store) refl (λ k. refl) s.store_is)
  where
    e : Entry
    e = Update n (Updated.Version (farm.counts.version + 1))

-- an update that failed
refused_fits : (p : Plan) (g : List Entry) (n : ℕ) (fault : ApplyFault) → n < p.updates → (fault ≢ ApplyFault.NoMemory → p.fault (data_after g) n ≡ Some fault) → UpdateFits p g n (Updated.Refused fault)
refused_fits p g n ApplyFault.NoMemory lt is = lt
refused_fits p g n (NoLayer change) lt is = (lt, is (λ e. cc))
refused_fits p g n (NoFeature change id) lt is = (lt, is (λ e. cc))
refused_fits p g n (TooMany change) lt is = (lt, is (λ e. cc))

pub update_refused_step : {D : Type 0} (state : D → Outside StoreTold) (told : Bool) (farm : FarmSeen D) (g : List Entry) (n : ℕ) (fault : ApplyFault) → n < length farm.plan.updates → (fault ≢ ApplyFault.NoMemory → update_result (update_of farm.plan n) farm.data_now ≡ Err fault) → StandsFor state told farm g →
    StandsFor state told (record farm { counts = one_turn_more farm.counts }) (Update n (Updated.Refused fault) ∷ g)
unfolding Fits plan_of
update_refused_step state told farm g n fault lt is s =
    idle_step state told farm g (Update n (Updated.Refused fault)) refl (refused_fits (plan_of farm.plan) g n fault lt (λ other. one_fault state told farm g n fault (is other) s)) s

-- an update that is not in the table
pub update_unknown_step : {D : Type 0} (state : D → Outside StoreTold) (told : Bool) (farm : FarmSeen D) (g : List Entry) (n : ℕ) → length farm.plan.updates ≤ n → StandsFor state told farm g → StandsFor state told (record farm { counts = one_turn_more farm.counts }) (Update n Updated.NoUpdate ∷ g)
unfolding Fits plan_of
update_unknown_step state told farm g n past s = idle_step state told farm g (Update n Updated.NoUpdate) refl past s

-- ---- renews

-- An update that fits and expires what it reaches. The marks may be found by another test, which agrees with that on each key that is shown.
pub renew_step : {D : Type 0} (state : D → Outside StoreTold) (told : Bool) (farm : FarmSeen D) (g : List Entry) (n : ℕ) (new : List Layer) (test : Key → Bool) (ms : MarksSeen) → n < length farm.plan.updates → update_result (update_of farm.plan n) farm.data_now ≡ Ok new → AreApart shown_key farm.marks.shown →
    ((k : Key) → is_some (mark_of farm.marks.shown k) ≡ true → test k ≡ reaches_of farm.plan farm.data_now n k) → ((k : Key) → mark_of ms.shown k ≡ option_map (dirtied (test k)) (mark_of farm.marks.shown k)) → StandsFor state told farm g →
    StandsFor state told (record farm { counts = updated_counts farm.counts; data_now = new; changes = farm.changes ++ Past.Renew n ∷ []; taken = dirtied_taken (reaches_of farm.plan farm.data_now n) farm.taken; marks = ms })
    (Renew n (Renewed.Version (farm.counts.version + 1) (clean_marks test farm.marks.shown)) ∷ g)
unfolding Fits data_after changes_after style_after flights shown failures waiting open_asks is_ended_after replies_to plan_of
renew_step state told farm g n new test ms lt fits apart agree marks s =
    touching state told farm g e reach (updated_counts farm.counts) new (farm.changes ++ Past.Renew n ∷ []) farm.styled ms farm.queues s refl (λ k. ap (λ layers. reaches_of farm.plan layers n k) (sym s.data_is)) refl
    (lt, no_fault state told farm g n new fits s, ap (λ v. v + 1) s.counts_are.version_is, counted) (counts_renew farm.counts g n (farm.counts.version + 1) (clean_marks test farm.marks.shown) s.counts_are)
    (data_more farm.plan (data_after g) n farm.data_now new fits s.data_is) (ap (λ cs. cs ++ Past.Renew n ∷ []) s.changes_are) s.styles_are
    (λ k. marks k ∙ dirtied_agree test reach (mark_of farm.marks.shown k) k (agree k))
    (queues_quiet farm.plan farm.queues g e refl refl refl refl s.queues_are) (store_quiet farm.plan (state farm.first).faults told g e (state farm.store) refl (λ k. refl) s.store_is)
  where
    reach : Key → Bool
    reach = reaches_of farm.plan farm.data_now n

    e : Entry
    e = Renew n (Renewed.Version (farm.counts.version + 1) (clean_marks test farm.marks.shown))

    counted : clean_marks test farm.marks.shown ≡ clean_count (plan_of farm.plan) g (λ k. reaches_of farm.plan (data_of farm.plan (data_after g)) n k)
    counted =
        clean_agree test reach farm.marks.shown agree
        ∙ (sym (marks_counted (plan_of farm.plan) g reach farm.marks.shown apart s.marks_are) ∙ ap (λ layers. clean_count (plan_of farm.plan) g (reaches_of farm.plan layers n)) s.data_is)

unrenewed_fits : (p : Plan) (g : List Entry) (n : ℕ) (fault : ApplyFault) → n < p.updates → (fault ≢ ApplyFault.NoMemory → p.fault (data_after g) n ≡ Some fault) → RenewFits p g n (Renewed.Refused fault)
unrenewed_fits p g n ApplyFault.NoMemory lt is = lt
unrenewed_fits p g n (NoLayer change) lt is = (lt, is (λ e. cc))
unrenewed_fits p g n (NoFeature change id) lt is = (lt, is (λ e. cc))
unrenewed_fits p g n (TooMany change) lt is = (lt, is (λ e. cc))

pub renew_refused_step : {D : Type 0} (state : D → Outside StoreTold) (told : Bool) (farm : FarmSeen D) (g : List Entry) (n : ℕ) (fault : ApplyFault) → n < length farm.plan.updates → (fault ≢ ApplyFault.NoMemory → update_result (update_of farm.plan n) farm.data_now ≡ Err fault) → StandsFor state told farm g →
    StandsFor state told (record farm { counts = one_turn_more farm.counts }) (Renew n (Renewed.Refused fault) ∷ g)
unfolding Fits plan_of
renew_refused_step state told farm g n fault lt is s =
    idle_step state told farm g (Renew n (Renewed.Refused fault)) refl (unrenewed_fits (plan_of farm.plan) g n fault lt (λ other. one_fault state told farm g n fault (is other) s)) s

pub renew_unknown_step : {D : Type 0} (state : D → Outside StoreTold) (told : Bool) (farm : FarmSeen D) (g : List Entry) (n : ℕ) → length farm.plan.updates ≤ n → StandsFor state told farm g → StandsFor state told (record farm { counts = one_turn_more farm.counts }) (Renew n Renewed.NoUpdate ∷ g)
unfolding Fits plan_of
renew_unknown_step state told farm g n past s = idle_step state told farm g (Renew n Renewed.NoUpdate) refl past s

-- ---- styles

-- a style of the table is one of its map alone
pub style_map : (plan : FarmPlan) (n m : ℕ) (r : PlanStyle) → slice_get plan.restyles n ≡ Some r → is_style_of (plan_of plan) n m ≡ (r.map == m)
unfolding plan_of is_style_of
style_map plan n m r is = ap (λ o. holds o m) (slice_get-map (λ (x : PlanStyle). x.map) plan.restyles n ∙ ap (option_map (λ (x : PlanStyle). x.map)) is)

style_there : (plan : FarmPlan) (n : ℕ) (r : PlanStyle) → slice_get plan.restyles n ≡ Some r → n < length (plan_of plan).restyles
unfolding plan_of
style_there plan n r is = subst (λ m. n < m) (sym (length-map plan.restyles (λ (x : PlanStyle). x.map))) (slice_get_within plan.restyles n r is)

-- a style that its map is given: all of the map is touched. The marks may be found by another test, which agrees with that on each key that is shown.
pub restyle_step : {D : Type 0} (state : D → Outside StoreTold) (told : Bool) (farm : FarmSeen D) (g : List Entry) (n : ℕ) (r : PlanStyle) (test : Key → Bool) (st : List (Option ℕ)) (ms : MarksSeen) → slice_get farm.plan.restyles n ≡ Some r → AreApart shown_key farm.marks.shown →
    ((k : Key) → is_some (mark_of farm.marks.shown k) ≡ true → test k ≡ (r.map == k.map)) → ((m : ℕ) → m < length farm.plan.maps → slice_get st m ≡ cond (r.map == m) (Some (Some n)) (slice_get farm.styled m)) →
    ((k : Key) → mark_of ms.shown k ≡ option_map (dirtied (test k)) (mark_of farm.marks.shown k)) → StandsFor state told farm g →
    StandsFor state told (record farm { counts = one_turn_more farm.counts; styled = st; taken = dirtied_taken (λ k. r.map == k.map) farm.taken; marks = ms }) (Restyle n (Styled (clean_marks test farm.marks.shown)) ∷ g)
unfolding Fits data_after changes_after style_after flights shown failures waiting open_asks is_ended_after replies_to is_stopped numbers jobs asks_made done_asks stored_drawings
restyle_step state told farm g n r test st ms is apart agree styles marks s =
    touching state told farm g e own (one_turn_more farm.counts) farm.data_now farm.changes st ms farm.queues s refl (λ k. style_map farm.plan n k.map r is) refl
    (in_table, counted) (counts_turn farm.counts g e (record { stopped_same = refl; version_same = refl; numbers_same = refl; jobs_same = refl; asks_same = refl; done_same = refl; stored_same = refl }) s.counts_are)
    s.data_is s.changes_are styled_now (λ k. marks k ∙ dirtied_agree test own (mark_of farm.marks.shown k) k (agree k))
    (queues_quiet farm.plan farm.queues g e refl refl refl refl s.queues_are) (store_quiet farm.plan (state farm.first).faults told g e (state farm.store) refl (λ k. refl) s.store_is)
  where
    own : Key → Bool
    own k = r.map == k.map

    e : Entry
    e = Restyle n (Styled (clean_marks test farm.marks.shown))

    in_table : n < length (plan_of farm.plan).restyles
    in_table = style_there farm.plan n r is

    counted : clean_marks test farm.marks.shown ≡ clean_count (plan_of farm.plan) g (λ k. is_style_of (plan_of farm.plan) n k.map)
    counted =
        clean_agree test own farm.marks.shown agree
        ∙ (sym (marks_counted (plan_of farm.plan) g own farm.marks.shown apart s.marks_are) ∙ ap (clean_count (plan_of farm.plan) g) (λ i k. sym (style_map farm.plan n k.map r is) i))

    styled_now : (m : ℕ) → m < length farm.plan.maps → slice_get st m ≡ Some (cond (is_style_of (plan_of farm.plan) n m) (Some n) (style_after (plan_of farm.plan) g m))
    styled_now m lt = styles m lt ∙ (ap (λ b. cond b (Some (Some n)) (slice_get farm.styled m)) (sym (style_map farm.plan n m r is)) ∙ go (is_style_of (plan_of farm.plan) n m) (s.styles_are m lt))
      where
        go : (b : Bool) → slice_get farm.styled m ≡ Some (style_after (plan_of farm.plan) g m) → cond b (Some (Some n)) (slice_get farm.styled m) ≡ Some (cond b (Some n) (style_after (plan_of farm.plan) g m))
        go true old = refl
        go false old = old

pub restyle_unknown_step : {D : Type 0} (state : D → Outside StoreTold) (told : Bool) (farm : FarmSeen D) (g : List Entry) (n : ℕ) → length farm.plan.restyles ≤ n → StandsFor state told farm g → StandsFor state told (record farm { counts = one_turn_more farm.counts }) (Restyle n NoRestyle ∷ g)
unfolding Fits plan_of
restyle_unknown_step state told farm g n past s =
    idle_step state told farm g (Restyle n NoRestyle) refl (subst (λ m. m ≤ n) (sym (length-map farm.plan.restyles (λ (x : PlanStyle). x.map))) past) s

-- ---- expiries

pub expire_step : {D : Type 0} (state : D → Outside StoreTold) (told : Bool) (farm : FarmSeen D) (g : List Entry) (tile : Tile) (ms : MarksSeen) → AreApart shown_key farm.marks.shown → ((k : Key) → mark_of ms.shown k ≡ option_map (dirtied (overlaps tile k)) (mark_of farm.marks.shown k)) → StandsFor state told farm g →
    StandsFor state told (record farm { counts = one_turn_more farm.counts; taken = dirtied_taken (overlaps tile) farm.taken; marks = ms }) (Expire tile (clean_marks (overlaps tile) farm.marks.shown) ∷ g)
unfolding Fits data_after changes_after style_after flights shown failures waiting open_asks is_ended_after replies_to is_stopped numbers jobs asks_made done_asks stored_drawings
expire_step state told farm g tile ms apart marks s =
    touching state told farm g e (overlaps tile) (one_turn_more farm.counts) farm.data_now farm.changes farm.styled ms farm.queues s refl (λ k. refl) refl
    (sym (marks_counted (plan_of farm.plan) g (overlaps tile) farm.marks.shown apart s.marks_are))
    (counts_turn farm.counts g e (record { stopped_same = refl; version_same = refl; numbers_same = refl; jobs_same = refl; asks_same = refl; done_same = refl; stored_same = refl }) s.counts_are)
    s.data_is s.changes_are s.styles_are marks
    (queues_quiet farm.plan farm.queues g e refl refl refl refl s.queues_are) (store_quiet farm.plan (state farm.first).faults told g e (state farm.store) refl (λ k. refl) s.store_is)
  where
    e : Entry
    e = Expire tile (clean_marks (overlaps tile) farm.marks.shown)
