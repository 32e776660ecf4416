-- What a renew leaves of a farm, from what its parts do.
use Rattle.std.proofs.Common.{◌≡◌, ◌≢◌, ℕ, ◌+◌, ◌^◌, ◌<◌, ◌≤◌, Bool, true, false, ◌&&◌, cond, nat_lt, List, [], ◌∷◌, ◌++◌, length, slice_get, Option, Some, None, is_some, option_map, Ok, Err, refl, sym, ap, ◌∙◌, subst, arith, length-append}
use Rattle.std.proofs.lemmas.Bool.{ltb-true, ltb-false}
use Rattle.farm_base.specs.Outside.{Outside}
use Rattle.farm_base.specs.declared.faults.ApplyFault.{ApplyFault}
use Rattle.tile_store.specs.Stores.{StoreTold}
use Rattle.plain_shapes.specs.Features.{Layer}
use Rattle.plain_shapes.specs.Data.{update_result}
use Rattle.geo_model.specs.declared.bounds.Bounds.{Bounds}
use Rattle.farm_history.specs.declared.keys.Key.{Key}
use Rattle.farm_history.specs.declared.saved.Past.{Past}
use Rattle.farm_history.specs.declared.answers.ClaimAnswer.TheVariants.{Job}
use Rattle.farm_history.specs.declared.answers.Renewed.{Renewed}
use Rattle.farm_history.specs.Entries.{Entry, Claim, Renew}
use Rattle.farm_history.specs.Plans.{AreApart, is_in}
use Rattle.farm_history.specs.Past.{shown, is_clean, claimed_keys}
use Rattle.farm_history.specs.Seen.{Taken, dirtied, mark_at}
use Rattle.farm_history.proofs.Keyed.{shown_served}
use Rattle.farm_plan.specs.Plans.{MapPlan, FarmPlan}
use Rattle.farm_plan.specs.Drawings.{update_of, named, reaches_of, plan_of}
use Rattle.farm_plan.specs.Spots.{IsKeyOf}
use Rattle.farm_plan.proofs.Spots.{served_key}
use Rattle.expiry_lists.specs.Marks.{MarksSeen, shown_key, mark_of, clean_marks}
use Rattle.reach_box.specs.NamedBoxes.{AreBoxesOf, boxes_reach_map}
use Rattle.reach_box.specs.Marks.{is_reached, Expires}
use Rattle.reach_box.proofs.Reached.{reached_is, boxes_are}
use Rattle.farm_refinement.specs.Seen.{FarmSeen}
use Rattle.farm_refinement.specs.Stands.{StandsFor}
use Rattle.farm_refinement.specs.inner.Events.{updated_counts, dirtied_taken}
use Rattle.farm_refinement.proofs.Marking.{dirtied_at, marks_counted}
use Rattle.farm_refinement.proofs.Changing.{renew_step, renew_refused_step, renew_unknown_step}
use Rattle.farm_core.specs.inner.Effects.{turn, Advances}
use Rattle.farm_core.specs.inner.Renews.{Reaches, Renews}
use Rattle.farm_core.proofs.Rooms.{count_few}

-- ---- the parts

-- what the loops over drawings and marks did
pub reached_told : {D : Type 0} (f : FarmSeen D) (boxes : List Bounds) (p : FarmPlan) (maps : List MapPlan) (ts : List Taken) (ms : MarksSeen) (count : ℕ) → p ≡ f.plan → maps ≡ f.plan.maps →
    ts ≡ dirtied_taken (λ k. boxes_reach_map boxes (slice_get p.maps k.map) k.meta) f.taken → Expires (is_reached maps boxes) f.marks.shown ms.shown count → AreApart shown_key f.marks.shown →
    Reaches boxes f (record f { taken = ts; marks = ms }) count
reached_told f boxes p maps ts ms count plan_is maps_are taken_is expires apart = record {
  marks = subst (λ (m : List MapPlan). Expires (is_reached m boxes) f.marks.shown ms.shown count) maps_are expires;
  apart = apart;
  rest = ap (λ (t : List Taken). record f { taken = t; marks = ms }) (taken_is ∙ ap (λ (q : FarmPlan). dirtied_taken (λ k. boxes_reach_map boxes (slice_get q.maps k.map) k.meta) f.taken) plan_is);
}

-- the next data and what was touched
pub renews_from : {D : Type 0} (old mid new : FarmSeen D) (n count : ℕ) (boxes : List Bounds) → AreBoxesOf (named old.data_now (update_of old.plan n)) boxes → Advances old mid n (Past.Renew n) → Reaches boxes mid new count → Renews old new n count
renews_from {D} old mid new n count boxes names a reaches = record {
  boxes = boxes;
  names = names;
  applied = a.0 ∙ ap (λ (d : List Layer). Ok d) (sym data_same);
  marks = r.marks;
  apart = r.apart;
  rest = r.rest ∙ ap (λ (d : List Layer). record old {
    data_now = d;
    changes = old.changes ++ Past.Renew n ∷ [];
    counts = record old.counts { version = old.counts.version + 1 };
    taken = dirtied_taken (λ k. boxes_reach_map boxes (slice_get old.plan.maps k.map) k.meta) old.taken;
    marks = new.marks;
  }) (sym data_same);
}
  where
    r : Reaches boxes (record old { data_now = mid.data_now; changes = old.changes ++ Past.Renew n ∷ []; counts = record old.counts { version = old.counts.version + 1 } }) new count
    r = subst (λ (f : FarmSeen D). Reaches boxes f new count) a.1 reaches

    data_same : new.data_now ≡ mid.data_now
    data_same = ap (λ (f : FarmSeen D). f.data_now) r.rest

-- ---- marks

-- no more is claimed than there are entries
claimed_few : (h : List Entry) → length (claimed_keys h) ≤ length h
unfolding claimed_keys
claimed_few [] = omega arith
claimed_few (Claim worker (Job t k v) ∷ g) = go (is_in k (claimed_keys g)) (claimed_few g)
  where
    go : (b : Bool) → length (claimed_keys g) ≤ length g → length (cond b (claimed_keys g) (claimed_keys g ++ k ∷ [])) ≤ length (Claim worker (Job t k v) ∷ g)
    go true few = omega (arith, few)
    go false few = omega (arith, few, length-append (claimed_keys g) (k ∷ []))
claimed_few (e ∷ g) = let few = claimed_few g in omega (arith, few)

module _ {D : Type 0} (state : D → Outside StoreTold) where
  -- what is shown is of the plan
  pub marked_key : (told : Bool) (farm : FarmSeen D) (h : List Entry) (k : Key) → StandsFor state told farm h → is_some (mark_of farm.marks.shown k) ≡ true → IsKeyOf farm.plan k
  marked_key told farm h k s some = go (shown h k) refl (sym (ap is_some (s.marks_are k)) ∙ some)
    where
      go : (o : Option (List Entry)) → shown h k ≡ o → is_some (mark_at (plan_of farm.plan) h k o) ≡ true → IsKeyOf farm.plan k
      go None is e = let never : false ≡ true = e in cc
      go (Some before) is e = served_key farm.plan k s.valid (shown_served (plan_of farm.plan) told h k before s.legal is)

  -- as many as were clean is no more than the events
  few_clean : (told : Bool) (farm : FarmSeen D) (h : List Entry) (test : Key → Bool) → AreApart shown_key farm.marks.shown → StandsFor state told farm h → clean_marks test farm.marks.shown ≤ length h
  few_clean told farm h test apart s =
      let counted = marks_counted (plan_of farm.plan) h test farm.marks.shown apart s.marks_are in
      let few = count_few (λ (k : Key). is_clean (plan_of farm.plan) h k && test k) (claimed_keys h) in
      omega (arith, counted, few, claimed_few h)

  -- what a renew names, reached and touched, by the history
  module _ (told : Bool) (old new : FarmSeen D) (h : List Entry) (n count : ℕ) (r : Renews (turn old) new n count) (s : StandsFor state told old h) where
    pub same_taken : (k : Key) → boxes_reach_map r.boxes (slice_get old.plan.maps k.map) k.meta ≡ reaches_of old.plan old.data_now n k
    same_taken k = boxes_are old.plan old.data_now n r.boxes k r.names

    pub same_marks : (k : Key) → is_some (mark_of old.marks.shown k) ≡ true → is_reached old.plan.maps r.boxes k ≡ reaches_of old.plan old.data_now n k
    same_marks k some = reached_is old.plan r.boxes k (marked_key told old h k s some) ∙ same_taken k

    pub marks_after : (k : Key) → mark_of new.marks.shown k ≡ option_map (dirtied (is_reached old.plan.maps r.boxes k)) (mark_of old.marks.shown k)
    marks_after k = ap (λ ms. mark_of ms k) r.marks.shown ∙ dirtied_at (is_reached old.plan.maps r.boxes) old.marks.shown k

    pub new_is : new ≡ record old {
      counts = updated_counts old.counts;
      data_now = new.data_now;
      changes = old.changes ++ Past.Renew n ∷ [];
      taken = dirtied_taken (reaches_of old.plan old.data_now n) old.taken;
      marks = new.marks;
    }
    new_is = r.rest ∙ ap (λ (t : Key → Bool). record old {
      counts = updated_counts old.counts;
      data_now = new.data_now;
      changes = old.changes ++ Past.Renew n ∷ [];
      taken = dirtied_taken t old.taken;
      marks = new.marks;
    }) (λ i k. same_taken k i)

    pub renew_done : (v : ℕ) → n < length old.plan.updates → v ≡ new.counts.version → old.counts.turns < 2 ^ 63 → StandsFor state told new (Renew n (Renewed.Version v count) ∷ h)
    renew_done v lt is turns =
        let few = few_clean told old h (is_reached old.plan.maps r.boxes) r.apart s in
        let counted : count ≡ clean_marks (is_reached old.plan.maps r.boxes) old.marks.shown = let c = r.marks.count_is in let long = s.counts_are.turns_are in omega (arith, c, few, long, turns) in
        let later : new.counts.version ≡ old.counts.version + 1 = ap (λ (f : FarmSeen D). f.counts.version) new_is in
        subst (λ (x : ℕ). StandsFor state told new (Renew n (Renewed.Version x count) ∷ h)) (sym (is ∙ later))
        (subst (λ (x : ℕ). StandsFor state told new (Renew n (Renewed.Version (old.counts.version + 1) x) ∷ h)) (sym counted)
        (subst (λ (f : FarmSeen D). StandsFor state told f (Renew n (Renewed.Version (old.counts.version + 1) (clean_marks (is_reached old.plan.maps r.boxes) old.marks.shown)) ∷ h)) (sym new_is)
        (renew_step state told old h n new.data_now (is_reached old.plan.maps r.boxes) new.marks lt r.applied r.apart same_marks marks_after s)))

  pub renew_told : (told : Bool) (old new : FarmSeen D) (h : List Entry) (n v count : ℕ) → nat_lt n (length old.plan.updates) ≡ true → Renews (turn old) new n count → v ≡ new.counts.version → old.counts.turns < 2 ^ 63 → StandsFor state told old h → StandsFor state told new (Renew n (Renewed.Version v count) ∷ h)
  renew_told told old new h n v count lt r is turns s = renew_done told old new h n count r s v (ltb-true n (length old.plan.updates) lt) is turns

  pub renew_refused : (told : Bool) (old new : FarmSeen D) (h : List Entry) (n : ℕ) (fault : ApplyFault) → nat_lt n (length old.plan.updates) ≡ true → (fault ≢ ApplyFault.NoMemory → update_result (update_of old.plan n) old.data_now ≡ Err fault) → new ≡ turn old → StandsFor state told old h →
      StandsFor state told new (Renew n (Renewed.Refused fault) ∷ h)
  renew_refused told old new h n fault lt first same s = subst (λ (f : FarmSeen D). StandsFor state told f (Renew n (Renewed.Refused fault) ∷ h)) (sym same) (renew_refused_step state told old h n fault (ltb-true n (length old.plan.updates) lt) first s)

  pub renew_unknown : (told : Bool) (old new : FarmSeen D) (h : List Entry) (n : ℕ) → nat_lt n (length old.plan.updates) ≡ false → new ≡ turn old → StandsFor state told old h → StandsFor state told new (Renew n Renewed.NoUpdate ∷ h)
  renew_unknown told old new h n past same s = subst (λ (f : FarmSeen D). StandsFor state told f (Renew n Renewed.NoUpdate ∷ h)) (sym same) (renew_unknown_step state told old h n (ltb-false n (length old.plan.updates) past) s)
