-- A farm in its replay, step by step.
use Rattle.std.proofs.Common.{◌≡◌, ℕ, zero, suc, ◌+◌, ◌*◌, ◌/◌, ◌%◌, ◌<◌, ◌≤◌, Bool, true, false, ◌||◌, ◌&&◌, cond, ◌==◌, nat_lt, nat_le, List, [], ◌∷◌, length, get_or, drop, slice_get, Option, Some, None, refl, sym, ap, ◌∙◌, subst, arith}
use Rattle.std.specs.List.{list_any}
use Rattle.std.specs.Prelude.{MatchBool}
use Rattle.std.proofs.lemmas.Bool.{eqb-true, leb-true}
use Rattle.std.proofs.lemmas.Bool.Decides.{nat_tests}
use Rattle.std.proofs.lemmas.List.{at_drop_more, at_drop_all}
use Rattle.std.proofs.lemmas.Option.{slice_get_within}
use Rattle.farm_base.specs.Outside.{Outside}
use Rattle.tile_store.specs.Stores.{StoreTold}
use Rattle.farm_history.specs.declared.keys.Key.{Key}
use Rattle.farm_history.specs.declared.keys.Kept.{Kept}
use Rattle.farm_history.specs.declared.saved.Past.{Past}
use Rattle.farm_history.specs.Entries.{Entry}
use Rattle.farm_history.specs.Lists.{Each}
use Rattle.farm_history.specs.Plans.{AreApart, same_key}
use Rattle.farm_history.specs.Past.{shown}
use Rattle.farm_history.specs.Seen.{mark_at}
use Rattle.farm_history.specs.Replays.{past_number, lowest, replay_key, replay_keys, replay_change}
use Rattle.farm_history.proofs.Lists.{same_key-sym}
use Rattle.farm_history.proofs.Counts.{count-cons}
use Rattle.farm_history.proofs.Keyed.{IsServed}
use Rattle.farm_plan.specs.Plans.{MapPlan, FarmPlan}
use Rattle.farm_plan.specs.Drawings.{plan_of}
use Rattle.render_jobs.proofs.Servable.{served}
use Rattle.expiry_lists.specs.Marks.{Shown, mark_of}
use Rattle.reach_box.specs.Marks.{is_reached}
use Rattle.farm_refinement.specs.Seen.{FarmSeen}
use Rattle.farm_refinement.proofs.Resuming.{Replays, replay_key_step, replay_update_step, replay_renew_step}
use Rattle.render_jobs.specs.Faults.{has_zoom}
use Rattle.farm_core.specs.inner.Replays.{IsReplaying, Stays, CanReplay, IsFresh, how_many_of, how_many_from, Replayed, ReplaysAt, ReplaysChange}
use Rattle.farm_core.proofs.Renewing.{same_marks, marks_after, new_is}

-- ---- places

apart_after : (x : Kept) (xs : List Kept) (j : ℕ) (y : Kept) → list_any (λ (z : Kept). same_key z.key x.key) xs ≡ false → slice_get xs j ≡ Some y → same_key y.key x.key ≡ false
apart_after x [] j y none is = let no : Option Kept = None in let never : no ≡ Some y = is in cc
apart_after x (z ∷ xs) zero y none is = let same : z ≡ y = cc in ap (λ (k : Kept). same_key k.key x.key) (sym same) ∙ (let n = none in grind arith)
apart_after x (z ∷ xs) (suc j) y none is = apart_after x xs j y (let n = none in grind arith) is

-- entries at two places have two keys
pub apart_places : (xs : List Kept) (i j : ℕ) (x y : Kept) → AreApart (λ (k : Kept). k.key) xs → slice_get xs i ≡ Some x → slice_get xs j ≡ Some y → (i == j) ≡ false → same_key x.key y.key ≡ false
apart_places [] i j x y apart at_i at_j other = let no : Option Kept = None in let never : no ≡ Some x = at_i in cc
apart_places (z ∷ xs) zero zero x y apart at_i at_j other = let never : true ≡ false = other in cc
apart_places (z ∷ xs) zero (suc j) x y apart at_i at_j other = let same : z ≡ x = cc in same_key-sym x.key y.key ∙ (ap (λ (k : Kept). same_key y.key k.key) (sym same) ∙ apart_after z xs j y apart.0 at_j)
apart_places (z ∷ xs) (suc i) zero x y apart at_i at_j other = let same : z ≡ y = cc in ap (λ (k : Kept). same_key x.key k.key) (sym same) ∙ apart_after z xs i x apart.0 at_i
apart_places (z ∷ xs) (suc i) (suc j) x y apart at_i at_j other = apart_places xs i j x y apart.1 at_i at_j (less i j other)
  where
    less : (a b : ℕ) → (suc a == suc b) ≡ false → (a == b) ≡ false
    less a b h = grind (arith, nat_tests)

-- ---- what is still to be replayed

left_weaker : (v i j n : ℕ) → (nat_lt v n || ((n == v) && nat_le (i + 1) j)) ≡ true → (nat_lt v n || ((n == v) && nat_le i j)) ≡ true
left_weaker v i j n h = grind (arith, nat_tests)

left_elsewhere : (v i j n : ℕ) → (nat_lt v n || ((n == v) && nat_le (i + 1) j)) ≡ true → n ≡ v → (i == j) ≡ false
left_elsewhere v i j n h is = grind (arith, nat_tests)

next_left : (v n j len : ℕ) → j < len → (nat_lt (v + 1) n || ((n == v + 1) && nat_le 0 j)) ≡ true → (nat_lt v n || ((n == v) && nat_le len j)) ≡ true
next_left v n j len lt h = grind (arith, nat_tests)

one_place : (xs : List Kept) (i j : ℕ) (x y : Kept) → slice_get xs i ≡ Some x → slice_get xs j ≡ Some y → (i == j) ≡ true → x ≡ y
one_place xs i j x y at_i at_j same =
    let here : i ≡ j = eqb-true i j same in
    let both : Some x ≡ Some y = sym at_i ∙ (ap (slice_get xs) here ∙ at_j) in
    cc

-- after one more entry
pub fresh_more : {D : Type 0} (v i : ℕ) (clean : List Kept) (old new : FarmSeen D) (x : Kept) → AreApart (λ (k : Kept). k.key) clean → slice_get clean i ≡ Some x → ReplaysAt v old new x → IsFresh v i clean old.marks.shown → IsFresh v (i + 1) clean new.marks.shown
fresh_more {D} v i clean old new x apart at_i replays fresh j y at_j left = go (x.version == v) refl replays
  where
    was : mark_of old.marks.shown y.key ≡ None
    was = fresh j y at_j (left_weaker v i j y.version left)

    other : x.version ≡ v → (i == j) ≡ false
    other is = place (i == j) refl
      where
        place : (b : Bool) → (i == j) ≡ b → (i == j) ≡ false
        place false e = e
        place true e = let same : x ≡ y = one_place clean i j x y at_i at_j e in left_elsewhere v i j y.version left (ap (λ (k : Kept). k.version) (sym same) ∙ is)

    go : (b : Bool) → (x.version == v) ≡ b → MatchBool b (Replayed old new x) (new ≡ old) → mark_of new.marks.shown y.key ≡ None
    go true e r = r.marks y.key ∙ (ap (λ b. cond b (Some (record { version = old.counts.version; clean = true })) (mark_of old.marks.shown y.key)) (apart_places clean i j x y apart at_i at_j (other (eqb-true x.version v e))) ∙ was)
    go false e r = ap (λ (f : FarmSeen D). mark_of f.marks.shown y.key) r ∙ was

pub fresh_next : (v : ℕ) (clean : List Kept) (i : ℕ) (shown : List Shown) → length clean ≤ i → IsFresh v i clean shown → IsFresh (v + 1) 0 clean shown
fresh_next v clean i shown all fresh j y at_j left = fresh j y at_j (next_left v y.version j i (let lt = slice_get_within clean j y at_j in omega (arith, lt, all)) left)

-- ---- counts

pub many_more : (v : ℕ) (clean : List Kept) (i : ℕ) (x : Kept) → i < length clean → x ≡ get_or clean i x → how_many_of v (drop i clean) ≡ cond (x.version == v) 1 0 + how_many_of v (drop (i + 1) clean)
many_more v clean i x lt at =
    at_drop_more (λ xs. how_many_of v xs) clean i x lt
    ∙ (count-cons (λ (y : Kept). y.version == v) (get_or clean i x) (drop (i + 1) clean) ∙ ap (λ (y : Kept). cond (y.version == v) 1 0 + how_many_of v (drop (i + 1) clean)) (sym at))

weights : (a v : ℕ) → cond (nat_le v a) 1 0 ≡ cond (a == v) 1 0 + cond (nat_le (v + 1) a) 1 0
weights a v = grind (arith, nat_tests)

pub many_split : (v : ℕ) (clean : List Kept) → how_many_from v clean ≡ how_many_of v clean + how_many_from (v + 1) clean
many_split v [] = refl
many_split v (x ∷ xs) =
    let a = count-cons (λ (y : Kept). nat_le v y.version) x xs in
    let b = count-cons (λ (y : Kept). y.version == v) x xs in
    let d = count-cons (λ (y : Kept). nat_le (v + 1) y.version) x xs in
    omega (arith, a, b, d, weights x.version v, many_split v xs)

pub turns_at : {D : Type 0} (v : ℕ) (old new : FarmSeen D) (x : Kept) → ReplaysAt v old new x → new.counts.turns ≡ old.counts.turns + 4 * cond (x.version == v) 1 0
turns_at {D} v old new x r = go (x.version == v) r
  where
    go : (b : Bool) → MatchBool b (Replayed old new x) (new ≡ old) → new.counts.turns ≡ old.counts.turns + 4 * cond b 1 0
    go true r = let e = ap (λ (f : FarmSeen D). f.counts.turns) r.rest in omega (arith, e)
    go false r = let e = ap (λ (f : FarmSeen D). f.counts.turns) r in omega (arith, e)

pub version_at : {D : Type 0} (v : ℕ) (old new : FarmSeen D) (x : Kept) → ReplaysAt v old new x → (new.counts.version ≡ old.counts.version) × (new.data_now ≡ old.data_now)
version_at {D} v old new x r = go (x.version == v) r
  where
    go : (b : Bool) → MatchBool b (Replayed old new x) (new ≡ old) → (new.counts.version ≡ old.counts.version) × (new.data_now ≡ old.data_now)
    go true r = (ap (λ (f : FarmSeen D). f.counts.version) r.rest, ap (λ (f : FarmSeen D). f.data_now) r.rest)
    go false r = (ap (λ (f : FarmSeen D). f.counts.version) r, ap (λ (f : FarmSeen D). f.data_now) r)

-- ---- keys

eights : (x : ℕ) → x % 8 ≡ 0 → x / 8 * 8 ≡ x
eights x h = omega arith

-- the lowest tile of a clean metatile that the plan has can be served
pub is_served : (plan : FarmPlan) (x : Kept) → CanReplay plan x → IsServed (plan_of plan) x.key
is_served plan x can = go (slice_get plan.maps x.key.map) refl can.shows
  where
    go : (o : Option MapPlan) → slice_get plan.maps x.key.map ≡ o → has_zoom o x.key.meta.z ≡ true → IsServed (plan_of plan) x.key
    go None is h = let never : false ≡ true = h in cc
    go (Some mp) is h = record {
      servable = served plan (lowest x.key) x.key.map mp refl is (leb-true x.key.meta.z mp.max_zoom h) (record { z_fits = can.meta.z_fits; x_fits = can.meta.x_fits; y_fits = can.meta.y_fits });
      key_is = λ i. record { map = x.key.map; meta = record { z = x.key.meta.z; x = eights x.key.meta.x can.meta.x_eights i; y = eights x.key.meta.y can.meta.y_eights i } };
    }

module _ {D : Type 0} (state : D → Outside StoreTold) where
  pub to_replays : (farm : FarmSeen D) (g : List Entry) → IsReplaying state farm g → Replays state farm g
  to_replays farm g r = record {
    quiet = λ told. record { legal = r.legal told; running = r.running; grounded = r.grounded; idle = r.idle; answered = r.answered };
    stands = r.stands;
    unfailed = r.unfailed;
  }

  pub from_replays : (farm : FarmSeen D) (g : List Entry) → Replays state farm g → IsReplaying state farm g
  from_replays farm g r = record {
    legal = λ told. (r.quiet told).legal;
    running = (r.quiet false).running;
    grounded = (r.quiet false).grounded;
    idle = (r.quiet false).idle;
    answered = (r.quiet false).answered;
    stands = r.stands;
    unfailed = r.unfailed;
  }

  unseen : (farm : FarmSeen D) (g : List Entry) (k : Key) → IsReplaying state farm g → mark_of farm.marks.shown k ≡ None → shown g k ≡ None
  unseen farm g k r none = go (shown g k) (sym (r.stands.marks_are k) ∙ none)
    where
      go : (o : Option (List Entry)) → mark_at (plan_of farm.plan) g k o ≡ None → o ≡ None
      go None e = refl
      go (Some before) e = cc

  -- an entry of the version, or another
  at_step : (v : ℕ) (old new : FarmSeen D) (g : List Entry) (x : Kept) → CanReplay old.plan x → (x.version ≡ v → mark_of old.marks.shown x.key ≡ None) → ReplaysAt v old new x → IsReplaying state old g → IsReplaying state new (cond (x.version == v) (replay_key x.key g) g)
  at_step v old new g x can fresh replays r = go (x.version == v) refl replays
    where
      go : (b : Bool) → (x.version == v) ≡ b → MatchBool b (Replayed old new x) (new ≡ old) → IsReplaying state new (cond b (replay_key x.key g) g)
      go true e d =
          subst (λ (f : FarmSeen D). IsReplaying state f (replay_key x.key g)) (sym d.rest)
          (from_replays _ _ (replay_key_step state old g x.key new.marks (is_served old.plan x can) (unseen old g x.key r (fresh (eqb-true x.version v e))) d.marks (to_replays old g r)))
      go false e d = subst (λ (f : FarmSeen D). IsReplaying state f g) (sym d) r

  -- so far the farm stands for a history, to which the entries before place i were added
  pub record KeysTo (farm : FarmSeen D) (v : ℕ) (clean : List Kept) (i : ℕ) (h : List Entry) : Type 0 where
    pub g : List Entry
    pub to : replay_keys v clean h ≡ replay_keys v (drop i clean) g
    pub replaying : IsReplaying state farm g

  left_here : (v i n : ℕ) → n ≡ v → (nat_lt v n || ((n == v) && nat_le i i)) ≡ true
  left_here v i n is = grind (arith, nat_tests)

  pub keys_more : (old new : FarmSeen D) (v : ℕ) (clean : List Kept) (i : ℕ) (x : Kept) (h : List Entry) → i < length clean → x ≡ get_or clean i x → slice_get clean i ≡ Some x → CanReplay old.plan x → IsFresh v i clean old.marks.shown → ReplaysAt v old new x → KeysTo old v clean i h → KeysTo new v clean (i + 1) h
  unfolding replay_keys
  keys_more old new v clean i x h lt at at_i can fresh replays k = record {
    g = cond (x.version == v) (replay_key x.key k.g) k.g;
    to = k.to ∙ (at_drop_more (λ xs. replay_keys v xs k.g) clean i x lt ∙ ap (λ (y : Kept). replay_keys v (drop (i + 1) clean) (cond (y.version == v) (replay_key y.key k.g) k.g)) (sym at));
    replaying = at_step v old new k.g x can (λ is. fresh i x at_i (left_here v i x.version is)) replays k.replaying;
  }

  pub keys_all : (farm : FarmSeen D) (v : ℕ) (clean : List Kept) (i : ℕ) (h : List Entry) → length clean ≤ i → KeysTo farm v clean i h → IsReplaying state farm (replay_keys v clean h)
  unfolding replay_keys
  keys_all farm v clean i h all k = subst (IsReplaying state farm) (sym (k.to ∙ at_drop_all (λ xs. replay_keys v xs k.g) clean i all)) k.replaying

  -- ---- updates

  -- an update that was made again
  pub change_step : (old new : FarmSeen D) (g : List Entry) (c : Past) → past_number c < length old.plan.updates → ReplaysChange old new c → IsReplaying state old g → IsReplaying state new (replay_change (plan_of old.plan) c g)
  change_step old new g (Past.Update n) lt d r =
      subst (λ (f : FarmSeen D). IsReplaying state f (replay_change (plan_of old.plan) (Past.Update n) g)) (sym d.1) (from_replays _ _ (replay_update_step state old g n new.data_now lt d.0 (to_replays old g r)))
  change_step old new g (Past.Renew n) lt d r =
      subst (λ (f : FarmSeen D). IsReplaying state f (replay_change (plan_of old.plan) (Past.Renew n) g)) (sym (new_is state false old new g n d.0 d.1 r.stands))
      (from_replays _ _ (replay_renew_step state old g n new.data_now (is_reached old.plan.maps d.1.boxes) new.marks lt d.1.applied d.1.apart (same_marks state false old new g n d.0 d.1 r.stands) (marks_after state false old new g n d.0 d.1 r.stands) (to_replays old g r)))

pub stays_then : {D : Type 0} (a b c : FarmSeen D) → Stays a b → Stays b c → Stays a c
stays_then a b c x y = record { plan = y.plan ∙ x.plan; saved = y.saved ∙ x.saved; first = y.first ∙ x.first; store = y.store ∙ x.store }

pub each_at : {X : Type 0} (P : X → Type 0) (xs : List X) (i : ℕ) (x : X) → Each P xs → slice_get xs i ≡ Some x → P x
each_at {X} P [] i x each is = let no : Option X = None in let never : no ≡ Some x = is in cc
each_at P (y ∷ ys) zero x each is = let same : y ≡ x = cc in subst P same each.0
each_at P (y ∷ ys) (suc i) x each is = each_at P ys i x each.1 is
