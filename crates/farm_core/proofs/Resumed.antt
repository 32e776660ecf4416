-- What was saved can be replayed where it is of the plan, and what the farm is after it.
use Rattle.std.proofs.Common.{◌≡◌, ℕ, ◌+◌, ◌-◌, ◌*◌, ◌^◌, ◌<◌, true, nat_lt, List, [], ◌∷◌, length, All, Option, Some, None, is_some, refl, sym, ap, ◌∙◌, subst, arith}
use Rattle.std.specs.Prelude.{IfSome}
use Rattle.std.specs.Option.{option_or}
use Rattle.std.proofs.lemmas.Bool.Decides.{nat_tests}
use Rattle.std.proofs.lemmas.List.Elements.{All-head, All-tail}
use Rattle.std.proofs.lemmas.List.Sums.{count_by-le-length}
use Rattle.farm_base.specs.Outside.{Outside}
use Rattle.tile_store.specs.Stores.{StoreTold}
use Rattle.farm_history.specs.declared.keys.Kept.{Kept}
use Rattle.farm_history.specs.declared.saved.Past.{Past}
use Rattle.farm_history.specs.Entries.{Entry}
use Rattle.farm_history.specs.Lists.{Each}
use Rattle.farm_history.specs.Replays.{Saving, are_rising, past_number, replay_styles, replay_from, replay}
use Rattle.farm_history.proofs.Lists.{each-map}
use Rattle.farm_history.proofs.Unflown.{replay_unflown, replay_asks, replay_length}
use Rattle.farm_plan.specs.Plans.{FarmPlan, IsPlan}
use Rattle.farm_plan.specs.Drawings.{plan_of}
use Rattle.farm_saved.specs.Savings.{IsKept, IsSaving}
use Rattle.expiry_lists.specs.Marks.{mark_of}
use Rattle.farm_refinement.specs.Seen.{FarmSeen}
use Rattle.farm_refinement.specs.Stands.{HoldsShown}
use Rattle.farm_refinement.proofs.Resuming.{resumed_stands}
use Rattle.render_jobs.specs.declared.faults.ResumeFault.{ResumeFault}
use Rattle.render_jobs.specs.declared.faults.ResumeFault.TheVariants.{Number, Kept as NotKept}
use Rattle.render_jobs.specs.Given.{styles_given}
use Rattle.render_jobs.specs.Faults.{can_show, apply_fault, form_fault, resume_fault}
use Rattle.render_jobs.proofs.Checked.{each_passes, shaped}
use Rattle.farm_core.specs.Begins.{Begins, BeginsWell}
use Rattle.farm_core.specs.inner.Starts.{IsStarted}
use Rattle.farm_core.specs.inner.Replays.{CanReplay, IsAnew, IsFresh, IsReplaying, Stays}
use Rattle.farm_core.proofs.Anew.{anew_stands}
use Rattle.farm_core.proofs.Replaying.{to_replays}

-- ---- what was saved can be replayed

under : (a b : ℕ) → nat_lt a b ≡ true → a < b
under a b h = grind (arith, nat_tests)

known : (p : FarmPlan) (s : Saving) → form_fault p s ≡ None → Each (λ (c : Past). past_number c < length p.updates) s.updates
known p s fits =
    each-map (λ (c : Past). nat_lt (past_number c) (length p.updates) ≡ true) (λ (c : Past). past_number c < length p.updates) s.updates (λ c h. under (past_number c) (length p.updates) h)
    (each_passes (λ (c : Past). nat_lt (past_number c) (length p.updates)) (λ place. Number (length s.styles + place)) 0 s.updates (shaped p s fits).updates)

can_all : (p : FarmPlan) (n : ℕ) (xs : List Kept) → All (IsKept n) xs → Each (λ (x : Kept). can_show p x.key ≡ true) xs → Each (CanReplay p) xs
can_all p n [] all each = tt
can_all p n (x ∷ xs) all each = (record { shows = each.0; meta = (All-head (IsKept n) x xs all).placed }, can_all p n xs (All-tail (IsKept n) x xs all) each.1)

all_shown : (p : FarmPlan) (s : Saving) → form_fault p s ≡ None → IsSaving s → Each (CanReplay p) s.clean
all_shown p s fits sound =
    can_all p (length s.updates) s.clean sound.clean_fit.kept (each_passes (λ (x : Kept). can_show p x.key) (λ place. NotKept place) 0 s.clean (shaped p s fits).clean)

few_turns : (p : FarmPlan) (s : Saving) (updates clean : ℕ) → IsPlan p → form_fault p s ≡ None → updates + 4 * clean < 2 ^ 62 - 16 → styles_given s.styles + updates + 4 * clean < 2 ^ 62
few_turns p s updates clean valid fits short =
    let maps = (shaped p s fits).maps in
    let few = valid.count_maps.few in
    omega (arith, count_by-le-length (λ (o : Option ℕ). is_some o) s.styles, maps, few, short)

-- what a replay needs of a farm that begins anew, and of the lists of what was saved
pub record IsReady {D : Type 0} (p : FarmPlan) (s : Saving) (farm : FarmSeen D) (updates : List Past) (clean : List Kept) : Type 0 where
  pub version : farm.counts.version ≡ 0
  pub known : Each (λ (c : Past). past_number c < length farm.plan.updates) updates
  pub keys : Each (CanReplay farm.plan) clean
  pub rise : are_rising clean ≡ true
  pub fresh : IsFresh 0 0 clean farm.marks.shown
  pub turns : farm.counts.turns + length updates + 4 * length clean < 2 ^ 62

ready_at : {D : Type 0} (p : FarmPlan) (s : Saving) (store : D) (farm : FarmSeen D) → IsPlan p → form_fault p s ≡ None → IsSaving s → length s.updates + 4 * length s.clean < 2 ^ 62 - 16 → IsAnew p s store farm → IsReady p s farm s.updates s.clean
ready_at {D} p s store farm valid fits sound short anew =
    let plan_is : farm.plan ≡ p = ap (λ (f : FarmSeen D). f.plan) anew.is in
    record {
      version = ap (λ (f : FarmSeen D). f.counts.version) anew.is;
      known = subst (λ (q : FarmPlan). Each (λ (c : Past). past_number c < length q.updates) s.updates) (sym plan_is) (known p s fits);
      keys = subst (λ (q : FarmPlan). Each (CanReplay q) s.clean) (sym plan_is) (all_shown p s fits sound);
      rise = sound.clean_fit.rise;
      fresh = λ j x at left. ap (λ rows. mark_of rows x.key) anew.unmarked;
      turns = subst (λ (n : ℕ). n + length s.updates + 4 * length s.clean < 2 ^ 62) (sym (ap (λ (f : FarmSeen D). f.counts.turns) anew.is)) (few_turns p s (length s.updates) (length s.clean) valid fits short);
    }

pub ready : {D : Type 0} (p : FarmPlan) (s : Saving) (store : D) (farm : FarmSeen D) (updates : List Past) (clean : List Kept) → updates ≡ s.updates → clean ≡ s.clean →
    IsPlan p → form_fault p s ≡ None → IsSaving s → length s.updates + 4 * length s.clean < 2 ^ 62 - 16 → IsAnew p s store farm → IsReady p s farm updates clean
ready p s store farm updates clean same_updates same_clean valid fits sound short anew =
    subst (λ (us : List Past). IsReady p s farm us clean) (sym same_updates) (subst (λ (xs : List Kept). IsReady p s farm s.updates xs) (sym same_clean) (ready_at p s store farm valid fits sound short anew))

-- a farm that begins is one of the plan, over the store
pub record IsFirst {D : Type 0} (p : FarmPlan) (store : D) (farm : FarmSeen D) : Type 0 where
  pub plan_is : farm.plan ≡ p
  pub store_is : farm.store ≡ store
  pub started : IsStarted farm.plan farm.store farm

pub first : {D : Type 0} (p : FarmPlan) (store : D) (farm : FarmSeen D) → IsStarted p store farm → IsFirst p store farm
first {D} p store farm s = record { plan_is = plan_is; store_is = store_is; started = subst (λ (q : FarmPlan). IsStarted q farm.store farm) (sym plan_is) (subst (λ (d : D). IsStarted p d farm) (sym store_is) s) }
  where
    plan_is : farm.plan ≡ p
    plan_is = ap (λ (f : FarmSeen D). f.plan) s.is

    store_is : farm.store ≡ store
    store_is = ap (λ (f : FarmSeen D). f.store) s.is

-- a farm that begins anew is one of the plan, over the store
pub record IsAgain {D : Type 0} (p : FarmPlan) (s : Saving) (store : D) (farm : FarmSeen D) : Type 0 where
  pub plan_is : farm.plan ≡ p
  pub store_is : farm.store ≡ store
  pub anew : IsAnew farm.plan s farm.store farm

pub again : {D : Type 0} (p : FarmPlan) (s : Saving) (store : D) (farm : FarmSeen D) → IsAnew p s store farm → IsAgain p s store farm
again {D} p s store farm a = record { plan_is = plan_is; store_is = store_is; anew = subst (λ (q : FarmPlan). IsAnew q s farm.store farm) (sym plan_is) (subst (λ (d : D). IsAnew p s d farm) (sym store_is) a) }
  where
    plan_is : farm.plan ≡ p
    plan_is = ap (λ (f : FarmSeen D). f.plan) a.is

    store_is : farm.store ≡ store
    store_is = ap (λ (f : FarmSeen D). f.store) a.is

-- ---- after the replay

pub resumed : {D : Type 0} (state : D → Outside StoreTold) (p : FarmPlan) (s : Saving) (store : D) (anew farm : FarmSeen D) (updates : List Past) (clean : List Kept) → updates ≡ s.updates → clean ≡ s.clean → IsPlan p → form_fault p s ≡ None → IfSome (state store).told (λ t. (state store).faults ≡ length t.failed) → IsAnew p s store anew → Stays anew farm →
    ((g : List Entry) → IsReplaying state anew g → IsReplaying state farm (replay_from (plan_of anew.plan) clean 0 updates g)) → Begins state p (Some s) store farm
resumed {D} state p s store anew farm updates clean same_updates same_clean valid fits counted is stays replays = record {
  plan_is = plan_now;
  saved_is = stays.saved ∙ ap (λ (f : FarmSeen D). f.saved) is.is;
  first_is = stays.first ∙ ap (λ (f : FarmSeen D). f.first) is.is;
  store_is = store_now;
  stands = λ told tells.
      resumed_stands state told farm r farm.saved (to_replays state farm r after)
      (subst (λ (d : D). told ≡ true → is_some (state d).told ≡ true) (sym store_now) (λ t. (tells t).0))
      (subst (λ (d : D). told ≡ true → IfSome (state d).told (λ t. HoldsShown farm.plan r t.content)) (sym store_now)
      (subst (λ (q : FarmPlan). told ≡ true → IfSome (state store).told (λ t. HoldsShown q r t.content)) (sym plan_now) (λ t. (tells t).1)));
}
  where
    r : List Entry
    r = replay (plan_of p) s

    plan_then : anew.plan ≡ p
    plan_then = ap (λ (f : FarmSeen D). f.plan) is.is

    plan_now : farm.plan ≡ p
    plan_now = stays.plan ∙ plan_then

    store_now : farm.store ≡ store
    store_now = stays.store ∙ ap (λ (f : FarmSeen D). f.store) is.is

    before : IsReplaying state anew (replay_styles s.styles [])
    before = subst (λ (f : FarmSeen D). IsReplaying state f (replay_styles s.styles [])) (sym is.is) (anew_stands state p s store anew.marks valid (shaped p s fits) is.unmarked counted)

    after : IsReplaying state farm r
    after =
        subst (λ (q : FarmPlan). IsReplaying state farm (replay_from (plan_of q) s.clean 0 s.updates (replay_styles s.styles []))) plan_then
        (subst (λ (us : List Past). IsReplaying state farm (replay_from (plan_of anew.plan) s.clean 0 us (replay_styles s.styles []))) same_updates
        (subst (λ (xs : List Kept). IsReplaying state farm (replay_from (plan_of anew.plan) xs 0 updates (replay_styles s.styles []))) same_clean (replays (replay_styles s.styles []) before)))

-- ---- what the history is with which a resumed farm begins

pub begins_well : (p : FarmPlan) (s : Saving) → IsPlan p → form_fault p s ≡ None → length s.updates + 4 * length s.clean < 2 ^ 62 - 16 → BeginsWell (replay (plan_of p) s)
begins_well p s valid fits short =
    let maps = (shaped p s fits).maps in
    let few = valid.count_maps.few in
    record { short = omega (arith, replay_length (plan_of p) s, maps, few, short); unflown = replay_unflown (plan_of p) s; asks = replay_asks (plan_of p) s }

-- ---- faults

first_of : (a b : Option ResumeFault) → a ≡ None → option_or a b ≡ b
first_of None b h = refl
first_of (Some f) b h = cc

-- the fault of what is of such a plan is that of its updates
pub later_fault : {D : Type 0} (p : FarmPlan) (s : Saving) (store : D) (farm : FarmSeen D) (updates : List Past) (f : Option ResumeFault) → updates ≡ s.updates → form_fault p s ≡ None → IsAnew p s store farm → apply_fault farm.plan farm.data_now 0 updates ≡ f → resume_fault p s ≡ f
later_fault {D} p s store farm updates f same fits anew is =
    first_of (form_fault p s) (apply_fault p p.dataset 0 s.updates) fits
    ∙ (sym (ap (λ (x : FarmSeen D). apply_fault x.plan x.data_now 0 s.updates) anew.is) ∙ (sym (ap (apply_fault farm.plan farm.data_now 0) same) ∙ is))

at_once : (a b : Option ResumeFault) (f : ResumeFault) → a ≡ Some f → option_or a b ≡ Some f
at_once None b f h = cc
at_once (Some e) b f h = h

-- a fault of what is not of such a plan is the first
pub first_fault : (p : FarmPlan) (s : Saving) (f : ResumeFault) → form_fault p s ≡ Some f → resume_fault p s ≡ Some f
first_fault p s f h = at_once (form_fault p s) (apply_fault p p.dataset 0 s.updates) f h

-- what has no fault is of such a plan
pub no_first_fault : (p : FarmPlan) (s : Saving) → resume_fault p s ≡ None → form_fault p s ≡ None
no_first_fault p s h = go (form_fault p s) refl h
  where
    go : (a : Option ResumeFault) → form_fault p s ≡ a → option_or a (apply_fault p p.dataset 0 s.updates) ≡ None → form_fault p s ≡ None
    go None e h = e
    go (Some f) e h = cc
