-- A farm as it begins.
use Rattle.std.proofs.Common.{◌≡◌, ℕ, zero, suc, replicate, ◌+◌, ◌<◌, List, length, slice_get, Option, Some, None, refl, sym, ap, ◌∙◌, subst, arith}
use Rattle.std.specs.Prelude.{IfSome}
use Rattle.std.proofs.lemmas.List.{length-replicate, get_or-replicate}
use Rattle.std.proofs.lemmas.Option.{slice_get-get_or}
use Rattle.farm_base.specs.Outside.{Outside}
use Rattle.tile_store.specs.Stores.{StoreTold}
use Rattle.farm_history.specs.declared.queues.Queue.{Queue}
use Rattle.farm_history.specs.declared.queues.Limits.{Limits}
use Rattle.farm_history.specs.Lists.{Each}
use Rattle.farm_history.specs.Seen.{Taken}
use Rattle.farm_plan.specs.Plans.{FarmPlan, IsPlan}
use Rattle.render_jobs.specs.Shared.{ShareSeen}
use Rattle.render_queues.specs.Tables.{Tables, no_tables}
use Rattle.farm_refinement.specs.declared.counts.Counts.{Counts}
use Rattle.farm_refinement.specs.Seen.{FarmSeen}
use Rattle.farm_refinement.specs.inner.Events.{no_counts}
use Rattle.farm_refinement.proofs.Starting.{start_step}
use Rattle.farm_core.specs.Begins.{Begins}
use Rattle.farm_core.specs.inner.Rooms.{how_many_at, AreTaken, AreKeysOf, IsRoomy}
use Rattle.farm_core.specs.inner.Starts.{AreParts, IsStarted}

each_same : {X : Type 0} (P : X → Type 0) (n : ℕ) (x : X) → P x → Each P (replicate n x)
each_same P zero x h = tt
each_same P (suc n) x h = (h, each_same P n x h)

none_wait : (plan : FarmPlan) (limits : Limits) (workers : ℕ) → AreKeysOf plan (no_tables limits workers)
none_wait plan limits workers Queue.Prio = tt
none_wait plan limits workers Queue.Request = tt
none_wait plan limits workers Queue.Low = tt
none_wait plan limits workers Queue.Dirty = tt
none_wait plan limits workers Queue.Bulk = tt

-- what is true of each farm's fields is true of the parts
pub room_begun : (own : ShareSeen) (spares : List ShareSeen) (taken : List Taken) (queues : Tables) (styled : List (Option ℕ)) (counts : Counts) (spares_room taken_room : ℕ) → counts ≡ no_counts → IsPlan own.plan → AreParts own.plan own spares spares_room styled taken queues taken_room →
    IsRoomy own spares taken queues styled counts spares_room taken_room
room_begun own spares taken queues styled counts spares_room taken_room none valid p = subst (λ (c : Counts). IsRoomy own spares taken queues styled c spares_room taken_room) (sym none) (record {
  is_plan = valid;
  counted = record { numbers = omega arith; jobs = omega arith; asks = omega arith; done = omega arith; stored = omega arith; version = omega arith };
  are_taken = subst (AreTaken own.plan 0 0) (sym p.tables.undrawn) (record { tickets = tt; below = tt; aged = tt; keys = tt; few = omega arith });
  are_spares = record {
    alike = subst (Each (λ (s : ShareSeen). s ≡ own)) (sym p.alike) (each_same (λ (s : ShareSeen). s ≡ own) own.plan.workers own refl);
    enough = subst (λ (t : List Taken). length spares + how_many_at 0 t ≡ own.plan.workers) (sym p.tables.undrawn) (let many = ap length p.alike in omega (arith, many, length-replicate own.plan.workers own));
  };
  waiting = subst (AreKeysOf own.plan) (sym p.tables.idle) (none_wait own.plan own.plan.limits own.plan.workers);
  styles = ap length p.tables.unstyled ∙ length-replicate (length own.plan.maps) None;
  spares_fit = p.spares_fit;
  taken_fit = p.tables.taken_fit;
})

abbrev pub no_style : Option ℕ
no_style = None

pub none_styled : (n m : ℕ) → m < n → slice_get (replicate n no_style) m ≡ Some no_style
none_styled n m lt =
    let within : m < length (replicate n no_style) = omega (arith, lt, length-replicate n no_style) in
    slice_get-get_or (replicate n no_style) m no_style within ∙ ap (λ o. Some o) (get_or-replicate n m no_style no_style lt)

-- a farm that is started begins
pub begins : {D : Type 0} (state : D → Outside StoreTold) (plan : FarmPlan) (store : D) (farm : FarmSeen D) → IsPlan plan → IfSome (state store).told (λ t. (state store).faults ≡ length t.failed) → IsStarted plan store farm → Begins state plan None store farm
begins {D} state plan store farm valid counted s = subst (Begins state plan None store) (sym s.is) (record {
  plan_is = refl;
  saved_is = refl;
  first_is = refl;
  store_is = refl;
  stands = λ told tells. start_step state told plan None store (replicate (length plan.maps) None) farm.marks valid (none_styled (length plan.maps)) s.unmarked counted tells;
})
