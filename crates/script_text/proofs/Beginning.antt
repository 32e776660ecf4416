-- A farm that just began, and what it leaves.
use Rattle.std.proofs.Common.{◌≡◌, Bool, false, List, [], ◌<◌, ◌^◌, sym, ap, ◌∙◌, arith}
use Rattle.std.specs.Prelude.{None, is_some}
use Rattle.farm_base.specs.Outside.{Outside}
use Rattle.tile_store.specs.Stores.{StoreTold}
use Rattle.farm_history.specs.Entries.{Entry}
use Rattle.farm_plan.specs.Plans.{FarmPlan}
use Rattle.farm_refinement.specs.Seen.{FarmSeen}
use Rattle.farm_refinement.specs.Stands.{StandsFor}
use Rattle.farm_core.specs.Answers.{Lasts, at_saved}
use Rattle.farm_core.specs.Begins.{Begins}
use Rattle.script_text.specs.Left.{Leaves}

-- a farm that stands for no events was not called yet
pub few_new : {D : Type 0} (state : D → Outside StoreTold) (farm : FarmSeen D) → StandsFor state false farm [] → farm.counts.turns < 2 ^ 62
few_new state farm stands = let none = stands.counts_are.turns_are in omega (arith, none)

module _ {D : Type 0} (state : D → Outside StoreTold) (plan : FarmPlan) (store : D) where
  -- it stands for no events
  pub stands_new : (farm : FarmSeen D) → Begins state plan None store farm → StandsFor state false farm []
  stands_new farm begins = begins.stands false (λ e. absurd (cc))

  -- what it leaves
  pub leaves : (old new : FarmSeen D) (store' : D) (ran : (List Entry → Type 0) → Type 0) → Begins state plan None store old → Lasts state old new → store' ≡ new.store
      → ((told : Bool) → StandsFor state told old [] → ran (λ h. StandsFor state told new h)) → Leaves state plan store store' ran
  leaves old new store' ran begins kept is run = record {
    farm = new;
    plan_is = kept.plan ∙ begins.plan_is;
    first_is = kept.first ∙ begins.first_is;
    store_is = sym is;
    beside = ap (λ (d : D). at_saved (state d)) is ∙ kept.beside ∙ ap (λ (d : D). at_saved (state d)) begins.store_is;
    runs = run (is_some (state store).told) (begins.stands (is_some (state store).told) (λ e. e));
  }
