-- A farm that was started with nothing resumed may be shared.
use Rattle.std.proofs.Common.{◌≡◌, ◌<◌, ◌^◌, Bool, true, [], length, None, sym, ap, subst, arith}
use Rattle.std.specs.Option.{is_some}
use Rattle.farm_base.specs.Outside.{Outside}
use Rattle.tile_store.specs.Stores.{StoreTold}
use Rattle.farm_plan.specs.Plans.{FarmPlan}
use Rattle.farm_refinement.specs.Seen.{FarmSeen}
use Rattle.farm_refinement.specs.Stands.{StandsFor}
use Rattle.farm_core.specs.Begins.{Begins, Tells, origin}
use Rattle.farm_shared.specs.Afters.{MayTell, lasting_of}

module _ {D : Type 0} (state : D → Outside StoreTold) (plan : FarmPlan) (store : D) (farm : FarmSeen D) (b : Begins state plan None store farm) where
  none_past : origin farm.plan farm.saved ≡ []
  none_past = ap (origin farm.plan) b.saved_is

  pub may_share : (told : Bool) → MayTell state (lasting_of state farm) told → StandsFor state told farm (origin farm.plan farm.saved)
  may_share told may = subst (λ h. StandsFor state told farm h) (sym none_past)
      (b.stands told (λ t. subst (λ s. is_some (state s).told ≡ true) b.first_is (subst (λ saved. Tells (state farm.first) farm.plan saved) b.saved_is (may t))))

  pub is_short : length (origin farm.plan farm.saved) < 2 ^ 62
  is_short = rw none_past (omega arith)
