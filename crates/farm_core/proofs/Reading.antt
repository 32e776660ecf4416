-- What a fetch read, and by that its answer.
use Rattle.std.proofs.Common.{◌≡◌, true, false, Option, Some, None, refl, sym, ap, subst}
use Rattle.farm_base.specs.Outside.{Outside}
use Rattle.tile_store.specs.Stores.{StoreTold}
use Rattle.plain_world.specs.World.{index_place}
use Rattle.farm_history.specs.declared.answers.Fetched.{Fetched}
use Rattle.farm_history.specs.declared.asks.Spot.{Spot}
use Rattle.farm_history.specs.declared.keys.Mark.{Mark}
use Rattle.farm_history.specs.Plans.{is_servable, key_of, spot_tile}
use Rattle.farm_plan.specs.Drawings.{plan_of}
use Rattle.expiry_lists.specs.Marks.{mark_of}
use Rattle.farm_refinement.specs.Seen.{FarmSeen}
use Rattle.farm_core.specs.Answers.{Reads}
use Rattle.farm_core.specs.inner.Effects.{Fetches, turn}

module _ {D : Type 0} (state : D → Outside StoreTold) (old new : FarmSeen D) (spot : Spot) where
  pub unserved : new ≡ turn old → is_servable (plan_of old.plan) spot ≡ false → Reads state old new spot Fetched.Unservable (is_servable (plan_of old.plan) spot) (mark_of old.marks.shown (key_of spot))
  unserved same off = subst (λ b. Reads state old new spot Fetched.Unservable b (mark_of old.marks.shown (key_of spot))) (sym off) (refl, ap (λ (f : FarmSeen D). f.store) same)

  pub unshown : new ≡ turn old → is_servable (plan_of old.plan) spot ≡ true → mark_of old.marks.shown (key_of spot) ≡ None → Reads state old new spot Fetched.Missing (is_servable (plan_of old.plan) spot) (mark_of old.marks.shown (key_of spot))
  unshown same on none =
      subst (λ b. Reads state old new spot Fetched.Missing b (mark_of old.marks.shown (key_of spot))) (sym on)
      (subst (λ (o : Option Mark). Reads state old new spot Fetched.Missing true o) (sym none) (refl, ap (λ (f : FarmSeen D). f.store) same))

  pub tile_read : (mark : Mark) (answer : Fetched) → is_servable (plan_of old.plan) spot ≡ true → mark_of old.marks.shown (key_of spot) ≡ Some mark → Fetches state (turn old) new (key_of spot) (index_place (spot_tile spot)) mark answer →
      Reads state old new spot answer (is_servable (plan_of old.plan) spot) (mark_of old.marks.shown (key_of spot))
  tile_read mark answer on marked f =
      subst (λ b. Reads state old new spot answer b (mark_of old.marks.shown (key_of spot))) (sym on)
      (subst (λ (o : Option Mark). Reads state old new spot answer true o) (sym marked) (f.read, f.reads, f.answer_is))
