-- What no event changes of a farm.
use Rattle.std.proofs.Common.{◌≡◌, ◌≢◌, ℕ, Bool, true, false, List, Option, Some, None, refl, ap, ◌∙◌}
use Rattle.std.specs.Prelude.{Result, Ok, Err, option_map, MatchOption}
use Rattle.farm_refinement.proofs.Storing.{on_meta}
use Rattle.farm_base.specs.Outside.{Outside}
use Rattle.tile_store.specs.declared.stores.StoreFault.{StoreFault}
use Rattle.tile_store.specs.declared.stores.StoreFault.TheVariants.{Failed, NoMemory}
use Rattle.tile_store.specs.Stores.{StoreTold, StorePuts, Stored, PutFailed}
use Rattle.farm_history.specs.declared.keys.Key.{Key}
use Rattle.farm_history.specs.declared.answers.Finished.{Finished}
use Rattle.tile_paths.specs.Paths.{saved_path}
use Rattle.farm_plan.specs.Plans.{FarmPlan}
use Rattle.farm_plan.specs.Drawings.{key_path}
use Rattle.farm_plan.specs.Spots.{IsKeyOf}
use Rattle.farm_plan.proofs.Keys.{path_ends}
use Rattle.farm_refinement.specs.Seen.{FarmSeen}
use Rattle.farm_core.specs.Answers.{Lasts, at_saved}
use Rattle.farm_core.specs.inner.Effects.{EndsDrawing}

-- what is told of the path of a saved farm
abbrev saved_in : Option StoreTold → Option (Option (List ℕ))
saved_in o = option_map (λ (t : StoreTold). t.content saved_path) o

-- a metatile's path is not that of a saved farm
saved_apart : (plan : FarmPlan) (k : Key) → IsKeyOf plan k → saved_path ≢ key_path plan k
saved_apart plan k at same =
    let ends = path_ends plan k at in
    let never : false ≡ true = on_meta saved_path ends.0 true (same ∙ ends.1) in
    cc

puts_saved : (old new : Outside StoreTold) (path bytes : List ℕ) (r : Result (Unit {0}) StoreFault) → saved_path ≢ path → StorePuts old new path bytes r → at_saved new ≡ at_saved old
puts_saved old new path bytes (Ok done) apart p = go old.told new.told p.0
  where
    go : (a b : Option StoreTold) → MatchOption a (b ≡ None) (λ before. (now : StoreTold) × (b ≡ Some now) × Stored before now path bytes) → saved_in b ≡ saved_in a
    go None b e = ap saved_in e
    go (Some t) b h = ap saved_in h.1 ∙ ap Some (h.2.others saved_path apart)
puts_saved old new path bytes (Err Failed) apart p = go old.told new.told p.0
  where
    go : (a b : Option StoreTold) → MatchOption a (b ≡ None) (λ before. (now : StoreTold) × (b ≡ Some now) × PutFailed before now path) → saved_in b ≡ saved_in a
    go None b e = ap saved_in e
    go (Some t) b h = ap saved_in h.1 ∙ ap Some (h.2.others saved_path apart)
puts_saved old new path bytes (Err NoMemory) apart p = ap at_saved p

module _ {D : Type 0} (state : D → Outside StoreTold) where
  -- the farm is one that has all of it
  pub lasts_as : (old mid new : FarmSeen D) → new ≡ mid → mid.plan ≡ old.plan → mid.saved ≡ old.saved → mid.first ≡ old.first → at_saved (state mid.store) ≡ at_saved (state old.store) → Lasts state old new
  lasts_as old mid new same p s f b = record {
    plan = ap (λ (x : FarmSeen D). x.plan) same ∙ p;
    saved = ap (λ (x : FarmSeen D). x.saved) same ∙ s;
    first = ap (λ (x : FarmSeen D). x.first) same ∙ f;
    beside = ap (λ (x : FarmSeen D). at_saved (state x.store)) same ∙ b;
  }

  -- at the end of a drawing
  pub lasts_kept : (old new : FarmSeen D) (key : Key) (version : ℕ) (touched : Bool) (bytes : List ℕ) (answer : Finished) → IsKeyOf old.plan key → EndsDrawing state old new key version touched bytes answer → Lasts state old new
  lasts_kept old new key version touched bytes (Finished.Stored clean) at k =
      lasts_as old _ new k.3 refl refl refl (puts_saved (state old.store) (state new.store) (key_path old.plan key) bytes (Ok tt) (saved_apart old.plan key at) k.1)
  lasts_kept old new key version touched bytes Finished.PutFailed at k =
      lasts_as old _ new k.2 refl refl refl (puts_saved (state old.store) (state new.store) (key_path old.plan key) bytes (Err Failed) (saved_apart old.plan key at) k.0)
  lasts_kept old new key version touched bytes Finished.NoMemory at k = lasts_as old _ new k.2 refl refl refl (ap at_saved k.0)

  -- over several parts of an event
  pub lasts_on : (old mid new : FarmSeen D) → Lasts state old mid → Lasts state mid new → Lasts state old new
  lasts_on old mid new a b = record { plan = b.plan ∙ a.plan; saved = b.saved ∙ a.saved; first = b.first ∙ a.first; beside = b.beside ∙ a.beside }
