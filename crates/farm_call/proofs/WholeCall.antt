-- From what the program did to what it promises.
use Rattle.std.proofs.Common.{◌≡◌, ℕ, inl, inr, List, [], refl}
use Rattle.std.specs.Prelude.{Err}
use Rattle.farm_base.specs.Outside.{Outside}
use Rattle.tile_store.specs.Stores.{StoreTold}
use Rattle.exit_status.specs.Stops.{told_of}
use Rattle.exit_status.specs.Ends.{Reports}
use Rattle.exit_status.specs.declared.stops.Stop.{Stop}
use Rattle.farm_call.specs.declared.left.Left.TheVariants.{Store}
use Rattle.farm_call.specs.Call.{CallBefore, CallAfter}
use Rattle.farm_call.specs.Keeps.{Keeps, IsWordless, ProgramKeeps}

module _ {D : Type 0} (state : D → Outside StoreTold) (was : CallBefore D) (is : CallAfter D) where
  -- it had words
  pub called : (words : List (List ℕ)) → Keeps state (record was { words = words }) is → ProgramKeeps state was is
  called words keeps = inl (words, keeps)

  -- it had none, and did nothing else
  pub wordless : (why : Stop) → IsWordless why → Reports (told_of (Err why)) was.err is.err is.status → is.files ≡ was.files → is.out ≡ was.out → is.left ≡ Store was.store → is.ports ≡ was.ports → is.fronts ≡ []
      → ProgramKeeps state was is
  wordless why is_wordless report files out left ports none =
      inr (record { why = why; is_wordless = is_wordless; report = report; files = files; idle = (out, record { store = was.store; left = left; ports = ports; it_holds = refl }); no_fronts = none })
