-- What it says of files that a course was followed in them.
use Rattle.std.proofs.Common.{◌≡◌, ℕ, ◌⊎◌, inl, inr, List, refl, sym, ap, subst, ◌∙◌}
use Rattle.std.specs.Prelude.{Option, Some, None, Result, Ok, Err, Vec, IfSome, option_map}
use Rattle.std.specs.declared.alloc.Global.{Global}
use Rattle.farm_base.specs.Outside.{Rose, Reads, failed_read, with_failed}
use Rattle.farm_base.specs.declared.files.FileFault.{FileFault}
use Rattle.farm_base.specs.declared.files.FileFault.TheVariants as file
use Rattle.exit_status.specs.Stops.{unreadable_line}
use Rattle.exit_status.specs.Ends.{FilesAt}
use Rattle.exit_status.specs.declared.stops.Stop.{Stop}
use Rattle.exit_status.specs.declared.stops.Stop.TheVariants as stop
use Rattle.farm_files.specs.Course.{Course, made, refused, reads, Leads}
use Rattle.farm_files.specs.inner.Follows.{After, Follows}

-- ---- what is so where it is told

both_told : {A : Type 0} (o : Option A) (P Q R : A → Type 0) → ((a : A) → P a → Q a → R a) → IfSome o P → IfSome o Q → IfSome o R
both_told (Some a) P Q R f p q = f a p q
both_told None P Q R f p q = tt

always_told : {A : Type 0} (o : Option A) (P : A → Type 0) → ((a : A) → P a) → IfSome o P
always_told (Some a) P f = f a
always_told None P f = tt

-- ---- the files after a course

-- Four ends: a value is made; a line refuses; a read failed, and but for that the files are as they were; or memory was wanting
pub data Followed {V : Type 0} (c : Course V) (old new : FilesAt) (result : Result V Stop) : Type 0 where
  makes : (v : V) → result ≡ Ok v → IfSome old.told (λ t. Leads t.content c (made v)) → new ≡ old → Followed c old new result
  refuses : (line : List ℕ) → result ≡ Err (stop.Refused line) → IfSome old.told (λ t. Leads t.content c (refused line)) → new ≡ old → Followed c old new result
  misses : (name : List ℕ) (on : List ℕ → Course V) → (result ≡ Err (stop.Unreadable (unreadable_line name))) ⊎ (result ≡ Err stop.NoMemory) → IfSome old.told (λ t. Leads t.content c (reads name on))
      → new.told ≡ option_map (with_failed (failed_read name)) old.told → Rose old.faults new.faults → Followed c old new result
  wants : result ≡ Err stop.NoMemory → new ≡ old → Followed c old new result

-- what some bytes lead to, the file that holds them leads to
led : {V : Type 0} (name : List ℕ) (on : List ℕ → Course V) (bytes : List ℕ) (old new : FilesAt) (result : Result V Stop)
    → IfSome old.told (λ t. t.content name ≡ Some bytes) → Followed (on bytes) old new result → Followed (reads name on) old new result
led name on bytes old new result held (makes v e m same) =
    makes v e (both_told old.told (λ t. t.content name ≡ Some bytes) (λ t. Leads t.content (on bytes) (made v)) (λ t. Leads t.content (reads name on) (made v)) (λ t h n. inr (bytes, h, n)) held m) same
led name on bytes old new result held (refuses line e m same) =
    refuses line e (both_told old.told (λ t. t.content name ≡ Some bytes) (λ t. Leads t.content (on bytes) (refused line)) (λ t. Leads t.content (reads name on) (refused line)) (λ t h n. inr (bytes, h, n)) held m) same
led name on bytes old new result held (misses other next e m failed rose) =
    misses other next e (both_told old.told (λ t. t.content name ≡ Some bytes) (λ t. Leads t.content (on bytes) (reads other next)) (λ t. Leads t.content (reads name on) (reads other next)) (λ t h n. inr (bytes, h, n)) held m) failed rose
led name on bytes old new result held (wants e same) = wants e same

read_then : {V : Type 0} (name : List ℕ) (on : List ℕ → Course V) (old middle new : FilesAt) (result : Result V Stop) (read : Result (Vec ℕ Global) FileFault)
    → Reads old middle name read → ((bytes : List ℕ) → Follows (on bytes) middle new result → Followed (on bytes) middle new result)
    → After (λ bytes. Follows (on bytes) middle new result) name middle new result read → Followed (reads name on) old new result
read_then name on old middle new result (Ok bytes) has more after =
    led name on bytes.items old new result has.1 (subst (λ (at : FilesAt). Followed (on bytes.items) at new result) has.0 (more bytes.items after))
read_then name on old middle new result (Err file.Failed) has more after =
    misses name on after.0 (always_told old.told (λ t. Leads t.content (reads name on) (reads name on)) (λ t. inl refl)) (ap (λ (at : FilesAt). at.told) after.1 ∙ has.0)
    (subst (λ (n : ℕ). Rose old.faults n) (sym (ap (λ (at : FilesAt). at.faults) after.1)) has.1.1)
read_then name on old middle new result (Err file.NoMemory) has more (inl e, same) = wants e (same ∙ has)
read_then name on old middle new result (Err file.NoMemory) has more (inr e, same) = wants e (same ∙ has)

pub followed : {V : Type 0} (c : Course V) (old new : FilesAt) (result : Result V Stop) → Follows c old new result → Followed c old new result
followed (made v) old new result (inl e, same) = makes v e (always_told old.told (λ t. Leads t.content (made v) (made v)) (λ t. refl)) same
followed (made v) old new result (inr e, same) = wants e same
followed {V} (refused line) old new result (inl e, same) = refuses line e (always_told old.told (λ t. Leads {V = V} t.content (refused line) (refused line)) (λ t. refl)) same
followed (refused line) old new result (inr e, same) = wants e same
followed (reads name on) old new result (inl (inl e, same)) = wants e same
followed (reads name on) old new result (inl (inr e, same)) = wants e same
followed (reads name on) old new result (inr r) =
    read_then name on old r.middle new result r.read r.has (λ bytes h. followed (on bytes) r.middle new result h) r.after
