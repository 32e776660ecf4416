-- What a read and a put say of what was told, and of the counts.
use Rattle.std.proofs.Common.{◌≡◌, ℕ, List, ap, subst, ◌∙◌}
use Rattle.std.specs.Prelude.{Option, Some, Result, Ok, Err, Vec, IfSome, option_map}
use Rattle.std.specs.declared.alloc.Global.{Global}
use Rattle.farm_base.specs.Outside.{Outside, FilesTold, failed_read, with_failed, Counted, Reads, Puts}
use Rattle.farm_base.specs.declared.files.FileFault.{FileFault}
use Rattle.farm_base.specs.declared.files.FileFault.TheVariants as file
use Rattle.farm_base.specs.declared.sinks.SinkFault.{SinkFault}

-- ---- a read

-- a read of files that told this before it
abbrev pub ReadTells : FilesTold → Option FilesTold → List ℕ → Result (Vec ℕ Global) FileFault → Type 0
ReadTells old new name (Ok bytes) = (old.content name ≡ Some bytes.items) × (new ≡ Some old)
ReadTells old new name (Err file.Failed) = new ≡ Some (with_failed (failed_read name) old)
ReadTells old new name (Err file.NoMemory) = new ≡ Some old

pub read_tells : (t : FilesTold) (old new : Outside FilesTold) (name : List ℕ) (read : Result (Vec ℕ Global) FileFault) → old.told ≡ Some t → Reads old new name read → ReadTells t new.told name read
read_tells t old new name (Ok bytes) e h = (
  subst (λ (o : Option FilesTold). IfSome o (λ (u : FilesTold). u.content name ≡ Some bytes.items)) e h.1,
  ap (λ (o : Outside FilesTold). o.told) h.0 ∙ e,
)
read_tells t old new name (Err file.Failed) e h = h.0 ∙ ap (option_map (with_failed (failed_read name))) e
read_tells t old new name (Err file.NoMemory) e h = ap (λ (o : Outside FilesTold). o.told) h ∙ e

-- ---- a put

-- the count over a put: it rises where the put failed, and else it stays
abbrev pub PutCounts : ℕ → ℕ → Result (Unit {0}) SinkFault → Type 0
PutCounts before now (Ok done) = now ≡ before
PutCounts before now (Err fault) = Counted before now

pub put_counts : (old new : Outside (List ℕ)) (piece : List ℕ) (put : Result (Unit {0}) SinkFault) → Puts old new piece put → PutCounts old.faults new.faults put
put_counts old new piece (Ok done) h = h.1
put_counts old new piece (Err fault) h = h.3
