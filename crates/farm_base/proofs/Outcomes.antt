-- Facts of what a search and a call come to.
use Rattle.std.proofs.Common.{◌≡◌, ℕ, Bool, true, false, cond, Some, None, Result, Ok, Err, refl}
use Rattle.std.specs.Prelude.{IfOk}

-- a place that is told where a test holds: where none is told, it does not
pub none_past : (b : Bool) (n : ℕ) → cond b (Some n) None ≡ None → b ≡ false
none_past true n h = cc
none_past false n h = refl

-- what follows of a value follows of it where there is one
pub if_ok : {T E : Type 0} (P Q : T → Type 0) (r : Result T E)
    → ((x : T) → P x → Q x) → IfOk r P → IfOk r Q
if_ok P Q (Ok x) f h = f x h
if_ok P Q (Err e) f h = tt
