-- Those so far are taken out where they have none of the marks, and the others stand as they did.
use Rattle.std.proofs.Common.{◌≡◌, ℕ, ◌<◌, ◌≤◌, ◌⊎◌, true, false, length, get_or}
use Rattle.attribute_marks.specs.Marks.{Shares}
use Rattle.data_versions.proofs.sieve.Sieve.sift_marks.Given as goal

abbrev pub invariant-loop-k : goal.invariant-loop-k
invariant-loop-k l = record {
  long : length l.sifted ≡ 64;
  sifted : (j : ℕ) → j < l.k → get_or l.sifted j true ≡ false → (get_or l.fn.sifted j true ≡ false) ⊎ (Shares (get_or l.self.marks j 0) l.asked → ⊥);
  rest : (j : ℕ) → l.k ≤ j → get_or l.sifted j true ≡ get_or l.fn.sifted j true;
}
