-- Colours side by side that are changed alike where they stand as bytes.
use Rattle.std.proofs.Common.{◌≡◌, ℕ, ◌+◌, ◌-◌, ◌≤◌, List, length, flat_map, set, ap, ◌∙◌, Some}
use Rattle.std.specs.Prelude.{slice_get}
use Rattle.plain_shapes.specs.declared.colour.Colour.{Colour}
use Rattle.plain_shapes.specs.Ppm.{pixel_bytes}
use Rattle.plain_image.specs.PpmText.{colours}
use Rattle.plain_image.specs.Runs.{run_changed}
use Rattle.plain_image.proofs.Bytes.{colours_of}
use Rattle.plain_image.proofs.Runs.{run_length, run_more}

-- they are as many as before
pub count_kept : (f : Colour → Colour) (start count : ℕ) (old : List Colour) (bytes : List ℕ) → bytes ≡ flat_map pixel_bytes (run_changed f start count old)
    → length (colours bytes) ≡ length old
count_kept f start count old bytes so_far = ap length (colours_of bytes (run_changed f start count old) so_far) ∙ run_length f start count old

-- the run up to the place k, and that place as well
pub bytes_more : (f : Colour → Colour) (start k : ℕ) (old : List Colour) (bytes next : List ℕ) (d c : Colour) → start ≤ k → bytes ≡ flat_map pixel_bytes (run_changed f start (k - start) old)
    → slice_get (colours bytes) k ≡ Some d → c ≡ f d → next ≡ flat_map pixel_bytes (set (colours bytes) k c) → next ≡ flat_map pixel_bytes (run_changed f start (k + 1 - start) old)
bytes_more f start k old bytes next d c from so_far at is put =
    put ∙ ap (λ e. flat_map pixel_bytes (set (colours bytes) k e)) is
    ∙ ap (λ ps. flat_map pixel_bytes ps) (run_more f start k old (colours bytes) d from (colours_of bytes (run_changed f start (k - start) old) so_far) at)
