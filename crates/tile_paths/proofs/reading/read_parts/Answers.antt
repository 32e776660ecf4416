use Rattle.std.proofs.Common.{ap, ◌∙◌, ◌<◌, arith}
use Rattle.std.specs.Fmt.{decimal}
use Rattle.tile_paths.specs.Paths.{in_folder}
use Rattle.tile_paths.specs.declared.reading.Five.{Five}
use Rattle.tile_paths.proofs.Bits.{numbers, five_of, high, low, high_is, low_is, path_parts, small}
use Rattle.tile_paths.proofs.reading.read_parts.Goals as goal

pub returns-in_default : goal.returns-in_default
returns-in_default c name m is im e =
    rw c.in_default.is at (c.read_name.ensures name (in_folder (decimal m.z) (five_of m)) is (path_parts name m c.args.text.now e))

pub returns-in_default-read_number : goal.returns-in_default-read_number
returns-in_default-read_number c name m is im e =
    let named = rw c.in-Some.is at (c.read_name.ensures name (in_folder (decimal m.z) (five_of m)) is (path_parts name m c.args.text.now e)) in
    let low : m.z < 256 = let z = im.z_fits in omega arith in
    rw c.in_default-read_number.is at (c.read_number.ensures m.z (five_of m) low named.1)

pub returns-in_default-read_five : goal.returns-in_default-read_five
returns-in_default-read_five c name m is im e =
    let named = rw c.in-Some.is at (c.read_name.ensures name (in_folder (decimal m.z) (five_of m)) is (path_parts name m c.args.text.now e)) in
    let low : m.z < 256 = let z = im.z_fits in omega arith in
    let zoomed = rw c.in-Some-read_number.is at (c.read_number.ensures m.z (five_of m) low named.1) in
    rw c.in_default-read_five.is at
    (c.read_five.ensures (numbers m).h4 (numbers m).h3 (numbers m).h2 (numbers m).h1 (numbers m).h0
    (small _ _) (small _ _) (small _ _) (small _ _) (small _ _) zoomed.1)

pub returns : goal.returns
returns c name m is im e =
    let named = rw c.in-Some.is at (c.read_name.ensures name (in_folder (decimal m.z) (five_of m)) is (path_parts name m c.args.text.now e)) in
    let small_z : m.z < 256 = let z = im.z_fits in omega arith in
    let zoomed = rw c.in-Some-read_number.is at (c.read_number.ensures m.z (five_of m) small_z named.1) in
    let fived = rw c.in-Some-read_five.is at
    (c.read_five.ensures (numbers m).h4 (numbers m).h3 (numbers m).h2 (numbers m).h1 (numbers m).h0
    (small _ _) (small _ _) (small _ _) (small _ _) (small _ _) zoomed.1) in (
      named.0,
      c.from.ensures ∙ zoomed.0,
      c.high_bits.ensures ∙ ap (λ (f : Five). high f) fived ∙ high_is m im,
      c.low_bits.ensures ∙ ap (λ (f : Five). low f) fived ∙ low_is m im,
    )
