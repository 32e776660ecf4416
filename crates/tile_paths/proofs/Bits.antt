-- The five numbers of a metatile hold its column and row.
use Rattle.std.proofs.Common.{◌≡◌, ℕ, ◌+◌, ◌*◌, ◌/◌, ◌%◌, ◌^◌, ◌<◌, ◌≤◌, List, arith}
use Rattle.std.proofs.Math.Nat.{pow-le-pow_right}
use Rattle.std.specs.Fmt.{decimal}
use Rattle.plain_world.specs.declared.world.Meta.{Meta}
use Rattle.plain_world.specs.World.{IsMeta}
use Rattle.tile_paths.specs.Paths.{nibbles, five, in_folder, path_of}
use Rattle.tile_paths.specs.declared.reading.Five.{Five}

pub small_column : (m : Meta) → IsMeta m → m.x < 2 ^ 18
small_column m is = let p : 2 ^ m.z ≤ 2 ^ 18 = pow-le-pow_right {n = 2} (omega arith) is.z_fits in let f = is.x_fits in omega arith

pub small_row : (m : Meta) → IsMeta m → m.y < 2 ^ 18
small_row m is = let p : 2 ^ m.z ≤ 2 ^ 18 = pow-le-pow_right {n = 2} (omega arith) is.z_fits in let f = is.y_fits in omega arith

pub small : (x y : ℕ) → nibbles x y < 256
small x y = omega arith

upper : (x y : ℕ) → nibbles x y / 16 ≡ x % 16
upper x y = omega arith

lower : (x y : ℕ) → nibbles x y % 16 ≡ y % 16
lower x y = omega arith

-- four bits at a time
regrouped : (x : ℕ) → x < 2 ^ 18
    → (((x / 16 / 16 / 16 / 16 % 16 * 16 + x / 16 / 16 / 16 % 16) * 16 + x / 16 / 16 % 16) * 16 + x / 16 % 16) * 16 + x % 16 ≡ x
regrouped x h = omega arith

-- the numbers of a metatile
abbrev pub numbers : Meta → Five
numbers m = record {
  h4 = nibbles (m.x / 16 / 16 / 16 / 16) (m.y / 16 / 16 / 16 / 16);
  h3 = nibbles (m.x / 16 / 16 / 16) (m.y / 16 / 16 / 16);
  h2 = nibbles (m.x / 16 / 16) (m.y / 16 / 16);
  h1 = nibbles (m.x / 16) (m.y / 16);
  h0 = nibbles m.x m.y;
}

abbrev pub five_of : Meta → List ℕ
five_of m = five (numbers m).h4 (numbers m).h3 (numbers m).h2 (numbers m).h1 (numbers m).h0

abbrev pub high : Five → ℕ
high f = (((f.h4 / 16 * 16 + f.h3 / 16) * 16 + f.h2 / 16) * 16 + f.h1 / 16) * 16 + f.h0 / 16

abbrev pub low : Five → ℕ
low f = (((f.h4 % 16 * 16 + f.h3 % 16) * 16 + f.h2 % 16) * 16 + f.h1 % 16) * 16 + f.h0 % 16

pub high_is : (m : Meta) → IsMeta m → high (numbers m) ≡ m.x
high_is m is =
    let x : ℕ = m.x in let y : ℕ = m.y in
    let e4 = upper (m.x / 16 / 16 / 16 / 16) (m.y / 16 / 16 / 16 / 16) in
    let e3 = upper (m.x / 16 / 16 / 16) (m.y / 16 / 16 / 16) in
    let e2 = upper (m.x / 16 / 16) (m.y / 16 / 16) in
    let e1 = upper (m.x / 16) (m.y / 16) in
    let e0 = upper m.x m.y in
    rw (e4, e3, e2, e1, e0) (regrouped m.x (small_column m is))

pub low_is : (m : Meta) → IsMeta m → low (numbers m) ≡ m.y
low_is m is =
    let e4 = lower (m.x / 16 / 16 / 16 / 16) (m.y / 16 / 16 / 16 / 16) in
    let e3 = lower (m.x / 16 / 16 / 16) (m.y / 16 / 16 / 16) in
    let e2 = lower (m.x / 16 / 16) (m.y / 16 / 16) in
    let e1 = lower (m.x / 16) (m.y / 16) in
    let e0 = lower m.x m.y in
    rw (e4, e3, e2, e1, e0) (regrouped m.y (small_row m is))

-- a path is its name, its zoom and its numbers
pub path_parts : (name : List ℕ) (m : Meta) (text : List ℕ) → text ≡ path_of name m → text ≡ in_folder name (in_folder (decimal m.z) (five_of m))
unfolding path_of
path_parts name m text e = e
