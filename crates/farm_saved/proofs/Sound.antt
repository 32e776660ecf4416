-- What is read is sound: entries that are judged one after another rise.
use Rattle.std.proofs.Common.{◌≡◌, ℕ, ◌-◌, ◌^◌, ◌%◌, List, [], ◌∷◌, ◌++◌, length, Bool, true, false, ◌&&◌, ltb, leb, eqb, Option, Some, refl, ap, ◌∙◌, subst, arith}
use Rattle.std.specs.Prelude.{slice_get}
use Rattle.std.specs.List.{list_all}
use Rattle.std.proofs.lemmas.Bool.{and_parts, and_from}
use Rattle.std.proofs.lemmas.Bool.Decides.{nat_tests}
use Rattle.std.proofs.lemmas.List.Elements.{All-push, All-nil}
use Rattle.farm_history.proofs.Resumed.{key_before-then}
use Rattle.plain_world.specs.declared.world.Meta.{Meta}
use Rattle.plain_world.specs.World.{IsMeta}
use Rattle.meta_container.specs.Reading.{is_meta}
use Rattle.farm_history.specs.declared.keys.Kept.{Kept}
use Rattle.farm_history.specs.Replays.{key_before, are_rising}
use Rattle.farm_saved.specs.Savings.{IsKept, IsClean}
use Rattle.farm_saved.specs.Reading.{is_behind, is_kept}
use Rattle.farm_saved.specs.inner.Fields.{last_of}

-- ---- entries that rise

abbrev last : Kept → List Kept → Kept
last x [] = x
last x (y ∷ ys) = last y ys

place_last : (x : Kept) (xs : List Kept) → slice_get (x ∷ xs) (length xs) ≡ Some (last x xs)
place_last x [] = refl
place_last x (y ∷ ys) = place_last y ys

last_is : (x : Kept) (xs : List Kept) → last_of (x ∷ xs) ≡ Some (last x xs)
last_is x xs = let end : length (x ∷ xs) - 1 ≡ length xs = omega arith in ap (λ (i : ℕ). slice_get (x ∷ xs) i) end ∙ place_last x xs

last_passes : (p : Kept → Bool) (x : Kept) (xs : List Kept) → list_all p (x ∷ xs) ≡ true → p (last x xs) ≡ true
last_passes p x [] h = (and_parts (p x) true h).0
last_passes p x (y ∷ ys) h = last_passes p y ys (and_parts (p x) (list_all p (y ∷ ys)) h).1

all_push : (p : Kept → Bool) (xs : List Kept) (k : Kept) → list_all p xs ≡ true → p k ≡ true → list_all p (xs ++ k ∷ []) ≡ true
all_push p [] k h g = and_from (p k) true g refl
all_push p (x ∷ xs) k h g =
    let both = and_parts (p x) (list_all p xs) h in and_from (p x) (list_all p (xs ++ k ∷ [])) both.0 (all_push p xs k both.1 g)

rising_after : (x : Kept) (xs : List Kept) (k : Kept) → are_rising (x ∷ xs) ≡ true → key_before (last x xs).key k.key ≡ true → are_rising ((x ∷ xs) ++ k ∷ []) ≡ true
rising_after x [] k h g = and_from (list_all (λ y. key_before x.key y.key) (k ∷ [])) (are_rising (k ∷ [])) (and_from (key_before x.key k.key) true g refl) refl
rising_after x (y ∷ ys) k h g =
    let both = and_parts (list_all (λ z. key_before x.key z.key) (y ∷ ys)) (are_rising (y ∷ ys)) h in
    let to_last : key_before x.key (last y ys).key ≡ true = last_passes (λ z. key_before x.key z.key) y ys both.0 in
    let to_new : key_before x.key k.key ≡ true = key_before-then x.key (last y ys).key k.key to_last g in
    and_from (list_all (λ z. key_before x.key z.key) ((y ∷ ys) ++ k ∷ [])) (are_rising ((y ∷ ys) ++ k ∷ []))
    (all_push (λ z. key_before x.key z.key) (y ∷ ys) k both.0 to_new) (rising_after y ys k both.1 g)

rising_push : (xs : List Kept) (k : Kept) → are_rising xs ≡ true → is_behind (last_of xs) k.key ≡ true → are_rising (xs ++ k ∷ []) ≡ true
rising_push [] k h g = refl
rising_push (x ∷ xs) k h g =
    rising_after x xs k h (subst (λ (o : Option Kept). is_behind o k.key ≡ true) (last_is x xs) g)

-- ---- entries that are judged

five : (a b c d e : Bool) → (a && b && c && d && e) ≡ true → (a ≡ true) × (b ≡ true) × (c ≡ true) × (d ≡ true) × (e ≡ true)
five true true true true true h = (refl, refl, refl, refl, refl)
five true true true true false h = cc
five true true true false e h = cc
five true true false d e h = cc
five true false c d e h = cc
five false b c d e h = cc

meta_passes : (m : Meta) → is_meta m ≡ true → IsMeta m
meta_passes m h =
    let p = five (leb m.z 18) (ltb m.x (2 ^ m.z)) (ltb m.y (2 ^ m.z)) (eqb (m.x % 8) 0) (eqb (m.y % 8) 0) h in
    let z : leb m.z 18 ≡ true = p.0 in
    let x : ltb m.x (2 ^ m.z) ≡ true = p.1 in
    let y : ltb m.y (2 ^ m.z) ≡ true = p.2 in
    let xe : eqb (m.x % 8) 0 ≡ true = p.3 in
    let ye : eqb (m.y % 8) 0 ≡ true = p.4 in
    record { z_fits = grind (arith, nat_tests); x_fits = grind (arith, nat_tests); y_fits = grind (arith, nat_tests); x_eights = grind (arith, nat_tests); y_eights = grind (arith, nat_tests) }

three : (a b c : Bool) → (a && b && c) ≡ true → (a ≡ true) × (b ≡ true) × (c ≡ true)
three true true true h = (refl, refl, refl)
three true true false h = cc
three true false c h = cc
three false b c h = cc

pub none_clean : (updates : ℕ) → IsClean updates []
none_clean updates = record { rise = refl; kept = All-nil (IsKept updates) }

-- an entry that may stand behind those before it leaves them sound
pub clean_push : (updates : ℕ) (xs : List Kept) (k : Kept) → IsClean updates xs → is_kept updates xs k ≡ true → IsClean updates (xs ++ k ∷ [])
unfolding is_kept
clean_push updates xs k clean h =
    let p = three (is_meta k.key.meta) (leb k.version updates) (is_behind (last_of xs) k.key) h in
    let version : leb k.version updates ≡ true = p.1 in
    record {
      rise = rising_push xs k clean.rise p.2;
      kept = All-push (IsKept updates) xs k clean.kept (record { placed = meta_passes k.key.meta p.0; versioned = grind (arith, nat_tests) });
    }
