-- What a configuration's files say is a plan that a farm may be started with.
use Rattle.std.proofs.Common.{◌≡◌, ℕ, zero, suc, ◌<◌, ◌≤◌, true, false, not, ◌&&◌, List, [], ◌∷◌, ◌++◌, length, All, refl, sym, ap, subst, ◌∙◌, arith}
use Rattle.std.specs.Prelude.{Some, slice_get, nat_le}
use Rattle.std.specs.List.{list_all}
use Rattle.std.specs.Str.{bytes_eq}
use Rattle.std.proofs.lemmas.Bool.{not-true, and_parts, or_parts}
use Rattle.std.proofs.lemmas.Bool.Decides.{nat_tests}
use Rattle.std.proofs.lemmas.List.Elements.{All-cons, All-nil}
use Rattle.std.proofs.lemmas.Slice.Eq.{bytes_eq-Decides}
use Rattle.plain_world.specs.World.{is_tile_size, IsTileSize}
use Rattle.farm_base.specs.Earlier.{each_after}
use Rattle.tile_paths.specs.Paths.{IsName, is_map_name}
use Rattle.farm_history.proofs.Lists.{any-append}
use Rattle.geo_json.specs.DataTexts.{dataset_in}
use Rattle.exit_status.specs.DataFaults.{data_text}
use Rattle.farm_config.specs.Configs.{MapEntry, Config, map_has, map_fits, restyle_known, IsConfig}
use Rattle.farm_config.specs.declared.config.RestyleEntry.{RestyleEntry}
use Rattle.farm_plan.specs.Plans.{MapPlan, Restyle, IsMapPlan, HasNamesApart, NamesMap, IsPlan}
use Rattle.farm_files.specs.Course.{Course, made, ◌>>=◌, file, each}
use Rattle.farm_files.proofs.Courses.{Could, could_parts}
use Rattle.farm_files.specs.MapCourses.{style_course}
use Rattle.farm_files.specs.Courses.{map_course, restyle_course, update_course, list_course, inputs_course, map_course_by, restyle_course_by, inputs_course_by}
use Rattle.farm_files.specs.Inputs.{FarmInputs}
use Rattle.farm_files.proofs.Steps.{with_maps, with_restyles, with_layers, with_updates, inputs_with}

-- ---- lists that were made one by one

-- as many things are made as there are files
each_length : {A V : Type 0} (course : A → Course V) (xs : List A) (ys : List V) → Could (each course xs) ys → length ys ≡ length xs
each_length course [] ys h = ap length h
each_length course (x ∷ xs) ys h =
    let one = could_parts (course x) (λ y. each course xs >>= λ zs. made (y ∷ zs)) ys h in
    let rest = could_parts (each course xs) (λ zs. made (one.0 ∷ zs)) ys one.2 in
    ap length rest.2 ∙ ap (λ (n : ℕ). suc n) (each_length course xs rest.0 rest.1)

-- what a map of the plan has of its entry
abbrev IsOf : MapEntry → MapPlan → Type 0
IsOf m p = (p.name ≡ m.name) × (p.tile ≡ m.tile) × (p.max_zoom ≡ m.max_zoom)

abbrev AreOf : List MapEntry → List MapPlan → Type 0
AreOf [] [] = Unit {0}
AreOf [] (p ∷ ps) = ⊥
AreOf (m ∷ ms) [] = ⊥
AreOf (m ∷ ms) (p ∷ ps) = IsOf m p × AreOf ms ps

map_of : (m : MapEntry) (p : MapPlan) → Could (map_course m) p → IsOf m p
unfolding map_course_by
map_of m p h =
    let is = (could_parts (style_course m.style) (λ style. made (record { name = m.name; style = style; tile = m.tile; max_zoom = m.max_zoom })) p h).2 in
    (ap (λ (q : MapPlan). q.name) is, ap (λ (q : MapPlan). q.tile) is, ap (λ (q : MapPlan). q.max_zoom) is)

maps_of : (ms : List MapEntry) (ps : List MapPlan) → Could (each map_course ms) ps → AreOf ms ps
maps_of [] ps h = subst (λ (qs : List MapPlan). AreOf [] qs) (sym h) tt
maps_of (m ∷ ms) ps h =
    let one = could_parts (map_course m) (λ y. each map_course ms >>= λ zs. made (y ∷ zs)) ps h in
    let rest = could_parts (each map_course ms) (λ zs. made (one.0 ∷ zs)) ps one.2 in
    subst (λ (qs : List MapPlan). AreOf (m ∷ ms) qs) (sym rest.2) (map_of m one.0 one.1, maps_of ms rest.0 rest.1)

-- ---- maps that fit

-- the four tests of a map behind others
record Fits (before : List MapEntry) (m : MapEntry) : Type 0 where
  named : is_map_name m.name ≡ true
  sized : IsTileSize m.tile
  zooms : nat_le m.max_zoom 18 ≡ true
  apart : map_has m.name before ≡ false

fits_of : (before : List MapEntry) (m : MapEntry) → map_fits before m ≡ true → Fits before m
fits_of before m h =
    let three = (and_parts (is_map_name m.name && is_tile_size m.tile && nat_le m.max_zoom 18) (not (map_has m.name before)) h).0 in
    let two = (and_parts (is_map_name m.name && is_tile_size m.tile) (nat_le m.max_zoom 18) three).0 in
    record {
      named = (and_parts (is_map_name m.name) (is_tile_size m.tile) two).0;
      sized = (and_parts (is_map_name m.name) (is_tile_size m.tile) two).1;
      zooms = (and_parts (is_map_name m.name && is_tile_size m.tile) (nat_le m.max_zoom 18) three).1;
      apart = not-true (map_has m.name before) (and_parts (is_map_name m.name && is_tile_size m.tile && nat_le m.max_zoom 18) (not (map_has m.name before)) h).1;
    }

one_map : (before : List MapEntry) (m : MapEntry) (p : MapPlan) → map_fits before m ≡ true → IsOf m p → IsMapPlan p
one_map before m p h is =
    let fits = fits_of before m h in
    let zooms = fits.zooms in
    let at : m.max_zoom ≤ 18 = grind (arith, nat_tests) in
    record {
      named = subst IsName (sym is.0) fits.named;
      sized = subst IsTileSize (sym is.1) fits.sized;
      zooms = subst (λ (n : ℕ). n ≤ 18) (sym is.2) at;
    }

each_map : (before ms : List MapEntry) (ps : List MapPlan) → each_after map_fits before ms ≡ true → AreOf ms ps → All IsMapPlan ps
each_map before [] [] h are = All-nil IsMapPlan
each_map before [] (p ∷ ps) h are = absurd are
each_map before (m ∷ ms) [] h are = absurd are
each_map before (m ∷ ms) (p ∷ ps) h are =
    All-cons IsMapPlan p ps (one_map before m p (and_parts (map_fits before m) (each_after map_fits (before ++ m ∷ []) ms) h).0 are.0)
    (each_map (before ++ m ∷ []) ms ps (and_parts (map_fits before m) (each_after map_fits (before ++ m ∷ []) ms) h).1 are.1)

-- ---- names apart

-- a map of the list has the name of none before the list
no_earlier : (before ms : List MapEntry) (ps : List MapPlan) (i : ℕ) (b : MapPlan) → each_after map_fits before ms ≡ true → AreOf ms ps → slice_get ps i ≡ Some b → map_has b.name before ≡ false
no_earlier before [] [] i b h are at = absurd (let e = at in cc)
no_earlier before [] (p ∷ ps) i b h are at = absurd are
no_earlier before (m ∷ ms) [] i b h are at = absurd are
no_earlier before (m ∷ ms) (p ∷ ps) zero b h are at =
    let same : p ≡ b = cc in
    let fits = fits_of before m (and_parts (map_fits before m) (each_after map_fits (before ++ m ∷ []) ms) h).0 in
    ap (λ (n : List ℕ). map_has n before) (ap (λ (q : MapPlan). q.name) (sym same) ∙ are.0.0) ∙ fits.apart
no_earlier before (m ∷ ms) (p ∷ ps) (suc i) b h are at =
    let later = no_earlier (before ++ m ∷ []) ms ps i b (and_parts (map_fits before m) (each_after map_fits (before ++ m ∷ []) ms) h).1 are.1 at in
    (or_parts (map_has b.name before) (map_has b.name (m ∷ [])) (sym (any-append (λ (x : MapEntry). bytes_eq x.name b.name) before (m ∷ [])) ∙ later)).0

-- and of no other
other_than : (before ms : List MapEntry) (m : MapEntry) (p : MapPlan) (ps : List MapPlan) (i : ℕ) (b : MapPlan) → each_after map_fits (before ++ m ∷ []) ms ≡ true → IsOf m p → AreOf ms ps
    → slice_get ps i ≡ Some b → p.name ≡ b.name → ⊥
other_than before ms m p ps i b h is are at same =
    let none = no_earlier (before ++ m ∷ []) ms ps i b h are at in
    let last = (or_parts (map_has b.name before) (map_has b.name (m ∷ [])) (sym (any-append (λ (x : MapEntry). bytes_eq x.name b.name) before (m ∷ [])) ∙ none)).1 in
    let differs = (or_parts (bytes_eq m.name b.name) false last).0 in
    let equal : bytes_eq m.name b.name ≡ true = (bytes_eq-Decides m.name b.name).1 (sym is.0 ∙ same) in
    cc

names_apart : (before ms : List MapEntry) (ps : List MapPlan) → each_after map_fits before ms ≡ true → AreOf ms ps → HasNamesApart ps
names_apart before [] [] h are i j a b at to same = absurd (let e = at in cc)
names_apart before [] (p ∷ ps) h are i j a b at to same = absurd are
names_apart before (m ∷ ms) [] h are i j a b at to same = absurd are
names_apart before (m ∷ ms) (p ∷ ps) h are zero zero a b at to same = refl
names_apart before (m ∷ ms) (p ∷ ps) h are zero (suc j) a b at to same =
    let is : p ≡ a = cc in
    absurd (other_than before ms m p ps j b (and_parts (map_fits before m) (each_after map_fits (before ++ m ∷ []) ms) h).1 are.0 are.1 to (ap (λ (q : MapPlan). q.name) is ∙ same))
names_apart before (m ∷ ms) (p ∷ ps) h are (suc i) zero a b at to same =
    let is : p ≡ b = cc in
    absurd (other_than before ms m p ps i a (and_parts (map_fits before m) (each_after map_fits (before ++ m ∷ []) ms) h).1 are.0 are.1 at (ap (λ (q : MapPlan). q.name) is ∙ sym same))
names_apart before (m ∷ ms) (p ∷ ps) h are (suc i) (suc j) a b at to same =
    ap (λ (n : ℕ). suc n) (names_apart (before ++ m ∷ []) ms ps (and_parts (map_fits before m) (each_after map_fits (before ++ m ∷ []) ms) h).1 are.1 i j a b at to same)

-- ---- restyles

restyle_of : (r : RestyleEntry) (p : Restyle) → Could (restyle_course r) p → p.map ≡ r.map
unfolding restyle_course_by
restyle_of r p h = ap (λ (q : Restyle). q.map) (could_parts (style_course r.style) (λ style. made (record { map = r.map; style = style })) p h).2

restyles_of : (maps : List MapPlan) (rs : List RestyleEntry) (ps : List Restyle) → list_all (restyle_known (length maps)) rs ≡ true → Could (each restyle_course rs) ps → All (NamesMap maps) ps
restyles_of maps [] ps known h = subst (λ (qs : List Restyle). All (NamesMap maps) qs) (sym h) (All-nil (NamesMap maps))
restyles_of maps (r ∷ rs) ps known h =
    let one = could_parts (restyle_course r) (λ y. each restyle_course rs >>= λ zs. made (y ∷ zs)) ps h in
    let rest = could_parts (each restyle_course rs) (λ zs. made (one.0 ∷ zs)) ps one.2 in
    let below = (and_parts (restyle_known (length maps) r) (list_all (restyle_known (length maps)) rs) known).0 in
    let is = restyle_of r one.0 one.1 in
    let names : one.0.map < length maps = grind (arith, nat_tests) in
    subst (λ (qs : List Restyle). All (NamesMap maps) qs) (sym rest.2)
    (All-cons (NamesMap maps) one.0 rest.0 names (restyles_of maps rs rest.0 (and_parts (restyle_known (length maps) r) (list_all (restyle_known (length maps)) rs) known).1 rest.1))

-- ---- the plan

-- the plan of a valid configuration's files may be started with
pub plan_valid : (config : Config) (inputs : FarmInputs) → IsConfig config.maps config.updates config.expiries config.workers config.limits config.restyles → Could (inputs_course config) inputs → IsPlan inputs.plan
unfolding inputs_course_by
plan_valid config inputs valid h =
    let maps = could_parts (each map_course config.maps) (with_maps config) inputs h in
    let restyles = could_parts (each restyle_course config.restyles) (with_restyles config maps.0) inputs maps.2 in
    let layers = could_parts (file dataset_in data_text config.dataset) (with_layers config maps.0 restyles.0) inputs restyles.2 in
    let updates = could_parts (each update_course config.updates) (with_updates config maps.0 restyles.0 layers.0) inputs layers.2 in
    let lists = could_parts (each list_course config.expiries) (λ ls. made (inputs_with config maps.0 restyles.0 layers.0 updates.0 ls)) inputs updates.2 in
    let are = maps_of config.maps maps.0 maps.1 in
    let many = each_length map_course config.maps maps.0 maps.1 in
    let some = valid.some_maps in
    let few = valid.few_maps in
    subst (λ (i : FarmInputs). IsPlan i.plan) (sym lists.2) (record {
      count_maps = record { some = omega (arith, many, some); few = omega (arith, many, few) };
      each_map = each_map [] config.maps maps.0 valid.maps_fit are;
      apart = names_apart [] config.maps maps.0 valid.maps_fit are;
      count_workers = record { some = valid.some_workers; few = valid.few_workers };
      limited = valid.limits_fit;
      few_updates = omega (arith, each_length update_course config.updates updates.0 updates.1, valid.few_updates);
      few_restyles = omega (arith, each_length restyle_course config.restyles restyles.0 restyles.1, valid.few_restyles);
      each_restyle = restyles_of maps.0 config.restyles restyles.0 (subst (λ (n : ℕ). list_all (restyle_known n) config.restyles ≡ true) (sym many) valid.restyles_known) restyles.1;
    })
