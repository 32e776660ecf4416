-- The data and the plan are sound.
use Rattle.std.proofs.Common.{◌≡◌, ◌≤◌, List, [], ◌∷◌, length, Bool, true, false, eqb, refl, arith}
use Rattle.std.specs.Prelude.{ℕ, ◌/◌, codes, if◌then◌else◌}
use Rattle.std.specs.List.{IsDistinct}
use Rattle.std.specs.Str.{bytes_eq}
use Rattle.std.proofs.lemmas.List.Elements.{All-from_recursion}
use Rattle.std.proofs.lemmas.Option.{slice_get_within}
use Rattle.plain_shapes.specs.Data.{IsLayer, IsDataset, is_name}
use Rattle.plain_shapes.specs.declared.colour.Colour.{Colour}
use Rattle.plain_shapes.specs.declared.shapes.LineCap.TheVariants as cap
use Rattle.plain_drawing.specs.Styles.{is_paint}
use Rattle.plain_drawing.specs.declared.style.Symbolizer.TheVariants as paint
use Rattle.farm_plan.specs.Plans.{MapPlan, IsPlan, IsMapPlan, HasNamesApart, NamesMap}
use Rattle.work_gen.specs.Work.{work_features, dataset_of, paint_of, work_colour, work_plan}
use Rattle.work_gen.proofs.Features.{features_few, features_distinct}

layer_sound : (name : List ℕ) (seed layer n : ℕ) → is_name name ≡ true → n ≤ 100000 → IsLayer (record { name = name; features = work_features seed layer n })
layer_sound name seed layer n fits h = record {
  named = fits;
  few = omega (arith, features_few seed layer n);
  distinct = features_distinct seed layer n;
}

names_distinct : IsDistinct bytes_eq (codes "land" ∷ codes "roads" ∷ codes "spots" ∷ [])
unfolding IsDistinct
names_distinct = ((refl, (refl, tt)), ((refl, tt), (tt, tt)))

-- the data are such as a dataset may be
pub data_sound : (seed n : ℕ) → n ≤ 100000 → IsDataset (dataset_of seed n)
data_sound seed n h = record {
  few = omega arith;
  each = All-from_recursion IsLayer (dataset_of seed n) (layer_sound (codes "land") seed 0 n refl h, (layer_sound (codes "roads") seed 1 n refl h, (layer_sound (codes "spots") seed 2 n refl h, tt)));
  distinct = names_distinct;
}

paint_cases : (a b : Bool) (c : Colour)
    → is_paint (if a then paint.Polygon c 1000 else if b then paint.Line c 200 1000 cap.Round else paint.Markers c 600 600 1000) ≡ true
paint_cases true b c = refl
paint_cases false true c = refl
paint_cases false false c = refl

-- what a rule paints is within its ranges
pub paint_passes : (r : ℕ) → is_paint (paint_of r) ≡ true
paint_passes r = paint_cases (eqb (r / 4) 0) (eqb (r / 4) 1) (work_colour r)

one_map : (maps : List MapPlan) → length maps ≡ 1 → HasNamesApart maps
one_map maps one i j a b p q e =
    let first = slice_get_within maps i a p in
    let second = slice_get_within maps j b q in
    omega (arith, one, first, second)

-- a plan may be started
pub plan_sound : (seed n : ℕ) → IsPlan (work_plan seed n)
unfolding work_plan
plan_sound seed n = record {
  count_maps = record { some = omega arith; few = omega arith };
  each_map = All-from_recursion IsMapPlan (work_plan seed n).maps (
    record {
      named = refl;
      sized = refl;
      zooms = omega arith;
    },
    tt,
  );
  apart = one_map (work_plan seed n).maps refl;
  count_workers = record { some = omega arith; few = omega arith };
  limited = record {
    prio = record { some = omega arith; few = omega arith };
    request = record { some = omega arith; few = omega arith };
    low = record { some = omega arith; few = omega arith };
    dirty = record { some = omega arith; few = omega arith };
    bulk = record { some = omega arith; few = omega arith };
  };
  few_updates = omega arith;
  few_restyles = omega arith;
  each_restyle = All-from_recursion (NamesMap (work_plan seed n).maps) [] tt;
}
