-- The places of objects in a style text.
use Rattle.std.specs.Prelude.{ℕ}
use Rattle.style_objects.specs.declared.fault.At.{At}
use Rattle.style_objects.specs.declared.fault.Part.{Part}

-- The place of an object of this kind, counted from 0: a style by its own, a rule by style and
-- rule, a symbolizer by style, rule and symbolizer, a layer and a raster by their own. Numbers that
-- do not apply are 0.
abbrev pub at_place : Part → ℕ → ℕ → ℕ → At
at_place kind first second third = record {
  part = kind;
  first = first;
  second = second;
  third = third;
}
