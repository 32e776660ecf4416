-- The styles of maps and restyles, as their courses.
use Rattle.std.proofs.Common.{◌≡◌, ℕ, inl, List, refl, ap, subst}
use Rattle.std.specs.Prelude.{Ok}
use Rattle.plain_drawing.specs.Styles.{MapStyle}
use Rattle.farm_config.specs.Configs.{MapEntry}
use Rattle.farm_config.specs.declared.config.RestyleEntry.{RestyleEntry}
use Rattle.farm_plan.specs.Plans.{MapPlan, Restyle}
use Rattle.exit_status.specs.Ends.{FilesAt}
use Rattle.exit_status.specs.declared.stops.Stop.{Stop}
use Rattle.farm_files.specs.Course.{made}
use Rattle.farm_files.specs.inner.Follows.{Follows}
use Rattle.farm_files.proofs.Courses.{ended, follows_then, follows_stop}
use Rattle.farm_files.specs.MapCourses.{style_course}
use Rattle.farm_files.specs.Courses.{map_course, restyle_course, map_course_by, restyle_course_by}

-- the map of a style
abbrev map_with : MapEntry → MapStyle → MapPlan
map_with m style = record { name = m.name; style = style; tile = m.tile; max_zoom = m.max_zoom }

abbrev restyle_with : RestyleEntry → MapStyle → Restyle
restyle_with r style = record { map = r.map; style = style }

pub map_read : (m : MapEntry) (name : List ℕ) (style : MapStyle) (plan : MapPlan) (old new : FilesAt) → name ≡ m.style → plan ≡ record { name = m.name; style = style; tile = m.tile; max_zoom = m.max_zoom }
    → Follows (style_course name) old new (Ok style) → Follows (map_course m) old new (Ok plan)
unfolding map_course_by
map_read m name style plan old new is has first =
    follows_then (style_course m.style) (λ s. made (map_with m s)) old new new style (Ok plan)
    (subst (λ (n : List ℕ). Follows (style_course n) old new (Ok style)) is first) (inl (ap Ok has), refl)

pub map_stops : (m : MapEntry) (name : List ℕ) (old new : FilesAt) (s : Stop) → name ≡ m.style → Follows (style_course name) old new (ended {A = MapStyle} s) → Follows (map_course m) old new (ended {A = MapPlan} s)
unfolding map_course_by
map_stops m name old new s is first =
    follows_stop MapStyle MapPlan (style_course m.style) (λ style. made (map_with m style)) old new s (subst (λ (n : List ℕ). Follows (style_course n) old new (ended {A = MapStyle} s)) is first)

pub restyle_read : (r : RestyleEntry) (name : List ℕ) (style : MapStyle) (plan : Restyle) (old new : FilesAt) → name ≡ r.style → plan ≡ record { map = r.map; style = style }
    → Follows (style_course name) old new (Ok style) → Follows (restyle_course r) old new (Ok plan)
unfolding restyle_course_by
restyle_read r name style plan old new is has first =
    follows_then (style_course r.style) (λ s. made (restyle_with r s)) old new new style (Ok plan)
    (subst (λ (n : List ℕ). Follows (style_course n) old new (Ok style)) is first) (inl (ap Ok has), refl)

pub restyle_stops : (r : RestyleEntry) (name : List ℕ) (old new : FilesAt) (s : Stop) → name ≡ r.style → Follows (style_course name) old new (ended {A = MapStyle} s)
    → Follows (restyle_course r) old new (ended {A = Restyle} s)
unfolding restyle_course_by
restyle_stops r name old new s is first =
    follows_stop MapStyle Restyle (style_course r.style) (λ style. made (restyle_with r style)) old new s (subst (λ (n : List ℕ). Follows (style_course n) old new (ended {A = MapStyle} s)) is first)
