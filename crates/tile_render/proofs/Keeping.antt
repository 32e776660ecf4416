-- What is kept of the layers of data near a rectangle.
use Rattle.std.proofs.Common.{◌≡◌, ℕ, Bor, Bool, true, false, ◌&&◌, cond, refl, ap, subst, ◌∙◌, List, [], ◌∷◌, Some, None, map, find}
use Rattle.std.specs.Prelude.{Option, IfSome}
use Rattle.std.specs.Option.{option_copied}
use Rattle.std.specs.List.{All}
use Rattle.std.specs.Str.{bytes_eq}
use Rattle.std.proofs.lemmas.List.Elements.{All-head, All-tail}
use Rattle.std.proofs.lemmas.Bool.{and_parts}
use Rattle.std.proofs.lemmas.Slice.Eq.{bytes_eq-Decides}
use Rattle.plain_shapes.specs.Features.{Feature, Layer}
use Rattle.plain_drawing.specs.Drawing.{features_of}
use Rattle.geo_model.specs.declared.bounds.Bounds.{Bounds}
use Rattle.data_versions.specs.Near.{all_near}
use Rattle.tile_render.specs.declared.nearby.NearLayer.{NearLayer}
use Rattle.tile_render.specs.inner.Nearby.{Nearby, DrawAlike, IsKept, serves}
use Rattle.tile_render.proofs.Leaving.{alike_served}

-- what is found passes, and what holds of all holds of it
pub found : {X : Type 0} (P : X → Type 0) (p : X → Bool) (xs : List X) (x : X) → All P xs → Some x ≡ find p xs → P x × (p x ≡ true)
found P p [] x all is = absurd (cc)
found {X} P p (y ∷ xs) x all is = go (p y) refl is (found P p xs x (All-tail P y xs all))
  where
    go : (b : Bool) → p y ≡ b → Some x ≡ cond b (Some y) (find p xs) → (Some x ≡ find p xs → P x × (p x ≡ true)) → P x × (p x ≡ true)
    go true on same later = let e : y ≡ x = cc in subst (λ z. P z × (p z ≡ true)) e (All-head P y xs all, on)
    go false off is later = later is

-- what is kept of the layer of a name, and serves
pub kept_found : (layers : List Layer) (around : Bounds) (now : Nearby) (name : List ℕ) (asked : Option ℕ) (kept : List NearLayer) (r : Option (Bor NearLayer))
    → record { layers = layers; around = around } ≡ now → All (IsKept layers around) kept
    → option_copied r ≡ find (λ k. bytes_eq k.name.now name && serves k.asked asked) kept
    → IfSome r (λ k. k.now.has_all ≡ true → DrawAlike asked (map (λ f. f.now) k.now.features.items) (all_near (features_of now.layers name) now.around))
kept_found layers around now name asked kept None same all is = tt
kept_found layers around now name asked kept (Some k) same all is = λ has.
    let facts = found (IsKept layers around) (λ l. bytes_eq l.name.now name && serves l.asked asked) kept k.now all is in
    let both = and_parts (bytes_eq k.now.name.now name) (serves k.now.asked asked) facts.1 in
    let e : k.now.name.now ≡ name = (bytes_eq-Decides k.now.name.now name).0 both.0 in
    let these : List Feature = map (λ f. f.now) k.now.features.items in
    alike_served k.now.asked asked these (all_near (features_of now.layers name) now.around) both.1
    (subst (DrawAlike k.now.asked these) (ap (λ n. all_near (features_of layers n) around) e ∙ ap (λ (m : Nearby). all_near (features_of m.layers name) m.around) same) (facts.0 has))
