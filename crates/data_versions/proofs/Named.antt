-- Layers that are looked up by name.
use Rattle.std.proofs.Common.{◌≡◌, ℕ, zero, suc, ◌+◌, ◌≤◌, ◌<◌, List, [], ◌∷◌, ◌++◌, length, get_or, set, take, drop, drop-cons, add-one, refl, sym, ap, ◌∙◌, subst, arith}
use Rattle.std.specs.Prelude.{Bool, true, false, cond, nat_lt, position, All, Some, None, option_map, Ok, Err}
use Rattle.std.specs.Str.{bytes_eq}
use Rattle.std.specs.List.{AllByRecursion, position_or_len}
use Rattle.std.proofs.lemmas.List.Elements.{recursion_from_All, All-more}
use Rattle.std.specs.declared.alloc.Global.{Global}
use Rattle.std.specs.declared.sync.Arc.{Arc}
use Rattle.std.specs.Arc.{arc_value}
use Rattle.data_versions.specs.Shared.{shared_layers}
use Rattle.plain_shapes.specs.Features.{Layer}
use Rattle.plain_shapes.specs.Data.{Change, IsLayer, IsDataset, names_of, layer_named, features_named, changed_layer, layers_after, change_fault, changed_from}
use Rattle.farm_base.specs.declared.faults.ApplyFault.{ApplyFault}
use Rattle.std.proofs.lemmas.List.{length-map, map-append, drop_all, take_more}
use Rattle.std.proofs.lemmas.List.Quantifiers.{position-Some}
use Rattle.std.proofs.lemmas.List.Folds.{find_at}
use Rattle.std.proofs.lemmas.Option.{slice_get_past}
use Rattle.std.proofs.lemmas.Bool.{ltb-false}
use Rattle.farm_base.proofs.Outcomes.{none_past}

-- ---- the layer of a name by its place

named_at : (layers : List Layer) (i : ℕ) (d : Layer) (name : List ℕ) → i < length layers → bytes_eq (get_or layers i d).name name ≡ true
    → ((k : ℕ) → k < i → bytes_eq (get_or layers k d).name name ≡ false) → layer_named layers name ≡ Some (get_or layers i d)
named_at [] i d name small here before = absurd (omega arith)
named_at (l ∷ layers) zero d name small here before = rw here refl
named_at (l ∷ layers) (suc i) d name small here before =
    rw (before 0 (omega arith)) (named_at layers i d name (omega arith) here (λ k h. before (suc k) (omega arith)))

pub named_place : (layers : List Layer) (i : ℕ) (d : Layer) (name : List ℕ) → position (λ l. bytes_eq l.name name) layers ≡ Some i
    → features_named layers name ≡ Some (get_or layers i d).features
named_place layers i d name at =
    let facts = position-Some (λ (l : Layer). bytes_eq l.name name) layers i d at in
    ap (option_map (λ (l : Layer). l.features)) (named_at layers i d name facts.0 facts.1 facts.2)

changed_at : (layers : List Layer) (i : ℕ) (d : Layer) (c : Change) → i < length layers → bytes_eq (get_or layers i d).name c.layer ≡ true
    → ((k : ℕ) → k < i → bytes_eq (get_or layers k d).name c.layer ≡ false) → set layers i (changed_layer c (get_or layers i d)) ≡ layers_after c layers
changed_at [] i d c small here before = absurd (omega arith)
changed_at (l ∷ layers) zero d c small here before = rw here refl
changed_at (l ∷ layers) (suc i) d c small here before =
    rw (before 0 (omega arith)) (ap (λ (ls : List Layer). l ∷ ls) (changed_at layers i d c (omega arith) here (λ k h. before (suc k) (omega arith))))

pub changed_place : (layers : List Layer) (i : ℕ) (d : Layer) (c : Change) → position (λ l. bytes_eq l.name c.layer) layers ≡ Some i
    → set layers i (changed_layer c (get_or layers i d)) ≡ layers_after c layers
changed_place layers i d c at =
    let facts = position-Some (λ (l : Layer). bytes_eq l.name c.layer) layers i d at in
    changed_at layers i d c facts.0 facts.1 facts.2

pub unnamed : (layers : List Layer) (name : List ℕ) → position (λ l. bytes_eq l.name name) layers ≡ None → features_named layers name ≡ None
unnamed layers name none =
    let p : Layer → Bool = λ l. bytes_eq l.name name in
    let past : length layers ≤ position_or_len p layers = ltb-false (position_or_len p layers) (length layers) (none_past (nat_lt (position_or_len p layers) (length layers)) (position_or_len p layers) none) in
    rw (find_at p layers, slice_get_past layers (position_or_len p layers) past) refl

-- ---- the changes one after another

pub changed_more : (changes : List Change) (i : ℕ) (c : Change) (layers next : List Layer) → i < length changes → c ≡ get_or changes i c
    → change_fault i c layers ≡ None → next ≡ layers_after c layers → changed_from (i + 1) (drop (i + 1) changes) next ≡ changed_from i (drop i changes) layers
unfolding changed_from
changed_more changes i c layers next small at right e =
    rw (e, drop-cons changes i c small, ← at, right, add-one i) refl

pub changed_stops : (changes : List Change) (i : ℕ) (c : Change) (layers : List Layer) (fault : ApplyFault) → i < length changes → c ≡ get_or changes i c
    → change_fault i c layers ≡ Some fault → changed_from i (drop i changes) layers ≡ Err fault
unfolding changed_from
changed_stops changes i c layers fault small at refused = rw (drop-cons changes i c small, ← at, refused) refl

pub changed_end : (changes : List Change) (i : ℕ) (layers : List Layer) → length changes ≤ i → changed_from i (drop i changes) layers ≡ Ok layers
unfolding changed_from
changed_end changes i layers past = rw (drop_all i changes past) refl

by_name : (b : Bool) (c : Change) (l : Layer) (layers rest : List Layer) → names_of rest ≡ names_of layers
    → names_of (cond b (changed_layer c l ∷ layers) (l ∷ rest)) ≡ l.name ∷ names_of layers
by_name true c l layers rest e = refl
by_name false c l layers rest e = ap (λ names. l.name ∷ names) e

-- a change changes no name
pub names_changed : (c : Change) (layers : List Layer) → names_of (layers_after c layers) ≡ names_of layers
names_changed c [] = refl
names_changed c (l ∷ layers) = by_name (bytes_eq l.name c.layer) c l layers (layers_after c layers) (names_changed c layers)

-- valid layers of the same names are data again
pub dataset_kept : (old new : List Layer) → IsDataset old → names_of new ≡ names_of old → All IsLayer new → IsDataset new
dataset_kept old new valid same each =
    let long : length (names_of new) ≡ length (names_of old) = ap length same in
    let same_length : length new ≡ length old = simp length-map at long in
    record { few = omega (arith, valid.few); each = each; distinct = rw same valid.distinct }

-- ---- layers as they are shared

by_place : (shares : List (Arc Layer Global)) (i : ℕ) (share : Arc Layer Global) → i < length shares → AllByRecursion IsLayer (shared_layers shares)
    → share ≡ get_or shares i share → IsLayer (arc_value share)
by_place [] i share small each at = absurd (omega arith)
by_place (first ∷ shares) zero share small each at = subst (λ (a : Arc Layer Global). IsLayer (arc_value a)) (sym at) each.0
by_place (first ∷ shares) (suc i) share small each at = by_place shares i share (omega arith) each.1 at

-- each share is of a valid layer
pub shared_valid : (shares : List (Arc Layer Global)) (i : ℕ) (share : Arc Layer Global) → i < length shares → All IsLayer (shared_layers shares)
    → share ≡ get_or shares i share → IsLayer (arc_value share)
shared_valid shares i share small each at = by_place shares i share small (recursion_from_All IsLayer (shared_layers shares) each) at

-- one more share
pub shares_more : (shares : List (Arc Layer Global)) (i : ℕ) (share : Arc Layer Global) (before after : List Layer) (l : Layer) → i < length shares
    → share ≡ get_or shares i share → before ≡ shared_layers (take i shares) → l ≡ arc_value share → after ≡ before ++ l ∷ [] → after ≡ shared_layers (take (i + 1) shares)
shares_more shares i share before after l small at so_far here pushed =
    pushed ∙ ap (λ ls. ls ++ l ∷ []) so_far ∙ ap (λ m. shared_layers (take i shares) ++ m ∷ []) (here ∙ ap arc_value at)
    ∙ sym (ap shared_layers (take_more shares i share small) ∙ map-append arc_value (take i shares) (get_or shares i share ∷ []))

-- one more valid layer
pub layers_more : (layers : List Layer) (i : ℕ) (l : Layer) → i < length layers → l ≡ get_or layers i l → All IsLayer (take i layers) → IsLayer l
    → All IsLayer (take (i + 1) layers)
layers_more layers i l small at each here = All-more IsLayer layers i l small each (subst (λ (m : Layer). IsLayer m) at here)
