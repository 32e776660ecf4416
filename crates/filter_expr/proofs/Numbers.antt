-- Names by their numbers, and filters whose names are numbers, node by node.
use Rattle.std.proofs.Common.{◌≡◌, ℕ, zero, suc, ◌+◌, ◌<◌, ◌≤◌, true, List, [], ◌∷◌, ◌++◌, length, get_or, set, take, map, not, ◌||◌, ◌&&◌, refl, sym, ap, ◌∙◌, arith}
use Rattle.std.specs.List.{list_any, list_all}
use Rattle.std.specs.Str.{bytes_eq}
use Rattle.std.proofs.lemmas.Slice.Eq.{bytes_eq-Decides}
use Rattle.std.proofs.lemmas.List.{get_or-map, get_or_default, map-append, map_more, length-map}
use Rattle.std.proofs.lemmas.Grind.{take-set_at}
use Rattle.std.specs.declared.boxed.Box.{Box}
use Rattle.std.specs.declared.vec.Vec.{Vec}
use Rattle.std.specs.declared.alloc.Global.{Global}
use Rattle.farm_base.specs.declared.Attr.{Attr}
use Rattle.farm_base.specs.declared.Value.{Value}
use Rattle.farm_base.specs.declared.Value.TheVariants.{Null, Truth, Whole, Text}
use Rattle.plain_filters.specs.declared.CompareSign.{CompareSign}
use Rattle.plain_filters.specs.Values.{truth, attribute, compares}
use Rattle.plain_filters.specs.Filters.{FilterTree, or_tree, and_tree, not_tree, compare_tree, name_tree, trees_of, tree_value, any_true, all_true}
use Rattle.filter_expr.specs.declared.value.ValueRef.{ValueRef}
use Rattle.filter_expr.specs.declared.numbered.Side.{Side}
use Rattle.filter_expr.specs.declared.numbered.NumberedFilter.{NumberedFilter, fold-roll-NumberedFilter, roll-NumberedFilter, map-NumberedFilter}
use Rattle.filter_expr.specs.declared.numbered.NumberedFilter.TheVariants as node
use Rattle.filter_expr.specs.declared.numbered.NumberedFilter.TheOpen as «open»
use Rattle.filter_expr.specs.inner.Shown.{plain}
use Rattle.filter_expr.specs.Looked.{Looked}
use Rattle.filter_expr.specs.Numbered.{name_at, constant, side_tree, numbered_step, stands_for, numbered_value}
use Rattle.filter_expr.proofs.Nodes.{tree-Or, tree-And, tree-Not, tree-Compare}

-- ---- names

name_there : {A : Type 0} (f : A → List ℕ) (xs : List A) (n : ℕ) (x : A) → n < length xs → x ≡ get_or xs n x → name_at (map f xs) n ≡ name_tree (f x)
name_there f [] n x h e = absurd (omega (arith, h))
name_there f (y ∷ ys) zero x h e = ap (λ z. name_tree (f z)) (sym e)
name_there f (y ∷ ys) (suc n) x h e = name_there f ys n x (omega arith) e

pub named_at : {A : Type 0} (f : A → List ℕ) (xs : List A) (n : ℕ) (d : A) (name : List ℕ) → n < length xs → bytes_eq (f (get_or xs n d)) name ≡ true
    → name_at (map f xs) n ≡ name_tree name
named_at f xs n d name within same =
    name_there f xs n (get_or xs n d) within (get_or_default xs n d (get_or xs n d) within) ∙ ap name_tree ((bytes_eq-Decides (f (get_or xs n d)) name).0 same)

-- one name more whose value is known
pub one_looked : {A : Type 0} (g : A → Value) (names : List A) (values : List ValueRef) (i : ℕ) (x : A) (v : ValueRef) → i < length names → length values ≡ length names
    → x ≡ get_or names i x → plain v ≡ g x → map plain (take i values) ≡ map g (take i names)
    → map plain (take (i + 1) (set values i v)) ≡ map g (take (i + 1) names)
one_looked g names values i x v within same is known so_far =
    ap (map plain) (take-set_at values i (i + 1) v refl (omega (arith, within, same))) ∙ map-append plain (take i values) (v ∷ [])
    ∙ ap (λ l. l ++ plain v ∷ []) so_far ∙ ap (λ z. map g (take i names) ++ z ∷ []) (known ∙ ap g is)
    ∙ sym (map_more g names i x within)

value_at : {A : Type 0} (f : A → List ℕ) (attrs : List Attr) (xs : List A) (n : ℕ) (d : Value) → n < length xs
    → get_or (map (λ x. attribute (f x) attrs) xs) n d ≡ tree_value attrs (name_at (map f xs) n)
value_at f attrs [] n d h = absurd (omega (arith, h))
value_at f attrs (x ∷ xs) zero d h = refl
value_at f attrs (x ∷ xs) (suc n) d h = value_at f attrs xs n d (omega arith)

no_value_at : {A : Type 0} (f : A → List ℕ) (attrs : List Attr) (xs : List A) (n : ℕ) → length xs ≤ n → Null ≡ tree_value attrs (name_at (map f xs) n)
no_value_at f attrs [] n h = refl
no_value_at f attrs (x ∷ xs) zero h = absurd (omega (arith, h))
no_value_at f attrs (x ∷ xs) (suc n) h = no_value_at f attrs xs n (omega arith)

same_count : {A B C : Type 0} (p : A → C) (g : B → C) (vs : List A) (xs : List B) → map p vs ≡ map g xs → length vs ≡ length xs
same_count p g vs xs e = sym (length-map vs p) ∙ ap length e ∙ length-map xs g

pub value_there : {A : Type 0} (f : A → List ℕ) (attrs : List Attr) (xs : List A) (values : List ValueRef) (n : ℕ) (v : ValueRef)
    → map plain values ≡ map (λ x. attribute (f x) attrs) xs → n < length values → v ≡ get_or values n v → plain v ≡ tree_value attrs (name_at (map f xs) n)
value_there f attrs xs values n v known within is =
    let count : length values ≡ length xs = same_count plain (λ x. attribute (f x) attrs) values xs known in
    ap plain is ∙ sym (get_or-map plain values n v (plain v) within) ∙ ap (λ l. get_or l n (plain v)) known
    ∙ value_at f attrs xs n (plain v) (omega (arith, within, count))

pub value_past : {A : Type 0} (f : A → List ℕ) (attrs : List Attr) (xs : List A) (values : List ValueRef) (n : ℕ)
    → map plain values ≡ map (λ x. attribute (f x) attrs) xs → length values ≤ n → Null ≡ tree_value attrs (name_at (map f xs) n)
value_past f attrs xs values n known past =
    let count : length values ≡ length xs = same_count plain (λ x. attribute (f x) attrs) values xs known in
    no_value_at f attrs xs n (omega (arith, past, count))

-- ---- filters

pub constant_value : (attrs : List Attr) (v : Value) → tree_value attrs (constant v) ≡ v
constant_value attrs Null = refl
constant_value attrs (Truth b) = refl
constant_value attrs (Whole z) = refl
constant_value attrs (Text t) = refl

rolled : (names : List (List ℕ)) (d : open.NumberedFilter-F NumberedFilter) (f : NumberedFilter) → roll-NumberedFilter d ≡ f →
    stands_for names f ≡ numbered_step names (map-NumberedFilter NumberedFilter FilterTree (stands_for names) d)
rolled names d f q = ap (stands_for names) (sym q) ∙ fold-roll-NumberedFilter FilterTree (numbered_step names) d

pub stands-Any : (names : List (List ℕ)) (v : Vec NumberedFilter Global) → stands_for names (node.Any v) ≡ or_tree (trees_of (map (stands_for names) v.items))
stands-Any names v = rolled names (open.Any v) (node.Any v) (node.rolls-Any v)

pub stands-All : (names : List (List ℕ)) (v : Vec NumberedFilter Global) → stands_for names (node.All v) ≡ and_tree (trees_of (map (stands_for names) v.items))
stands-All names v = rolled names (open.All v) (node.All v) (node.rolls-All v)

pub stands-Not : (names : List (List ℕ)) (b : Box NumberedFilter Global) → stands_for names (node.Not b) ≡ not_tree (stands_for names b.value)
stands-Not names b = rolled names (open.Not b) (node.Not b) (node.rolls-Not b)

pub stands-Compare : (names : List (List ℕ)) (a : Side) (s : CompareSign) (b : Side) → stands_for names (node.Compare a s b) ≡ compare_tree (side_tree names a) s (side_tree names b)
stands-Compare names a s b = rolled names (open.Compare a s b) (node.Compare a s b) (node.rolls-Compare a s b)

pub stands-Truth : (names : List (List ℕ)) (a : Side) → stands_for names (node.Truth a) ≡ side_tree names a
stands-Truth names a = rolled names (open.Truth a) (node.Truth a) (node.rolls-Truth a)

pub ruleset nodes = (stands-Any, stands-All, stands-Not, stands-Compare, stands-Truth, tree-Or, tree-And, tree-Not, tree-Compare)

any_listed : (k : Looked) (fs : List NumberedFilter) → any_true k.attrs (trees_of (map (stands_for k.names) fs)) ≡ list_any truth (map (numbered_value k) fs)
any_listed k [] = refl
any_listed k (f ∷ fs) = ap (λ b. truth (numbered_value k f) || b) (any_listed k fs)

all_listed : (k : Looked) (fs : List NumberedFilter) → all_true k.attrs (trees_of (map (stands_for k.names) fs)) ≡ list_all truth (map (numbered_value k) fs)
all_listed k [] = refl
all_listed k (f ∷ fs) = ap (λ b. truth (numbered_value k f) && b) (all_listed k fs)

pub value-Any : (k : Looked) (v : Vec NumberedFilter Global) → numbered_value k (node.Any v) ≡ Truth (list_any truth (map (numbered_value k) v.items))
value-Any k v = ap (tree_value k.attrs) (stands-Any k.names v) ∙ ap Truth (any_listed k v.items)

pub value-All : (k : Looked) (v : Vec NumberedFilter Global) → numbered_value k (node.All v) ≡ Truth (list_all truth (map (numbered_value k) v.items))
value-All k v = ap (tree_value k.attrs) (stands-All k.names v) ∙ ap Truth (all_listed k v.items)

pub value-Not : (k : Looked) (b : Box NumberedFilter Global) → numbered_value k (node.Not b) ≡ Truth (not (truth (numbered_value k b.value)))
value-Not k b = ap (tree_value k.attrs) (stands-Not k.names b)

pub value-Compare : (k : Looked) (a : Side) (s : CompareSign) (b : Side)
    → numbered_value k (node.Compare a s b) ≡ Truth (compares s (tree_value k.attrs (side_tree k.names a)) (tree_value k.attrs (side_tree k.names b)))
value-Compare k a s b = ap (tree_value k.attrs) (stands-Compare k.names a s b)

pub value-Truth : (k : Looked) (a : Side) → numbered_value k (node.Truth a) ≡ tree_value k.attrs (side_tree k.names a)
value-Truth k a = ap (tree_value k.attrs) (stands-Truth k.names a)

pub ruleset values = (value-Any, value-All, value-Not, value-Compare, value-Truth)
