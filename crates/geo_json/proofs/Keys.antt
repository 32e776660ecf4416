-- Attributes that are read member by member: what was read and what is left, and that the names are distinct.
use Rattle.std.proofs.Common.{◌≡◌, ℕ, List, [], ◌∷◌, ◌++◌, map, refl, sym, ap, ◌∙◌, append_assoc}
use Rattle.std.specs.Prelude.{Bool, false, ◌||◌, Result, Ok, Err, String, string_bytes}
use Rattle.std.specs.declared.alloc.Global.{Global}
use Rattle.std.specs.declared.cmp.Ordering.TheVariants.{Less}
use Rattle.std.specs.Ordering.{is_eq}
use Rattle.std.specs.String.{string_cmp}
use Rattle.std.proofs.lemmas.Map.Text.{is_eq-slice_cmp}
use Rattle.std.specs.List.{list_any, AllByRecursion}
use Rattle.std.specs.List.Sorted.{IsStrictlySortedBy}
use Rattle.std.specs.Map.{keys_of}
use Rattle.std.specs.Str.{bytes_eq}
use Rattle.std.proofs.lemmas.List.{map-append}
use Rattle.std.proofs.lemmas.Map.Keys.{sorted_head, sorted_tail}
use Rattle.serde_json.specs.declared.value.Value.{Value}
use Rattle.serde_json.specs.View.{view, members_view}
use Rattle.farm_base.specs.declared.values.Attr.{Attr}
use Rattle.geo_model.specs.Shapes.{has_double_name}
use Rattle.reading.specs.Steps.{◌>>=◌}
use Rattle.geo_json.specs.Attributes.{attr_of, attrs_after}
use Rattle.geo_json.specs.declared.faults.DataFault.{DataFault}

attrs_next : (shape : DataFault) (before : List Attr) (k : String Global) (v : Value) (s t : List (String Global × Value)) → s ≡ (k, v) ∷ t
    → attrs_after shape before (members_view s) ≡ (attr_of shape (string_bytes k) (view v) >>= λ a. attrs_after shape (before ++ a ∷ []) (members_view t))
unfolding attrs_after
attrs_next shape before k v s t e = rw e refl

-- an attribute that was read goes last
pub attrs_more : (shape : DataFault) (before next : List Attr) (k : String Global) (v : Value) (s t : List (String Global × Value)) (a : Attr) (all : Result (List Attr) DataFault)
    → next ≡ before ++ a ∷ [] → s ≡ (k, v) ∷ t → attr_of shape (string_bytes k) (view v) ≡ Ok a
    → attrs_after shape before (members_view s) ≡ all → attrs_after shape next (members_view t) ≡ all
attrs_more shape before next k v s t a all n e r told =
    rw n (sym (ap (λ x. x >>= λ b. attrs_after shape (before ++ b ∷ []) (members_view t)) r) ∙ sym (attrs_next shape before k v s t e) ∙ told)

-- the fault of an attribute is that of all
pub attrs_fails : (shape : DataFault) (before : List Attr) (k : String Global) (v : Value) (s t : List (String Global × Value)) (fault : DataFault) (all : Result (List Attr) DataFault)
    → s ≡ (k, v) ∷ t → attr_of shape (string_bytes k) (view v) ≡ Err fault → attrs_after shape before (members_view s) ≡ all → all ≡ Err fault
attrs_fails shape before k v s t fault all e r told =
    sym told ∙ attrs_next shape before k v s t e ∙ ap (λ x. x >>= λ b. attrs_after shape (before ++ b ∷ []) (members_view t)) r

-- past the last member, what was read are the attributes
pub attrs_ends : (shape : DataFault) (before : List Attr) (s : List (String Global × Value)) (all : Result (List Attr) DataFault)
    → s ≡ [] → attrs_after shape before (members_view s) ≡ all → all ≡ Ok before
unfolding attrs_after
attrs_ends shape before s all e told = sym told ∙ rw e refl

-- the names so far and the keys that are left
pub names_more : (before next : List Attr) (k : String Global) (v : Value) (s t : List (String Global × Value)) (a : Attr) (all : List (List ℕ))
    → next ≡ before ++ a ∷ [] → s ≡ (k, v) ∷ t → a.name ≡ string_bytes k
    → map (λ b. b.name) before ++ map string_bytes (keys_of s) ≡ all → map (λ b. b.name) next ++ map string_bytes (keys_of t) ≡ all
names_more before next k v s t a all n e same told =
    rw (n, map-append (λ (b : Attr). b.name) before (a ∷ []), append_assoc, same) (rw e at told)

-- ---- distinct names

doubles : List (List ℕ) → Bool
doubles [] = false
doubles (n ∷ ns) = list_any (bytes_eq n) ns || doubles ns

named : (a : List ℕ) (later : List Attr) → list_any (λ b. bytes_eq a b.name) later ≡ list_any (bytes_eq a) (map (λ b. b.name) later)
named a [] = refl
named a (b ∷ later) = ap (λ x. bytes_eq a b.name || x) (named a later)

doubled : (attrs : List Attr) → has_double_name attrs ≡ doubles (map (λ b. b.name) attrs)
unfolding doubles
doubled [] = refl
doubled (a ∷ later) = rw (named a.name later, doubled later) refl

below_apart : (keys : List (String Global)) (k : String Global) → AllByRecursion (λ y. string_cmp k y ≡ Less) keys
    → list_any (bytes_eq (string_bytes k)) (map string_bytes keys) ≡ false
below_apart [] k below = refl
below_apart (y ∷ keys) k below =
    let other : bytes_eq (string_bytes k) (string_bytes y) ≡ false = sym (is_eq-slice_cmp (string_bytes k) (string_bytes y)) ∙ ap is_eq below.0 in
    rw other (below_apart keys k below.1)

sorted_single : (keys : List (String Global)) → IsStrictlySortedBy string_cmp keys → doubles (map string_bytes keys) ≡ false
unfolding doubles
sorted_single [] sorted = refl
sorted_single (k ∷ keys) sorted =
    rw (below_apart keys k (sorted_head string_cmp k keys sorted)) (sorted_single keys (sorted_tail string_cmp k keys sorted))

-- attributes by the keys of a map have distinct names
pub keys_apart : (attrs : List Attr) (keys : List (String Global)) → IsStrictlySortedBy string_cmp keys → map (λ b. b.name) attrs ≡ map string_bytes keys
    → has_double_name attrs ≡ false
keys_apart attrs keys sorted e = doubled attrs ∙ ap doubles e ∙ sorted_single keys sorted
