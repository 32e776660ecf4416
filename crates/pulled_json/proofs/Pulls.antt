-- What the tokens of a value come to.
use Rattle.std.proofs.Common.{◌≡◌, ℕ, ◌-◌, ◌<◌, ◌≤◌, List, [], ◌∷◌, ◌++◌, length, Option, Some, None, option_map, refl, ap, ◌∙◌}
use Rattle.json.specs.Token.{Token}
use Rattle.json.specs.Json as json
use Rattle.json.specs.Json.{Parse, parse_map, after_end_array, read_key, items, members, value}
use Rattle.json.proofs.Grammar.{value-begin_array, value-begin_object, items_end, items_more, members_end, members_more}
use Rattle.serde_json.specs.Data.{Data, array, object, Items, no_items, item, Members, no_members, put}
use Rattle.serde_json.specs.Read.{of_json, of_items, of_members, converted}
use Rattle.serde_json.specs.View.{view, items_view}
use Rattle.serde_json.specs.declared.value.Value.{Value}

abbrev pick : {A : Type 0} → A → Option A → A
pick d None = d
pick d (Some a) = a

found : {B : Type 0} (r s : List Token) (x : Option B) (b : B) → option_map {U = B × List Token} (λ y. (y, r)) x ≡ Some (b, s) → (r ≡ s) × (x ≡ Some b)
found r s None b e = absurd (cc)
found r s (Some y) b e = let same = ap (pick (y, r)) e in (ap (λ p. p.1) same, ap (λ p. Some p.0) same)

-- what was read under f was read, and f gives it
pub some_of : {A B : Type 0} (f : A → Option B) (o : Option (A × List Token)) (b : B) (r : List Token) → converted f o ≡ Some (b, r) → (a : A) × (o ≡ Some (a, r)) × (f a ≡ Some b)
some_of f None b r e = absurd (cc)
some_of f (Some p) b r e = let both = found p.1 r (f p.0) b e in (p.0, ap (λ s. Some (p.0, s)) both.0, both.1)

mapped : {A B : Type 0} (g : A → B) (r : List Token) (x : Option A) → option_map (λ b. (b, r)) (option_map g x) ≡ parse_map g (option_map (λ a. (a, r)) x)
mapped g r None = refl
mapped g r (Some a) = refl

with_item : (j : json.Json) (d : Data) → of_json j ≡ Some d → (o : Option (json.Items × List Token)) → converted of_items (parse_map (json.item j) o) ≡ parse_map (item d) (converted of_items o)
with_item j d e None = refl
with_item j d e (Some p) = rw e (mapped (item d) p.1 (of_items p.0))

with_member : (k : List ℕ) (j : json.Json) (d : Data) (old : Members) → of_json j ≡ Some d → (o : Option (json.Members × List Token))
    → converted (λ ms. of_members ms old) (parse_map (json.member k j) o) ≡ converted (λ ms. of_members ms (put k d old)) o
with_member k j d old e None = refl
with_member k j d old e (Some p) = rw e

pub item_more : (p : Parse json.Json) (n : ℕ) (ts r : List Token) (d : Data) → 0 < n → after_end_array ts ≡ None → converted of_json (p ts) ≡ Some (d, r)
    → converted of_items (items p n ts) ≡ parse_map (item d) (converted of_items (items p (n - 1) r))
item_more p n ts r d some going e = let j = some_of of_json (p ts) d r e in ap (converted of_items) (items_more p n ts r j.0 some going j.1) ∙ with_item j.0 d j.2 _

pub item_end : (p : Parse json.Json) (n : ℕ) (ts r : List Token) → length ts ≤ n → after_end_array ts ≡ Some r → converted of_items (items p n ts) ≡ Some (no_items, r)
item_end p n ts r le e = ap (converted of_items) (items_end p n ts r le e)

pub member_more : (p : Parse json.Json) (old : Members) (n : ℕ) (k : List ℕ) (ts s r : List Token) (d : Data) → 0 < n → read_key ts ≡ Some (Some k, s) → converted of_json (p s) ≡ Some (d, r)
    → converted (λ ms. of_members ms old) (members p n ts) ≡ converted (λ ms. of_members ms (put k d old)) (members p (n - 1) r)
member_more p old n k ts s r d some named e =
    let j = some_of of_json (p s) d r e in
    ap (converted (λ ms. of_members ms old)) (members_more p n k ts s r j.0 some named j.1) ∙ with_member k j.0 d old j.2 _

pub member_end : (p : Parse json.Json) (old : Members) (n : ℕ) (ts r : List Token) → length ts ≤ n → read_key ts ≡ Some (None, r) → converted (λ ms. of_members ms old) (members p n ts) ≡ Some (old, r)
member_end p old n ts r le e = ap (converted (λ ms. of_members ms old)) (members_end p n ts r le e)

pub list_value : (depth : ℕ) (ts r : List Token) (ds : Items) → 0 < depth → converted of_items (items (value (depth - 1)) (length ts) ts) ≡ Some (ds, r) → converted of_json (value depth (Token.begin_array ∷ ts)) ≡ Some (array ds, r)
list_value depth ts r ds deep e =
    let js = some_of of_items (items (value (depth - 1)) (length ts) ts) ds r e in
    ap (converted of_json) (value-begin_array depth ts deep ∙ ap (parse_map json.array) js.1) ∙ rw js.2

pub object_value : (depth : ℕ) (ts r : List Token) (ms : Members) → 0 < depth → converted (λ js. of_members js no_members) (members (value (depth - 1)) (length ts) ts) ≡ Some (ms, r)
    → converted of_json (value depth (Token.begin_object ∷ ts)) ≡ Some (object ms, r)
object_value depth ts r ms deep e =
    let js = some_of (λ js. of_members js no_members) (members (value (depth - 1)) (length ts) ts) ms r e in
    ap (converted of_json) (value-begin_object depth ts deep ∙ ap (parse_map json.object) js.1) ∙ rw js.2

-- the items that were read before those
abbrev pub items_before : List Value → Items → Items
items_before [] ds = ds
items_before (v ∷ vs) ds = item (view v) (items_before vs ds)

pub before_none : (vs : List Value) → items_before vs no_items ≡ items_view vs
before_none [] = refl
before_none (v ∷ vs) = ap (item (view v)) (before_none vs)

before_one : (vs : List Value) (v : Value) (ds : Items) → items_before vs (item (view v) ds) ≡ items_before (vs ++ v ∷ []) ds
before_one [] v ds = refl
before_one (w ∷ vs) v ds = ap (item (view w)) (before_one vs v ds)

pub before_more : (vs : List Value) (v : Value) (o : Option (Items × List Token)) → parse_map (items_before vs) (parse_map (item (view v)) o) ≡ parse_map (items_before (vs ++ v ∷ [])) o
before_more vs v None = refl
before_more vs v (Some p) = ap (λ ds. Some (ds, p.1)) (before_one vs v p.0)

pub none_before : (o : Option (Items × List Token)) → o ≡ parse_map (items_before []) o
none_before None = refl
none_before (Some p) = refl

-- a token that is a whole value
pub plain_value : (depth : ℕ) (t : Token) (old r : List Token) (j : json.Json) (d : Data) → old ≡ t ∷ r → value depth (t ∷ r) ≡ Some (j, r) → of_json j ≡ Some d → converted of_json (value depth old) ≡ Some (d, r)
plain_value depth t old r j d opened is e = ap (λ ts. converted of_json (value depth ts)) opened ∙ ap (converted of_json) is ∙ rw e
