-- What a filter asks for has its mark among those of the attributes.
use Rattle.std.proofs.Common.{◌≡◌, ℕ, zero, suc, ◌+◌, ◌*◌, ◌%◌, ◌^◌, ◌<◌, ◌⊎◌, Bool, true, false, ◌||◌, if◌then◌else◌, List, [], ◌∷◌, length, get_or, take, map, refl, ap, sym, ◌∙◌, subst, inl, inr, arith}
use Rattle.std.specs.Prelude.{All, Option, Some, None, IfSome}
use Rattle.std.specs.Int.{bit_at}
use Rattle.std.specs.Int.RustNames.{bit_or}
use Rattle.std.specs.Str.{bytes_eq}
use Rattle.std.proofs.lemmas.Bool.{true≢false, and_parts}
use Rattle.std.proofs.lemmas.Bool.Decides.{Decides-int_eq}
use Rattle.std.proofs.lemmas.Slice.Eq.{bytes_eq-Decides}
use Rattle.std.proofs.lemmas.List.Elements.{All-head, All-tail, All-more, All-weaker}
use Rattle.farm_base.specs.declared.Attr.{Attr}
use Rattle.farm_base.specs.declared.Value.{Value}
use Rattle.farm_base.specs.declared.Value.TheVariants.{Null, Truth, Whole, Text}
use Rattle.attribute_marks.specs.Marks.{mark_of, HasMarks}
use Rattle.attribute_marks.proofs.Bits.{kept, added, one_mark}
use Rattle.plain_filters.specs.declared.Expr.{Expr}
use Rattle.plain_filters.specs.Values.{truth, attribute, same}
use Rattle.plain_filters.specs.Filters.{FilterTree, tree_value, tree_holds, or_tree, and_tree, tree_of, trees_of}
use Rattle.filter_expr.specs.Marked.{AsksFor, AsksMark}

-- equal values have one mark
same_mark : (name : List ℕ) (v w : Value) → same Null w ≡ false → same v w ≡ true → mark_of name v ≡ mark_of name w
same_mark name Null Null some e = absurd (true≢false some)
same_mark name (Truth a) (Truth b) some e = refl
same_mark name (Whole x) (Whole y) some e = ap (λ z. mark_of name (Whole z)) ((Decides-int_eq x y).0 e)
same_mark name (Text s) (Text t) some e = ap (λ b. mark_of name (Text b)) ((bytes_eq-Decides s t).0 e)
same_mark name Null (Truth b) some e = absurd (true≢false (sym e))
same_mark name Null (Whole y) some e = absurd (true≢false (sym e))
same_mark name Null (Text t) some e = absurd (true≢false (sym e))
same_mark name (Truth true) Null some e = absurd (true≢false (sym e))
same_mark name (Truth true) (Whole y) some e = absurd (true≢false (sym e))
same_mark name (Truth true) (Text t) some e = absurd (true≢false (sym e))
same_mark name (Truth false) Null some e = absurd (true≢false (sym e))
same_mark name (Truth false) (Whole y) some e = absurd (true≢false (sym e))
same_mark name (Truth false) (Text t) some e = absurd (true≢false (sym e))
same_mark name (Whole x) Null some e = absurd (true≢false (sym e))
same_mark name (Whole x) (Truth b) some e = absurd (true≢false (sym e))
same_mark name (Whole x) (Text t) some e = absurd (true≢false (sym e))
same_mark name (Text s) Null some e = absurd (true≢false (sym e))
same_mark name (Text s) (Truth b) some e = absurd (true≢false (sym e))
same_mark name (Text s) (Whole y) some e = absurd (true≢false (sym e))

-- an attribute that equals a value has its mark there
pub mark_there : (name : List ℕ) (w : Value) (attrs : List Attr) (marks : ℕ) → same Null w ≡ false → HasMarks marks attrs → same (attribute name attrs) w ≡ true
    → bit_at marks (mark_of name w) ≡ 1
mark_there name w [] marks some has e = absurd (true≢false (sym e ∙ some))
mark_there name w (a ∷ others) marks some has e =
    by (bytes_eq a.name name) refl (mark_there name w others marks some (All-tail (λ (a : Attr). bit_at marks (mark_of a.name a.value) ≡ 1) a others has))
  where
    by : (b : Bool) → bytes_eq a.name name ≡ b → (same (attribute name others) w ≡ true → bit_at marks (mark_of name w) ≡ 1) → bit_at marks (mark_of name w) ≡ 1
    by true here later =
        let named : a.name ≡ name = (bytes_eq-Decides a.name name).0 here in
        let equal : same a.value w ≡ true = ap (λ b. same (if b then a.value else attribute name others) w) (sym here) ∙ e in
        ap (bit_at marks) (sym (ap (λ n. mark_of n a.value) named ∙ same_mark name a.value w some equal)) ∙ All-head (λ (a : Attr). bit_at marks (mark_of a.name a.value) ≡ 1) a others has
    by false other later = later (ap (λ b. same (if b then a.value else attribute name others) w) (sym other) ∙ e)

-- one mark is asked for by a number that has it alone
pub asks_mark : (mark : ℕ) (t : FilterTree) → mark < 64 → AsksMark mark t → AsksFor (1 * 2 ^ mark % 2 ^ 64) t
asks_mark mark t few asks attrs marks has holds = record { mark = mark; there = asks attrs marks has holds; is_asked = one_mark mark few }

-- more marks are asked for
pub asks_more : (asked more : ℕ) (t : FilterTree) → AsksFor asked t → AsksFor (bit_or asked more) t
asks_more asked more t asks attrs marks has holds =
    let s = asks attrs marks has holds in record { mark = s.mark; there = s.there; is_asked = kept asked more s.mark s.is_asked }

pub asks_added : (asked more : ℕ) (t : FilterTree) → AsksFor more t → AsksFor (bit_or asked more) t
asks_added asked more t asks attrs marks has holds =
    let s = asks attrs marks has holds in record { mark = s.mark; there = s.there; is_asked = added asked more s.mark s.is_asked }

-- one part more
pub parts_more : (asked more : ℕ) (parts : List Expr) (i : ℕ) (part : Expr) → i < length parts → part ≡ get_or parts i part
    → All (λ e. AsksFor asked (tree_of e)) (take i parts) → AsksFor more (tree_of part) → All (λ e. AsksFor (bit_or asked more) (tree_of e)) (take (i + 1) parts)
parts_more asked more parts i part within here before asks =
    All-more (λ (e : Expr). AsksFor (bit_or asked more) (tree_of e)) parts i part within
    (All-weaker (λ (e : Expr). AsksFor asked (tree_of e)) (λ (e : Expr). AsksFor (bit_or asked more) (tree_of e)) (λ e h. asks_more asked more (tree_of e) h) (take i parts) before)
    (subst (λ (e : Expr). AsksFor (bit_or asked more) (tree_of e)) here (asks_added asked more (tree_of part) asks))

-- one of two tests that one at least of them passes
pub either : (a b : Bool) → (a || b) ≡ true → (a ≡ true) ⊎ (b ≡ true)
either true b e = inl refl
either false b e = inr e

-- an `or` asks for what all its parts ask for, an `and` for what one of them does
pub or_asks : (asked : ℕ) (parts : List Expr) → All (λ e. AsksFor asked (tree_of e)) parts → AsksFor asked (or_tree (trees_of (map tree_of parts)))
or_asks asked [] all attrs marks has holds = absurd (true≢false (sym holds))
or_asks asked (e ∷ es) all attrs marks has holds = elim (either (truth (tree_value attrs (tree_of e))) (tree_holds attrs (or_tree (trees_of (map tree_of es)))) holds) [
  | inl h ↦ All-head (λ (e : Expr). AsksFor asked (tree_of e)) e es all attrs marks has h
  | inr h ↦ or_asks asked es (All-tail (λ (e : Expr). AsksFor asked (tree_of e)) e es all) attrs marks has h
]

pub and_asks : (asked : ℕ) (parts : List Expr) (i : ℕ) (part : Expr) → i < length parts → part ≡ get_or parts i part → AsksFor asked (tree_of part)
    → AsksFor asked (and_tree (trees_of (map tree_of parts)))
and_asks asked [] i part within here asks attrs marks has holds = absurd (omega arith)
and_asks asked (e ∷ es) zero part within here asks attrs marks has holds =
    asks attrs marks has (ap (λ x. tree_holds attrs (tree_of x)) here ∙ (and_parts (truth (tree_value attrs (tree_of e))) (tree_holds attrs (and_tree (trees_of (map tree_of es)))) holds).0)
and_asks asked (e ∷ es) (suc i) part within here asks attrs marks has holds =
    and_asks asked es i part (omega arith) here asks attrs marks has
    (and_parts (truth (tree_value attrs (tree_of e))) (tree_holds attrs (and_tree (trees_of (map tree_of es)))) holds).1

pub weaker : {X : Type 0} {P Q : X → Type 0} (o : Option X) → ((x : X) → P x → Q x) → IfSome o P → IfSome o Q
weaker None f h = tt
weaker (Some x) f h = f x h
