-- Edits that go through the features block after block.
use Rattle.std.proofs.Common.{◌≡◌, ℕ, suc, ◌+◌, ◌<◌, ◌≤◌, List, [], ◌∷◌, ◌++◌, length, take, drop, get_or, refl, sym, ap, ◌∙◌, append-nil, append_assoc, arith}
use Rattle.std.specs.Prelude.{true, false, nat_eq, Option, Some, None}
use Rattle.std.specs.List.{flat_map}
use Rattle.std.specs.Borrow.{Bor}
use Rattle.std.specs.Option.{option_copied, option_to_list}
use Rattle.std.proofs.lemmas.Bool.Decides.{nat_tests}
use Rattle.std.proofs.lemmas.List.{take_more, take_all, drop_more, drop_all, map-append}
use Rattle.std.proofs.lemmas.List.Elements.{filter_map-append}
use Rattle.plain_shapes.specs.Features.{Feature}
use Rattle.data_versions.specs.inner.Edits.{edits_of, edits_at, begins_past, standing_edits, edited}
use Rattle.data_versions.proofs.Laid.{laid_rest}

abbrev Edit : Type 0
Edit = ℕ × Option Feature

no_edit : (n : ℕ) (features : List Feature) → edited n [] features ≡ features
no_edit n [] = refl
no_edit n (f ∷ features) = refl

not_first : (a b : ℕ) → b < a → nat_eq a b ≡ false
not_first a b h = grind (arith, nat_tests)

own_number : (n : ℕ) → nat_eq n n ≡ true
own_number n = grind (arith, nat_tests)

past_is : (n : ℕ) (e : Edit) (edits : List Edit) → begins_past n (e ∷ edits) ≡ true → n < e.0
past_is n e edits h = grind (arith, nat_tests)

-- features before the first edit stay
pub unedited : (n m : ℕ) (edits : List Edit) (xs more : List Feature) → m ≡ n + length xs → begins_past m edits ≡ true
    → edited n edits (xs ++ more) ≡ xs ++ edited m edits more
unedited n m edits [] more e past = ap (λ (k : ℕ). edited k edits more) (omega (arith, e))
unedited n m [] (x ∷ xs) more e past = ap (λ fs. x ∷ (xs ++ fs)) (sym (no_edit m more))
unedited n m (d ∷ edits) (x ∷ xs) more e past =
    let other : nat_eq d.0 n ≡ false = not_first d.0 n (omega (arith, e, past_is m d edits past)) in
    rw other (ap (λ fs. x ∷ fs) (unedited (suc n) m (d ∷ edits) xs more (omega (arith, e)) past))

-- a feature that an edit is of, and one that none is of
pub edited_here : (n : ℕ) (to : Option Feature) (edits : List Edit) (f : Feature) (more : List Feature)
    → edited n ((n, to) ∷ edits) (f ∷ more) ≡ option_to_list to ++ edited (suc n) edits more
edited_here n to edits f more = rw (own_number n) refl

pub edited_other : (n : ℕ) (edits : List Edit) (f : Feature) (more : List Feature) → edits_at n edits ≡ false
    → edited n edits (f ∷ more) ≡ f ∷ edited (suc n) edits more
edited_other n [] f more other = ap (λ fs. f ∷ fs) (sym (no_edit (suc n) more))
edited_other n (e ∷ edits) f more other = rw other refl

-- the same with what was built before
pub built_edited : (before after : List Feature) (n : ℕ) (to : Option Feature) (all edits : List Edit) (f : Feature) (more : List Feature) → all ≡ (n, to) ∷ edits
    → after ≡ before ++ option_to_list to → before ++ edited n all (f ∷ more) ≡ after ++ edited (n + 1) edits more
built_edited before after n to all edits f more e is =
    ap (λ es. before ++ edited n es (f ∷ more)) e ∙ ap (λ fs. before ++ fs) (edited_here n to edits f more) ∙ sym (append_assoc before (option_to_list to) (edited (suc n) edits more))
    ∙ ap (λ fs. fs ++ edited (suc n) edits more) (sym is) ∙ ap (λ (k : ℕ). after ++ edited k edits more) (omega arith)

pub built_other : (before after : List Feature) (n : ℕ) (edits : List Edit) (f : Feature) (more : List Feature) → edits_at n edits ≡ false
    → after ≡ before ++ f ∷ [] → before ++ edited n edits (f ∷ more) ≡ after ++ edited (n + 1) edits more
built_other before after n edits f more other is =
    ap (λ fs. before ++ fs) (edited_other n edits f more other) ∙ sym (append_assoc before (f ∷ []) (edited (suc n) edits more))
    ∙ ap (λ fs. fs ++ edited (suc n) edits more) (sym is) ∙ ap (λ (k : ℕ). after ++ edited k edits more) (omega arith)

pub built_shared : (before after : List Feature) (n m : ℕ) (edits : List Edit) (xs more : List Feature) → m ≡ n + length xs → begins_past m edits ≡ true
    → after ≡ before ++ xs → before ++ edited n edits (xs ++ more) ≡ after ++ edited m edits more
built_shared before after n m edits xs more e past is =
    ap (λ fs. before ++ fs) (unedited n m edits xs more e past) ∙ sym (append_assoc before xs (edited m edits more)) ∙ ap (λ fs. fs ++ edited m edits more) (sym is)

-- what follows the features at one place, and at the next
pub feature_first : (features more : List Feature) (i : ℕ) (f : Feature) → i < length features → f ≡ get_or features i f
    → drop i features ++ more ≡ f ∷ (drop (i + 1) features ++ more)
feature_first features more i f small at = ap (λ fs. fs ++ more) (drop_more features i f small) ∙ ap (λ g. g ∷ (drop (i + 1) features ++ more)) (sym at)

pub block_first : {B : Type 0} (inside : B → List Feature) (blocks : List B) (more : List Feature) (k : ℕ) (b : B) → k < length blocks → b ≡ get_or blocks k b
    → flat_map inside (drop k blocks) ++ more ≡ inside b ++ (flat_map inside (drop (k + 1) blocks) ++ more)
block_first inside blocks more k b small at =
    ap (λ fs. fs ++ more) (laid_rest inside blocks k b small at) ∙ append_assoc (inside b) (flat_map inside (drop (k + 1) blocks)) more

-- one edit more that is left
pub rest_more : (before built after : List Feature) (edits : List (ℕ × Option (Bor Feature))) (k : ℕ) (e : ℕ × Option (Bor Feature)) → k < length edits → e ≡ get_or edits k e
    → built ≡ before ++ standing_edits (edits_of (take k edits)) → after ≡ built ++ option_to_list (option_copied e.1)
    → after ≡ before ++ standing_edits (edits_of (take (k + 1) edits))
rest_more before built after edits k e small at is more =
    let next : standing_edits (edits_of (take (k + 1) edits)) ≡ standing_edits (edits_of (take k edits)) ++ option_to_list (option_copied e.1) =
    ap (λ es. standing_edits (edits_of es)) (take_more edits k e small ∙ ap (λ d. take k edits ++ d ∷ []) (sym at))
    ∙ ap standing_edits (map-append _ (take k edits) (e ∷ [])) ∙ filter_map-append (λ d. d.1) (edits_of (take k edits)) (edits_of (e ∷ []))
    ∙ ap (λ fs. standing_edits (edits_of (take k edits)) ++ fs) (alone (option_copied e.1)) in
    more ∙ ap (λ fs. fs ++ option_to_list (option_copied e.1)) is ∙ append_assoc before (standing_edits (edits_of (take k edits))) (option_to_list (option_copied e.1))
    ∙ ap (λ fs. before ++ fs) (sym next)
  where
    alone : (o : Option Feature) → standing_edits ((e.0, o) ∷ []) ≡ option_to_list o
    alone None = refl
    alone (Some f) = refl

-- all blocks are done, and all features
pub blocks_end : {B : Type 0} (inside : B → List Feature) (blocks : List B) (features more before after : List Feature) (first start k : ℕ) (all left : List Edit)
    → flat_map inside blocks ≡ features → length blocks ≤ k → start ≡ first + length (flat_map inside (take k blocks))
    → before ++ edited first all (flat_map inside blocks ++ more) ≡ after ++ edited start left (flat_map inside (drop k blocks) ++ more)
    → before ++ edited first all (features ++ more) ≡ after ++ edited (first + length features) left more
blocks_end inside blocks features more before after first start k all left same past number is =
    let whole : flat_map inside (take k blocks) ≡ features = ap (flat_map inside) (take_all k blocks past) ∙ same in
    ap (λ fs. before ++ edited first all (fs ++ more)) (sym same) ∙ is ∙ ap (λ bs. after ++ edited start left (flat_map inside bs ++ more)) (drop_all k blocks past)
    ∙ ap (λ (n : ℕ). after ++ edited n left more) (number ∙ ap (λ fs. first + length fs) whole)

pub features_end : (items features more before after : List Feature) (first number k : ℕ) (all left : List Edit) → items ≡ features → length items ≤ k → k ≤ length items → number ≡ first + k
    → before ++ edited first all (items ++ more) ≡ after ++ edited number left (drop k items ++ more)
    → before ++ edited first all (features ++ more) ≡ after ++ edited (first + length features) left more
features_end items features more before after first number k all left same past within is_number is =
    ap (λ fs. before ++ edited first all (fs ++ more)) (sym same) ∙ is ∙ ap (λ fs. after ++ edited number left (fs ++ more)) (drop_all k items past)
    ∙ ap (λ (n : ℕ). after ++ edited n left more) (omega (arith, is_number, ap length same))

-- the edits that are left once all features are done stand after them
pub rest_ends : (features before after : List Feature) (n : ℕ) (all left : List Edit) → before ≡ []
    → ((more : List Feature) → before ++ edited 0 all (features ++ more) ≡ after ++ edited n left more) → after ++ standing_edits left ≡ edited 0 all features
rest_ends features before after n all left none is =
    sym (is []) ∙ ap (λ fs. fs ++ edited 0 all (features ++ [])) none ∙ ap (edited 0 all) (append-nil features)
