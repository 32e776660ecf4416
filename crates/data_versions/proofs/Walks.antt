-- What a walk passed over, and what is left of it.
use Rattle.std.proofs.Common.{◌≡◌, ℕ, zero, suc, ◌+◌, ◌<◌, ◌≤◌, ◌-◌, Bool, true, false, List, [], ◌∷◌, ◌++◌, length, get_or, drop, refl, sym, ap, ◌∙◌, subst, inl, inr, arith, append_assoc, append-nil}
use Rattle.std.specs.Prelude.{All, Option}
use Rattle.std.proofs.lemmas.Bool.{cases_lt, true≢false}
use Rattle.std.proofs.lemmas.List.{drop_more, drop_all, drop-drop, get_or-drop}
use Rattle.std.proofs.lemmas.List.Elements.{All-nil, All-cons, All-append}
use Rattle.plain_shapes.specs.Features.{Feature}
use Rattle.data_versions.specs.Near.{is_near, all_near, IsUnasked, Walk, IsNext, IsEnd}
use Rattle.data_versions.specs.declared.question.Wanted.{Wanted}
use Rattle.data_versions.specs.inner.Sieves.{IsPassed}

-- what is left, where those before it are not asked for
pub record IsLeft (asked : Option ℕ) (old new : List Feature) : Type 0 where
  pub before : List Feature
  pub order : old ≡ before ++ new
  pub unasked : All (IsUnasked asked) before

pub all_left : (asked : Option ℕ) (all : List Feature) → IsLeft asked all all
all_left asked all = record { before = []; order = refl; unasked = All-nil (IsUnasked asked) }

-- what is left later
pub left_later : (asked : Option ℕ) (all left later : List Feature) → IsLeft asked all left → IsLeft asked left later → IsLeft asked all later
left_later asked all left later a b = record {
  before = a.before ++ b.before;
  order = a.order ∙ ap (λ xs. a.before ++ xs) b.order ∙ sym (append_assoc a.before b.before later);
  unasked = All-append (IsUnasked asked) a.before b.before a.unasked b.unasked;
}

-- one that is passed, before others
pass_one : (w : Wanted) (b : Bool) (f : Feature) (rest left : List Feature) → is_near w.around f ≡ b → IsPassed w f → IsLeft w.asked (all_near rest w.around) left
    → IsLeft w.asked (all_near (f ∷ rest) w.around) left
pass_one w false f rest left off passed l = rw off l
pass_one w true f rest left on (inl far) l = absurd (true≢false (sym on ∙ far))
pass_one w true f rest left on (inr unasked) l = record {
  before = f ∷ l.before;
  order = rw on (ap (λ xs. f ∷ xs) l.order);
  unasked = All-cons (IsUnasked w.asked) f l.before unasked l.unasked;
}

-- the first ones are passed
pub pass_some : (w : Wanted) (features rest : List Feature) (n : ℕ) → ((k : ℕ) (d : Feature) → k < n → k < length features → IsPassed w (get_or features k d))
    → IsLeft w.asked (all_near (features ++ rest) w.around) (all_near (drop n features ++ rest) w.around)
pass_some w features rest zero passed = all_left w.asked (all_near (features ++ rest) w.around)
pass_some w [] rest (suc n) passed = all_left w.asked (all_near rest w.around)
pass_some w (f ∷ features) rest (suc n) passed =
    pass_one w (is_near w.around f) f (features ++ rest) (all_near (drop n features ++ rest) w.around) refl (passed 0 f (omega arith) (omega arith))
    (pass_some w features rest n (λ k d few small. passed (suc k) d (omega arith) (omega arith)))

-- the first ones from a place on are passed
pass_from : (w : Wanted) (here rest : List Feature) (at place : ℕ) → at ≤ place
    → ((k : ℕ) (d : Feature) → at ≤ k → k < place → IsPassed w (get_or here k d))
    → IsLeft w.asked (all_near (drop at here ++ rest) w.around) (all_near (drop place here ++ rest) w.around)
pass_from w here rest at place order passed =
    subst (λ xs. IsLeft w.asked (all_near (drop at here ++ rest) w.around) (all_near (xs ++ rest) w.around))
    (drop-drop (place - at) at here ∙ ap (λ (n : ℕ). drop n here) (omega arith))
    (pass_some w (drop at here) rest (place - at) (λ k d few small. subst (IsPassed w) (sym (get_or-drop at here k d)) (passed (at + k) d (omega arith) (omega arith))))

-- one that is found is the next one
pub found_next : (w : Wanted) (old : Walk) (here rest : List Feature) (at place : ℕ) (f : Feature) → old.asked ≡ w.asked
    → IsLeft w.asked old.left (all_near (drop at here ++ rest) w.around) → at ≤ place → place < length here → f ≡ get_or here place f → is_near w.around f ≡ true
    → ((k : ℕ) (d : Feature) → at ≤ k → k < place → IsPassed w (get_or here k d))
    → IsNext old f (record { asked = w.asked; left = all_near (drop (place + 1) here ++ rest) w.around })
found_next w old here rest at place f same left order small is near passed =
    let l = left_later w.asked old.left (all_near (drop at here ++ rest) w.around) (all_near (drop place here ++ rest) w.around) left (pass_from w here rest at place order passed) in
    let first : drop place here ≡ f ∷ drop (place + 1) here = drop_more here place f small ∙ ap (λ g. g ∷ drop (place + 1) here) (sym is) in
    record {
      before = l.before;
      order = l.order ∙ ap (λ xs. l.before ++ xs) (ap (λ xs. all_near (xs ++ rest) w.around) first ∙ rw near refl);
      unasked = subst (λ a. All (IsUnasked a) l.before) (sym same) l.unasked;
      asked = sym same;
    }

-- the part is passed, and another one comes
pub part_next : (w : Wanted) (old : List Feature) (here rest left : List Feature) (at : ℕ) → IsLeft w.asked old (all_near (drop at here ++ rest) w.around)
    → ((k : ℕ) (d : Feature) → at ≤ k → k < length here → IsPassed w (get_or here k d)) → all_near rest w.around ≡ left → IsLeft w.asked old left
part_next w old here rest left at was passed same = left_later w.asked old (all_near (drop at here ++ rest) w.around) left was (elim (cases_lt at (length here)) [
  | inl order ↦ subst (λ xs. IsLeft w.asked (all_near (drop at here ++ rest) w.around) xs)
      (ap (λ xs. all_near (xs ++ rest) w.around) (drop_all (length here) here (omega arith)) ∙ same) (pass_from w here rest at (length here) (omega (arith, order)) passed)
  | inr past ↦ subst (λ xs. IsLeft w.asked (all_near (xs ++ rest) w.around) left) (sym (drop_all at here (omega arith)))
      (subst (λ xs. IsLeft w.asked xs left) (sym same) (all_left w.asked left))
])

-- nothing is left
pub at_end : (w : Wanted) (old : Walk) (here rest : List Feature) (at : ℕ) → old.asked ≡ w.asked → IsLeft w.asked old.left (all_near (drop at here ++ rest) w.around)
    → ((k : ℕ) (d : Feature) → at ≤ k → k < length here → IsPassed w (get_or here k d)) → rest ≡ []
    → IsEnd old (record { asked = w.asked; left = all_near rest w.around })
at_end w old here rest at same was passed none =
    let empty : all_near rest w.around ≡ [] = ap (λ xs. all_near xs w.around) none in
    let l = part_next w old.left here rest [] at was passed empty in
    record {
      none = empty;
      unasked = subst (λ a. All (IsUnasked a) old.left) (sym same) (subst (All (IsUnasked w.asked)) (sym (l.order ∙ append-nil l.before)) l.unasked);
      asked = sym same;
    }
