-- The filters of rules, by their places in a table of filters.
use Rattle.std.proofs.Common.{◌≡◌, ℕ, ◌+◌, ◌-◌, ◌<◌, ◌≤◌, List, [], ◌∷◌, length, get_or, take, drop, map, Option, Some, None, Bor, Result, refl, sym, ap, subst, ◌∙◌, arith}
use Rattle.std.proofs.lemmas.List.{length-map, get_or-map, get_or-drop, length-drop, drop-map, take_all}
use Rattle.std.specs.Prelude.{IfOk}
use Rattle.farm_base.specs.declared.Attr.{Attr}
use Rattle.plain_filters.specs.Filters.{FilterTree}
use Rattle.filter_expr.specs.Looked.{Asked, passes}
use Rattle.plain_drawing.specs.Styles.{Rule}
use Rattle.plain_drawing.specs.Rules.{filter_holds}

passes_is : (attrs : List Attr) (f : Option FilterTree) → passes attrs f ≡ filter_holds attrs f
passes_is attrs None = refl
passes_is attrs (Some tree) = refl

pub held : (attrs : List Attr) (fs : List (Option FilterTree)) (n : ℕ) (f : Option FilterTree) → get_or fs n None ≡ f → passes attrs (get_or fs n None) ≡ filter_holds attrs f
held attrs fs n f e = passes_is attrs (get_or fs n None) ∙ ap (filter_holds attrs) e

-- the filters of rules that are at hand stand in the table from this place on
module _ (bs : List (Bor Rule)) (fs : List (Option FilterTree)) (begin k : ℕ) (b : Bor Rule) (are : map (λ r. r.now.filter) bs ≡ drop begin fs) (within : k < length bs) where
  pub place_there : begin + k < length fs
  place_there =
      let count : length bs ≡ length fs - begin = sym (length-map bs (λ r. r.now.filter)) ∙ ap length are ∙ length-drop begin fs in
      omega (arith, within, count)

  pub filter_there : b ≡ get_or bs k b → get_or fs (begin + k) None ≡ b.now.filter
  filter_there is =
      sym (get_or-drop begin fs k None) ∙ ap (λ l. get_or l k None) (sym are) ∙ get_or-map (λ r. r.now.filter) bs k b None within
      ∙ ap (λ (r : Bor Rule). r.now.filter) (sym is)

-- the table has the filters of the rules, one for each
module _ (bs : List (Bor Rule)) (fs : List (Option FilterTree)) (k : ℕ) (b : Bor Rule) (are : fs ≡ map (λ r. r.now.filter) bs) (within : k < length bs) where
  pub first_place : k < length fs
  first_place = let count : length fs ≡ length bs = ap length are ∙ length-map bs (λ r. r.now.filter) in omega (arith, within, count)

  pub first_filter : b ≡ get_or bs k b → get_or fs k None ≡ b.now.filter
  first_filter is = ap (λ l. get_or l k None) are ∙ get_or-map (λ r. r.now.filter) bs k b None within ∙ ap (λ (r : Bor Rule). r.now.filter) (sym is)

pub of_both : (bs : List (Bor Rule)) → map (λ r. r.filter) (map (λ r. r.now) bs) ≡ map (λ r. r.now.filter) bs
of_both [] = refl
of_both (b ∷ bs) = ap (λ fs. b.now.filter ∷ fs) (of_both bs)

pub filters_are : (bs : List (Bor Rule)) (rules : List Rule) (fs : List (Option FilterTree)) → map (λ r. r.now) bs ≡ rules → fs ≡ map (λ r. r.filter) rules
    → fs ≡ map (λ r. r.now.filter) bs
filters_are bs rules fs these are = are ∙ ap (map (λ r. r.filter)) (sym these) ∙ of_both bs

-- those behind a place
pub filters_behind : (bs : List (Bor Rule)) (fs : List (Option FilterTree)) (n k : ℕ) → n ≡ length bs → fs ≡ map (λ r. r.now.filter) bs
    → map (λ r. r.now.filter) (take (n - k) (drop k bs)) ≡ drop k fs
filters_behind bs fs n k count are =
    let all : length (drop k bs) ≤ n - k = omega (arith, count, length-drop k bs) in
    ap (map (λ r. r.now.filter)) (take_all (n - k) (drop k bs) all) ∙ sym (drop-map (λ r. r.now.filter) k bs) ∙ ap (drop k) (sym are)

pub made_of : {E : Type 0} (r : Result Asked E) (fs gs : List (Option FilterTree)) → fs ≡ gs → IfOk r (λ t. t ≡ record { filters = fs; attrs = [] })
    → IfOk r (λ t. t ≡ record { filters = gs; attrs = [] })
made_of r fs gs e h = subst (λ (l : List (Option FilterTree)). IfOk r (λ t. t ≡ record { filters = l; attrs = [] })) e h
