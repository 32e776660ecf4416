-- The rules that draw, one after another, are what an item meets in a style.
use Rattle.std.proofs.Common.{◌≡◌, ℕ, zero, suc, ◌+◌, ◌-◌, ◌<◌, ◌≤◌, Bool, true, false, cond, refl, ap, sym, subst, ◌∙◌, arith, List, [], ◌∷◌, length, get_or, fold, take, drop, filter, flat_map, map, Some, None, ◌&&◌, ◌||◌}
use Rattle.std.specs.Prelude.{◌==◌, if◌then◌else◌, nat_lt, not, position}
use Rattle.std.specs.List.{list_any, position_or_len}
use Rattle.std.proofs.lemmas.Bool.{eqb-true, ltb-false, le-ltb, lt-ltb, not-true}
use Rattle.std.proofs.lemmas.Grind.{fold-append}
use Rattle.std.proofs.lemmas.List.{take_all, length-drop, length-map, get_or-map, drop-map}
use Rattle.farm_base.specs.declared.Attr.{Attr}
use Rattle.std.proofs.lemmas.List.Sums.{prefix_len_passes, fold_more}
use Rattle.std.proofs.lemmas.List.Folds.{list_any_at, list_any_none}
use Rattle.std.proofs.lemmas.List.Quantifiers.{position-Some}
use Rattle.farm_base.proofs.Outcomes.{none_past}
use Rattle.plain_world.specs.declared.world.Window.{Window}
use Rattle.plain_drawing.specs.declared.style.FilterMode.{FilterMode}
use Rattle.plain_drawing.specs.declared.style.FilterMode.TheVariants.{All, First}
use Rattle.plain_drawing.specs.Styles.{Rule, Style}
use Rattle.plain_shapes.specs.Images.{Pixels}
use Rattle.plain_drawing.specs.Rules.{at_scale, filter_holds, matches, is_fallback, first_or_all, drawing_rules}
use Rattle.plain_drawing.specs.Drawing.{Item, item_attrs}
use Rattle.plain_drawing.specs.inner.Pictures.{with_symbolizer, with_item}
use Rattle.tile_render.specs.inner.Chosen.{takes, with_rule, with_chosen}

chosen_by : (b : Bool) (w : Window) (item : Item) (p : Rule → Bool) (r : Rule) (rules : List Rule) (image : Pixels)
    → fold (with_symbolizer w item) (if b then with_rule w item image r else image) (flat_map (λ r. r.symbolizers) (filter p rules))
    ≡ fold (with_symbolizer w item) image (flat_map (λ r. r.symbolizers) (cond b (r ∷ filter p rules) (filter p rules)))
unfolding with_rule
chosen_by true w item p r rules image = sym (fold-append (with_symbolizer w item) image r.symbolizers (flat_map (λ r. r.symbolizers) (filter p rules)))
chosen_by false w item p r rules image = refl

-- the chosen rules one after another
chosen_all : (w : Window) (item : Item) (p : Rule → Bool) (rules : List Rule) (image : Pixels)
    → fold (with_chosen w item p) image rules ≡ fold (with_symbolizer w item) image (flat_map (λ r. r.symbolizers) (filter p rules))
unfolding with_chosen
chosen_all w item p [] image = refl
chosen_all w item p (r ∷ rules) image = chosen_all w item p rules (with_chosen w item p image r) ∙ chosen_by (p r) w item p r rules image

-- the first rule that matches, and those behind it
split_first : {X : Type 0} (p : X → Bool) (xs : List X) (k : ℕ) (d : X) → k < length xs → p (get_or xs k d) ≡ true → ((j : ℕ) → j < k → p (get_or xs j d) ≡ false)
    → filter p xs ≡ get_or xs k d ∷ filter p (drop (suc k) xs)
split_first p [] k d h on off = absurd (omega arith)
split_first p (x ∷ xs) zero d h on off = ap (λ b. cond b (x ∷ filter p xs) (filter p xs)) on
split_first p (x ∷ xs) (suc k) d h on off =
    let before : p x ≡ false = off 0 (omega arith) in
    ap (λ b. cond b (x ∷ filter p xs) (filter p xs)) before ∙ split_first p xs k d (omega arith) on (λ j low. off (suc j) (omega arith))

-- where a first one matches
pub record FirstMatch (p : Rule → Bool) (rules : List Rule) (r : Rule) (rest : List Rule) : Type 0 where
  pub any : list_any p rules ≡ true
  pub split : filter p rules ≡ r ∷ filter p rest

pub first_at : (p : Rule → Bool) (rules : List Rule) (k : ℕ) (r : Rule) (rest : List Rule) → Some k ≡ position p rules → r ≡ get_or rules k r → rest ≡ drop (k + 1) rules
    → FirstMatch p rules r rest
first_at p rules k r rest found is behind =
    let facts = position-Some p rules k r (sym found) in
    let e : suc k ≡ k + 1 = omega arith in
    record {
      any = list_any_at p rules k r facts.0 facts.1;
      split = split_first p rules k r facts.0 facts.1 facts.2 ∙ ap (λ q. q ∷ filter p (drop (suc k) rules)) (sym is)
          ∙ ap (λ n. r ∷ filter p (drop n rules)) e ∙ ap (λ rs. r ∷ filter p rs) (sym behind);
    }

-- the rules behind a place, as the code takes them
pub rules_behind : {X : Type 0} (xs ys : List X) (n : ℕ) → xs ≡ ys → take (length xs - n) (drop n xs) ≡ drop n ys
rules_behind xs ys n same = take_all (length xs - n) (drop n xs) (omega (arith, length-drop n xs)) ∙ ap (drop n) same

-- where none matches
pub no_match : (p : Rule → Bool) (rules : List Rule) → None ≡ position p rules → list_any p rules ≡ false
no_match p rules none =
    let n : ℕ = position_or_len p rules in
    let past : length rules ≤ n = ltb-false n (length rules) (none_past (nat_lt n (length rules)) n (sym none)) in
    list_any_none p rules (λ k d h. not-true (p (get_or rules k d)) (prefix_len_passes (λ r. not (p r)) rules k d (omega (arith, h, past))))

-- ---- the rules at scale are all that a style draws with

filter_both : {X : Type 0} (p q s : X → Bool) → ((x : X) → s x ≡ (p x && q x)) → (xs : List X) → filter s xs ≡ filter q (filter p xs)
filter_both p q s same [] = refl
filter_both p q s same (x ∷ xs) = ap (λ b. cond b (x ∷ filter s xs) (filter s xs)) (same x) ∙ go (p x) (filter_both p q s same xs)
  where
    go : (b : Bool) → filter s xs ≡ filter q (filter p xs) → cond (b && q x) (x ∷ filter s xs) (filter s xs) ≡ filter q (cond b (x ∷ filter p xs) (filter p xs))
    go true ih = ap (λ ys. cond (q x) (x ∷ ys) ys) ih
    go false ih = ih

any_both : {X : Type 0} (p q s : X → Bool) → ((x : X) → s x ≡ (p x && q x)) → (xs : List X) → list_any s xs ≡ list_any q (filter p xs)
any_both p q s same [] = refl
any_both p q s same (x ∷ xs) = ap (λ b. b || list_any s xs) (same x) ∙ go (p x) (any_both p q s same xs)
  where
    go : (b : Bool) → list_any s xs ≡ list_any q (filter p xs) → ((b && q x) || list_any s xs) ≡ list_any q (cond b (x ∷ filter p xs) (filter p xs))
    go true ih = ap (λ b. q x || b) ih
    go false ih = ih

matches_by : (attrs : List Attr) (d : ℕ) (r : Rule) → matches attrs d r ≡ (at_scale d r && takes attrs r)
matches_by attrs d r = go (at_scale d r)
  where
    go : (b : Bool) → (b && not r.else_filter && filter_holds attrs r.filter) ≡ (b && (not r.else_filter && filter_holds attrs r.filter))
    go true = refl
    go false = refl

-- what the rules at scale draw on attributes
abbrev pub taken_of : List Attr → Style → List Rule → List Rule
taken_of attrs s rules =
    if list_any (takes attrs) rules then first_or_all s.filter_mode (filter (takes attrs) rules) else filter (λ r. r.else_filter) rules

pub drawing_active : (attrs : List Attr) (d : ℕ) (s : Style) (rules : List Rule) → rules ≡ filter (at_scale d) s.rules → taken_of attrs s rules ≡ drawing_rules attrs d s
drawing_active attrs d s rules active =
    ap (taken_of attrs s) active
    ∙ ap (λ b. if b then first_or_all s.filter_mode (filter (takes attrs) (filter (at_scale d) s.rules)) else filter (λ r. r.else_filter) (filter (at_scale d) s.rules))
    (sym (any_both (at_scale d) (takes attrs) (matches attrs d) (matches_by attrs d) s.rules))
    ∙ ap (λ rs. if list_any (matches attrs d) s.rules then first_or_all s.filter_mode rs else filter (λ r. r.else_filter) (filter (at_scale d) s.rules))
    (sym (filter_both (at_scale d) (takes attrs) (matches attrs d) (matches_by attrs d) s.rules))
    ∙ ap (λ rs. if list_any (matches attrs d) s.rules then first_or_all s.filter_mode (filter (matches attrs d) s.rules) else rs)
    (sym (filter_both (at_scale d) (λ r. r.else_filter) (is_fallback d) (λ r. refl) s.rules))

pub active_item : (w : Window) (d : ℕ) (s : Style) (rules : List Rule) (item : Item) (image : Pixels) → rules ≡ filter (at_scale d) s.rules
    → fold (with_symbolizer w item) image (flat_map (λ r. r.symbolizers) (taken_of (item_attrs item) s rules)) ≡ with_item w d s image item
unfolding with_item
active_item w d s rules item image active =
    ap (λ rs. fold (with_symbolizer w item) image (flat_map (λ r. r.symbolizers) rs)) (drawing_active (item_attrs item) d s rules active)

-- a style without a rule at scale draws nothing
pub none_drawn : (w : Window) (d : ℕ) (s : Style) (rules : List Rule) (image : Pixels) (items : List Item) → rules ≡ filter (at_scale d) s.rules → rules ≡ []
    → fold (with_item w d s) image items ≡ image
none_drawn w d s rules image [] active none = refl
none_drawn w d s rules image (item ∷ items) active none =
    ap (λ i. fold (with_item w d s) i items)
    (sym (active_item w d s rules item image active) ∙ ap (λ rs. fold (with_symbolizer w item) image (flat_map (λ r. r.symbolizers) (taken_of (item_attrs item) s rs))) none)
    ∙ none_drawn w d s rules image items active none

pub no_items : {X : Type 0} (xs : List X) → (length xs == 0) ≡ true → xs ≡ []
no_items [] none = refl
no_items (x ∷ xs) none = (let e : length (x ∷ xs) ≡ 0 = eqb-true (length (x ∷ xs)) 0 none in absurd (omega (arith, e)))

-- what is drawn where some Filter rule matches
some_taken : (w : Window) (d : ℕ) (s : Style) (rules : List Rule) (item : Item) (image : Pixels) (mode : FilterMode) → rules ≡ filter (at_scale d) s.rules
    → list_any (takes (item_attrs item)) rules ≡ true → s.filter_mode ≡ mode
    → fold (with_symbolizer w item) image (flat_map (λ r. r.symbolizers) (first_or_all mode (filter (takes (item_attrs item)) rules))) ≡ with_item w d s image item
some_taken w d s rules item image mode active any is =
    ap (λ m. fold (with_symbolizer w item) image (flat_map (λ r. r.symbolizers) (first_or_all m (filter (takes (item_attrs item)) rules)))) (sym is)
    ∙ ap (λ b. fold (with_symbolizer w item) image (flat_map (λ r. r.symbolizers)
    (if b then first_or_all s.filter_mode (filter (takes (item_attrs item)) rules) else filter (λ r. r.else_filter) rules))) (sym any)
    ∙ active_item w d s rules item image active

-- the rule and all that match behind it
pub all_drawn : (w : Window) (d : ℕ) (s : Style) (rules : List Rule) (item : Item) (image after : Pixels) (r : Rule) (rest : List Rule) → rules ≡ filter (at_scale d) s.rules
    → FirstMatch (takes (item_attrs item)) rules r rest → s.filter_mode ≡ All → after ≡ with_rule w item image r
    → fold (with_chosen w item (takes (item_attrs item))) after rest ≡ with_item w d s image item
unfolding with_rule
all_drawn w d s rules item image after r rest active first mode drawn =
    let p = takes (item_attrs item) in
    chosen_all w item p rest after
    ∙ ap (λ i. fold (with_symbolizer w item) i (flat_map (λ r. r.symbolizers) (filter p rest))) drawn
    ∙ sym (fold-append (with_symbolizer w item) image r.symbolizers (flat_map (λ r. r.symbolizers) (filter p rest)))
    ∙ ap (λ rs. fold (with_symbolizer w item) image (flat_map (λ r. r.symbolizers) rs)) (sym first.split)
    ∙ some_taken w d s rules item image All active first.any mode

-- the rule alone
pub first_drawn : (w : Window) (d : ℕ) (s : Style) (rules : List Rule) (item : Item) (image after : Pixels) (r : Rule) (rest : List Rule) → rules ≡ filter (at_scale d) s.rules
    → FirstMatch (takes (item_attrs item)) rules r rest → s.filter_mode ≡ First → after ≡ with_rule w item image r
    → after ≡ with_item w d s image item
unfolding with_rule
first_drawn w d s rules item image after r rest active first mode drawn =
    drawn
    ∙ sym (fold-append (with_symbolizer w item) image r.symbolizers [])
    ∙ ap (λ rs. fold (with_symbolizer w item) image (flat_map (λ r. r.symbolizers) (take 1 rs))) (sym first.split)
    ∙ some_taken w d s rules item image First active first.any mode

-- the ElseFilter rules
pub fallbacks_drawn : (w : Window) (d : ℕ) (s : Style) (rules : List Rule) (item : Item) (image : Pixels) → rules ≡ filter (at_scale d) s.rules
    → list_any (takes (item_attrs item)) rules ≡ false
    → fold (with_chosen w item (λ r. r.else_filter)) image rules ≡ with_item w d s image item
fallbacks_drawn w d s rules item image active none =
    chosen_all w item (λ r. r.else_filter) rules image
    ∙ ap (λ b. fold (with_symbolizer w item) image (flat_map (λ r. r.symbolizers)
    (if b then first_or_all s.filter_mode (filter (takes (item_attrs item)) rules) else filter (λ r. r.else_filter) rules))) (sym none)
    ∙ active_item w d s rules item image active

-- ---- rules by reference

-- one more that does not pass
pub still_none : {X : Type 0} (p : X → Bool) (xs : List X) (n : ℕ) (d : X) → n < length xs → n ≤ position_or_len p xs → p (get_or xs n d) ≡ false → n + 1 ≤ position_or_len p xs
still_none p [] n d h le off = absurd (omega arith)
still_none p (x ∷ xs) zero d h le off = subst (λ b. 0 + 1 ≤ cond (not b) (1 + position_or_len p xs) 0) (sym off) (omega arith)
still_none p (x ∷ xs) (suc n) d h le off = go (p x) le (λ more. still_none p xs n d (omega arith) more off)
  where
    go : (b : Bool) → suc n ≤ cond (not b) (1 + position_or_len p xs) 0 → (n ≤ position_or_len p xs → n + 1 ≤ position_or_len p xs) → suc n + 1 ≤ cond (not b) (1 + position_or_len p xs) 0
    go true more later = absurd (omega arith)
    go false more later = (let e : n + 1 ≤ position_or_len p xs = later (omega arith) in omega arith)

first_passes : {X : Type 0} (p : X → Bool) (xs : List X) (n : ℕ) (d : X) → n < length xs → n ≤ position_or_len p xs → p (get_or xs n d) ≡ true → position_or_len p xs ≡ n
first_passes p [] n d h le on = absurd (omega arith)
first_passes p (x ∷ xs) zero d h le on = ap (λ b. cond (not b) (1 + position_or_len p xs) 0) on
first_passes p (x ∷ xs) (suc n) d h le on = go (p x) le (λ more. first_passes p xs n d (omega arith) more on)
  where
    go : (b : Bool) → suc n ≤ cond (not b) (1 + position_or_len p xs) 0 → (n ≤ position_or_len p xs → position_or_len p xs ≡ n) → cond (not b) (1 + position_or_len p xs) 0 ≡ suc n
    go true more later = absurd (omega arith)
    go false more later = ap (λ m. 1 + m) (later (omega arith)) ∙ (let e : 1 + n ≡ suc n = omega arith in e)

-- the first that passes, and none
pub found_there : {X : Type 0} (p : X → Bool) (xs : List X) (n : ℕ) (d : X) → n < length xs → n ≤ position_or_len p xs → p (get_or xs n d) ≡ true → Some n ≡ position p xs
found_there p xs n d h le on =
    sym (ap (λ m. cond (nat_lt m (length xs)) (Some m) None) (first_passes p xs n d h le on) ∙ ap (λ b. cond b (Some n) None) (lt-ltb n (length xs) h))

pub found_none : {X : Type 0} (p : X → Bool) (xs : List X) → length xs ≤ position_or_len p xs → None ≡ position p xs
found_none p xs past = sym (ap (λ b. cond b (Some (position_or_len p xs)) None) (le-ltb (position_or_len p xs) (length xs) past))

-- the first of the rules that references name, and those behind it
pub named_first : {X : Type 0} (f : X → Rule) (p : Rule → Bool) (bs : List X) (k : ℕ) (b : X) → Some k ≡ position p (map f bs) → b ≡ get_or bs k b
    → FirstMatch p (map f bs) (f b) (map f (take (length bs - (k + 1)) (drop (k + 1) bs)))
named_first f p bs k b found is =
    let facts = position-Some p (map f bs) k (f b) (sym found) in
    let low : k < length bs = omega (arith, facts.0, length-map bs f) in
    first_at p (map f bs) k (f b) (map f (take (length bs - (k + 1)) (drop (k + 1) bs))) found (ap f is ∙ sym (get_or-map f bs k b (f b) low))
    (ap (map f) (rules_behind bs bs (k + 1) refl) ∙ sym (drop-map f (k + 1) bs))

-- one rule more of a loop: one that is not chosen, and one that is
pub rule_passed : (w : Window) (item : Item) (p : Rule → Bool) (rules : List Rule) (i : ℕ) (r : Rule) (start now : Pixels) → i < length rules → r ≡ get_or rules i r → p r ≡ false
    → now ≡ fold (with_chosen w item p) start (take i rules) → now ≡ fold (with_chosen w item p) start (take (i + 1) rules)
unfolding with_chosen
rule_passed w item p rules i r start now within is off so_far =
    ap (λ b. if b then with_rule w item now r else now) (sym off) ∙ ap (λ m. with_chosen w item p m r) so_far
    ∙ ap (with_chosen w item p (fold (with_chosen w item p) start (take i rules))) is ∙ sym (fold_more (with_chosen w item p) start rules i r within)

pub rule_drawn : (w v : Window) (item : Item) (p : Rule → Bool) (rules : List Rule) (i : ℕ) (r : Rule) (start now next : Pixels) → i < length rules → r ≡ get_or rules i r → p r ≡ true
    → v ≡ w → now ≡ fold (with_chosen w item p) start (take i rules) → next ≡ with_rule v item now r → next ≡ fold (with_chosen w item p) start (take (i + 1) rules)
unfolding with_chosen
rule_drawn w v item p rules i r start now next within is on same so_far step =
    step ∙ ap (λ u. with_rule u item now r) same ∙ ap (λ b. if b then with_rule w item now r else now) (sym on) ∙ ap (λ m. with_chosen w item p m r) so_far
    ∙ ap (with_chosen w item p (fold (with_chosen w item p) start (take i rules))) is ∙ sym (fold_more (with_chosen w item p) start rules i r within)
