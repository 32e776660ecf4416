-- What an update does not name stays: for a test that fails at all that it names, each layer has after the update the same features that pass.
use Rattle.std.proofs.Common.{◌≡◌, ℕ, ◌+◌, Bool, true, false, ◌&&◌, ◌||◌, not, cond, nat_eq, List, [], ◌∷◌, ◌++◌, filter, find, Option, Some, None, refl, sym, ap, ◌∙◌, arith}
use Rattle.std.specs.Prelude.{Ok, Err, option_map, unwrap_or}
use Rattle.std.specs.Str.{bytes_eq}
use Rattle.std.proofs.lemmas.Bool.Decides.{nat_tests}
use Rattle.farm_base.specs.declared.faults.ApplyFault.{ApplyFault}
use Rattle.plain_shapes.specs.Features.{Feature, Layer}
use Rattle.plain_shapes.specs.Data.{Change, has_id, ids_of, without_ids, last_put, puts_in_place, put_features, with_change, changed_layer, layers_after, change_fault, unless_refused, changed_from, update_result}
use Rattle.farm_history.specs.Lists.{Each}
use Rattle.farm_history.proofs.Lists.{each-join, each-over, each-filter, each-map, filter-append, filter-agree, filter-filter, filter-none}
use Rattle.farm_plan.specs.Drawings.{features_in, names_id, named_by, named}

-- ---- one layer's features

-- what all puts and the other keep is kept by the last put
last_put_each : (P : Feature → Type 0) (puts : List Feature) (id : ℕ) (other : Feature) → Each P puts → P other → P (last_put puts id other)
last_put_each P [] id other each here = here
last_put_each P (f ∷ later) id other each here = go (nat_eq f.id id) (last_put_each P later id f each.1 each.0) (last_put_each P later id other each.1 here)
  where
    go : (b : Bool) → P (last_put later id f) → P (last_put later id other) → P (cond b (last_put later id f) (last_put later id other))
    go true x y = x
    go false x y = y

-- an id that no put has leaves the other
last_put_none : (puts : List Feature) (id : ℕ) (other : Feature) → has_id (ids_of puts) id ≡ false → last_put puts id other ≡ other
last_put_none [] id other h = refl
last_put_none (f ∷ later) id other h =
    let apart : nat_eq f.id id ≡ false = grind (arith, nat_tests) in
    let rest : has_id (ids_of later) id ≡ false = grind arith in
    ap (λ b. cond b (last_put later id f) (last_put later id other)) apart ∙ last_put_none later id other rest

added_each : (P : Feature → Type 0) (held : List ℕ) (puts : List Feature) → Each P puts → Each P (put_features held puts)
added_each P held [] each = tt
added_each P held (f ∷ later) each =
    go (has_id held f.id) (added_each P held later each.1) (last_put_each P later f.id f each.1 each.0, added_each P (f.id ∷ held) later each.1)
  where
    go : (b : Bool) → Each P (put_features held later) → Each P (last_put later f.id f ∷ put_features (f.id ∷ held) later) →
        Each P (cond b (put_features held later) (last_put later f.id f ∷ put_features (f.id ∷ held) later))
    go true x y = x
    go false x y = y

-- what all of a layer's features and all puts of a change keep is kept by the layer after it
pub change_each : (P : Feature → Type 0) (c : Change) (features : List Feature) → Each P features → Each P c.put → Each P (with_change c features)
change_each P c features old puts =
    each-join P (puts_in_place c.put (without_ids c.remove features)) (put_features (ids_of (without_ids c.remove features)) c.put)
    (each-over (λ f. last_put c.put f.id f) P P (without_ids c.remove features) (λ f h. last_put_each P c.put f.id f puts h) (each-filter P (λ f. not (has_id c.remove f.id)) features old))
    (added_each P (ids_of (without_ids c.remove features)) c.put puts)

-- the test fails at each of the features that the change names, and at each that it puts
pub record IsOff (q : Feature → Bool) (features : List Feature) (c : Change) : Type 0 where
  pub old : Each (λ f. names_id c f.id ≡ true → q f ≡ false) features
  pub puts : Each (λ f. q f ≡ false) c.put

kept_same : (q : Feature → Bool) (c : Change) (features : List Feature) → Each (λ f. names_id c f.id ≡ true → q f ≡ false) features → filter q (without_ids c.remove features) ≡ filter q features
kept_same q c features off =
    filter-filter q (λ f. not (has_id c.remove f.id)) features
    ∙ filter-agree (λ f. not (has_id c.remove f.id) && q f) q features
    (each-map (λ f. names_id c f.id ≡ true → q f ≡ false) (λ f. (not (has_id c.remove f.id) && q f) ≡ q f) features (λ f h. go (has_id c.remove f.id) (has_id (ids_of c.put) f.id) (q f) h) off)
  where
    go : (a b d : Bool) → (a || b ≡ true → d ≡ false) → (not a && d) ≡ d
    go true b d h = sym (h refl)
    go false b d h = refl

replaced_same : (q : Feature → Bool) (c : Change) (features : List Feature) → Each (λ f. names_id c f.id ≡ true → q f ≡ false) features → Each (λ f. q f ≡ false) c.put → filter q (puts_in_place c.put features) ≡ filter q features
replaced_same q c [] off puts = refl
replaced_same q c (f ∷ fs) off puts = go (has_id (ids_of c.put) f.id) refl (replaced_same q c fs off.1 puts)
  where
    named_put : has_id (ids_of c.put) f.id ≡ true → q f ≡ false
    named_put h = off.0 (grind arith)

    go : (b : Bool) → has_id (ids_of c.put) f.id ≡ b → filter q (puts_in_place c.put fs) ≡ filter q fs → filter q (last_put c.put f.id f ∷ puts_in_place c.put fs) ≡ filter q (f ∷ fs)
    go true is ih =
        let new : q (last_put c.put f.id f) ≡ false = last_put_each (λ x. q x ≡ false) c.put f.id f puts (named_put is) in
        ap (λ b. cond b (last_put c.put f.id f ∷ filter q (puts_in_place c.put fs)) (filter q (puts_in_place c.put fs))) new
        ∙ ih ∙ sym (ap (λ b. cond b (f ∷ filter q fs) (filter q fs)) (named_put is))
    go false is ih =
        ap (λ x. filter q (x ∷ puts_in_place c.put fs)) (last_put_none c.put f.id f is)
        ∙ ap (λ zs. cond (q f) (f ∷ zs) zs) ih

-- a layer has after a change the same features that pass a test which fails at all that the change names
pub change_same : (q : Feature → Bool) (c : Change) (features : List Feature) → IsOff q features c → filter q (with_change c features) ≡ filter q features
change_same q c features off =
    filter-append q (puts_in_place c.put (without_ids c.remove features)) (put_features (ids_of (without_ids c.remove features)) c.put)
    ∙ ap (λ zs. filter q (puts_in_place c.put (without_ids c.remove features)) ++ zs) (filter-none q _ (added_each (λ f. q f ≡ false) (ids_of (without_ids c.remove features)) c.put off.puts))
    ∙ no_more (filter q (puts_in_place c.put (without_ids c.remove features)))
    ∙ replaced_same q c (without_ids c.remove features) (each-filter (λ f. names_id c f.id ≡ true → q f ≡ false) (λ f. not (has_id c.remove f.id)) features off.old) off.puts
    ∙ kept_same q c features off.old
  where
    no_more : (xs : List Feature) → xs ++ [] ≡ xs
    no_more [] = refl
    no_more (x ∷ xs) = ap (λ ys. x ∷ ys) (no_more xs)

-- ---- layers by their names

-- the features of the first of two layers, or of a later one
abbrev picked : Bool → Layer → List Layer → List ℕ → List Feature
picked b l layers name = unwrap_or (option_map (λ k. k.features) (cond b (Some l) (find (λ k. bytes_eq k.name name) layers))) []

-- what holds between a layer and itself, and between the changed layer before and after, holds between each name's layer before and after
changed_in : (R : List Feature → List Feature → Type 0) (c : Change) (name : List ℕ) (layers : List Layer) → ((fs : List Feature) → R fs fs) →
    R (features_in layers c.layer) (with_change c (features_in layers c.layer)) → R (features_in layers name) (features_in (layers_after c layers) name)
changed_in R c name [] same step = same []
changed_in R c name (l ∷ ls) same step = go (bytes_eq l.name c.layer) (λ s. changed_in R c name ls same s) step
  where
    first : (b : Bool) → R l.features (with_change c l.features) → R (picked b l ls name) (picked b (changed_layer c l) ls name)
    first true s = s
    first false s = same (picked false l ls name)

    later : (b : Bool) → R (features_in ls name) (features_in (layers_after c ls) name) → R (picked b l ls name) (picked b l (layers_after c ls) name)
    later true s = same l.features
    later false s = s

    go : (b : Bool) → (R (features_in ls c.layer) (with_change c (features_in ls c.layer)) → R (features_in ls name) (features_in (layers_after c ls) name)) →
        R (picked b l ls c.layer) (with_change c (picked b l ls c.layer)) →
        R (features_in (l ∷ ls) name) (features_in (cond b (changed_layer c l ∷ ls) (l ∷ layers_after c ls)) name)
    go true ih s = first (bytes_eq l.name name) s
    go false ih s = later (bytes_eq l.name name) (ih s)

pub changed_each : (P : Feature → Type 0) (c : Change) (name : List ℕ) (layers : List Layer) → Each P c.put → Each P (features_in layers name) → Each P (features_in (layers_after c layers) name)
changed_each P c name layers puts old =
    changed_in (λ fs gs. Each P fs → Each P gs) c name layers (λ fs h. h) (λ h. change_each P c (features_in layers c.layer) h puts) old

pub changed_same : (q : Feature → Bool) (c : Change) (name : List ℕ) (layers : List Layer) → IsOff q (features_in layers c.layer) c → filter q (features_in (layers_after c layers) name) ≡ filter q (features_in layers name)
changed_same q c name layers off = changed_in (λ fs gs. filter q gs ≡ filter q fs) c name layers (λ fs. refl) (change_same q c (features_in layers c.layer) off)

-- ---- the changes of an update in order

-- of each change the test fails at all that it names over the data before the update
abbrev pub AreOff : (Feature → Bool) → List Layer → List Change → Type 0
AreOff q layers changes = Each (λ c. IsOff q (features_in layers c.layer) c) changes

-- a change whose puts fail the test brings in nothing that a later change could name and that passes
still_off : (q : Feature → Bool) (c : Change) (layers : List Layer) (later : List Change) → Each (λ f. q f ≡ false) c.put → AreOff q layers later → AreOff q (layers_after c layers) later
still_off q c layers later puts off =
    each-map (λ d. IsOff q (features_in layers d.layer) d) (λ d. IsOff q (features_in (layers_after c layers) d.layer) d) later
    (λ d o. record {
      old = changed_each (λ f. names_id d f.id ≡ true → q f ≡ false) c d.layer layers (each-map (λ f. q f ≡ false) (λ f. names_id d f.id ≡ true → q f ≡ false) c.put (λ f e named. e) puts) o.old;
      puts = o.puts;
    }) off

changed_from_same : (q : Feature → Bool) (place : ℕ) (changes : List Change) (layers new : List Layer) → changed_from place changes layers ≡ Ok new → AreOff q layers changes →
    (name : List ℕ) → filter q (features_in new name) ≡ filter q (features_in layers name)
unfolding changed_from
changed_from_same q place [] layers new is off name = let same : layers ≡ new = cc in ap (λ ls. filter q (features_in ls name)) (sym same)
changed_from_same q place (c ∷ later) layers new is off name =
    go (change_fault place c layers) is (λ e. changed_from_same q (place + 1) later (layers_after c layers) new e (still_off q c layers later off.0.puts off.1) name)
  where
    go : (o : Option ApplyFault) → unless_refused o (changed_from (place + 1) later (layers_after c layers)) ≡ Ok new →
        (changed_from (place + 1) later (layers_after c layers) ≡ Ok new → filter q (features_in new name) ≡ filter q (features_in (layers_after c layers) name)) →
        filter q (features_in new name) ≡ filter q (features_in layers name)
    go (Some fault) never ih = let e : Err fault ≡ Ok new = never in cc
    go None rest ih = ih rest ∙ changed_same q c name layers off.0

-- each layer has after an update the same features that pass a test which fails at all that the update names
pub updated_same : (q : Feature → Bool) (changes : List Change) (layers new : List Layer) → update_result changes layers ≡ Ok new → AreOff q layers changes →
    (name : List ℕ) → filter q (features_in new name) ≡ filter q (features_in layers name)
updated_same q changes layers new is off name = changed_from_same q 0 changes layers new is off name

-- ---- what an update names

-- what fails after a filter fails where the filter passes
off_filtered : (q r : Feature → Bool) (xs : List Feature) → Each (λ f. q f ≡ false) (filter r xs) → Each (λ f. r f ≡ true → q f ≡ false) xs
off_filtered q r [] each = tt
off_filtered q r (x ∷ xs) each = go (r x) refl each (λ e. off_filtered q r xs e)
  where
    go : (b : Bool) → r x ≡ b → Each (λ f. q f ≡ false) (cond b (x ∷ filter r xs) (filter r xs)) → (Each (λ f. q f ≡ false) (filter r xs) → Each (λ f. r f ≡ true → q f ≡ false) xs) →
        (r x ≡ true → q x ≡ false) × Each (λ f. r f ≡ true → q f ≡ false) xs
    go true is e ih = (λ h. e.0, ih e.1)
    go false is e ih = (λ h. let never : false ≡ true = sym is ∙ h in cc, ih e)

each_front : (P : Feature → Type 0) (xs ys : List Feature) → Each P (xs ++ ys) → Each P xs
each_front P [] ys e = tt
each_front P (x ∷ xs) ys e = (e.0, each_front P xs ys e.1)

each_back : (P : Feature → Type 0) (xs ys : List Feature) → Each P (xs ++ ys) → Each P ys
each_back P [] ys e = e
each_back P (x ∷ xs) ys e = each_back P xs ys e.1

-- a test that none of the named features passes fails at all that the update names
pub off_named : (q : Feature → Bool) (layers : List Layer) (changes : List Change) → Each (λ f. q f ≡ false) (named layers changes) → AreOff q layers changes
off_named q layers [] e = tt
off_named q layers (c ∷ later) e =
    let here = each_front (λ f. q f ≡ false) (named_by layers c) (named layers later) e in (
      record {
        old = off_filtered q (λ f. names_id c f.id) (features_in layers c.layer) (each_front (λ f. q f ≡ false) (filter (λ f. names_id c f.id) (features_in layers c.layer)) c.put here);
        puts = each_back (λ f. q f ≡ false) (filter (λ f. names_id c f.id) (features_in layers c.layer)) c.put here;
      },
      off_named q layers later (each_back (λ f. q f ≡ false) (named_by layers c) (named layers later) e),
    )
