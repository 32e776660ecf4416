-- What the updates and the styles of a history were, and what a clean key says of those after its Claim.
use Rattle.std.proofs.Common.{◌≡◌, ℕ, zero, suc, ◌<◌, Bool, true, false, cond, ◌==◌, nat_lt, List, [], ◌∷◌, ◌++◌, length, map, slice_get, Option, Some, None, refl, sym, ap, ◌∙◌, subst, arith, append_assoc, append-nil, length-append}
use Rattle.std.proofs.lemmas.List.{map-append}
use Rattle.std.proofs.lemmas.Bool.Decides.{nat_tests}
use Rattle.farm_history.specs.declared.keys.Key.{Key}
use Rattle.farm_history.specs.declared.saved.Past.{Past}
use Rattle.farm_history.specs.declared.answers.ClaimAnswer.TheVariants.{Job}
use Rattle.farm_history.specs.declared.answers.Updated.{Updated}
use Rattle.farm_history.specs.declared.answers.Renewed.{Renewed}
use Rattle.farm_history.specs.declared.answers.Restyled.TheVariants.{Styled}
use Rattle.farm_history.specs.Entries.{Entry, Claim, Update, Renew, Restyle}
use Rattle.farm_history.specs.Plans.{Plan, holds, is_style_of}
use Rattle.farm_history.specs.Past.{data_after, version, style_after, shown, touches, is_touched_after}
use Rattle.farm_history.specs.Rules.{Fits, Legal}
use Rattle.farm_history.specs.Replays.{changes_after, past_number}
use Rattle.farm_history.proofs.Sounds.{shown_drawn}

-- the data are the numbers of the changes
pub data_changes : (h : List Entry) → data_after h ≡ map past_number (changes_after h)
unfolding data_after changes_after
data_changes [] = refl
data_changes (Update n (Updated.Version v) ∷ g) = ap (λ xs. xs ++ n ∷ []) (data_changes g) ∙ sym (map-append past_number (changes_after g) (Past.Update n ∷ []))
data_changes (Update n _ ∷ g) = data_changes g
data_changes (Renew n (Renewed.Version v count) ∷ g) = ap (λ xs. xs ++ n ∷ []) (data_changes g) ∙ sym (map-append past_number (changes_after g) (Past.Renew n ∷ []))
data_changes (Renew n _ ∷ g) = data_changes g
data_changes (_ ∷ g) = data_changes g

-- P holds of each change and of the data before it
abbrev pub Along : (List ℕ → Past → Type 0) → List ℕ → List Past → Type 0
Along P known [] = Unit {0}
Along P known (c ∷ cs) = P known c × Along P (known ++ past_number c ∷ []) cs

pub along-append : (P : List ℕ → Past → Type 0) (known : List ℕ) (cs : List Past) (c : Past) → Along P known cs → P (known ++ map past_number cs) c → Along P known (cs ++ c ∷ [])
along-append P known [] c along here = (subst (λ xs. P xs c) (append-nil known) here, tt)
along-append P known (d ∷ cs) c along here =
    (along.0, along-append P (known ++ past_number d ∷ []) cs c along.1 (subst (λ xs. P xs c) (sym (append_assoc known (past_number d ∷ []) (map past_number cs))) here))

-- Changes that fit.

-- the table has the change's update, and it has no fault over the data
pub record ChangeFits (p : Plan) (known : List ℕ) (c : Past) : Type 0 where
  pub in_table : past_number c < p.updates
  pub no_fault : p.fault known (past_number c) ≡ None

pub changes_fit : (p : Plan) (told : Bool) (h : List Entry) → Legal p told h → Along (ChangeFits p) [] (changes_after h)
unfolding Fits changes_after
changes_fit p told [] legal = tt
changes_fit p told (Update n (Updated.Version v) ∷ g) legal =
    along-append (ChangeFits p) [] (changes_after g) (Past.Update n) (changes_fit p told g legal.1) (record { in_table = legal.0.0; no_fault = ap (λ d. p.fault d n) (sym (data_changes g)) ∙ legal.0.1 })
changes_fit p told (Update n _ ∷ g) legal = changes_fit p told g legal.1
changes_fit p told (Renew n (Renewed.Version v count) ∷ g) legal =
    along-append (ChangeFits p) [] (changes_after g) (Past.Renew n) (changes_fit p told g legal.1) (record { in_table = legal.0.0; no_fault = ap (λ d. p.fault d n) (sym (data_changes g)) ∙ legal.0.1 })
changes_fit p told (Renew n _ ∷ g) legal = changes_fit p told g legal.1
changes_fit p told (_ ∷ g) legal = changes_fit p told g legal.1

-- Changes that do not reach a key.

abbrev pub Passes : Plan → Key → List ℕ → Past → Type 0
Passes p k known (Past.Update n) = Unit {0}
Passes p k known (Past.Renew n) = p.reaches known n k ≡ false

-- the changes after a place at which nothing touches the key since, and the style of its map
pub record IsSince (p : Plan) (k : Key) (h before : List Entry) : Type 0 where
  pub later : List Past
  pub changes_are : changes_after h ≡ changes_after before ++ later
  pub passed : Along (Passes p k) (data_after before) later
  pub same_style : style_after p h k.map ≡ style_after p before k.map

since_none : (p : Plan) (k : Key) (before : List Entry) → IsSince p k before before
since_none p k before = record { later = []; changes_are = sym (append-nil (changes_after before)); passed = tt; same_style = refl }

data_since : (p : Plan) (k : Key) (h before : List Entry) (s : IsSince p k h before) → data_after h ≡ data_after before ++ map past_number s.later
data_since p k h before s = data_changes h ∙ (ap (map past_number) s.changes_are ∙ (map-append past_number (changes_after before) s.later ∙ ap (λ xs. xs ++ map past_number s.later) (sym (data_changes before))))

since_step : (p : Plan) (k : Key) (e : Entry) (g before : List Entry) → touches p g e k ≡ false → IsSince p k g before → IsSince p k (e ∷ g) before
unfolding changes_after style_after
since_step p k (Update n (Updated.Version v)) g before quiet s = record {
  later = s.later ++ Past.Update n ∷ [];
  changes_are = ap (λ xs. xs ++ Past.Update n ∷ []) s.changes_are ∙ append_assoc (changes_after before) s.later _;
  passed = along-append (Passes p k) (data_after before) s.later (Past.Update n) s.passed tt;
  same_style = s.same_style;
}
since_step p k (Update n _) g before quiet s = record { later = s.later; changes_are = s.changes_are; passed = s.passed; same_style = s.same_style }
since_step p k (Renew n (Renewed.Version v count)) g before quiet s = record {
  later = s.later ++ Past.Renew n ∷ [];
  changes_are = ap (λ xs. xs ++ Past.Renew n ∷ []) s.changes_are ∙ append_assoc (changes_after before) s.later _;
  passed = along-append (Passes p k) (data_after before) s.later (Past.Renew n) s.passed (sym (ap (λ d. p.reaches d n k) (data_since p k g before s)) ∙ quiet);
  same_style = s.same_style;
}
since_step p k (Renew n _) g before quiet s = record { later = s.later; changes_are = s.changes_are; passed = s.passed; same_style = s.same_style }
since_step p k (Restyle n (Styled count)) g before quiet s = record {
  later = s.later;
  changes_are = s.changes_are;
  passed = s.passed;
  same_style = ap (λ b. cond b (Some n) (style_after p g k.map)) quiet ∙ s.same_style;
}
since_step p k (Restyle n _) g before quiet s = record { later = s.later; changes_are = s.changes_are; passed = s.passed; same_style = s.same_style }
since_step p k _ g before quiet s = record { later = s.later; changes_are = s.changes_are; passed = s.passed; same_style = s.same_style }

since_untouched : (p : Plan) (k : Key) (place : ℕ) (since before : List Entry) → place < length before → is_touched_after p (since ++ before) place k ≡ false → IsSince p k (since ++ before) before
unfolding is_touched_after
since_untouched p k place [] before lt quiet = since_none p k before
since_untouched p k place (e ∷ since) before lt quiet =
    let later : nat_lt place (length (since ++ before)) ≡ true = let long = length-append since before in let far : place < length (since ++ before) = omega arith in grind (arith, nat_tests) in
    since_step p k e (since ++ before) before (grind arith) (since_untouched p k place since before lt (grind arith))

since_claim : (p : Plan) (k : Key) (h : List Entry) (worker ticket v : ℕ) (j : Key) (before : List Entry) → IsSince p k h (Claim worker (Job ticket j v) ∷ before) → IsSince p k h before
unfolding changes_after style_after data_after
since_claim p k h worker ticket v j before s = record { later = s.later; changes_are = s.changes_are; passed = s.passed; same_style = s.same_style }

-- of a clean key: since the Claim of what is shown
pub clean_since : (p : Plan) (told : Bool) (h : List Entry) (k : Key) (before : List Entry) → Legal p told h → shown h k ≡ Some before → is_touched_after p h (length before) k ≡ false → IsSince p k h before
clean_since p told h k before legal is quiet =
    let d = shown_drawn p told h k before legal is in
    let at = rw d.is_claim at quiet in
    subst (λ (x : List Entry). IsSince p k x before) (sym d.is_claim) (since_claim p k _ d.worker d.ticket (version before) k before (since_untouched p k (length before) d.since (Claim d.worker (Job d.ticket k (version before)) ∷ before) (omega arith) at))

-- Styles.

-- a map's style is one of the table that is the map's
pub style_fits : (p : Plan) (h : List Entry) (m n : ℕ) → style_after p h m ≡ Some n → is_style_of p n m ≡ true
unfolding style_after
style_fits p [] m n h = cc
style_fits p (Restyle k (Styled count) ∷ g) m n h = go (is_style_of p k m) refl (style_fits p g m n) h
  where
    go : (b : Bool) → is_style_of p k m ≡ b → (style_after p g m ≡ Some n → is_style_of p n m ≡ true) → cond b (Some k) (style_after p g m) ≡ Some n → is_style_of p n m ≡ true
    go true is ih h = let same : k ≡ n = cc in subst (λ x. is_style_of p x m ≡ true) same is
    go false is ih h = ih h
style_fits p (_ ∷ g) m n h = style_fits p g m n h

-- a style is of one map alone, and its number is in the table
pub style_alone : (p : Plan) (n m j : ℕ) → is_style_of p n m ≡ true → is_style_of p n j ≡ (m == j)
unfolding is_style_of
style_alone p n m j h = go (slice_get p.restyles n) h
  where
    go : (o : Option ℕ) → holds o m ≡ true → holds o j ≡ (m == j)
    go None h = cc
    go (Some x) h = let same : x ≡ m = grind (arith, nat_tests) in ap (λ y. y == j) same

pub in_list : {X : Type 0} (xs : List X) (n : ℕ) (x : X) → slice_get xs n ≡ Some x → n < length xs
in_list [] n x h = cc
in_list (y ∷ ys) zero x h = omega arith
in_list (y ∷ ys) (suc n) x h = let lt = in_list ys n x h in omega arith

pub style_in_table : (p : Plan) (n m : ℕ) → is_style_of p n m ≡ true → n < length p.restyles
unfolding is_style_of
style_in_table p n m h = go (slice_get p.restyles n) refl h
  where
    go : (o : Option ℕ) → slice_get p.restyles n ≡ o → holds o m ≡ true → n < length p.restyles
    go None is h = cc
    go (Some x) is h = in_list p.restyles n x is
