-- The replay of what is saved of a legal history resumes it.
use Rattle.std.proofs.Common.{◌≡◌, ℕ, zero, suc, ◌+◌, ◌^◌, ◌<◌, ◌≤◌, Bool, true, false, not, ◌&&◌, ◌||◌, cond, ◌==◌, nat_lt, List, [], ◌∷◌, ◌++◌, length, map, count_by, slice_get, Option, Some, None, option_map, refl, sym, ap, ap₂, ◌∙◌, subst, arith, append_assoc, append-nil, length-append}
use Rattle.std.specs.List.{list_any, list_all}
use Rattle.std.proofs.lemmas.List.{map-append, length-map}
use Rattle.std.proofs.lemmas.Bool.Decides.{nat_tests}
use Rattle.farm_history.specs.declared.keys.Key.{Key}
use Rattle.farm_history.specs.declared.keys.Kept.{Kept}
use Rattle.farm_history.specs.declared.saved.Past.{Past}
use Rattle.farm_history.specs.declared.answers.Restyled.TheVariants.{Styled}
use Rattle.farm_history.specs.Entries.{Entry, Restyle}
use Rattle.farm_history.specs.Plans.{Plan, AreApart, same_key, is_servable, is_at_most, is_style_of}
use Rattle.farm_history.specs.Past.{is_stopped, data_after, version, style_after, flights, claimed_keys, shown, is_touched_after, is_fresh, is_clean, waiting, open_asks}
use Rattle.farm_history.specs.Rules.{Fits, Legal}
use Rattle.farm_history.specs.Replays.{changes_after, past_number, Saving, key_before, are_rising, kept_of, kept_version, version_if_fresh, IsSaved, replay_styles, replay_key, replay_keys, replay_change, replay_from, replay, IsCleanAgain, LawResumed}
use Rattle.farm_history.specs.Lists.{Each}
use Rattle.farm_history.proofs.Lists.{same_key-true, same_key-self, same_key-sym, each-map, each-both, none-each, find-any, find-passes}
use Rattle.farm_history.proofs.Keyed.{IsServed, shown_served}
use Rattle.farm_history.proofs.Since.{data_changes, Along, ChangeFits, changes_fit, Passes, IsSince, clean_since, style_fits, style_alone, style_in_table, in_list}
use Rattle.farm_history.proofs.Redrawn.{IsQuiet, before_again, redrawn_quiet, redrawn_shown, redrawn_other, redrawn_touched, redrawn_untouched, redrawn_data, redrawn_style, again_data, again_style}

-- lists that are equal and have equally long fronts have equal fronts
same_front : {X : Type 0} (xs ys us vs : List X) → xs ++ us ≡ ys ++ vs → length xs ≡ length ys → (xs ≡ ys) × (us ≡ vs)
same_front [] [] us vs e l = (refl, e)
same_front [] (y ∷ ys) us vs e l = absurd (omega arith)
same_front (x ∷ xs) [] us vs e l = absurd (omega arith)
same_front (x ∷ xs) (y ∷ ys) us vs e l =
    let head : x ≡ y = cc in
    let rest : xs ++ us ≡ ys ++ vs = cc in
    let less : length xs ≡ length ys = omega arith in
    let both = same_front xs ys us vs rest less in
    (ap₂ (λ a b. a ∷ b) head both.0, both.1)

abbrev kept_key : Kept → Key
kept_key x = x.key

-- whether one of the list is of the key
abbrev is_kept : List Kept → Key → Bool
is_kept xs k = list_any (λ x. same_key x.key k) xs

-- What a replay needs of one that is kept.
record IsGood (p : Plan) (s : Saving) (x : Kept) : Type 0 where
  served : IsServed p x.key
  has_map : x.key.map < length p.max_zooms
  own : kept_of s.clean x.key ≡ Some x
  first : List Past
  later : List Past
  split : s.updates ≡ first ++ later
  long : length first ≡ x.version
  passes : Along (Passes p x.key) (map past_number first) later

-- one that was drawn again, where the rest of the changes are still to come
record IsAgain (p : Plan) (s : Saving) (style : ℕ → Option ℕ) (g : List Entry) (rest : List Past) (k : Key) (x : Kept) : Type 0 where
  again : List Entry
  is_shown : shown g k ≡ Some again
  is_untouched : is_touched_after p g (length again) k ≡ false
  first : List Past
  later : List Past
  split : s.updates ≡ first ++ later
  long : length first ≡ x.version
  data_are : data_after again ≡ map past_number first
  style_is : style_after p again k.map ≡ style k.map
  passes : Along (Passes p k) (data_after g) rest

abbrev MarkIs : Plan → Saving → (ℕ → Option ℕ) → List Entry → List Past → Key → Option Kept → Type 0
MarkIs p s style g rest k None = shown g k ≡ None
MarkIs p s style g rest k (Some x) = IsAgain p s style g rest k x

-- the one that was drawn again of a key, at version v, where it is still to come in this version or not
abbrev drawn_by : ℕ → Bool → Option Kept → Option Kept
drawn_by v to_come None = None
drawn_by v to_come (Some x) = cond (nat_lt x.version v || ((x.version == v) && not to_come)) (Some x) None

-- a replay at version v, where xs are still to come in it, and the rest of the changes after it
record InReplay (p : Plan) (told : Bool) (s : Saving) (style : ℕ → Option ℕ) (v : ℕ) (xs : List Kept) (done rest : List Past) (g : List Entry) : Type 0 where
  quiet : IsQuiet p told g
  data_are : data_after g ≡ map past_number done
  long : length done ≡ v
  split : s.updates ≡ done ++ rest
  styled : (m : ℕ) → m < length p.max_zooms → style_after p g m ≡ style m
  marks : (k : Key) → MarkIs p s style g rest k (drawn_by v (is_kept xs k) (kept_of s.clean k))

-- One that is kept.

-- where nothing of a key changes, its mark stays
mark_still : (p : Plan) (s : Saving) (style : ℕ → Option ℕ) (g r : List Entry) (rest : List Past) (k : Key) (o : Option Kept) → shown r k ≡ shown g k → ((place : ℕ) → is_touched_after p r place k ≡ is_touched_after p g place k) → data_after r ≡ data_after g →
    MarkIs p s style g rest k o → MarkIs p s style r rest k o
mark_still p s style g r rest k None same touched known m = same ∙ m
mark_still p s style g r rest k (Some x) same touched known m = record {
  again = m.again;
  is_shown = same ∙ m.is_shown;
  is_untouched = touched (length m.again) ∙ m.is_untouched;
  first = m.first;
  later = m.later;
  split = m.split;
  long = m.long;
  data_are = m.data_are;
  style_is = m.style_is;
  passes = subst (λ d. Along (Passes p k) d rest) (sym known) m.passes;
}

-- one of another version is passed over
skip_step : (p : Plan) (told : Bool) (s : Saving) (style : ℕ → Option ℕ) (v : ℕ) (x : Kept) (xs : List Kept) (done rest : List Past) (g : List Entry) → IsGood p s x → (x.version == v) ≡ false → InReplay p told s style v (x ∷ xs) done rest g → InReplay p told s style v xs done rest g
skip_step p told s style v x xs done rest g good other i = record {
  quiet = i.quiet;
  data_are = i.data_are;
  long = i.long;
  split = i.split;
  styled = i.styled;
  marks = λ k. subst (MarkIs p s style g rest k) (same k (same_key x.key k) refl) (i.marks k);
}
  where
    same : (k : Key) (b : Bool) → same_key x.key k ≡ b → drawn_by v (b || is_kept xs k) (kept_of s.clean k) ≡ drawn_by v (is_kept xs k) (kept_of s.clean k)
    same k false at = refl
    same k true at =
        let own : kept_of s.clean k ≡ Some x = sym (ap (kept_of s.clean) (same_key-true x.key k at)) ∙ good.own in
        let test : (nat_lt x.version v || ((x.version == v) && false)) ≡ (nat_lt x.version v || ((x.version == v) && not (is_kept xs k))) = grind arith in
        ap (drawn_by v true) own ∙ (ap (λ b. cond b (Some x) None) test ∙ sym (ap (drawn_by v (is_kept xs k)) own))

-- one of this version is drawn
draw_step : (p : Plan) (told : Bool) (s : Saving) (style : ℕ → Option ℕ) (v : ℕ) (x : Kept) (xs : List Kept) (done rest : List Past) (g : List Entry) → 0 < p.workers → 0 < p.limits.bulk → IsGood p s x → is_kept xs x.key ≡ false → (x.version == v) ≡ true →
    InReplay p told s style v (x ∷ xs) done rest g → InReplay p told s style v xs done rest (replay_key x.key g)
draw_step p told s style v x xs done rest g workers room good alone this i = record {
  quiet = redrawn_quiet p told g x.key i.quiet good.served workers room unseen;
  data_are = redrawn_data g x.key ∙ i.data_are;
  long = i.long;
  split = i.split;
  styled = λ m lt. redrawn_style p g x.key m ∙ i.styled m lt;
  marks = λ k. at k (same_key x.key k) refl;
}
  where
    unseen : shown g x.key ≡ None
    unseen =
        let here : is_kept (x ∷ xs) x.key ≡ true = grind (arith, same_key-self x.key) in
        let test : (nat_lt x.version v || ((x.version == v) && false)) ≡ false = grind (arith, nat_tests) in
        let none : drawn_by v (is_kept (x ∷ xs) x.key) (kept_of s.clean x.key) ≡ None = ap₂ (drawn_by v) here good.own ∙ ap (λ b. cond b (Some x) None) test in
        subst (MarkIs p s style g rest x.key) none (i.marks x.key)

    now : IsAgain p s style (replay_key x.key g) rest x.key x
    now =
        let number : v ≡ x.version = grind (arith, nat_tests) in
        let fronts = same_front good.first done good.later rest (sym good.split ∙ i.split) (good.long ∙ (sym number ∙ sym i.long)) in
        record {
          again = before_again x.key g;
          is_shown = redrawn_shown p told g x.key i.quiet;
          is_untouched = redrawn_untouched p g x.key x.key;
          first = done;
          later = rest;
          split = i.split;
          long = i.long ∙ number;
          data_are = again_data g x.key ∙ i.data_are;
          style_is = again_style p g x.key x.key.map ∙ i.styled x.key.map good.has_map;
          passes = subst (λ d. Along (Passes p x.key) d rest) (sym (redrawn_data g x.key ∙ i.data_are)) (subst (λ cs. Along (Passes p x.key) (map past_number done) cs) fronts.1 (subst (λ cs. Along (Passes p x.key) (map past_number cs) good.later) fronts.0 good.passes));
        }

    at : (k : Key) (b : Bool) → same_key x.key k ≡ b → MarkIs p s style (replay_key x.key g) rest k (drawn_by v (is_kept xs k) (kept_of s.clean k))
    at k false other =
        mark_still p s style g (replay_key x.key g) rest k _ (redrawn_other p told g x.key k i.quiet other) (λ place. redrawn_touched p g x.key place k) (redrawn_data g x.key)
        (subst (λ b. MarkIs p s style g rest k (drawn_by v (b || is_kept xs k) (kept_of s.clean k))) other (i.marks k))
    at k true same =
        let test : (nat_lt x.version v || ((x.version == v) && true)) ≡ true = grind (arith, nat_tests) in
        let some : drawn_by v (is_kept xs x.key) (kept_of s.clean x.key) ≡ Some x = ap₂ (drawn_by v) alone good.own ∙ ap (λ b. cond b (Some x) None) test in
        let here : MarkIs p s style (replay_key x.key g) rest x.key (drawn_by v (is_kept xs x.key) (kept_of s.clean x.key)) = subst (MarkIs p s style (replay_key x.key g) rest x.key) (sym some) now in
        subst (λ (y : Key). MarkIs p s style (replay_key x.key g) rest y (drawn_by v (is_kept xs y) (kept_of s.clean y))) (same_key-true x.key k same) here

-- all of a version
keys_replayed : (p : Plan) (told : Bool) (s : Saving) (style : ℕ → Option ℕ) (v : ℕ) (xs : List Kept) (done rest : List Past) (g : List Entry) → 0 < p.workers → 0 < p.limits.bulk → Each (IsGood p s) xs → AreApart kept_key xs →
    InReplay p told s style v xs done rest g → InReplay p told s style v [] done rest (replay_keys v xs g)
unfolding replay_keys
keys_replayed p told s style v [] done rest g workers room good apart i = i
keys_replayed p told s style v (x ∷ xs) done rest g workers room good apart i = go (x.version == v) refl (λ r j. keys_replayed p told s style v xs done rest r workers room good.1 apart.1 j)
  where
    go : (b : Bool) → (x.version == v) ≡ b → ((r : List Entry) → InReplay p told s style v xs done rest r → InReplay p told s style v [] done rest (replay_keys v xs r)) →
        InReplay p told s style v [] done rest (replay_keys v xs (cond b (replay_key x.key g) g))
    go true this ih = ih (replay_key x.key g) (draw_step p told s style v x xs done rest g workers room good.0 apart.0 this i)
    go false other ih = ih g (skip_step p told s style v x xs done rest g good.0 other i)

-- Changes.

-- a change touches no key that it passes
pub change_quiet : (p : Plan) (c : Past) (g : List Entry) (k : Key) (place : ℕ) → Passes p k (data_after g) c → is_touched_after p (replay_change p c g) place k ≡ is_touched_after p g place k
unfolding is_touched_after
change_quiet p (Past.Update n) g k place passes = refl
change_quiet p (Past.Renew n) g k place passes = grind (arith, passes)

pub change_data : (p : Plan) (c : Past) (g : List Entry) → data_after (replay_change p c g) ≡ data_after g ++ past_number c ∷ []
unfolding data_after
change_data p (Past.Update n) g = refl
change_data p (Past.Renew n) g = refl

pub change_shown : (p : Plan) (c : Past) (g : List Entry) (k : Key) → shown (replay_change p c g) k ≡ shown g k
unfolding shown
change_shown p (Past.Update n) g k = refl
change_shown p (Past.Renew n) g k = refl

pub change_style : (p : Plan) (c : Past) (g : List Entry) (m : ℕ) → style_after p (replay_change p c g) m ≡ style_after p g m
unfolding style_after
change_style p (Past.Update n) g m = refl
change_style p (Past.Renew n) g m = refl

pub change_legal : (p : Plan) (told : Bool) (c : Past) (g : List Entry) → ChangeFits p (data_after g) c → IsQuiet p told g → IsQuiet p told (replay_change p c g)
unfolding Fits is_stopped flights waiting open_asks
change_legal p told (Past.Update n) g fits q = record { legal = ((fits.in_table, fits.no_fault, refl), q.legal); running = q.running; grounded = q.grounded; idle = q.idle; answered = q.answered }
change_legal p told (Past.Renew n) g fits q = record { legal = ((fits.in_table, fits.no_fault, refl, refl), q.legal); running = q.running; grounded = q.grounded; idle = q.idle; answered = q.answered }

mark_changed : (p : Plan) (s : Saving) (style : ℕ → Option ℕ) (c : Past) (cs : List Past) (g : List Entry) (k : Key) (o : Option Kept) → MarkIs p s style g (c ∷ cs) k o → MarkIs p s style (replay_change p c g) cs k o
mark_changed p s style c cs g k None m = change_shown p c g k ∙ m
mark_changed p s style c cs g k (Some x) m = record {
  again = m.again;
  is_shown = change_shown p c g k ∙ m.is_shown;
  is_untouched = change_quiet p c g k (length m.again) m.passes.0 ∙ m.is_untouched;
  first = m.first;
  later = m.later;
  split = m.split;
  long = m.long;
  data_are = m.data_are;
  style_is = m.style_is;
  passes = subst (λ d. Along (Passes p k) d cs) (sym (change_data p c g)) m.passes.1;
}

-- what is kept of a key is kept
found_kept : (xs : List Kept) (k : Key) (x : Kept) → kept_of xs k ≡ Some x → is_kept xs k ≡ true
found_kept xs k x h = find-any (λ y. same_key y.key k) (λ y. same_key y.key k) xs x h (find-passes (λ y. same_key y.key k) xs x h)

-- all that was drawn at a version is drawn before the next
up_to : (m v : ℕ) → (nat_lt m v || ((m == v) && true)) ≡ nat_lt m (v + 1)
up_to m v = grind (arith, nat_tests)

none_to_come : (b c t : Bool) → t ≡ true → b ≡ (b || (c && not t))
none_to_come b c t h = grind arith

next_version : (s : Saving) (v : ℕ) (k : Key) (o : Option Kept) → kept_of s.clean k ≡ o → drawn_by v false o ≡ drawn_by (v + 1) (is_kept s.clean k) o
next_version s v k None h = refl
next_version s v k (Some x) h =
    ap (λ b. cond b (Some x) None) (up_to x.version v ∙ none_to_come (nat_lt x.version (v + 1)) (x.version == v + 1) (is_kept s.clean k) (found_kept s.clean k x h))

change_step : (p : Plan) (told : Bool) (s : Saving) (style : ℕ → Option ℕ) (v : ℕ) (done : List Past) (c : Past) (cs : List Past) (g : List Entry) → ChangeFits p (map past_number done) c →
    InReplay p told s style v [] done (c ∷ cs) g → InReplay p told s style (v + 1) s.clean (done ++ c ∷ []) cs (replay_change p c g)
change_step p told s style v done c cs g fits i = record {
  quiet = change_legal p told c g (subst (λ d. ChangeFits p d c) (sym i.data_are) fits) i.quiet;
  data_are = change_data p c g ∙ (ap (λ d. d ++ past_number c ∷ []) i.data_are ∙ sym (map-append past_number done (c ∷ [])));
  long = length-append done (c ∷ []) ∙ ap (λ n. n + 1) i.long;
  split = i.split ∙ sym (append_assoc done (c ∷ []) cs);
  styled = λ m lt. change_style p c g m ∙ i.styled m lt;
  marks = λ k. subst (MarkIs p s style (replay_change p c g) cs k) (next_version s v k (kept_of s.clean k) refl) (mark_changed p s style c cs g k _ (i.marks k));
}

-- to the end
replayed : (p : Plan) (told : Bool) (s : Saving) (style : ℕ → Option ℕ) (v : ℕ) (done rest : List Past) (g : List Entry) → 0 < p.workers → 0 < p.limits.bulk → Each (IsGood p s) s.clean → AreApart kept_key s.clean → Along (ChangeFits p) (map past_number done) rest →
    InReplay p told s style v s.clean done rest g → (n : ℕ) × (all : List Past) × InReplay p told s style n [] all [] (replay_from p s.clean v rest g)
unfolding replay_from
replayed p told s style v done [] g workers room good apart fits i = (v, done, keys_replayed p told s style v s.clean done [] g workers room good apart i)
replayed p told s style v done (c ∷ cs) g workers room good apart fits i =
    let after = keys_replayed p told s style v s.clean done (c ∷ cs) g workers room good apart i in
    replayed p told s style (v + 1) (done ++ c ∷ []) cs (replay_change p c (replay_keys v s.clean g)) workers room good apart (subst (λ d. Along (ChangeFits p) d cs) (sym (map-append past_number done (c ∷ []))) fits.1)
    (change_step p told s style v done c cs (replay_keys v s.clean g) fits.0 after)

-- Styles.

-- each style of the list is of the map at its place
unfoldable pub StylesFit : Plan → ℕ → List (Option ℕ) → Type 0
StylesFit p m [] = Unit {0}
StylesFit p m (None ∷ styles) = StylesFit p (m + 1) styles
StylesFit p m (Some n ∷ styles) = (is_style_of p n m ≡ true) × StylesFit p (m + 1) styles

-- a history of restyles alone
pub record IsBare (p : Plan) (told : Bool) (g : List Entry) : Type 0 where
  pub quiet : IsQuiet p told g
  pub unclaimed : claimed_keys g ≡ []
  pub unseen : (k : Key) → shown g k ≡ None
  pub no_data : data_after g ≡ []

pub styles_bare : (p : Plan) (told : Bool) (m : ℕ) (styles : List (Option ℕ)) (g : List Entry) → StylesFit p m styles → IsBare p told g → IsBare p told (replay_styles styles g)
unfolding Fits replay_styles is_stopped flights waiting open_asks claimed_keys shown data_after StylesFit
styles_bare p told m [] g fits b = b
styles_bare p told m (None ∷ styles) g fits b = styles_bare p told (m + 1) styles g fits b
styles_bare p told m (Some n ∷ styles) g fits b =
    styles_bare p told (m + 1) styles (Restyle n (Styled 0) ∷ g) fits.1 (record {
      quiet = record {
        legal = ((style_in_table p n m fits.0, sym (ap (count_by (λ k. is_clean p g k && is_style_of p n k.map)) b.unclaimed)), b.quiet.legal);
        running = b.quiet.running;
        grounded = b.quiet.grounded;
        idle = b.quiet.idle;
        answered = b.quiet.answered;
      };
      unclaimed = b.unclaimed;
      unseen = b.unseen;
      no_data = b.no_data;
    })

-- the style of map j after the styles from place m on
unfoldable pub style_from : ℕ → List (Option ℕ) → ℕ → Option ℕ → Option ℕ
style_from m [] j o = o
style_from m (None ∷ styles) j o = style_from (m + 1) styles j o
style_from m (Some n ∷ styles) j o = style_from (m + 1) styles j (cond (m == j) (Some n) o)

pub styles_at : (p : Plan) (m : ℕ) (styles : List (Option ℕ)) (g : List Entry) (j : ℕ) → StylesFit p m styles → style_after p (replay_styles styles g) j ≡ style_from m styles j (style_after p g j)
unfolding replay_styles style_after StylesFit style_from
styles_at p m [] g j fits = refl
styles_at p m (None ∷ styles) g j fits = styles_at p (m + 1) styles g j fits
styles_at p m (Some n ∷ styles) g j fits =
    styles_at p (m + 1) styles (Restyle n (Styled 0) ∷ g) j fits.1 ∙ ap (λ b. style_from (m + 1) styles j (cond b (Some n) (style_after p g j))) (style_alone p n m j fits.0)

pub style_past : (m : ℕ) (styles : List (Option ℕ)) (j : ℕ) (o : Option ℕ) → j < m → style_from m styles j o ≡ o
unfolding style_from
style_past m [] j o lt = refl
style_past m (None ∷ styles) j o lt = style_past (m + 1) styles j o (omega arith)
style_past m (Some n ∷ styles) j o lt =
    let other : (m == j) ≡ false = grind (arith, nat_tests) in style_past (m + 1) styles j _ (omega arith) ∙ ap (λ b. cond b (Some n) o) other

pub style_place : (m : ℕ) (styles : List (Option ℕ)) (i j : ℕ) (o : Option ℕ) → m + i ≡ j → slice_get styles i ≡ Some o → style_from m styles j None ≡ o
unfolding style_from
style_place m [] i j o at h = cc
style_place m (None ∷ styles) zero j o at h = style_past (m + 1) styles j None (omega arith) ∙ cc
style_place m (Some n ∷ styles) zero j o at h =
    let here : (m == j) ≡ true = let same : m ≡ j = omega arith in grind (arith, nat_tests) in
    style_past (m + 1) styles j _ (omega arith) ∙ (ap (λ b. cond b (Some n) None) here ∙ cc)
style_place m (None ∷ styles) (suc i) j o at h = style_place (m + 1) styles i j o (omega arith) h
style_place m (Some n ∷ styles) (suc i) j o at h =
    let other : (m == j) ≡ false = let less : m < j = omega arith in grind (arith, nat_tests) in
    ap (λ b. style_from (m + 1) styles j (cond b (Some n) None)) other ∙ style_place (m + 1) styles i j o (omega arith) h

styles_fit : (p : Plan) (m : ℕ) (styles : List (Option ℕ)) → ((i n : ℕ) → slice_get styles i ≡ Some (Some n) → is_style_of p n (m + i) ≡ true) → StylesFit p m styles
unfolding StylesFit
styles_fit p m [] h = tt
styles_fit p m (None ∷ styles) h = styles_fit p (m + 1) styles (λ i n is. subst (λ x. is_style_of p n x ≡ true) (plus m i) (h (suc i) n is))
  where
    plus : (a b : ℕ) → a + suc b ≡ (a + 1) + b
    plus a b = omega arith
styles_fit p m (Some n ∷ styles) h = (subst (λ x. is_style_of p n x ≡ true) (omega arith) (h zero n refl), styles_fit p (m + 1) styles (λ i k is. subst (λ x. is_style_of p k x ≡ true) (plus m i) (h (suc i) k is)))
  where
    plus : (a b : ℕ) → a + suc b ≡ (a + 1) + b
    plus a b = omega arith

-- What is saved is good.

all_not : {X : Type 0} (q r : X → Bool) (xs : List X) → ((x : X) → q x ≡ true → r x ≡ false) → list_all q xs ≡ true → list_any r xs ≡ false
all_not q r [] f h = refl
all_not q r (x ∷ xs) f h = let here : q x ≡ true = grind arith in let rest : list_all q xs ≡ true = grind arith in let no_one = f x here in let others = all_not q r xs f rest in grind arith

-- an order by one number and then another
lex_then : (a b c : ℕ) (t u v : Bool) → (t ≡ true → u ≡ true → v ≡ true) → (nat_lt a b || ((a == b) && t)) ≡ true → (nat_lt b c || ((b == c) && u)) ≡ true → (nat_lt a c || ((a == c) && v)) ≡ true
lex_then a b c t u v rest first second = grind (arith, nat_tests, rest)

last_then : (a b c : ℕ) → nat_lt a b ≡ true → nat_lt b c ≡ true → nat_lt a c ≡ true
last_then a b c first second = grind (arith, nat_tests)

-- the key before another that is before a third is before the third
pub key_before-then : (a b c : Key) → key_before a b ≡ true → key_before b c ≡ true → key_before a c ≡ true
key_before-then a b c =
    lex_then a.map b.map c.map _ _ _
    (lex_then a.meta.z b.meta.z c.meta.z _ _ _ (lex_then a.meta.x b.meta.x c.meta.x _ _ _ (last_then a.meta.y b.meta.y c.meta.y)))

before_other : (a b : Key) → key_before a b ≡ true → same_key b a ≡ false
before_other a b h = grind (arith, nat_tests)

pub rising_apart : (xs : List Kept) → are_rising xs ≡ true → AreApart kept_key xs
rising_apart [] h = tt
rising_apart (x ∷ xs) h = (all_not (λ y. key_before x.key y.key) (λ y. same_key y.key x.key) xs (λ y b. before_other x.key y.key b) (grind arith), rising_apart xs (grind arith))

-- each is the one that is kept of its key
pub each_own : (xs : List Kept) → AreApart kept_key xs → Each (λ x. kept_of xs x.key ≡ Some x) xs
each_own [] apart = tt
each_own (x ∷ xs) apart = (ap (λ b. cond b (Some x) (kept_of xs x.key)) (same_key-self x.key), each-map _ _ xs later (each-both _ _ xs (each_own xs apart.1) (none-each (λ y. same_key y.key x.key) xs apart.0)))
  where
    later : (y : Kept) → (kept_of xs y.key ≡ Some y) × (same_key y.key x.key ≡ false) → kept_of (x ∷ xs) y.key ≡ Some y
    later y h = ap (λ b. cond b (Some x) (kept_of xs y.key)) (same_key-sym x.key y.key ∙ h.1) ∙ h.0

-- a servable key's map is in the table
served_map : (p : Plan) (k : Key) → IsServed p k → k.map < length p.max_zooms
unfolding is_servable
served_map p k served = go (slice_get p.max_zooms k.map) refl served.servable
  where
    go : (o : Option ℕ) → slice_get p.max_zooms k.map ≡ o → is_at_most k.meta.z o && (nat_lt k.meta.x (2 ^ k.meta.z) && nat_lt k.meta.y (2 ^ k.meta.z)) ≡ true → k.map < length p.max_zooms
    go None is h = let never : false ≡ true = h in cc
    go (Some z) is h = in_list p.max_zooms k.map z is

-- a key whose version is kept is shown, untouched, at that version
record IsFreshAt (p : Plan) (h : List Entry) (k : Key) (v : ℕ) : Type 0 where
  before : List Entry
  is_shown : shown h k ≡ Some before
  is_untouched : is_touched_after p h (length before) k ≡ false
  version_is : version before ≡ v

fresh_at : (p : Plan) (h : List Entry) (k : Key) (v : ℕ) → Some v ≡ version_if_fresh p h k (shown h k) → IsFreshAt p h k v
fresh_at p h k v is = go (shown h k) refl is
  where
    at : (before : List Entry) (b : Bool) → shown h k ≡ Some before → is_touched_after p h (length before) k ≡ b → Some v ≡ cond b None (Some (version before)) → IsFreshAt p h k v
    at before true s touched e = cc
    at before false s touched e = record { before = before; is_shown = s; is_untouched = touched; version_is = cc }

    go : (o : Option (List Entry)) → shown h k ≡ o → Some v ≡ version_if_fresh p h k o → IsFreshAt p h k v
    go None s e = cc
    go (Some before) s e = at before (is_touched_after p h (length before) k) s refl e

-- as many changes as their numbers
pub as_many : (h : List Entry) → length (changes_after h) ≡ version h
as_many h = sym (ap length (data_changes h) ∙ length-map (changes_after h) past_number)

good_one : (p : Plan) (told : Bool) (h : List Entry) (s : Saving) (x : Kept) → Legal p told h → IsSaved p h s → kept_of s.clean x.key ≡ Some x → IsGood p s x
good_one p told h s x legal saved own =
    let f = fresh_at p h x.key x.version (sym (ap (option_map kept_version) own) ∙ saved.clean_are x.key) in
    let since = clean_since p told h x.key f.before legal f.is_shown f.is_untouched in
    let is_served = shown_served p told h x.key f.before legal f.is_shown in
    record {
      served = is_served;
      has_map = served_map p x.key is_served;
      own = own;
      first = changes_after f.before;
      later = since.later;
      split = saved.updates_are ∙ since.changes_are;
      long = as_many f.before ∙ f.version_is;
      passes = subst (λ d. Along (Passes p x.key) d since.later) (data_changes f.before) since.passed;
    }

-- The law.

start : (p : Plan) (told : Bool) (s : Saving) (style : ℕ → Option ℕ) → StylesFit p 0 s.styles → ((m : ℕ) → m < length p.max_zooms → slice_get s.styles m ≡ Some (style m)) → InReplay p told s style 0 s.clean [] s.updates (replay_styles s.styles [])
unfolding is_stopped flights waiting open_asks claimed_keys shown data_after style_after
start p told s style fits are = record {
  quiet = bare.quiet;
  data_are = bare.no_data;
  long = refl;
  split = refl;
  styled = λ m lt. styles_at p 0 s.styles [] m fits ∙ style_place 0 s.styles m m (style m) (omega arith) (are m lt);
  marks = λ k. mark k (kept_of s.clean k) refl;
}
  where
    bare : IsBare p told (replay_styles s.styles [])
    bare = styles_bare p told 0 s.styles [] fits (record { quiet = record { legal = tt; running = refl; grounded = refl; idle = refl; answered = refl }; unclaimed = refl; unseen = λ k. refl; no_data = refl })

    mark : (k : Key) (o : Option Kept) → kept_of s.clean k ≡ o → MarkIs p s style (replay_styles s.styles []) s.updates k (drawn_by 0 (is_kept s.clean k) o)
    mark k None is = bare.unseen k
    mark k (Some x) is =
        let there = found_kept s.clean k x is in
        let test : (nat_lt x.version 0 || ((x.version == 0) && not (is_kept s.clean k))) ≡ false = let low : nat_lt x.version 0 ≡ false = grind (arith, nat_tests) in grind arith in
        subst (MarkIs p s style (replay_styles s.styles []) s.updates k) (sym (ap (λ b. cond b (Some x) None) test)) (bare.unseen k)

saved_styles : (p : Plan) (h : List Entry) (s : Saving) → IsSaved p h s → StylesFit p 0 s.styles
saved_styles p h s saved = styles_fit p 0 s.styles (λ i n is. at i n is (in_list s.styles i (Some n) is))
  where
    at : (i n : ℕ) → slice_get s.styles i ≡ Some (Some n) → i < length s.styles → is_style_of p n (0 + i) ≡ true
    at i n is lt =
        let inside : i < length p.max_zooms = omega (arith, saved.as_many_styles) in
        let e = saved.styles_are i inside in
        let given : style_after p h i ≡ Some n = cc in
        subst (λ x. is_style_of p n x ≡ true) (omega arith) (style_fits p h i n given)

ended_replay : (p : Plan) (told : Bool) (h : List Entry) (s : Saving) → 0 < p.workers → 0 < p.limits.bulk → Legal p told h → IsSaved p h s → (over : Bool) → (n : ℕ) × (all : List Past) × InReplay p over s (style_after p h) n [] all [] (replay p s)
ended_replay p told h s workers room legal saved over =
    replayed p over s (style_after p h) 0 [] s.updates (replay_styles s.styles []) workers room good apart fits (start p over s (style_after p h) (saved_styles p h s saved) saved.styles_are)
  where
    apart : AreApart kept_key s.clean
    apart = rising_apart s.clean saved.clean_rise

    good : Each (IsGood p s) s.clean
    good = each-map _ _ s.clean (λ x own. good_one p told h s x legal saved own) (each_own s.clean apart)

    fits : Along (ChangeFits p) [] s.updates
    fits = subst (λ cs. Along (ChangeFits p) [] cs) (sym saved.updates_are) (changes_fit p told h legal)

clean_again : (p : Plan) (told : Bool) (h : List Entry) (s : Saving) (n : ℕ) (all : List Past) (r : List Entry) → Legal p told h → IsSaved p h s → InReplay p true s (style_after p h) n [] all [] r → (k : Key) (before : List Entry) → is_clean p h k ≡ true → shown h k ≡ Some before → IsCleanAgain p r k before
clean_again p told h s n all r legal saved i k before clean is = go (kept_of s.clean k) refl
  where
    fresh : not (is_touched_after p h (length before) k) ≡ true
    fresh = sym (ap (λ x. is_fresh p h x k) is) ∙ clean

    untouched : is_touched_after p h (length before) k ≡ false
    untouched = let f = fresh in grind arith

    version_of : version_if_fresh p h k (shown h k) ≡ Some (version before)
    version_of = ap (version_if_fresh p h k) is ∙ ap (λ b. cond b None (Some (version before))) untouched

    since : IsSince p k h before
    since = clean_since p told h k before legal is untouched

    found : (x : Kept) → kept_of s.clean k ≡ Some x → x.version ≡ version before
    found x own = let same : Some x.version ≡ Some (version before) = sym (ap (option_map kept_version) own) ∙ (saved.clean_are k ∙ version_of) in cc

    again : (x : Kept) → x.version ≡ version before → IsAgain p s (style_after p h) r [] k x → IsCleanAgain p r k before
    again x number m =
        let fronts = same_front m.first (changes_after before) m.later since.later (sym m.split ∙ (saved.updates_are ∙ since.changes_are)) (m.long ∙ (number ∙ sym (as_many before))) in
        let same : data_after m.again ≡ data_after before = m.data_are ∙ (ap (map past_number) fronts.0 ∙ sym (data_changes before)) in
        record { again = m.again; is_shown = m.is_shown; is_untouched = m.is_untouched; same_version = ap length same; same_data = same; same_style = m.style_is ∙ since.same_style }

    -- all versions that are kept were passed
    reached : (x : Kept) → kept_of s.clean k ≡ Some x → x.version ≤ n
    reached x own =
        let key : x.key ≡ k = same_key-true x.key k (find-passes (λ y. same_key y.key k) s.clean x own) in
        let good = good_one p told h s x legal saved (ap (kept_of s.clean) key ∙ own) in
        let whole : length good.first + length good.later ≡ length all = sym (length-append good.first good.later) ∙ ap length (sym good.split ∙ (i.split ∙ append-nil all)) in
        omega (arith, good.long, i.long)

    go : (o : Option Kept) → kept_of s.clean k ≡ o → IsCleanAgain p r k before
    go None own = let never : None ≡ Some (version before) = sym (ap (option_map kept_version) own) ∙ (saved.clean_are k ∙ version_of) in cc
    go (Some x) own =
        let le = reached x own in
        let test : (nat_lt x.version n || ((x.version == n) && true)) ≡ true = up_to x.version n ∙ grind (arith, nat_tests) in
        let drawn : drawn_by n false (kept_of s.clean k) ≡ Some x = ap (drawn_by n false) own ∙ ap (λ b. cond b (Some x) None) test in
        again x (found x own) (subst (MarkIs p s (style_after p h) r [] k) drawn (i.marks k))

nothing_else : (p : Plan) (h : List Entry) (s : Saving) (n : ℕ) (all : List Past) (r : List Entry) → IsSaved p h s → InReplay p true s (style_after p h) n [] all [] r → (k : Key) → is_clean p h k ≡ false → shown r k ≡ None
nothing_else p h s n all r saved i k unclean = go (kept_of s.clean k) refl
  where
    go : (o : Option Kept) → kept_of s.clean k ≡ o → shown r k ≡ None
    go None own = subst (λ o. MarkIs p s (style_after p h) r [] k (drawn_by n false o)) own (i.marks k)
    go (Some x) own =
        let f = fresh_at p h k x.version (sym (ap (option_map kept_version) own) ∙ saved.clean_are k) in
        let clean : is_clean p h k ≡ true = ap (λ y. is_fresh p h y k) f.is_shown ∙ ap not f.is_untouched in
        let never : true ≡ false = sym clean ∙ unclean in
        cc

pub resumed : LawResumed
resumed p told h s workers room legal saved = record {
  legal = λ over. (ended_replay p told h s workers room legal saved over).2.quiet.legal;
  same_data = e.2.data_are ∙ (ap (map past_number) (sym (append-nil e.1) ∙ (sym e.2.split ∙ saved.updates_are)) ∙ sym (data_changes h));
  clean_again = clean_again p told h s e.0 e.1 (replay p s) legal saved e.2;
  nothing_else = nothing_else p h s e.0 e.1 (replay p s) saved e.2;
}
  where
    e : (n : ℕ) × (all : List Past) × InReplay p true s (style_after p h) n [] all [] (replay p s)
    e = ended_replay p told h s workers room legal saved true
