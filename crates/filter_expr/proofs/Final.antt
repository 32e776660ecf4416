-- The reading of a text's tokens is what the grammar says of them: the filter, or the first fault.
use Rattle.std.proofs.Common.{◌≡◌, ℕ, ◌+◌, ◌≤◌, Bool, true, false, ◌||◌, if◌then◌else◌, List, [], ◌∷◌, ◌++◌, map, refl, sym, ap, ◌∙◌, subst, arith, append_assoc}
use Rattle.std.proofs.lemmas.List.{append-nil, append_cancel_right, map-append}
use Rattle.plain_filters.specs.Filters.{FilterTree}
use Rattle.filter_expr.specs.declared.tokens.Token.{Token}
use Rattle.filter_expr.specs.declared.tokens.Token.TheVariants as token
use Rattle.filter_expr.specs.declared.tokens.PlacedToken.{PlacedToken}
use Rattle.filter_expr.specs.declared.faults.FilterFault.{FilterFault}
use Rattle.filter_expr.specs.declared.faults.FilterFault.TheVariants.{Bad, NumberRange, TooDeep, NoMemory}
use Rattle.filter_expr.specs.Signs.{is_end, is_unknown}
use Rattle.filter_expr.specs.Spelled.{Spelled}
use Rattle.filter_expr.specs.Filters.{tokens, AreFilter, CanGoOn, FaultsAt, OneTree}
use Rattle.filter_expr.specs.Reading.{Step, got, failed, then_read, starts, or_in, within_depth, end_read, whole_filter}
use Rattle.filter_expr.proofs.Chains.{wrong, rest_of}
use Rattle.filter_expr.proofs.Local.{At, IsAt, InPlace, with_rest, whole_local}
use Rattle.filter_expr.proofs.Forms.{is_stop, Goes, begun, begun_goes}
use Rattle.filter_expr.proofs.Complete.{Fine, Is, then_fine, fine_if, starts_is, complete}
use Rattle.filter_expr.proofs.Sound.{Begins, Cause, Failure, Outcome, within_sound, sound_or}
use Rattle.filter_expr.proofs.Tokenised.{Stopped}

pub tokens_both : (us vs : List PlacedToken) → tokens (us ++ vs) ≡ tokens us ++ tokens vs
tokens_both us vs = map-append (λ (s : PlacedToken). s.token) us vs

-- tokens put anywhere
abbrev placed : Token → PlacedToken
placed t = record { token = t; offset = 0 }

placed_tokens : (us : List Token) → tokens (map placed us) ≡ us
placed_tokens [] = refl
placed_tokens (u ∷ us) = ap (λ l. u ∷ l) (placed_tokens us)

-- ---- tokens that are spelled

-- tokens spell one filter at most
pub one_tree : OneTree
one_tree s t us c d p q =
    let e : tokens (map placed us) ≡ us ++ [] = placed_tokens us ∙ sym (append-nil us) in
    by (or_in (within_depth (c + d)) (map placed us)) (complete p (c + d) 0 [] (map placed us) (omega arith) (omega arith) e tt) (complete q (c + d) 0 [] (map placed us) (omega arith) (omega arith) e tt)
  where
    by : (r : Step FilterTree) → Fine (Is s) false (c + d) c [] r → Fine (Is t) false (c + d) d [] r → s ≡ t
    by (got x ts) a b = sym a.0 ∙ b.0
    by (failed (Bad o) ts) a b = absurd a
    by (failed (NumberRange o) ts) a b = absurd (wrong a)
    by (failed (TooDeep o) ts) a b = absurd (omega (arith, a))
    by (failed NoMemory ts) a b = absurd a

pub whole_read : {w : Bool} {d : ℕ} {t : FilterTree} {us : List Token} → Spelled w 0 d t us → (ts : List PlacedToken) → tokens ts ≡ us ++ token.End ∷ [] → Fine (Is t) w 64 d (token.End ∷ []) (whole_filter ts)
unfolding whole_filter
whole_read {w = w} {d = d} {t = t} p ts e =
    then_fine (Is t) (Is t) w 64 64 d d (token.End ∷ []) (token.End ∷ []) (or_in (within_depth 64) ts) end_read (λ x. x)
    (complete p 64 0 (token.End ∷ []) ts (omega arith) (omega arith) e (omega arith))
    (λ x q us z. fine_if (Is t) w 64 d (token.End ∷ []) (starts is_end us) true _ _ (starts_is is_end us token.End [] z) (q, z))

-- ---- the last of a text's tokens

stopped_not_all : (us : List Token) → Stopped us → Goes us → ⊥
stopped_not_all [] h g = h
stopped_not_all (u ∷ []) h g = wrong (sym g.0 ∙ h)
stopped_not_all (u ∷ v ∷ us) h g = stopped_not_all (v ∷ us) h.1 g.1

-- behind the end nothing stands
stopped_last : (us : List Token) (z : Token) (more : List Token) → Stopped (us ++ z ∷ more) → is_stop z ≡ true → more ≡ []
stopped_last [] z [] h e = refl
stopped_last [] z (t ∷ ts) h e = absurd (wrong (sym h.0 ∙ e))
stopped_last (u ∷ []) z more h e = stopped_last [] z more h.1 e
stopped_last (u ∷ v ∷ us) z more h e = stopped_last (v ∷ us) z more h.1 e

end_is : (t : Token) → is_end t ≡ true → t ≡ token.End
end_is token.End e = refl
end_is _ e = absurd (wrong e)

goes_first : (us vs : List Token) → Goes (us ++ vs) → Goes us
goes_first [] vs h = tt
goes_first (u ∷ us) vs h = (h.0, goes_first us vs h.1)

-- ---- the answer for the tokens of a text

-- what stands before the fault begins a filter within the limits, and the next token is this fault
abbrev pub FaultIn : List PlacedToken → FilterFault → Type 0
FaultIn ts f =
    (before : List PlacedToken) × (here : PlacedToken) × (after : List PlacedToken) × (ts ≡ before ++ here ∷ after)
    × CanGoOn false 64 (tokens before) × FaultsAt f (tokens before ++ here.token ∷ []) here.offset

abbrev pub IsAnswer : List PlacedToken → Step FilterTree → Type 0
IsAnswer ts (got t rest) = AreFilter false 64 t (tokens ts)
IsAnswer ts (failed f rest) = FaultIn ts f

goes_on : (w : Bool) (d : ℕ) (us : List Token) → Begins 0 w d us → CanGoOn w d us
goes_on w d us b = (b.0, b.1 ++ token.End ∷ [], (us ++ b.1, sym (append_assoc us b.1 (token.End ∷ [])), b.2))

-- a filter that goes on with the token at which the reading stops passes the limit of the fault
refused : (ts : List PlacedToken) (f : FilterFault) (here : PlacedToken) (after : List PlacedToken) → whole_filter ts ≡ failed f (here ∷ after) → (loc : At whole_filter ts (whole_filter ts)) →
    (w : Bool) (d : ℕ) (c : CanGoOn w d (tokens loc.used ++ here.token ∷ [])) → Fine (Is c.0) w 64 d (token.End ∷ []) (failed f (here ∷ map placed c.1))
refused ts f here after q loc w d c =
    subst (Fine (Is c.0) w 64 d (token.End ∷ [])) (loc.again here after (map placed c.1) (ap rest_of q) ∙ ap (with_rest (here ∷ map placed c.1)) q)
    (whole_read c.2.2 (loc.used ++ here ∷ map placed c.1)
    (tokens_both loc.used (here ∷ map placed c.1) ∙ ap (λ l. tokens loc.used ++ here.token ∷ l) (placed_tokens c.1) ∙ sym (append_assoc (tokens loc.used) (here.token ∷ []) c.1) ∙ c.2.1))

-- a fault, by what stands before it and the tokens from it on
fault_in : (ts : List PlacedToken) → Stopped (tokens ts) → (f : FilterFault) (rest : List PlacedToken) → whole_filter ts ≡ failed f rest → Failure (Begins 0) 64 ts f rest → FaultIn ts f
fault_in ts stop f [] q o = absurd (stopped_not_all (tokens ts) stop
    (subst Goes (sym (o.1 ∙ append-nil o.0)) (goes_first o.0 o.2.1 (begun_goes 0 (o.0 ++ o.2.1) (begun o.2.2)))))
fault_in ts stop f (here ∷ after) q o =
    (loc.used, here, after, split, goes_on false 64 (tokens loc.used) (subst (Begins 0 false 64) used o.2), faults f q (subst (λ l. Cause (Begins 0) 64 f l here.token) used o.3) (subst InPlace q loc.at))
  where
    loc : At whole_filter ts (whole_filter ts)
    loc = whole_local.here ts

    split : ts ≡ loc.used ++ here ∷ after
    split = loc.split ∙ ap (λ r. loc.used ++ rest_of r) q

    used : o.0 ≡ tokens loc.used
    used = append_cancel_right o.0 (tokens loc.used) (tokens (here ∷ after)) (sym o.1 ∙ ap (λ l. tokens l) split ∙ tokens_both loc.used (here ∷ after))

    faults : (g : FilterFault) → whole_filter ts ≡ failed g (here ∷ after) → Cause (Begins 0) 64 g (tokens loc.used) here.token → IsAt g (here ∷ after) →
        FaultsAt g (tokens loc.used ++ here.token ∷ []) here.offset
    faults (Bad p) r c a = (a, λ d x. refused ts (Bad p) here after r loc true d x)
    faults (NumberRange p) r c a = (a, (c.0, goes_on true c.0 (tokens loc.used ++ here.token ∷ []) c.2), λ d x. wrong (refused ts (NumberRange p) here after r loc false d x))
    faults (TooDeep p) r c a = (
      a,
      (c.0, goes_on false c.0 (tokens loc.used ++ here.token ∷ []) c.2),
      λ x. let more : 65 ≤ 64 = refused ts (TooDeep p) here after r loc false 64 x in omega (arith, more),
    )
    faults NoMemory r c a = a

pub right : (ts : List PlacedToken) → Stopped (tokens ts) → IsAnswer ts (whole_filter ts)
unfolding whole_filter
right ts stop = of (whole_filter ts) refl whole
  where
    -- what the reading of the whole comes to
    Whole : Step FilterTree → Type 0
    Whole (got t rest) = AreFilter false 64 t (tokens ts)
    Whole (failed f rest) = Failure (Begins 0) 64 ts f rest

    at_end : (t : FilterTree) (rest : List PlacedToken) → Outcome 0 64 ts (got t rest) → Whole (end_read t rest)
    at_end t [] o = (o.0, o.1, (t, [], subst (Spelled false 0 64 t) (sym (append-nil o.0)) o.2), tt)
    at_end t (z ∷ more) o = last (is_end z.token) refl
      where
        last : (b : Bool) → is_end z.token ≡ b → Whole (if b then got t (z ∷ more) else failed (Bad z.offset) (z ∷ more))
        last true e = (
          o.0,
          o.1 ∙ ap (λ l. o.0 ++ z.token ∷ l) (stopped_last o.0 z.token (tokens more) (subst Stopped o.1 stop) (ap (λ b. b || is_unknown z.token) e)) ∙ ap (λ u. o.0 ++ u ∷ []) (end_is z.token e),
          o.2,
        )
        last false e = (o.0, o.1, (t, [], subst (Spelled false 0 64 t) (sym (append-nil o.0)) o.2), tt)

    by : (r : Step FilterTree) → Outcome 0 64 ts r → Whole (then_read r end_read)
    by (got t rest) o = at_end t rest o
    by (failed f rest) o = o

    whole : Whole (whole_filter ts)
    whole = by (or_in (within_depth 64) ts) (sound_or 64 (within_depth 64) (within_sound 64) ts)

    of : (r : Step FilterTree) → whole_filter ts ≡ r → Whole r → IsAnswer ts r
    of (got t rest) q o = o
    of (failed f rest) q o = fault_in ts stop f rest q o
