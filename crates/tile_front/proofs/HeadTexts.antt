-- Heads: none where bytes are refused or waited for, one at most, and the same whatever follows.
use Rattle.std.proofs.Common.{◌≡◌, ℕ, zero, suc, ◌<◌, ◌≤◌, List, [], ◌∷◌, ◌++◌, length, take, Bool, true, false, eqb, ◌&&◌, ◌||◌, refl, sym, ap, subst, ◌∙◌, arith, append_assoc, length-append}
use Rattle.std.proofs.lemmas.List.{take-append-le, length-take}
use Rattle.farm_base.specs.Limits.{most_head_bytes, most_head_fields}
use Rattle.httparse.specs.Grammar.{ReadsRequest, NeverHasRequest}
use Rattle.httparse.specs.Spans.{RequestOverflows, RequestExceeds}
use Rattle.httparse.proofs.GrammarLemmas.{print_request-append, request_unique, ReadsRequest-append}
use Rattle.tile_front.specs.Heads.{bytes_read, IsWhole, HasNoHead, begins_newline, ends_line, has_empty_line, IsBad, IsNever, IsLong, IsCrowded, IsNothing, IsPart, IsFull}
use Rattle.tile_front.specs.Laws.{NoHeadUnlessWhole, OneHead, BadStays, WholeStays}

-- bytes of which no continuation has a head of few headers have none
overflown : (bytes : List ℕ) → RequestOverflows most_head_fields bytes → HasNoHead bytes
overflown bytes over h is =
    let reads : ReadsRequest (bytes ++ []) h (is.rest ++ []) = ReadsRequest-append bytes h is.rest [] is.reads in
    let many : most_head_fields < length h.fields = over [] h (is.rest ++ []) reads in
    let few : length h.fields ≤ most_head_fields = is.few in
    omega arith

never_now : (bytes : List ℕ) → NeverHasRequest bytes → HasNoHead bytes
never_now bytes never h is = never [] h (is.rest ++ []) (ReadsRequest-append bytes h is.rest [] is.reads)

-- a head has bytes
nothing : HasNoHead []
nothing h is =
    let some : 0 < length h.method = is.reads.0.method.0 in
    let counts = simp (length-append {A = ℕ}) at (ap (length {A = ℕ}) (is.reads.1 ∙ print_request-append h is.rest)) in
    omega (arith, some, counts)

pub no_head : NoHeadUnlessWhole
no_head bytes = (
  λ bad. elim bad [ IsNever never ↦ never_now bytes never | IsLong l none ↦ none | IsCrowded over more e ↦ overflown bytes over ],
  λ is. elim is [ IsNothing e ↦ subst (λ (b : List ℕ). HasNoHead b) (sym e) nothing | IsPart l none may ↦ none | IsFull l over more e ↦ overflown bytes over ],
)

pub one_head : OneHead
one_head bytes h k is other = (request_unique bytes h k is.rest other.rest is.reads other.reads).0

-- what is read of more bytes is what was read, and some
shown_more : (n : ℕ) (given more : List ℕ) → (extra : List ℕ) × (take n (given ++ more) ≡ take n given ++ extra)
shown_more zero given more = ([], refl)
shown_more (suc n) [] more = (take (suc n) more, refl)
shown_more (suc n) (b ∷ given) more = let rest = shown_more n given more in (rest.0, ap (λ (l : List ℕ). b ∷ l) rest.1)

-- an empty line stays one
newline_more : (bytes more : List ℕ) → begins_newline bytes ≡ true → begins_newline (bytes ++ more) ≡ true
newline_more [] more e = cc
newline_more (b ∷ bytes) more e = e

ends_more : (bytes more : List ℕ) → ends_line bytes ≡ true → ends_line (bytes ++ more) ≡ true
ends_more [] more e = cc
ends_more (b ∷ bytes) more e = either (eqb b 10) (eqb b 13) (begins_newline bytes) (begins_newline (bytes ++ more)) e (newline_more bytes more)
  where
    either : (p q r s : Bool) → (p || (q && r)) ≡ true → (r ≡ true → s ≡ true) → (p || (q && s)) ≡ true
    either true q r s e f = refl
    either false true r s e f = f e
    either false false r s e f = e

empty_more : (bytes more : List ℕ) → has_empty_line bytes ≡ true → has_empty_line (bytes ++ more) ≡ true
empty_more [] more e = cc
empty_more (b ∷ bytes) more e =
    either (eqb b 10) (ends_line bytes) (ends_line (bytes ++ more)) (has_empty_line bytes) (has_empty_line (bytes ++ more)) e (ends_more bytes more) (empty_more bytes more)
  where
    either : (p q r s t : Bool) → ((p && q) || s) ≡ true → (q ≡ true → r ≡ true) → (s ≡ true → t ≡ true) → ((p && r) || t) ≡ true
    either true true true s t e f g = refl
    either true true false s t e f g = let bad : false ≡ true = f refl in cc
    either true false true s t e f g = refl
    either true false false s t e f g = g e
    either false q r s t e f g = g e

overflows_more : (bytes extra : List ℕ) → RequestOverflows most_head_fields bytes → RequestOverflows most_head_fields (bytes ++ extra)
overflows_more bytes extra over more h rest reads = over (extra ++ more) h rest (subst (λ (b : List ℕ). ReadsRequest b h rest) (append_assoc bytes extra more) reads)

never_more : (bytes extra : List ℕ) → NeverHasRequest bytes → NeverHasRequest (bytes ++ extra)
never_more bytes extra never more h rest reads = never (extra ++ more) h rest (subst (λ (b : List ℕ). ReadsRequest b h rest) (append_assoc bytes extra more) reads)

exceeds_more : (bytes extra : List ℕ) → RequestExceeds most_head_fields bytes → RequestExceeds most_head_fields (bytes ++ extra)
exceeds_more bytes extra (front, rest, e, h, reads, many) =
    (front, rest ++ extra, ap (λ (b : List ℕ). b ++ extra) e ∙ append_assoc front rest extra, h, reads, many)

bad_more : (given more : List ℕ) → IsBad (bytes_read given) → IsBad (bytes_read (given ++ more))
bad_more given more (IsNever never) =
    let on = shown_more most_head_bytes given more in subst (λ (b : List ℕ). IsBad b) (sym on.1) (IsNever (never_more (bytes_read given) on.0 never))
bad_more given more (IsLong l none) =
    let long : most_head_bytes ≤ length given = let e = length-take most_head_bytes given in omega (arith, e, l) in
    subst (λ (b : List ℕ). IsBad b) (sym (take-append-le most_head_bytes given more long)) (IsLong l none)
bad_more given more (IsCrowded over exceeds e) =
    let on = shown_more most_head_bytes given more in
    subst (λ (b : List ℕ). IsBad b) (sym on.1)
    (IsCrowded (overflows_more (bytes_read given) on.0 over) (exceeds_more (bytes_read given) on.0 exceeds) (empty_more (bytes_read given) on.0 e))

pub bad_stays : BadStays
bad_stays given more bad = bad_more given more bad

pub whole_stays : WholeStays
whole_stays given more h is =
    let on = shown_more most_head_bytes given more in
    subst (λ (b : List ℕ). IsWhole b h) (sym on.1)
    (record { rest = is.rest ++ on.0; reads = ReadsRequest-append (bytes_read given) h is.rest on.0 is.reads; few = is.few })
