-- Lists and objects that are read a turn at a time.
use Rattle.std.proofs.Common.{◌≡◌, ℕ, suc, ◌+◌, ◌-◌, ◌<◌, ◌≤◌, List, [], ◌∷◌, ◌++◌, length, length-append, Option, Some, None, Result, Ok, Err, refl, sym, ap, ◌∙◌, arith}
use Rattle.json.specs.Token.{Token}
use Rattle.json.specs.Json.{Json, Parse, parse_map, after_end_array, read_key, items, members, value, if_last}
use Rattle.json.specs.Lex.{tokens}
use Rattle.std.specs.Prelude.{IfSome, true, option_and_then}
use Rattle.std.specs.Str.{is_utf8}
use Rattle.reading.specs.Json.{json_of}
use Rattle.serde_json.specs.Data.{Data, Items, no_items, item, Members, no_members, put}
use Rattle.serde_json.specs.Events.{items_len}
use Rattle.serde_json.specs.Read.{of_json, of_items, of_members, converted}
use Rattle.reading.specs.Steps.{◌>>=◌}
use Rattle.reading.specs.Lists.{list_after, list_of}
use Rattle.pulled_json.proofs.Pulls.{some_of, item_more, item_end, member_more, member_end}

-- from here on: whatever items are still to come, all of them are read as they are after those that were
abbrev pub Goes : {A E : Type 0} → (List A → Data → Result A E) → Parse Json → List Token → List A → ℕ → List Token → Type 0
Goes read p all found n ts = (ds : Items) (r : List Token) → converted of_items (items p n ts) ≡ Some (ds, r)
    → (whole : Items) × (converted of_items (items p (length all) all) ≡ Some (whole, r)) × (list_of read whole ≡ list_after read found ds)

pub goes_on : {A E : Type 0} (read : List A → Data → Result A E) (p : Parse Json) (all : List Token) (found : List A) (n : ℕ) (ts r : List Token) (d : Data) (a : A)
    → 0 < n → after_end_array ts ≡ None → converted of_json (p ts) ≡ Some (d, r) → read found d ≡ Ok a → Goes read p all found n ts → Goes read p all (found ++ a ∷ []) (n - 1) r
unfolding list_after
goes_on read p all found n ts r d a some going is reads goes ds q e =
    let turn = item_more p n ts r d some going is ∙ ap (parse_map (item d)) e in
    let whole = goes (item d ds) q turn in
    (whole.0, whole.1, whole.2 ∙ ap (λ x. x >>= λ b. list_after read (found ++ b ∷ []) ds) reads)

pub goes_end : {A E : Type 0} (read : List A → Data → Result A E) (p : Parse Json) (all : List Token) (found : List A) (n : ℕ) (ts r : List Token)
    → length ts ≤ n → after_end_array ts ≡ Some r → Goes read p all found n ts → (ds : Items) × (converted of_items (items p (length all) all) ≡ Some (ds, r)) × (list_of read ds ≡ Ok found)
unfolding list_after
goes_end read p all found n ts r le e goes = goes no_items r (item_end p n ts r le e)

pub goes_first : {A E : Type 0} (read : List A → Data → Result A E) (p : Parse Json) (all : List Token) → Goes read p all [] (length all) all
goes_first read p all ds r e = (ds, e, refl)

-- the members before are these; from here on all members are read as they are after those
abbrev pub Gathered : {S : Type 0} → (S → Members → Type 0) → Parse Json → List Token → S → ℕ → List Token → Type 0
Gathered has p all state n ts = (before : Members) × has state before
    × (converted (λ ms. of_members ms no_members) (members p (length all) all) ≡ converted (λ ms. of_members ms before) (members p n ts))

-- a list of so many items was read
pub as_many : {A E : Type 0} (read : List A → Data → Result A E) (before all : List A) (ds : Items) → list_after read before ds ≡ Ok all → length all ≡ length before + items_len ds
unfolding list_after
as_many read before all no_items e = let same : before ≡ all = cc in omega (arith, ap length same)
as_many {A} {E} read before all (item d ds) e = go (read before d) refl (λ a rest. as_many read (before ++ a ∷ []) all ds rest)
  where
    go : (x : Result A E) → read before d ≡ x → ((a : A) → list_after read (before ++ a ∷ []) ds ≡ Ok all → length all ≡ length (before ++ a ∷ []) + items_len ds)
        → length all ≡ length before + suc (items_len ds)
    go (Ok a) is rest =
        let more : list_after read (before ++ a ∷ []) ds ≡ Ok all = sym (ap (λ x. x >>= λ b. list_after read (before ++ b ∷ []) ds) is) ∙ e in
        omega (arith, rest a more, length-append before (a ∷ []))
    go (Err fault) is rest = let no : Err fault ≡ Ok all = sym (ap (λ x. x >>= λ b. list_after read (before ++ b ∷ []) ds) is) ∙ e in absurd (cc)

-- one member more
pub one_more : {S : Type 0} (has : S → Members → Type 0) (p : Parse Json) (all : List Token) (old new : S) (n : ℕ) (k : List ℕ) (ts s r : List Token)
    → 0 < n → read_key ts ≡ Some (Some k, s) → ((before : Members) → has old before → (d : Data) × (converted of_json (p s) ≡ Some (d, r)) × has new (put k d before))
    → Gathered has p all old n ts → Gathered has p all new (n - 1) r
one_more has p all old new n k ts s r some named more gathered =
    let next = more gathered.0 gathered.1 in
    (put k next.0 gathered.0, next.2, gathered.2 ∙ member_more p gathered.0 n k ts s r next.0 some named next.1)

-- no member is left
pub no_more : {S : Type 0} (has : S → Members → Type 0) (p : Parse Json) (all : List Token) (state : S) (n : ℕ) (ts r : List Token)
    → length ts ≤ n → read_key ts ≡ Some (None, r) → Gathered has p all state n ts
    → (whole : Members) × (converted (λ ms. of_members ms no_members) (members p (length all) all) ≡ Some (whole, r)) × has state whole
no_more has p all state n ts r le e gathered = (gathered.0, gathered.2 ∙ member_end p gathered.0 n ts r le e, gathered.1)

-- what holds of a value that there is
pub on_some : {A : Type 0} (P Q : A → Type 0) (o : Option A) → IfSome o P → ((a : A) → P a → Q a) → IfSome o Q
on_some P Q None has more = tt
on_some P Q (Some a) has more = more a has

-- the tokens are the whole text
pub whole_text : (text : List ℕ) (d : Data) → is_utf8 text ≡ true → converted of_json (value 127 (tokens text)) ≡ Some (d, []) → json_of text ≡ Some d
unfolding json_of
whole_text text d good e =
    let j = some_of of_json (value 127 (tokens text)) d [] e in
    rw good (ap (λ o. option_and_then of_json (option_and_then (λ p. if_last p.0 p.1) o)) j.1 ∙ j.2)
