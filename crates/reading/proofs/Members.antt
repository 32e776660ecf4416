-- The keys of an object, as the map that holds them and as its value tell them.
use Rattle.std.specs.Prelude.{◌≡◌, ◌<◌, ◌≤◌, ℕ, true, ◌&&◌, ◌||◌, List, [], ◌∷◌, map, String, string_bytes, refl}
use Rattle.std.specs.List.{list_any, list_all}
use Rattle.std.specs.Map.{keys_of}
use Rattle.std.specs.Str.{bytes_eq}
use Rattle.std.specs.declared.alloc.Global.{Global}
use Rattle.std.proofs.Common.{ap, sym, ◌∙◌}
use Rattle.serde_json.specs.declared.value.Value.{Value}
use Rattle.serde_json.specs.Data.{Data, null, boolean, number, string, array, object, Members}
use Rattle.serde_json.specs.Find.{as_object, as_array}
use Rattle.serde_json.specs.View.{items_view, members_view}
use Rattle.serde_json.specs.Events.{items_len}
use Rattle.reading.specs.Steps.{check}
use Rattle.reading.specs.Values.{is_one_of, members_known, opened, within}
use Rattle.std.specs.Prelude.{length, suc, false, Some, None, unwrap_or, Ok, Err}
use Rattle.std.proofs.Common.{Bor}
use Rattle.std.proofs.lemmas.Bool.{le-leb, lt-leb}

pub known_keys : (names : List (List ℕ)) (entries : List (String Global × Value))
    → list_all (λ k. is_one_of names (string_bytes k)) (keys_of entries) ≡ members_known names (members_view entries)
known_keys names [] = refl
known_keys names (e ∷ entries) = ap (λ b. is_one_of names (string_bytes e.0) && b) (known_keys names entries)

pub items_len_of : (vs : List Value) → items_len (items_view vs) ≡ length vs
items_len_of [] = refl
items_len_of (v ∷ vs) = ap (λ n. suc n) (items_len_of vs)

pub one_seen : (names : List (Bor (List ℕ))) (name : List ℕ)
    → list_any (λ s. bytes_eq name s.now) names ≡ is_one_of (map (λ s. s.now) names) name
one_seen [] name = refl
one_seen (s ∷ names) name = ap (λ b. bytes_eq name s.now || b) (one_seen names name)

pub opened_object : {E : Type 0} (shape unknown : E) (names : List (List ℕ)) (d : Data) (ms : Members)
    → Some ms ≡ as_object d → opened shape unknown names d ≡ check (members_known names ms) unknown
unfolding opened
opened_object shape unknown names null ms e = cc
opened_object shape unknown names (boolean b) ms e = cc
opened_object shape unknown names (number n) ms e = cc
opened_object shape unknown names (string t) ms e = cc
opened_object shape unknown names (array ds) ms e = cc
opened_object shape unknown names (object ns) ms e =
    ap (λ x. check (members_known names x) unknown) (ap (λ o. unwrap_or o ms) (sym e))

pub opened_known : {E : Type 0} (shape unknown : E) (names : List (List ℕ)) (d : Data) (ms : Members)
    → Some ms ≡ as_object d → true ≡ members_known names ms → Ok tt ≡ opened shape unknown names d
opened_known shape unknown names d ms e k =
    ap (λ b. check b unknown) k ∙ sym (opened_object shape unknown names d ms e)

pub opened_unknown : {E : Type 0} (shape unknown : E) (names : List (List ℕ)) (d : Data) (ms : Members)
    → Some ms ≡ as_object d → false ≡ members_known names ms → Err unknown ≡ opened shape unknown names d
opened_unknown shape unknown names d ms e k =
    ap (λ b. check b unknown) k ∙ sym (opened_object shape unknown names d ms e)

pub opened_other : {E : Type 0} (shape unknown : E) (names : List (List ℕ)) (d : Data)
    → None ≡ as_object d → Err shape ≡ opened shape unknown names d
unfolding opened
opened_other shape unknown names null e = refl
opened_other shape unknown names (boolean b) e = refl
opened_other shape unknown names (number n) e = refl
opened_other shape unknown names (string t) e = refl
opened_other shape unknown names (array ds) e = refl
opened_other shape unknown names (object ns) e = cc

pub within_short : {E : Type 0} (limit : ℕ) (fault : E) (d : Data) (vs : List Value)
    → Some (items_view vs) ≡ as_array d → length vs ≤ limit → Ok (Some (items_view vs)) ≡ within limit fault (Some d)
unfolding within
within_short limit fault d vs e h = rw (← e, items_len_of vs, le-leb (length vs) limit h) refl

pub within_long : {E : Type 0} (limit : ℕ) (fault : E) (d : Data) (vs : List Value)
    → Some (items_view vs) ≡ as_array d → limit < length vs → Err fault ≡ within limit fault (Some d)
unfolding within
within_long limit fault d vs e h = rw (← e, items_len_of vs, lt-leb (length vs) limit h) refl

pub within_other : {E : Type 0} (limit : ℕ) (fault : E) (d : Data)
    → None ≡ as_array d → Ok None ≡ within limit fault (Some d)
unfolding within
within_other limit fault d e = rw (← e) refl
