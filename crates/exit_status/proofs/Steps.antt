-- What holds of every fault that a reading may end with, step by step.
use Rattle.std.specs.Prelude.{◌≡◌, ℕ, Bool, true, false, ◌&&◌, nat_le, if◌then◌else◌, List, [], ◌∷◌, ◌++◌, Option, Some, None, option_and_then, is_some, Result, Ok, Err}
use Rattle.std.specs.Option.{ok_or}
use Rattle.std.proofs.Common.{subst}
use Rattle.serde_json.specs.Data.{Data, Items, no_items, item, Num, unsigned, negative, float}
use Rattle.serde_json.specs.Find.{as_object, as_array, as_number}
use Rattle.serde_json.specs.Events.{items_len}
use Rattle.reading.specs.Steps.{◌>>=◌, check}
use Rattle.reading.specs.Values.{needed, or_value, opened, only_keys, items_within, within, integer_within, whole_number}
use Rattle.reading.specs.Lists.{list_after}

-- a fault, where there is one, is such a one
abbrev pub OnFault : {A E : Type 0} → (E → Type 0) → Result A E → Type 0
OnFault T (Ok x) = Unit {0}
OnFault T (Err e) = T e

pub of_fault : {A E : Type 0} (T : E → Type 0) (r : Result A E) (e : E) → OnFault T r → r ≡ Err e → T e
of_fault T r e h q = subst (OnFault T) q h

pub step : {A B E : Type 0} (T : E → Type 0) (r : Result A E) (f : A → Result B E) → OnFault T r → ((x : A) → OnFault T (f x)) → OnFault T (r >>= f)
step T (Ok x) f h g = g x
step T (Err e) f h g = h

pub either : {A E : Type 0} (T : E → Type 0) (b : Bool) (r s : Result A E) → OnFault T r → OnFault T s → OnFault T (if b then r else s)
either T true r s h g = h
either T false r s h g = g

pub checks : {E : Type 0} (T : E → Type 0) (test : Bool) (fault : E) → T fault → OnFault T (check test fault)
checks T true fault h = tt
checks T false fault h = h

pub has : {A E : Type 0} (T : E → Type 0) (o : Option A) (fault : E) → T fault → OnFault T (ok_or o fault)
has T None fault h = h
has T (Some x) fault h = tt

pub needs : {A E : Type 0} (T : E → Type 0) (fault : E) (read : Data → Result A E) (o : Option Data) → T fault → ((d : Data) → OnFault T (read d)) → OnFault T (needed fault read o)
needs T fault read None h g = h
needs T fault read (Some d) h g = g d

pub may : {A E : Type 0} (T : E → Type 0) (default : A) (read : Data → Result A E) (o : Option Data) → ((d : Data) → OnFault T (read d)) → OnFault T (or_value default read o)
may T default read None g = tt
may T default read (Some d) g = g d

pub opens : {E : Type 0} (T : E → Type 0) (shape unknown : E) (names : List (List ℕ)) (d : Data) → T shape → T unknown → OnFault T (opened shape unknown names d)
unfolding opened
opens T shape unknown names d h g = step T (check (is_some (as_object d)) shape) (λ u. check (only_keys names d) unknown) (checks T (is_some (as_object d)) shape h) (λ u. checks T (only_keys names d) unknown g)

pub few : {E : Type 0} (T : E → Type 0) (limit : ℕ) (fault : E) (found : Option Data) → T fault → OnFault T (within limit fault found)
unfolding within
few T limit fault found h = by (option_and_then as_array found)
  where
    by : (o : Option Items) → OnFault T (items_within limit fault o)
    by None = tt
    by (Some items) = either T (nat_le (items_len items) limit) (Ok (Some items)) (Err fault) tt h

pub wholes : {E : Type 0} (T : E → Type 0) (shape range : E) (low high : ℕ) (d : Data) → T shape → T range → OnFault T (whole_number shape range low high d)
wholes T shape range low high d h g = by (as_number d)
  where
    by : (n : Option Num) → OnFault T (integer_within shape range low high n)
    by None = h
    by (Some (unsigned n)) = either T (nat_le low n && nat_le n high) (Ok n) (Err range) tt g
    by (Some (negative z)) = g
    by (Some (float x)) = h

pub lists : {A E : Type 0} (T : E → Type 0) (read : List A → Data → Result A E) (before : List A) (items : Items) → ((before : List A) (d : Data) → OnFault T (read before d)) → OnFault T (list_after read before items)
unfolding list_after
lists T read before no_items g = tt
lists T read before (item d ds) g = step T (read before d) (λ a. list_after read (before ++ a ∷ []) ds) (g before d) (λ a. lists T read (before ++ a ∷ []) ds g)
