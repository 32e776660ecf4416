-- Where no word is empty or begins with `-`, clap's values are the words.
use Rattle.std.proofs.Common.{◌≡◌, suc, List, [], ◌∷◌, ◌++◌, length, false, arith, ne_eqb, Option, Some, None, fold, refl, sym, ap, ◌∙◌, append_assoc}
use Rattle.std.specs.Prelude.{codes, is_some, unwrap_or, ◌==◌, if◌then◌else◌}
use Rattle.clap.specs.Kinds.{Kinds, or_else}
use Rattle.clap.specs.Walk.{Text, Row, Rule, Walk, positional, walked, walk_from, nothing_held, settled, with_default}
use Rattle.clap.specs.Simple.{Shape, built, entered}
use Rattle.clap.specs.Faults.{turn_fault, walk_fault, settle_fault, defaults_fault, check_fault, entered_fault}
use Rattle.clap.specs.Words.{fault_of, matches_of, all_of, reading_of}
use Rattle.clap.specs.declared.builder.value_parser.ValueParser.TheVariants as vp
use Rattle.clap.specs.declared.parser.matches.ValueSource.TheVariants.{CommandLine}
use Rattle.farm_words.specs.Values.{farm_app, values_of, IsPlain, ArePlain}

abbrev shape : Shape
shape = (built farm_app).top

abbrev rule_list : List Rule
rule_list = shape.rules

-- what is found for these values
abbrev rows_for : List Text → List Row
rows_for [] = []
rows_for (x ∷ xs) = record { id = codes "words"; values = x ∷ xs; count = None; source = Some CommandLine; reading = reading_of vp.String } ∷ []

-- where the walk stands after some words and one more, which is still pending
abbrev after : List Text → Text → Walk
after done v = record {
  held = record { rows = rows_for done; pending = Some (codes "words", v ∷ []); skip = 0 };
  waiting = positional;
  position = 1;
  is_trailing = false;
  stopped = None;
}

first_word : (w : Text) → IsPlain w → walked rule_list [] (walk_from nothing_held) w ≡ after [] w
unfolding walked
first_word [] h = absurd h
first_word (x ∷ xs) h = simp h

next_word : (done : List Text) (v w : Text) → IsPlain w → walked rule_list [] (after done v) w ≡ after (done ++ v ∷ []) w
unfolding walked
next_word done v [] h = absurd h
next_word [] v (x ∷ xs) h = simp h
next_word (d ∷ ds) v (x ∷ xs) h = simp h

first_fault : (w : Text) → IsPlain w → turn_fault shape [] (walk_from nothing_held) w ≡ []
first_fault [] h = absurd h
first_fault (x ∷ xs) h = simp h

next_fault : (done : List Text) (v w : Text) → IsPlain w → turn_fault shape [] (after done v) w ≡ []
next_fault done v [] h = absurd h
next_fault [] v (x ∷ xs) h = simp h
next_fault (d ∷ ds) v (x ∷ xs) h = simp h

faults_after : (done : List Text) (v : Text) (ws : List Text) → ArePlain ws → walk_fault shape [] (after done v) ws ≡ []
unfolding walk_fault
faults_after done v [] h = refl
faults_after done v (w ∷ ws) h = rw (next_fault done v w h.0, next_word done v w h.0) (faults_after (done ++ v ∷ []) w ws h.1)

abbrev end_of : List Text → Text → List Text → Walk
end_of done v ws = fold (walked rule_list []) (after done v) ws

settled_after : (done : List Text) (v : Text) (ws : List Text) → ArePlain ws
    → (settled rule_list (end_of done v ws).held).rows ≡ rows_for (done ++ v ∷ ws)
settled_after [] v [] h = refl
settled_after (d ∷ ds) v [] h = refl
settled_after done v (w ∷ ws) h =
    ap (λ (s : Walk). (settled rule_list (fold (walked rule_list []) s ws).held).rows) (next_word done v w h.0)
    ∙ settled_after (done ++ v ∷ []) w ws h.1 ∙ ap rows_for (append_assoc done (v ∷ []) (w ∷ ws))

settle_after : (done : List Text) (v : Text) (ws : List Text) → ArePlain ws
    → settle_fault rule_list shape.args_override_self (end_of done v ws).held ≡ []
settle_after [] v [] h = refl
settle_after (d ∷ ds) v [] h = refl
settle_after done v (w ∷ ws) h =
    ap (λ (s : Walk). settle_fault rule_list shape.args_override_self (fold (walked rule_list []) s ws).held) (next_word done v w h.0)
    ∙ settle_after (done ++ v ∷ []) w ws h.1

stopped_after : (done : List Text) (v : Text) (ws : List Text) → ArePlain ws → (end_of done v ws).stopped ≡ None
stopped_after done v [] h = refl
stopped_after done v (w ∷ ws) h =
    ap (λ (s : Walk). (fold (walked rule_list []) s ws).stopped) (next_word done v w h.0)
    ∙ stopped_after (done ++ v ∷ []) w ws h.1

-- the faults of the whole parse, by those of its parts
abbrev level_of : Kinds → Option (Text × List Text) → Kinds → List Row → Kinds
level_of faults stopped settling rows =
    or_else faults (or_else (entered_fault (built farm_app) stopped) (or_else settling
    (or_else (defaults_fault rows rule_list) (check_fault shape (fold with_default rows rule_list) (is_some (entered (built farm_app) stopped))))))

abbrev start : List Text → Walk
start ws = fold (walked rule_list []) (walk_from nothing_held) ws

level_is : (w : Text) (ws : List Text)
    → fault_of farm_app (w ∷ ws) ≡ level_of (walk_fault shape [] (walk_from nothing_held) (w ∷ ws)) (start (w ∷ ws)).stopped
    (settle_fault rule_list shape.args_override_self (start (w ∷ ws)).held) (settled rule_list (start (w ∷ ws)).held).rows
level_is w ws = refl

no_faults : (w : Text) (ws : List Text) → level_of [] None [] (rows_for (w ∷ ws)) ≡ []
unfolding defaults_fault
no_faults w ws = refl

start_is : (w : Text) (ws : List Text) → IsPlain w → start (w ∷ ws) ≡ end_of [] w ws
start_is w ws h = ap (λ (s : Walk). fold (walked rule_list []) s ws) (first_word w h)

walk_is : (w : Text) (ws : List Text) → ArePlain (w ∷ ws) → walk_fault shape [] (walk_from nothing_held) (w ∷ ws) ≡ []
unfolding walk_fault
walk_is w ws h = rw (first_fault w h.0, first_word w h.0) (faults_after [] w ws h.1)

plain_faults : (w : Text) (ws : List Text) → ArePlain (w ∷ ws) → fault_of farm_app (w ∷ ws) ≡ []
plain_faults w ws h =
    level_is w ws
    ∙ ap (λ (k : Kinds). level_of k (start (w ∷ ws)).stopped (settle_fault rule_list shape.args_override_self (start (w ∷ ws)).held) (settled rule_list (start (w ∷ ws)).held).rows) (walk_is w ws h)
    ∙ ap (λ (s : Walk). level_of [] s.stopped (settle_fault rule_list shape.args_override_self s.held) (settled rule_list s.held).rows) (start_is w ws h.0)
    ∙ ap (λ (p : Option (Text × List Text)). level_of [] p (settle_fault rule_list shape.args_override_self (end_of [] w ws).held) (settled rule_list (end_of [] w ws).held).rows) (stopped_after [] w ws h.1)
    ∙ ap (λ (k : Kinds). level_of [] None k (settled rule_list (end_of [] w ws).held).rows) (settle_after [] w ws h.1)
    ∙ ap (λ (rows : List Row). level_of [] None [] rows) (settled_after [] w ws h.1)
    ∙ no_faults w ws

plain_rows : (w : Text) (ws : List Text) → ArePlain (w ∷ ws) → unwrap_or (all_of (codes "words") (matches_of farm_app (w ∷ ws))) [] ≡ w ∷ ws
plain_rows w ws h =
    ap (λ (s : Walk). unwrap_or (all_of (codes "words") (fold with_default (settled rule_list s.held).rows rule_list)) []) (start_is w ws h.0)
    ∙ ap (λ (rows : List Row). unwrap_or (all_of (codes "words") (fold with_default rows rule_list)) []) (settled_after [] w ws h.1)

-- the values, unless there is a fault
abbrev pub unless_fault : Kinds → List Text → Option (List Text)
unless_fault kinds values = if length kinds == 0 then Some values else None

pub unless_fault-Some : (kinds : Kinds) (values : List Text) → kinds ≡ [] → unless_fault kinds values ≡ Some values
unless_fault-Some [] values h = refl
unless_fault-Some (k ∷ ks) values h = cc

pub unless_fault-None : (kinds : Kinds) (values : List Text) → (kinds ≡ [] → ⊥) → unless_fault kinds values ≡ None
unless_fault-None [] values h = absurd (h refl)
unless_fault-None (k ∷ ks) values h = rw (ne_eqb (suc (length ks)) 0 (λ e. omega arith)) refl

no_word : values_of [] ≡ Some []
unfolding values_of walk_fault defaults_fault
no_word = refl

pub plain_values : (ws : List Text) → ArePlain ws → values_of ws ≡ Some ws
unfolding values_of
plain_values [] h = no_word
plain_values (w ∷ ws) h =
    unless_fault-Some (fault_of farm_app (w ∷ ws)) (unwrap_or (all_of (codes "words") (matches_of farm_app (w ∷ ws))) []) (plain_faults w ws h)
    ∙ ap (λ (v : List Text). Some v) (plain_rows w ws h)

-- what clap's matches say of the values
pub values_known : (ws : List Text) (rows : List Row) (vs : List Text) → fault_of farm_app ws ≡ [] → rows ≡ matches_of farm_app ws
    → vs ≡ unwrap_or (all_of (codes "words") rows) [] → values_of ws ≡ Some vs
unfolding values_of
values_known ws rows vs none found given =
    unless_fault-Some (fault_of farm_app ws) (unwrap_or (all_of (codes "words") (matches_of farm_app ws)) []) none
    ∙ ap (λ (v : List Text). Some v) (ap (λ (r : List Row). unwrap_or (all_of (codes "words") r) []) (sym found) ∙ sym given)

pub values_refused : (ws : List Text) → (fault_of farm_app ws ≡ [] → ⊥) → values_of ws ≡ None
unfolding values_of
values_refused ws h = unless_fault-None (fault_of farm_app ws) (unwrap_or (all_of (codes "words") (matches_of farm_app ws)) []) h
