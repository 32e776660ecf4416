-- Lines one after another.
use Rattle.std.proofs.Common.{◌≡◌, ℕ, ◌+◌, ◌≤◌, ◌<◌, List, [], ◌∷◌, ◌++◌, length, take, get_or, refl, sym, ap, subst, ◌∙◌, arith, append_assoc}
use Rattle.std.proofs.lemmas.List.{append-nil, take_more}
use Rattle.farm_history.specs.Entries.{Entry}
use Rattle.farm_plan.specs.Plans.{FarmPlan}
use Rattle.script_lines.specs.declared.script.ScriptLine.{ScriptLine}
use Rattle.script_text.specs.ScriptTexts.{LineText, LinesText}
use Rattle.script_text.specs.ScriptTexts as texts

pub no_lines : (plan : FarmPlan) (hand : List ℕ) (h : List Entry) → LinesText plan [] hand h hand h []
no_lines plan hand h = (refl, refl, refl)

-- one line behind others
pub lines_push : (plan : FarmPlan) (ls : List ScriptLine) (l : ScriptLine) (hand held hand' : List ℕ) (before middle after : List Entry) (text said : List ℕ)
    → LinesText plan ls hand before held middle text → LineText plan l held middle hand' after said → LinesText plan (ls ++ l ∷ []) hand before hand' after (text ++ said)
lines_push plan [] l hand held hand' before middle after text said first last = (
  hand',
  after,
  said,
  [],
  subst (λ (h : List Entry). LineText plan l hand h hand' after said) first.1 (subst (λ (ts : List ℕ). LineText plan l ts middle hand' after said) first.0 last),
  (refl, refl, refl),
  ap (λ (xs : List ℕ). xs ++ said) first.2 ∙ sym (append-nil said),
)
lines_push plan (x ∷ ls) l hand held hand' before middle after text said first last = (
  first.0,
  first.1,
  first.2,
  first.3 ++ said,
  first.4,
  lines_push plan ls l first.0 held hand' first.1 middle after first.3 said first.5 last,
  ap (λ (xs : List ℕ). xs ++ said) first.6 ∙ append_assoc first.2 first.3 said,
)

-- the same of the first lines of more
pub lines_more : (plan : FarmPlan) (ls : List ScriptLine) (i : ℕ) (l : ScriptLine) (hand held hand' : List ℕ) (before middle after : List Entry) (text said : List ℕ) → i < length ls → l ≡ get_or ls i l
    → LinesText plan (take i ls) hand before held middle text → LineText plan l held middle hand' after said → LinesText plan (take (i + 1) ls) hand before hand' after (text ++ said)
lines_more plan ls i l hand held hand' before middle after text said inside is first last =
    subst (λ (xs : List ScriptLine). LinesText plan xs hand before hand' after (text ++ said)) (sym (take_more ls i l inside ∙ ap (λ (x : ScriptLine). take i ls ++ x ∷ []) (sym is)))
    (lines_push plan (take i ls) l hand held hand' before middle after text said first last)

-- a line makes the history one entry longer at most
line_grows : (plan : FarmPlan) (l : ScriptLine) (hand : List ℕ) (before : List Entry) (hand' : List ℕ) (after : List Entry) (said : List ℕ) → LineText plan l hand before hand' after said → length after ≤ length before + 1
line_grows plan l hand before hand' after said (texts.unheard none same is) = let n = ap length is in omega (arith, n)
line_grows plan l hand before hand' after said (texts.entered e has is_entry says same is) = let n = ap length is in omega (arith, n)

pub lines_grow : (plan : FarmPlan) (ls : List ScriptLine) (hand : List ℕ) (before : List Entry) (hand' : List ℕ) (after : List Entry) (text : List ℕ) → LinesText plan ls hand before hand' after text
    → length after ≤ length before + length ls
lines_grow plan [] hand before hand' after text h = let n = ap length h.1 in omega (arith, n)
lines_grow plan (l ∷ ls) hand before hand' after text h =
    let one = line_grows plan l hand before h.0 h.1 h.2 h.4 in
    let rest = lines_grow plan ls h.0 h.1 hand' after h.3 h.5 in
    omega (arith, one, rest)
