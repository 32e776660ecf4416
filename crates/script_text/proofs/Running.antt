-- A script, line by line.
use Rattle.std.proofs.Common.{◌≡◌, ℕ, ◌+◌, ◌^◌, ◌<◌, ◌≤◌, Bool, false, ◌||◌, List, [], ◌++◌, length, take, get_or, refl, sym, ap, subst, ◌∙◌, arith}
use Rattle.std.specs.Prelude.{Some, Ok, Err, slice_get}
use Rattle.std.proofs.lemmas.List.{length-take, take_all}
use Rattle.std.proofs.lemmas.Option.{slice_get-get_or}
use Rattle.std.proofs.Math.Bool.{or_assoc}
use Rattle.farm_base.specs.Outside.{Outside, Puts}
use Rattle.farm_base.specs.declared.memory.NoMemory.{NoMemory}
use Rattle.farm_base.specs.declared.sinks.SinkFault.{SinkFault}
use Rattle.farm_base.specs.declared.sinks.SinkFault.TheVariants.{Failed}
use Rattle.tile_store.specs.Stores.{StoreTold}
use Rattle.farm_history.specs.Entries.{Entry}
use Rattle.farm_plan.specs.Plans.{FarmPlan}
use Rattle.farm_plan.specs.Jobs.{JobSeen}
use Rattle.farm_refinement.specs.Seen.{FarmSeen}
use Rattle.farm_refinement.specs.Stands.{StandsFor}
use Rattle.script_lines.specs.declared.script.ScriptLine.{ScriptLine}
use Rattle.script_text.specs.ScriptTexts.{has_failed, LinesText}
use Rattle.script_text.specs.Runs.{RunsAll, RunsCut, RunsShort}
use Rattle.script_text.specs.inner.Hands.{tickets, HandStands}
use Rattle.script_text.specs.inner.Progress.{Goes}
use Rattle.script_text.specs.inner.Steps.{SaidSeen, Answers}
use Rattle.script_text.proofs.Holding.{no_hand}
use Rattle.script_text.proofs.Lines.{no_lines, lines_more, lines_grow}
use Rattle.script_text.proofs.Puts.{puts_nothing, puts_then}

module _ {D : Type 0} (state : D → Outside StoreTold) (told : Bool) (plan : FarmPlan) (lines : List ScriptLine) (before : List Entry) where
  -- before the first line
  pub goes_first : (farm : FarmSeen D) (out : Outside (List ℕ)) (hand : List JobSeen) → hand ≡ [] → StandsFor state told farm before → Goes state told plan lines 0 before farm hand out out false
  goes_first farm out hand none stands = record {
    after = before;
    stands = stands;
    text = [];
    says = subst (λ (js : List JobSeen). LinesText plan [] [] before (tickets js) before []) (sym none) (no_lines plan [] before);
    held = subst (λ (js : List JobSeen). HandStands plan before js) (sym none) (no_hand plan before);
    put = puts_nothing out;
    noted = refl;
  }

  -- so many lines are few events
  pub goes_few : (count : ℕ) (old farm : FarmSeen D) (hand : List JobSeen) (out out' : Outside (List ℕ)) (failed : Bool) → count ≤ 1000000 → StandsFor state told old before → old.counts.turns < 2 ^ 62
      → Goes state told plan lines count before farm hand out out' failed → farm.counts.turns < 2 ^ 63
  goes_few count old farm hand out out' failed some stood few goes =
      let grown = lines_grow plan (take count lines) [] before (tickets hand) goes.after goes.text goes.says in
      let short = length-take count lines in
      omega (arith, grown, short, some, few, goes.stands.counts_are.turns_are, stood.counts_are.turns_are)

  -- a line was answered
  pub goes_more : (count : ℕ) (l : ScriptLine) (farm farm' : FarmSeen D) (hand hand' : List JobSeen) (out middle out' : Outside (List ℕ)) (said : SaidSeen) (failed : Bool) → count < length lines → l ≡ get_or lines count l → farm.plan ≡ plan
      → (goes : Goes state told plan lines count before farm hand out middle failed) → Answers state told farm' farm.plan l goes.after hand hand' (Ok said) → Puts middle out' said.text (Ok tt)
      → Goes state told plan lines (count + 1) before farm' hand' out out' (said.failed || failed)
  goes_more count l farm farm' hand hand' out middle out' said failed inside is own goes answers puts =
      let mine = subst (λ (p : FarmPlan). Answers state told farm' p l goes.after hand hand' (Ok said)) own answers in
      record {
        after = mine.0;
        stands = mine.1;
        text = goes.text ++ said.text;
        says = lines_more plan lines count l [] (tickets hand) (tickets hand') before goes.after mine.0 goes.text said.text inside is goes.says mine.2;
        held = mine.3;
        put = puts_then out middle out' goes.text said.text (Ok tt) goes.put puts;
        noted = mine.4 ∙ ap (λ (b : Bool). said.failed || b) goes.noted ∙ sym (or_assoc said.failed failed (has_failed before));
      }

  -- its answer was cut
  pub goes_cut : (count : ℕ) (l : ScriptLine) (farm farm' : FarmSeen D) (hand hand' : List JobSeen) (out middle out' : Outside (List ℕ)) (said : SaidSeen) (failed : Bool) (fault : SinkFault) → count < length lines → l ≡ get_or lines count l → farm.plan ≡ plan
      → (goes : Goes state told plan lines count before farm hand out middle failed) → Answers state told farm' farm.plan l goes.after hand hand' (Ok said) → Puts middle out' said.text (Err fault)
      → RunsCut plan lines before (λ h. StandsFor state told farm' h) out out'
  goes_cut count l farm farm' hand hand' out middle out' said failed fault inside is own goes answers puts =
      let mine = subst (λ (p : FarmPlan). Answers state told farm' p l goes.after hand hand' (Ok said)) own answers in
      record {
        count = count + 1;
        after = mine.0;
        stood_for = mine.1;
        text = goes.text ++ said.text;
        says = (tickets hand', lines_more plan lines count l [] (tickets hand) (tickets hand') before goes.after mine.0 goes.text said.text inside is goes.says mine.2);
        put = puts_then out middle out' goes.text said.text (Err Failed) goes.put puts;
      }

  -- it found no memory
  pub goes_short : (count : ℕ) (l : ScriptLine) (farm farm' : FarmSeen D) (hand hand' : List JobSeen) (out out' : Outside (List ℕ)) (failed : Bool) (wanting : NoMemory) → count < length lines → l ≡ get_or lines count l → farm.plan ≡ plan
      → (goes : Goes state told plan lines count before farm hand out out' failed) → Answers state told farm' farm.plan l goes.after hand hand' (Err wanting)
      → RunsShort plan lines before (λ h. StandsFor state told farm' h) out out'
  goes_short count l farm farm' hand hand' out out' failed wanting inside is own goes answers =
      let mine = subst (λ (p : FarmPlan). Answers state told farm' p l goes.after hand hand' (Err wanting)) own answers in
      record {
        count = count;
        next = l;
        is_next = slice_get-get_or lines count l inside ∙ ap Some (sym is);
        middle = goes.after;
        after = mine.0;
        stood_for = mine.1;
        text = goes.text;
        says = (tickets hand, goes.says);
        broke_off = mine.2;
        put = goes.put;
      }

  -- all lines were run
  pub goes_all : (count : ℕ) (farm : FarmSeen D) (hand : List JobSeen) (out out' : Outside (List ℕ)) (failed : Bool) → length lines ≤ count → Goes state told plan lines count before farm hand out out' failed
      → RunsAll plan lines before (λ h. StandsFor state told farm h) out out' failed
  goes_all count farm hand out out' failed past goes = record {
    after = goes.after;
    stood_for = goes.stands;
    noted = goes.noted;
    text = goes.text;
    says = (tickets hand, subst (λ (ls : List ScriptLine). LinesText plan ls [] before (tickets hand) goes.after goes.text) (take_all count lines past) goes.says);
    put = goes.put;
  }
