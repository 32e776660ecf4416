-- A script that was run, as the command ends.
use Rattle.std.proofs.Common.{◌≡◌, ℕ, inl, Bool, true, false, List, [], length, take, refl, sym, subst, arith}
use Rattle.std.specs.Prelude.{None, Result}
use Rattle.std.proofs.lemmas.List.{take_all}
use Rattle.farm_base.specs.Outside.{Outside}
use Rattle.tile_store.specs.Stores.{StoreTold}
use Rattle.farm_history.specs.Entries.{Entry}
use Rattle.farm_plan.specs.Plans.{FarmPlan}
use Rattle.farm_refinement.specs.Seen.{FarmSeen}
use Rattle.farm_core.specs.Begins.{Begins}
use Rattle.script_lines.specs.declared.script.ScriptLine.{ScriptLine}
use Rattle.script_text.specs.Runs as script
use Rattle.script_text.specs.ScriptTexts.{ScriptText}
use Rattle.script_text.specs.declared.ends.ScriptEnd.{ScriptEnd}
use Rattle.script_text.specs.declared.ends.ScriptEnd.TheVariants.{Done, SinkFailed, NoMemory}
use Rattle.exit_status.specs.Ends.{SinkAt}
use Rattle.exit_status.specs.declared.stops.Stop.{Stop}
use Rattle.farm_files.specs.Inputs.{ScriptInputs}
use Rattle.script_text.specs.Left.{Leaves}
use Rattle.script_command.specs.Scripts.{ScriptsOn, Scripts}
use Rattle.script_command.specs.inner.Runs.{command_end}

module _ (plan : FarmPlan) (lines : List ScriptLine) (stands : List Entry → Type 0) (out out' : SinkAt) where
  -- the text of all lines is that of the first so many, as many as they are
  all_said : (after : List Entry) (text : List ℕ) → ScriptText plan lines [] after text → ScriptText plan (take (length lines) lines) [] after text
  all_said after text says = subst (λ (ls : List ScriptLine). ScriptText plan ls [] after text) (sym (take_all (length lines) lines (omega arith))) says

  -- how a script ran, by its end
  so : (failed : Bool) (how : ScriptEnd) → script.Runs plan lines [] stands out out' failed how → ScriptsOn plan lines stands out out' (command_end failed how)
  so false Done run = record {
    count = length lines;
    middle = run.after;
    text = run.text;
    says = all_said run.after run.text run.says;
    put = run.put;
    after = run.after;
    stood_for = run.stood_for;
    ran = (refl, refl, run.noted);
  }
  so true Done run = record {
    count = length lines;
    middle = run.after;
    text = run.text;
    says = all_said run.after run.text run.says;
    put = run.put;
    after = run.after;
    stood_for = run.stood_for;
    ran = (refl, refl, run.noted);
  }
  so failed SinkFailed run =
      record { count = run.count; middle = run.after; text = run.text; says = run.says; put = run.put; after = run.after; stood_for = run.stood_for; ran = refl }
  so failed NoMemory run = record {
    count = run.count;
    middle = run.middle;
    text = run.text;
    says = run.says;
    put = run.put;
    after = run.after;
    stood_for = run.stood_for;
    ran = (run.next, run.is_next, run.broke_off);
  }

  pub ran_on : (failed : Bool) (how : ScriptEnd) (end : Result (Unit {0}) Stop) → end ≡ command_end failed how → script.Runs plan lines [] stands out out' failed how
      → ScriptsOn plan lines stands out out' end
  ran_on failed how end is run = subst (λ (e : Result (Unit {0}) Stop). ScriptsOn plan lines stands out out' e) (sym is) (so failed how run)

-- a script on a farm of its plan
pub ran_over : {D : Type 0} (state : D → Outside StoreTold) (s : ScriptInputs) (store store' : D) (farm : FarmSeen D) (lines : List ScriptLine) (out out' : SinkAt) (end : Result (Unit {0}) Stop)
    → lines ≡ s.script → farm.plan ≡ s.inputs.plan → Begins state farm.plan None store farm
    → ((d : D) → Begins state farm.plan None d farm → Leaves state farm.plan d store' (λ stands. ScriptsOn farm.plan lines stands out out' end)) → Scripts state s store store' out out' end
ran_over state s store store' farm lines out out' end lines_is plan_is begins run =
    inl (subst (λ (ls : List ScriptLine). Leaves state s.inputs.plan store store' (λ stands. ScriptsOn s.inputs.plan ls stands out out' end)) lines_is
    (subst (λ (p : FarmPlan). Leaves state p store store' (λ stands. ScriptsOn p lines stands out out' end)) plan_is (run store begins)))
