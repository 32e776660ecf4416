-- From what a call did to what it promises.
use Rattle.std.proofs.Common.{◌≡◌, ◌≢◌, ℕ, ◌⊎◌, inl, inr, List, [], refl, sym, ap, subst, ◌∙◌}
use Rattle.std.specs.Prelude.{Option, Some, None, IfSome, Result, Ok, Err}
use Rattle.std.specs.Result.{result_map_both}
use Rattle.farm_base.specs.Outside.{Outside, Rose}
use Rattle.farm_base.specs.declared.sinks.SinkFault.{SinkFault}
use Rattle.tile_store.specs.Stores.{StoreTold}
use Rattle.exit_status.specs.Stops.{unreadable_line}
use Rattle.exit_status.specs.Ends.{SinkAt, PutsAll, EndsWith}
use Rattle.exit_status.specs.declared.stops.Stop.{Stop}
use Rattle.exit_status.specs.declared.stops.Stop.TheVariants as stop
use Rattle.exit_status.proofs.Outsides.{PutCounts, put_counts}
use Rattle.exit_status.proofs.Statuses.{puts_failed}
use Rattle.farm_files.specs.Course.{Course, made, refused, Leads}
use Rattle.farm_files.specs.inner.Follows.{Follows}
use Rattle.farm_files.specs.inner.Runs as calls
use Rattle.farm_files.proofs.Courses.{IsEnd, one_end, ended}
use Rattle.farm_files.specs.Inputs.{ServeInputs}
use Rattle.script_command.specs.Scripts.{Scripts}
use Rattle.load_command.specs.Runs.{Loads}
use Rattle.farm_refinement.specs.Seen.{FarmSeen}
use Rattle.farm_history.specs.Entries.{Entry}
use Rattle.farm_call.specs.inner.Serving as inner
use Rattle.farm_call.specs.inner.Serving.{World, HasServed, Serves}
use Rattle.farm_call.specs.declared.left.Left.{Left}
use Rattle.farm_call.specs.declared.left.Left.TheVariants.{Store, Farm}
use Rattle.farm_call.specs.Call.{CallBefore, CallAfter, Work, puts, scripts, loads, serves}
use Rattle.farm_call.specs.Words.{Asks}
use Rattle.farm_call.specs.Keeps.{ComesTo, FilesMake, FilesRefuse, SavedRefused, ReadFailed, Idle, ServesTo, Done, Worked, Cause, EndsFor, StoreFailed, TurnsAreGone, Unhindered, Served, Keeps}
use Rattle.farm_call.specs.inner.Works.{Does, world_before, world_after}
use Rattle.farm_call.proofs.Asked.{asks_one}
use Rattle.farm_call.proofs.Followed as follow
use Rattle.farm_call.proofs.Followed.{Followed, followed}
use Rattle.farm_call.proofs.Farms.{headline, resumed, sent_now, served_well}
use Rattle.farm_call.proofs.Whys.{Why, TurnsGone, by_store}
use Rattle.farm_call.proofs.Scripting.{scripts_stops, scripts_noticed}
use Rattle.farm_call.proofs.Loading.{loads_stops, loads_noticed}
use Rattle.farm_call.proofs.Serving.{serves_stops, serves_noticed, serves_fault}

-- ---- a put on out

stays : (put : Result (Unit {0}) SinkFault) (before now : ℕ) → ◌≡◌ {A = Result (Unit {0}) Stop} (Ok tt) (result_map_both (λ done. tt) (λ fault. stop.SinkFailed) put) → PutCounts before now put → now ≡ before
stays (Ok u) before now e counts = counts
stays (Err f) before now e counts = absurd (cc)

abbrev fails : Stop → Result (Unit {0}) Stop
fails s = Err s

-- a put after which the count is another has failed
puts_noticed : (out out' : SinkAt) (bytes : List ℕ) (end : Result (Unit {0}) Stop) → PutsAll out out' bytes end → out'.faults ≢ out.faults → end ≡ Err stop.SinkFailed
puts_noticed out out' bytes (Ok u) h other = absurd (other (stays h.put out.faults out'.faults h.ends (put_counts out out' bytes h.put h.puts)))
puts_noticed out out' bytes (Err s) h other = ap fails (puts_failed out out' bytes s h).0

-- ---- ends

-- where an end of one type is another, it is so of another type
end_of : (V : Type 0) (s q : Stop) → ended {A = V} s ≡ ended q → (end : Result (Unit {0}) Stop) → end ≡ ended s → end ≡ ended q
end_of V s q e end is = let same : s ≡ q = cc in is ∙ ap fails same

-- what is so where it is told, where it is told
pub record Told {A : Type 0} (o : Option A) (P : A → Type 0) : Type 0 where
  pub it : A
  pub is_told : o ≡ Some it
  pub so : P it

pub told : {A : Type 0} (o : Option A) (P : A → Type 0) → o ≢ None → IfSome o P → Told o P
told None P not h = absurd (not refl)
told (Some a) P not h = record { it = a; is_told = refl; so = h }

at_told : {A : Type 0} (o : Option A) (a : A) (P : A → Type 0) → o ≡ Some a → IfSome o P → P a
at_told {A} o a P e h = subst (λ (x : Option A). IfSome x P) e h

module _ {D : Type 0} (state : D → Outside StoreTold) (was : CallBefore D) (is : CallAfter D) where
  abbrev w : World D
  w = world_before was

  abbrev w' : World D
  w' = world_after is

  -- ---- the work

  by_put : (v : Work) (q : Stop) → (q ≡ stop.SinkFailed) × Rose was.out.faults is.out.faults → Why state v q w w'
  by_put v q h = subst (λ (x : Stop). Why state v x w w') (sym h.0) h.1

  same_store : (store : D) → w.left ≡ Store store → store ≡ was.store
  same_store store e = cc

  stops : (v : Work) (q : Stop) → Does state v w w' (Err q) → Why state v q w w'
  stops (puts text) q did = by_put (puts text) q (puts_failed was.out is.out text q did.0)
  stops (scripts x) q did = by_store state (scripts x) w w' did.0 did.1 did.2 did.3 q (scripts_stops state x did.0 did.1 was.out is.out q did.5)
  stops (loads seed n) q did = by_store state (loads seed n) w w' did.0 did.1 did.2 did.3 q (loads_stops state seed n did.0 did.1 was.out is.out q did.5)
  stops (serves x) q did = serves_stops state was is x q (subst (λ (d : D). Serves state x d w w' (Err q)) (same_store did.0 did.1) did.2)

  noticed : (v : Work) (end : Result (Unit {0}) Stop) → Does state v w w' end → is.out.faults ≢ was.out.faults → end ≡ Err stop.SinkFailed
  noticed (puts text) end did other = puts_noticed was.out is.out text end did.0 other
  noticed (scripts x) end did other = scripts_noticed state x did.0 did.1 was.out is.out end did.5 other
  noticed (loads seed n) end did other = loads_noticed state seed n did.0 did.1 was.out is.out end did.5 other
  noticed (serves x) end did other = serves_noticed state was is x end (subst (λ (d : D). Serves state x d w w' end) (same_store did.0 did.1) did.2) other

  serves_to : (x : ServeInputs) (end : Result (Unit {0}) Stop) (l : Left D) → is.left ≡ l → inner.ServesTo state x was.store w w' end l → ServesTo state was is x end l
  serves_to x end (Store store) left_is h = (h.why, h.end_is, h.silent, h.why_not)
  serves_to x end (Farm closed) left_is h = served_well state was is x closed left_is end h

  done_so : (v : Work) (end : Result (Unit {0}) Stop) → Does state v w w' end → Done state was is v end
  done_so (puts text) end did = (did.0, record { store = was.store; left = did.1; ports = did.2.1; it_holds = refl })
  done_so (scripts x) end did =
      record { store = did.1; left = did.3; ports = did.4.1; it_holds = subst (λ (d : D). Scripts state x d did.1 was.out is.out end) (same_store did.0 did.2) did.5 }
  done_so (loads seed n) end did =
      record { store = did.1; left = did.3; ports = did.4.1; it_holds = subst (λ (d : D). Loads state seed n d did.1 was.out is.out end) (same_store did.0 did.2) did.5 }
  done_so (serves x) end did = serves_to x end is.left refl (subst (λ (d : D). Serves state x d w w' end) (same_store did.0 did.1) did.2)

  no_fronts_of : (v : Work) (end : Result (Unit {0}) Stop) → Does state v w w' end → (store : D) → is.left ≡ Store store → is.fronts ≡ []
  no_fronts_of (puts text) end did store left = did.2.0
  no_fronts_of (scripts x) end did store left = did.4.0
  no_fronts_of (loads seed n) end did store left = did.4.0
  no_fronts_of (serves x) end did store left = (subst (λ (l : Left D). inner.ServesTo state x did.0 w w' end l) left did.2).no_fronts

  -- ---- the call, as it ended

  -- nothing was done, and no fronts were started
  abbrev Idles : Type 0
  Idles = Idle state was is × (is.fronts ≡ [])

  idles : w' ≡ w → Idles
  idles same = (
    (
      ap (λ (x : World D). x.out) same,
      record { store = was.store; left = ap (λ (x : World D). x.left) same; ports = ap (λ (x : World D). x.ports) same; it_holds = refl },
    ),
    ap (λ (x : World D). x.fronts) same,
  )

  data Ran (end : Result (Unit {0}) Stop) : Type 0 where
    worked : (v : Work) → FilesMake state was is v → is.files ≡ was.files → Does state v w w' end → Ran end
    refuses : (line : List ℕ) → FilesRefuse state was is line → is.files ≡ was.files → Idles → end ≡ Err (stop.Refused line) → Ran end
    misses : (line : List ℕ) → ReadFailed state was is line → Idles → (end ≡ Err (stop.Unreadable line)) ⊎ (end ≡ Err stop.NoMemory) → Ran end
    words : ((course : Course Work) → ¬ (Asks was.words course)) → is.files ≡ was.files → Idles → end ≡ Err stop.Words → Ran end
    wants : is.files ≡ was.files → Idles → end ≡ Err stop.NoMemory → Ran end

  value_worked : (c : Course Work) → Asks was.words c → (v : Work) (end : Result (Unit {0}) Stop) → Followed c was.files is.files (Ok v) → Does state v w w' end → Ran end
  value_worked c asks v end (follow.makes u e m same) did =
      let is_v : u ≡ v = cc in
      worked v (record { course = c; asks = asks; leads = subst (λ (x : Work). IfSome was.files.told (λ t. Leads t.content c (made x))) is_v m }) same did
  value_worked c asks v end (follow.refuses line e m same) did = absurd (cc)
  value_worked c asks v end (follow.misses name on (inl e) m failed rose) did = absurd (cc)
  value_worked c asks v end (follow.misses name on (inr e) m failed rose) did = absurd (cc)
  value_worked c asks v end (follow.wants e same) did = absurd (cc)

  no_value : (c : Course Work) → Asks was.words c → (s : Stop) (end : Result (Unit {0}) Stop) → Followed c was.files is.files (ended {A = Work} s) → end ≡ Err s → w' ≡ w → Ran end
  no_value c asks s end (follow.makes u e m same) end_is idle = absurd (cc)
  no_value c asks s end (follow.refuses line e m same) end_is idle =
      refuses line (record { course = c; asks = asks; leads = m }) same (idles idle) (end_of Work s (stop.Refused line) e end end_is)
  no_value c asks s end (follow.misses name on (inl e) m failed rose) end_is idle =
      misses (unreadable_line name) (record { name = name; on = on; next = record { course = c; asks = asks; leads = m }; line_is = refl; failed = failed; rose = rose }) (idles idle)
      (inl (end_of Work s (stop.Unreadable (unreadable_line name)) e end end_is))
  no_value c asks s end (follow.misses name on (inr e) m failed rose) end_is idle =
      misses (unreadable_line name) (record { name = name; on = on; next = record { course = c; asks = asks; leads = m }; line_is = refl; failed = failed; rose = rose }) (idles idle)
      (inr (end_of Work s stop.NoMemory e end end_is))
  no_value c asks s end (follow.wants e same) end_is idle = wants same (idles idle) (end_of Work s stop.NoMemory e end end_is)

  works_ran : (c : Course Work) → Asks was.words c → (course_end : Result Work Stop) (end : Result (Unit {0}) Stop) → Follows c was.files is.files course_end → calls.Goes (Does state) w w' end course_end → Ran end
  works_ran c asks (Ok v) end h goes = value_worked c asks v end (followed c was.files is.files (Ok v) h) goes
  works_ran c asks (Err s) end h goes = no_value c asks s end (followed c was.files is.files (ended {A = Work} s) h) goes.0 goes.1

  ran : (end : Result (Unit {0}) Stop) → calls.Runs (Asks was.words) (Does state) was.files is.files w w' end → Ran end
  ran end (inl run) = works_ran run.0 run.1 run.2.made end run.2.followed run.2.goes
  ran end (inr (inl none)) = words none.0 none.1.files_same (idles none.1.world_same) none.1.ends
  ran end (inr (inr want)) = wants want.files_same (idles want.world_same) want.ends

  turns_are_gone : TurnsGone state w' → TurnsAreGone state was is
  turns_are_gone gone = (gone.0.0, gone.0.1, gone.1, gone.2)

  -- ---- why it ended

  -- what is saved is refused, of the work that is asked
  saved_refused : (v : Work) → FilesMake state was is v → (line : List ℕ) → Why state v (stop.Refused line) w w' → SavedRefused state was is line
  saved_refused v asked line why =
      record { served = why.served; asked = subst (λ (x : Work). FilesMake state was is x) why.is_work asked; resume = why.resume; why = why.why; fault = why.fault; line_is = why.line_is }

  worked_for : (v : Work) → FilesMake state was is v → is.files ≡ was.files → (end : Result (Unit {0}) Stop) → Does state v w w' end → Worked state was is end
  worked_for v asked files end did = record { work = v; asked = asked; files = files; done = done_so v end did }

  stopped_for : (v : Work) → FilesMake state was is v → is.files ≡ was.files → (q : Stop) → Why state v q w w' → Worked state was is (Err q) → Cause state was is (Err q)
  stopped_for v asked files (stop.Refused line) why did =
      (files, inr (saved_refused v asked line why, why.out, record { store = why.store; left = why.left; ports = why.ports; it_holds = why.shows }))
  stopped_for v asked files stop.Words why did = absurd why
  stopped_for v asked files (stop.Unreadable line) why did = absurd why
  stopped_for v asked files stop.SinkFailed why did = did
  stopped_for v asked files stop.NoMemory why did = inr did
  stopped_for v asked files stop.StoreFailed why did = did
  stopped_for v asked files stop.PortsFailed why did = did
  stopped_for v asked files stop.TurnsUsedUp why did = did

  worked_cause : (v : Work) → FilesMake state was is v → is.files ≡ was.files → (end : Result (Unit {0}) Stop) → Does state v w w' end → Cause state was is end
  worked_cause v asked files (Ok u) did = worked_for v asked files (Ok tt) did
  worked_cause v asked files (Err q) did = stopped_for v asked files q (stops v q did) (worked_for v asked files (Err q) did)

  cause : (end : Result (Unit {0}) Stop) → Ran end → Cause state was is end
  cause end (worked v asked files did) = worked_cause v asked files end did
  cause end (refuses line file files idle e) = subst (Cause state was is) (sym e) (files, inl (file, idle.0))
  cause end (misses line read idle (inl e)) = subst (Cause state was is) (sym e) (read, idle.0)
  cause end (misses line read idle (inr e)) = subst (Cause state was is) (sym e) (inl (idle.0, inr (line, read)))
  cause end (words none files idle e) = subst (Cause state was is) (sym e) (none, files, idle.0)
  cause end (wants files idle e) = subst (Cause state was is) (sym e) (inl (idle.0, inl files))

  no_fronts : (end : Result (Unit {0}) Stop) → Ran end → (store : D) → is.left ≡ Store store → is.fronts ≡ []
  no_fronts end (worked v asked files did) = no_fronts_of v end did
  no_fronts end (refuses line file files idle e) = λ store left. idle.1
  no_fronts end (misses line read idle e) = λ store left. idle.1
  no_fronts end (words none files idle e) = λ store left. idle.1
  no_fronts end (wants files idle e) = λ store left. idle.1

  -- ---- where a farm is left

  module _ (farm : FarmSeen D) (turns : List (ℕ × Entry)) (left : is.left ≡ Farm (farm, turns)) where
    not_store : (store : D) → ¬ (is.left ≡ Store store)
    not_store store e = let both = sym left ∙ e in cc

    serving : (v : Work) → FilesMake state was is v → is.files ≡ was.files → (end : Result (Unit {0}) Stop) → Does state v w w' end → Served state was is farm turns end
    serving (puts text) asked files end did = absurd (not_store was.store did.1)
    serving (scripts x) asked files end did = absurd (not_store did.1 did.3)
    serving (loads seed n) asked files end did = absurd (not_store did.1 did.3)
    serving (serves x) asked files end did =
        let h : HasServed state x was.store (farm, turns) w w' end = subst (λ (l : Left D). inner.ServesTo state x was.store w w' end l) left (subst (λ (d : D). Serves state x d w w' end) (same_store did.0 did.1) did.2) in
        record {
          headline = headline state was is x (farm, turns) left end h;
          resumed = resumed state was is x (farm, turns) left end h;
          sent_now = sent_now state was is x (farm, turns) left end h;
          inputs = x;
          asked = asked;
          files = files;
          well = served_well state was is x (farm, turns) left end h;
        }

    served : (end : Result (Unit {0}) Stop) → Ran end → Served state was is farm turns end
    served end (worked v asked files did) = serving v asked files end did
    served end (refuses line file files idle e) = absurd (not_store idle.0.1.store idle.0.1.left)
    served end (misses line read idle e) = absurd (not_store idle.0.1.store idle.0.1.left)
    served end (words none files idle e) = absurd (not_store idle.0.1.store idle.0.1.left)
    served end (wants files idle e) = absurd (not_store idle.0.1.store idle.0.1.left)

  -- ---- and it ends so wherever there is cause

  module _ (end : Result (Unit {0}) Stop) (how : Ran end) where
    none_asked : ((course : Course Work) → ¬ (Asks was.words course)) → EndsFor state was is end stop.Words
    none_asked nothing = by_end how
      where
        by_end : Ran end → EndsFor state was is end stop.Words
        by_end (worked v asked files did) = absurd (nothing asked.course asked.asks)
        by_end (refuses line file files idle e) = absurd (nothing file.course file.asks)
        by_end (misses line read idle e) = absurd (nothing read.next.course read.next.asks)
        by_end (words none files idle e) = inl e
        by_end (wants files idle e) = inr e

    -- the files lead what is asked to one end
    same_end : was.files.told ≢ None → (x y : Course Work) → IsEnd x → IsEnd y → ComesTo state was is x → ComesTo state was is y → x ≡ y
    same_end known x y ends also a b =
        let first = told was.files.told (λ t. Leads t.content a.course x) known a.leads in
        let second = at_told was.files.told first.it (λ t. Leads t.content b.course y) first.is_told b.leads in
        one_end first.it.content a.course x y ends also first.so
        (subst (λ (c : Course Work). Leads first.it.content c y) (asks_one was.words b.course a.course b.asks a.asks) second)

    -- where they make something of it, no file is refused
    no_fault : was.files.told ≢ None → (v : Work) → FilesMake state was is v → (line : List ℕ) → FilesRefuse state was is line → ⊥
    no_fault known v a line b = let same : made v ≡ refused line = same_end known (made v) (refused line) tt tt a b in absurd (cc)

    same_fault : was.files.told ≢ None → (line other : List ℕ) → FilesRefuse state was is line → FilesRefuse state was is other → line ≡ other
    same_fault known line other a b =
        let same : ◌≡◌ {A = Course Work} (refused line) (refused other) = same_end known (refused line) (refused other) tt tt a b in cc

    same_work : was.files.told ≢ None → (v u : Work) → FilesMake state was is v → FilesMake state was is u → v ≡ u
    same_work known v u a b = let same : made v ≡ made u = same_end known (made v) (made u) tt tt a b in cc

    file_refused : (line : List ℕ) → was.files.told ≢ None → FilesRefuse state was is line → ¬ (Rose was.files.faults is.files.faults) → EndsFor state was is end (stop.Refused line)
    file_refused line known file calm = by_end how
      where
        by_end : Ran end → EndsFor state was is end (stop.Refused line)
        by_end (worked v asked files did) = absurd (no_fault known v asked line file)
        by_end (refuses other also files idle e) = inl (e ∙ ap (λ (l : List ℕ). fails (stop.Refused l)) (same_fault known other line also file))
        by_end (misses other read idle e) = absurd (calm read.rose)
        by_end (words none files idle e) = absurd (none file.course file.asks)
        by_end (wants files idle e) = inr e

    store_refused : (line : List ℕ) → was.files.told ≢ None → (state was.store).told ≢ None → SavedRefused state was is line → ¬ (Rose was.files.faults is.files.faults) → ¬ (StoreFailed state was is) → EndsFor state was is end (stop.Refused line)
    store_refused line known shown bad calm kept = by_end how
      where
        by_work : (v : Work) → v ≡ serves bad.served → Does state v w w' end → EndsFor state was is end (stop.Refused line)
        by_work v e did =
            let here : Does state (serves bad.served) w w' end = subst (λ (x : Work). Does state x w w' end) e did in
            serves_fault state was is bad.served end (subst (λ (d : D). Serves state bad.served d w w' end) (same_store here.0 here.1) here.2) bad.resume shown bad.why bad.fault line bad.line_is kept

        by_end : Ran end → EndsFor state was is end (stop.Refused line)
        by_end (worked v asked files did) = by_work v (same_work known v (serves bad.served) asked bad.asked) did
        by_end (refuses other file files idle e) = absurd (no_fault known (serves bad.served) bad.asked other file)
        by_end (misses other read idle e) = absurd (calm read.rose)
        by_end (words none files idle e) = absurd (none bad.asked.course bad.asked.asks)
        by_end (wants files idle e) = inr e

    read_failed : is.files ≢ was.files → (line : List ℕ) × EndsFor state was is end (stop.Unreadable line)
    read_failed other = by_end how
      where
        by_end : Ran end → (line : List ℕ) × EndsFor state was is end (stop.Unreadable line)
        by_end (worked v asked files did) = absurd (other files)
        by_end (refuses line file files idle e) = absurd (other files)
        by_end (misses line read idle e) = (line, e)
        by_end (words none files idle e) = absurd (other files)
        by_end (wants files idle e) = absurd (other files)

    unput : is.out.faults ≢ was.out.faults → end ≡ Err stop.SinkFailed
    unput other = by_end how
      where
        kept : Idles → ⊥
        kept idle = other (ap (λ (x : SinkAt). x.faults) idle.0.0)

        by_end : Ran end → end ≡ Err stop.SinkFailed
        by_end (worked v asked files did) = noticed v end did other
        by_end (refuses line file files idle e) = absurd (kept idle)
        by_end (misses line read idle e) = absurd (kept idle)
        by_end (words none files idle e) = absurd (kept idle)
        by_end (wants files idle e) = absurd (kept idle)

    complete : was.files.told ≢ None → (v : Work) → FilesMake state was is v → Unhindered state was is → (end ≡ Ok tt) ⊎ (end ≡ Err stop.NoMemory)
    complete known v asks free = by_end how
      where
        by_why : (u : Work) → FilesMake state was is u → (q : Stop) → Why state u q w w' → (fails q ≡ Ok tt) ⊎ (fails q ≡ Err stop.NoMemory)
        by_why u asked (stop.Refused line) why = absurd (free.saved line (saved_refused u asked line why))
        by_why u asked stop.Words why = absurd why
        by_why u asked (stop.Unreadable line) why = absurd why
        by_why u asked stop.SinkFailed why = absurd (free.out why)
        by_why u asked stop.NoMemory why = inr refl
        by_why u asked stop.StoreFailed why = absurd (free.store why)
        by_why u asked stop.PortsFailed why = absurd (free.ports why)
        by_why u asked stop.TurnsUsedUp why = absurd (free.turns (turns_are_gone why))

        by_work : (u : Work) → FilesMake state was is u → (e : Result (Unit {0}) Stop) → Does state u w w' e → (e ≡ Ok tt) ⊎ (e ≡ Err stop.NoMemory)
        by_work u asked (Ok done) did = inl refl
        by_work u asked (Err q) did = by_why u asked q (stops u q did)

        by_end : Ran end → (end ≡ Ok tt) ⊎ (end ≡ Err stop.NoMemory)
        by_end (worked u asked files did) = by_work u asked end did
        by_end (refuses line file files idle e) = absurd (no_fault known v asks line file)
        by_end (misses line read idle e) = absurd (free.files read.rose)
        by_end (words none files idle e) = absurd (none asks.course asks.asks)
        by_end (wants files idle e) = inr e

    -- an end of these comes of work alone
    abbrev OfWork : Stop → Type 0
    OfWork stop.SinkFailed = Unit {0}
    OfWork stop.StoreFailed = Unit {0}
    OfWork stop.PortsFailed = Unit {0}
    OfWork stop.TurnsUsedUp = Unit {0}
    OfWork other = ⊥

    not_early : (q s : Stop) → end ≡ Err q → end ≡ Err s → OfWork q → OfWork s
    not_early q s e f of = let both : fails q ≡ fails s = sym e ∙ f in let same : q ≡ s = cc in subst OfWork same of

    why_of : (q : Stop) → OfWork q → end ≡ Err q → (v : Work) × Why state v q w w'
    why_of q of e = by_end how
      where
        by_end : Ran end → (v : Work) × Why state v q w w'
        by_end (worked v asked files did) = (v, stops v q (subst (λ (x : Result (Unit {0}) Stop). Does state v w w' x) e did))
        by_end (refuses line file files idle f) = absurd (not_early q (stop.Refused line) e f of)
        by_end (misses line read idle (inl f)) = absurd (not_early q (stop.Unreadable line) e f of)
        by_end (misses line read idle (inr f)) = absurd (not_early q stop.NoMemory e f of)
        by_end (words none files idle f) = absurd (not_early q stop.Words e f of)
        by_end (wants files idle f) = absurd (not_early q stop.NoMemory e f of)

  -- ---- all of it

  -- what a call keeps that runs so and then reports its end
  pub keeps : EndsWith (calls.Runs (Asks was.words) (Does state) was.files is.files w w') was.err is.err is.status → Keeps state was is
  keeps call =
      let end = call.end in
      let how : Ran call.end = ran call.end call.ran in
      record {
        end = end;
        report = call.reports;
        cause = cause call.end how;
        served = λ farm turns left. served farm turns left call.end how;
        no_fronts = no_fronts call.end how;
        no_words = none_asked call.end how;
        refused = file_refused call.end how;
        saved_refused = store_refused call.end how;
        unread = read_failed call.end how;
        unput = unput call.end how;
        complete = complete call.end how;
        sink_lost = λ e. (why_of call.end how stop.SinkFailed tt e).1;
        store_lost = λ e. (why_of call.end how stop.StoreFailed tt e).1;
        ports_lost = λ e. (why_of call.end how stop.PortsFailed tt e).1;
        turns_gone = λ e. turns_are_gone (why_of call.end how stop.TurnsUsedUp tt e).1;
      }
