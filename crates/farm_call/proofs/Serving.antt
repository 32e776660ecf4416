-- How a served farm ends, as a call asks it of work.
use Rattle.std.proofs.Common.{◌≡◌, ◌≢◌, ℕ, ◌⊎◌, inl, inr, ◌+◌, ◌-◌, ◌≤◌, ◌^◌, min, Bool, true, false, ◌||◌, if◌then◌else◌, List, length, map, refl, sym, ap, subst, ◌∙◌, arith}
use Rattle.std.specs.Prelude.{Option, Some, None, Result, Ok, Err, IfSome}
use Rattle.std.specs.List.{list_any}
use Rattle.std.proofs.lemmas.Bool.{or_cases}
use Rattle.farm_base.specs.Outside.{Outside, Rose, Counted}
use Rattle.farm_base.specs.Outside as sink
use Rattle.farm_base.specs.declared.sinks.SinkFault.{SinkFault}
use Rattle.tile_store.specs.Stores.{StoreTold}
use Rattle.tile_store.specs.declared.stores.StoreFault.TheVariants as fault
use Rattle.reactor_ports.specs.declared.ends.FrontEnd.{FrontEnd}
use Rattle.reactor_ports.specs.declared.events.PortFault.{PortFault}
use Rattle.reactor_ports.specs.declared.events.PortFault.TheVariants as port_fault
use Rattle.reactor_ports.specs.Told.{PortsTold, ListenCounts}
use Rattle.exit_status.specs.Stops.{refused_line}
use Rattle.exit_status.specs.Ends.{SinkAt}
use Rattle.exit_status.specs.declared.stops.Stop.{Stop}
use Rattle.exit_status.specs.declared.stops.Stop.TheVariants as stop
use Rattle.farm_history.specs.declared.answers.Tally.{Tally as Totals}
use Rattle.farm_history.specs.Replays.{Saving}
use Rattle.farm_plan.specs.Plans.{FarmPlan}
use Rattle.farm_refinement.specs.Seen.{FarmSeen}
use Rattle.farm_config.specs.Configs.{Config}
use Rattle.farm_files.specs.Inputs.{ServeInputs}
use Rattle.farm_refinement.specs.Stands.{StandsFor, failures}
use Rattle.script_answers.specs.Answers.{tally_line}
use Rattle.farm_shared.specs.Shared.{lasting_of, past}
use Rattle.farm_runs.specs.declared.each_front.EachFront.{EachFront}
use Rattle.farm_shared.specs.declared.lasting.LastingPart.{LastingPart}
use Rattle.farm_call.specs.Listens.{ListenEnds, Listening, listen_end}
use Rattle.tile_paths.specs.Paths.{saved_path}
use Rattle.farm_call.specs.Beginnings.{HasBegun, CannotBegin, IsSavedIn, RefusesFor, ResumesFrom, resumed_by}
use Rattle.farm_call.specs.Endings.{is_front_worn, is_broken, is_wanting, end_after_put, TellsCounts}
use Rattle.farm_call.specs.Savings.{MaySave}
use Rattle.farm_call.specs.Serves.{ClosedFarm, WhyNot, places, fronts_of, end_of, is_worn_out}
use Rattle.farm_call.specs.inner.Serving.{World, HasServed, NotServed, Serves, ServesTo}
use Rattle.farm_call.specs.declared.left.Left.{Left}
use Rattle.farm_call.specs.declared.left.Left.TheVariants.{Store, Farm}
use Rattle.farm_call.specs.Call.{CallBefore, CallAfter, serves, store_of, PortsRose}
use Rattle.farm_call.proofs.Whys as whys
use Rattle.farm_call.specs.inner.Works.{world_before, world_after}
use Rattle.farm_call.proofs.Farms.{gone_turns}

-- ---- listening

listen_ok : (address : List ℕ) (a b : Outside PortsTold) → ListenEnds address a b (Ok tt) → b.faults ≡ a.faults
listen_ok address a b h = by_answer h.answer h.counts h.end_is
  where
    by_answer : (answer : Result (Unit {0}) PortFault) → ListenCounts a.faults b.faults answer → Ok tt ≡ listen_end answer → b.faults ≡ a.faults
    by_answer (Ok u) counts is = counts
    by_answer (Err f) counts is = absurd (cc)

listen_err : (address : List ℕ) (a b : Outside PortsTold) (why : Stop) → ListenEnds address a b (Err why) → ((why ≡ stop.PortsFailed) × Rose a.faults b.faults) ⊎ (why ≡ stop.NoMemory)
listen_err address a b why h = by_answer h.answer h.counts h.end_is
  where
    by_answer : (answer : Result (Unit {0}) PortFault) → ListenCounts a.faults b.faults answer → Err why ≡ listen_end answer → ((why ≡ stop.PortsFailed) × Rose a.faults b.faults) ⊎ (why ≡ stop.NoMemory)
    by_answer (Ok u) counts is = absurd (cc)
    by_answer (Err port_fault.Failed) counts is = inl (cc, counts.1)
    by_answer (Err port_fault.NoMemory) counts is = inr (cc)

abbrev fails : Stop → Result (Unit {0}) Stop
fails why = Err why

module _ (config : Config) (p q : EachFront (Outside PortsTold)) where
  -- why the listening ended early
  abbrev Fails : Stop → Type 0
  Fails why = ((why ≡ stop.PortsFailed) × PortsRose p q) ⊎ (why ≡ stop.NoMemory)

  from_one : (why w : Stop) (a b : Outside PortsTold) (address : List ℕ) → (Rose a.faults b.faults → PortsRose p q) → ListenEnds address a b (Err w) → fails why ≡ fails w → Fails why
  from_one why w a b address rose listens is =
      let same : why ≡ w = cc in
      elim (listen_err address a b w listens) [ inl h ↦ inl (same ∙ h.0, rose h.1) | inr none ↦ inr (same ∙ none) ]

  listening_err : (why : Stop) → Listening (places config p q) (Err why) → Fails why
  listening_err why (Err w, l, a) = from_one why w _ _ _ (λ r. inl r) l a.1
  listening_err why (Ok u, l, (Err w, m, b)) = from_one why w _ _ _ (λ r. inr (inl r)) m b.1
  listening_err why (Ok u, l, (Ok v, m, (Err w, n, c))) = from_one why w _ _ _ (λ r. inr (inr r)) n c.1
  listening_err why (Ok u, l, (Ok v, m, (Ok x, n, is))) = absurd (cc)

  listening_ok : Listening (places config p q) (Ok tt) → (q.renderd.faults ≡ p.renderd.faults) × (q.tiles.faults ≡ p.tiles.faults) × (q.control.faults ≡ p.control.faults)
  listening_ok (Err w, l, a) = absurd (let e = a.1 in cc)
  listening_ok (Ok u, l, (Err w, m, b)) = absurd (let e = b.1 in cc)
  listening_ok (Ok u, l, (Ok v, m, (Err w, n, c))) = absurd (let e = c.1 in cc)
  listening_ok (Ok u, l, (Ok v, m, (Ok x, n, is))) = (listen_ok _ _ _ l, listen_ok _ _ _ m, listen_ok _ _ _ n)

-- ---- why a run ended

abbrev pick : Bool → Bool → Bool → Result (Unit {0}) Stop
pick a b c = if a then Err stop.TurnsUsedUp else (if b then Err stop.PortsFailed else (if c then Err stop.NoMemory else Ok tt))

pick_cases : (a b c : Bool) (q : Stop) → pick a b c ≡ Err q → (q ≡ stop.TurnsUsedUp) ⊎ (((q ≡ stop.PortsFailed) × (b ≡ true)) ⊎ (q ≡ stop.NoMemory))
pick_cases true b c q is = inl (cc)
pick_cases false true c q is = inr (inl (cc, refl))
pick_cases false false true q is = inr (inr (cc))
pick_cases false false false q is = absurd (cc)

broken_end : (end : FrontEnd) → is_broken end ≡ true → end ≡ FrontEnd.Broken
broken_end FrontEnd.Broken is = refl
broken_end FrontEnd.Finished is = cc
broken_end FrontEnd.Stopped is = cc
broken_end FrontEnd.Worn is = cc
broken_end FrontEnd.NoMemory is = cc

-- a count that rose from a middle one rose from the first
rose_from : (before more mid now : ℕ) → min (before + more) (2 ^ 64 - 1) ≤ mid → Counted mid now → Rose before now
rose_from before more mid now least counted = let one = counted.0 in let two = counted.1 in omega (arith, least, one, two)

-- ---- what is saved in a store that tells

same_told : {A : Type 0} (o : Option A) (f : A → Option (List ℕ)) (a b : Option (List ℕ)) → o ≢ None → IfSome o (λ t. a ≡ f t) → IfSome o (λ t. b ≡ f t) → a ≡ b
same_told None f a b told x y = absurd (told refl)
same_told (Some t) f a b told x y = x ∙ sym y

-- it is one thing
one_saved : (at : Outside StoreTold) (plan : FarmPlan) → at.told ≢ None → (x y : Result (Option Saving) (Option (List ℕ))) → IsSavedIn at plan x → IsSavedIn at plan y → x ≡ y
one_saved at plan told x y a b = sym a.said ∙ ap (resumed_by plan) (same_told at.told (λ (t : StoreTold). t.content saved_path) a.found b.found told a.stands b.stands) ∙ b.said

-- and its refusal has one line
one_line : (why : Option (List ℕ)) (line other : List ℕ) → RefusesFor why line → RefusesFor why other → line ≡ other
one_line why line other a b =
    let both : Some a.0 ≡ Some b.0 = sym a.1 ∙ b.1 in
    let same : a.0 ≡ b.0 = cc in
    a.2 ∙ ap (refused_line saved_path) same ∙ sym b.2

module _ {D : Type 0} (state : D → Outside StoreTold) (was : CallBefore D) (is : CallAfter D) (s : ServeInputs) where
  abbrev old : World D
  old = world_before was

  abbrev new : World D
  new = world_after is

  abbrev Why : Stop → Type 0
  Why q = whys.Why state (serves s) q old new

  -- ---- no actor was started

  module _ (store' : D) (left_is : is.left ≡ Store store') where
    lost_here : Rose (state was.store).faults (state store').faults → Rose (state was.store).faults (state (store_of is.left)).faults
    lost_here rose = subst (λ (l : Left D). Rose (state was.store).faults (state (store_of l)).faults) (sym left_is) rose

    unbegun : (why : Stop) → CannotBegin (state was.store) s.inputs.plan s.config.resume (state store') why → is.ports ≡ was.ports → is.out ≡ was.out → Why why
    unbegun (stop.Refused line) c ports silent = record {
      served = s;
      is_work = refl;
      resume = c.0;
      why = c.1;
      fault = c.2;
      line_is = c.3;
      out = silent;
      ports = ports;
      store = store';
      left = left_is;
      shows = c.4;
    }
    unbegun stop.NoMemory c ports silent = tt
    unbegun stop.StoreFailed c ports silent = elim c.1 [ inl got ↦ lost_here got.1.1 | inr put ↦ lost_here put.2.1.1 ]
    unbegun stop.Words c ports silent = c
    unbegun (stop.Unreadable line) c ports silent = c
    unbegun stop.SinkFailed c ports silent = absurd c
    unbegun stop.PortsFailed c ports silent = absurd c
    unbegun stop.TurnsUsedUp c ports silent = absurd c

    not_served : (q : Stop) → NotServed state s was.store store' old new (Err q) → Why q
    not_served q h = subst Why (sym q_is) (by_why h.why_not)
      where
        q_is : q ≡ h.why
        q_is = let e = h.end_is in cc

        by_why : WhyNot state s was.store store' old.ports new.ports h.why → Why h.why
        by_why (inl c) = unbegun h.why c.0 c.1 h.silent
        by_why (inr (farm, begun, same, inl listens)) =
            elim (listening_err s.config old.ports new.ports h.why listens) [ inl f ↦ subst Why (sym f.0) f.1 | inr none ↦ subst Why (sym none) tt ]
        by_why (inr (farm, begun, same, inr wanting)) = subst Why (sym wanting.1) tt

  -- ---- a farm was served

  module _ (closed : ClosedFarm D) (left_is : is.left ≡ Farm closed) (end : Result (Unit {0}) Stop) (h : HasServed state s was.store closed old new end) where
    -- the store's count had not fallen when the farm was closed
    least : min ((state was.store).faults + length (failures h.last.plan (past (lasting_of state h.last) closed.1))) (2 ^ 64 - 1) ≤ (state h.last.store).faults
    least =
        let stands : StandsFor state false h.last (past (lasting_of state h.last) closed.1) = h.runs.after.each false (λ e. absurd (cc)) in
        let first : state h.last.first ≡ state was.store = ap (λ (p : LastingPart D). state p.first) h.runs.kept ∙ h.begun.first_shows in
        subst (λ (o : Outside StoreTold). min (o.faults + length (failures h.last.plan (past (lasting_of state h.last) closed.1))) (2 ^ 64 - 1) ≤ (state h.last.store).faults) first stands.store_is.counted

    lost_there : Counted (state h.last.store).faults (state closed.0.store).faults → Rose (state was.store).faults (state (store_of is.left)).faults
    lost_there counted = subst (λ (l : Left D). Rose (state was.store).faults (state (store_of l)).faults) (sym left_is) (rose_from _ _ _ _ least counted)

    -- by how the saving went
    by_saving : (resume : Bool) (why saved : Result (Unit {0}) Stop) (q : Stop) → MaySave state resume why h.last closed.0 closed.1 saved → saved ≡ Err q
        → ((q ≡ stop.StoreFailed) × Counted (state h.last.store).faults (state closed.0.store).faults) ⊎ ((q ≡ stop.NoMemory) ⊎ (why ≡ Err q))
    by_saving true (Ok done) (Ok u) q may is = absurd (cc)
    by_saving true (Ok done) (Err stop.StoreFailed) q may is = inl (cc, may.went.puts.1)
    by_saving true (Ok done) (Err stop.NoMemory) q may is = inr (inl (cc))
    by_saving true (Ok done) (Err stop.PortsFailed) q may is = absurd may.went
    by_saving true (Ok done) (Err stop.TurnsUsedUp) q may is = absurd may.went
    by_saving true (Ok done) (Err (stop.Refused line)) q may is = absurd may.went
    by_saving true (Ok done) (Err stop.Words) q may is = absurd may.went
    by_saving true (Ok done) (Err (stop.Unreadable line)) q may is = absurd may.went
    by_saving true (Ok done) (Err stop.SinkFailed) q may is = absurd may.went
    by_saving false (Ok done) saved q may is = absurd (let e = sym may.1 ∙ is in cc)
    by_saving resume (Err w) saved q may is = inr (inr (sym may.1 ∙ is))

    -- a front whose ports broke: its count rose
    broke : list_any is_broken (map end_of (fronts_of h.done)) ≡ true → PortsRose old.ports new.ports
    broke is =
        let same = listening_ok s.config old.ports h.listening h.listens in
        elim (or_cases (is_broken h.done.renderd.end) _ is) [
          | inl r ↦ inl (subst (λ (n : ℕ). Rose n new.ports.renderd.faults) same.0 (h.runs.renderd.left.broken (broken_end _ r)).1)
          | inr rest ↦
              elim (or_cases (is_broken h.done.tiles.end) _ rest) [
                | inl t ↦ inr (inl (subst (λ (n : ℕ). Rose n new.ports.tiles.faults) same.1 (h.runs.tiles.left.broken (broken_end _ t)).1))
                | inr last ↦
                    elim (or_cases (is_broken h.done.control.end) _ last) [
                      | inl k ↦ inr (inr (subst (λ (n : ℕ). Rose n new.ports.control.faults) same.2 (h.runs.control.left.broken (broken_end _ k)).1))
                      | inr none ↦ absurd (cc)
                    ]
              ]
        ]

    -- the call ended as the saving did, or in a put on out that failed
    end_is : (end ≡ h.winds.saved) ⊎ ((end ≡ Err stop.SinkFailed) × Rose old.out.faults new.out.faults)
    end_is = by_tally h.ends.tally h.winds.told
      where
        by_put : (a : Totals) (put : Result (Unit {0}) SinkFault) → sink.Puts old.out new.out (tally_line a) put → end ≡ end_after_put put h.winds.saved
            → (end ≡ h.winds.saved) ⊎ ((end ≡ Err stop.SinkFailed) × Rose old.out.faults new.out.faults)
        by_put a (Ok done) puts is = inl is
        by_put a (Err f) puts is = inr (is, puts.3.1)

        by_tally : (o : Option Totals) → TellsCounts o old.out new.out h.winds.saved end → (end ≡ h.winds.saved) ⊎ ((end ≡ Err stop.SinkFailed) × Rose old.out.faults new.out.faults)
        by_tally None line = inl line.1
        by_tally (Some a) line = by_put a line.0 line.1 line.2

    turns_gone : end ≡ Err stop.TurnsUsedUp → 2 ^ 62 ≤ length closed.1
    turns_gone e = elim end_is [ inl same ↦ gone_turns state was is s closed left_is end h (sym same ∙ e) | inr failed ↦ absurd (let f = sym e ∙ failed.0 in cc) ]

    saved_why : (q : Stop) → h.winds.saved ≡ Err q → end ≡ Err q → Why q
    saved_why q is ended =
        elim (by_saving s.config.resume _ h.winds.saved q h.winds.saves is) [
          | inl failed ↦ subst Why (sym failed.0) (lost_there failed.1)
          | inr (inl none) ↦ subst Why (sym none) tt
          | inr (inr why) ↦
              elim (pick_cases (is_worn_out h.ends || list_any is_front_worn (map end_of (fronts_of h.done))) (list_any is_broken (map end_of (fronts_of h.done))) (list_any is_wanting (map end_of (fronts_of h.done))) q why) [
                | inl turns ↦ subst Why (sym turns) (closed, left_is, turns_gone (ended ∙ ap fails turns))
                | inr (inl broken) ↦ subst Why (sym broken.0) (broke broken.1)
                | inr (inr none) ↦ subst Why (sym none) tt
              ]
        ]

    has_served : (q : Stop) → end ≡ Err q → Why q
    has_served q is =
        elim end_is [
          | inl same ↦ saved_why q (sym same ∙ is) is
          | inr failed ↦ let e : q ≡ stop.SinkFailed = (let f = sym is ∙ failed.0 in cc) in subst Why (sym e) failed.1
        ]

    out_noticed : new.out.faults ≢ old.out.faults → end ≡ Err stop.SinkFailed
    out_noticed other = by_tally h.ends.tally h.winds.told
      where
        by_put : (a : Totals) (put : Result (Unit {0}) SinkFault) → sink.Puts old.out new.out (tally_line a) put → end ≡ end_after_put put h.winds.saved → end ≡ Err stop.SinkFailed
        by_put a (Ok done) puts is = absurd (other puts.1)
        by_put a (Err f) puts is = is

        by_tally : (o : Option Totals) → TellsCounts o old.out new.out h.winds.saved end → end ≡ Err stop.SinkFailed
        by_tally None line = absurd (other (ap (λ (x : SinkAt). x.faults) line.0))
        by_tally (Some a) line = by_put a line.0 line.1 line.2

  -- ---- one of both

  stops_by : (l : Left D) → is.left ≡ l → (q : Stop) → ServesTo state s was.store old new (Err q) l → Why q
  stops_by (Store store') left_is q h = not_served store' left_is q h
  stops_by (Farm closed) left_is q h = has_served closed left_is (Err q) h q refl

  pub serves_stops : (q : Stop) → Serves state s was.store old new (Err q) → Why q
  serves_stops q h = stops_by is.left refl q h

  noticed_by : (l : Left D) → is.left ≡ l → (end : Result (Unit {0}) Stop) → ServesTo state s was.store old new end l → is.out.faults ≢ was.out.faults → end ≡ Err stop.SinkFailed
  noticed_by (Store store') left_is end h other = absurd (other (ap (λ (x : SinkAt). x.faults) h.silent))
  noticed_by (Farm closed) left_is end h other = out_noticed closed left_is end h other

  pub serves_noticed : (end : Result (Unit {0}) Stop) → Serves state s was.store old new end → is.out.faults ≢ was.out.faults → end ≡ Err stop.SinkFailed
  serves_noticed end h other = noticed_by is.left refl end h other

  -- ---- what is saved is a fault

  -- no farm was begun where what is saved is refused
  pub not_begun : (farm : FarmSeen D) → HasBegun state s.inputs.plan s.config.resume was.store farm → s.config.resume ≡ true → (state was.store).told ≢ None → (why : Option (List ℕ)) → ¬ (IsSavedIn (state was.store) s.inputs.plan (Err why))
  not_begun farm begun resume told why fault =
      let ok : IsSavedIn (state was.store) s.inputs.plan (Ok farm.saved) = subst (λ (b : Bool). ResumesFrom (state was.store) s.inputs.plan b farm.saved) resume begun.resumes in
      let both = one_saved (state was.store) s.inputs.plan told (Ok farm.saved) (Err why) ok fault in
      cc

  -- so the call ends for that fault, where no call of the store fails
  pub serves_fault : (end : Result (Unit {0}) Stop) → Serves state s was.store old new end → s.config.resume ≡ true → (state was.store).told ≢ None → (why : Option (List ℕ)) → IsSavedIn (state was.store) s.inputs.plan (Err why)
      → (line : List ℕ) → RefusesFor why line → ¬ (Rose (state was.store).faults (state (store_of is.left)).faults) → (end ≡ Err (stop.Refused line)) ⊎ (end ≡ Err stop.NoMemory)
  serves_fault end h resume told why fault line refuses kept = by_left is.left refl h
    where
      by_stop : (q : Stop) (store' : D) → is.left ≡ Store store' → CannotBegin (state was.store) s.inputs.plan s.config.resume (state store') q → (fails q ≡ fails (stop.Refused line)) ⊎ (fails q ≡ fails stop.NoMemory)
      by_stop (stop.Refused other) store' left_is c =
          let both = one_saved (state was.store) s.inputs.plan told (Err c.1) (Err why) c.2 fault in
          let same : c.1 ≡ why = cc in
          inl (ap (λ (l : List ℕ). fails (stop.Refused l)) (one_line why other line (subst (λ (w : Option (List ℕ)). RefusesFor w other) same c.3) refuses))
      by_stop stop.NoMemory store' left_is c = inr refl
      by_stop stop.StoreFailed store' left_is c = absurd (kept (elim c.1 [ inl got ↦ lost_here store' left_is got.1.1 | inr put ↦ lost_here store' left_is put.2.1.1 ]))
      by_stop stop.Words store' left_is c = absurd c
      by_stop (stop.Unreadable other) store' left_is c = absurd c
      by_stop stop.SinkFailed store' left_is c = absurd c
      by_stop stop.PortsFailed store' left_is c = absurd c
      by_stop stop.TurnsUsedUp store' left_is c = absurd c

      by_why : (q : Stop) (store' : D) → is.left ≡ Store store' → WhyNot state s was.store store' old.ports new.ports q → (fails q ≡ fails (stop.Refused line)) ⊎ (fails q ≡ fails stop.NoMemory)
      by_why q store' left_is (inl c) = by_stop q store' left_is c.0
      by_why q store' left_is (inr (farm, begun, same, rest)) = absurd (not_begun farm begun resume told why fault)

      by_left : (l : Left D) → is.left ≡ l → ServesTo state s was.store old new end l → (end ≡ fails (stop.Refused line)) ⊎ (end ≡ fails stop.NoMemory)
      by_left (Store store') left_is n = elim (by_why n.why store' left_is n.why_not) [ inl e ↦ inl (n.end_is ∙ e) | inr e ↦ inr (n.end_is ∙ e) ]
      by_left (Farm closed) left_is n = absurd (not_begun n.first n.begun resume told why fault)
