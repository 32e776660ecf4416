-- The steps of the command put together.
use Rattle.std.proofs.Common.{◌≡◌, ℕ, inl, inr, Bool, List, [], map, refl, sym, ap, subst, ◌∙◌}
use Rattle.std.specs.Prelude.{Result, Ok, Err, Vec}
use Rattle.std.specs.declared.alloc.Global.{Global}
use Rattle.farm_base.specs.Outside.{Outside}
use Rattle.tile_store.specs.Stores.{StoreTold}
use Rattle.reactor_ports.specs.declared.ends.FrontDone.{FrontDone}
use Rattle.reactor_ports.specs.Told.{PortsTold}
use Rattle.exit_status.specs.Ends.{SinkAt}
use Rattle.exit_status.specs.declared.stops.Stop.{Stop}
use Rattle.exit_status.specs.declared.stops.Stop.TheVariants as stop
use Rattle.plain_world.specs.declared.world.Tile.{Tile}
use Rattle.farm_history.specs.Entries.{Entry}
use Rattle.farm_plan.specs.Plans.{FarmPlan, maps_in}
use Rattle.farm_files.specs.Inputs.{FarmInputs, ServeInputs}
use Rattle.farm_refinement.specs.Seen.{FarmSeen}
use Rattle.farm_runs.specs.declared.each_front.EachFront.{EachFront}
use Rattle.farm_runs.specs.Promise.{RunsWell}
use Rattle.farm_runs.specs.declared.running.Run.{Run}
use Rattle.farm_call.specs.inner.Fronts.{renderd_leaves, tiles_leave, control_leaves}
use Rattle.farm_call.specs.Beginnings.{HasBegun, CannotBegin}
use Rattle.farm_call.specs.Listens.{Listening}
use Rattle.farm_call.specs.Endings.{why_ended, WindsUp}
use Rattle.farm_call.specs.declared.serve.Ready.{Ready}
use Rattle.farm_call.specs.declared.left.Left.{Left}
use Rattle.farm_call.specs.declared.left.Left.TheVariants.{Store, Farm}
use Rattle.farm_call.specs.declared.left.Done.{Done}
use Rattle.farm_call.specs.Serves.{WhyNot, places, fronts_of, end_of, is_worn_out}
use Rattle.farm_call.specs.inner.Serving.{World, Serves, ServesTo}
use Rattle.farm_call.specs.inner.Steps.{EndsRun, HasRun, IsReady, MakesReady, RanTo, ends_of}

module _ {D : Type 0} (state : D → Outside StoreTold) where
  -- a run was ended
  pub ends_run : (resume : Bool) (run : Run D) (out out' : SinkAt) (closed : FarmSeen D × List (ℕ × Entry)) (fronts : Vec FrontDone Global) (worn : Bool) (why end : Result (Unit {0}) Stop) → worn ≡ is_worn_out (ends_of run)
      → why ≡ why_ended worn (map end_of (fronts_of run.fronts)) → closed.1 ≡ run.closed.1 → fronts.items ≡ fronts_of run.fronts → WindsUp state resume why run.tally run.closed.0 closed.0 run.closed.1 out out' end
      → EndsRun state resume run out out' (record { end = end; left = Farm closed; fronts = fronts })
  ends_run resume run out out' closed fronts worn why end worn_is why_is same fronts_are winds = record {
    farm = closed.0;
    left_is = ap (λ (h : List (ℕ × Entry)). Farm (closed.0, h)) same;
    fronts_are = fronts_are;
    winds =
        subst (λ (w : Result (Unit {0}) Stop). WindsUp state resume w run.tally run.closed.0 closed.0 run.closed.1 out out' end)
        (why_is ∙ ap (λ (b : Bool). why_ended b (map end_of (fronts_of run.fronts))) worn_is) winds;
  }

  module _ (ready : Ready D) (out out' : SinkAt) (ports ports' : EachFront (Outside PortsTold)) where
    abbrev before : World D
    before = record { out = out; left = Store ready.farm.store; fronts = []; ports = ports }

    -- a farm has run and was ended
    pub has_run : (lists : List (List Tile)) → lists ≡ ready.lists.items → (run : Run D) (done : Done D)
        → RunsWell state ready.farm run.closed.0 run.closed.1 (renderd_leaves (maps_in ready.farm.plan)) (tiles_leave (maps_in ready.farm.plan)) (control_leaves lists) ports ports' run.fronts (ends_of run)
        → EndsRun state ready.resume run out out' done → HasRun state ready before (record { out = out'; left = done.left; fronts = done.fronts.items; ports = ports' }) done.end
    has_run lists same run done runs ended =
        subst (λ (l : Left D). RanTo state ready before (record { out = out'; left = l; fronts = done.fronts.items; ports = ports' }) done.end l) (sym ended.left_is)
        (record {
          last = run.closed.0;
          done = run.fronts;
          ends = ends_of run;
          runs = subst (λ (x : List (List Tile)). RunsWell state ready.farm run.closed.0 run.closed.1 (renderd_leaves (maps_in ready.farm.plan)) (tiles_leave (maps_in ready.farm.plan)) (control_leaves x) ports ports' run.fronts (ends_of run)) same runs;
          fronts_are = ended.fronts_are;
          winds = ended.winds;
        })

  -- what the files say, put together of its parts
  module _ (parts s : ServeInputs) (is : parts ≡ s) (store : D) (inputs : FarmInputs) (inputs_are : inputs ≡ parts.inputs) (resume : Bool) (resume_is : resume ≡ parts.config.resume) where
    begun : (farm : FarmSeen D) → HasBegun state inputs.plan resume store farm → HasBegun state parts.inputs.plan parts.config.resume store farm
    begun farm h = subst (λ (b : Bool). HasBegun state parts.inputs.plan b store farm) resume_is (subst (λ (i : FarmInputs). HasBegun state i.plan resume store farm) inputs_are h)

    not_made : (ports ports' : EachFront (Outside PortsTold)) (back : D) (why : Stop) → WhyNot state parts store back ports ports' why → MakesReady state s store ports ports' (Err (back, why))
    not_made ports ports' back why h = subst (λ (x : ServeInputs). WhyNot state x store back ports ports' why) is h

    -- no farm was begun
    pub not_begun : (ports : EachFront (Outside PortsTold)) (back : D) (why : Stop) → CannotBegin (state store) inputs.plan resume (state back) why → MakesReady state s store ports ports (Err (back, why))
    not_begun ports back why h =
        not_made ports ports back why
        (inl (subst (λ (b : Bool). CannotBegin (state store) parts.inputs.plan b (state back) why) resume_is (subst (λ (i : FarmInputs). CannotBegin (state store) i.plan resume (state back) why) inputs_are h), refl))

    -- a farm was begun, and its ports do not listen
    pub not_listening : (ports ports' : EachFront (Outside PortsTold)) (back : D) (why : Stop) (farm : FarmSeen D) → HasBegun state inputs.plan resume store farm → back ≡ farm.store → Listening (places parts.config ports ports') (Err why)
        → MakesReady state s store ports ports' (Err (back, why))
    not_listening ports ports' back why farm has same listens = not_made ports ports' back why (inr (farm, begun farm has, same, inl listens))

    -- a farm was begun, and its ports listen
    pub made_ready : (ports ports' : EachFront (Outside PortsTold)) (ready : Ready D) → HasBegun state inputs.plan resume store ready.farm → Listening (places parts.config ports ports') (Ok tt) → ready.resume ≡ resume → ready.lists.items ≡ inputs.lists
        → MakesReady state s store ports ports' (Ok ready)
    made_ready ports ports' ready has listens same lists =
        subst (λ (x : ServeInputs). IsReady state x store ports ports' ready) is
        (record { begun = begun ready.farm has; listens = listens; resume_is = same ∙ resume_is; lists_are = lists ∙ ap (λ (i : FarmInputs). i.lists) inputs_are })

  module _ (s : ServeInputs) (store : D) (out out' : SinkAt) (ports ports' : EachFront (Outside PortsTold)) where
    abbrev start : World D
    start = record { out = out; left = Store store; fronts = []; ports = ports }

    -- no actor was started
    pub not_served : (back : D) (why : Stop) (done : Done D) → done.end ≡ Err why → done.left ≡ Store back → done.fronts.items ≡ [] → out' ≡ out → WhyNot state s store back ports ports' why
        → Serves state s store start (record { out = out'; left = done.left; fronts = done.fronts.items; ports = ports' }) done.end
    not_served back why done end_is left_is none silent why_not =
        subst (λ (l : Left D). ServesTo state s store start (record { out = out'; left = l; fronts = done.fronts.items; ports = ports' }) done.end l) (sym left_is)
        (record { why = why; end_is = end_is; why_not = why_not; silent = silent; no_fronts = none })

    module _ (ready : Ready D) (resume_is : ready.resume ≡ s.config.resume) (lists_are : ready.lists.items ≡ s.inputs.lists) (listening : EachFront (Outside PortsTold)) (begun : HasBegun state s.inputs.plan s.config.resume store ready.farm)
        (listens : Listening (places s.config ports listening) (Ok tt)) where
      -- a farm that was ready has run
      pub served : (done : Done D) → HasRun state ready (record { out = out; left = Store ready.farm.store; fronts = []; ports = listening }) (record { out = out'; left = done.left; fronts = done.fronts.items; ports = ports' }) done.end
          → Serves state s store start (record { out = out'; left = done.left; fronts = done.fronts.items; ports = ports' }) done.end
      served done ran = by_left done.left ran
        where
          by_left : (l : Left D) → RanTo state ready (record { out = out; left = Store ready.farm.store; fronts = []; ports = listening }) (record { out = out'; left = l; fronts = done.fronts.items; ports = ports' }) done.end l → ServesTo state s store start (record { out = out'; left = l; fronts = done.fronts.items; ports = ports' }) done.end l
          by_left (Store back) ran = record {
            why = stop.NoMemory;
            end_is = ran.0;
            why_not = inr (ready.farm, begun, ran.1, inr (subst (λ (p : EachFront (Outside PortsTold)). Listening (places s.config ports p) (Ok tt)) (sym ran.4) listens, refl));
            silent = ran.2;
            no_fronts = ran.3;
          }
          by_left (Farm closed) ran = record {
            first = ready.farm;
            begun = begun;
            listening = listening;
            listens = listens;
            last = ran.last;
            done = ran.done;
            ends = ran.ends;
            runs =
                subst (λ (p : FarmPlan). RunsWell state ready.farm ran.last closed.1 (renderd_leaves (maps_in p)) (tiles_leave (maps_in p)) (control_leaves s.inputs.lists) listening ports' ran.done ran.ends) begun.plan_is
                (subst (λ (lists : List (List Tile)). RunsWell state ready.farm ran.last closed.1 (renderd_leaves (maps_in ready.farm.plan)) (tiles_leave (maps_in ready.farm.plan)) (control_leaves lists) listening ports' ran.done ran.ends) lists_are ran.runs);
            fronts_are = ran.fronts_are;
            winds = subst (λ (b : Bool). WindsUp state b (why_ended (is_worn_out ran.ends) (map end_of (fronts_of ran.done))) ran.ends.tally ran.last closed.0 closed.1 out out' done.end) resume_is ran.winds;
          }
