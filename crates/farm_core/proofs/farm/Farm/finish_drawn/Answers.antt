use Rattle.std.proofs.Common.{ℕ, refl, sym, ap, ◌∙◌, subst}
use Rattle.std.specs.Prelude.{option_map}
use Rattle.farm_history.specs.declared.keys.Key.{Key}
use Rattle.farm_history.specs.Plans.{is_in}
use Rattle.farm_history.specs.Seen.{Taken}
use Rattle.farm_plan.specs.Spots.{IsKeyOf}
use Rattle.farm_refinement.specs.Seen.{FarmSeen}
use Rattle.farm_plan.specs.Jobs.{JobSeen, job_key}
use Rattle.farm_refinement.specs.inner.Events.{taken_at, untaken}
use Rattle.farm_core.specs.Answers.{drawn_bytes}
use Rattle.farm_core.specs.inner.Effects.{IsTaken, EndsDrawing, turn}
use Rattle.farm_core.proofs.Flown.{flight_taken, flight_of_plan, flight_stands, taken_turned}
use Rattle.farm_core.proofs.Lasting.{lasts_as, lasts_kept, lasts_on}
use Rattle.farm_core.proofs.Putting.{puts_bytes}
use Rattle.farm_core.proofs.Told.{finish_kept}
use Rattle.farm_core.proofs.farm.Farm.finish_drawn.Goals as goal

pub release-touched-requires : goal.release-touched-requires
release-touched-requires g c =
    subst (λ (f : FarmSeen g.row.D.Denot). IsTaken f c.args.job) (sym c.count_turn.ensures.turned)
    (taken_turned c.args.self.now c.args.job (flight_taken g.D.TileStore.state c.requires.flight.0 c.args.self.now c.requires.flight.1 c.args.job c.requires.flight.2 c.requires.flight.3))

pub keep-requires-clause-key : goal.keep-requires-clause-key
keep-requires-clause-key g c =
    let released = c.release-touched.ensures.farm ∙ ap {A = FarmSeen g.row.D.Denot} (λ f. record f { taken = untaken c.args.job.ticket f.taken }) c.count_turn.ensures.turned in
    let flown = flight_of_plan g.D.TileStore.state c.requires.flight.0 c.args.self.now c.requires.flight.1 c.args.job c.requires.flight.2 c.requires.flight.3 in
    let at = subst (λ (f : FarmSeen g.row.D.Denot). IsKeyOf f.plan (job_key c.args.job)) (sym released) flown in
    subst (λ (k : Key). IsKeyOf c.release-touched.new.self.plan k) (sym c.key-key.ensures) at

pub keep-requires-clause-taken : goal.keep-requires-clause-taken
keep-requires-clause-taken g c =
    let released = c.release-touched.ensures.farm ∙ ap {A = FarmSeen g.row.D.Denot} (λ f. record f { taken = untaken c.args.job.ticket f.taken }) c.count_turn.ensures.turned in
    ap (λ (k : Key). is_in k c.release-touched.new.self.queues.taken) c.key-key.ensures
    ∙ ap {A = FarmSeen g.row.D.Denot} (λ f. is_in (job_key c.args.job) f.queues.taken) released
    ∙ flight_stands g.D.TileStore.state c.requires.flight.0 c.args.self.now c.requires.flight.1 c.args.job c.requires.flight.2 c.requires.flight.3

pub returns-clause-step : goal.returns-clause-step
returns-clause-step g c = λ told h s flight.
    let released = c.release-touched.ensures.farm ∙ ap {A = FarmSeen g.row.D.Denot} (λ f. record f { taken = untaken c.args.job.ticket f.taken }) c.count_turn.ensures.turned in
    let version = ap (λ (j : JobSeen). j.version) c.job.view_is in
    let bytes = drawn_bytes c.args.drawn.now in
    let kept = subst (λ (v : ℕ). EndsDrawing g.D.TileStore.state (record (turn c.args.self.now) { taken = untaken c.args.job.ticket c.args.self.now.taken }) c.keep.new.self (job_key c.args.job) v c.release-touched.result bytes c.keep.result) version
    (subst (λ (k : Key). EndsDrawing g.D.TileStore.state (record (turn c.args.self.now) { taken = untaken c.args.job.ticket c.args.self.now.taken }) c.keep.new.self k c.job.inside.version c.release-touched.result bytes c.keep.result) c.key-key.ensures
    (subst (λ (f : FarmSeen g.row.D.Denot). EndsDrawing g.D.TileStore.state f c.keep.new.self c.key-key.result c.job.inside.version c.release-touched.result bytes c.keep.result) released c.keep.ensures)) in
    let touched = ap {A = FarmSeen g.row.D.Denot} (λ f. option_map (λ (t : Taken). t.touched) (taken_at f.taken c.args.job.ticket)) (sym c.count_turn.ensures.turned) ∙ c.release-touched.ensures.touched in
    finish_kept g.D.TileStore.state told c.args.self.now c.keep.new.self h c.args.job c.release-touched.result bytes c.keep.result flight touched c.requires.drawing kept s

pub returns-clause-kept : goal.returns-clause-kept
returns-clause-kept g c =
    let released = c.release-touched.ensures.farm ∙ ap {A = FarmSeen g.row.D.Denot} (λ f. record f { taken = untaken c.args.job.ticket f.taken }) c.count_turn.ensures.turned in
    let flown = flight_of_plan g.D.TileStore.state c.requires.flight.0 c.args.self.now c.requires.flight.1 c.args.job c.requires.flight.2 c.requires.flight.3 in
    let at = subst (λ (f : FarmSeen g.row.D.Denot). IsKeyOf f.plan (job_key c.args.job)) (sym released) flown in
    lasts_on g.D.TileStore.state c.args.self.now c.release-touched.new.self c.keep.new.self (lasts_as g.D.TileStore.state c.args.self.now _ c.release-touched.new.self released refl refl refl refl)
    (lasts_kept g.D.TileStore.state c.release-touched.new.self c.keep.new.self c.key-key.result c.job.inside.version c.release-touched.result (drawn_bytes c.args.drawn.now) c.keep.result (subst (λ (k : Key). IsKeyOf c.release-touched.new.self.plan k) (sym c.key-key.ensures) at) c.keep.ensures)

pub returns-clause-puts : goal.returns-clause-puts
returns-clause-puts g c =
    let released = c.release-touched.ensures.farm ∙ ap {A = FarmSeen g.row.D.Denot} (λ f. record f { taken = untaken c.args.job.ticket f.taken }) c.count_turn.ensures.turned in
    puts_bytes g.D.TileStore.state c.args.self.now c.keep.new.self c.args.job c.job.inside.version c.release-touched.result (drawn_bytes c.args.drawn.now)
    c.release-touched.new.self c.key-key.result c.keep.result released c.key-key.ensures c.keep.ensures
