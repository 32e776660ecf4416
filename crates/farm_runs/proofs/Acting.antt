-- What actors leave, from their calls.
use Rattle.std.proofs.Common.{◌≡◌, inl, inr, ℕ, true, [], ◌∷◌, ◌++◌, Some, None, refl, sym, ap, ◌∙◌, subst}
use Rattle.farm_history.specs.Entries.{Entry, Stop}
use Rattle.reactor_ports.specs.declared.ends.FrontDone.{FrontDone}
use Rattle.reactor_ports.specs.declared.ends.FrontEnd.{FrontEnd}
use Rattle.turn_cell.specs.SeatStates.{Made, SeatState, IsSeatOf, SameSeat, worn_out}
use Rattle.farm_shared.specs.Seats.{plain}
use Rattle.farm_shared.specs.Shared.{Adds}
use Rattle.render_workers.specs.declared.worker.WorkEnd.{WorkEnd}
use Rattle.render_workers.specs.Rounds.{Worked, WorkOf}
use Rattle.farm_runs.specs.declared.pool.Actor.{Actor}
use Rattle.front_loop.specs.Kinds.{IsUnbegun}
use Rattle.farm_runs.specs.Actors.{WorkBy, IsReady, HasWorked}

module _ {T : Type 0} where
  -- a front that is not begun

  pub stopped : (v w : SeatState T Entry) (done : FrontDone) → v.mine ≡ [] → Adds Stop v w → done.end ≡ FrontEnd.NoMemory → done.rests.items ≡ [] → done.starved ≡ 0 → IsUnbegun (plain w.mine) done w.worn
  stopped v w done unused a end rests starved = record {
    no_rests = rests;
    none_starved = starved;
    ended = inl (ap plain (a.mine ∙ ap (λ l. l ++ (v.number, Stop) ∷ []) unused), end);
  }

  pub worn : (v w : SeatState T Entry) (done : FrontDone) → v.mine ≡ [] → w ≡ worn_out v → done.end ≡ FrontEnd.Worn → done.rests.items ≡ [] → done.starved ≡ 0 → IsUnbegun (plain w.mine) done w.worn
  worn v w done unused is end rests starved = record {
    no_rests = rests;
    none_starved = starved;
    ended = inr (ap (λ (s : SeatState T Entry). plain s.mine) is ∙ ap plain unused, end, ap (λ (s : SeatState T Entry). s.worn) is);
  }

  -- a worker

  gained : (w : ℕ) (end : WorkEnd) (v u : SeatState T Entry) → v.mine ≡ [] → Worked w end v u → WorkOf w end (plain u.mine)
  gained w end v u unused k = subst (WorkOf w end) (sym (k.gains ∙ ap (λ l. plain l ++ k.entries) unused)) k.work

  pub began : (made : Made T) (a b : Actor (SeatState T Entry)) (end : WorkEnd) → IsReady made a → IsSeatOf made b.seat → SameSeat a.seat b.seat → Worked a.worker end a.seat b.seat → (end ≡ WorkEnd.Worn → b.seat.worn ≡ true) →
      b.worker ≡ a.worker → b.end ≡ Some end → HasWorked made a b
  began made a b end ready seat same work mark worker is = record {
    worker = worker;
    seat = seat;
    same = same;
    work = subst (λ o. WorkBy b.worker o (plain b.seat.mine)) (sym is) (subst (λ w. WorkOf w end (plain b.seat.mine)) (sym worker) (gained a.worker end a.seat b.seat ready.unused work));
    worn = λ e. mark (let same_end : Some end ≡ Some WorkEnd.Worn = sym is ∙ e in cc);
  }

  pub not_begun : (made : Made T) (a : Actor (SeatState T Entry)) → IsReady made a → HasWorked made a a
  not_begun made a ready = record {
    worker = refl;
    seat = ready.seat;
    same = (refl, refl, refl, refl);
    work = subst (λ o. WorkBy a.worker o (plain a.seat.mine)) (sym ready.not_ended) (ap plain ready.unused);
    worn = λ e. let never : None ≡ Some WorkEnd.Worn = sym ready.not_ended ∙ e in cc;
  }
