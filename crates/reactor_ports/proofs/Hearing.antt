-- What ports in memory tell after an event.
use Rattle.std.proofs.Common.{◌≡◌, ◌+◌, ◌^◌, inl, inr, ◌&&◌, not, nat_lt, ℕ, Bool, true, false, List, [], ◌∷◌, ◌++◌, length, get_or, map, Option, Some, None, refl, ap, sym, ◌∙◌, subst, cond, arith, tests}
use Rattle.std.proofs.lemmas.Bool.{false≢true}
use Rattle.std.proofs.lemmas.Bool.Decides.{nat_tests}
use Rattle.std.proofs.lemmas.Option.{slice_get-get_or, slice_get_past}
use Rattle.std.proofs.lemmas.List.Quantifiers.{position-Some}
use Rattle.std.specs.List.{slice_get, position, count_by}
use Rattle.reactor_ports.specs.declared.events.PortEvent.{PortEvent}
use Rattle.reactor_ports.specs.declared.events.PortEvent.TheVariants as event
use Rattle.reactor_ports.specs.declared.events.PortItem.TheVariants as item
use Rattle.reactor_ports.specs.Told.{MayCome, heard, Hears, EventCounts}
use Rattle.reactor_ports.specs.declared.port_steps.PortStep.{PortStep}
use Rattle.reactor_ports.specs.declared.port_steps.PortStep.TheVariants as step
use Rattle.reactor_ports.specs.Held.{PeerHeld, PortsHeld, taken_of, up_of, ended_of, told_of, is_fault}
use Rattle.reactor_ports.specs.Playing.{fresh, is_marked, marked, is_alive, alive_of, is_due, writable_told, is_live, BeginsLive, Readies, moved, stepped, Play, plain, play_step, play_due, play, PlayedBy, Plays, IsOver}
use Rattle.reactor_ports.proofs.Changes.{field_mapped}
use Rattle.reactor_ports.proofs.Telling.{told_closed, told_ended, told_added, told_kept, told_ready, faults_rise, faults_stay}

abbrev faults : PortsHeld → ℕ
faults h = count_by is_fault h.log

abbrev is_finished : PortEvent → Bool
is_finished (event.Opened c) = false
is_finished (event.Bytes c) = false
is_finished (event.Writable c) = false
is_finished (event.Ended c) = false
is_finished (event.Lost c) = false
is_finished event.Woken = false
is_finished event.Finished = true
is_finished event.Broken = false
is_finished event.NoMemory = false

never : {X : Type 0} → false ≡ true → X
never h = absurd (false≢true h)

-- what a play tells, of its event and its ports
record Tells (p : Play) (h : PortsHeld) : Type 0 where
  may : MayCome p.event (told_of h)
  told : told_of p.after ≡ heard p.event p.piece (told_of h)
  counts : EventCounts (faults h) (faults p.after) p.event
  over : p.event ≡ event.Finished → IsOver p.after.steps p.after.used p.after.turns

-- a connection that is alive is open and has not ended
alive_parts : (o : Option PeerHeld) → alive_of o ≡ true → (up_of o ≡ true) × (ended_of o ≡ false)
alive_parts None h = search (tests, h)
alive_parts (Some p) h = (left p.up p.ended h, right p.up p.ended h)
  where
    left : (a b : Bool) → (a && not b) ≡ true → a ≡ true
    left true b e = refl
    left false b e = search (tests, e)

    right : (a b : Bool) → (a && not b) ≡ true → b ≡ false
    right a false e = refl
    right true true e = search (tests, e)
    right false true e = search (tests, e)

past_end : (h : PortsHeld) → nat_lt (length h.peers) (2 ^ 32) ≡ true → MayCome (event.Opened (length h.peers)) (told_of h)
past_end h small = let e = slice_get_past h.peers (length h.peers) (omega arith) in
    (refl, grind (arith, nat_tests, small), ap up_of e, ap ended_of e, ap taken_of e)

opens : (h : PortsHeld) (rest : List PortStep) (b : Bool) → nat_lt (length h.peers) (2 ^ 32) ≡ b
    → Tells (cond b (plain (event.Opened (length h.peers)) (record (stepped rest h) { peers = h.peers ++ fresh ∷ [] })) (record { event = event.NoMemory; piece = []; after = h })) h
opens h rest true e = record {
  may = past_end h e;
  told = told_added (h.log ++ item.Heard (event.Opened (length h.peers)) [] ∷ []) h.peers;
  counts = faults_stay h.log (item.Heard (event.Opened (length h.peers)) []) refl;
  over = λ f. never (ap is_finished f);
}
opens h rest false e = record { may = tt; told = refl; counts = refl; over = λ f. never (ap is_finished f) }

awaits : (h : PortsHeld) (front n : ℕ) (rest : List PortStep) → h.steps ≡ step.Await front n ∷ rest → (b : Bool) → nat_lt h.used h.turns ≡ b
    → Tells (cond b (plain event.Woken (record h { used = h.used + 1 })) (plain event.Finished h)) h
awaits h front n rest is true e = record { may = tt; told = refl; counts = faults_stay h.log (item.Heard event.Woken []) refl; over = λ f. never (ap is_finished f) }
awaits h front n rest is false e = record {
  may = tt;
  told = refl;
  counts = faults_stay h.log (item.Heard event.Finished []) refl;
  over = λ f. subst (λ ss. IsOver ss h.used h.turns) (sym is) e;
}

tells_step : (h : PortsHeld) (ss : List PortStep) → h.steps ≡ ss → BeginsLive h.peers ss → Tells (play_step ss h) h
tells_step h [] is live = record {
  may = tt;
  told = refl;
  counts = faults_stay h.log (item.Heard event.Finished []) refl;
  over = λ f. subst (λ ss. IsOver ss h.used h.turns) (sym is) tt;
}
tells_step h (step.Open ∷ rest) is live = opens h rest (nat_lt (length h.peers) (2 ^ 32)) refl
tells_step h (step.Bytes c piece ∷ rest) is live = record {
  may = alive_parts (slice_get h.peers c) live;
  told = refl;
  counts = faults_stay h.log (item.Heard (event.Bytes c) piece) refl;
  over = λ f. never (ap is_finished f);
}
tells_step h (step.End c ∷ rest) is live = record {
  may = alive_parts (slice_get h.peers c) live;
  told = told_ended (h.log ++ item.Heard (event.Ended c) [] ∷ []) h.peers c (alive_parts (slice_get h.peers c) live).0;
  counts = faults_stay h.log (item.Heard (event.Ended c) []) refl;
  over = λ f. never (ap is_finished f);
}
tells_step h (step.Lose c ∷ rest) is live = record {
  may = alive_parts (slice_get h.peers c) live;
  told = told_closed (h.log ++ item.Heard (event.Lost c) [] ∷ []) h.peers c;
  counts = faults_rise h.log (item.Heard (event.Lost c) []) refl;
  over = λ f. never (ap is_finished f);
}
tells_step h (step.Await front n ∷ rest) is live = awaits h front n rest is (nat_lt h.used h.turns) refl
tells_step h (step.Break ∷ rest) is live = record {
  may = tt;
  told = refl;
  counts = faults_rise h.log (item.Heard event.Broken []) refl;
  over = λ f. never (ap is_finished f);
}

due_alive : (p : PeerHeld) → is_due p ≡ true → is_alive p ≡ true
due_alive p h = right p.due (is_alive p) h
  where
    right : (a b : Bool) → (a && b) ≡ true → b ≡ true
    right true b e = e
    right false b e = search (tests, e)

tells_due : (h : PortsHeld) → BeginsLive h.peers h.steps → (o : Option ℕ) → position is_due h.peers ≡ o → Tells (play_due o h) h
tells_due h live None e = tells_step h h.steps refl live
tells_due h live (Some c) e =
    let at = position-Some is_due h.peers c fresh e in
    record {
      may = alive_parts (slice_get h.peers c) (ap alive_of (slice_get-get_or h.peers c fresh at.0) ∙ due_alive (get_or h.peers c fresh) at.1);
      told = told_kept writable_told (λ p. refl) (λ p. refl) (λ p. refl) (h.log ++ item.Heard (event.Writable c) [] ∷ []) h.peers c;
      counts = faults_stay h.log (item.Heard (event.Writable c) []) refl;
      over = λ f. never (ap is_finished f);
    }

-- marking leaves who is alive
live_marked : (ps : List PeerHeld) (s : PortStep) → is_live (map marked ps) s ≡ is_live ps s
live_marked ps (step.Bytes c piece) = field_mapped alive_of marked (λ p. refl) ps c
live_marked ps (step.End c) = field_mapped alive_of marked (λ p. refl) ps c
live_marked ps (step.Lose c) = field_mapped alive_of marked (λ p. refl) ps c
live_marked ps step.Open = refl
live_marked ps (step.Await front n) = refl
live_marked ps step.Break = refl

begins_marked : (ps : List PeerHeld) (ss : List PortStep) → BeginsLive ps ss → BeginsLive (map marked ps) ss
begins_marked ps [] h = tt
begins_marked ps (s ∷ ss) h = live_marked ps s ∙ h

begins_readied : (h : PortsHeld) (b : Bool) → BeginsLive h.peers h.steps
    → BeginsLive (cond b h (record h { peers = map marked h.peers; ready = true })).peers (cond b h (record h { peers = map marked h.peers; ready = true })).steps
begins_readied h true live = live
begins_readied h false live = begins_marked h.peers h.steps live

begins_moved : (h : PortsHeld) (steps : List PortStep) (reached : Bool) → BeginsLive h.peers steps → BeginsLive (moved steps reached h).peers (moved steps reached h).steps
begins_moved h steps true live = live
begins_moved h steps false live = live

-- the first step of ports that are ready is played
pub ready_live : (old ready : PortsHeld) → Readies old ready → BeginsLive ready.peers ready.steps
ready_live old ready r =
    subst (λ (h : PortsHeld). BeginsLive h.peers h.steps) (sym r.is)
    (begins_readied (moved r.steps r.reached old) (is_marked (moved r.steps r.reached old)) (begins_moved old r.steps r.reached r.passes.begins))

log_readied : (h : PortsHeld) (b : Bool) → (cond b h (record h { peers = map marked h.peers; ready = true })).log ≡ h.log
log_readied h true = refl
log_readied h false = refl

log_moved : (h : PortsHeld) (steps : List PortStep) (reached : Bool) → (moved steps reached h).log ≡ h.log
log_moved h steps true = refl
log_moved h steps false = refl

log_ready : (old ready : PortsHeld) → Readies old ready → ready.log ≡ old.log
log_ready old ready r =
    ap (λ (h : PortsHeld). h.log) r.is
    ∙ log_readied (moved r.steps r.reached old) (is_marked (moved r.steps r.reached old))
    ∙ log_moved old r.steps r.reached

played : (p : Play) (h new : PortsHeld) (e : PortEvent) (room : List ℕ) → Tells p h → PlayedBy p h e new room
    → MayCome e (told_of h) × (told_of new ≡ heard e room (told_of h)) × EventCounts (faults h) (faults new) e × (e ≡ event.Finished → IsOver new.steps new.used new.turns)
played p h new e room t (inl (is, same)) =
    subst (λ x. MayCome x (told_of h) × (told_of new ≡ heard x room (told_of h)) × EventCounts (faults h) (faults new) x × (x ≡ event.Finished → IsOver new.steps new.used new.turns)) (sym is)
    (tt, ap told_of same, ap faults same, λ f. never (ap is_finished f))
played p h new e room t (inr (is, after, piece)) =
    subst (λ x. MayCome x (told_of h) × (told_of new ≡ heard x room (told_of h)) × EventCounts (faults h) (faults new) x × (x ≡ event.Finished → IsOver new.steps new.used new.turns)) (sym is) (
      t.may,
      ap told_of after ∙ t.told ∙ ap (λ r. heard p.event r (told_of h)) (sym piece),
      subst (λ (n : PortsHeld). EventCounts (faults h) (faults n) p.event) (sym after) t.counts,
      λ f. subst (λ (n : PortsHeld). IsOver n.steps n.used n.turns) (sym after) (t.over f),
    )

-- all that the trait says of a next, and where it may be Finished
pub record Next (old new : PortsHeld) (e : PortEvent) (room : List ℕ) : Type 0 where
  pub told : Hears e room (Some (told_of old)) (Some (told_of new))
  pub counts : EventCounts (faults old) (faults new) e
  pub over : e ≡ event.Finished → IsOver new.steps new.used new.turns

pub plays_next : (old new : PortsHeld) (e : PortEvent) (room : List ℕ) → Plays old new e room → Next old new e room
plays_next old new e room p =
    let t = tells_due p.ready (ready_live old p.ready p.readies) (position is_due p.ready.peers) refl in
    let h = played (play p.ready) p.ready new e room t p.plays in
    let same = told_ready old p.ready p.readies in
    record {
      told = (subst (MayCome e) same h.0, ap Some (h.1 ∙ ap (heard e room) same));
      counts = subst (λ log. EventCounts (count_by is_fault log) (faults new) e) (log_ready old p.ready p.readies) h.2;
      over = h.3;
    }

cond_finished : (h : PortsHeld) (b : Bool) → b ≡ false → (cond b (plain event.Woken (record h { used = h.used + 1 })) (plain event.Finished h)).event ≡ event.Finished
cond_finished h true e = never (sym e)
cond_finished h false e = refl

over_finishes : (h : PortsHeld) (ss : List PortStep) → IsOver ss h.used h.turns → (play_step ss h).event ≡ event.Finished
over_finishes h [] over = refl
over_finishes h (step.Await front n ∷ rest) over = cond_finished h (nat_lt h.used h.turns) over
over_finishes h (step.Open ∷ rest) over = absurd over
over_finishes h (step.Bytes c piece ∷ rest) over = absurd over
over_finishes h (step.End c ∷ rest) over = absurd over
over_finishes h (step.Lose c ∷ rest) over = absurd over
over_finishes h (step.Break ∷ rest) over = absurd over

pub finished_where_over : (h : PortsHeld) → position is_due h.peers ≡ None → IsOver h.steps h.used h.turns → (play h).event ≡ event.Finished
finished_where_over h none over = ap (λ o. (play_due o h).event) none ∙ over_finishes h h.steps over
