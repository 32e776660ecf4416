-- What ports in memory tell after one of their connections changed.
use Rattle.std.proofs.Common.{◌≡◌, ◌+◌, ℕ, Bool, true, false, List, [], ◌∷◌, ◌++◌, length, take, map, Option, Some, None, option_map, Result, Ok, Err, refl, ap, ◌∙◌, cond, zero, suc, arith, tests}
use Rattle.std.proofs.Math.Path.{fun_ext}
use Rattle.std.proofs.lemmas.List.{length-append, length-map}
use Rattle.std.proofs.lemmas.List.Sums.{sum_by-append}
use Rattle.std.specs.List.{slice_get, count_by}
use Rattle.farm_base.specs.Outside.{Counted}
use Rattle.reactor_ports.specs.declared.events.PortItem.{PortItem}
use Rattle.reactor_ports.specs.declared.events.PortItem.TheVariants as item
use Rattle.reactor_ports.specs.declared.events.SendFault.{SendFault}
use Rattle.reactor_ports.specs.declared.events.SendFault.TheVariants as send_fault
use Rattle.reactor_ports.specs.Told as told
use Rattle.reactor_ports.specs.Told.{PortsTold, put}
use Rattle.reactor_ports.specs.declared.port_steps.PortStep.{PortStep}
use Rattle.reactor_ports.specs.Held.{PeerHeld, PortsHeld, change, closed, with_end, with_taken, taken_of, up_of, ended_of, told_of, is_fault, SendsHeld}
use Rattle.reactor_ports.specs.Playing.{is_marked, marked, fresh, moved, Readies}
use Rattle.reactor_ports.proofs.Changes.{field_put, field_kept, field_added, field_mapped, length-change}

abbrev pub told_as : List PortItem → ℕ → (ℕ → List ℕ) → (ℕ → Bool) → (ℕ → Bool) → PortsTold
told_as log n taken up ended = record { log = log; opened = n; taken = taken; is_open = up; ended = ended }

-- they tell the same where all that they tell is the same
pub told_is : (log : List PortItem) (n m : ℕ) (tk tk' : ℕ → List ℕ) (op op' en en' : ℕ → Bool)
    → n ≡ m → ((c : ℕ) → tk c ≡ tk' c) → ((c : ℕ) → op c ≡ op' c) → ((c : ℕ) → en c ≡ en' c)
    → told_as log n tk op en ≡ told_as log m tk' op' en'
told_is log n m tk tk' op op' en en' hn ht ho he =
    ap (λ k. told_as log k tk op en) hn
    ∙ ap (λ f. told_as log m f op en) (fun_ext ht)
    ∙ ap (λ f. told_as log m tk' f en) (fun_ext ho)
    ∙ ap (λ f. told_as log m tk' op' f) (fun_ext he)

closes_at : (o : Option PeerHeld) → up_of (option_map closed o) ≡ false
closes_at None = refl
closes_at (Some p) = refl

-- a connection is closed
pub told_closed : (log : List PortItem) (ps : List PeerHeld) (c : ℕ)
    → told_as log (length (change closed c ps)) (λ d. taken_of (slice_get (change closed c ps) d)) (λ d. up_of (slice_get (change closed c ps) d)) (λ d. ended_of (slice_get (change closed c ps) d))
    ≡ told_as log (length ps) (λ d. taken_of (slice_get ps d)) (put (λ d. up_of (slice_get ps d)) c false) (λ d. ended_of (slice_get ps d))
told_closed log ps c = told_is log _ _ _ _ _ _ _ _
    (length-change closed c ps)
    (field_kept taken_of closed (λ p. refl) ps c)
    (field_put up_of closed ps c false (closes_at (slice_get ps c)))
    (field_kept ended_of closed (λ p. refl) ps c)

ends_at : (o : Option PeerHeld) → up_of o ≡ true → ended_of (option_map with_end o) ≡ true
ends_at None h = search (tests, h)
ends_at (Some p) h = refl

-- its peer sends no more
pub told_ended : (log : List PortItem) (ps : List PeerHeld) (c : ℕ) → up_of (slice_get ps c) ≡ true
    → told_as log (length (change with_end c ps)) (λ d. taken_of (slice_get (change with_end c ps) d)) (λ d. up_of (slice_get (change with_end c ps) d)) (λ d. ended_of (slice_get (change with_end c ps) d))
    ≡ told_as log (length ps) (λ d. taken_of (slice_get ps d)) (λ d. up_of (slice_get ps d)) (put (λ d. ended_of (slice_get ps d)) c true)
told_ended log ps c up = told_is log _ _ _ _ _ _ _ _
    (length-change with_end c ps)
    (field_kept taken_of with_end (λ p. refl) ps c)
    (field_kept up_of with_end (λ p. refl) ps c)
    (field_put ended_of with_end ps c true (ends_at (slice_get ps c) up))

gains_at : (bytes : List ℕ) (n : ℕ) (o : Option PeerHeld) → up_of o ≡ true → taken_of (option_map (with_taken bytes n) o) ≡ taken_of o ++ take n bytes
gains_at bytes n None h = search (tests, h)
gains_at bytes n (Some p) h = refl

-- it takes bytes
pub told_gained : (log : List PortItem) (ps : List PeerHeld) (c : ℕ) (bytes : List ℕ) (n : ℕ) → up_of (slice_get ps c) ≡ true
    → told_as log (length (change (with_taken bytes n) c ps)) (λ d. taken_of (slice_get (change (with_taken bytes n) c ps) d)) (λ d. up_of (slice_get (change (with_taken bytes n) c ps) d)) (λ d. ended_of (slice_get (change (with_taken bytes n) c ps) d))
    ≡ told_as log (length ps) (put (λ d. taken_of (slice_get ps d)) c (taken_of (slice_get ps c) ++ take n bytes)) (λ d. up_of (slice_get ps d)) (λ d. ended_of (slice_get ps d))
told_gained log ps c bytes n up = told_is log _ _ _ _ _ _ _ _
    (length-change (with_taken bytes n) c ps)
    (field_put taken_of (with_taken bytes n) ps c (taken_of (slice_get ps c) ++ take n bytes) (gains_at bytes n (slice_get ps c) up))
    (field_kept up_of (with_taken bytes n) (λ p. refl) ps c)
    (field_kept ended_of (with_taken bytes n) (λ p. refl) ps c)

-- a change of which nothing is told
pub told_kept : (f : PeerHeld → PeerHeld) → ((p : PeerHeld) → (f p).taken ≡ p.taken) → ((p : PeerHeld) → (f p).up ≡ p.up) → ((p : PeerHeld) → (f p).ended ≡ p.ended)
    → (log : List PortItem) (ps : List PeerHeld) (c : ℕ)
    → told_as log (length (change f c ps)) (λ d. taken_of (slice_get (change f c ps) d)) (λ d. up_of (slice_get (change f c ps) d)) (λ d. ended_of (slice_get (change f c ps) d))
    ≡ told_as log (length ps) (λ d. taken_of (slice_get ps d)) (λ d. up_of (slice_get ps d)) (λ d. ended_of (slice_get ps d))
told_kept f ht hu he log ps c = told_is log _ _ _ _ _ _ _ _
    (length-change f c ps) (field_kept taken_of f ht ps c) (field_kept up_of f hu ps c) (field_kept ended_of f he ps c)

added : {A : Type 0} (g : Option PeerHeld → A) → g (Some fresh) ≡ g None → (ps : List PeerHeld) (d : ℕ) → g (slice_get (ps ++ fresh ∷ []) d) ≡ g (slice_get ps d)
added g h [] zero = h
added g h [] (suc d) = refl
added g h (p ∷ ps) zero = refl
added g h (p ∷ ps) (suc d) = added g h ps d

-- one more connection
pub told_added : (log : List PortItem) (ps : List PeerHeld)
    → told_as log (length (ps ++ fresh ∷ [])) (λ d. taken_of (slice_get (ps ++ fresh ∷ []) d)) (λ d. up_of (slice_get (ps ++ fresh ∷ []) d)) (λ d. ended_of (slice_get (ps ++ fresh ∷ []) d))
    ≡ told_as log (length ps + 1) (λ d. taken_of (slice_get ps d)) (put (λ d. up_of (slice_get ps d)) (length ps) true) (λ d. ended_of (slice_get ps d))
told_added log ps = told_is log _ _ _ _ _ _ _ _
    (length-append ps (fresh ∷ []))
    (added taken_of refl ps)
    (field_added up_of true refl ps)
    (added ended_of refl ps)

-- marking tells nothing
told_mapped : (log : List PortItem) (ps : List PeerHeld)
    → told_as log (length (map marked ps)) (λ d. taken_of (slice_get (map marked ps) d)) (λ d. up_of (slice_get (map marked ps) d)) (λ d. ended_of (slice_get (map marked ps) d))
    ≡ told_as log (length ps) (λ d. taken_of (slice_get ps d)) (λ d. up_of (slice_get ps d)) (λ d. ended_of (slice_get ps d))
told_mapped log ps = told_is log _ _ _ _ _ _ _ _
    (length-map ps marked) (field_mapped taken_of marked (λ p. refl) ps) (field_mapped up_of marked (λ p. refl) ps) (field_mapped ended_of marked (λ p. refl) ps)

told_readied : (h : PortsHeld) (b : Bool) → told_of (cond b h (record h { peers = map marked h.peers; ready = true })) ≡ told_of h
told_readied h true = refl
told_readied h false = told_mapped h.log h.peers

told_moved : (steps : List PortStep) (reached : Bool) (h : PortsHeld) → told_of (moved steps reached h) ≡ told_of h
told_moved steps true h = refl
told_moved steps false h = refl

-- ports that are made ready tell what they told
pub told_ready : (old ready : PortsHeld) → Readies old ready → told_of ready ≡ told_of old
told_ready old ready r = ap told_of r.is ∙ told_readied (moved r.steps r.reached old) (is_marked (moved r.steps r.reached old)) ∙ told_moved r.steps r.reached old

-- one more line in the count of failures
pub faults_more : (log : List PortItem) (line : PortItem) → count_by is_fault (log ++ line ∷ []) ≡ count_by is_fault log + cond (is_fault line) 1 0
faults_more log line =
    sum_by-append (λ x. cond (is_fault x) 1 0) log (line ∷ []) ∙ ap (λ n. count_by is_fault log + n) (none_more (cond (is_fault line) 1 0))
  where
    none_more : (n : ℕ) → 0 + n ≡ n
    none_more n = omega arith

counted : (n m : ℕ) → m ≡ n + 1 → Counted n m
counted n m e = (omega (arith, e), omega (arith, e))

pub faults_rise : (log : List PortItem) (line : PortItem) → is_fault line ≡ true → Counted (count_by is_fault log) (count_by is_fault (log ++ line ∷ []))
faults_rise log line h = counted _ _ (faults_more log line ∙ ap (λ b. count_by is_fault log + cond b 1 0) h)

pub faults_stay : (log : List PortItem) (line : PortItem) → is_fault line ≡ false → count_by is_fault (log ++ line ∷ []) ≡ count_by is_fault log
faults_stay log line h = faults_more log line ∙ ap (λ b. count_by is_fault log + cond b 1 0) h ∙ omega arith

-- a send
pub send_told : (old new : PortsHeld) (c : ℕ) (bytes : List ℕ) (result : Result ℕ SendFault) → up_of (slice_get old.peers c) ≡ true → SendsHeld old new c bytes result
    → told_of new ≡ told.after_send c bytes result (told_of old)
send_told old new c bytes (Ok n) up s = ap told_of s.2 ∙ told_gained (old.log ++ item.Sent c (length bytes) (Some n) ∷ []) old.peers c bytes n up
send_told old new c bytes (Err send_fault.Failed) up s = ap told_of s.1 ∙ told_closed (old.log ++ item.Sent c (length bytes) None ∷ []) old.peers c
send_told old new c bytes (Err send_fault.NoMemory) up s = ap told_of s
