-- From round to round, and to a front's end.
use Rattle.std.proofs.Common.{◌≡◌, ℕ, Bool, true, false, cond, List, [], ◌∷◌, ◌++◌, map, Option, Some, None, option_map, IfSome, refl, sym, ap, subst, ◌∙◌, inl, inr, ◌⊎◌}
use Rattle.std.specs.Prelude.{◌≢◌}
use Rattle.std.proofs.lemmas.List.{append-nil}
use Rattle.std.proofs.lemmas.Option.{same_Some}
use Rattle.farm_history.specs.Lists.{Each}
use Rattle.farm_history.specs.Entries.{Entry, Stop}
use Rattle.reactor_ports.specs.declared.events.PortEvent.{PortEvent}
use Rattle.reactor_ports.specs.declared.events.PortEvent.TheVariants as event
use Rattle.reactor_ports.specs.declared.ends.FrontEnd.{FrontEnd}
use Rattle.reactor_ports.specs.declared.ends.FrontEnd.TheVariants as ended
use Rattle.reactor_ports.specs.declared.ends.FrontDone.{FrontDone}
use Rattle.reactor_ports.specs.declared.ends.Rest.{Rest}
use Rattle.reactor_ports.specs.Told.{PortsTold, heard}
use Rattle.reactor_ports.specs.Boxes.{rest_at, rest_of, as_rest}
use Rattle.front_loop.specs.declared.sessions.Session.{Session}
use Rattle.front_loop.specs.Rules.{Rules, Move}
use Rattle.front_loop.specs.Rounds.{FrontRound, has, there}
use Rattle.front_loop.specs.Conns.{conn, before, made, Kept}
use Rattle.front_loop.specs.RoundRules.{EndsWhole, MayFollow}
use Rattle.front_loop.specs.Serving.{EndHasCause, rests_of, FrontRun}
use Rattle.front_loop.specs.inner.Sessions.{conns, keys, Apart}
use Rattle.front_loop.specs.inner.Stands.{World, IsAtRest, AreTold, EachMayCome, Stands, Sits, Waits, untaken}
use Rattle.front_loop.specs.inner.Stages.{IsOver, CanGo, Goes, CutShort, end_of, StopsAfter}
use Rattle.front_loop.proofs.Tables.{other, same, each_weaker, each_both, each_conn, not_first}
use Rattle.front_loop.proofs.Sitting.{clash, waits_again, kept_again}
use Rattle.front_loop.proofs.Telling.{tells}

told_same : (o : Option PortsTold) → option_map (λ t. t) o ≡ o
told_same None = refl
told_same (Some t) = refl

module _ {A W T : Type 0} (R : Rules A W) (K : List ℕ → List (Move A) → T → Type 0) where
  -- ---- a round is over

  ends_whole : (e : PortEvent) (stopped : Bool) (start : Option PortsTold) (w : World T) → (h : IsOver R K e stopped start w) → EndsWhole R h.rounds h.round
  ends_whole e stopped start w h = record {
    through = λ n. let x = sym h.last_is ∙ n in cc;
    kept = λ c there_is.
        each_conn (λ c. Kept R (before h.rounds h.round c) h.round c) w.sessions c
        (each_weaker (λ (s : Session T). Sits R K (before h.rounds h.round s.conn) h.round s.conn (made h.round s.conn) s w.told w.box × IsAtRest s)
        (λ (s : Session T). Kept R (before h.rounds h.round s.conn) h.round s.conn) w.sessions (λ s b. kept_again R K (before h.rounds h.round s.conn) h.round s w.told w.box b.0 b.1)
        (each_both (λ (s : Session T). Sits R K (before h.rounds h.round s.conn) h.round s.conn (made h.round s.conn) s w.told w.box) IsAtRest w.sessions h.makes.each h.rested))
        (ap (λ cs. has cs c) h.makes.stands.conns_are ∙ there_is);
  }

  waits_all : (e : PortEvent) (stopped : Bool) (start : Option PortsTold) (w : World T) → (h : IsOver R K e stopped start w)
      → Each (λ (s : Session T). Waits R K (conn (h.round ∷ h.rounds) s.conn) s w.told w.box) w.sessions
  waits_all e stopped start w h =
      each_weaker (λ (s : Session T). Sits R K (before h.rounds h.round s.conn) h.round s.conn (made h.round s.conn) s w.told w.box × IsAtRest s)
      (λ (s : Session T). Waits R K (conn (h.round ∷ h.rounds) s.conn) s w.told w.box) w.sessions (λ s b. waits_again R K (before h.rounds h.round s.conn) h.round s w.told w.box b.0 b.1)
      (each_both (λ (s : Session T). Sits R K (before h.rounds h.round s.conn) h.round s.conn (made h.round s.conn) s w.told w.box) IsAtRest w.sessions h.makes.each h.rested)

  rolls_on : (e : PortEvent) (start : Option PortsTold) (w : World T) → e ≢ event.Finished → IsOver R K e false start w → CanGo R K start w
  rolls_on e start w n h = (
    h.round ∷ h.rounds,
    record {
      stands = h.makes.stands;
      follows = (ends_whole e false start w h, h.last_is, λ q. n (sym h.event_is ∙ q));
      each = waits_all e false start w h;
    },
  )

  pub goes_by : (e : PortEvent) (stopped : Bool) (start : Option PortsTold) (w : World T) → IsOver R K e stopped start w → Goes R K start w (end_of e stopped)
  goes_by e true start w h = (e, h)
  goes_by event.Finished false start w h = h
  goes_by event.Broken false start w h = rolls_on event.Broken start w (λ q. cc) h
  goes_by event.NoMemory false start w h = rolls_on event.NoMemory start w (λ q. cc) h
  goes_by (event.Opened c) false start w h = rolls_on (event.Opened c) start w (λ q. cc) h
  goes_by (event.Bytes c) false start w h = rolls_on (event.Bytes c) start w (λ q. cc) h
  goes_by (event.Writable c) false start w h = rolls_on (event.Writable c) start w (λ q. cc) h
  goes_by (event.Ended c) false start w h = rolls_on (event.Ended c) start w (λ q. cc) h
  goes_by (event.Lost c) false start w h = rolls_on (event.Lost c) start w (λ q. cc) h
  goes_by event.Woken false start w h = rolls_on event.Woken start w (λ q. cc) h

  none_came : (told : Option PortsTold) → IfSome told (EachMayCome R [])
  none_came None = tt
  none_came (Some t) = tt

  -- nobody is there as a front begins
  pub begins : (told : Option PortsTold) (w : World T) → w.told ≡ told → w.mine ≡ [] → w.sessions ≡ [] → w.box ≡ [] → w.starved ≡ 0 → CanGo R K told w
  begins told w t m s b n = (
    [],
    record {
      stands = record {
        are_told = record { entries = m; telling = t ∙ sym (told_same told); coming = none_came told; sound = tt; counted = n };
        conns_are = ap conns s;
        keys_are = ap keys b;
        apart = subst (λ (ss : List (Session T)). Apart (conns ss)) (sym s) tt;
      };
      follows = tt;
      each = subst (λ (ss : List (Session T)). Each (λ (x : Session T). Waits R K (conn [] x.conn) x w.told w.box) ss) (sym s) tt;
    },
  )

  -- ---- the rests of all that are there

  abbrev RestsAt : List (ℕ × List ℕ) → List (FrontRound A) → List ℕ → Type 0
  RestsAt box rs [] = Unit {0}
  RestsAt box rs (c ∷ cs) = (rest_at box c ≡ Some (untaken R (conn rs c))) × RestsAt box rs cs

  rests_at : (told : Option PortsTold) (box : List (ℕ × List ℕ)) (rs : List (FrontRound A)) (xs : List (Session T)) → Each (λ (s : Session T). Waits R K (conn rs s.conn) s told box) xs → RestsAt box rs (conns xs)
  rests_at told box rs [] e = tt
  rests_at told box rs (x ∷ xs) e = (e.0.rest_there.1 ∙ ap Some (sym (ap rest_of e.0.rest_there.1) ∙ e.0.rest_is), rests_at told box rs xs e.1)

  rests_tail : (p : ℕ × List ℕ) (ps : List (ℕ × List ℕ)) (rs : List (FrontRound A)) (cs : List ℕ) → has cs p.0 ≡ false → RestsAt (p ∷ ps) rs cs → RestsAt ps rs cs
  rests_tail p ps rs [] h r = tt
  rests_tail p ps rs (c ∷ cs) h r =
      let n = not_first p.0 c cs h in
      (sym (ap (λ b. cond b (Some p.1) (rest_at ps c)) (other p.0 c (λ q. n.0 (sym q)))) ∙ r.0, rests_tail p ps rs cs n.1 r.1)

  rests_are : (box : List (ℕ × List ℕ)) (rs : List (FrontRound A)) → Apart (keys box) → RestsAt box rs (keys box) → box ≡ map (λ c. (c, untaken R (conn rs c))) (keys box)
  rests_are [] rs a r = refl
  rests_are (p ∷ ps) rs a r =
      let e : p.1 ≡ untaken R (conn rs p.0) = same_Some p.1 (untaken R (conn rs p.0)) (sym (ap (λ b. cond b (Some p.1) (rest_at ps p.0)) (same p.0)) ∙ r.0) in
      ap (λ d. (p.0, d) ∷ ps) e ∙ ap (λ qs. (p.0, untaken R (conn rs p.0)) ∷ qs) (rests_are ps rs a.1 (rests_tail p ps rs (keys ps) a.0 r.1))

  handed_rests : (rs : List (FrontRound A)) (cs : List ℕ) → map (as_rest R.number) (map (λ c. (c, untaken R (conn rs c))) cs)
      ≡ map (λ c. record { front = R.number; conn = c; bytes = untaken R (conn rs c) }) cs
  handed_rests rs [] = refl
  handed_rests rs (c ∷ cs) = ap (λ xs. record { front = R.number; conn = c; bytes = untaken R (conn rs c) } ∷ xs) (handed_rests rs cs)

  whole_rests : (start : Option PortsTold) (rs : List (FrontRound A)) (w : World T) → Stands R start rs w → Each (λ (s : Session T). Waits R K (conn rs s.conn) s w.told w.box) w.sessions
      → map (as_rest R.number) w.box ≡ rests_of R rs
  whole_rests start rs w st e =
      let key : keys w.box ≡ conns w.sessions = st.keys_are ∙ sym st.conns_are in
      ap (map (as_rest R.number))
      (rests_are w.box rs (subst Apart (sym key) st.apart) (subst (RestsAt w.box rs) (sym key) (rests_at w.told w.box rs w.sessions e)) ∙ ap (map (λ c. (c, untaken R (conn rs c)))) st.keys_are)
      ∙ handed_rests rs (there rs)

  each_handed : (n : ℕ) (box : List (ℕ × List ℕ)) → Each (λ (r : Rest). r.front ≡ n) (map (as_rest n) box)
  each_handed n [] = tt
  each_handed n (p ∷ ps) = (refl, each_handed n ps)

  -- ---- a front's end

  -- what is told of a front that ends with these rounds; the rests are theirs, where no turn was worn
  runs_by : (start told told' : Option PortsTold) (mine mine' stop : List Entry) (starved : ℕ) (box : List (ℕ × List ℕ)) (rs : List (FrontRound A)) (end : FrontEnd) (broke worn : Bool)
      → AreTold R start told mine starved rs → mine' ≡ mine ++ stop → told' ≡ option_map (λ t. cond broke (heard event.Broken [] t) t) told → EndHasCause R end rs stop worn
      → (end ≡ ended.Broken → broke ≡ true) → (broke ≡ true → MayFollow R rs × ((end ≡ ended.Broken) ⊎ (end ≡ ended.Worn)))
      → (end ≢ ended.Worn → map (as_rest R.number) box ≡ rests_of R rs) → FrontRun R start told' mine' end (map (as_rest R.number) box) starved worn
  runs_by start told told' mine mine' stop starved box rs end broke worn st m t e b k f = record {
    rounds = rs;
    broke = broke;
    stop = stop;
    entries = m ∙ ap (λ es. es ++ stop) st.entries;
    telling = t ∙ ap (option_map (λ t. cond broke (heard event.Broken [] t) t)) st.telling;
    sound = st.sound;
    tells = tells R start rs st.sound st.coming;
    end_fits = e;
    broken = b;
    breaks = k;
    handed = each_handed R.number box;
    rests_fit = f;
    counted = st.counted;
  }

  -- a turn was worn
  pub runs_worn : (start told : Option PortsTold) (mine : List Entry) (box : List (ℕ × List ℕ)) (starved : ℕ) (worn : Bool) → CutShort R K start told mine starved → worn ≡ true
      → FrontRun R start told mine ended.Worn (map (as_rest R.number) box) starved worn
  runs_worn start told mine box starved worn h e =
      runs_by start told told mine mine [] starved box h.0 ended.Worn false worn h.1 (sym (append-nil mine)) (sym (told_same told)) (e, refl) (λ q. cc) (λ q. clash (sym q)) (λ n. absurd (n refl))

  -- the run of a front that has this world at its end
  abbrev RunOf : Option PortsTold → World T → List Entry → FrontEnd → Bool → Type 0
  RunOf start w mine' end' worn = FrontRun R start w.told mine' end' (map (as_rest R.number) w.box) w.starved worn

  runs_finished : (start : Option PortsTold) (w : World T) (mine' : List Entry) (worn : Bool) → IsOver R K event.Finished false start w → mine' ≡ w.mine → RunOf start w mine' ended.Finished worn
  runs_finished start w mine' worn h m =
      let rs = h.round ∷ h.rounds in
      runs_by start w.told w.told w.mine mine' [] w.starved w.box rs ended.Finished false worn h.makes.stands.are_told (m ∙ sym (append-nil w.mine)) (sym (told_same w.told))
      (ends_whole event.Finished false start w h, h.event_is, h.last_is, refl) (λ q. cc) (λ q. clash (sym q)) (λ _. whole_rests start rs w h.makes.stands (waits_all event.Finished false start w h))

  runs_stopped : (e : PortEvent) (start : Option PortsTold) (w : World T) (mine' : List Entry) (worn : Bool) → IsOver R K e true start w → mine' ≡ w.mine ++ Stop ∷ [] → RunOf start w mine' ended.Stopped worn
  runs_stopped e start w mine' worn h m =
      let rs = h.round ∷ h.rounds in
      runs_by start w.told w.told w.mine mine' (Stop ∷ []) w.starved w.box rs ended.Stopped false worn h.makes.stands.are_told m (sym (told_same w.told))
      (ends_whole e true start w h, h.last_is, refl) (λ q. cc) (λ q. clash (sym q)) (λ _. whole_rests start rs w h.makes.stands (waits_all e true start w h))

  runs_memory : (start : Option PortsTold) (w : World T) (mine' : List Entry) (worn : Bool) → CanGo R K start w → mine' ≡ w.mine ++ Stop ∷ [] → RunOf start w mine' ended.NoMemory worn
  runs_memory start w mine' worn (rs, h) m =
      runs_by start w.told w.told w.mine mine' (Stop ∷ []) w.starved w.box rs ended.NoMemory false worn h.stands.are_told m (sym (told_same w.told)) (h.follows, refl) (λ q. cc) (λ q. clash (sym q))
      (λ _. whole_rests start rs w h.stands h.each)

  runs_broken : (start told' : Option PortsTold) (w : World T) (mine' : List Entry) (worn : Bool) → CanGo R K start w → told' ≡ option_map (heard event.Broken []) w.told
      → mine' ≡ w.mine ++ Stop ∷ [] → FrontRun R start told' mine' ended.Broken (map (as_rest R.number) w.box) w.starved worn
  runs_broken start told' w mine' worn (rs, h) t m =
      runs_by start w.told told' w.mine mine' (Stop ∷ []) w.starved w.box rs ended.Broken true worn h.stands.are_told m t (h.follows, refl) (λ _. refl) (λ _. (h.follows, inl refl))
      (λ _. whole_rests start rs w h.stands h.each)

  -- the stop at the end was worn
  stop_worn : (start : Option PortsTold) (w : World T) (mine' : List Entry) (end' : FrontEnd) (worn : Bool) → CutShort R K start w.told w.mine w.starved → end' ≡ ended.Worn → mine' ≡ w.mine → worn ≡ true
      → RunOf start w mine' end' worn
  stop_worn start w mine' end' worn h e m n =
      subst (λ x. RunOf start w mine' x worn) (sym e) (subst (λ es. RunOf start w es ended.Worn worn) (sym m) (runs_worn start w.told w.mine w.box w.starved worn h n))

  broken_worn : (start : Option PortsTold) (w : World T) (told : Option PortsTold) (worn : Bool) → CanGo R K start (record w { told = told }) → w.told ≡ option_map (heard event.Broken []) told → worn ≡ true
      → RunOf start w w.mine ended.Worn worn
  broken_worn start w told worn (rs, h) t n =
      runs_by start told w.told w.mine w.mine [] w.starved w.box rs ended.Worn true worn h.stands.are_told (sym (append-nil w.mine)) t (n, refl) (λ q. cc) (λ _. (h.follows, inr refl)) (λ x. absurd (x refl))

  pub runs_end : (start : Option PortsTold) (w : World T) (mine' : List Entry) (end end' : FrontEnd) (worn : Bool) → Goes R K start w (Some end) → StopsAfter end end' w.mine mine' worn
      → RunOf start w mine' end' worn
  runs_end start w mine' ended.Finished end' worn h (e, m) = subst (λ x. RunOf start w mine' x worn) (sym e) (runs_finished start w mine' worn h m)
  runs_end start w mine' ended.Stopped end' worn (e, h) (inl (q, m)) = subst (λ x. RunOf start w mine' x worn) (sym q) (runs_stopped e start w mine' worn h m)
  runs_end start w mine' ended.Stopped end' worn (e, h) (inr (q, m, n)) = stop_worn start w mine' end' worn (h.round ∷ h.rounds, h.makes.stands.are_told) q m n
  runs_end start w mine' ended.NoMemory end' worn h (inl (q, m)) = subst (λ x. RunOf start w mine' x worn) (sym q) (runs_memory start w mine' worn h m)
  runs_end start w mine' ended.NoMemory end' worn h (inr (q, m, n)) = stop_worn start w mine' end' worn (h.0, h.1.stands.are_told) q m n
  runs_end start w mine' ended.Broken end' worn (told, h, t) (inl (q, m)) =
      subst (λ x. RunOf start w mine' x worn) (sym q) (runs_broken start w.told (record w { told = told }) mine' worn h t m)
  runs_end start w mine' ended.Broken end' worn (told, h, t) (inr (q, m, n)) =
      subst (λ x. RunOf start w mine' x worn) (sym q) (subst (λ es. RunOf start w es ended.Worn worn) (sym m) (broken_worn start w told worn h t n))
  runs_end start w mine' ended.Worn end' worn h s = absurd h

  -- what is handed back of it
  pub handed_back : (start told : Option PortsTold) (mine : List Entry) (end : FrontEnd) (box : List (ℕ × List ℕ)) (starved front : ℕ) (worn : Bool) (done : FrontDone) → front ≡ R.number → done.end ≡ end
      → done.rests.items ≡ map (as_rest front) box → done.starved ≡ starved → FrontRun R start told mine end (map (as_rest R.number) box) starved worn
      → FrontRun R start told mine done.end done.rests.items done.starved worn
  handed_back start told mine end box starved front worn done n e r s h =
      subst (λ (x : FrontEnd). FrontRun R start told mine x done.rests.items done.starved worn) (sym e)
      (subst (λ (xs : List Rest). FrontRun R start told mine end xs done.starved worn) (sym (r ∙ ap (λ m. map (as_rest m) box) n))
      (subst (λ (x : ℕ). FrontRun R start told mine end (map (as_rest R.number) box) x worn) (sym s) h))
