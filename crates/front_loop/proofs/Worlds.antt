-- A round begins: its event, and what all sessions and all else make of it.
use Rattle.std.proofs.Common.{◌≡◌, ◌==◌, ◌-◌, ◌^◌, ℕ, true, false, Bool, ◌&&◌, IfSome, cond, List, [], ◌∷◌, ◌++◌, length, map, min, set, Option, Some, None, option_map, refl, sym, ap, subst, ◌∙◌, inl, inr, ◌⊎◌}
use Rattle.std.specs.Prelude.{◌≢◌, Result, MatchResult}
use Rattle.farm_base.specs.declared.turns.Worn.{Worn}
use Rattle.std.proofs.lemmas.Bool.{eqb-true}
use Rattle.farm_history.specs.Lists.{Each}
use Rattle.farm_history.specs.Entries.{Entry}
use Rattle.reactor_ports.specs.declared.events.PortEvent.{PortEvent}
use Rattle.reactor_ports.specs.declared.events.PortEvent.TheVariants as event
use Rattle.reactor_ports.specs.Told.{PortsTold, MayCome, IsOpen, heard}
use Rattle.reactor_ports.specs.Boxes.{rest_at, HasRest, rest_in}
use Rattle.front_loop.specs.declared.dispositions.Disposition.{Disposition}
use Rattle.front_loop.specs.declared.sessions.Session.{Session}
use Rattle.front_loop.specs.declared.sessions.SessionTable.{SessionTable}
use Rattle.front_loop.specs.Rules.{EachSoFar, Rules, Move, wants_of, BeginsWanted}
use Rattle.front_loop.specs.Rounds.{FrontRound, in_turn, has, connections_after, with_refused, starved_in, there, asked_by}
use Rattle.front_loop.specs.Conns.{Standing, opens, blank, conn, before, made, after, shut_out, told_after}
use Rattle.front_loop.specs.RoundRules.{RoundFits}
use Rattle.front_loop.specs.Front.{does, with_acts, EachFits}
use Rattle.front_loop.specs.inner.Sessions.{conns, keys, Apart, StandsAt, woken}
use Rattle.front_loop.specs.inner.Stands.{World, AreTold, EachMayCome, Sits, Waits}
use Rattle.front_loop.specs.inner.Stages.{begun, Settles, Passes, Holds, Overflows, Starves, HearsOne, HearsWorn, Comes, CanCollect, CutShort, marked, MarksAt, Absent, Marks}
use Rattle.front_loop.proofs.Tables.{same, other, conns_set, conns_woken, each_set, each_none, each_woken, each_at}
use Rattle.front_loop.proofs.Rests.{other_put, keys_put}
use Rattle.front_loop.proofs.Woken.{world_woken}
use Rattle.front_loop.proofs.Sitting.{clash, open_map, others, sits_quiet, sits_called, sits_ended, sits_lost}
use Rattle.front_loop.proofs.Heards.{made_by, made_here, made_there, heard_of, heard_sits}

map_map : (o : Option PortsTold) (f g : PortsTold → PortsTold) → option_map f (option_map g o) ≡ option_map (λ t. f (g t)) o
map_map None f g = refl
map_map (Some t) f g = refl

map_same : (o : Option PortsTold) (f g : PortsTold → PortsTold) → ((t : PortsTold) → f t ≡ g t) → option_map f o ≡ option_map g o
map_same None f g h = refl
map_same (Some t) f g h = ap Some (h t)

-- one more function on what is told
pub told_more : (start told told' : Option PortsTold) (f g : PortsTold → PortsTold) → told ≡ option_map g start → told' ≡ option_map f told
    → told' ≡ option_map (λ t. f (g t)) start
told_more start told told' f g h k = k ∙ ap (option_map f) h ∙ map_map start f g

-- a connection stays open over what others' events tell
pub open_by : (told told' : Option PortsTold) (f : PortsTold → PortsTold) (c : ℕ) → told' ≡ option_map f told → ((t : PortsTold) → (f t).is_open c ≡ t.is_open c)
    → IsOpen c told → IsOpen c told'
open_by told told' f c e h o = subst (IsOpen c) (sym e) (open_map told f c h o)

-- what settles changes nothing of others
pub settles_keys : (c : ℕ) (response : List ℕ) (f f' : Disposition) (box box' : List (ℕ × List ℕ)) → Settles c response f f' box box' → keys box' ≡ keys box
settles_keys c response f f' box box' (Passes k q b) = ap keys b
settles_keys c response f f' box box' (Holds k q b l) = ap keys b ∙ keys_put box c (rest_in box c ++ response)
settles_keys c response f f' box box' (Overflows k q b l) = ap keys b
settles_keys c response f f' box box' (Starves k q b l) = ap keys b

pub settles_other : (c : ℕ) (response : List ℕ) (f f' : Disposition) (box box' : List (ℕ × List ℕ)) (d : ℕ) → Settles c response f f' box box' → (c ≡ d → ⊥) → rest_at box' d ≡ rest_at box d
settles_other c response f f' box box' d (Passes k q b) n = ap (λ (x : List (ℕ × List ℕ)). rest_at x d) b
settles_other c response f f' box box' d (Holds k q b l) n = ap (λ (x : List (ℕ × List ℕ)). rest_at x d) b ∙ other_put box c (rest_in box c ++ response) d n
settles_other c response f f' box box' d (Overflows k q b l) n = ap (λ (x : List (ℕ × List ℕ)). rest_at x d) b
settles_other c response f f' box box' d (Starves k q b l) n = ap (λ (x : List (ℕ × List ℕ)). rest_at x d) b

bytes_same : (c d : ℕ) → event.Bytes c ≡ event.Bytes d → c ≡ d
bytes_same c d h = cc

-- an event that opens no connection leaves those that are there, what the ports tell, and the count of the starved
pub record Plain (e : PortEvent) : Type 0 where
  pub connections : (cs : List ℕ) → connections_after cs e false ≡ cs
  pub told : (t : PortsTold) → shut_out e false t ≡ t
  pub refused : (n there : ℕ) → with_refused n e false there ≡ n
  pub unbroken : e ≢ event.Broken
  pub memory : e ≢ event.NoMemory

module _ {A W : Type 0} (R : Rules A W) where
  -- ---- requests

  acts_are : (c : ℕ) (acts : List A) (mine : List Entry) → with_acts R c acts mine ≡ in_turn (λ a es. es ++ asked_by R (event.Bytes c) a) acts mine
  acts_are c [] mine = refl
  acts_are c (a ∷ acts) mine = ap (λ es. es ++ R.entries c a) (acts_are c acts mine)

  -- each move of a connection fits
  pub all_fit : (rs : List (FrontRound A)) → EachSoFar (RoundFits R) rs → (c : ℕ) → EachSoFar (λ ms m. R.fits ms m ≡ true) (conn rs c).moves
  all_fit [] s c = tt
  all_fit (r ∷ rs) s c = s.0.fits c

  pub fits_before : (b : Bool) (q : Standing A) → EachSoFar (λ ms m. R.fits ms m ≡ true) q.moves → EachSoFar (λ ms m. R.fits ms m ≡ true) (cond b blank q).moves
  fits_before true q h = tt
  fits_before false q h = h

  acts_fit : (acts : List A) (ms : List (Move A)) → EachFits R acts ms → EachSoFar (λ ns m. R.fits ns m ≡ true) ms → EachSoFar (λ ns m. R.fits ns m ≡ true) (does acts ++ ms)
  acts_fit [] ms f h = h
  acts_fit (a ∷ acts) ms f h = (f.0, acts_fit acts ms f.1 h)

  fits_heard : (c : ℕ) (piece : List ℕ) (acts : List A) (rs : List (FrontRound A)) → EachSoFar (RoundFits R) rs → EachFits R acts (conn rs c).moves → (d : ℕ)
      → EachSoFar (λ ms m. R.fits ms m ≡ true) (made (begun (event.Bytes c) piece false acts) d ++ (conn rs d).moves)
  fits_heard c piece acts rs s f d = by_test (c == d) refl
    where
      by_test : (b : Bool) → (c == d) ≡ b → EachSoFar (λ ms m. R.fits ms m ≡ true) (made (begun (event.Bytes c) piece false acts) d ++ (conn rs d).moves)
      by_test true e =
          subst (λ l. EachSoFar (λ ms m. R.fits ms m ≡ true) (l ++ (conn rs d).moves)) (sym (made_by R (c == d) acts ∙ ap (λ b. cond b (does acts) []) e))
          (acts_fit acts (conn rs d).moves (subst (λ x. EachFits R acts (conn rs x).moves) (eqb-true c d e) f) (all_fit rs s d))
      by_test false e =
          subst (λ l. EachSoFar (λ ms m. R.fits ms m ≡ true) (l ++ (conn rs d).moves)) (sym (made_by R (c == d) acts ∙ ap (λ b. cond b (does acts) []) e)) (all_fit rs s d)

  none_snoc : (ws : List W) (w : W) → ws ++ w ∷ [] ≡ [] → ⊥
  none_snoc [] w h = cc
  none_snoc (x ∷ ws) w h = cc

  asks_first : (given : List ℕ) (acts : List A) (ms : List (Move A)) → BeginsWanted R given (wants_of R (does acts ++ ms))
      → (acts ≡ []) ⊎ ((more : List W) × R.wanted given (wants_of R (does acts ++ ms) ++ more))
  asks_first given [] ms b = inl refl
  asks_first given (a ∷ acts) ms (inl e) = absurd (none_snoc (wants_of R (does acts ++ ms)) (R.want a) e)
  asks_first given (a ∷ acts) ms (inr more) = inr more

  asks_heard : (c : ℕ) (piece : List ℕ) (acts : List A) (q : Standing A) → BeginsWanted R (q.given ++ piece) (wants_of R (does acts ++ q.moves))
      → (acts ≡ [])
      ⊎ ((more : List W) × R.wanted (after (begun (event.Bytes c) piece false acts) c q).given (wants_of R (made (begun (event.Bytes c) piece false acts) c ++ q.moves) ++ more))
  asks_heard c piece acts q b =
      subst (λ l. (acts ≡ []) ⊎ ((more : List W) × R.wanted (after (begun (event.Bytes c) piece false acts) c q).given (wants_of R (l ++ q.moves) ++ more))) (sym (made_here R c piece acts))
      (subst (λ g. (acts ≡ []) ⊎ ((more : List W) × R.wanted g (wants_of R (does acts ++ q.moves) ++ more))) (sym (ap (λ b. cond b (q.given ++ piece) q.given) (same c)))
      (asks_first (q.given ++ piece) acts q.moves b))

  pub came_may : (start told : Option PortsTold) (r : FrontRound A) (rs : List (FrontRound A)) → told ≡ option_map (told_after R rs) start
      → IfSome told (MayCome r.event) → IfSome start (EachMayCome R rs) → IfSome start (EachMayCome R (r ∷ rs))
  came_may None told r rs h m c = tt
  came_may (Some t) told r rs h m c = (subst (λ (o : Option PortsTold). IfSome o (MayCome r.event)) h m, c)

module _ {A W T : Type 0} (R : Rules A W) (K : List ℕ → List (Move A) → T → Type 0) where
  -- what is told of a round that begins, with the requests that were done
  told_begun : (e : PortEvent) (piece : List ℕ) (acts : List A) (start told : Option PortsTold) (w : World T) (mine' : List Entry) → (m : Comes R K e piece start told w) → Plain e
      → mine' ≡ in_turn (λ a es. es ++ asked_by R e a) acts w.mine → RoundFits R m.rounds (begun e piece false acts)
      → AreTold R start told mine' w.starved (begun e piece false acts ∷ m.rounds)
  told_begun e piece acts start told w mine' m p n f =
      let st = m.can.stands.are_told in
      record {
        entries = n ∙ ap (in_turn (λ a es. es ++ asked_by R e a) acts) st.entries;
        telling = told_more start w.told told (heard e piece) (told_after R m.rounds) st.telling m.heard.1
            ∙ map_same start (λ t. heard e piece (told_after R m.rounds t)) (told_after R (begun e piece false acts ∷ m.rounds))
            (λ t. sym (p.told (heard e piece (told_after R m.rounds t))));
        coming = came_may R start w.told (begun e piece false acts) m.rounds st.telling m.heard.0 st.coming;
        sound = (f, st.sound);
        counted = st.counted ∙ ap (λ n. min n (2 ^ 64 - 1)) (sym (p.refused (starved_in m.rounds) (length (there m.rounds))));
      }

  -- a round begins, whatever its sessions are then
  begins : (e : PortEvent) (piece : List ℕ) (acts : List A) (start told : Option PortsTold) (w : World T) (mine' : List Entry) (sessions : List (Session T)) (box' : List (ℕ × List ℕ))
      → (m : Comes R K e piece start told w) → Plain e
      → mine' ≡ in_turn (λ a es. es ++ asked_by R e a) acts w.mine → RoundFits R m.rounds (begun e piece false acts)
      → conns sessions ≡ conns w.sessions → keys box' ≡ keys w.box
      → Each (λ (s : Session T). Sits R K (before m.rounds (begun e piece false acts) s.conn) (begun e piece false acts) s.conn (made (begun e piece false acts) s.conn) s told box') sessions
      → CanCollect R K e start (record { told = told; mine = mine'; sessions = sessions; box = box'; starved = w.starved })
  begins e piece acts start told w mine' sessions box' m p n f c k each =
      let st = m.can.stands in
      record {
        rounds = m.rounds;
        round = begun e piece false acts;
        replies = [];
        event_is = refl;
        makes = record {
          stands = record {
            are_told = told_begun e piece acts start told w mine' m p n f;
            conns_are = c ∙ st.conns_are ∙ sym (p.connections (there m.rounds));
            keys_are = k ∙ st.keys_are ∙ sym (p.connections (there m.rounds));
            apart = subst Apart (sym c) st.apart;
          };
          each = each;
        };
      }

  -- the round fits, where nothing was asked
  fits_quiet : (e : PortEvent) (piece : List ℕ) (start told : Option PortsTold) (w : World T) → (m : Comes R K e piece start told w) → Plain e → RoundFits R m.rounds (begun e piece false [])
  fits_quiet e piece start told w m p = record {
    follows = m.can.follows;
    begins = (p.unbroken, p.memory);
    room = λ h. clash (sym h);
    asks = λ c i. inl refl;
    fits = λ c. fits_before R (opens e c && false) (conn m.rounds c) (all_fit R m.rounds m.can.stands.are_told.sound c);
    order = λ n. (refl, refl);
    sends = tt;
    left = tt;
  }

  fits_acts : (c : ℕ) (piece : List ℕ) (acts : List A) (start told : Option PortsTold) (w : World T) → (m : Comes R K (event.Bytes c) piece start told w) → EachFits R acts (conn m.rounds c).moves
      → BeginsWanted R ((conn m.rounds c).given ++ piece) (wants_of R (does acts ++ (conn m.rounds c).moves)) → RoundFits R m.rounds (begun (event.Bytes c) piece false acts)
  fits_acts c piece acts start told w m f b = record {
    follows = m.can.follows;
    begins = (λ (q : event.Bytes c ≡ event.Broken). cc, λ (q : event.Bytes c ≡ event.NoMemory). cc);
    room = λ h. clash (sym h);
    asks = λ d i. subst
        (λ x. (acts ≡ [])
        ⊎ ((more : List W) × R.wanted (after (begun (event.Bytes c) piece false acts) x (conn m.rounds x)).given (wants_of R (made (begun (event.Bytes c) piece false acts) x ++ (conn m.rounds x).moves) ++ more)))
        (bytes_same c d i) (asks_heard R c piece acts (conn m.rounds c) b);
    fits = λ d. fits_heard R c piece acts m.rounds m.can.stands.are_told.sound f d;
    order = λ n. (refl, refl);
    sends = tt;
    left = tt;
  }

  plain_bytes : (c : ℕ) → Plain (event.Bytes c)
  plain_bytes c = record { connections = λ cs. refl; told = λ t. refl; refused = λ n k. refl; unbroken = λ q. cc; memory = λ q. cc }

  -- one of the others as a piece comes
  others_bytes : (c : ℕ) (piece : List ℕ) (acts : List A) (start told : Option PortsTold) (w : World T) → (m : Comes R K (event.Bytes c) piece start told w) → (x : Session T) → (x.conn ≡ c → ⊥)
      → Waits R K (conn m.rounds x.conn) x w.told w.box
      → Sits R K (conn m.rounds x.conn) (begun (event.Bytes c) piece false acts) x.conn (made (begun (event.Bytes c) piece false acts) x.conn) x told w.box
  others_bytes c piece acts start told w m x n q =
      subst (λ l. Sits R K (conn m.rounds x.conn) (begun (event.Bytes c) piece false acts) x.conn l x told w.box) (sym (made_there R c x.conn piece acts (λ e. n (sym e))))
      (sits_quiet R K (event.Bytes c) piece false acts (conn m.rounds x.conn) x w.told w.box q (other c x.conn (λ e. n (sym e))) told
      (open_by w.told told (heard (event.Bytes c) piece) x.conn m.heard.1 (λ t. refl)) refl refl refl)

  -- a piece came on a connection that is not there
  pub bytes_none : (c : ℕ) (piece : List ℕ) (start told : Option PortsTold) (w : World T) → (m : Comes R K (event.Bytes c) piece start told w)
      → has (conns w.sessions) c ≡ false → CanCollect R K (event.Bytes c) start (record w { told = told })
  bytes_none c piece start told w m n =
      begins (event.Bytes c) piece [] start told w w.mine w.sessions w.box m (plain_bytes c) refl (fits_quiet (event.Bytes c) piece start told w m (plain_bytes c)) refl refl
      (each_none (λ (s : Session T). Waits R K (conn m.rounds s.conn) s w.told w.box)
      (λ (s : Session T). Sits R K (conn m.rounds s.conn) (begun (event.Bytes c) piece false []) s.conn [] s told w.box) w.sessions c m.can.each n
      (λ x ne q. others_bytes c piece [] start told w m x ne q))

  -- a piece was heard on the session of its connection
  bytes_heard : (piece : List ℕ) (start told : Option PortsTold) (w : World T) (i : ℕ) (s s' : Session T) (mine' : List Entry) (box' : List (ℕ × List ℕ))
      → (m : Comes R K (event.Bytes s.conn) piece start told w) → StandsAt w.sessions i s → HearsOne R K piece w.mine mine' s s' w.box box'
      → CanCollect R K (event.Bytes s.conn) start (record { told = told; mine = mine'; sessions = set w.sessions i s'; box = box'; starved = w.starved })
  bytes_heard piece start told w i s s' mine' box' m at h =
      let st = m.can.stands in
      let c = s.conn in
      let wait = each_at (λ (x : Session T). Waits R K (conn m.rounds x.conn) x w.told w.box) w.sessions i s at m.can.each in
      let hd = heard_of R K (conn m.rounds c) s s' piece w.mine mine' w.told w.box box' wait h in
      let r : FrontRound A = begun (event.Bytes c) piece false hd.acts in
      begins (event.Bytes c) piece hd.acts start told w mine' (set w.sessions i s') box' m (plain_bytes c) (hd.mine_is ∙ acts_are R c hd.acts w.mine)
      (fits_acts c piece hd.acts start told w m hd.fits hd.begins) (conns_set w.sessions i s s' at h.conn) (settles_keys c h.response h.disposition s'.disposition w.box box' h.settles)
      (each_set (λ (x : Session T). Waits R K (conn m.rounds x.conn) x w.told w.box) (λ (x : Session T). Sits R K (conn m.rounds x.conn) r x.conn (made r x.conn) x told box') w.sessions i s s' at st.apart m.can.each
      (λ x ne q. others R K (conn m.rounds x.conn) r x.conn (made r x.conn) x told told w.box box' (others_bytes c piece hd.acts start told w m x ne q)
      (settles_other c h.response h.disposition s'.disposition w.box box' x.conn h.settles (λ e. ne (sym e))) (λ o. o))
      (subst (λ d. Sits R K (conn m.rounds d) r d (made r d) s' told box') (sym h.conn)
      (subst (λ l. Sits R K (conn m.rounds c) r c l s' told box') (sym (made_here R c piece hd.acts))
      (heard_sits R K (conn m.rounds c) s s' piece w.mine mine' w.told told w.box box' wait (open_by w.told told (heard (event.Bytes c) piece) c m.heard.1 (λ t. refl)) h))))

  -- a turn was worn while a piece was heard
  bytes_worn : (piece : List ℕ) (start told : Option PortsTold) (w : World T) (i : ℕ) (s : Session T) (mine' : List Entry)
      → (m : Comes R K (event.Bytes s.conn) piece start told w) → StandsAt w.sessions i s → HearsWorn R K s.conn piece w.mine mine' s.conn_state
      → CutShort R K start told mine' w.starved
  bytes_worn piece start told w i s mine' m at h =
      let c = s.conn in
      let q = each_at (λ (x : Session T). Waits R K (conn m.rounds x.conn) x w.told w.box) w.sessions i s at m.can.each in
      let hd = h.heard (conn m.rounds c).given (conn m.rounds c).moves q.knows q.asked_all q.whole q.read in (
        begun (event.Bytes c) piece false hd.acts ∷ m.rounds,
        told_begun (event.Bytes c) piece hd.acts start told w mine' m (plain_bytes c) (hd.mine_is ∙ acts_are R c hd.acts w.mine) (fits_acts c piece hd.acts start told w m hd.fits hd.begins),
      )

  pub rest_of_place : (e : PortEvent) (piece : List ℕ) (start told : Option PortsTold) (w : World T) (i : ℕ) (s : Session T)
      → Comes R K e piece start told w → StandsAt w.sessions i s → HasRest w.box s.conn
  rest_of_place e piece start told w i s m at =
      (each_at (λ (x : Session T). Waits R K (conn m.rounds x.conn) x w.told w.box) w.sessions i s at m.can.each).rest_there

  -- ---- marks

  -- what a mark does to a session of its connection, and to the others
  pub record MarksOne (e : PortEvent) (c : ℕ) (piece : List ℕ) (start told : Option PortsTold) (w : World T) (m : Comes R K e piece start told w) : Type 0 where
    pub plain : Plain e
    pub conn_is : (s : Session T) → (marked e s).conn ≡ s.conn
    pub quiet : (x : Session T) → (x.conn ≡ c → ⊥) → Waits R K (conn m.rounds x.conn) x w.told w.box
        → Sits R K (before m.rounds (begun e piece false []) x.conn) (begun e piece false []) x.conn [] x told w.box
    pub here : (s : Session T) → s.conn ≡ c → Waits R K (conn m.rounds s.conn) s w.told w.box
        → Sits R K (before m.rounds (begun e piece false []) s.conn) (begun e piece false []) s.conn [] (marked e s) told w.box

  -- the test of a number, from a connection that is this or another
  is_here : (c d : ℕ) → d ≡ c → (c == d) ≡ true
  is_here c d e = ap (λ x. c == x) e ∙ same c

  is_other : (c d : ℕ) → (d ≡ c → ⊥) → (c == d) ≡ false
  is_other c d n = other c d (λ e. n (sym e))

  marks_writable : (c : ℕ) (piece : List ℕ) (start told : Option PortsTold) (w : World T) → (m : Comes R K (event.Writable c) piece start told w) → MarksOne (event.Writable c) c piece start told w m
  marks_writable c piece start told w m = record {
    plain = record { connections = λ cs. refl; told = λ t. refl; refused = λ n k. refl; unbroken = λ q. cc; memory = λ q. cc };
    conn_is = λ s. refl;
    quiet = λ x n q. sits_quiet R K (event.Writable c) piece false [] (conn m.rounds x.conn) x w.told w.box q refl told
        (open_by w.told told (heard (event.Writable c) piece) x.conn m.heard.1 (λ t. refl)) (is_other c x.conn n) refl refl;
    here = λ s e q. sits_called R K (event.Writable c) piece false [] (conn m.rounds s.conn) s w.told w.box q refl told
        (open_by w.told told (heard (event.Writable c) piece) s.conn m.heard.1 (λ t. refl)) (is_here c s.conn e) refl refl;
  }

  marks_ended : (c : ℕ) (piece : List ℕ) (start told : Option PortsTold) (w : World T) → (m : Comes R K (event.Ended c) piece start told w) → MarksOne (event.Ended c) c piece start told w m
  marks_ended c piece start told w m = record {
    plain = record { connections = λ cs. refl; told = λ t. refl; refused = λ n k. refl; unbroken = λ q. cc; memory = λ q. cc };
    conn_is = λ s. refl;
    quiet = λ x n q. sits_quiet R K (event.Ended c) piece false [] (conn m.rounds x.conn) x w.told w.box q refl told
        (open_by w.told told (heard (event.Ended c) piece) x.conn m.heard.1 (λ t. refl)) refl (is_other c x.conn n) refl;
    here = λ s e q. sits_ended R K (event.Ended c) piece false [] (conn m.rounds s.conn) s w.told w.box q refl told
        (open_by w.told told (heard (event.Ended c) piece) s.conn m.heard.1 (λ t. refl)) (is_here c s.conn e) refl;
  }

  marks_lost : (c : ℕ) (piece : List ℕ) (start told : Option PortsTold) (w : World T) → (m : Comes R K (event.Lost c) piece start told w) → MarksOne (event.Lost c) c piece start told w m
  marks_lost c piece start told w m = record {
    plain = record { connections = λ cs. refl; told = λ t. refl; refused = λ n k. refl; unbroken = λ q. cc; memory = λ q. cc };
    conn_is = λ s. refl;
    quiet = λ x n q. sits_quiet R K (event.Lost c) piece false [] (conn m.rounds x.conn) x w.told w.box q refl told
        (open_by w.told told (heard (event.Lost c) piece) x.conn m.heard.1 (λ t. ap (λ b. cond b false (t.is_open x.conn)) (other x.conn c n))) refl refl (is_other c x.conn n);
    here = λ s e q. sits_lost R K (event.Lost c) piece false [] (conn m.rounds s.conn) s w.told w.box q refl told (is_here c s.conn e);
  }

  -- the session of a connection, if it is there, is marked
  mark_begins : (e : PortEvent) (c : ℕ) (piece : List ℕ) (start told was : Option PortsTold) (mine : List Entry) (old new : SessionTable T)
      → (m : Comes R K e piece start told (record { told = was; mine = mine; sessions = old.sessions.items; box = old.answers.outbox; starved = old.starved }))
      → MarksOne e c piece start told (record { told = was; mine = mine; sessions = old.sessions.items; box = old.answers.outbox; starved = old.starved }) m
      → (sessions : List (Session T)) → conns sessions ≡ conns old.sessions.items
      → Each (λ (s : Session T). Sits R K (before m.rounds (begun e piece false []) s.conn) (begun e piece false []) s.conn [] s told old.answers.outbox) sessions
      → new.sessions.items ≡ sessions → new.answers.outbox ≡ old.answers.outbox → new.starved ≡ old.starved
      → CanCollect R K e start (record { told = told; mine = mine; sessions = new.sessions.items; box = new.answers.outbox; starved = new.starved })
  mark_begins e c piece start told was mine old new m k sessions cs each se be te =
      subst (λ (v : ℕ). CanCollect R K e start (record { told = told; mine = mine; sessions = new.sessions.items; box = new.answers.outbox; starved = v })) (sym te)
      (subst (λ (v : List (ℕ × List ℕ)). CanCollect R K e start (record { told = told; mine = mine; sessions = new.sessions.items; box = v; starved = old.starved })) (sym be)
      (subst (λ (v : List (Session T)). CanCollect R K e start (record { told = told; mine = mine; sessions = v; box = old.answers.outbox; starved = old.starved })) (sym se)
      (let w : World T = record { told = was; mine = mine; sessions = old.sessions.items; box = old.answers.outbox; starved = old.starved } in
      begins e piece [] start told w mine sessions old.answers.outbox m k.plain refl (fits_quiet e piece start told w m k.plain) cs refl each)))

  mark_table : (e : PortEvent) (c : ℕ) (piece : List ℕ) (start told was : Option PortsTold) (mine : List Entry) (old new : SessionTable T)
      → (m : Comes R K e piece start told (record { told = was; mine = mine; sessions = old.sessions.items; box = old.answers.outbox; starved = old.starved }))
      → MarksOne e c piece start told (record { told = was; mine = mine; sessions = old.sessions.items; box = old.answers.outbox; starved = old.starved }) m → MarksAt e c old new
      → CanCollect R K e start (record { told = told; mine = mine; sessions = new.sessions.items; box = new.answers.outbox; starved = new.starved })
  mark_table e c piece start told was mine old new m k (Absent n se be te) =
      mark_begins e c piece start told was mine old new m k old.sessions.items refl
      (each_none (λ (s : Session T). Waits R K (conn m.rounds s.conn) s was old.answers.outbox)
      (λ (s : Session T). Sits R K (before m.rounds (begun e piece false []) s.conn) (begun e piece false []) s.conn [] s told old.answers.outbox) old.sessions.items c m.can.each n k.quiet) se be te
  mark_table e c piece start told was mine old new m k (Marks i s at sc se be te) =
      mark_begins e c piece start told was mine old new m k (set old.sessions.items i (marked e s)) (conns_set old.sessions.items i s (marked e s) at (k.conn_is s))
      (each_set (λ (s : Session T). Waits R K (conn m.rounds s.conn) s was old.answers.outbox)
      (λ (s : Session T). Sits R K (before m.rounds (begun e piece false []) s.conn) (begun e piece false []) s.conn [] s told old.answers.outbox) old.sessions.items i s (marked e s) at m.can.stands.apart
      m.can.each (λ x ne q. k.quiet x (λ h. ne (h ∙ sym sc)) q)
      (subst (λ d. Sits R K (before m.rounds (begun e piece false []) d) (begun e piece false []) d [] (marked e s) told old.answers.outbox) (sym (k.conn_is s))
      (k.here s sc (each_at (λ (s : Session T). Waits R K (conn m.rounds s.conn) s was old.answers.outbox) old.sessions.items i s at m.can.each)))) se be te

  pub writable_begins : (c : ℕ) (piece : List ℕ) (start told was : Option PortsTold) (mine : List Entry) (old new : SessionTable T)
      → Comes R K (event.Writable c) piece start told (record { told = was; mine = mine; sessions = old.sessions.items; box = old.answers.outbox; starved = old.starved }) → MarksAt (event.Writable c) c old new
      → CanCollect R K (event.Writable c) start (record { told = told; mine = mine; sessions = new.sessions.items; box = new.answers.outbox; starved = new.starved })
  writable_begins c piece start told was mine old new m = mark_table (event.Writable c) c piece start told was mine old new m (marks_writable c piece start told _ m)

  pub ended_begins : (c : ℕ) (piece : List ℕ) (start told was : Option PortsTold) (mine : List Entry) (old new : SessionTable T)
      → Comes R K (event.Ended c) piece start told (record { told = was; mine = mine; sessions = old.sessions.items; box = old.answers.outbox; starved = old.starved }) → MarksAt (event.Ended c) c old new
      → CanCollect R K (event.Ended c) start (record { told = told; mine = mine; sessions = new.sessions.items; box = new.answers.outbox; starved = new.starved })
  ended_begins c piece start told was mine old new m = mark_table (event.Ended c) c piece start told was mine old new m (marks_ended c piece start told _ m)

  pub lost_begins : (c : ℕ) (piece : List ℕ) (start told was : Option PortsTold) (mine : List Entry) (old new : SessionTable T)
      → Comes R K (event.Lost c) piece start told (record { told = was; mine = mine; sessions = old.sessions.items; box = old.answers.outbox; starved = old.starved }) → MarksAt (event.Lost c) c old new
      → CanCollect R K (event.Lost c) start (record { told = told; mine = mine; sessions = new.sessions.items; box = new.answers.outbox; starved = new.starved })
  lost_begins c piece start told was mine old new m = mark_table (event.Lost c) c piece start told was mine old new m (marks_lost c piece start told _ m)

  -- all are woken
  woken_begins : (piece : List ℕ) (start told : Option PortsTold) (w : World T) → Comes R K event.Woken piece start told w
      → CanCollect R K event.Woken start (record w { told = told; sessions = map woken w.sessions })
  woken_begins piece start told w m =
      let p : Plain event.Woken = record { connections = λ cs. refl; told = λ t. refl; refused = λ n k. refl; unbroken = λ q. cc; memory = λ q. cc } in
      begins event.Woken piece [] start told w w.mine (map woken w.sessions) w.box m p refl (fits_quiet event.Woken piece start told w m p) (conns_woken w.sessions) refl
      (each_woken (λ (s : Session T). Waits R K (conn m.rounds s.conn) s w.told w.box)
      (λ (s : Session T). Sits R K (conn m.rounds s.conn) (begun event.Woken piece false []) s.conn [] s told w.box) w.sessions
      (λ x q. sits_called R K event.Woken piece false [] (conn m.rounds x.conn) x w.told w.box q refl told (open_by w.told told (heard event.Woken piece) x.conn m.heard.1 (λ t. refl)) refl refl refl)
      m.can.each)

  finished_begins : (piece : List ℕ) (start told : Option PortsTold) (w : World T) → Comes R K event.Finished piece start told w
      → CanCollect R K event.Finished start (record w { told = told; sessions = map woken w.sessions })
  finished_begins piece start told w m =
      let p : Plain event.Finished = record { connections = λ cs. refl; told = λ t. refl; refused = λ n k. refl; unbroken = λ q. cc; memory = λ q. cc } in
      begins event.Finished piece [] start told w w.mine (map woken w.sessions) w.box m p refl (fits_quiet event.Finished piece start told w m p) (conns_woken w.sessions) refl
      (each_woken (λ (s : Session T). Waits R K (conn m.rounds s.conn) s w.told w.box)
      (λ (s : Session T). Sits R K (conn m.rounds s.conn) (begun event.Finished piece false []) s.conn [] s told w.box) w.sessions
      (λ x q. sits_called R K event.Finished piece false [] (conn m.rounds x.conn) x w.told w.box q refl told (open_by w.told told (heard event.Finished piece) x.conn m.heard.1 (λ t. refl)) refl refl refl)
      m.can.each)

  -- the same, of a session whose connection is that of the event
  pub heard_at : (c : ℕ) (piece : List ℕ) (start told : Option PortsTold) (w : World T) (i : ℕ) (s s' : Session T) (mine' : List Entry) (box' : List (ℕ × List ℕ))
      → Comes R K (event.Bytes c) piece start told w → StandsAt w.sessions i s → s.conn ≡ c → HearsOne R K piece w.mine mine' s s' w.box box'
      → CanCollect R K (event.Bytes c) start (record { told = told; mine = mine'; sessions = set w.sessions i s'; box = box'; starved = w.starved })
  heard_at c piece start told w i s s' mine' box' m at sc h =
      subst (λ d. CanCollect R K (event.Bytes d) start (record { told = told; mine = mine'; sessions = set w.sessions i s'; box = box'; starved = w.starved })) sc
      (bytes_heard piece start told w i s s' mine' box' (subst (λ d. Comes R K (event.Bytes d) piece start told w) (sym sc) m) at h)

  pub worn_at : (c : ℕ) (piece : List ℕ) (start told : Option PortsTold) (w : World T) (i : ℕ) (s : Session T) (mine' : List Entry)
      → Comes R K (event.Bytes c) piece start told w → StandsAt w.sessions i s → s.conn ≡ c → HearsWorn R K s.conn piece w.mine mine' s.conn_state → CutShort R K start told mine' w.starved
  worn_at c piece start told w i s mine' m at sc h = bytes_worn piece start told w i s mine' (subst (λ d. Comes R K (event.Bytes d) piece start told w) (sym sc) m) at h

  -- ---- an event by its kind

  pub came_as : (e f : PortEvent) (piece : List ℕ) (start told : Option PortsTold) (w : World T) → e ≡ f → Comes R K e piece start told w → Comes R K f piece start told w
  came_as e f piece start told w q m = subst (λ x. Comes R K x piece start told w) q m

  pub starts_as : (e f : PortEvent) (piece : List ℕ) (start told : Option PortsTold) (w w' : World T) → e ≡ f → (Comes R K f piece start told w → CanCollect R K f start w')
      → Comes R K e piece start told w → CanCollect R K e start w'
  starts_as e f piece start told w w' q k m = subst (λ x. CanCollect R K x start w') (sym q) (k (came_as e f piece start told w q m))

  pub result_as : (e f : PortEvent) (start : Option PortsTold) (w : World T) (P : Type 0) (result : Result (Unit {0}) Worn) → e ≡ f
      → MatchResult result (λ _. CanCollect R K f start w) (λ _. P) → MatchResult result (λ _. CanCollect R K e start w) (λ _. P)
  result_as e f start w P result q h = subst (λ x. MatchResult result (λ _. CanCollect R K x start w) (λ _. P)) (sym q) h

  -- where all sessions of a table were woken
  pub woken_table : (piece : List ℕ) (start told was : Option PortsTold) (mine : List Entry) (old new : SessionTable T)
      → new.sessions.items ≡ map woken old.sessions.items → new.answers.outbox ≡ old.answers.outbox → new.starved ≡ old.starved
      → Comes R K event.Woken piece start told (record { told = was; mine = mine; sessions = old.sessions.items; box = old.answers.outbox; starved = old.starved })
      → CanCollect R K event.Woken start (record { told = told; mine = mine; sessions = new.sessions.items; box = new.answers.outbox; starved = new.starved })
  woken_table piece start told was mine old new se be te m =
      subst (λ (w : World T). CanCollect R K event.Woken start w) (sym (world_woken told mine old new se be te)) (woken_begins piece start told _ m)

  pub finished_table : (piece : List ℕ) (start told was : Option PortsTold) (mine : List Entry) (old new : SessionTable T)
      → new.sessions.items ≡ map woken old.sessions.items → new.answers.outbox ≡ old.answers.outbox → new.starved ≡ old.starved
      → Comes R K event.Finished piece start told (record { told = was; mine = mine; sessions = old.sessions.items; box = old.answers.outbox; starved = old.starved })
      → CanCollect R K event.Finished start (record { told = told; mine = mine; sessions = new.sessions.items; box = new.answers.outbox; starved = new.starved })
  finished_table piece start told was mine old new se be te m =
      subst (λ (w : World T). CanCollect R K event.Finished start w) (sym (world_woken told mine old new se be te)) (finished_begins piece start told _ m)
