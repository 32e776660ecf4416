-- The entries of a connection's moves are among those of the front, and the front's among those of all turns.
use Rattle.std.proofs.Common.{◌≡◌, inl, inr, ℕ, ◌==◌, ◌&&◌, cond, Bool, true, false, List, [], ◌∷◌, ◌++◌, map, Option, Some, None, IfSome, option_map, take, refl, sym, ap, subst, ◌∙◌}
use Rattle.std.proofs.lemmas.Bool.{eqb-true}
use Rattle.farm_history.specs.declared.answers.Collected.TheVariants as collected
use Rattle.farm_history.specs.Entries.{Entry, Collect, Leave}
use Rattle.reactor_ports.specs.declared.ends.FrontEnd.{FrontEnd}
use Rattle.reactor_ports.specs.declared.ends.Rest.{Rest}
use Rattle.reactor_ports.specs.declared.events.PortEvent.{PortEvent}
use Rattle.reactor_ports.specs.declared.events.PortEvent.TheVariants as event
use Rattle.reactor_ports.specs.Told.{PortsTold, heard}
use Rattle.front_loop.specs.Rules.{EachSoFar, Rules, Move, Does, Gets, answer_bytes}
use Rattle.front_loop.specs.Rounds.{Gathered, Departure, FrontRound, in_turn, asked_by, with_last, own}
use Rattle.front_loop.specs.Moves.{by_move}
use Rattle.front_loop.specs.Conns.{opens, brings, made, blank, conn, told_after}
use Rattle.front_loop.specs.RoundRules.{RoundFits}
use Rattle.front_loop.specs.Serving.{FrontRun, TellsOf}
use Rattle.turn_cell.specs.Turns.{by}
use Rattle.worked_client.proofs.Lists.{In, in_left, in_right, in_either}

-- ---- turns

abbrev pub Stands : Entry → List (ℕ × Entry) → Type 0
Stands e turns = (n : ℕ) × (before : List (ℕ × Entry)) × (after : List (ℕ × Entry)) × (turns ≡ before ++ (n, e) ∷ after)

stands_later : (x : ℕ × Entry) (xs : List (ℕ × Entry)) (e : Entry) → Stands e xs → Stands e (x ∷ xs)
stands_later x xs e k = (k.0, x ∷ k.1, k.2, ap (λ (l : List (ℕ × Entry)). x ∷ l) k.3)

stands_by : (b : Bool) (x : ℕ × Entry) (xs own : List (ℕ × Entry)) (e : Entry) → (In e (map (λ (y : ℕ × Entry). y.1) own) → Stands e xs) → In e (map (λ (y : ℕ × Entry). y.1) (cond b (x ∷ own) own)) → Stands e (x ∷ xs)
stands_by true x xs own e found (inl is) = (x.0, [], xs, ap (λ (d : Entry). (x.0, d) ∷ xs) (sym is))
stands_by true x xs own e found (inr k) = stands_later x xs e (found k)
stands_by false x xs own e found k = stands_later x xs e (found k)

-- an entry of one number stands among all turns
pub stands_in : (n : ℕ) (turns : List (ℕ × Entry)) (e : Entry) → In e (map (λ (y : ℕ × Entry). y.1) (by n turns)) → Stands e turns
stands_in n [] e h = absurd h
stands_in n (x ∷ xs) e h = stands_by (x.0 == n) x xs (by n xs) e (stands_in n xs e) h

-- ---- rounds

-- what a thing done in turn keeps, all of them keep
through : {X T : Type 0} (P : T → Type 0) (f : X → T → T) → ((x : X) (t : T) → P t → P (f x t)) → (xs : List X) (t : T) → P t → P (in_turn f xs t)
through P f keeps [] t h = h
through P f keeps (x ∷ xs) t h = keeps x (in_turn f xs t) (through P f keeps xs t h)

module _ {A W : Type 0} (R : Rules A W) (c : ℕ) where
  -- the entries of a move on the connection
  abbrev pub entries_of : Move A → List Entry
  entries_of m = by_move (λ a. R.entries c a) (λ r behind. behind) m

  abbrev put_leave : Departure → List Entry → List Entry
  put_leave d l = l ++ Leave (record { front = R.number; number = d.conn }) d.asks ∷ []

  abbrev put_reply : Gathered → List Entry → List Entry
  put_reply g l = l ++ Collect R.number (collected.Reply g.reply) ∷ g.behind

  abbrev put_act : PortEvent → A → List Entry → List Entry
  put_act v a l = l ++ asked_by R v a

  -- the entries before a round's last Collect and its Leaves
  abbrev acted : FrontRound A → List (FrontRound A) → List Entry
  acted r rs = in_turn (put_act r.event) r.acts (own R rs)

  abbrev replied : FrontRound A → List (FrontRound A) → List Entry
  replied r rs = in_turn put_reply r.replies (acted r rs)

  -- the moves of a round
  abbrev move_act : PortEvent → A → List (Move A) → List (Move A)
  move_act v a ms = cond (brings v c) (Does a ∷ ms) ms

  abbrev move_reply : Gathered → List (Move A) → List (Move A)
  move_reply g ms = cond (g.reply.conn.number == c) (Gets g.reply g.behind ∷ ms) ms

  module _ (e : Entry) where
    -- what is put behind others leaves these

    put_last : (last : Option Bool) (es : List Entry) → In e es → In e (with_last R last es)
    put_last None es h = h
    put_last (Some b) es h = in_left e es (Collect R.number (cond b collected.Stopped collected.Empty) ∷ []) h

    put_rest : (r : FrontRound A) (rs : List (FrontRound A)) → In e (replied r rs) → In e (own R (r ∷ rs))
    put_rest r rs h =
        through (In e) put_leave (λ d l k. in_left e l (Leave (record { front = R.number; number = d.conn }) d.asks ∷ []) k) r.left (with_last R r.last (replied r rs)) (put_last r.last (replied r rs) h)

    of_earlier : (r : FrontRound A) (rs : List (FrontRound A)) → In e (own R rs) → In e (own R (r ∷ rs))
    of_earlier r rs h = put_rest r rs (
        through (In e) put_reply (λ g l k. in_left e l (Collect R.number (collected.Reply g.reply) ∷ g.behind) k) r.replies (acted r rs)
        (through (In e) (put_act r.event) (λ a l k. in_left e l (asked_by R r.event a) k) r.acts (own R rs) h)
        )

    -- ---- the moves of one round

    own_entries : (v : PortEvent) (a : A) → brings v c ≡ true → In e (R.entries c a) → In e (asked_by R v a)
    own_entries (event.Bytes d) a is h = subst (λ (n : ℕ). In e (R.entries n a)) (sym (eqb-true d c is)) h
    own_entries v a is h = cc

    by_act : (b : Bool) (v : PortEvent) (a : A) (m : Move A) (ms : List (Move A)) (es : List Entry) → brings v c ≡ b → (In m ms → In e es) → In e (entries_of m)
        → In m (cond b (Does a ∷ ms) ms) → In e (es ++ asked_by R v a)
    by_act true v a m ms es is found h (inl same) = in_right e es (asked_by R v a) (own_entries v a is (subst (λ (x : Move A). In e (entries_of x)) same h))
    by_act true v a m ms es is found h (inr k) = in_left e es (asked_by R v a) (found k)
    by_act false v a m ms es is found h k = in_left e es (asked_by R v a) (found k)

    of_acts : (v : PortEvent) (acts : List A) (m : Move A) (es : List Entry) → In e (entries_of m) → In m (in_turn (move_act v) acts []) → In e (in_turn (put_act v) acts es)
    of_acts v [] m es h at = absurd at
    of_acts v (a ∷ acts) m es h at = by_act (brings v c) v a m (in_turn (move_act v) acts []) (in_turn (put_act v) acts es) refl (of_acts v acts m es h) h at

    by_get : (b : Bool) (g : Gathered) (m : Move A) (ms : List (Move A)) (es : List Entry) → (In m ms → In e es) → In e (entries_of m)
        → In m (cond b (Gets g.reply g.behind ∷ ms) ms) → In e (put_reply g es)
    by_get true g m ms es found h (inl same) = in_right e es (Collect R.number (collected.Reply g.reply) ∷ g.behind) (inr (subst (λ (x : Move A). In e (entries_of x)) same h))
    by_get true g m ms es found h (inr k) = in_left e es (Collect R.number (collected.Reply g.reply) ∷ g.behind) (found k)
    by_get false g m ms es found h k = in_left e es (Collect R.number (collected.Reply g.reply) ∷ g.behind) (found k)

    of_replies : (gs : List Gathered) (m : Move A) (ms : List (Move A)) (es : List Entry) → (In m ms → In e es) → In e (entries_of m) → In m (in_turn move_reply gs ms) → In e (in_turn put_reply gs es)
    of_replies [] m ms es earlier h at = earlier at
    of_replies (g ∷ gs) m ms es earlier h at = by_get (g.reply.conn.number == c) g m (in_turn move_reply gs ms) (in_turn put_reply gs es) (of_replies gs m ms es earlier h) h at

    of_round : (r : FrontRound A) (rs : List (FrontRound A)) (m : Move A) → In e (entries_of m) → In m (made r c) → In e (own R (r ∷ rs))
    of_round r rs m h at = put_rest r rs (of_replies r.replies m (in_turn (move_act r.event) r.acts []) (acted r rs) (of_acts r.event r.acts m (own R rs) h) h at)

    of_before : (b : Bool) (rs : List (FrontRound A)) (m : Move A) → (In m (conn rs c).moves → In e (own R rs)) → In m (cond b blank (conn rs c)).moves → In e (own R rs)
    of_before true rs m found k = absurd k
    of_before false rs m found k = found k

    -- an entry of a move of the connection is one of the front's
    pub moves_own : (rs : List (FrontRound A)) (m : Move A) → In e (entries_of m) → In m (conn rs c).moves → In e (own R rs)
    moves_own [] m h at = absurd at
    moves_own (r ∷ rs) m h at = elim (in_either m (made r c) (cond (opens r.event c && r.kept) blank (conn rs c)).moves at) [
      | inl k ↦ of_round r rs m h k
      | inr k ↦ of_earlier r rs (of_before (opens r.event c && r.kept) rs m (moves_own rs m h) k)
    ]

  -- the moves of the connection fit, each after those before it
  pub moves_fit : (rs : List (FrontRound A)) → EachSoFar (RoundFits R) rs → EachSoFar (λ ms m. R.fits ms m ≡ true) (conn rs c).moves
  moves_fit [] sound = tt
  moves_fit (r ∷ rs) sound = sound.0.fits c

  -- ---- what was taken of the answers

  unbroken : (b : Bool) (t : PortsTold) → (cond b (heard event.Broken [] t) t).taken c ≡ t.taken c
  unbroken true t = refl
  unbroken false t = refl

  pub taken_is : (start told : Option PortsTold) (mine : List Entry) (end : FrontEnd) (rests : List Rest) (starved : ℕ) (worn : Bool) (run : FrontRun R start told mine end rests starved worn) (before after : PortsTold)
      → start ≡ Some before → told ≡ Some after → after.taken c ≡ before.taken c ++ take (conn run.rounds c).took (answer_bytes R (conn run.rounds c).moves)
  taken_is start told mine end rests starved worn run before after is is' =
      let tells : (d : ℕ) → TellsOf R run.rounds before d = subst (λ (o : Option PortsTold). IfSome o (λ t. (d : ℕ) → TellsOf R run.rounds t d)) is run.tells in
      let last : PortsTold = told_after R run.rounds before in
      let same : Some after ≡ Some (cond run.broke (heard event.Broken [] last) last) =
      sym is' ∙ run.telling ∙ ap (λ (o : Option PortsTold). option_map (λ (t : PortsTold). cond run.broke (heard event.Broken [] t) t) (option_map (told_after R run.rounds) o)) is in
      let same' : after ≡ cond run.broke (heard event.Broken [] last) last = cc in
      ap (λ (t : PortsTold). t.taken c) same' ∙ (unbroken run.broke last ∙ (tells c).0)
