-- What is answered on a connection on which one tile was asked for.
use Rattle.std.proofs.Common.{◌≡◌, ◌⊎◌, inl, inr, ℕ, ◌==◌, cond, Bool, true, false, ◌&&◌, List, [], ◌∷◌, ◌++◌, Option, Some, None, option_map, unwrap_or, refl, sym, ap, subst, ◌∙◌, append-nil}
use Rattle.std.proofs.lemmas.Bool.{eqb-true, and_parts}
use Rattle.std.specs.Option.{is_some, option_eq}
use Rattle.farm_history.specs.declared.asks.Spot.{Spot}
use Rattle.farm_history.specs.declared.queues.Reply.{Reply}
use Rattle.farm_history.specs.declared.answers.Fetched.{Fetched}
use Rattle.farm_history.specs.Entries.{Entry, Fetch}
use Rattle.farm_history.specs.Past.{number_in}
use Rattle.front_loop.specs.Rules.{EachSoFar, Rules, Move, Does, Gets, answer_bytes, wants_of}
use Rattle.front_loop.specs.Moves.{by_move}
use Rattle.tile_front.specs.Answers.{tile_answer}
use Rattle.tile_front.specs.declared.acts.HttpAsk.{HttpAsk}
use Rattle.tile_front.specs.declared.acts.HttpAsk.TheVariants as http_ask
use Rattle.tile_front.specs.declared.acts.Act.{Act}
use Rattle.tile_front.specs.declared.acts.Act.TheVariants as act
use Rattle.tile_front.specs.ConnStates.{spot_at}
use Rattle.tile_front.specs.Tiles.{ask_done, refusal, waiting_ask, fits_behind, fetched_behind, tile_rules}
use Rattle.worked_client.proofs.Lists.{In, only_last, never_none}

same_map : (m n : Option ℕ) → option_eq (λ a b. a == b) m n ≡ true → m ≡ n
same_map None None e = refl
same_map None (Some n) e = cc
same_map (Some m) None e = cc
same_map (Some m) (Some n) e = ap (λ (k : ℕ). Some k) (eqb-true m n e)

abbrev spot_of : Option ℕ → ℕ → ℕ → ℕ → Spot
spot_of m z x y = record { map = m; z = z; x = x; y = y }

same_spot : (s t : Spot) → (option_eq (λ m n. m == n) s.map t.map && (s.z == t.z && (s.x == t.x && s.y == t.y))) ≡ true → s ≡ t
same_spot s t e =
    let a = and_parts (option_eq (λ m n. m == n) s.map t.map) (s.z == t.z && (s.x == t.x && s.y == t.y)) e in
    let b = and_parts (s.z == t.z) (s.x == t.x && s.y == t.y) a.1 in
    let c = and_parts (s.x == t.x) (s.y == t.y) b.1 in
    ap (λ (m : Option ℕ). spot_of m s.z s.x s.y) (same_map s.map t.map a.0) ∙ ap (λ (z : ℕ). spot_of t.map z s.x s.y) (eqb-true s.z t.z b.0)
    ∙ ap (λ (x : ℕ). spot_of t.map t.z x s.y) (eqb-true s.x t.x c.0) ∙ ap (λ (y : ℕ). spot_of t.map t.z t.x y) (eqb-true s.y t.y c.1)

behind_none : (es : List Entry) → fits_behind None es ≡ true → es ≡ []
behind_none [] h = refl
behind_none (e ∷ es) h = cc

module _ (front : ℕ) (maps : List ℕ → Option ℕ) (spot : Spot) where
  abbrev pub rules : Rules Act HttpAsk
  rules = tile_rules front maps

  abbrev pub Fit : List (Move Act) → Type 0
  Fit ms = EachSoFar (λ ms m. rules.fits ms m ≡ true) ms

  -- the entries of a move on the connection of that number
  abbrev pub entries_of : ℕ → Move Act → List Entry
  entries_of c m = by_move (λ a. rules.entries c a) (λ r behind. behind) m

  -- nothing was answered yet, and no other tile waits; or a fetch of the tile was, which is among the entries of a move
  abbrev pub Unanswered : List (Move Act) → Type 0
  Unanswered ms = (answer_bytes rules ms ≡ []) × ((waiting_ask ms ≡ None) ⊎ ((n : ℕ) × (waiting_ask ms ≡ Some (n, spot))))

  pub record IsFetched (ms : List (Move Act)) : Type 0 where
    pub answer : Fetched
    pub move : Move Act
    pub is : answer_bytes rules ms ≡ tile_answer answer
    pub none_waits : waiting_ask ms ≡ None
    pub stands : In move ms
    pub has : (c : ℕ) → In (Fetch spot answer) (entries_of c move)

  -- ---- where no tile waits a reply answers nothing

  idle : (r : Reply) (behind : List Entry) (ms : List (Move Act)) → waiting_ask ms ≡ None → rules.fits ms (Gets r behind) ≡ true
      → (answer_bytes rules (Gets r behind ∷ ms) ≡ answer_bytes rules ms) × (waiting_ask (Gets r behind ∷ ms) ≡ None)
  idle r behind ms none fits =
      let empty : behind ≡ [] = behind_none behind (subst (λ (o : Option (ℕ × Spot)). fits_behind (spot_at r.ask o) behind ≡ true) none fits) in (
        ap (λ (l : List Entry). answer_bytes rules ms ++ unwrap_or (option_map tile_answer (fetched_behind l)) []) empty ∙ append-nil (answer_bytes rules ms),
        ap (λ (o : Option (ℕ × Spot)). cond (is_some (spot_at r.ask o)) None o) none,
      )

  pub nothing : (ms : List (Move Act)) → Fit ms → wants_of rules ms ≡ [] → (answer_bytes rules ms ≡ []) × (waiting_ask ms ≡ None)
  nothing [] fits none = (refl, refl)
  nothing (Does a ∷ ms) fits none = absurd (never_none (wants_of rules ms) (rules.want a) none)
  nothing (Gets r behind ∷ ms) fits none =
      let before = nothing ms fits.1 none in
      let now = idle r behind ms before.1 fits.0 in
      (now.0 ∙ before.0, now.1)

  -- ---- the ask itself

  abbrev waits_at : Option ℕ → Spot → Option (ℕ × Spot)
  waits_at o s = option_map (λ n. (n, s)) o

  by_number : (o : Option ℕ) (s : Spot) → s ≡ spot → (waits_at o s ≡ None) ⊎ ((n : ℕ) × (waits_at o s ≡ Some (n, spot)))
  by_number None s e = inl refl
  by_number (Some n) s e = inr (n, ap (λ (t : Spot). waits_at (Some n) t) e)

  of_act : (a : Act) (ms : List (Move Act)) → rules.fits ms (Does a) ≡ true → (ask_done a).asked ≡ http_ask.Tile spot → (answer_bytes rules ms ≡ []) × (waiting_ask ms ≡ None)
      → Unanswered (Does a ∷ ms) ⊎ IsFetched (Does a ∷ ms)
  of_act (act.Refused w) ms fits is before = absurd (let f : is_some (refusal (http_ask.Tile spot)) ≡ true = subst (λ (v : HttpAsk). is_some (refusal v) ≡ true) is fits in cc)
  of_act (act.Asked s a) ms fits is before = let e : s ≡ spot = cc in inl (append-nil (answer_bytes rules ms) ∙ before.0, by_number (number_in a) s e)
  of_act (act.Served s a f) ms fits is before =
      let e : s ≡ spot = cc in
      inr (record {
        answer = f;
        move = Does (act.Served s a f);
        is = ap (λ (l : List ℕ). l ++ tile_answer f) before.0;
        none_waits = refl;
        stands = inl refl;
        has = λ c. inr (inl (ap (λ (t : Spot). Fetch t f) (sym e)));
      })
  of_act (act.Seen s l) ms fits is before = absurd (cc)
  of_act (act.Marked s a) ms fits is before = absurd (cc)

  -- ---- a reply, where the tile waits

  -- what waits then, where the reply is to the ask of the tile, or to another
  abbrev left : Bool → ℕ → Option (ℕ × Spot)
  left own n = cond (is_some (cond own (Some spot) None)) None (Some (n, spot))

  abbrev said : List Entry → List ℕ
  said behind = unwrap_or (option_map tile_answer (fetched_behind behind)) []

  abbrev ByReply : Bool → List Entry → ℕ → Type 0
  ByReply own behind n =
      ((said behind ≡ []) × ((left own n ≡ None) ⊎ (left own n ≡ Some (n, spot))))
      ⊎ ((f : Fetched) × (said behind ≡ tile_answer f) × (left own n ≡ None) × In (Fetch spot f) behind)

  by_reply : (own : Bool) (behind : List Entry) (n : ℕ) → fits_behind (cond own (Some spot) None) behind ≡ true → ByReply own behind n
  by_reply true [] n h = inl (refl, inl refl)
  by_reply true (Fetch t f ∷ []) n h = inr (f, refl, refl, inl (ap (λ (s : Spot). Fetch s f) (same_spot spot t h)))
  by_reply true (Fetch t f ∷ d ∷ es) n h = cc
  by_reply true (e ∷ []) n h = cc
  by_reply true (e ∷ d ∷ es) n h = cc
  by_reply false behind n h = inl (ap said (behind_none behind h), inr refl)

  of_reply : (r : Reply) (behind : List Entry) (ms : List (Move Act)) → rules.fits ms (Gets r behind) ≡ true → (n : ℕ) → waiting_ask ms ≡ Some (n, spot) → answer_bytes rules ms ≡ []
      → Unanswered (Gets r behind ∷ ms) ⊎ IsFetched (Gets r behind ∷ ms)
  of_reply r behind ms fits n waits none =
      let at : (l : List ℕ) → said behind ≡ l → answer_bytes rules (Gets r behind ∷ ms) ≡ l = λ l e. ap (λ (front : List ℕ). front ++ said behind) none ∙ e in
      let now : waiting_ask (Gets r behind ∷ ms) ≡ left (n == r.ask) n = ap (λ (o : Option (ℕ × Spot)). cond (is_some (spot_at r.ask o)) None o) waits in
      elim (by_reply (n == r.ask) behind n (subst (λ (o : Option (ℕ × Spot)). fits_behind (spot_at r.ask o) behind ≡ true) waits fits)) [
        | inl k ↦ inl (at [] k.0, elim k.1 [ inl e ↦ inl (now ∙ e) | inr e ↦ inr (n, now ∙ e) ])
        | inr k ↦ inr (record { answer = k.0; move = Gets r behind; is = at (tile_answer k.0) k.1; none_waits = now ∙ k.2; stands = inl refl; has = λ c. k.3 })
      ]

  -- ---- the moves of a connection

  after_fetch : (r : Reply) (behind : List Entry) (ms : List (Move Act)) → rules.fits ms (Gets r behind) ≡ true → IsFetched ms → IsFetched (Gets r behind ∷ ms)
  after_fetch r behind ms fits f =
      let now = idle r behind ms f.none_waits fits in
      record { answer = f.answer; move = f.move; is = now.0 ∙ f.is; none_waits = now.1; stands = inr f.stands; has = f.has }

  before_fetch : (r : Reply) (behind : List Entry) (ms : List (Move Act)) → rules.fits ms (Gets r behind) ≡ true → Unanswered ms → Unanswered (Gets r behind ∷ ms) ⊎ IsFetched (Gets r behind ∷ ms)
  before_fetch r behind ms fits (none, inl e) = let now = idle r behind ms e fits in inl (now.0 ∙ none, inl now.1)
  before_fetch r behind ms fits (none, inr w) = of_reply r behind ms fits w.0 w.1 none

  pub answered : (ms : List (Move Act)) → Fit ms → wants_of rules ms ≡ http_ask.Tile spot ∷ [] → Unanswered ms ⊎ IsFetched ms
  answered [] fits w = cc
  answered (Does a ∷ ms) fits w =
      let last = only_last (wants_of rules ms) (rules.want a) (http_ask.Tile spot) w in
      of_act a ms fits.0 last.1 (nothing ms fits.1 last.0)
  answered (Gets r behind ∷ ms) fits w = elim (answered ms fits.1 w) [
    | inl u ↦ before_fetch r behind ms fits.0 u
    | inr f ↦ inr (after_fetch r behind ms fits.0 f)
  ]
