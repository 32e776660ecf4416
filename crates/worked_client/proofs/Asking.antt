-- What was asked on a connection stands in its bytes.
use Rattle.std.proofs.Common.{◌≡◌, ◌⊎◌, inl, inr, ℕ, ◌==◌, ◌&&◌, cond, Bool, true, false, List, [], ◌∷◌, ◌++◌, Option, refl, sym, ap, subst, ◌∙◌}
use Rattle.std.proofs.lemmas.Bool.{eqb-true}
use Rattle.reactor_ports.specs.declared.events.PortEvent.{PortEvent}
use Rattle.reactor_ports.specs.declared.events.PortEvent.TheVariants as event
use Rattle.front_loop.specs.Rules.{EachSoFar, Rules, Move, Does, Gets, wants_of}
use Rattle.front_loop.specs.Rounds.{Gathered, FrontRound, in_turn}
use Rattle.front_loop.specs.Conns.{Standing, opens, brings, made, blank, conn, before, after}
use Rattle.front_loop.specs.RoundRules.{RoundFits}
use Rattle.tile_front.specs.Heads.{bytes_read}
use Rattle.tile_front.specs.declared.acts.HttpAsk.{HttpAsk}
use Rattle.tile_front.specs.declared.acts.Act.{Act}
use Rattle.tile_front.specs.Tiles.{BytesAsk, Wants, tile_rules}
use Rattle.tile_front.proofs.Wishes.{asks_stay}

module _ (front : ℕ) (maps : List ℕ → Option ℕ) (c : ℕ) where
  abbrev R : Rules Act HttpAsk
  R = tile_rules front maps

  -- nothing was asked, or one thing, which the bytes ask
  abbrev pub IsAsked : Standing Act → Type 0
  IsAsked p = (wants_of R p.moves ≡ []) ⊎ ((w : HttpAsk) × (wants_of R p.moves ≡ w ∷ []) × BytesAsk maps (bytes_read p.given) w)

  one_of : (given : List ℕ) (ws more : List HttpAsk) → Wants maps given (ws ++ more) → (ws ≡ []) ⊎ ((w : HttpAsk) × (ws ≡ w ∷ []) × BytesAsk maps (bytes_read given) w)
  one_of given [] more h = inl refl
  one_of given (w ∷ []) [] h = inr (w, refl, h)
  one_of given (w ∷ []) (v ∷ more) h = absurd h
  one_of given (w ∷ v ∷ ws) more h = absurd h

  goes_on : (p q : Standing Act) → wants_of R q.moves ≡ wants_of R p.moves → ((w : HttpAsk) → BytesAsk maps (bytes_read p.given) w → BytesAsk maps (bytes_read q.given) w) → IsAsked p → IsAsked q
  goes_on p q same stays (inl none) = inl (same ∙ none)
  goes_on p q same stays (inr one) = inr (one.0, same ∙ one.1, stays one.0 one.2)

  -- replies ask for nothing
  abbrev get : Gathered → List (Move Act) → List (Move Act)
  get g ms = cond (g.reply.conn.number == c) (Gets g.reply g.behind ∷ ms) ms

  by_reply : (b : Bool) (g : Gathered) (ms more : List (Move Act)) (ws : List HttpAsk) → wants_of R (ms ++ more) ≡ ws → wants_of R (cond b (Gets g.reply g.behind ∷ ms) ms ++ more) ≡ ws
  by_reply true g ms more ws h = h
  by_reply false g ms more ws h = h

  replies_ask : (gs : List Gathered) (ms more : List (Move Act)) → wants_of R (in_turn get gs ms ++ more) ≡ wants_of R (ms ++ more)
  replies_ask [] ms more = refl
  replies_ask (g ∷ gs) ms more = by_reply (g.reply.conn.number == c) g (in_turn get gs ms) more (wants_of R (ms ++ more)) (replies_ask gs ms more)

  none_brought : (v : PortEvent) → brings v c ≡ false → (acts : List Act) → in_turn (λ a ms. cond (brings v c) (Does a ∷ ms) ms) acts [] ≡ []
  none_brought v is [] = refl
  none_brought v is (a ∷ acts) =
      ap (λ (b : Bool). cond b (Does a ∷ in_turn (λ a ms. cond (brings v c) (Does a ∷ ms) ms) acts []) (in_turn (λ a ms. cond (brings v c) (Does a ∷ ms) ms) acts [])) is ∙ none_brought v is acts

  brought : (v : PortEvent) → brings v c ≡ true → v ≡ event.Bytes c
  brought (event.Bytes d) is = ap (λ (n : ℕ). event.Bytes n) (eqb-true d c is)
  brought v is = cc

  module _ (rs : List (FrontRound Act)) (r : FrontRound Act) (fits : RoundFits R rs r) where
    abbrev p : Standing Act
    p = before rs r c

    no_acts : in_turn (λ a ms. cond (brings r.event c) (Does a ∷ ms) ms) r.acts [] ≡ [] → wants_of R (made r c ++ p.moves) ≡ wants_of R p.moves
    no_acts none =
        replies_ask r.replies (in_turn (λ a ms. cond (brings r.event c) (Does a ∷ ms) ms) r.acts []) p.moves ∙ ap (λ (l : List (Move Act)). wants_of R (l ++ p.moves)) none

    step : IsAsked p → IsAsked (after r c p)
    step asked = by_brings (brings r.event c) refl
      where
        by_brings : (b : Bool) → brings r.event c ≡ b → IsAsked (after r c p)
        by_brings false is =
            goes_on p (after r c p) (no_acts (none_brought r.event is r.acts))
            (λ w h. subst (λ (b : Bool). BytesAsk maps (bytes_read (cond b (p.given ++ r.piece) p.given)) w) (sym is) h) asked
        by_brings true is = elim (fits.asks c (brought r.event is)) [
          | inl none ↦ goes_on p (after r c p) (no_acts (ap (λ (l : List Act). in_turn (λ a ms. cond (brings r.event c) (Does a ∷ ms) ms) l []) none))
              (λ w h. subst (λ (b : Bool). BytesAsk maps (bytes_read (cond b (p.given ++ r.piece) p.given)) w) (sym is) (asks_stay maps p.given r.piece w h)) asked
          | inr more ↦ one_of (after r c p).given (wants_of R (made r c ++ p.moves)) more.0 more.1
        ]

  by_new : (b : Bool) (p : Standing Act) → IsAsked p → IsAsked (cond b blank p)
  by_new true p asked = inl refl
  by_new false p asked = asked

  pub asked_in : (rs : List (FrontRound Act)) → EachSoFar (RoundFits R) rs → IsAsked (conn rs c)
  asked_in [] sound = inl refl
  asked_in (r ∷ rs) sound = step rs r sound.0 (by_new (opens r.event c && r.kept) (conn rs c) (asked_in rs sound.1))
