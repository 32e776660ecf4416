-- From what the call keeps to what a client got.
use Rattle.std.proofs.Common.{◌≡◌, ◌⊎◌, inl, inr, ℕ, Bool, List, [], ◌∷◌, ◌++◌, map, reverse, Option, Some, take, refl, sym, ap, subst, ◌∙◌}
use lib.Seq.{take-nil}
use Rattle.farm_base.specs.Outside.{Outside}
use Rattle.tile_store.specs.Stores.{StoreTold}
use Rattle.reactor_ports.specs.declared.ends.FrontEnd.{FrontEnd}
use Rattle.reactor_ports.specs.declared.ends.Rest.{Rest}
use Rattle.reactor_ports.specs.Told.{PortsTold}
use Rattle.farm_history.specs.declared.asks.Spot.{Spot}
use Rattle.farm_history.specs.declared.answers.Fetched.{Fetched}
use Rattle.farm_history.specs.Entries.{Entry, Fetch}
use Rattle.front_loop.specs.Rules.{Move, wants_of, answer_bytes}
use Rattle.front_loop.specs.Rounds.{own}
use Rattle.front_loop.specs.Conns.{conn}
use Rattle.front_loop.specs.Serving.{FrontRun}
use Rattle.tile_front.specs.Heads.{bytes_read}
use Rattle.tile_front.specs.Answers.{tile_answer}
use Rattle.tile_front.specs.declared.acts.HttpAsk.{HttpAsk}
use Rattle.tile_front.specs.declared.acts.HttpAsk.TheVariants as http_ask
use Rattle.tile_front.specs.declared.acts.Act.{Act}
use Rattle.tile_front.specs.Tiles.{BytesAsk, tile_rules}
use Rattle.turn_cell.specs.Turns.{by}
use Rattle.farm_plan.specs.Plans.{maps_in}
use Rattle.farm_refinement.specs.Seen.{FarmSeen}
use Rattle.farm_shared.specs.Seats.{plain}
use Rattle.farm_core.specs.Begins.{origin}
use Rattle.farm_call.specs.Call.{CallBefore, CallAfter, End}
use Rattle.farm_call.specs.Keeps.{Served}
use Rattle.farm_call.specs.Serves.{whole_history}
use Rattle.farm_call.proofs.Owing.{split_back}
use Rattle.worked_client.specs.Client.{ClientsGet, LawClient}
use Rattle.worked_client.proofs.Lists.{In, in_left}
use Rattle.worked_client.proofs.Answers.{answered, nothing, Fit, IsFetched}
use Rattle.worked_client.proofs.Asking.{asked_in}
use Rattle.worked_client.proofs.Moving.{stands_in, moves_own, moves_fit, taken_is}

-- of moves in which nothing was asked but the tile: no answer, or one that a fetch of it had
got_by : (front : ℕ) (maps : List ℕ → Option ℕ) (spot : Spot) (ms : List (Move Act)) → Fit front maps spot ms
    → (wants_of (tile_rules front maps) ms ≡ []) ⊎ (wants_of (tile_rules front maps) ms ≡ http_ask.Tile spot ∷ []) → (answer_bytes (tile_rules front maps) ms ≡ []) ⊎ IsFetched front maps spot ms
got_by front maps spot ms fits (inl none) = inl (nothing front maps spot ms fits none).0
got_by front maps spot ms fits (inr one) = elim (answered front maps spot ms fits one) [ inl u ↦ inl u.0 | inr f ↦ inr f ]

-- a turn of the tile front, and how many bytes of the answer to it were taken
pub record Turn (turns : List (ℕ × Entry)) (spot : Spot) (got : List ℕ) : Type 0 where
  pub answer : Fetched
  pub number : ℕ
  pub before : List (ℕ × Entry)
  pub after : List (ℕ × Entry)
  pub is : turns ≡ before ++ (number, Fetch spot answer) ∷ after
  pub count : ℕ
  pub got_is : got ≡ take count (tile_answer answer)

module _ (front n : ℕ) (maps : List ℕ → Option ℕ) (start told : Option PortsTold) (mine : List Entry) (end : FrontEnd) (rests : List Rest) (starved : ℕ) (worn : Bool) (run : FrontRun (tile_rules front maps) start told mine end rests starved worn)
    (turns : List (ℕ × Entry)) (are : mine ≡ map (λ (x : ℕ × Entry). x.1) (by n turns)) where
  -- what one connection got of a front whose entries are those of one number
  pub got_of : (before after : PortsTold) (c : ℕ) (spot : Spot) → start ≡ Some before → told ≡ Some after → before.taken c ≡ []
      → ((w : HttpAsk) → BytesAsk maps (bytes_read (conn run.rounds c).given) w → w ≡ http_ask.Tile spot) → (after.taken c ≡ []) ⊎ Turn turns spot (after.taken c)
  got_of before after c spot is is' none asks =
      let ms : List (Move Act) = (conn run.rounds c).moves in
      let count : ℕ = (conn run.rounds c).took in
      let first : after.taken c ≡ take count (answer_bytes (tile_rules front maps) ms) =
      taken_is (tile_rules front maps) c start told mine end rests starved worn run before after is is' ∙ ap (λ (l : List ℕ). l ++ take count (answer_bytes (tile_rules front maps) ms)) none
      in
      let wants : (wants_of (tile_rules front maps) ms ≡ []) ⊎ (wants_of (tile_rules front maps) ms ≡ http_ask.Tile spot ∷ []) =
      elim (asked_in front maps c run.rounds run.sound) [ inl e ↦ inl e | inr one ↦ inr (one.1 ∙ ap (λ (w : HttpAsk). w ∷ []) (asks one.0 one.2)) ]
      in
      elim (got_by front maps spot ms (moves_fit (tile_rules front maps) c run.rounds run.sound) wants) [
        | inl e ↦ inl (first ∙ (ap (λ (l : List ℕ). take count l) e ∙ take-nil count))
        | inr f ↦
            let e : Entry = Fetch spot f.answer in
            let here : In e (own (tile_rules front maps) run.rounds) = moves_own (tile_rules front maps) c e run.rounds f.move (f.has c) f.stands in
            let there : In e (map (λ (x : ℕ × Entry). x.1) (by n turns)) = subst (In e) (sym run.entries ∙ are) (in_left e (own (tile_rules front maps) run.rounds) run.stop here) in
            let turn = stands_in n turns e there in
            inr (record { answer = f.answer; number = turn.0; before = turn.1; after = turn.2; is = turn.3; count = count; got_is = first ∙ ap (λ (l : List ℕ). take count l) f.is })
      ]

module _ {D : Type 0} (state : D → Outside StoreTold) where
  gets : (was : CallBefore D) (is : CallAfter D) (farm : FarmSeen D) (turns : List (ℕ × Entry)) (end : End) (s : Served state was is farm turns end) → ClientsGet state was is farm turns end s
  gets was is farm turns end s c spot before after told told' none asks =
      elim (got_of 1 2 (maps_in farm.plan) _ _ _ _ _ _ _ s.well.tiles.left.served turns refl before after c spot told told' none asks) [
        | inl e ↦ inl e
        | inr t ↦
            let past : List Entry = plain (reverse t.before) ++ origin farm.plan farm.saved in
            let happened : whole_history state farm turns ≡ plain (reverse t.after) ++ Fetch spot t.answer ∷ past =
            ap (λ (l : List (ℕ × Entry)). plain (reverse l) ++ origin farm.plan farm.saved) t.is ∙ split_back t.before t.after t.number (Fetch spot t.answer) (origin farm.plan farm.saved)
            in
            inr (record {
              answer = t.answer;
              later = plain (reverse t.after);
              g = past;
              happened = happened;
              count = t.count;
              got_is = t.got_is;
              clean = λ v bytes e. s.headline.clean_tiles (plain (reverse t.after)) past spot v bytes (happened ∙ ap (λ (f : Fetched). plain (reverse t.after) ++ Fetch spot f ∷ past) e);
            })
      ]

  pub clients : LawClient state
  clients was is keeps farm turns left = gets was is farm turns keeps.end (keeps.served farm turns left)
