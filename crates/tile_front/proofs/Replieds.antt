-- Taking a reply, by cases.
use Rattle.std.proofs.Common.{◌≡◌, ℕ, List, [], ◌∷◌, true, false, ◌||◌, Option, Some, None, inl, inr, refl, sym, ap, subst, ◌∙◌, append-nil}
use Rattle.std.specs.Option.{is_none}
use Rattle.std.proofs.lemmas.Bool.{or_right, false≢true}
use Rattle.farm_history.specs.Entries.{Entry, Fetch}
use Rattle.farm_history.specs.declared.asks.Spot.{Spot}
use Rattle.farm_history.specs.declared.queues.Reply.{Reply}
use Rattle.farm_history.specs.declared.answers.Fetched.{Fetched}
use Rattle.front_loop.specs.declared.dispositions.Disposition.{Disposition}
use Rattle.front_loop.specs.declared.dispositions.Disposition.TheVariants.{Stays, Leaves}
use Rattle.front_loop.specs.declared.dispositions.Reason.TheVariants as reason
use Rattle.front_loop.specs.Rules.{Gets, is_cut}
use Rattle.front_loop.specs.Front.{RepliedWhy, Replied, Replies}
use Rattle.tile_front.specs.declared.acts.Act.{Act}
use Rattle.tile_front.specs.declared.conn_states.ConnState.{ConnState}
use Rattle.tile_front.specs.declared.conn_states.Stage.TheVariants.{Answered}
use Rattle.tile_front.specs.ConnStates.{is_reading, is_answered, waits_in, spot_at}
use Rattle.tile_front.specs.Tiles.{fits_behind, found_no_memory, waiting_ask, tile_rules, Knows}
use Rattle.tile_front.specs.inner.Steps.{WhyOf, IsIdle, DidFetch, Fetches}
use Rattle.tile_front.proofs.Wishes.{no_both, same_self, unless_other, unless_that, waiting_read}

module _ (front : ℕ) (maps : List ℕ → Option ℕ) where
  -- no request waits for the reply
  pub replies_none : (reply : Reply) (mine : List Entry) (conn_state : ConnState) (response : List ℕ) → spot_at reply.ask (waits_in conn_state.stage) ≡ None → response ≡ []
      → Replies (tile_rules front maps) Knows reply mine mine conn_state conn_state response Stays
  replies_none reply mine conn_state response none empty given ms knows =
      let none_waits : spot_at reply.ask (waiting_ask ms) ≡ None = ap (λ (o : Option (ℕ × Spot)). spot_at reply.ask o) knows.waits ∙ none in
      record {
        behind = [];
        mine_is = sym (append-nil mine);
        fits = refl;
        why = refl;
        response_is = λ k. sym empty;
        whole = λ k. ap (λ (o : Option Spot). is_none o || (false || is_cut {A = Act} (Gets reply []))) none_waits;
        knows = λ k. record {
          head = knows.head;
          once = knows.once;
          waits = unless_other reply.ask (waiting_ask ms) none_waits ∙ knows.waits;
          ends = knows.ends;
        };
      }

  why_replied : (reply : Reply) (s : Spot) (f : Fetched) (disposition : Disposition) → WhyOf (found_no_memory f) disposition → RepliedWhy (tile_rules front maps) (Gets reply (Fetch s f ∷ [])) disposition
  why_replied reply s f Stays e = e
  why_replied reply s f (Leaves reason.NoMemory) e = e
  why_replied reply s f (Leaves reason.Starved) e = e
  why_replied reply s f (Leaves reason.Ended) e = e
  why_replied reply s f (Leaves reason.Lost) e = e
  why_replied reply s f (Leaves reason.Cut) e = e
  why_replied reply s f (Leaves reason.Full) e = e
  why_replied reply s f (Leaves reason.Unread) e = e
  why_replied reply s f (Leaves reason.SentWhole) e = e
  why_replied reply s f (Leaves reason.SendFailed) e = e

  -- the tile that waited was fetched
  replies_page : (reply : Reply) (s : Spot) (mine mine' : List Entry) (conn_state conn_state' : ConnState) (response : List ℕ) (disposition : Disposition) (f : Fetched)
      → spot_at reply.ask (waits_in conn_state.stage) ≡ Some s → conn_state'.stage ≡ Answered → DidFetch s mine mine' response disposition f
      → Replies (tile_rules front maps) Knows reply mine mine' conn_state conn_state' response disposition
  replies_page reply s mine mine' conn_state conn_state' response disposition f some stage did given ms knows =
      let that_waits : spot_at reply.ask (waiting_ask ms) ≡ Some s = ap (λ (o : Option (ℕ × Spot)). spot_at reply.ask o) knows.waits ∙ some in
      let one = knows.once (waiting_read reply.ask s conn_state.stage some) in
      record {
        behind = Fetch s f ∷ [];
        mine_is = did.mine_is;
        fits = ap (λ (o : Option Spot). fits_behind o (Fetch s f ∷ [])) that_waits ∙ same_self s;
        why = why_replied reply s f disposition did.why;
        response_is = λ k. sym (did.response_is k);
        whole = λ k. or_right (is_none (spot_at reply.ask (waiting_ask ms))) true refl;
        knows = λ k. record {
          head = λ e. absurd (no_both (is_reading conn_state'.stage) e (ap is_reading stage));
          once = λ e. one;
          waits = unless_that reply.ask s (waiting_ask ms) that_waits ∙ ap waits_in (sym stage);
          ends = ap is_answered (sym stage);
        };
      }

  -- nothing was fetched, as all turns are drawn
  replies_worn : (reply : Reply) (mine mine' : List Entry) (conn_state conn_state' : ConnState) (response : List ℕ) (disposition : Disposition) → IsIdle mine mine' disposition
      → Replies (tile_rules front maps) Knows reply mine mine' conn_state conn_state' response disposition
  replies_worn reply mine mine' conn_state conn_state' response disposition idle given ms knows =
      subst (λ (f : Disposition). Replied (tile_rules front maps) Knows reply mine mine' conn_state' response f given ms) (sym idle.1)
      (record {
        behind = [];
        mine_is = idle.0 ∙ sym (append-nil mine);
        fits = refl;
        why = refl;
        response_is = λ k. absurd (false≢true k);
        whole = λ k. absurd (false≢true k);
        knows = λ k. absurd (false≢true k);
      })

  pub replies_fetched : (reply : Reply) (s : Spot) (mine mine' : List Entry) (conn_state conn_state' : ConnState) (response : List ℕ) (disposition : Disposition)
      → spot_at reply.ask (waits_in conn_state.stage) ≡ Some s → conn_state'.stage ≡ Answered → Fetches s mine mine' response disposition
      → Replies (tile_rules front maps) Knows reply mine mine' conn_state conn_state' response disposition
  replies_fetched reply s mine mine' conn_state conn_state' response disposition some stage (inl idle) = replies_worn reply mine mine' conn_state conn_state' response disposition idle
  replies_fetched reply s mine mine' conn_state conn_state' response disposition some stage (inr (f, did)) = replies_page reply s mine mine' conn_state conn_state' response disposition f some stage did
