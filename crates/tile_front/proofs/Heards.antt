-- Hearing a piece, by cases.
use Rattle.std.proofs.Common.{◌≡◌, ℕ, List, [], ◌∷◌, ◌++◌, Bool, true, false, ◌||◌, Option, inl, inr, refl, sym, ap, subst, ◌∙◌, append-nil}
use Rattle.std.proofs.lemmas.Bool.{and_from, false≢true}
use Rattle.std.proofs.Math.Bool.{or-false}
use Rattle.std.specs.List.{list_any}
use Rattle.farm_history.specs.Entries.{Entry}
use Rattle.farm_history.specs.declared.queues.Conn.{Conn}
use Rattle.front_loop.specs.declared.dispositions.Disposition.{Disposition}
use Rattle.front_loop.specs.declared.dispositions.Disposition.TheVariants.{Stays, Leaves}
use Rattle.front_loop.specs.declared.dispositions.Reason.TheVariants as reason
use Rattle.front_loop.specs.Rules.{Move, Does, wants_of, answer_bytes, each_whole, BeginsWanted}
use Rattle.front_loop.specs.Front.{HeardWhy, Heard, Hears}
use Rattle.tile_front.specs.Heads.{bytes_read, IsOpen}
use Rattle.tile_front.specs.declared.acts.HttpAsk.{HttpAsk}
use Rattle.tile_front.specs.declared.acts.Act.{Act}
use Rattle.tile_front.specs.declared.conn_states.ConnState.{ConnState}
use Rattle.tile_front.specs.ConnStates.{is_reading, is_answered, waits_in}
use Rattle.tile_front.specs.Tiles.{BytesAsk, Wants, answers, http_asks, tile_rules, Knows}
use Rattle.tile_front.specs.inner.Steps.{want, tile_entries, whole_act, is_answer, starves_act, WhyOf, IsIdle, DidHttpAsk, DoesHttpAsk}
use Rattle.tile_front.proofs.Wishes.{asked_is, asks_stay, no_both, open_all, reading_unanswered}

module _ (front : ℕ) (maps : List ℕ → Option ℕ) where
  -- the one ask that was asked, and what the bytes ask
  wants_one : (given : List ℕ) (ms : List (Move Act)) (w : HttpAsk) → http_asks ms ≡ w ∷ [] → BytesAsk maps (bytes_read given) w → Wants maps given (wants_of (tile_rules front maps) ms)
  wants_one given ms w e asks = subst (λ (ws : List HttpAsk). Wants maps given ws) (sym (asked_is front maps ms ∙ e)) asks

  one_wanted : (given : List ℕ) (ms : List (Move Act)) (w : HttpAsk) → http_asks ms ≡ w ∷ [] → Wants maps given (wants_of (tile_rules front maps) ms) → BytesAsk maps (bytes_read given) w
  one_wanted given ms w e wants = let P : List HttpAsk → Type 0 = λ ws. Wants maps given ws in subst P (asked_is front maps ms ∙ e) wants

  -- all that is wanted is a beginning of it
  all_begins : (given : List ℕ) (ws : List HttpAsk) → Wants maps given ws → BeginsWanted (tile_rules front maps) given ws
  all_begins given ws wants = inr ([], subst (λ (vs : List HttpAsk). Wants maps given vs) (sym (append-nil ws)) wants)

  says_nothing : (ms : List (Move Act)) (response : List ℕ) → response ≡ [] → answer_bytes (tile_rules front maps) ms ≡ answer_bytes (tile_rules front maps) ms ++ response
  says_nothing ms response e = sym (ap (λ (l : List ℕ). answer_bytes (tile_rules front maps) ms ++ l) e ∙ append-nil (answer_bytes (tile_rules front maps) ms))

  -- a connection whose request was done has its bytes passed over
  pub hears_idle : (c : ℕ) (piece : List ℕ) (mine : List Entry) (conn_state : ConnState) (response : List ℕ) → is_reading conn_state.stage ≡ false → response ≡ []
      → Hears (tile_rules front maps) Knows c piece mine mine conn_state conn_state response Stays
  hears_idle c piece mine conn_state response idle empty given ms knows wants whole unread =
      let one = knows.once idle in
      let stays : Wants maps (given ++ piece) (wants_of (tile_rules front maps) ms) =
      wants_one (given ++ piece) ms one.0 one.1 (asks_stay maps given piece one.0 (one_wanted given ms one.0 one.1 wants)) in
      record {
        acts = [];
        mine_is = refl;
        begins = all_begins (given ++ piece) (wants_of (tile_rules front maps) ms) stays;
        fits = tt;
        why = (refl, refl);
        response_is = λ k. says_nothing ms response empty;
        asked_is = λ k. stays;
        whole = λ k. whole;
        knows = λ k. record { head = λ e. absurd (no_both (is_reading conn_state.stage) e idle); once = knows.once; waits = knows.waits; ends = knows.ends };
      }

  -- nothing was done, for want of memory or as all turns are drawn
  pub hears_starved : (c : ℕ) (piece : List ℕ) (mine mine' : List Entry) (conn_state conn_state' : ConnState) (response : List ℕ) (disposition : Disposition) → is_reading conn_state.stage ≡ true
      → IsIdle mine mine' disposition → Hears (tile_rules front maps) Knows c piece mine mine' conn_state conn_state' response disposition
  hears_starved c piece mine mine' conn_state conn_state' response disposition reads idle given ms knows wants whole unread =
      subst (λ (f : Disposition). Heard (tile_rules front maps) Knows c piece mine mine' conn_state' response f given ms) (sym idle.1)
      (record {
        acts = [];
        mine_is = idle.0;
        begins = inl (asked_is front maps ms ∙ (knows.head reads).2);
        fits = tt;
        why = refl;
        response_is = λ k. absurd (false≢true k);
        asked_is = λ k. absurd (false≢true k);
        whole = λ k. absurd (false≢true k);
        knows = λ k. absurd (false≢true k);
      })

  -- more bytes are waited for
  pub hears_open : (c : ℕ) (piece : List ℕ) (mine : List Entry) (conn_state conn_state' : ConnState) (response : List ℕ) → response ≡ [] → is_reading conn_state.stage ≡ true → conn_state'.stage ≡ conn_state.stage
      → conn_state'.head.items ≡ bytes_read (conn_state.head.items ++ piece) → IsOpen conn_state'.head.items
      → Hears (tile_rules front maps) Knows c piece mine mine conn_state conn_state' response Stays
  hears_open c piece mine conn_state conn_state' response empty reads same kept is given ms knows wants whole unread =
      let head = knows.head reads in
      let kept_is : conn_state'.head.items ≡ bytes_read (given ++ piece) = subst (λ (h : List ℕ). conn_state'.head.items ≡ bytes_read (h ++ piece)) head.0 kept in
      let opens : IsOpen (bytes_read (given ++ piece)) = subst IsOpen kept_is is in
      let all = open_all (given ++ piece) opens in
      let none = asked_is front maps ms ∙ head.2 in
      let still : Wants maps (given ++ piece) (wants_of (tile_rules front maps) ms) = subst (λ (ws : List HttpAsk). Wants maps (given ++ piece) ws) (sym none) opens in
      record {
        acts = [];
        mine_is = refl;
        begins = all_begins (given ++ piece) (wants_of (tile_rules front maps) ms) still;
        fits = tt;
        why = (refl, refl);
        response_is = λ k. says_nothing ms response empty;
        asked_is = λ k. still;
        whole = λ k. whole;
        knows = λ k. record {
          head = λ e. (kept_is ∙ all.1, all.0, head.2);
          once = λ e. absurd (no_both (is_reading conn_state.stage) reads (ap is_reading (sym same) ∙ e));
          waits = knows.waits ∙ ap waits_in (sym same);
          ends = knows.ends ∙ ap is_answered (sym same);
        };
      }

  -- why a session goes on or is left, of one act alone
  why_heard : (given : List ℕ) (a : Act) (disposition : Disposition) → WhyOf (starves_act a) disposition → HeardWhy (tile_rules front maps) given (Does a ∷ []) disposition
  why_heard given a Stays e = (refl, or-false (starves_act a) ∙ e)
  why_heard given a (Leaves reason.NoMemory) e = or-false (starves_act a) ∙ e
  why_heard given a (Leaves reason.Starved) e = or-false (starves_act a) ∙ e
  why_heard given a (Leaves reason.Ended) e = e
  why_heard given a (Leaves reason.Lost) e = e
  why_heard given a (Leaves reason.Cut) e = e
  why_heard given a (Leaves reason.Full) e = e
  why_heard given a (Leaves reason.Unread) e = absurd e
  why_heard given a (Leaves reason.SentWhole) e = e
  why_heard given a (Leaves reason.SendFailed) e = e

  -- the ask that became whole was done
  hears_act : (c : Conn) (piece : List ℕ) (w : HttpAsk) (mine mine' : List Entry) (conn_state conn_state' : ConnState) (response : List ℕ) (disposition : Disposition) (a : Act) → c.front ≡ front
      → is_reading conn_state.stage ≡ true → conn_state'.head.items ≡ bytes_read (conn_state.head.items ++ piece)
      → BytesAsk maps conn_state'.head.items w → DidHttpAsk c w mine mine' conn_state'.stage response disposition a
      → Hears (tile_rules front maps) Knows c.number piece mine mine' conn_state conn_state' response disposition
  hears_act c piece w mine mine' conn_state conn_state' response disposition a own reads kept asks did given ms knows wants whole unread =
      let head = knows.head reads in
      let kept_is : conn_state'.head.items ≡ bytes_read (given ++ piece) = subst (λ (h : List ℕ). conn_state'.head.items ≡ bytes_read (h ++ piece)) head.0 kept in
      let asks_now : BytesAsk maps (bytes_read (given ++ piece)) w = subst (λ (b : List ℕ). BytesAsk maps b w) kept_is asks in
      let once : http_asks (Does a ∷ ms) ≡ w ∷ [] = ap (λ (ws : List HttpAsk). ws ++ want a ∷ []) head.2 ∙ ap (λ (v : HttpAsk). v ∷ []) did.want_is in
      let wanted : Wants maps (given ++ piece) (wants_of (tile_rules front maps) (Does a ∷ ms)) = wants_one (given ++ piece) (Does a ∷ ms) w once asks_now in
      let unanswered : list_any answers ms ≡ false = knows.ends ∙ reading_unanswered conn_state.stage reads in
      record {
        acts = a ∷ [];
        mine_is = did.mine_is ∙ ap (λ (n : ℕ). mine ++ tile_entries (record { front = n; number = c.number }) a) own;
        begins = all_begins (given ++ piece) (wants_of (tile_rules front maps) (Does a ∷ ms)) wanted;
        fits = (did.fits, tt);
        why = why_heard (given ++ piece) a disposition did.why;
        response_is = λ k. ap (λ (t : List ℕ). answer_bytes (tile_rules front maps) ms ++ t) (sym (did.response_is k));
        asked_is = λ k. wanted;
        whole = λ k. and_from (whole_act a) (each_whole (tile_rules front maps) ms) (did.whole k) whole;
        knows = λ k. record {
          head = λ e. absurd (no_both (is_reading conn_state'.stage) e (did.read k));
          once = λ e. (w, once);
          waits = did.waits k;
          ends = ap (λ (b : Bool). is_answer a || b) unanswered ∙ or-false (is_answer a) ∙ did.ends k;
        };
      }

  pub hears_http_ask : (c : Conn) (piece : List ℕ) (w : HttpAsk) (mine mine' : List Entry) (conn_state conn_state' : ConnState) (response : List ℕ) (disposition : Disposition) → c.front ≡ front
      → is_reading conn_state.stage ≡ true → conn_state'.head.items ≡ bytes_read (conn_state.head.items ++ piece)
      → BytesAsk maps conn_state'.head.items w → DoesHttpAsk c w mine mine' conn_state'.stage response disposition
      → Hears (tile_rules front maps) Knows c.number piece mine mine' conn_state conn_state' response disposition
  hears_http_ask c piece w mine mine' conn_state conn_state' response disposition own reads kept asks (inl idle) = hears_starved c.number piece mine mine' conn_state conn_state' response disposition reads idle
  hears_http_ask c piece w mine mine' conn_state conn_state' response disposition own reads kept asks (inr (a, did)) = hears_act c piece w mine mine' conn_state conn_state' response disposition a own reads kept asks did
