-- What hearing a piece and taking a reply do.
use Rattle.std.proofs.Common.{◌≡◌, ℕ, Bool, true, false, cond, List, [], ◌∷◌, ◌++◌, length, drop, find, if◌then◌else◌, Option, Result, Ok, Err, is_ok, is_err, refl, sym, ap, subst, ◌∙◌, inr, append_assoc, append-nil}
use Rattle.std.proofs.lemmas.Bool.{false≢true}
use Rattle.std.proofs.Math.Nat.{le_refl}
use Rattle.renderd_protocol.specs.declared.messages.Request.{Request}
use Rattle.renderd_protocol.specs.Messages.{found_in}
use Rattle.renderd_protocol.specs.Stream.{stream_read}
use Rattle.renderd_protocol.proofs.Streams.{taken-append}
use Rattle.farm_history.specs.declared.queues.Reply.{Reply}
use Rattle.farm_history.specs.Entries.{Entry}
use Rattle.farm_history.specs.Lists.{without_first}
use Rattle.front_loop.specs.declared.dispositions.Disposition.{Disposition}
use Rattle.front_loop.specs.declared.dispositions.Disposition.TheVariants.{Stays, Leaves}
use Rattle.front_loop.specs.declared.dispositions.Reason.TheVariants as reason
use Rattle.front_loop.specs.Rules.{Move, wants_of, answer_bytes, each_whole, any_starves}
use Rattle.front_loop.specs.Front.{Begins, Heard, HeardWhy, Replied, EachFits, does}
use Rattle.session_front.specs.declared.asked.Asked.{Asked}
use Rattle.session_front.specs.declared.waits.ConnState.{ConnState}
use Rattle.session_front.specs.Renderd.{answer_command, is_bad, outcome_command, renderd_rules, response_to, with_wait, waiting_requests}
use Rattle.farm_history.specs.Past.{number_in}
use Rattle.session_front.specs.inner.Reads.{asks_in, is_wait, asks_of, disposition_at, Halts, HasNoneNext, Knows, pairs, Reads, requests_of, response_by, waits_after, response_for}
use Rattle.session_front.proofs.Streaming.{asks_in-append, none_next}

-- a vector that was extended
pub extended : {T E : Type 0} (r : Result T E) (b : Bool) (xs ys zs : List ℕ) → b ≡ is_err r → b ≡ false → zs ≡ (if is_ok r then xs else ys) → zs ≡ xs
extended (Ok x) b xs ys zs is off h = h
extended (Err e) b xs ys zs is off h = cc

module _ (front : ℕ) (maps : List ℕ → Option ℕ) where
  -- requests that were done, as moves

  asked_more : (acts : List Asked) (ms : List (Move Asked)) → wants_of (renderd_rules front maps) (does acts ++ ms) ≡ wants_of (renderd_rules front maps) ms ++ requests_of acts
  asked_more [] ms = sym (append-nil (wants_of (renderd_rules front maps) ms))
  asked_more (a ∷ acts) ms = ap (λ l. l ++ a.request ∷ []) (asked_more acts ms) ∙ append_assoc (wants_of (renderd_rules front maps) ms) (requests_of acts) (a.request ∷ [])

  text_more : (acts : List Asked) (ms : List (Move Asked)) → answer_bytes (renderd_rules front maps) (does acts ++ ms) ≡ answer_bytes (renderd_rules front maps) ms ++ response_by acts
  text_more [] ms = sym (append-nil (answer_bytes (renderd_rules front maps) ms))
  text_more (a ∷ acts) ms =
      ap (λ l. l ++ response_to (answer_command a.answer) a.request) (text_more acts ms)
      ∙ append_assoc (answer_bytes (renderd_rules front maps) ms) (response_by acts) (response_to (answer_command a.answer) a.request)

  waiting_more : (acts : List Asked) (ms : List (Move Asked)) → waiting_requests (does acts ++ ms) ≡ waits_after acts (waiting_requests ms)
  waiting_more [] ms = refl
  waiting_more (a ∷ acts) ms = ap (with_wait (number_in a.answer) a.request) (waiting_more acts ms)

  fit : (acts : List Asked) (ms : List (Move Asked)) → EachFits (renderd_rules front maps) acts ms
  fit [] ms = tt
  fit (a ∷ acts) ms = (refl, fit acts ms)

  none_starves : (acts : List Asked) → any_starves (renderd_rules front maps) (does acts) ≡ false
  none_starves [] = refl
  none_starves (a ∷ acts) = none_starves acts

  all_whole : (ms : List (Move Asked)) → each_whole (renderd_rules front maps) ms ≡ true
  all_whole [] = refl
  all_whole (m ∷ ms) = all_whole ms

  why_at : (given : List ℕ) (acts : List Asked) (b : Bool) → is_bad (found_in (stream_read given).rest) ≡ b → HeardWhy (renderd_rules front maps) given (does acts) (cond b (Leaves reason.Unread) Stays)
  why_at given acts true is = (is, none_starves acts)
  why_at given acts false is = (is, none_starves acts)

  module _ (c : ℕ) (piece : List ℕ) (mine mine' : List Entry) (conn_state : ConnState) (given : List ℕ) (ms : List (Move Asked)) (k : Knows given ms conn_state) (all : asks_in (stream_read given).requests ≡ wants_of (renderd_rules front maps) ms) where
    -- the connection's bytes with the piece
    with_new : stream_read (given ++ piece) ≡ record { requests = (stream_read given).requests ++ (stream_read (conn_state.unread.items ++ piece)).requests; rest = (stream_read (conn_state.unread.items ++ piece)).rest }
    with_new =
        taken-append (length given) given piece (le_refl (length given))
        ∙ ap (λ u. record { requests = (stream_read given).requests ++ (stream_read (u ++ piece)).requests; rest = (stream_read (u ++ piece)).rest }) (sym k.unread)

    -- the asks that stand in them
    asks_new : asks_of (given ++ piece) ≡ wants_of (renderd_rules front maps) ms ++ asks_of (conn_state.unread.items ++ piece)
    asks_new =
        ap (λ t. asks_in t.requests) with_new
        ∙ (asks_in-append (stream_read given).requests (stream_read (conn_state.unread.items ++ piece)).requests ∙ ap (λ l. l ++ asks_of (conn_state.unread.items ++ piece)) all)

    asked_then : (acts : List Asked) (more : List Request) → asks_of (conn_state.unread.items ++ piece) ≡ requests_of acts ++ more
        → asks_of (given ++ piece) ≡ wants_of (renderd_rules front maps) (does acts ++ ms) ++ more
    asked_then acts more is =
        asks_new
        ∙ (ap (λ l. wants_of (renderd_rules front maps) ms ++ l) is
        ∙ (sym (append_assoc (wants_of (renderd_rules front maps) ms) (requests_of acts) more) ∙ ap (λ l. l ++ more) (sym (asked_more acts ms))))

    -- the hearing was given up
    pub heard_halts : (conn_state' : ConnState) (response : List ℕ) → Halts front maps c (asks_of (conn_state.unread.items ++ piece)) mine mine' → Heard (renderd_rules front maps) Knows c piece mine mine' conn_state' response (Leaves reason.Starved) given ms
    heard_halts conn_state' response h = record {
      acts = h.acts;
      mine_is = h.mine_is;
      begins = inr (h.more, asked_then h.acts h.more h.asks_are);
      fits = fit h.acts ms;
      why = none_starves h.acts;
      response_is = λ off. absurd (false≢true off);
      asked_is = λ off. absurd (false≢true off);
      whole = λ off. absurd (false≢true off);
      knows = λ off. absurd (false≢true off);
    }

    -- all whole messages were read
    pub heard_all : (conn_state' : ConnState) (rest response : List ℕ) → HasNoneNext rest → conn_state'.unread.items ≡ rest
        → Reads front maps c (conn_state.unread.items ++ piece) rest mine mine' (pairs conn_state.waits.items) (pairs conn_state'.waits.items) [] response
        → Heard (renderd_rules front maps) Knows c piece mine mine' conn_state' response (disposition_at rest) given ms
    heard_all conn_state' rest response none unread x =
        let at = none_next rest none in
        let left : (stream_read (given ++ piece)).rest ≡ rest = ap (λ t. t.rest) with_new ∙ (x.left ∙ at.1) in
        let asks : asks_of (conn_state.unread.items ++ piece) ≡ requests_of x.made.acts =
        x.whole ∙ (ap (λ l. x.asks ++ l) at.0 ∙ (append-nil x.asks ∙ x.made.asks_are)) in
        let all_asked : asks_of (given ++ piece) ≡ wants_of (renderd_rules front maps) (does x.made.acts ++ ms) =
        asks_new ∙ (ap (λ l. wants_of (renderd_rules front maps) ms ++ l) asks ∙ sym (asked_more x.made.acts ms)) in
        record {
          acts = x.made.acts;
          mine_is = x.made.mine_is;
          begins = inr ([], all_asked ∙ sym (append-nil (wants_of (renderd_rules front maps) (does x.made.acts ++ ms))));
          fits = fit x.made.acts ms;
          why = subst (λ b. HeardWhy (renderd_rules front maps) (given ++ piece) (does x.made.acts) (cond b (Leaves reason.Unread) Stays)) (ap (λ r. is_bad (found_in r)) left)
              (why_at (given ++ piece) x.made.acts (is_bad (found_in (stream_read (given ++ piece)).rest)) refl);
          response_is = λ kept. text_more x.made.acts ms ∙ ap (λ l. answer_bytes (renderd_rules front maps) ms ++ l) (sym x.made.response_is);
          asked_is = λ kept. all_asked;
          whole = λ kept. all_whole (does x.made.acts ++ ms);
          knows = λ kept. record { unread = unread ∙ sym left; waits = x.made.waits_are ∙ (ap (waits_after x.made.acts) k.waits ∙ sym (waiting_more x.made.acts ms)) };
        }

    -- as it is known of the code: the bytes were kept before they were read, and those that were read are taken out
    pub heard_by : (conn_state' : ConnState) (slice : List ℕ) (used : ℕ) (response0 response : List ℕ) (disposition : Disposition) → slice ≡ conn_state.unread.items ++ piece → response0 ≡ [] → HasNoneNext (drop used slice)
        → conn_state'.unread.items ≡ drop used slice → disposition ≡ disposition_at conn_state'.unread.items
        → Reads front maps c slice (drop used slice) mine mine' (pairs conn_state.waits.items) (pairs conn_state'.waits.items) response0 response
        → Heard (renderd_rules front maps) Knows c piece mine mine' conn_state' response disposition given ms
    heard_by conn_state' slice used response0 response disposition whole empty none unread disposition_is x =
        subst (λ f. Heard (renderd_rules front maps) Knows c piece mine mine' conn_state' response f given ms) (sym (disposition_is ∙ ap disposition_at unread))
        (heard_all conn_state' (drop used slice) response none unread
        (subst (λ s. Reads front maps c s (drop used slice) mine mine' (pairs conn_state.waits.items) (pairs conn_state'.waits.items) [] response) whole
        (subst (λ o. Reads front maps c slice (drop used slice) mine mine' (pairs conn_state.waits.items) (pairs conn_state'.waits.items) o response) empty x)))

    pub halted_by : (conn_state' : ConnState) (slice response : List ℕ) → slice ≡ conn_state.unread.items ++ piece → Halts front maps c (asks_of slice) mine mine'
        → Heard (renderd_rules front maps) Knows c piece mine mine' conn_state' response (Leaves reason.Starved) given ms
    halted_by conn_state' slice response whole h = heard_halts conn_state' response (subst (λ s. Halts front maps c (asks_of s) mine mine') whole h)

  module _ (reply : Reply) (mine : List Entry) (conn_state conn_state' : ConnState) (response : List ℕ) (given : List ℕ) (ms : List (Move Asked)) (k : Knows given ms conn_state) where
    -- a reply was answered
    pub replied : response ≡ response_for (outcome_command reply.outcome) (find (is_wait reply.ask) (pairs conn_state.waits.items)) → pairs conn_state'.waits.items ≡ without_first (is_wait reply.ask) (pairs conn_state.waits.items)
        → conn_state'.unread.items ≡ conn_state.unread.items → Replied (renderd_rules front maps) Knows reply mine mine conn_state' response Stays given ms
    replied response_is left same = record {
      behind = [];
      mine_is = sym (append-nil mine);
      fits = refl;
      why = refl;
      response_is = λ kept. ap (λ ws. response_for (outcome_command reply.outcome) (find (is_wait reply.ask) ws)) (sym k.waits) ∙ sym response_is;
      whole = λ kept. refl;
      knows = λ kept. record { unread = same ∙ k.unread; waits = left ∙ ap (without_first (is_wait reply.ask)) k.waits };
    }

    -- there was no memory for the answer
    pub replied_halts : Replied (renderd_rules front maps) Knows reply mine mine conn_state' response (Leaves reason.Starved) given ms
    replied_halts = record {
      behind = [];
      mine_is = sym (append-nil mine);
      fits = refl;
      why = refl;
      response_is = λ off. absurd (false≢true off);
      whole = λ off. absurd (false≢true off);
      knows = λ off. absurd (false≢true off);
    }

  -- a new session
  pub begun : (conn_state : ConnState) → conn_state.unread.items ≡ [] → conn_state.waits.items ≡ [] → Begins (renderd_rules front maps) Knows conn_state
  unfolding stream_read found_in
  begun conn_state unread waits = record {
    knows = record { unread = unread; waits = ap pairs waits };
    wanted = refl;
    read = refl;
  }
