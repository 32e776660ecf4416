-- What is said, and what an ask leaves, by cases.
use Rattle.std.proofs.Common.{◌≡◌, ◌||◌, ℕ, List, [], ◌∷◌, ◌++◌, true, false, Option, Some, None, Result, Ok, Err, inl, inr, refl, sym, ap, subst, ◌∙◌, append_assoc, append-nil}
use Rattle.std.proofs.lemmas.Bool.{false≢true}
use Rattle.std.specs.Prelude.{OnOk, MatchResult, option_map, unwrap_or}
use Rattle.std.specs.Option.{is_some, is_none}
use Rattle.farm_history.specs.Entries.{Entry, Ask, Fetch, Look}
use Rattle.farm_history.specs.declared.queues.Conn.{Conn}
use Rattle.farm_history.specs.declared.asks.Spot.{Spot}
use Rattle.farm_history.specs.declared.asks.Cmd.TheVariants as cmd
use Rattle.farm_history.specs.declared.asks.AskAnswer.{AskAnswer}
use Rattle.farm_history.specs.declared.answers.Looked.{Looked}
use Rattle.front_loop.specs.declared.dispositions.Disposition.{Disposition}
use Rattle.front_loop.specs.declared.dispositions.Disposition.TheVariants.{Stays, Leaves}
use Rattle.front_loop.specs.declared.dispositions.Reason.TheVariants as reason
use Rattle.front_loop.specs.Front.{keeps}
use Rattle.tile_front.specs.Answers.{status_answer, dirty_answer}
use Rattle.tile_front.specs.declared.acts.HttpAsk.{HttpAsk}
use Rattle.tile_front.specs.declared.acts.HttpAsk.TheVariants as http_ask
use Rattle.tile_front.specs.declared.acts.Act.{Act}
use Rattle.tile_front.specs.declared.acts.Act.TheVariants as act
use Rattle.tile_front.specs.declared.conn_states.Stage.{Stage}
use Rattle.tile_front.specs.declared.conn_states.Stage.TheVariants.{Waiting, Answered}
use Rattle.tile_front.specs.ConnStates.{is_reading, is_answered, waits_in}
use Rattle.tile_front.specs.Tiles.{refusal}
use Rattle.farm_history.specs.Past.{number_in}
use Rattle.tile_front.specs.inner.Steps.{want, tile_entries, fits_act, whole_act, answer_of, is_answer, waits_by, starves_act, WhyOf, Says, Fetches, DoesHttpAsk}

said_all : (text response : List ℕ) (disposition : Disposition) → disposition ≡ Stays → response ≡ text → Says text response disposition
said_all text response disposition e is = record { why = subst (λ (f : Disposition). WhyOf false f) (sym e) refl; response_is = λ k. is }

said_none : (text response : List ℕ) (disposition : Disposition) → disposition ≡ Leaves reason.Starved → Says text response disposition
said_none text response disposition e =
    subst (λ (f : Disposition). Says text response f) (sym e) (record { why = refl; response_is = λ k. absurd (false≢true k) })

-- a put that found memory has said its text
pub put_says : {A E : Type 0} (r : Result A E) (text old response : List ℕ) (disposition : Disposition) → old ≡ [] → OnOk r (response ≡ old ++ text)
    → MatchResult r (λ _. disposition ≡ Stays) (λ _. disposition ≡ Leaves reason.Starved) → Says text response disposition
put_says (Ok a) text old response disposition none is e = said_all text response disposition e (is ∙ ap (λ (l : List ℕ). l ++ text) none)
put_says (Err x) text old response disposition none is e = said_none text response disposition e

-- the turn was worn
pub idle : (c : Conn) (w : HttpAsk) (mine mine' : List Entry) (stage : Stage) (response : List ℕ) → mine' ≡ mine → DoesHttpAsk c w mine mine' stage response (Leaves reason.Starved)
idle c w mine mine' stage response e = inl (e, refl)

-- an ask that was done at once: the act is its answer, and waits for nothing
did : (c : Conn) (a : Act) (mine mine' : List Entry) (stage : Stage) (response : List ℕ) (disposition : Disposition) → mine' ≡ mine ++ tile_entries c a → fits_act a ≡ true
    → (whole_act a ≡ true) × (waits_by a ≡ None) × (is_answer a ≡ true) → stage ≡ Answered → WhyOf (starves_act a) disposition → (keeps disposition ≡ true → response ≡ answer_of a)
    → DoesHttpAsk c (want a) mine mine' stage response disposition
did c a mine mine' stage response disposition is fits (whole, waits, ends) e why says =
    inr (
      a,
      record {
        want_is = refl;
        mine_is = is;
        fits = fits;
        why = why;
        response_is = says;
        whole = λ k. whole;
        read = λ k. ap is_reading e;
        waits = λ k. waits ∙ ap waits_in (sym e);
        ends = λ k. ends ∙ ap is_answered (sym e);
      },
    )

-- an ask that was answered without a call
pub did_refuse : (c : Conn) (w : HttpAsk) (mine : List Entry) (stage : Stage) (response text : List ℕ) (disposition : Disposition) → refusal w ≡ Some text → stage ≡ Answered
    → Says text response disposition → DoesHttpAsk c w mine mine stage response disposition
did_refuse c w mine stage response text disposition is e says =
    did c (act.Refused w) mine mine stage response disposition (sym (append-nil mine)) (ap is_some is) (ap (λ o. is_some o || false) is, refl, ap is_some is) e says.why
    (λ k. says.response_is k ∙ sym (ap (λ (o : Option (List ℕ)). unwrap_or o []) is))

pub did_look : (c : Conn) (s : Spot) (l : Looked) (mine mine' : List Entry) (stage : Stage) (response : List ℕ) (disposition : Disposition) → mine' ≡ mine ++ Look s l ∷ [] → stage ≡ Answered
    → Says (status_answer l) response disposition → DoesHttpAsk c (http_ask.Status s) mine mine' stage response disposition
did_look c s l mine mine' stage response disposition is e says = did c (act.Seen s l) mine mine' stage response disposition is refl (refl, refl, refl) e says.why says.response_is

pub did_mark : (c : Conn) (s : Spot) (a : AskAnswer) (mine mine' : List Entry) (stage : Stage) (response : List ℕ) (disposition : Disposition) → mine' ≡ mine ++ Ask c cmd.Dirty s a ∷ [] → stage ≡ Answered
    → Says dirty_answer response disposition → DoesHttpAsk c (http_ask.Dirty s) mine mine' stage response disposition
did_mark c s a mine mine' stage response disposition is e says = did c (act.Marked s a) mine mine' stage response disposition is refl (refl, refl, refl) e says.why says.response_is

-- what was done at an ask was done at one that is the same
pub as_http_ask : (c : Conn) (v w : HttpAsk) (mine mine' : List Entry) (stage : Stage) (response : List ℕ) (disposition : Disposition) → v ≡ w → DoesHttpAsk c w mine mine' stage response disposition → DoesHttpAsk c v mine mine' stage response disposition
as_http_ask c v w mine mine' stage response disposition e does = subst (λ (x : HttpAsk). DoesHttpAsk c x mine mine' stage response disposition) (sym e) does

-- a tile that is waited for
pub did_ask : (c : Conn) (s : Spot) (a : AskAnswer) (n : ℕ) (mine mine' : List Entry) (stage : Stage) (response : List ℕ) → number_in a ≡ Some n → mine' ≡ mine ++ Ask c cmd.Render s a ∷ []
    → stage ≡ Waiting n s → response ≡ [] → DoesHttpAsk c (http_ask.Tile s) mine mine' stage response Stays
did_ask c s a n mine mine' stage response some is e none =
    inr (
      act.Asked s a,
      record {
        want_is = refl;
        mine_is = is;
        fits = refl;
        why = refl;
        response_is = λ k. none;
        whole = λ k. ap (λ (o : Option ℕ). is_some {T = ℕ × Spot} (option_map (λ m. (m, s)) o)) some;
        read = λ k. ap is_reading e;
        waits = λ k. ap (λ (o : Option ℕ). option_map (λ m. (m, s)) o) some ∙ ap waits_in (sym e);
        ends = λ k. ap is_answered (sym e);
      },
    )

-- a tile that was fetched at once, or would have been
pub did_fetch : (c : Conn) (s : Spot) (a : AskAnswer) (mine mid mine' : List Entry) (stage : Stage) (response : List ℕ) (disposition : Disposition) → number_in a ≡ None
    → mid ≡ mine ++ Ask c cmd.Render s a ∷ [] → stage ≡ Answered → Fetches s mid mine' response disposition → DoesHttpAsk c (http_ask.Tile s) mine mine' stage response disposition
did_fetch c s a mine mid mine' stage response disposition none is e (inl idle) =
    inr (
      act.Asked s a,
      record {
        want_is = refl;
        mine_is = idle.0 ∙ is;
        fits = refl;
        why = subst (λ (f : Disposition). WhyOf false f) (sym idle.1) refl;
        response_is = λ k. absurd (false≢true (ap keeps (sym idle.1) ∙ k));
        whole = λ k. absurd (false≢true (ap keeps (sym idle.1) ∙ k));
        read = λ k. absurd (false≢true (ap keeps (sym idle.1) ∙ k));
        waits = λ k. absurd (false≢true (ap keeps (sym idle.1) ∙ k));
        ends = λ k. absurd (false≢true (ap keeps (sym idle.1) ∙ k));
      },
    )
did_fetch c s a mine mid mine' stage response disposition none is e (inr (f, done)) =
    did c (act.Served s a f) mine mine' stage response disposition
    (done.mine_is ∙ ap (λ (es : List Entry). es ++ Fetch s f ∷ []) is ∙ append_assoc mine (Ask c cmd.Render s a ∷ []) (Fetch s f ∷ []))
    (ap (λ (o : Option ℕ). is_none o) none) (refl, refl, refl) e done.why done.response_is
