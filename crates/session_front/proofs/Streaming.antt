-- The messages of a connection, one after another.
use Rattle.std.proofs.Common.{◌≡◌, ℕ, ◌+◌, ◌-◌, ◌<◌, ◌≤◌, Bool, true, false, cond, List, [], ◌∷◌, ◌++◌, length, take, drop, Option, Result, Ok, Err, IsErr, MatchResult, refl, sym, ap, subst, ◌∙◌, arith, append_assoc, length-append}
use Rattle.std.proofs.lemmas.List.{take_all, length-drop}
use Rattle.std.specs.Option.{is_some}
use Rattle.std.specs.Prelude.{IsTrue}
use Rattle.renderd_protocol.specs.declared.messages.Request.{Request}
use Rattle.renderd_protocol.specs.declared.messages.Found.{Found}
use Rattle.renderd_protocol.specs.declared.messages.Found.TheVariants.{Message}
use Rattle.renderd_protocol.specs.Messages.{found_in, is_version}
use Rattle.renderd_protocol.specs.Stream.{stream_read}
use Rattle.renderd_protocol.proofs.Heads.{at_least_20, head_of}
use Rattle.renderd_protocol.proofs.Streams.{taken_message, taken_none}
use Rattle.farm_history.specs.Entries.{Entry}
use Rattle.session_front.specs.Renderd.{command_of}
use Rattle.session_front.specs.inner.Reads.{asks_in, asks_of, HasNoneNext, Made, Halts, Reads}
use Rattle.session_front.proofs.Making.{none_made, made_more, halts_more, halts_before}

-- the first request, and then the others
asks_first : (r : Request) (rs : List Request) → asks_in (r ∷ rs) ≡ asks_in (r ∷ []) ++ asks_in rs
asks_first r rs = go (is_some (command_of r.cmd))
  where
    go : (b : Bool) → cond b (r ∷ asks_in rs) (asks_in rs) ≡ cond b (r ∷ []) [] ++ asks_in rs
    go true = refl
    go false = refl

pub asks_in-append : (ps qs : List Request) → asks_in (ps ++ qs) ≡ asks_in ps ++ asks_in qs
asks_in-append [] qs = refl
asks_in-append (a ∷ ps) qs =
    asks_first a (ps ++ qs)
    ∙ (ap (λ l. asks_in (a ∷ []) ++ l) (asks_in-append ps qs)
    ∙ (sym (append_assoc (asks_in (a ∷ [])) (asks_in ps) (asks_in qs)) ∙ ap (λ l. l ++ asks_in qs) (sym (asks_first a ps))))

module _ (rest : List ℕ) (r : Request) (len : ℕ) (found : found_in rest ≡ Message r len) where
  -- a message at the head
  asks_of_message : asks_of rest ≡ asks_in (r ∷ []) ++ asks_of (drop len rest)
  asks_of_message = ap (λ t. asks_in t.requests) (taken_message rest r len found) ∙ asks_first r (stream_read (drop len rest)).requests

  pub known_version : IsTrue (is_version r.ver)
  known_version = let head = head_of rest r len found in subst (λ (q : Request). IsTrue (is_version q.ver)) (sym head.request_is) head.is_message.version

  pub some_bytes : (0 < len) × (len ≤ length rest)
  some_bytes =
      let head = head_of rest r len found in
      let l = at_least_20 head.message head.is_message in
      let e = ap length head.whole in
      let a = length-append head.message head.more in
      let n = head.len_is in
      (omega arith, omega arith)

-- the bytes from a place on
tail_is : (n : ℕ) (xs : List ℕ) → take (length xs - n) (drop n xs) ≡ drop n xs
tail_is n xs = take_all (length xs - n) (drop n xs) (omega (arith, length-drop n xs))

module _ (bytes : List ℕ) (used : ℕ) (r : Request) (len : ℕ) where
  -- what was found there
  pub found_at : (f : Found) → f ≡ found_in (take (length bytes - used) (drop used bytes)) → f ≡ Message r len → found_in (drop used bytes) ≡ Message r len
  found_at f e is = ap found_in (sym (tail_is used bytes)) ∙ (sym e ∙ is)

  -- where it ends
  pub ends_within : found_in (drop used bytes) ≡ Message r len → used ≤ length bytes → (0 < len) × (used + len ≤ length bytes)
  ends_within found within =
      let s = some_bytes (drop used bytes) r len found in
      let d = length-drop used bytes in
      (s.0, omega arith)

-- a refusal that is passed on
pub passes_on : {T E : Type 0} (result : Result T E) (P : T → Type 0) (Q : Type 0) → IsErr result → Q → MatchResult result P (λ _. Q)
passes_on (Ok x) P Q refused q = cc
passes_on (Err e) P Q refused q = q

module _ (front : ℕ) (maps : List ℕ → Option ℕ) (c : ℕ) (bytes : List ℕ) where
  pub read_none : (mine : List Entry) (ws : List (ℕ × Request)) (response : List ℕ) → Reads front maps c bytes bytes mine mine ws ws response response
  read_none mine ws response = record { asks = []; made = none_made front maps c mine ws response; whole = refl; left = refl }

  module _ (rest : List ℕ) (r : Request) (len : ℕ) (found : found_in rest ≡ Message r len) (m0 m1 m2 : List Entry) (w0 w1 w2 : List (ℕ × Request)) (s0 s1 s2 : List ℕ) where
    -- one message more is read
    pub read_more : (next : List ℕ) → drop len rest ≡ next → Reads front maps c bytes rest m0 m1 w0 w1 s0 s1 → Made front maps c (asks_in (r ∷ [])) m1 m2 w1 w2 s1 s2
        → Reads front maps c bytes next m0 m2 w0 w2 s0 s2
    read_more next at x y = subst (λ n. Reads front maps c bytes n m0 m2 w0 w2 s0 s2) at (record {
      asks = x.asks ++ asks_in (r ∷ []);
      made = made_more front maps c x.asks (asks_in (r ∷ [])) m0 m1 m2 w0 w1 w2 s0 s1 s2 x.made y;
      whole = x.whole ∙ (ap (λ l. x.asks ++ l) (asks_of_message rest r len found) ∙ sym (append_assoc x.asks (asks_in (r ∷ [])) (asks_of (drop len rest))));
      left = x.left ∙ ap (λ t. t.rest) (taken_message rest r len found);
    })

    pub read_halts : Reads front maps c bytes rest m0 m1 w0 w1 s0 s1 → Halts front maps c (asks_in (r ∷ [])) m1 m2 → Halts front maps c (asks_of bytes) m0 m2
    read_halts x h = subst (λ ps. Halts front maps c ps m0 m2) (sym (x.whole ∙ ap (λ l. x.asks ++ l) (asks_of_message rest r len found)))
        (halts_more front maps c x.asks (asks_in (r ∷ []) ++ asks_of (drop len rest)) m0 m1 m2 w0 w1 w2 s0 s1 s2 x.made
        (halts_before front maps c (asks_in (r ∷ [])) (asks_of (drop len rest)) m1 m2 h))

-- where no message stands next, all was asked
pub none_next : (rest : List ℕ) → HasNoneNext rest → (asks_of rest ≡ []) × ((stream_read rest).rest ≡ rest)
none_next rest none = let e = taken_none rest none in (ap (λ t. asks_in t.requests) e, ap (λ t. t.rest) e)
