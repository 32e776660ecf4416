-- The laws of a stream of messages.
use Rattle.std.proofs.Common.{◌≡◌, ℕ, zero, suc, ◌+◌, ◌≤◌, List, [], ◌∷◌, ◌++◌, length, take, drop, fold, map, refl, sym, ap, subst, ◌∙◌, arith, append_assoc, length-append, length-drop}
use Rattle.std.proofs.Math.Seq.{drop-append_seam, take-append_seam}
use Rattle.std.proofs.lemmas.List.{drop-append-le, append-nil}
use Rattle.renderd_protocol.specs.declared.messages.Request.{Request}
use Rattle.renderd_protocol.specs.declared.messages.Found.{Found}
use Rattle.renderd_protocol.specs.declared.messages.Found.TheVariants.{Message, NeedMore, BadVersion}
use Rattle.renderd_protocol.specs.Messages.{message_len, number_at, request_in, found_in}
use Rattle.renderd_protocol.specs.Stream.{IsMessage, joined, Splits, StreamRead, taken_at, taken_in, stream_read, with_piece, AnyPieces, TakesMessages, SplitsOneWay, FindsMessages}
use Rattle.renderd_protocol.proofs.Heads.{at_least_20, number_at-append, found_message, head_of, none_found}

-- what is taken, with one more request in front
abbrev pub after_request : Request → StreamRead → StreamRead
after_request request read = record { requests = request ∷ read.requests; rest = read.rest }

-- nothing is found in no bytes
nothing : found_in [] ≡ NeedMore
unfolding found_in
nothing = refl

-- how a message shortens the bytes
shorter : (bytes : List ℕ) (request : Request) (len : ℕ) → found_in bytes ≡ Message request len
    → (20 ≤ len) × (len ≤ length bytes) × (length (drop len bytes) + 20 ≤ length bytes)
shorter bytes request len h =
    let head = head_of bytes request len h in
    let l = at_least_20 head.message head.is_message in
    let e = ap length head.whole in
    let a = length-append head.message head.more in
    let d = length-drop len bytes in
    let n = head.len_is in
    (omega arith, omega arith, omega arith)

same_at : (later other : ℕ → StreamRead) (bytes : List ℕ) (f : Found)
    → ((request : Request) (len : ℕ) → f ≡ Message request len → later len ≡ other len)
    → taken_at later bytes f ≡ taken_at other bytes f
same_at later other bytes (Message request len) h = ap (after_request request) (h request len refl)
same_at later other bytes NeedMore h = refl
same_at later other bytes (BadVersion v) h = refl

no_bytes : (bytes : List ℕ) → length bytes ≤ 0 → bytes ≡ []
no_bytes [] h = refl
no_bytes (b ∷ bs) h = absurd (omega arith)

-- more turns than bytes change nothing
none_taken : (turns : ℕ) → taken_in turns [] ≡ record { requests = []; rest = [] }
none_taken zero = refl
none_taken (suc turns) = ap (taken_at (λ len. taken_in turns (drop len [])) []) nothing

pub enough_turns : (j k : ℕ) (bytes : List ℕ) → length bytes ≤ j → length bytes ≤ k → taken_in j bytes ≡ taken_in k bytes
enough_turns zero k bytes h g =
    let e = no_bytes bytes h in
    ap (taken_in 0) e ∙ sym (none_taken k) ∙ ap (taken_in k) (sym e)
enough_turns (suc j) zero bytes h g =
    let e = no_bytes bytes g in
    ap (taken_in (suc j)) e ∙ none_taken (suc j) ∙ ap (taken_in 0) (sym e)
enough_turns (suc j) (suc k) bytes h g =
    same_at (λ len. taken_in j (drop len bytes)) (λ len. taken_in k (drop len bytes)) bytes (found_in bytes)
    (λ request len e.
    let s = shorter bytes request len e in
    enough_turns j k (drop len bytes) (omega arith) (omega arith))

-- a message at the head is taken, and then what follows it
pub taken_message : (bytes : List ℕ) (request : Request) (len : ℕ) → found_in bytes ≡ Message request len
    → stream_read bytes ≡ after_request request (stream_read (drop len bytes))
unfolding stream_read
taken_message [] request len h = let n = nothing in cc
taken_message (b ∷ bs) request len h =
    let s = shorter (b ∷ bs) request len h in
    ap (taken_at (λ n. taken_in (length bs) (drop n (b ∷ bs))) (b ∷ bs)) h
    ∙ ap (after_request request)
    (enough_turns (length bs) (length (drop len (b ∷ bs))) (drop len (b ∷ bs)) (omega arith) (omega arith))

-- where there is no message, nothing is taken
pub taken_none : (bytes : List ℕ) → ((request : Request) (len : ℕ) → found_in bytes ≡ Message request len → ⊥)
    → stream_read bytes ≡ record { requests = []; rest = bytes }
unfolding stream_read
taken_none [] h = refl
taken_none (b ∷ bs) h =
    none_at (λ n. taken_in (length bs) (drop n (b ∷ bs))) (b ∷ bs) (found_in (b ∷ bs)) h
  where
    none_at : (later : ℕ → StreamRead) (bytes : List ℕ) (f : Found) → ((request : Request) (len : ℕ) → f ≡ Message request len → ⊥)
        → taken_at later bytes f ≡ record { requests = []; rest = bytes }
    none_at later bytes (Message request len) g = absurd (g request len refl)
    none_at later bytes NeedMore g = refl
    none_at later bytes (BadVersion v) g = refl

-- a message is found as before where bytes are added behind
pub found-append : (a b : List ℕ) (request : Request) (len : ℕ) → found_in a ≡ Message request len
    → found_in (a ++ b) ≡ Message request len
found-append a b request len h =
    let head = head_of a request len h in
    let e : a ++ b ≡ head.message ++ (head.more ++ b) = ap (λ xs. xs ++ b) head.whole ∙ append_assoc head.message head.more b in
    let f = found_message head.message (head.more ++ b) head.is_message in
    let g = ap found_in e in
    let r = head.request_is in
    let n = head.len_is in
    cc

-- where no message is found, what was taken of the front leaves it whole
piece_none : (a b : List ℕ) → ((request : Request) (len : ℕ) → found_in a ≡ Message request len → ⊥)
    → stream_read (a ++ b) ≡ with_piece (stream_read a) b
piece_none a b h = sym (ap (λ t. with_piece t b) (taken_none a h))

-- one message of the front, by the law for what follows it
piece_message : (a b : List ℕ) (request : Request) (len : ℕ) → found_in a ≡ Message request len
    → stream_read (drop len a ++ b) ≡ with_piece (stream_read (drop len a)) b
    → stream_read (a ++ b) ≡ with_piece (stream_read a) b
piece_message a b request len h later =
    let s = shorter a request len h in
    taken_message (a ++ b) request len (found-append a b request len h)
    ∙ ap (λ xs. after_request request (stream_read xs)) (drop-append-le len a b s.1)
    ∙ ap (after_request request) later
    ∙ sym (ap (λ t. with_piece t b) (taken_message a request len h))

piece_by : (a b : List ℕ) (f : Found) → found_in a ≡ f
    → ((request : Request) (len : ℕ) → found_in a ≡ Message request len → stream_read (drop len a ++ b) ≡ with_piece (stream_read (drop len a)) b)
    → stream_read (a ++ b) ≡ with_piece (stream_read a) b
piece_by a b (Message request len) h later = piece_message a b request len h (later request len h)
piece_by a b NeedMore h later = piece_none a b (λ request len e. cc)
piece_by a b (BadVersion v) h later = piece_none a b (λ request len e. cc)

-- taking of two pieces in turn is taking of both at once
pub taken-append : (k : ℕ) (a b : List ℕ) → length a ≤ k → stream_read (a ++ b) ≡ with_piece (stream_read a) b
taken-append zero a b l = piece_by a b (found_in a) refl (λ request len h. absurd (let s = shorter a request len h in omega arith))
taken-append (suc k) a b l =
    piece_by a b (found_in a) refl (λ request len h. let s = shorter a request len h in taken-append k (drop len a) b (omega arith))

-- the pieces after a front
pieces_from : (pieces : List (List ℕ)) (front : List ℕ) → fold with_piece (stream_read front) pieces ≡ stream_read (front ++ joined pieces)
pieces_from [] front = ap stream_read (sym (append-nil front))
pieces_from (piece ∷ pieces) front =
    ap (λ (t : StreamRead). fold with_piece t pieces) (sym (taken-append (length front) front piece (omega arith)))
    ∙ pieces_from pieces (front ++ piece)
    ∙ ap stream_read (append_assoc front piece (joined pieces))

no_piece : record { requests = []; rest = [] } ≡ stream_read []
unfolding stream_read
no_piece = refl

pub any_pieces : AnyPieces
any_pieces pieces = ap (λ (t : StreamRead). fold with_piece t pieces) no_piece ∙ pieces_from pieces []

-- the whole messages behind what is taken
record Origin (bytes : List ℕ) : Type 0 where
  messages : List (List ℕ)
  splits : Splits bytes messages (stream_read bytes).rest
  requests : (stream_read bytes).requests ≡ map request_in messages

origin_none : (bytes : List ℕ) → ((request : Request) (len : ℕ) → found_in bytes ≡ Message request len → ⊥) → Origin bytes
origin_none bytes h =
    let e = taken_none bytes h in
    record {
      messages = [];
      splits = subst (λ (t : StreamRead). Splits bytes [] t.rest) (sym e) (record { whole = refl; each = tt; none_left = none_found bytes h });
      requests = ap (λ t. t.requests) e;
    }

origin_message : (bytes : List ℕ) (request : Request) (len : ℕ) → found_in bytes ≡ Message request len → Origin (drop len bytes) → Origin bytes
origin_message bytes request len h later =
    let head = head_of bytes request len h in
    let e = taken_message bytes request len h in
    let whole : bytes ≡ head.message ++ (joined later.messages ++ (stream_read (drop len bytes)).rest) =
    head.whole ∙ ap (λ xs. head.message ++ xs) (head.rest ∙ later.splits.whole) in
    let grouped : bytes ≡ joined (head.message ∷ later.messages) ++ (stream_read (drop len bytes)).rest =
    whole ∙ sym (append_assoc head.message (joined later.messages) (stream_read (drop len bytes)).rest) in
    record {
      messages = head.message ∷ later.messages;
      splits = subst (λ (t : StreamRead). Splits bytes (head.message ∷ later.messages) t.rest) (sym e)
          (record { whole = grouped; each = (head.is_message, later.splits.each); none_left = later.splits.none_left });
      requests = ap (λ t. t.requests) e ∙ ap (λ r. r ∷ (stream_read (drop len bytes)).requests) head.request_is
          ∙ ap (λ rs. request_in head.message ∷ rs) later.requests;
    }

origin_by : (bytes : List ℕ) (f : Found) → found_in bytes ≡ f
    → ((request : Request) (len : ℕ) → found_in bytes ≡ Message request len → Origin (drop len bytes)) → Origin bytes
origin_by bytes (Message request len) h later = origin_message bytes request len h (later request len h)
origin_by bytes NeedMore h later = origin_none bytes (λ request len e. cc)
origin_by bytes (BadVersion v) h later = origin_none bytes (λ request len e. cc)

origin : (k : ℕ) (bytes : List ℕ) → length bytes ≤ k → Origin bytes
origin zero bytes l = origin_by bytes (found_in bytes) refl (λ request len h. absurd (let s = shorter bytes request len h in omega arith))
origin (suc k) bytes l =
    origin_by bytes (found_in bytes) refl (λ request len h. let s = shorter bytes request len h in origin k (drop len bytes) (omega arith))

pub takes_messages : TakesMessages
takes_messages bytes = let o = origin (length bytes) bytes (omega arith) in (o.messages, o.splits, o.requests)

-- two whole messages at the head of the same bytes are one
same_message : (m o a b : List ℕ) → IsMessage m → IsMessage o → m ++ a ≡ o ++ b → (m ≡ o) × (a ≡ b)
same_message m o a b is os e =
    let p = at_least_20 m is in
    let q = at_least_20 o os in
    let ver : number_at 0 m ≡ number_at 0 o =
    sym (number_at-append 0 m a (omega arith)) ∙ ap (number_at 0) e ∙ number_at-append 0 o b (omega arith) in
    let len : length m ≡ length o = is.whole ∙ ap message_len ver ∙ sym os.whole in (
      sym (take-append_seam m a) ∙ ap (take (length m)) e ∙ ap (λ n. take n (o ++ b)) len ∙ take-append_seam o b,
      sym (drop-append_seam m a) ∙ ap (drop (length m)) e ∙ ap (λ n. drop n (o ++ b)) len ∙ drop-append_seam o b,
    )

pub one_way : SplitsOneWay
one_way bytes [] [] rest left s t = (refl, sym s.whole ∙ t.whole)
one_way bytes [] (o ∷ os) rest left s t =
    absurd (s.none_left o (joined os ++ left) t.each.0 (sym s.whole ∙ t.whole ∙ append_assoc o (joined os) left))
one_way bytes (m ∷ ms) [] rest left s t =
    absurd (t.none_left m (joined ms ++ rest) s.each.0 (sym t.whole ∙ s.whole ∙ append_assoc m (joined ms) rest))
one_way bytes (m ∷ ms) (o ∷ os) rest left s t =
    let e : m ++ (joined ms ++ rest) ≡ o ++ (joined os ++ left) =
    sym (append_assoc m (joined ms) rest) ∙ sym s.whole ∙ t.whole ∙ append_assoc o (joined os) left in
    let same = same_message m o (joined ms ++ rest) (joined os ++ left) s.each.0 t.each.0 e in
    let later = one_way (joined ms ++ rest) ms os rest left
    (record { whole = refl; each = s.each.1; none_left = s.none_left })
    (record { whole = same.1; each = t.each.1; none_left = t.none_left }) in
    (ap (λ x. x ∷ ms) same.0 ∙ ap (λ xs. o ∷ xs) later.0, later.1)

pub finds_messages : FindsMessages
finds_messages = (
  found_message,
  λ bytes request len h. let head = head_of bytes request len h in
      (head.message, head.more, head.is_message, head.whole, head.len_is, head.request_is),
)
