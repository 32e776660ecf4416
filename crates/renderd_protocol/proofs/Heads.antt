-- What stands at the head of bytes is settled by the whole message there, whatever follows it.
use Rattle.std.proofs.Common.{◌≡◌, ◌⊎◌, ℕ, ◌+◌, ◌≤◌, List, [], ◌++◌, length, take, drop, Bool, true, false, not, cond, nat_lt, nat_le, refl, sym, ap, ◌∙◌, arith, length-append, length-take, length-drop}
use Rattle.std.proofs.lemmas.Bool.Decides.{nat_tests}
use Rattle.std.proofs.lemmas.List.{drop-append-le, take-append-le, take-append-drop}
use Rattle.std.proofs.lemmas.Bool.{le-ltb, ltb-false, leb-true}
use Rattle.byteorder.specs.Endian.{little_number}
use Rattle.byteorder.specs.Numbers.{little_from-append}
use Rattle.renderd_protocol.specs.declared.messages.Request.{Request}
use Rattle.renderd_protocol.specs.declared.messages.Found.TheVariants.{Message, NeedMore, BadVersion}
use Rattle.renderd_protocol.specs.Messages.{is_version, message_len, number_at, text_field, text_at, text_from, request_in, found_in}
use Rattle.renderd_protocol.specs.Stream.{IsMessage, HasNoMessage}

-- the versions are three
pub version_cases : (v : ℕ) → is_version v ≡ true → (v ≡ 1) ⊎ (v ≡ 2) ⊎ (v ≡ 3)
version_cases v h = grind (arith, nat_tests)

-- the lengths of the versions
pub len_first : (v : ℕ) → is_version v ≡ true → 20 ≤ message_len v
len_first v h = grind (arith, nat_tests)

pub len_second : (v : ℕ) → is_version v ≡ true → 2 ≤ v → 64 ≤ message_len v
len_second v h l = grind (arith, nat_tests)

pub len_third : (v : ℕ) → is_version v ≡ true → 3 ≤ v → 144 ≤ message_len v
len_third v h l = grind (arith, nat_tests)

pub number_at-append : (place : ℕ) (m more : List ℕ) → place + 4 ≤ length m → number_at place (m ++ more) ≡ number_at place m
number_at-append place m more h =
    ap (little_number 4) (drop-append-le place m more (omega arith))
    ∙ little_from-append 4 (drop place m) more (omega (arith, length-drop place m))

pub text_at-append : (place : ℕ) (m more : List ℕ) → place + 40 ≤ length m → text_at place (m ++ more) ≡ text_at place m
text_at-append place m more h =
    ap (λ xs. text_field (take 40 xs)) (drop-append-le place m more (omega arith))
    ∙ ap text_field (take-append-le 40 (drop place m) more (omega (arith, length-drop place m)))

by_test : (b : Bool) (x y : List ℕ) → (b ≡ true → x ≡ y) → cond b x [] ≡ cond b y []
by_test true x y h = h refl
by_test false x y h = refl

pub text_from-append : (least place : ℕ) (m more : List ℕ) → 4 ≤ length m → (least ≤ number_at 0 m → place + 40 ≤ length m)
    → text_from least place (m ++ more) ≡ text_from least place m
text_from-append least place m more l h =
    ap (λ v. cond (nat_le least v) (text_at place (m ++ more)) []) (number_at-append 0 m more (omega arith))
    ∙ by_test (nat_le least (number_at 0 m)) (text_at place (m ++ more)) (text_at place m)
    (λ t. text_at-append place m more (h (leb-true least (number_at 0 m) t)))

pub at_least_20 : (m : List ℕ) → IsMessage m → 20 ≤ length m
at_least_20 m is = omega (arith, len_first (number_at 0 m) is.version, is.whole)

pub request_in-append : (m more : List ℕ) → IsMessage m → request_in (m ++ more) ≡ request_in m
request_in-append m more is =
    let l = at_least_20 m is in
    let ver : number_at 0 (m ++ more) ≡ number_at 0 m = number_at-append 0 m more (omega arith) in
    let cmd : number_at 4 (m ++ more) ≡ number_at 4 m = number_at-append 4 m more (omega arith) in
    let x : number_at 8 (m ++ more) ≡ number_at 8 m = number_at-append 8 m more (omega arith) in
    let y : number_at 12 (m ++ more) ≡ number_at 12 m = number_at-append 12 m more (omega arith) in
    let z : number_at 16 (m ++ more) ≡ number_at 16 m = number_at-append 16 m more (omega arith) in
    let name : text_from 2 20 (m ++ more) ≡ text_from 2 20 m =
    text_from-append 2 20 m more (omega arith) (λ v. omega (arith, len_second (number_at 0 m) is.version v, is.whole)) in
    let mime : text_from 3 61 (m ++ more) ≡ text_from 3 61 m =
    text_from-append 3 61 m more (omega arith) (λ v. omega (arith, len_third (number_at 0 m) is.version v, is.whole)) in
    let options : text_from 3 102 (m ++ more) ≡ text_from 3 102 m =
    text_from-append 3 102 m more (omega arith) (λ v. omega (arith, len_third (number_at 0 m) is.version v, is.whole)) in
    cc

-- what is found where the three tests let the message through
pub found_by : (bytes : List ℕ) → nat_lt (length bytes) 4 ≡ false → is_version (number_at 0 bytes) ≡ true
    → nat_lt (length bytes) (message_len (number_at 0 bytes)) ≡ false
    → found_in bytes ≡ Message (request_in bytes) (message_len (number_at 0 bytes))
unfolding found_in
found_by bytes a b c = rw (a, b, c) refl

-- a whole message is found, whatever follows it
pub found_message : (m more : List ℕ) → IsMessage m → found_in (m ++ more) ≡ Message (request_in m) (length m)
found_message m more is =
    let l = at_least_20 m is in
    let ver : number_at 0 (m ++ more) ≡ number_at 0 m = number_at-append 0 m more (omega arith) in
    let len = length-append m more in
    let version : is_version (number_at 0 (m ++ more)) ≡ true = ap is_version ver ∙ is.version in
    let whole : message_len (number_at 0 (m ++ more)) ≡ length m = ap message_len ver ∙ sym is.whole in
    let request = request_in-append m more is in
    let found = found_by (m ++ more) (le-ltb _ _ (omega arith)) version (le-ltb _ _ (omega arith)) in
    cc

-- what a found message says of the three tests
record Passed (a b c : Bool) (r s : Request) (n k : ℕ) : Type 0 where
  enough : a ≡ false
  version : b ≡ true
  whole : c ≡ false
  request : s ≡ r
  len : k ≡ n

passed : (a b c : Bool) (r s : Request) (n k v : ℕ)
    → cond a NeedMore (cond (not b) (BadVersion v) (cond c NeedMore (Message r n))) ≡ Message s k → Passed a b c r s n k
passed true b c r s n k v h = cc
passed false false c r s n k v h = cc
passed false true true r s n k v h = cc
passed false true false r s n k v h = record { enough = refl; version = refl; whole = refl; request = cc; len = cc }

-- a message that was found: the bytes begin with it
pub record Head (bytes : List ℕ) (request : Request) (len : ℕ) : Type 0 where
  pub message : List ℕ
  pub more : List ℕ
  pub is_message : IsMessage message
  pub whole : bytes ≡ message ++ more
  pub rest : more ≡ drop len bytes
  pub len_is : len ≡ length message
  pub request_is : request ≡ request_in message

pub head_of : (bytes : List ℕ) (request : Request) (len : ℕ) → found_in bytes ≡ Message request len → Head bytes request len
unfolding found_in
head_of bytes request len h =
    let p = passed (nat_lt (length bytes) 4) (is_version (number_at 0 bytes)) (nat_lt (length bytes) (message_len (number_at 0 bytes)))
    (request_in bytes) request (message_len (number_at 0 bytes)) len (number_at 0 bytes) h in
    let enough : 4 ≤ length bytes = ltb-false _ _ p.enough in
    let whole : message_len (number_at 0 bytes) ≤ length bytes = ltb-false _ _ p.whole in
    let l = len_first (number_at 0 bytes) p.version in
    let m : List ℕ = take len bytes in
    let parts : m ++ drop len bytes ≡ bytes = take-append-drop len bytes in
    let m_len : length m ≡ len = omega (arith, length-take len bytes, p.len) in
    let ver : number_at 0 bytes ≡ number_at 0 m =
    ap (number_at 0) (sym parts) ∙ number_at-append 0 m (drop len bytes) (omega (arith, p.len)) in
    let is : IsMessage m = record { version = ap is_version (sym ver) ∙ p.version; whole = m_len ∙ p.len ∙ ap message_len ver } in
    record {
      message = m;
      more = drop len bytes;
      is_message = is;
      whole = sym parts;
      rest = refl;
      len_is = sym m_len;
      request_is = p.request ∙ ap request_in (sym parts) ∙ request_in-append m (drop len bytes) is;
    }

-- where no message is found, none stands there
pub none_found : (bytes : List ℕ) → ((request : Request) (len : ℕ) → found_in bytes ≡ Message request len → ⊥) → HasNoMessage bytes
none_found bytes none message more is whole =
    none (request_in message) (length message) (ap found_in whole ∙ found_message message more is)
