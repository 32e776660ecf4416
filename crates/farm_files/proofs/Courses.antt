-- What it says of a course that it was followed, and that one end excludes another.
use Rattle.std.proofs.Common.{◌≡◌, ℕ, ◌⊎◌, inl, inr, List, refl, sym, ap, subst, ◌∙◌}
use Rattle.std.specs.Prelude.{Option, Some, Result, Ok, Err, Vec, IfSome}
use Rattle.std.specs.declared.alloc.Global.{Global}
use Rattle.farm_base.specs.Outside.{FilesTold, Rose, Reads, failed_read, with_failed}
use Rattle.farm_base.specs.declared.files.FileFault.{FileFault}
use Rattle.farm_base.specs.declared.files.FileFault.TheVariants as file
use Rattle.exit_status.specs.Stops.{unreadable_line}
use Rattle.exit_status.specs.Ends.{FilesAt}
use Rattle.exit_status.specs.declared.stops.Stop.{Stop}
use Rattle.exit_status.specs.declared.stops.Stop.TheVariants as stop
use Rattle.exit_status.proofs.Outsides.{read_tells}
use Rattle.farm_files.specs.Course.{Course, made, refused, reads, ◌>>=◌, Leads}
use Rattle.farm_files.specs.inner.Follows.{After, Follows}

-- ---- one end at most

one_content : (held : List ℕ → Option (List ℕ)) (name a b : List ℕ) → held name ≡ Some a → held name ≡ Some b → b ≡ a
one_content held name a b ha hb = let both : Some b ≡ Some a = sym hb ∙ ha in cc

-- no file is read next
abbrev pub IsEnd : {V : Type 0} → Course V → Type 0
IsEnd (reads name on) = ⊥
IsEnd course = Unit {0}

-- files lead a course to one end at most
pub one_end : {V : Type 0} (held : List ℕ → Option (List ℕ)) (c a b : Course V) → IsEnd a → IsEnd b → Leads held c a → Leads held c b → a ≡ b
one_end held (made v) a b x y m n = m ∙ sym n
one_end held (refused line) a b x y m n = m ∙ sym n
one_end {V} held (reads name on) a b x y (inl e) n = absurd (subst (λ (c : Course V). IsEnd c) e x)
one_end {V} held (reads name on) a b x y (inr m) (inl e) = absurd (subst (λ (c : Course V). IsEnd c) e y)
one_end {V} held (reads name on) a b x y (inr m) (inr n) =
    one_end held (on m.0) a b x y m.2 (subst (λ (bytes : List ℕ). Leads held (on bytes) b) (one_content held name m.0 n.0 m.1 n.1) n.2)

-- ---- what some bytes lead to

-- some contents of the files lead the course to this value
abbrev pub Could : {V : Type 0} → Course V → V → Type 0
Could (made its) value = value ≡ its
Could (refused line) value = ⊥
Could (reads name on) value = (bytes : List ℕ) × Could (on bytes) value

-- a value of a course and another after it is one that the first's value leads to
pub could_parts : {A B : Type 0} (c : Course A) (f : A → Course B) (v : B) → Could (c >>= f) v → (a : A) × Could c a × Could (f a) v
could_parts (made a) f v h = (a, refl, h)
could_parts (refused line) f v h = absurd h
could_parts (reads name on) f v h = let rest = could_parts (on h.0) f v h.1 in (rest.0, (h.0, rest.1), rest.2)

could_after : {V : Type 0} (name : List ℕ) (on : List ℕ → Course V) (middle new : FilesAt) (v : V) (read : Result (Vec ℕ Global) FileFault)
    → ((bytes : List ℕ) → Follows (on bytes) middle new (Ok v) → Could (on bytes) v)
    → After (λ bytes. Follows (on bytes) middle new (Ok v)) name middle new (Ok v) read → (bytes : List ℕ) × Could (on bytes) v
could_after name on middle new v (Ok bytes) more h = (bytes.items, more bytes.items h)
could_after name on middle new v (Err file.Failed) more (inl e, same) = absurd (cc)
could_after name on middle new v (Err file.Failed) more (inr e, same) = absurd (cc)
could_after name on middle new v (Err file.NoMemory) more (inl e, same) = absurd (cc)
could_after name on middle new v (Err file.NoMemory) more (inr e, same) = absurd (cc)

-- so it is with what was made, also where the files do not tell what they hold
pub followed_could : {V : Type 0} (c : Course V) (old new : FilesAt) (v : V) → Follows c old new (Ok v) → Could c v
followed_could (made its) old new v (inl e, same) = cc
followed_could (made its) old new v (inr e, same) = absurd (cc)
followed_could (refused line) old new v (inl e, same) = absurd (cc)
followed_could (refused line) old new v (inr e, same) = absurd (cc)
followed_could (reads name on) old new v (inl (inl e, same)) = absurd (cc)
followed_could (reads name on) old new v (inl (inr e, same)) = absurd (cc)
followed_could (reads name on) old new v (inr r) =
    could_after name on r.middle new v r.read (λ bytes h. followed_could (on bytes) r.middle new v h) r.after

-- ---- what it says that a course was followed

-- The four ends: the files lead it to the value that was made; to the line that refuses; to the read that
-- failed, which is noted and counted; or memory was wanting. But for that read they are as they were.
pub data Outcome {V : Type 0} (c : Course V) (old new : FilesAt) (result : Result V Stop) : Type 0 where
  makes : (v : V) → result ≡ Ok v → ((t : FilesTold) → old.told ≡ Some t → Leads t.content c (made v) × (new.told ≡ Some t))
      → new.faults ≡ old.faults → Outcome c old new result
  refuses : (line : List ℕ) → result ≡ Err (stop.Refused line)
      → ((t : FilesTold) → old.told ≡ Some t → Leads t.content c (refused line) × (new.told ≡ Some t)) → new.faults ≡ old.faults → Outcome c old new result
  misses : (name : List ℕ) (on : List ℕ → Course V) → (result ≡ Err (stop.Unreadable (unreadable_line name))) ⊎ (result ≡ Err stop.NoMemory)
      → ((t : FilesTold) → old.told ≡ Some t → Leads t.content c (reads name on) × (new.told ≡ Some (with_failed (failed_read name) t)))
      → Rose old.faults new.faults → Outcome c old new result
  wants : result ≡ Err stop.NoMemory → ((t : FilesTold) → old.told ≡ Some t → new.told ≡ Some t) → new.faults ≡ old.faults → Outcome c old new result

still_told : (old new : FilesAt) → new ≡ old → (t : FilesTold) → old.told ≡ Some t → new.told ≡ Some t
still_told old new same t e = ap (λ (at : FilesAt). at.told) same ∙ e

still_counted : (old new : FilesAt) → new ≡ old → new.faults ≡ old.faults
still_counted old new same = ap (λ (at : FilesAt). at.faults) same

wanting : {V : Type 0} (c : Course V) (old new : FilesAt) (result : Result V Stop) → result ≡ Err stop.NoMemory → new ≡ old → Outcome c old new result
wanting c old new result e same = wants e (still_told old new same) (still_counted old new same)

-- what the bytes lead to, the file leads to
led : {V : Type 0} (name : List ℕ) (on : List ℕ → Course V) (bytes : List ℕ) (old new : FilesAt) (result : Result V Stop)
    → ((t : FilesTold) → old.told ≡ Some t → t.content name ≡ Some bytes) → Outcome (on bytes) old new result → Outcome (reads name on) old new result
led name on bytes old new result held (makes v e told calm) = makes v e (λ t is. (inr (bytes, held t is, (told t is).0), (told t is).1)) calm
led name on bytes old new result held (refuses line e told calm) = refuses line e (λ t is. (inr (bytes, held t is, (told t is).0), (told t is).1)) calm
led name on bytes old new result held (misses other next e told rose) = misses other next e (λ t is. (inr (bytes, held t is, (told t is).0), (told t is).1)) rose
led name on bytes old new result held (wants e told calm) = wants e told calm

failed : {V : Type 0} (name : List ℕ) (on : List ℕ → Course V) (old middle new : FilesAt) (result : Result V Stop) → Reads old middle name (Err file.Failed)
    → (result ≡ Err (stop.Unreadable (unreadable_line name))) ⊎ (result ≡ Err stop.NoMemory) → new ≡ middle → Outcome (reads name on) old new result
failed name on old middle new result has e same =
    misses name on e (λ t is. (inl refl, ap (λ (at : FilesAt). at.told) same ∙ read_tells t old middle name (Err file.Failed) is has))
    (subst (λ (n : ℕ). Rose old.faults n) (sym (still_counted middle new same)) has.1.1)

read_then : {V : Type 0} (name : List ℕ) (on : List ℕ → Course V) (old middle new : FilesAt) (result : Result V Stop) (read : Result (Vec ℕ Global) FileFault)
    → Reads old middle name read → ((bytes : List ℕ) → Follows (on bytes) middle new result → Outcome (on bytes) middle new result)
    → After (λ bytes. Follows (on bytes) middle new result) name middle new result read → Outcome (reads name on) old new result
read_then name on old middle new result (Ok bytes) has more after =
    led name on bytes.items old new result
    (λ t is. subst (λ (o : Option FilesTold). IfSome o (λ (u : FilesTold). u.content name ≡ Some bytes.items)) is has.1)
    (subst (λ (at : FilesAt). Outcome (on bytes.items) at new result) has.0 (more bytes.items after))
read_then name on old middle new result (Err file.Failed) has more after = failed name on old middle new result has after.0 after.1
read_then name on old middle new result (Err file.NoMemory) has more (inl e, same) = wanting (reads name on) old new result e (same ∙ has)
read_then name on old middle new result (Err file.NoMemory) has more (inr e, same) = wanting (reads name on) old new result e (same ∙ has)

pub followed : {V : Type 0} (c : Course V) (old new : FilesAt) (result : Result V Stop) → Follows c old new result → Outcome c old new result
followed (made v) old new result (inl e, same) = makes v e (λ t is. (refl, still_told old new same t is)) (still_counted old new same)
followed (made v) old new result (inr e, same) = wanting (made v) old new result e same
followed (refused line) old new result (inl e, same) = refuses line e (λ t is. (refl, still_told old new same t is)) (still_counted old new same)
followed (refused line) old new result (inr e, same) = wanting (refused line) old new result e same
followed (reads name on) old new result (inl (inl e, same)) = wanting (reads name on) old new result e same
followed (reads name on) old new result (inl (inr e, same)) = wanting (reads name on) old new result e same
followed (reads name on) old new result (inr r) =
    read_then name on old r.middle new result r.read r.has (λ bytes h. followed (on bytes) r.middle new result h) r.after

-- ---- courses one after another, as code follows them

-- an end of another type
abbrev pub ended : {A : Type 0} → Stop → Result A Stop
ended s = Err s

-- memory may be wanting at once
pub follows_wanting : {V : Type 0} (c : Course V) (at : FilesAt) → Follows c at at (Err stop.NoMemory)
follows_wanting (made v) at = (inr refl, refl)
follows_wanting (refused line) at = (inr refl, refl)
follows_wanting (reads name on) at = inl (inl refl, refl)

then_after : {A B : Type 0} (name : List ℕ) (on : List ℕ → Course A) (f : A → Course B) (middle end new : FilesAt) (a : A) (result : Result B Stop) (read : Result (Vec ℕ Global) FileFault)
    → ((bytes : List ℕ) → Follows (on bytes) middle end (Ok a) → Follows (on bytes >>= f) middle new result)
    → After (λ bytes. Follows (on bytes) middle end (Ok a)) name middle end (Ok a) read
    → After (λ bytes. Follows (on bytes >>= f) middle new result) name middle new result read
then_after name on f middle end new a result (Ok bytes) more h = more bytes.items h
then_after name on f middle end new a result (Err file.Failed) more (inl e, same) = absurd (cc)
then_after name on f middle end new a result (Err file.Failed) more (inr e, same) = absurd (cc)
then_after name on f middle end new a result (Err file.NoMemory) more (inl e, same) = absurd (cc)
then_after name on f middle end new a result (Err file.NoMemory) more (inr e, same) = absurd (cc)

-- where the first was followed to a value, and then the next
pub follows_then : {A B : Type 0} (c : Course A) (f : A → Course B) (old middle new : FilesAt) (a : A) (result : Result B Stop)
    → Follows c old middle (Ok a) → Follows (f a) middle new result → Follows (c >>= f) old new result
follows_then {A} {B} (made v) f old middle new a result (inl e, same) next =
    let value : a ≡ v = cc in
    subst (λ (at : FilesAt). Follows (f v) at new result) same (subst (λ (x : A). Follows (f x) middle new result) value next)
follows_then (made v) f old middle new a result (inr e, same) next = absurd (cc)
follows_then (refused line) f old middle new a result (inl e, same) next = absurd (cc)
follows_then (refused line) f old middle new a result (inr e, same) next = absurd (cc)
follows_then (reads name on) f old middle new a result (inl (inl e, same)) next = absurd (cc)
follows_then (reads name on) f old middle new a result (inl (inr e, same)) next = absurd (cc)
follows_then (reads name on) f old middle new a result (inr r) next =
    inr (record {
      read = r.read;
      middle = r.middle;
      has = r.has;
      after = then_after name on f r.middle middle new a result r.read (λ bytes h. follows_then (on bytes) f r.middle middle new a result h next) r.after;
    })

stop_is : (A B : Type 0) (s q : Stop) → ended {A = A} s ≡ ended q → ended {A = B} s ≡ ended q
stop_is A B s q e = let same : s ≡ q = cc in ap (λ (x : Stop). ended {A = B} x) same

wanting_at : (B : Type 0) (c : Course B) (old new : FilesAt) (s : Stop) → s ≡ stop.NoMemory → new ≡ old → Follows c old new (ended {A = B} s)
wanting_at B c old new s e same =
    subst (λ (at : FilesAt). Follows c old at (ended {A = B} s)) (sym same)
    (subst (λ (x : Stop). Follows c old old (ended {A = B} x)) (sym e) (follows_wanting c old))

stop_after : (A B : Type 0) (name : List ℕ) (on : List ℕ → Course A) (f : A → Course B) (middle new : FilesAt) (s : Stop) (read : Result (Vec ℕ Global) FileFault)
    → ((bytes : List ℕ) → Follows (on bytes) middle new (ended {A = A} s) → Follows (on bytes >>= f) middle new (ended {A = B} s))
    → After (λ bytes. Follows (on bytes) middle new (ended {A = A} s)) name middle new (ended {A = A} s) read
    → After (λ bytes. Follows (on bytes >>= f) middle new (ended {A = B} s)) name middle new (ended {A = B} s) read
stop_after A B name on f middle new s (Ok bytes) more h = more bytes.items h
stop_after A B name on f middle new s (Err file.Failed) more (inl e, same) = (inl (stop_is A B s (stop.Unreadable (unreadable_line name)) e), same)
stop_after A B name on f middle new s (Err file.Failed) more (inr e, same) = (inr (stop_is A B s stop.NoMemory e), same)
stop_after A B name on f middle new s (Err file.NoMemory) more (inl e, same) = (inl (stop_is A B s stop.NoMemory e), same)
stop_after A B name on f middle new s (Err file.NoMemory) more (inr e, same) = (inr (stop_is A B s stop.NoMemory e), same)

-- where the first came to an early end
pub follows_stop : (A B : Type 0) (c : Course A) (f : A → Course B) (old new : FilesAt) (s : Stop) → Follows c old new (ended {A = A} s) → Follows (c >>= f) old new (ended {A = B} s)
follows_stop A B (made v) f old new s (inl e, same) = absurd (cc)
follows_stop A B (made v) f old new s (inr e, same) = wanting_at B (f v) old new s (let is : s ≡ stop.NoMemory = cc in is) same
follows_stop A B (refused line) f old new s (inl e, same) = (inl (stop_is A B s (stop.Refused line) e), same)
follows_stop A B (refused line) f old new s (inr e, same) = (inr (stop_is A B s stop.NoMemory e), same)
follows_stop A B (reads name on) f old new s (inl (inl e, same)) = inl (inl (stop_is A B s stop.NoMemory e), same)
follows_stop A B (reads name on) f old new s (inl (inr e, same)) = inl (inr (stop_is A B s stop.NoMemory e), same)
follows_stop A B (reads name on) f old new s (inr r) =
    inr (record {
      read = r.read;
      middle = r.middle;
      has = r.has;
      after = stop_after A B name on f r.middle new s r.read (λ bytes h. follows_stop A B (on bytes) f r.middle new s h) r.after;
    })

-- ---- laws of courses

pub then_made : {A : Type 0} (c : Course A) → (c >>= made) ≡ c
then_made (made v) = refl
then_made (refused line) = refl
then_made (reads name on) = λ i. reads name (λ bytes. then_made (on bytes) i)

pub then_then : {A B C : Type 0} (c : Course A) (f : A → Course B) (g : B → Course C) → ((c >>= f) >>= g) ≡ (c >>= (λ x. f x >>= g))
then_then (made v) f g = refl
then_then (refused line) f g = refl
then_then (reads name on) f g = λ i. reads name (λ bytes. then_then (on bytes) f g i)
