-- A list of courses that is followed item by item.
use Rattle.std.proofs.Common.{◌≡◌, ℕ, ◌+◌, ◌<◌, inl, List, [], ◌∷◌, ◌++◌, length, get_or, drop, refl, sym, ap, subst, ◌∙◌, append_assoc}
use Rattle.std.proofs.lemmas.List.{append-nil, drop_more}
use Rattle.std.specs.Prelude.{Result, Ok}
use Rattle.exit_status.specs.Ends.{FilesAt}
use Rattle.exit_status.specs.declared.stops.Stop.{Stop}
use Rattle.exit_status.specs.declared.stops.Stop.TheVariants as stop
use Rattle.farm_files.specs.Course.{Course, made, ◌>>=◌, each}
use Rattle.farm_files.specs.inner.Follows.{Follows}
use Rattle.farm_files.proofs.Courses.{ended, follows_wanting, follows_then, follows_stop, then_made, then_then}

-- the courses of the items left, after what those before have made
abbrev pub each_from : {A V : Type 0} → (A → Course V) → List V → List A → Course (List V)
each_from course before [] = made before
each_from course before (x ∷ xs) = course x >>= λ y. each_from course (before ++ y ∷ []) xs

step : {A V : Type 0} (course : A → Course V) (before : List V) (xs : List A) (y : V)
    → each_from course (before ++ y ∷ []) xs ≡ (each course xs >>= λ ys. made ((before ++ y ∷ []) ++ ys))
    → each_from course (before ++ y ∷ []) xs ≡ ((each course xs >>= λ ys. made (y ∷ ys)) >>= λ ys. made (before ++ ys))
step course before xs y own =
    own
    ∙ (λ i. each course xs >>= λ ys. made (append_assoc before (y ∷ []) ys i))
    ∙ sym (then_then (each course xs) (λ ys. made (y ∷ ys)) (λ ys. made (before ++ ys)))

-- it is what all have made, behind those before
from_each : {A V : Type 0} (course : A → Course V) (before : List V) (xs : List A) → each_from course before xs ≡ (each course xs >>= λ ys. made (before ++ ys))
from_each course before [] = ap made (sym (append-nil before))
from_each course before (x ∷ xs) =
    (λ i. course x >>= λ y. step course before xs y (from_each course (before ++ y ∷ []) xs) i)
    ∙ sym (then_then (course x) (λ y. each course xs >>= λ ys. made (y ∷ ys)) (λ ys. made (before ++ ys)))

-- from the beginning it is what all make
pub each_all : {A V : Type 0} (course : A → Course V) (xs : List A) → each_from course [] xs ≡ each course xs
each_all course xs = from_each course [] xs ∙ then_made (each course xs)

-- what the items left follow, all follow
abbrev pub Goes : {A V : Type 0} → (A → Course V) → List A → List V → List A → FilesAt → FilesAt → Type 0
Goes {A} {V} course all before left old middle =
    (end : FilesAt) → (result : Result (List V) Stop) → Follows (each_from course before left) middle end result → Follows (each_from course [] all) old end result

pub each_more : {A V : Type 0} (course : A → Course V) (all : List A) (loaded more : List V) (i : ℕ) (x : A) (y : V) (old middle new : FilesAt)
    → i < length all → x ≡ get_or all i x → more ≡ loaded ++ y ∷ [] → Goes course all loaded (drop i all) old middle → Follows (course x) middle new (Ok y)
    → Goes course all more (drop (i + 1) all) old new
each_more {A} {V} course all loaded more i x y old middle new small at pushed goes followed end result h =
    goes end result
    (subst (λ (xs : List A). Follows (each_from course loaded xs) middle end result) (ap (λ (y : A). y ∷ drop (i + 1) all) at ∙ sym (drop_more all i x small))
    (follows_then (course x) (λ z. each_from course (loaded ++ z ∷ []) (drop (i + 1) all)) middle new end y result followed
    (subst (λ (b : List V). Follows (each_from course b (drop (i + 1) all)) new end result) pushed h)))

pub each_done : {A V : Type 0} (course : A → Course V) (all left : List A) (loaded : List V) (old new : FilesAt) → left ≡ [] → Goes course all loaded left old new
    → Follows (each course all) old new (Ok loaded)
each_done {A} {V} course all left loaded old new none goes =
    subst (λ (c : Course (List V)). Follows c old new (Ok loaded)) (each_all course all)
    (goes new (Ok loaded) (subst (λ (xs : List A). Follows (each_from course loaded xs) new new (Ok loaded)) (sym none) (inl refl, refl)))

pub each_stops : {A : Type 0} (V : Type 0) (course : A → Course V) (all : List A) (loaded : List V) (i : ℕ) (x : A) (s : Stop) (old middle new : FilesAt)
    → i < length all → x ≡ get_or all i x → Goes course all loaded (drop i all) old middle → Follows (course x) middle new (ended {A = V} s)
    → Follows (each course all) old new (ended {A = List V} s)
each_stops {A} V course all loaded i x s old middle new small at goes followed =
    subst (λ (c : Course (List V)). Follows c old new (ended {A = List V} s)) (each_all course all)
    (goes new (ended {A = List V} s)
    (subst (λ (xs : List A). Follows (each_from course loaded xs) middle new (ended {A = List V} s)) (ap (λ (y : A). y ∷ drop (i + 1) all) at ∙ sym (drop_more all i x small))
    (follows_stop V (List V) (course x) (λ z. each_from course (loaded ++ z ∷ []) (drop (i + 1) all)) middle new s followed)))

pub each_wanting : {A : Type 0} (V : Type 0) (course : A → Course V) (all : List A) (loaded : List V) (i : ℕ) (x : A) (y : V) (old middle new : FilesAt)
    → i < length all → x ≡ get_or all i x → Goes course all loaded (drop i all) old middle → Follows (course x) middle new (Ok y)
    → Follows (each course all) old new (ended {A = List V} stop.NoMemory)
each_wanting {A} V course all loaded i x y old middle new small at goes followed =
    subst (λ (c : Course (List V)). Follows c old new (ended {A = List V} stop.NoMemory)) (each_all course all)
    (goes new (ended {A = List V} stop.NoMemory)
    (subst (λ (xs : List A). Follows (each_from course loaded xs) middle new (ended {A = List V} stop.NoMemory)) (ap (λ (y : A). y ∷ drop (i + 1) all) at ∙ sym (drop_more all i x small))
    (follows_then (course x) (λ z. each_from course (loaded ++ z ∷ []) (drop (i + 1) all)) middle new new y (ended {A = List V} stop.NoMemory) followed
    (follows_wanting (each_from course (loaded ++ y ∷ []) (drop (i + 1) all)) new))))
