-- Surfaces on which pixels are covered one shape after another, by what that does to masks.
use Rattle.std.proofs.Common.{◌≡◌, ℕ, ◌+◌, ◌<◌, ◌≤◌, Bool, false, ◌||◌, List, length, take, get_or}
use Rattle.std.specs.List.{list_any}
use Rattle.plain_world.specs.declared.world.Point.{Point}
use Rattle.plain_world.specs.declared.world.Window.{Window}
use Rattle.plain_shapes.specs.Images.{Bits}
use Rattle.plain_shapes.proofs.Places.{mask_start, mask_more, mask_all, Left, left_start, left_more, left_end, both_marks, same_mark, no_mark}
use Rattle.plain_image.specs.Surfaces.{Becomes, Marks}

-- two changes, one after another
pub becomes_both : {S : Type 0} (shows : S → S → Bits → Type 0) (P Q R : Bits → Bits → Type 0) (old now next : S)
    → ((a b c : Bits) → P a b → Q b c → R a c) → Becomes shows P old now → Becomes shows Q now next → Becomes shows R old next
becomes_both shows P Q R old now next both first second =
    λ start bits s.
    (let p = first start bits s in
    let q = second start p.bits p.shown in
    record { bits = q.bits; shown = q.shown; is = both bits p.bits q.bits p.is q.is })

-- of a change more is said
pub becomes_same : {S : Type 0} (shows : S → S → Bits → Type 0) (P R : Bits → Bits → Type 0) (old now : S)
    → ((a b : Bits) → P a b → R a b) → Becomes shows P old now → Becomes shows R old now
becomes_same shows P R old now more first =
    λ start bits s. (let p = first start bits s in record { bits = p.bits; shown = p.shown; is = more bits p.bits p.is })

-- no change
pub becomes_none : {S : Type 0} (shows : S → S → Bits → Type 0) (R : Bits → Bits → Type 0) (old : S) → ((a : Bits) → R a a) → Becomes shows R old old
becomes_none shows R old same = λ start bits s. record { bits = bits; shown = s; is = same bits }

-- a surface before the first of several shapes, with one shape more, and with all of them
pub marks_start : {S X : Type 0} (shows : S → S → Bits → Type 0) (f : Point → X → Bool) (xs : List X) (w : Window) (old : S)
    → Marks shows (λ c. list_any (f c) (take 0 xs)) w old old
marks_start shows f xs w old = becomes_none shows _ old (λ a. mask_start f xs w a)

pub marks_more : {S X : Type 0} (shows : S → S → Bits → Type 0) (f : Point → X → Bool) (xs : List X) (i : ℕ) (x d : X) (w : Window) (old now next : S)
    → i < length xs → x ≡ get_or xs i d → Marks shows (λ c. list_any (f c) (take i xs)) w old now → Marks shows (λ c. f c x) w now next
    → Marks shows (λ c. list_any (f c) (take (i + 1) xs)) w old next
marks_more shows f xs i x d w old now next lt is before step =
    becomes_both shows _ _ _ old now next (λ a b c p q. mask_more f xs i x d w a b c lt is p q) before step

pub marks_all : {S X : Type 0} (shows : S → S → Bits → Type 0) (f : Point → X → Bool) (xs : List X) (i : ℕ) (w : Window) (old now : S) → length xs ≤ i
    → Marks shows (λ c. list_any (f c) (take i xs)) w old now → Marks shows (λ c. list_any (f c) xs) w old now
marks_all shows f xs i w old now le r = becomes_same shows _ _ old now (λ a b p. mask_all f xs i w a b le p) r

-- what is left to mark makes the whole of it
abbrev pub Remains : {S : Type 0} → (S → S → Bits → Type 0) → (Point → Bool) → (Point → Bool) → Window → S → S → Type 0
Remains shows left whole w old now = Becomes shows (λ a b. Left left whole w a b) old now

pub remains_start : {S : Type 0} (shows : S → S → Bits → Type 0) (whole : Point → Bool) (w : Window) (old : S) → Remains shows whole whole w old old
remains_start shows whole w old = becomes_none shows _ old (λ a. left_start whole w a)

pub remains_more : {S : Type 0} (shows : S → S → Bits → Type 0) (left m rest whole : Point → Bool) (w : Window) (old now next : S)
    → ((c : Point) → left c ≡ (m c || rest c)) → Marks shows m w now next → Remains shows left whole w old now → Remains shows rest whole w old next
remains_more shows left m rest whole w old now next split step r =
    becomes_both shows _ _ _ old now next (λ a b c p q. left_more left m rest whole w a b c split q p) r step

pub remains_end : {S : Type 0} (shows : S → S → Bits → Type 0) (left whole : Point → Bool) (w : Window) (old now : S) → ((c : Point) → left c ≡ false)
    → Remains shows left whole w old now → Marks shows whole w old now
remains_end shows left whole w old now none r = becomes_same shows _ _ old now (λ a b p. left_end left whole w a b none p) r

-- two marks one after another, a mark by a test that says the same, and no mark
pub marks_both : {S : Type 0} (shows : S → S → Bits → Type 0) (m n : Point → Bool) (w : Window) (old now next : S)
    → Marks shows m w old now → Marks shows n w now next → Marks shows (λ c. m c || n c) w old next
marks_both shows m n w old now next a b = becomes_both shows _ _ _ old now next (λ x y z p q. both_marks m n w x y z p q) a b

pub marks_same : {S : Type 0} (shows : S → S → Bits → Type 0) (m n : Point → Bool) (w : Window) (old now : S) → ((c : Point) → m c ≡ n c)
    → Marks shows m w old now → Marks shows n w old now
marks_same shows m n w old now same a = becomes_same shows _ _ old now (λ x y p. same_mark m n w x y same p) a

pub marks_none : {S : Type 0} (shows : S → S → Bits → Type 0) (m : Point → Bool) (w : Window) (old : S) → ((c : Point) → m c ≡ false) → Marks shows m w old old
marks_none shows m w old none = becomes_none shows _ old (λ a. no_mark m w a none)
