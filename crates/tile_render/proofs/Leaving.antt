-- Features that are not asked for are left out, and what is drawn stays the same.
use Rattle.std.proofs.Common.{◌≡◌, ℕ, true, List, [], ◌∷◌, ◌++◌, map, fold, refl, ap, sym, ◌∙◌, subst, append_assoc, arith}
use Rattle.std.specs.Prelude.{All, Option, Some, None, IfSome, bit_or}
use Rattle.std.specs.Int.{bit_at}
use Rattle.std.proofs.lemmas.Bool.{true≢false}
use Rattle.std.proofs.lemmas.Bool.Decides.{nat_tests}
use Rattle.std.proofs.lemmas.Grind.{fold-append}
use Rattle.std.proofs.lemmas.List.Folds.{fold-map}
use Rattle.std.proofs.lemmas.List.Elements.{All-head, All-tail}
use Rattle.attribute_marks.proofs.Bits.{kept}
use Rattle.plain_world.specs.declared.world.Window.{Window}
use Rattle.plain_shapes.specs.Features.{Feature}
use Rattle.plain_shapes.specs.Images.{Pixels}
use Rattle.plain_drawing.specs.Drawing.{feature}
use Rattle.plain_drawing.specs.inner.Pictures.{with_item}
use Rattle.data_versions.specs.Near.{IsUnasked, Walk, IsNext, IsEnd}
use Rattle.tile_render.specs.inner.Chosen.{Scaled, PassesOver, LeavesAll}
use Rattle.tile_render.specs.inner.Nearby.{DrawAlike, serves}
use Rattle.tile_render.proofs.Passing.{passed_item}

-- features that are not asked for draw nothing
unasked_stay : (asked : Option ℕ) (draw : Pixels → Feature → Pixels) → ((f : Feature) → IsUnasked asked f → (image : Pixels) → draw image f ≡ image)
    → (features : List Feature) → All (IsUnasked asked) features → (image : Pixels) → fold draw image features ≡ image
unasked_stay asked draw still [] all image = refl
unasked_stay asked draw still (f ∷ features) all image =
    ap (λ i. fold draw i features) (still f (All-head (IsUnasked asked) f features all) image)
    ∙ unasked_stay asked draw still features (All-tail (IsUnasked asked) f features all) image

-- the next one of a walk is listed
pub alike_more : (old new : Walk) (f : Feature) (listed all : List Feature) → IsNext old f new → DrawAlike old.asked (listed ++ old.left) all
    → DrawAlike new.asked ((listed ++ f ∷ []) ++ new.left) all
alike_more old new f listed all next alike = subst (λ a. DrawAlike a ((listed ++ f ∷ []) ++ new.left) all) (sym next.asked) (λ draw still image.
    let start : Pixels = fold draw image listed in
    ap (fold draw image) (append_assoc listed (f ∷ []) new.left) ∙ fold-append draw image listed (f ∷ new.left)
    ∙ ap (λ i. fold draw i (f ∷ new.left)) (sym (unasked_stay old.asked draw still next.before next.unasked start))
    ∙ sym (fold-append draw start next.before (f ∷ new.left)) ∙ ap (fold draw start) (sym next.order)
    ∙ sym (fold-append draw image listed old.left) ∙ alike draw still image)

-- all of a walk are listed
pub alike_end : (old new : Walk) (listed all : List Feature) → IsEnd old new → DrawAlike old.asked (listed ++ old.left) all → DrawAlike old.asked listed all
alike_end old new listed all end alike draw still image =
    sym (unasked_stay old.asked draw still old.left end.unasked (fold draw image listed)) ∙ sym (fold-append draw image listed old.left) ∙ alike draw still image

-- the order of what is left
pub left_drawn : (w : Window) (s : Scaled) (old new : Walk) (f : Feature) (now after : Pixels) → IsNext old f new
    → ((f : Feature) → IsUnasked old.asked f → LeavesAll w s (feature f)) → after ≡ with_item w s.denominator s.style now (feature f)
    → fold (with_item w s.denominator s.style) after (map feature new.left) ≡ fold (with_item w s.denominator s.style) now (map feature old.left)
left_drawn w s old new f now after next still step =
    let draw : Pixels → Feature → Pixels = λ i f. with_item w s.denominator s.style i (feature f) in
    fold-map (with_item w s.denominator s.style) feature after new.left ∙ ap (λ i. fold draw i new.left) step
    ∙ ap (λ i. fold draw i (f ∷ new.left)) (sym (unasked_stay old.asked draw still next.before next.unasked now))
    ∙ sym (fold-append draw now next.before (f ∷ new.left)) ∙ ap (fold draw now) (sym next.order)
    ∙ sym (fold-map (with_item w s.denominator s.style) feature now old.left)

pub none_left : (w : Window) (s : Scaled) (old new : Walk) (now : Pixels) → IsEnd old new → ((f : Feature) → IsUnasked old.asked f → LeavesAll w s (feature f))
    → now ≡ fold (with_item w s.denominator s.style) now (map feature old.left)
none_left w s old new now end still =
    sym (fold-map (with_item w s.denominator s.style) feature now old.left
    ∙ unasked_stay old.asked (λ i f. with_item w s.denominator s.style i (feature f)) still old.left end.unasked now)

-- a style leaves each picture as it is, where it draws what it does not ask for
pub unasked_leave : (asked : Option ℕ) (w : Window) (s : Scaled) → IfSome asked (λ a. PassesOver a s.denominator s.style) → (f : Feature) → IsUnasked asked f
    → LeavesAll w s (feature f)
unasked_leave None w s passes f unasked = absurd unasked
unasked_leave (Some asked) w s passes f unasked = passed_item w s f (passes f.attrs unasked)

-- what is listed draws what all do
pub listed_drawn : (asked : Option ℕ) (w : Window) (s : Scaled) (image : Pixels) (these those : List Feature) → DrawAlike asked these those
    → IfSome asked (λ a. PassesOver a s.denominator s.style)
    → fold (with_item w s.denominator s.style) image (map feature these) ≡ fold (with_item w s.denominator s.style) image (map feature those)
listed_drawn asked w s image these those alike passes =
    fold-map (with_item w s.denominator s.style) feature image these
    ∙ alike (λ i f. with_item w s.denominator s.style i (feature f)) (unasked_leave asked w s passes) image
    ∙ sym (fold-map (with_item w s.denominator s.style) feature image those)

-- what is kept for some marks and has none of them has none of those that it serves
unasked_served : (kept asked : Option ℕ) → serves kept asked ≡ true → (f : Feature) → IsUnasked kept f → IsUnasked asked f
unasked_served None asked is f unasked = absurd unasked
unasked_served (Some kept) None is f unasked = absurd (true≢false (sym is))
unasked_served (Some all) (Some asked) is f unasked =
    let within : bit_or asked all ≡ all = grind (arith, nat_tests) in record {
      marks = unasked.marks;
      has = unasked.has;
      none = λ s. unasked.none (record { mark = s.mark; there = s.there; is_asked = subst (λ n. bit_at n s.mark ≡ 1) within (kept asked all s.mark s.is_asked) });
    }

pub alike_served : (kept asked : Option ℕ) (these those : List Feature) → serves kept asked ≡ true → DrawAlike kept these those → DrawAlike asked these those
alike_served kept asked these those is alike draw still image = alike draw (λ f unasked. still f (unasked_served kept asked is f unasked)) image
