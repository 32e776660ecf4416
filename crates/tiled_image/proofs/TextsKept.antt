-- Bytes that are those of some tiles, where one of the tiles is read and where it is painted.
use Rattle.std.proofs.Common.{◌≡◌, ℕ, suc, ◌+◌, ◌*◌, ◌^◌, ◌<◌, ◌≤◌, List, [], ◌++◌, length, take, drop, set, get_or, map, replicate, flat_map, ap, sym, subst, ◌∙◌, arith, append_assoc, length-append, Some}
use Rattle.std.specs.Prelude.{slice_get}
use Rattle.std.specs.List.{All}
use Rattle.std.proofs.lemmas.List.{take_all, drop_at, length-drop, length-take-le, length-set, set-get_or, take-append-drop, get_or-append-add, get_or_append_left, length-map, length-replicate, with_items_is}
use Rattle.std.proofs.lemmas.List.Elements.{All-set, All-get_or, All-replicate}
use Rattle.std.specs.Vec.{with_items}
use Rattle.std.specs.declared.vec.Vec.{Vec}
use Rattle.std.proofs.Math.Nat.{mul-le-mul_right}
use borrow.Rule.Slice.PartMut.{put_mid, same_len_mid}
use Rattle.plain_shapes.specs.declared.colour.Colour.{Colour}
use Rattle.plain_shapes.specs.Ppm.{pixel_bytes}
use Rattle.plain_drawing.specs.Drawing.{pixels_text}
use Rattle.plain_image.specs.PpmText.{colours}
use Rattle.plain_image.specs.Runs.{run_changed}
use Rattle.plain_image.proofs.Bytes.{at_bytes, colours_written, length_written, thirds}
use Rattle.plain_image.proofs.Runs.{run_length}
use Rattle.plain_drawing.proofs.TileTexts.{text_parts, length_text, few_bytes}
use Rattle.tiled_image.specs.inner.Written.{tiles_in, AreTexts}
use Rattle.tiled_image.proofs.TextsAround.{around, even, parsed, tiles_count, tiles_whole, copies_of}
use Rattle.tiled_image.proofs.TextsRuns.{regroup, between, put_between}

-- the text of a tile is as long as its head and its pixels
pub text_length : (side : ℕ) (t : List Colour) → length t ≡ side * side → length (pixels_text side side t) ≡ length (pixels_text side side []) + side * side * 3
text_length side t whole =
    ap length (text_parts side side t) ∙ length-append (pixels_text side side []) (flat_map pixel_bytes t) ∙ ap (λ n. length (pixels_text side side []) + n) (length_written t ∙ ap (λ n. n * 3) whole)

-- and so are those of some tiles
texts_length : (side i : ℕ) (ts : List (List Colour)) → All (λ t. length t ≡ side * side) ts → i ≤ length ts
    → length (flat_map (pixels_text side side) (take i ts)) ≡ i * (length (pixels_text side side []) + side * side * 3)
texts_length side i ts all few =
    even (pixels_text side side) (length (pixels_text side side []) + side * side * 3) i ts (λ k d within. text_length side (get_or ts k d) (all k d within)) few

-- the texts of whole tiles behind other bytes are read back as these tiles
pub made : (before side count head : ℕ) (front next : List ℕ) (ts : List (List Colour)) → before ≤ 2 ^ 16 → 1 ≤ side → side ≤ 512 → count ≤ 64 → head ≡ length (pixels_text side side [])
    → length front ≡ before → All (λ t. length t ≡ side * side) ts → length ts ≡ count → next ≡ front ++ flat_map (pixels_text side side) ts
    → AreTexts before side count head next × (tiles_in head (side * side) count (drop before next) ≡ ts)
made before side count head front next ts room some small few head_is len all many is =
    let texts : List ℕ = flat_map (pixels_text side side) ts in
    let behind : drop before next ≡ texts = ap (λ bs. drop before bs) is ∙ drop_at front texts before len in
    let read : tiles_in head (side * side) count (drop before next) ≡ ts =
    ap (λ bs. tiles_in head (side * side) count bs) behind
    ∙ ap (λ h. tiles_in h (side * side) count texts) head_is
    ∙ ap (λ n. tiles_in (length (pixels_text side side [])) (side * side) n texts) (sym many)
    ∙ parsed (pixels_text side side) (pixels_text side side []) (text_parts side side) (side * side) ts all in
    let all_of : take (length ts) ts ≡ ts = take_all (length ts) ts (omega arith) in
    let size : length texts ≡ count * (head + side * side * 3) =
    ap (λ us. length (flat_map (pixels_text side side) us)) (sym all_of)
    ∙ texts_length side (length ts) ts all (omega arith)
    ∙ ap (λ n. n * (length (pixels_text side side []) + side * side * 3)) many
    ∙ ap (λ h. count * (h + side * side * 3)) (sym head_is) in
    let sum : length next ≡ length front + length texts = ap length is ∙ length-append front texts in (
      record {
        room = room;
        some = some;
        small = small;
        few = few;
        before_fits = omega arith;
        head_is = head_is;
        pixels = sum ∙ ap (λ n. n + length texts) len ∙ ap (λ n. before + n) size;
        kept = behind ∙ ap (λ us. flat_map (pixels_text side side) us) (sym read);
      },
      read,
    )

-- what stands before the pixels of a tile
abbrev before_tile : ℕ → ℕ → List ℕ → List (List Colour) → ℕ → List ℕ
before_tile before side bytes ts tile = take before bytes ++ (flat_map (pixels_text side side) (take tile ts) ++ pixels_text side side [])

before_length : (before side count head : ℕ) (bytes : List ℕ) (ts : List (List Colour)) (tile : ℕ) → AreTexts before side count head bytes → All (λ t. length t ≡ side * side) ts → tile ≤ length ts
    → length (before_tile before side bytes ts tile) ≡ before + tile * (head + side * side * 3) + head
before_length before side count head bytes ts tile are all lt =
    let texts : List ℕ = flat_map (pixels_text side side) (take tile ts) in
    let behind : List ℕ = texts ++ pixels_text side side [] in
    let size : length texts ≡ tile * (head + side * side * 3) = texts_length side tile ts all lt ∙ ap (λ h. tile * (h + side * side * 3)) (sym are.head_is) in
    let parts : length (take before bytes ++ behind) ≡ length (take before bytes) + length behind = length-append (take before bytes) behind in
    let two : length behind ≡ length texts + length (pixels_text side side []) = length-append texts (pixels_text side side []) in
    let first : length (take before bytes) ≡ before = length-take-le before bytes are.before_fits in
    parts ∙ ap (λ n. n + length behind) first ∙ ap (λ n. before + n) (two ∙ ap (λ n. n + length (pixels_text side side [])) size ∙ ap (λ n. tile * (head + side * side * 3) + n) (sym are.head_is)) ∙ omega arith

-- whatever is put in the place of a tile stands behind that
put_there : (before side : ℕ) (bytes : List ℕ) (ts : List (List Colour)) (tile : ℕ) (t : List Colour) → tile < length ts
    → take before bytes ++ flat_map (pixels_text side side) (set ts tile t) ≡ before_tile before side bytes ts tile ++ (flat_map pixel_bytes t ++ flat_map (pixels_text side side) (drop (suc tile) ts))
put_there before side bytes ts tile t lt =
    ap (λ bs. take before bytes ++ bs) (around (pixels_text side side) (λ u. flat_map pixel_bytes u) (pixels_text side side []) (text_parts side side) tile ts t lt)
    ∙ sym (append_assoc (take before bytes) (flat_map (pixels_text side side) (take tile ts) ++ pixels_text side side []) (flat_map pixel_bytes t ++ flat_map (pixels_text side side) (drop (suc tile) ts)))

-- as the tile itself does
stands : (before side count head : ℕ) (bytes : List ℕ) (ts : List (List Colour)) (tile : ℕ) → AreTexts before side count head bytes → tiles_in head (side * side) count (drop before bytes) ≡ ts
    → tile < length ts → bytes ≡ before_tile before side bytes ts tile ++ (flat_map pixel_bytes (get_or ts tile []) ++ flat_map (pixels_text side side) (drop (suc tile) ts))
stands before side count head bytes ts tile are read lt =
    sym (take-append-drop before bytes)
    ∙ ap (λ bs. take before bytes ++ bs) (are.kept ∙ ap (λ us. flat_map (pixels_text side side) us) (read ∙ sym (set-get_or ts tile [])))
    ∙ put_there before side bytes ts tile (get_or ts tile []) lt

-- the tiles are whole
pub whole_in : (before side count head : ℕ) (bytes : List ℕ) (ts : List (List Colour)) → AreTexts before side count head bytes → tiles_in head (side * side) count (drop before bytes) ≡ ts
    → All (λ t. length t ≡ side * side) ts × (length ts ≡ count)
whole_in before side count head bytes ts are read =
    let size : length (drop before bytes) ≡ count * (head + side * side * 3) = omega (arith, length-drop before bytes, are.pixels) in
    subst (λ us. All (λ t. length t ≡ side * side) us × (length us ≡ count)) read
    (tiles_whole head (side * side) count (drop before bytes) size, tiles_count head (side * side) count (drop before bytes))

-- the colour at a place
pub colour_there : (before side count head : ℕ) (bytes : List ℕ) (ts : List (List Colour)) (tile k r g b : ℕ) → AreTexts before side count head bytes
    → tiles_in head (side * side) count (drop before bytes) ≡ ts → tile < length ts → k < side * side
    → r ≡ get_or bytes (before + tile * (head + side * side * 3) + head + k * 3) r
    → g ≡ get_or bytes (before + tile * (head + side * side * 3) + head + k * 3 + 1) g
    → b ≡ get_or bytes (before + tile * (head + side * side * 3) + head + k * 3 + 2) b → slice_get (get_or ts tile []) k ≡ Some (record { r = r; g = g; b = b })
colour_there before side count head bytes ts tile k r g b are read lt inside x y z =
    let own = whole_in before side count head bytes ts are read in
    let front : List ℕ = before_tile before side bytes ts tile in
    let back : List ℕ = flat_map (pixels_text side side) (drop (suc tile) ts) in
    let t : List Colour = get_or ts tile [] in
    let place : length front ≡ before + tile * (head + side * side * 3) + head = before_length before side count head bytes ts tile are own.0 (omega arith) in
    let size : length t ≡ side * side = All-get_or (λ t. length t ≡ side * side) ts tile [] lt own.0 in
    let three : length (flat_map pixel_bytes t) ≡ length t * 3 = length_written t in
    let at : (i j d : ℕ) → i ≡ length front + j → j < length (flat_map pixel_bytes t) → get_or bytes i d ≡ get_or (flat_map pixel_bytes t) j d =
    λ i j d e within.
    ap (λ bs. get_or bs i d) (stands before side count head bytes ts tile are read lt) ∙ ap (λ n. get_or (front ++ (flat_map pixel_bytes t ++ back)) n d) e
    ∙ get_or-append-add front (flat_map pixel_bytes t ++ back) j d ∙ get_or_append_left (flat_map pixel_bytes t) back d j within in
    at_bytes t k r g b (omega arith) (x ∙ at _ (k * 3) r (omega arith) (omega arith)) (y ∙ at _ (k * 3 + 1) g (omega arith) (omega arith)) (z ∙ at _ (k * 3 + 2) b (omega arith) (omega arith))

-- what stands before a run of a tile, and what behind it
abbrev run_front : ℕ → ℕ → List ℕ → List (List Colour) → ℕ → ℕ → List ℕ
run_front before side bytes ts tile start = before_tile before side bytes ts tile ++ flat_map pixel_bytes (take start (get_or ts tile []))

abbrev run_back : ℕ → List (List Colour) → ℕ → ℕ → ℕ → List ℕ
run_back side ts tile start n = flat_map pixel_bytes (drop n (drop start (get_or ts tile []))) ++ flat_map (pixels_text side side) (drop (suc tile) ts)

-- a run of a tile stands between these
record RunIn (before side head : ℕ) (bytes : List ℕ) (ts : List (List Colour)) (tile start n : ℕ) : Type 0 where
  is : bytes ≡ run_front before side bytes ts tile start ++ (flat_map pixel_bytes (take n (drop start (get_or ts tile []))) ++ run_back side ts tile start n)
  place : length (run_front before side bytes ts tile start) ≡ before + tile * (head + side * side * 3) + head + start * 3
  size : length (flat_map pixel_bytes (take n (drop start (get_or ts tile [])))) ≡ n * 3

run_in : (before side count head : ℕ) (bytes : List ℕ) (ts : List (List Colour)) (tile start n : ℕ) → AreTexts before side count head bytes
    → tiles_in head (side * side) count (drop before bytes) ≡ ts → tile < length ts → start + n ≤ side * side → RunIn before side head bytes ts tile start n
run_in before side count head bytes ts tile start n are read lt inside =
    let own = whole_in before side count head bytes ts are read in
    let front : List ℕ = before_tile before side bytes ts tile in
    let back : List ℕ = flat_map (pixels_text side side) (drop (suc tile) ts) in
    let t : List Colour = get_or ts tile [] in
    let x : List Colour = take start t in
    let m : List Colour = take n (drop start t) in
    let y : List Colour = drop n (drop start t) in
    let size : length t ≡ side * side = All-get_or (λ t. length t ≡ side * side) ts tile [] lt own.0 in
    let parts : x ++ m ++ y ≡ t = append_assoc x m y ∙ ap (λ us. x ++ us) (take-append-drop n (drop start t)) ∙ take-append-drop start t in
    let starts : length front ≡ before + tile * (head + side * side * 3) + head = before_length before side count head bytes ts tile are own.0 (omega arith) in
    let x_size : length (flat_map pixel_bytes x) ≡ start * 3 = length_written x ∙ ap (λ k. k * 3) (length-take-le start t (omega arith)) in
    record {
      is = stands before side count head bytes ts tile are read lt ∙ ap (λ u. front ++ (flat_map pixel_bytes u ++ back)) (sym parts) ∙ regroup front back x m y;
      place = length-append front (flat_map pixel_bytes x) ∙ ap (λ k. k + length (flat_map pixel_bytes x)) starts ∙ ap (λ k. before + tile * (head + side * side * 3) + head + k) x_size;
      size = length_written m ∙ ap (λ k. k * 3) (length-take-le n (drop start t) (omega (arith, length-drop start t)));
    }

-- the bytes of a run
pub run_there : (before side count head : ℕ) (bytes : List ℕ) (ts : List (List Colour)) (tile start n : ℕ) → AreTexts before side count head bytes
    → tiles_in head (side * side) count (drop before bytes) ≡ ts → tile < length ts → start + n ≤ side * side
    → take (n * 3) (drop (before + tile * (head + side * side * 3) + head + start * 3) bytes) ≡ flat_map pixel_bytes (take n (drop start (get_or ts tile [])))
run_there before side count head bytes ts tile start n are read lt inside =
    let at : ℕ = before + tile * (head + side * side * 3) + head + start * 3 in
    let r : RunIn before side head bytes ts tile start n = run_in before side count head bytes ts tile start n are read lt inside in
    ap (λ bs. take (n * 3) (drop at bs)) r.is
    ∙ between (run_front before side bytes ts tile start) (flat_map pixel_bytes (take n (drop start (get_or ts tile [])))) (run_back side ts tile start n) at (n * 3) r.place r.size

-- a run painted
pub painted : (before side count head : ℕ) (bytes old new next : List ℕ) (ts : List (List Colour)) (f : Colour → Colour) (tile start n : ℕ) → AreTexts before side count head bytes
    → tiles_in head (side * side) count (drop before bytes) ≡ ts → tile < length ts → start + n ≤ side * side
    → old ≡ take (n * 3) (drop (before + tile * (head + side * side * 3) + head + start * 3) bytes) → new ≡ flat_map pixel_bytes (map f (colours old))
    → next ≡ put_mid (before + tile * (head + side * side * 3) + head + start * 3) (n * 3) bytes new
    → AreTexts before side count head next × (tiles_in head (side * side) count (drop before next) ≡ set ts tile (run_changed f start n (get_or ts tile [])))
painted before side count head bytes old new next ts f tile start n are read lt inside old_is new_is next_is =
    let own = whole_in before side count head bytes ts are read in
    let front : List ℕ = before_tile before side bytes ts tile in
    let back : List ℕ = flat_map (pixels_text side side) (drop (suc tile) ts) in
    let t : List Colour = get_or ts tile [] in
    let x : List Colour = take start t in
    let m : List Colour = take n (drop start t) in
    let y : List Colour = drop n (drop start t) in
    let at : ℕ = before + tile * (head + side * side * 3) + head + start * 3 in
    let p : List ℕ = run_front before side bytes ts tile start in
    let q : List ℕ = run_back side ts tile start n in
    let r : RunIn before side head bytes ts tile start n = run_in before side count head bytes ts tile start n are read lt inside in
    let size : length t ≡ side * side = All-get_or (λ t. length t ≡ side * side) ts tile [] lt own.0 in
    let old_m : old ≡ flat_map pixel_bytes m = old_is ∙ run_there before side count head bytes ts tile start n are read lt inside in
    let new_m : new ≡ flat_map pixel_bytes (map f m) = new_is ∙ ap (λ bs. flat_map pixel_bytes (map f (colours bs))) old_m ∙ ap (λ us. flat_map pixel_bytes (map f us)) (colours_written m) in
    let after : next ≡ take before bytes ++ flat_map (pixels_text side side) (set ts tile (run_changed f start n t)) =
    next_is ∙ ap (λ bs. put_mid at (n * 3) bs new) r.is ∙ put_between p (flat_map pixel_bytes m) q new at (n * 3) r.place r.size ∙ ap (λ bs. p ++ (bs ++ q)) new_m
    ∙ sym (regroup front back x (map f m) y) ∙ sym (put_there before side bytes ts tile (run_changed f start n t) lt) in
    made before side count head (take before bytes) next (set ts tile (run_changed f start n t)) are.room are.some are.small are.few are.head_is (length-take-le before bytes are.before_fits)
    (All-set (λ t. length t ≡ side * side) ts tile (run_changed f start n t) (run_length f start n t ∙ size) own.0) (length-set ts tile (run_changed f start n t) ∙ own.1) after

-- the text of a tile ends inside
pub fits : (before side count head : ℕ) (bytes : List ℕ) (ts : List (List Colour)) (tile : ℕ) → AreTexts before side count head bytes
    → tiles_in head (side * side) count (drop before bytes) ≡ ts → tile < length ts → before + tile * (head + side * side * 3) + head + side * side * 3 ≤ length bytes
fits before side count head bytes ts tile are read lt =
    let own = whole_in before side count head bytes ts are read in
    let all : suc tile * (head + side * side * 3) ≤ count * (head + side * side * 3) = mul-le-mul_right (head + side * side * 3) (omega (arith, own.1)) in
    omega (arith, are.pixels)

-- a run painted, in the words of the code
pub painted_there : {Z : Type 0} (v : Vec ℕ Z) (before side count head a m : ℕ) (bytes new : List ℕ) (ts : List (List Colour)) (f : Colour → Colour) (tile start n : ℕ)
    → AreTexts before side count head v.items → tiles_in head (side * side) count (drop before v.items) ≡ ts → tile < length ts → start + n ≤ side * side
    → a ≡ before + tile * (head + side * side * 3) + head + start * 3 → m ≡ n * 3 → bytes ≡ v.items → length bytes ≡ v.len → new ≡ flat_map pixel_bytes (map f (colours (take m (drop a bytes))))
    → AreTexts before side count head (with_items v (put_mid a m bytes new)).items
    × (tiles_in head (side * side) count (drop before (with_items v (put_mid a m bytes new)).items) ≡ set ts tile (run_changed f start n (get_or ts tile [])))
painted_there v before side count head a m bytes new ts f tile start n are read lt inside a_is m_is value len new_is =
    let at : ℕ = before + tile * (head + side * side * 3) + head + start * 3 in
    let old : List ℕ = take m (drop a bytes) in
    let room : before + tile * (head + side * side * 3) + head + side * side * 3 ≤ length v.items = fits before side count head v.items ts tile are read lt in
    let old_is : old ≡ take (n * 3) (drop at v.items) =
    ap (λ k. take k (drop a bytes)) m_is ∙ ap (λ k. take (n * 3) (drop k bytes)) a_is ∙ ap (λ bs. take (n * 3) (drop at bs)) value in
    let many : length old ≡ n * 3 = ap length old_is ∙ length-take-le (n * 3) (drop at v.items) (omega (arith, length-drop at v.items)) in
    let as_long : length new ≡ length old =
    ap length new_is ∙ length_written (map f (colours old)) ∙ ap (λ k. k * 3) (length-map (colours old) f ∙ (thirds n old many).1) ∙ sym many in
    let as_many : length (put_mid a m bytes new) ≡ v.len = same_len_mid a m bytes new as_long ∙ len in
    let next_is : (with_items v (put_mid a m bytes new)).items ≡ put_mid at (n * 3) v.items new =
    with_items_is v (put_mid a m bytes new) as_many ∙ ap (λ k. put_mid k m bytes new) a_is ∙ ap (λ k. put_mid at k bytes new) m_is ∙ ap (λ bs. put_mid at (n * 3) bs new) value in
    painted before side count head v.items old new (with_items v (put_mid a m bytes new)).items ts f tile start n are read lt inside old_is new_is next_is

-- the text of a tile is not long
pub text_short : (side : ℕ) (t : List Colour) → side ≤ 512 → length t ≡ side * side → length (pixels_text side side t) ≤ 2 ^ 20
text_short side t small whole = omega (arith, length_text side t whole, few_bytes side small)

-- so many tiles of one colour
pub of_one : (before side count head : ℕ) (c : Colour) (text next : List ℕ) → before ≤ 2 ^ 16 → 1 ≤ side → side ≤ 512 → count ≤ 64 → head ≡ length (pixels_text side side [])
    → text ≡ pixels_text side side (replicate (side * side) c) → next ≡ replicate before 0 ++ flat_map (λ bytes. bytes) (replicate count text)
    → AreTexts before side count head next × (tiles_in head (side * side) count (drop before next) ≡ replicate count (replicate (side * side) c))
of_one before side count head c text next room some small few head_is text_is next_is =
    let t : List Colour = replicate (side * side) c in
    let whole : length t ≡ side * side = length-replicate (side * side) c in
    made before side count head (replicate before 0) next (replicate count t) room some small few head_is (length-replicate before 0)
    (All-replicate (λ u. length u ≡ side * side) count t whole) (length-replicate count t)
    (next_is ∙ ap (λ bs. replicate before 0 ++ flat_map (λ bytes. bytes) (replicate count bs)) text_is ∙ ap (λ bs. replicate before 0 ++ bs) (copies_of (pixels_text side side) count t))
