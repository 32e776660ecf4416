-- Texts one behind another, each with the same head, and one of them changed.
use Rattle.std.proofs.Common.{◌≡◌, ℕ, suc, zero, ◌+◌, ◌*◌, ◌<◌, ◌≤◌, List, [], ◌∷◌, ◌++◌, length, take, drop, set, flat_map, replicate, refl, ap, sym, ◌∙◌, arith, append_assoc, length-append}
use Rattle.std.specs.List.{All}
use Rattle.std.proofs.lemmas.List.{take_at, drop_at, length-drop, length-take-le, flat_map_more, replicate_more}
use Rattle.std.proofs.lemmas.List.Elements.{All-head, All-tail, All-cons, All-nil}
use Rattle.plain_shapes.specs.declared.colour.Colour.{Colour}
use Rattle.plain_shapes.specs.Ppm.{pixel_bytes}
use Rattle.plain_image.specs.PpmText.{colours}
use Rattle.plain_image.proofs.Bytes.{colours_written, length_written, thirds}
use Rattle.tiled_image.specs.inner.Written.{tiles_in}

-- what stands around the inner part of the text i, whatever is put there
pub around : {X : Type 0} (text inner : X → List ℕ) (head : List ℕ) → ((x : X) → text x ≡ head ++ inner x) → (i : ℕ) (xs : List X) (x : X) → i < length xs
    → flat_map text (set xs i x) ≡ (flat_map text (take i xs) ++ head) ++ (inner x ++ flat_map text (drop (suc i) xs))
around text inner head split i [] x lt = absurd (omega arith)
around text inner head split zero (y ∷ ys) x lt = ap (λ bs. bs ++ flat_map text ys) (split x) ∙ append_assoc head (inner x) (flat_map text ys)
around text inner head split (suc i) (y ∷ ys) x lt =
    ap (λ bs. text y ++ bs) (around text inner head split i ys x (omega arith))
    ∙ sym (append_assoc (text y) (flat_map text (take i ys) ++ head) (inner x ++ flat_map text (drop (suc i) ys)))
    ∙ ap (λ bs. bs ++ (inner x ++ flat_map text (drop (suc i) ys))) (sym (append_assoc (text y) (flat_map text (take i ys)) head))

-- texts that are equally long
pub even : {X : Type 0} (text : X → List ℕ) (n i : ℕ) (xs : List X) → All (λ x. length (text x) ≡ n) xs → i ≤ length xs → length (flat_map text (take i xs)) ≡ i * n
even text n zero xs all few = omega arith
even text n (suc i) [] all few = absurd (omega arith)
even text n (suc i) (x ∷ xs) all few =
    let own : length (text x) ≡ n = All-head (λ x. length (text x) ≡ n) x xs all in
    let more : length (flat_map text (take i xs)) ≡ i * n = even text n i xs (All-tail (λ x. length (text x) ≡ n) x xs all) (omega arith) in
    omega (arith, length-append (text x) (flat_map text (take i xs)))

-- tiles are read back from their texts
pub parsed : (text : List Colour → List ℕ) (head : List ℕ) → ((t : List Colour) → text t ≡ head ++ flat_map pixel_bytes t) → (pixels : ℕ) (ts : List (List Colour))
    → All (λ t. length t ≡ pixels) ts → tiles_in (length head) pixels (length ts) (flat_map text ts) ≡ ts
unfolding tiles_in
parsed text head split pixels [] all = refl
parsed text head split pixels (t ∷ ts) all =
    let rest : List ℕ = flat_map text ts in
    let behind : drop (length head) (text t ++ rest) ≡ flat_map pixel_bytes t ++ rest =
    ap (λ bs. drop (length head) (bs ++ rest)) (split t) ∙ ap (λ bs. drop (length head) bs) (append_assoc head (flat_map pixel_bytes t) rest) ∙ drop_at head (flat_map pixel_bytes t ++ rest) (length head) refl in
    let size : length (flat_map pixel_bytes t) ≡ pixels * 3 = length_written t ∙ ap (λ n. n * 3) (All-head (λ t. length t ≡ pixels) t ts all) in
    let first : colours (take (pixels * 3) (drop (length head) (text t ++ rest))) ≡ t =
    ap (λ bs. colours (take (pixels * 3) bs)) behind ∙ ap colours (take_at (flat_map pixel_bytes t) rest (pixels * 3) size) ∙ colours_written t in
    let others : drop (pixels * 3) (drop (length head) (text t ++ rest)) ≡ rest =
    ap (λ bs. drop (pixels * 3) bs) behind ∙ drop_at (flat_map pixel_bytes t) rest (pixels * 3) size in
    ap (λ u. u ∷ tiles_in (length head) pixels (length ts) (drop (pixels * 3) (drop (length head) (text t ++ rest)))) first
    ∙ ap (λ bs. t ∷ tiles_in (length head) pixels (length ts) bs) others
    ∙ ap (λ us. t ∷ us) (parsed text head split pixels ts (All-tail (λ t. length t ≡ pixels) t ts all))

-- so many tiles
pub tiles_count : (head pixels count : ℕ) (bytes : List ℕ) → length (tiles_in head pixels count bytes) ≡ count
unfolding tiles_in
tiles_count head pixels zero bytes = refl
tiles_count head pixels (suc n) bytes = ap suc (tiles_count head pixels n (drop (pixels * 3) (drop head bytes)))

-- each of so many colours
pub tiles_whole : (head pixels count : ℕ) (bytes : List ℕ) → length bytes ≡ count * (head + pixels * 3) → All (λ t. length t ≡ pixels) (tiles_in head pixels count bytes)
unfolding tiles_in
tiles_whole head pixels zero bytes size = All-nil (λ t. length t ≡ pixels)
tiles_whole head pixels (suc n) bytes size =
    let left : length (drop head bytes) ≡ pixels * 3 + n * (head + pixels * 3) = omega (arith, length-drop head bytes) in
    All-cons (λ t. length t ≡ pixels) (colours (take (pixels * 3) (drop head bytes))) (tiles_in head pixels n (drop (pixels * 3) (drop head bytes)))
    (thirds pixels (take (pixels * 3) (drop head bytes)) (length-take-le (pixels * 3) (drop head bytes) (omega arith))).1
    (tiles_whole head pixels n (drop (pixels * 3) (drop head bytes)) (omega (arith, length-drop (pixels * 3) (drop head bytes))))

-- a text so many times, and once more
pub copies_more : (front text out : List ℕ) (n : ℕ) → out ≡ front ++ flat_map (λ bytes. bytes) (replicate n text) → out ++ text ≡ front ++ flat_map (λ bytes. bytes) (replicate (n + 1) text)
copies_more front text out n is =
    ap (λ bs. bs ++ text) is ∙ flat_map_more (λ bytes. bytes) front (replicate n text) text ∙ ap (λ ts. front ++ flat_map (λ bytes. bytes) ts) (replicate_more n text)

-- as the text of a value that comes so many times
pub copies_of : {X : Type 0} (text : X → List ℕ) (n : ℕ) (x : X) → flat_map (λ bytes. bytes) (replicate n (text x)) ≡ flat_map text (replicate n x)
copies_of text zero x = refl
copies_of text (suc n) x = ap (λ bs. text x ++ bs) (copies_of text n x)
