-- What is said at a line.
use Rattle.std.proofs.Common.{◌≡◌, ◌≤◌, ◌<◌, ◌+◌, ◌-◌, ◌^◌, ℕ, false, List, [], ◌∷◌, ◌++◌, length, min, get_or, slice_get, codes, Some, None, Ok, Err, refl, sym, ap, subst, ◌∙◌, arith, append_assoc, length-append}
use Rattle.std.proofs.lemmas.Bool.{le-leb, eq-eqb}
use Rattle.std.proofs.lemmas.List.{append-nil}
use Rattle.plain_world.specs.declared.world.Tile.{Tile}
use Rattle.farm_history.specs.Entries.{Entry, Expire}
use Rattle.farm_base.specs.declared.turns.Worn.{Worn}
use Rattle.front_loop.specs.declared.dispositions.Disposition.{Disposition}
use Rattle.front_loop.specs.declared.dispositions.Disposition.TheVariants.{Leaves}
use Rattle.front_loop.specs.declared.dispositions.Reason.TheVariants as reason
use Rattle.std.specs.Prelude.{Option, unwrap_or}
use Rattle.script_answers.specs.Answers.{expire_line}
use Rattle.control_front.specs.declared.acts.Line.TheVariants as line
use Rattle.control_front.specs.declared.acts.Act.{Act}
use Rattle.control_front.specs.declared.acts.Act.TheVariants.{Expires}
use Rattle.control_front.specs.Control.{expire_text, tiles_at, total_of}
use Rattle.control_front.specs.inner.Doing.{act_text, act_starves, Says, Said, Lacks, Answers, Gives, Wants, Expired, Did, expiries}
use Rattle.control_front.proofs.Deeds.{did_one, did_part}

pub says_answer : (lists : List (List Tile)) (a : Act) (text old new : List ℕ) (disposition : Disposition) → act_text lists a ≡ text → act_starves lists a ≡ false → Says text old new disposition → Answers lists a old new disposition
says_answer lists a text old new disposition t s (Said q e) = Gives q s (e ∙ ap (λ xs. old ++ xs) (sym t))
says_answer lists a text old new disposition t s (Lacks q n) = Wants q s

-- where there was no memory for a text, nothing was said
pub lacks_same : (text old new : List ℕ) (disposition : Disposition) → Says text old new disposition → disposition ≡ Leaves reason.Starved → new ≡ old
lacks_same text old new disposition (Said q n) e = let never = sym q ∙ e in cc
lacks_same text old new disposition (Lacks q n) e = n

-- ---- expiries

pub expiries_none : (tiles : List Tile) → expiries tiles [] ≡ []
expiries_none [] = refl
expiries_none (t ∷ tiles) = refl

pub expiries_more : (tiles : List Tile) (counts : List ℕ) (k : ℕ) (d t : Tile) → length counts < length tiles → get_or tiles (length counts) d ≡ t
    → expiries tiles (counts ++ k ∷ []) ≡ expiries tiles counts ++ Expire t k ∷ []
expiries_more [] counts k d t l g = absurd (omega (arith, l))
expiries_more (x ∷ tiles) [] k d t l g = ap (λ y. Expire y k ∷ expiries tiles []) g ∙ ap (λ es. Expire t k ∷ es) (expiries_none tiles)
expiries_more (x ∷ tiles) (j ∷ counts) k d t l g = ap (λ es. Expire x j ∷ es) (expiries_more tiles counts k d t (omega (arith, l)) g)

min_more : (n k m : ℕ) → min (min n m + k) m ≡ min (n + k) m
min_more n k m = omega arith

total_more : (counts : List ℕ) (k : ℕ) → total_of (counts ++ k ∷ []) ≡ total_of counts + k
total_more [] k = omega arith
total_more (j ∷ counts) k = let e = total_more counts k in omega (arith, e)

pub sum_more : (counts : List ℕ) (k m : ℕ) → min (min (total_of counts) m + k) m ≡ min (total_of (counts ++ k ∷ [])) m
sum_more counts k m = min_more (total_of counts) k m ∙ ap (λ n. min n m) (sym (total_more counts k))

-- so many tiles were expired
abbrev pub Expiring : List Tile → ℕ → List Entry → List Entry → ℕ → Type 0
Expiring tiles i mine mine' total =
    (counts : List ℕ) × (length counts ≡ i) × (mine' ≡ mine ++ expiries tiles counts) × (total ≡ min (total_of counts) (2 ^ 64 - 1))

pub expiring_none : (tiles : List Tile) (mine : List Entry) → Expiring tiles 0 mine mine 0
expiring_none tiles mine = ([], refl, sym (append-nil mine) ∙ ap (λ es. mine ++ es) (sym (expiries_none tiles)), omega arith)

pub expiring_more : (tiles : List Tile) (i : ℕ) (d : Tile) (mine mid mine' : List Entry) (total k total' : ℕ) → i < length tiles → Expiring tiles i mine mid total
    → mine' ≡ mid ++ Expire (get_or tiles i d) k ∷ [] → total' ≡ min (total + k) (2 ^ 64 - 1) → Expiring tiles (i + 1) mine mine' total'
expiring_more tiles i d mine mid mine' total k total' l (counts, n, m, s) e t =
    let small : length counts < length tiles = omega (arith, l, n) in
    let many = length-append counts (k ∷ []) in (
      counts ++ k ∷ [],
      many ∙ ap (λ x. x + 1) n,
      e ∙ ap (λ es. es ++ Expire (get_or tiles i d) k ∷ []) m ∙ append_assoc mine (expiries tiles counts) (Expire (get_or tiles i d) k ∷ [])
          ∙ ap (λ es. mine ++ es) (sym (expiries_more tiles counts k d (get_or tiles i d) small (ap (λ x. get_or tiles x d) n))),
      t ∙ ap (λ x. min (x + k) (2 ^ 64 - 1)) s ∙ sum_more counts k (2 ^ 64 - 1),
    )

module _ (front : ℕ) (lists : List (List Tile)) (c : ℕ) where
  pub expire_none : (n : ℕ) (mine : List Entry) (old new : List ℕ) (disposition : Disposition) → slice_get lists n ≡ None → Says (codes "no list\n") old new disposition
      → Did front lists c (line.Expire n ∷ []) mine mine old new disposition
  expire_none n mine old new disposition g s =
      did_one front lists c (Expires n []) mine mine old new disposition (le-leb 0 (length (tiles_at lists n)) (omega arith))
      (eq-eqb 0 (length (tiles_at lists n)) (sym (ap (λ o. length (unwrap_or {T = List Tile} o [])) g)))
      (sym (append-nil mine) ∙ ap (λ es. mine ++ es) (sym (expiries_none (tiles_at lists n))))
      (says_answer lists (Expires n []) (codes "no list\n") old new disposition (ap (λ o. expire_text o []) g) refl s)

  pub expire_some : (n total : ℕ) (tiles : List Tile) (mine mine' : List Entry) (old new : List ℕ) (disposition : Disposition) → slice_get lists n ≡ Some tiles → Expired tiles mine mine' (Ok total)
      → Says (expire_line total) old new disposition → Did front lists c (line.Expire n ∷ []) mine mine' old new disposition
  expire_some n total tiles mine mine' old new disposition g (counts, l, m, t) s =
      let is : tiles_at lists n ≡ tiles = ap (λ (o : Option (List Tile)). unwrap_or o []) g in
      did_one front lists c (Expires n counts) mine mine' old new disposition
      (le-leb (length counts) (length (tiles_at lists n)) (subst (λ ts. length counts ≤ length ts) (sym is) (omega (arith, l))))
      (eq-eqb (length counts) (length (tiles_at lists n)) (l ∙ ap length (sym is)))
      (m ∙ ap (λ ts. mine ++ expiries ts counts) (sym is))
      (says_answer lists (Expires n counts) (expire_line total) old new disposition (ap (λ o. expire_text o counts) g ∙ ap expire_line (sym t)) refl s)

  pub expire_worn : (n : ℕ) (w : Worn) (tiles : List Tile) (mine mine' : List Entry) (old new : List ℕ) → slice_get lists n ≡ Some tiles → Expired tiles mine mine' (Err w)
      → Did front lists c (line.Expire n ∷ []) mine mine' old new (Leaves reason.Starved)
  expire_worn n w tiles mine mine' old new g (counts, l, m) =
      let is : tiles_at lists n ≡ tiles = ap (λ (o : Option (List Tile)). unwrap_or o []) g in
      did_part front lists c (Expires n counts) mine mine' old new
      (le-leb (length counts) (length (tiles_at lists n)) (subst (λ ts. length counts ≤ length ts) (sym is) l))
      (m ∙ ap (λ ts. mine ++ expiries ts counts) (sym is)) refl
