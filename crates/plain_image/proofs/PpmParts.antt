-- A reader together with all that is read behind it, and what is to be known of it. Whole texts are then
-- known part by part, from the last part to the first.
use Rattle.std.proofs.Common.{◌≡◌, ℕ, ◌+◌, List, [], ◌∷◌, ◌++◌, length, sym, ap, ◌∙◌, Result, Ok, Err}
use Rattle.plain_shapes.specs.Images.{Pixels}
use Rattle.plain_image.specs.declared.reading.PpmFault.{PpmFault}
use Rattle.plain_image.specs.declared.reading.PpmFault.TheVariants.{Bad, TooLarge, NoMemory}

-- what is read from an offset on, where these bytes stand
abbrev pub Reader : Type 0
Reader = ℕ → List ℕ → Result Pixels PpmFault

-- the text is bad at m: what stands before is the front of a text in the language, and whatever follows the byte there does not help
pub record BadAt (read : Reader) (says : List ℕ → Pixels → Type 0) (n : ℕ) (text : List ℕ) (m : ℕ) : Type 0 where
  pub front : List ℕ
  pub rest : List ℕ
  pub more : List ℕ
  pub image : Pixels
  pub split : text ≡ front ++ rest
  pub place : m ≡ n + length front
  pub goes : says (front ++ more) image
  pub stays : (c : ℕ) (q r : List ℕ) → rest ≡ c ∷ q → read n (front ++ c ∷ r) ≡ Err (Bad m)

-- the reader reads the language, finds what is too large, and names the first place that is bad
pub record Knows (read : Reader) (says : List ℕ → Pixels → Type 0) (large : List ℕ → Type 0) : Type 0 where
  pub some : (q : List ℕ) × (image : Pixels) × says q image
  pub sound : (n : ℕ) (t : List ℕ) (i : Pixels) → read n t ≡ Ok i → says t i
  pub reads : (n : ℕ) (t : List ℕ) (i : Pixels) → says t i → read n t ≡ Ok i
  pub over : (n : ℕ) (t : List ℕ) → read n t ≡ Err TooLarge → large t
  pub passes : (n : ℕ) (t : List ℕ) → large t → read n t ≡ Err TooLarge
  pub bad : (n : ℕ) (t : List ℕ) (m : ℕ) → read n t ≡ Err (Bad m) → BadAt read says n t m
  pub never : (n : ℕ) (t : List ℕ) → read n t ≡ Err NoMemory → ⊥

-- ---- answers

-- an answer that names no bad byte
abbrev pub IsFirm : Result Pixels PpmFault → Type 0
IsFirm x = (m : ℕ) → x ≡ Err (Bad m) → ⊥

pub firm_ok : (i : Pixels) → IsFirm (Ok i)
firm_ok i m e = cc

pub firm_large : IsFirm (Err TooLarge)
firm_large m e = cc

pub firm_memory : IsFirm (Err NoMemory)
firm_memory m e = cc

pub bad_same : (m n : ℕ) → ◌≡◌ {A = Result Pixels PpmFault} (Err (Bad m)) (Err (Bad n)) → m ≡ n
bad_same m n e = cc

pub bad_large : (m : ℕ) → ◌≡◌ {A = Result Pixels PpmFault} (Err TooLarge) (Err (Bad m)) → ⊥
bad_large m e = cc

-- ---- first bytes

pub nil_cons : (c : ℕ) (q : List ℕ) → [] ≡ c ∷ q → ⊥
nil_cons c q e = cc

pub cons_parts : (b c : ℕ) (t q : List ℕ) → b ∷ t ≡ c ∷ q → (b ≡ c) × (t ≡ q)
cons_parts b c t q e = (cc, cc)

-- a text that is empty has no byte behind its front
pub none_behind : (front rest : List ℕ) (c : ℕ) (q : List ℕ) → [] ≡ front ++ rest → rest ≡ c ∷ q → ⊥
none_behind [] rest c q s e = nil_cons c q (s ∙ e)
none_behind (a ∷ front) rest c q s e = nil_cons a (front ++ rest) s

-- whatever follows the byte behind a front, the whole has the same first byte
pub same_first : (b : ℕ) (t front rest : List ℕ) (c : ℕ) (q r : List ℕ) → b ∷ t ≡ front ++ rest → rest ≡ c ∷ q → (s : List ℕ) × (front ++ c ∷ r ≡ b ∷ s)
same_first b t [] rest c q r s e = (r, ap (λ x. x ∷ r) (sym (cons_parts b c t q (s ∙ e)).0))
same_first b t (a ∷ front) rest c q r s e = (front ++ c ∷ r, ap (λ x. x ∷ (front ++ c ∷ r)) (sym (cons_parts b a t (front ++ rest) s).0))
