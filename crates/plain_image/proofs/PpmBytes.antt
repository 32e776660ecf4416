-- One byte that passes a test, and what is read behind it.
use Rattle.std.proofs.Common.{◌≡◌, ℕ, ◌+◌, Bool, true, false, List, [], ◌∷◌, ◌++◌, refl, sym, ap, ◌∙◌, Result, Ok, Err, arith}
use Rattle.std.specs.Prelude.{if◌then◌else◌}
use Rattle.plain_shapes.specs.Images.{Pixels}
use Rattle.plain_image.specs.declared.reading.PpmFault.{PpmFault}
use Rattle.plain_image.specs.declared.reading.PpmFault.TheVariants.{Bad, TooLarge, NoMemory}
use Rattle.plain_image.proofs.PpmParts.{Reader, BadAt, Knows, IsFirm, firm_ok, firm_large, firm_memory, bad_same, nil_cons, cons_parts}

abbrev pub one : (ℕ → Bool) → (ℕ → Reader) → Reader
one p k n [] = Err (Bad n)
one p k n (b ∷ t) = if p b then k b (n + 1) t else Err (Bad n)

-- a byte that passes the test, and behind it what holds there
pub record One (p : ℕ → Bool) (behind : ℕ → List ℕ → Type 0) (text : List ℕ) : Type 0 where
  pub byte : ℕ
  pub rest : List ℕ
  pub split : text ≡ byte ∷ rest
  pub test : p byte ≡ true
  pub holds : behind byte rest

pub one_map : (p : ℕ → Bool) (P Q : ℕ → List ℕ → Type 0) (text : List ℕ) → ((b : ℕ) (r : List ℕ) → p b ≡ true → P b r → Q b r) → One p P text → One p Q text
one_map p P Q text f o = record { byte = o.byte; rest = o.rest; split = o.split; test = o.test; holds = f o.byte o.rest o.test o.holds }

-- the test refuses: at the end, and at every byte that does not pass
pub one_refuses : (p : ℕ → Bool) (k : ℕ → Reader) (n b : ℕ) (t : List ℕ) → p b ≡ false → one p k n (b ∷ t) ≡ Err (Bad n)
one_refuses p k n b t e = ap (λ x. if x then k b (n + 1) t else Err (Bad n)) e

pub one_takes : (p : ℕ → Bool) (k : ℕ → Reader) (n b : ℕ) (t : List ℕ) → p b ≡ true → one p k n (b ∷ t) ≡ k b (n + 1) t
one_takes p k n b t e = ap (λ x. if x then k b (n + 1) t else Err (Bad n)) e

one_back : (p : ℕ → Bool) (k : ℕ → Reader) (n : ℕ) (t : List ℕ) (x : Result Pixels PpmFault) → IsFirm x → one p k n t ≡ x → One p (λ b r. k b (n + 1) r ≡ x) t
one_back p k n [] x f h = absurd (f n (sym h))
one_back p k n (b ∷ t) x f h = go (p b) refl h
  where
    go : (o : Bool) → p b ≡ o → (if o then k b (n + 1) t else Err (Bad n)) ≡ x → One p (λ b r. k b (n + 1) r ≡ x) (b ∷ t)
    go true e h = record { byte = b; rest = t; split = refl; test = e; holds = h }
    go false e h = absurd (f n (sym h))

one_runs : (p : ℕ → Bool) (k : ℕ → Reader) (n : ℕ) (t : List ℕ) (x : Result Pixels PpmFault) → One p (λ b r. k b (n + 1) r ≡ x) t → one p k n t ≡ x
one_runs p k n t x o = ap (one p k n) o.split ∙ one_takes p k n o.byte o.rest o.test ∙ o.holds

one_bad : (p : ℕ → Bool) (k : ℕ → Reader) (says : ℕ → List ℕ → Pixels → Type 0) (large : ℕ → List ℕ → Type 0) (c : ℕ) → p c ≡ true
    → ((b : ℕ) → p b ≡ true → Knows (k b) (says b) (large b))
    → (n : ℕ) (t : List ℕ) (m : ℕ) → one p k n t ≡ Err (Bad m) → BadAt (one p k) (λ t i. One p (λ b r. says b r i) t) n t m
one_bad p k says large c pc known n [] m h = let s = (known c pc).some in record {
  front = [];
  rest = [];
  more = c ∷ s.0;
  image = s.1;
  split = refl;
  place = let e = bad_same n m h in omega (arith, e);
  goes = record { byte = c; rest = s.0; split = refl; test = pc; holds = s.2 };
  stays = λ d q r e. absurd (nil_cons d q e);
}
one_bad p k says large c pc known n (b ∷ t) m h = go (p b) refl h
  where
    go : (o : Bool) → p b ≡ o → (if o then k b (n + 1) t else Err (Bad n)) ≡ Err (Bad m) → BadAt (one p k) (λ t i. One p (λ b r. says b r i) t) n (b ∷ t) m
    go true e h = let a = (known b e).bad (n + 1) t m h in record {
      front = b ∷ a.front;
      rest = a.rest;
      more = a.more;
      image = a.image;
      split = ap (λ x. b ∷ x) a.split;
      place = omega (arith, a.place);
      goes = record { byte = b; rest = a.front ++ a.more; split = refl; test = e; holds = a.goes };
      stays = λ d q r s. one_takes p k n b (a.front ++ d ∷ r) e ∙ a.stays d q r s;
    }
    go false e h = let s = (known c pc).some in record {
      front = [];
      rest = b ∷ t;
      more = c ∷ s.0;
      image = s.1;
      split = refl;
      place = let q = bad_same n m h in omega (arith, q);
      goes = record { byte = c; rest = s.0; split = refl; test = pc; holds = s.2 };
      stays = λ d q r s. one_refuses p k n d r (ap p (sym (cons_parts b d t q s).0) ∙ e) ∙ h;
    }

pub knows_one : (p : ℕ → Bool) (k : ℕ → Reader) (says : ℕ → List ℕ → Pixels → Type 0) (large : ℕ → List ℕ → Type 0) (c : ℕ) → p c ≡ true
    → ((b : ℕ) → p b ≡ true → Knows (k b) (says b) (large b)) → Knows (one p k) (λ t i. One p (λ b r. says b r i) t) (One p large)
knows_one p k says large c pc known = record {
  some = let s = (known c pc).some in (c ∷ s.0, s.1, record { byte = c; rest = s.0; split = refl; test = pc; holds = s.2 });
  sound = λ n t i h. one_map p (λ b r. k b (n + 1) r ≡ Ok i) (λ b r. says b r i) t (λ b r e q. (known b e).sound (n + 1) r i q) (one_back p k n t (Ok i) (firm_ok i) h);
  reads = λ n t i o. one_runs p k n t (Ok i) (one_map p (λ b r. says b r i) (λ b r. k b (n + 1) r ≡ Ok i) t (λ b r e q. (known b e).reads (n + 1) r i q) o);
  over = λ n t h. one_map p (λ b r. k b (n + 1) r ≡ Err TooLarge) large t (λ b r e q. (known b e).over (n + 1) r q) (one_back p k n t (Err TooLarge) firm_large h);
  passes = λ n t o. one_runs p k n t (Err TooLarge) (one_map p large (λ b r. k b (n + 1) r ≡ Err TooLarge) t (λ b r e q. (known b e).passes (n + 1) r q) o);
  bad = one_bad p k says large c pc known;
  never = λ n t h. let o = one_back p k n t (Err NoMemory) firm_memory h in (known o.byte o.test).never (n + 1) o.rest o.holds;
}
