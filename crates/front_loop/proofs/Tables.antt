-- Sessions in a list: one that changes, comes or goes, and the others.
use Rattle.std.proofs.Common.{◌≡◌, ◌==◌, ◌<◌, ◌+◌, ℕ, zero, suc, Bool, true, false, cond, List, [], ◌∷◌, ◌++◌, length, map, take, drop, set, get_or, refl, sym, ap, subst, ◌∙◌, arith, Option, Some, None, ◌≤◌, nat_lt}
use Rattle.std.proofs.lemmas.Bool.{eqb-true, eq-eqb, ne_eqb, ltb-true}
use Rattle.std.specs.List.{position, position_or_len}
use Rattle.std.proofs.lemmas.Bool.Decides.{nat_tests}
use Rattle.std.proofs.lemmas.List.Recursion.{is_position_or_len}
use Rattle.farm_history.specs.Lists.{Each, without_first}
use Rattle.front_loop.specs.declared.dispositions.Disposition.{Disposition}
use Rattle.front_loop.specs.declared.dispositions.Disposition.TheVariants.{Stays, Leaves}
use Rattle.front_loop.specs.declared.dispositions.Reason.{Reason}
use Rattle.front_loop.specs.declared.sessions.Session.{Session}
use Rattle.front_loop.specs.Rounds.{has}
use Rattle.front_loop.specs.inner.Sessions.{conns, Apart, StandsAt, HasConn, IsLeaving, StaysOn, leaves, woken}

-- a list of connections without the first of that number
abbrev pub remove : List ℕ → ℕ → List ℕ
remove [] c = []
remove (d ∷ ds) c = cond (d == c) ds (d ∷ remove ds c)

pub remove_is : (cs : List ℕ) (c : ℕ) → remove cs c ≡ without_first (λ d. d == c) cs
unfolding without_first
remove_is [] c = refl
remove_is (d ∷ ds) c = ap (λ l. cond (d == c) ds (d ∷ l)) (remove_is ds c)

-- a number by its test
pub same : (n : ℕ) → (n == n) ≡ true
same n = eq-eqb n n refl

pub other : (m n : ℕ) → (m ≡ n → ⊥) → (m == n) ≡ false
other m n e = ne_eqb m n e

pub differs : (m n : ℕ) → (m == n) ≡ false → m ≡ n → ⊥
differs m n e h = cc (eq-eqb m n h)

pub flipped : (m n : ℕ) → (m == n) ≡ false → (n == m) ≡ false
flipped m n e = other n m (λ h. differs m n e (sym h))

-- one of the others is in a list that has not the first
head_off : (b t : Bool) → cond b true t ≡ false → b ≡ false
head_off true t h = h
head_off false t h = refl

tail_off : (b t : Bool) → cond b true t ≡ false → t ≡ false
tail_off true t h = cc
tail_off false t h = h

pub not_first : (c d : ℕ) (cs : List ℕ) → has (d ∷ cs) c ≡ false → (d ≡ c → ⊥) × (has cs c ≡ false)
not_first c d cs h = (differs d c (head_off (d == c) (has cs c) h), tail_off (d == c) (has cs c) h)

pub has_more : (b t : Bool) → t ≡ true → cond b true t ≡ true
has_more true t h = refl
has_more false t h = h

pub has_first : (c d : ℕ) (cs : List ℕ) → d ≡ c → has (d ∷ cs) c ≡ true
has_first c d cs h = ap (λ b. cond b true (has cs c)) (eq-eqb d c h)

off : (b t : Bool) → b ≡ false → t ≡ false → cond b true t ≡ false
off b t h k = ap (λ b. cond b true t) h ∙ k

pub has_snoc : (cs : List ℕ) (c d : ℕ) → has cs c ≡ false → (d == c) ≡ false → has (cs ++ d ∷ []) c ≡ false
has_snoc [] c d h e = off (d == c) false e refl
has_snoc (x ∷ cs) c d h e = off (x == c) (has (cs ++ d ∷ []) c) (head_off (x == c) (has cs c) h) (has_snoc cs c d (tail_off (x == c) (has cs c) h) e)

pub apart_snoc : (cs : List ℕ) (c : ℕ) → Apart cs → has cs c ≡ false → Apart (cs ++ c ∷ [])
apart_snoc [] c a h = (refl, tt)
apart_snoc (x ∷ cs) c a h =
    (has_snoc cs x c a.0 (flipped x c (head_off (x == c) (has cs c) h)), apart_snoc cs c a.1 (tail_off (x == c) (has cs c) h))

has_less_by : (b : Bool) (x c d : ℕ) (cs : List ℕ) → has cs d ≡ false → (x == d) ≡ false → has (remove cs c) d ≡ false
    → has (cond b cs (x ∷ remove cs c)) d ≡ false
has_less_by true x c d cs h e k = h
has_less_by false x c d cs h e k = off (x == d) (has (remove cs c) d) e k

pub has_less : (cs : List ℕ) (c d : ℕ) → has cs d ≡ false → has (remove cs c) d ≡ false
has_less [] c d h = h
has_less (x ∷ cs) c d h =
    has_less_by (x == c) x c d cs (tail_off (x == d) (has cs d) h) (head_off (x == d) (has cs d) h) (has_less cs c d (tail_off (x == d) (has cs d) h))

apart_remove_by : (b : Bool) (x c : ℕ) (cs : List ℕ) → Apart (x ∷ cs) → Apart (remove cs c) → Apart (cond b cs (x ∷ remove cs c))
apart_remove_by true x c cs a k = a.1
apart_remove_by false x c cs a k = (has_less cs c x a.0, k)

pub apart_remove : (cs : List ℕ) (c : ℕ) → Apart cs → Apart (remove cs c)
apart_remove [] c a = tt
apart_remove (x ∷ cs) c a = apart_remove_by (x == c) x c cs a (apart_remove cs c a.1)

missing_by : (b t : Bool) (n m : ℕ) → n ≤ m → (n ≡ m → t ≡ false) → cond b 0 (1 + n) ≡ suc m → cond b true t ≡ false
missing_by true t n m l f h = absurd (omega (arith, h))
missing_by false t n m l f h = f (omega (arith, h))

spot_le_by : (b : Bool) (n m : ℕ) → n ≤ m → cond b 0 (1 + n) ≤ suc m
spot_le_by true n m l = omega arith
spot_le_by false n m l = omega (arith, l)

unplaced_by : (n m : ℕ) (b : Bool) → n ≤ m → nat_lt n m ≡ b → ◌≡◌ {A = Option ℕ} (cond b (Some n) None) None → n ≡ m
unplaced_by n m true l e h = absurd (cc)
unplaced_by n m false l e h = grind (arith, nat_tests, l, e)

some_of : (n m i : ℕ) (b : Bool) → nat_lt n m ≡ b → ◌≡◌ {A = Option ℕ} (cond b (Some n) None) (Some i) → (n < m) × (n ≡ i)
some_of n m i true l e = (ltb-true n m l, cc)
some_of n m i false l e = absurd (cc)

one_more : (n : ℕ) → suc n ≡ 1 + n
one_more n = omega arith

none_by : (b : Bool) (n m : ℕ) → n ≤ m → cond b 0 (1 + n) ≡ suc m → (b ≡ false) × (n ≡ m)
none_by true n m l h = absurd (omega (arith, h))
none_by false n m l h = (refl, omega (arith, h))

stays_is : (f : Disposition) → leaves f ≡ false → f ≡ Stays
stays_is Stays h = refl
stays_is (Leaves why) h = cc

module _ {T : Type 0} where
  pub has_at : (ss : List (Session T)) (i : ℕ) (s : Session T) → StandsAt ss i s → has (conns ss) s.conn ≡ true
  has_at [] i s h = absurd (omega (arith, h.0))
  has_at (x ∷ xs) zero s h = has_first s.conn x.conn (conns xs) (ap (λ (s : Session T). s.conn) h.1)
  has_at (x ∷ xs) (suc i) s h = has_more (x.conn == s.conn) (has (conns xs) s.conn) (has_at xs i s (omega (arith, h.0), h.1))

  pub conns_set : (ss : List (Session T)) (i : ℕ) (s s' : Session T) → StandsAt ss i s → s'.conn ≡ s.conn → conns (set ss i s') ≡ conns ss
  conns_set [] i s s' h e = absurd (omega (arith, h.0))
  conns_set (x ∷ xs) zero s s' h e = ap (λ c. c ∷ conns xs) (e ∙ sym (ap (λ (s : Session T). s.conn) h.1))
  conns_set (x ∷ xs) (suc i) s s' h e = ap (λ cs. x.conn ∷ cs) (conns_set xs i s s' (omega (arith, h.0), h.1) e)

  pub conns_woken : (ss : List (Session T)) → conns (map woken ss) ≡ conns ss
  conns_woken [] = refl
  conns_woken (x ∷ xs) = ap (λ cs. x.conn ∷ cs) (conns_woken xs)

  pub conns_snoc : (ss : List (Session T)) (s : Session T) → conns (ss ++ s ∷ []) ≡ conns ss ++ s.conn ∷ []
  conns_snoc [] s = refl
  conns_snoc (x ∷ xs) s = ap (λ cs. x.conn ∷ cs) (conns_snoc xs s)

  each_but : (P P' : Session T → Type 0) (xs : List (Session T)) (c : ℕ) → Each P xs → has (conns xs) c ≡ false
      → ((x : Session T) → (x.conn ≡ c → ⊥) → P x → P' x) → Each P' xs
  each_but P P' [] c e h f = tt
  each_but P P' (x ∷ xs) c e h f =
      let n = not_first c x.conn (conns xs) h in
      (f x n.0 e.0, each_but P P' xs c e.1 n.1 f)

  -- none of the list has the connection
  pub each_none : (P P' : Session T → Type 0) (xs : List (Session T)) (c : ℕ) → Each P xs → has (conns xs) c ≡ false
      → ((x : Session T) → (x.conn ≡ c → ⊥) → P x → P' x) → Each P' xs
  each_none P P' xs c e h f = each_but P P' xs c e h f

  pub each_set : (P P' : Session T → Type 0) (ss : List (Session T)) (i : ℕ) (s s' : Session T) → StandsAt ss i s → Apart (conns ss) → Each P ss
      → ((x : Session T) → (x.conn ≡ s.conn → ⊥) → P x → P' x) → P' s' → Each P' (set ss i s')
  each_set P P' [] i s s' h a e f p = absurd (omega (arith, h.0))
  each_set P P' (x ∷ xs) zero s s' h a e f p =
      (p, each_but P P' xs s.conn e.1 (subst (λ c. has (conns xs) c ≡ false) (ap (λ (s : Session T). s.conn) h.1) a.0) f)
  each_set P P' (x ∷ xs) (suc i) s s' h a e f p =
      let at : StandsAt xs i s = (omega (arith, h.0), h.1) in
      let off : has (conns xs) x.conn ≡ false = a.0 in
      (f x (λ q. cc (has_at xs i s at, ap (λ c. has (conns xs) c) q, off)) e.0, each_set P P' xs i s s' at a.1 e.1 f p)

  pub each_weaker : (P P' : Session T → Type 0) (ss : List (Session T)) → ((x : Session T) → P x → P' x) → Each P ss → Each P' ss
  each_weaker P P' [] f e = tt
  each_weaker P P' (x ∷ xs) f e = (f x e.0, each_weaker P P' xs f e.1)

  pub each_both : (P Q : Session T → Type 0) (ss : List (Session T)) → Each P ss → Each Q ss → Each (λ s. P s × Q s) ss
  each_both P Q [] e f = tt
  each_both P Q (x ∷ xs) e f = ((e.0, f.0), each_both P Q xs e.1 f.1)

  pub each_woken : (P P' : Session T → Type 0) (ss : List (Session T)) → ((x : Session T) → P x → P' (woken x)) → Each P ss → Each P' (map woken ss)
  each_woken P P' [] f e = tt
  each_woken P P' (x ∷ xs) f e = (f x e.0, each_woken P P' xs f e.1)

  pub each_snoc : (P : Session T → Type 0) (ss : List (Session T)) (s : Session T) → Each P ss → P s → Each P (ss ++ s ∷ [])
  each_snoc P [] s e p = (p, tt)
  each_snoc P (x ∷ xs) s e p = (e.0, each_snoc P xs s e.1 p)

  pub each_at : (P : Session T → Type 0) (ss : List (Session T)) (i : ℕ) (s : Session T) → StandsAt ss i s → Each P ss → P s
  each_at P [] i s h e = absurd (omega (arith, h.0))
  each_at P (x ∷ xs) zero s h e = subst P h.1 e.0
  each_at P (x ∷ xs) (suc i) s h e = each_at P xs i s (omega (arith, h.0), h.1) e.1

  -- one that goes
  pub conns_less : (ss : List (Session T)) (i : ℕ) (s : Session T) → StandsAt ss i s → Apart (conns ss) → conns (take i ss ++ drop (suc i) ss) ≡ remove (conns ss) s.conn
  conns_less [] i s h a = absurd (omega (arith, h.0))
  conns_less (x ∷ xs) zero s h a = sym (ap (λ b. cond b (conns xs) (x.conn ∷ remove (conns xs) s.conn)) (eq-eqb x.conn s.conn (ap (λ (s : Session T). s.conn) h.1)))
  conns_less (x ∷ xs) (suc i) s h a =
      let at : StandsAt xs i s = (omega (arith, h.0), h.1) in
      let gone : has (conns xs) x.conn ≡ false = a.0 in
      let ne : (x.conn == s.conn) ≡ false = other x.conn s.conn (λ q. cc (has_at xs i s at, ap (λ c. has (conns xs) c) q, gone)) in
      ap (λ cs. x.conn ∷ cs) (conns_less xs i s at a.1) ∙ sym (ap (λ b. cond b (conns xs) (x.conn ∷ remove (conns xs) s.conn)) ne)

  pub each_less : (P P' : Session T → Type 0) (ss : List (Session T)) (i : ℕ) (s : Session T) → StandsAt ss i s → Apart (conns ss) → Each P ss
      → ((x : Session T) → (x.conn ≡ s.conn → ⊥) → P x → P' x) → Each P' (take i ss ++ drop (suc i) ss)
  each_less P P' [] i s h a e f = absurd (omega (arith, h.0))
  each_less P P' (x ∷ xs) zero s h a e f =
      each_but P P' xs s.conn e.1 (subst (λ c. has (conns xs) c ≡ false) (ap (λ (s : Session T). s.conn) h.1) a.0) f
  each_less P P' (x ∷ xs) (suc i) s h a e f =
      let at : StandsAt xs i s = (omega (arith, h.0), h.1) in
      let off : has (conns xs) x.conn ≡ false = a.0 in
      (f x (λ q. cc (has_at xs i s at, ap (λ c. has (conns xs) c) q, off)) e.0, each_less P P' xs i s at a.1 e.1 f)

  -- the session of a connection that is there
  pub each_conn : (P : ℕ → Type 0) (ss : List (Session T)) (c : ℕ) → Each (λ (s : Session T). P s.conn) ss → has (conns ss) c ≡ true → P c
  each_conn P [] c e h = cc
  each_conn P (x ∷ xs) c e h = by_test (x.conn == c) refl h (each_conn P xs c e.1)
    where
      by_test : (b : Bool) → (x.conn == c) ≡ b → cond b true (has (conns xs) c) ≡ true → (has (conns xs) c ≡ true → P c) → P c
      by_test true q g k = subst P (eqb-true x.conn c q) e.0
      by_test false q g k = k g

  -- the place of a connection
  abbrev pub is_conn : ℕ → Session T → Bool
  is_conn c s = s.conn == c

  abbrev spot : ℕ → List (Session T) → ℕ
  spot c [] = 0
  spot c (s ∷ ss) = cond (is_conn c s) 0 (1 + spot c ss)

  spot_le : (ss : List (Session T)) (c : ℕ) → spot c ss ≤ length ss
  spot_le [] c = omega arith
  spot_le (s ∷ ss) c = spot_le_by (is_conn c s) (spot c ss) (length ss) (spot_le ss c)

  missing : (ss : List (Session T)) (c : ℕ) → spot c ss ≡ length ss → has (conns ss) c ≡ false
  missing [] c h = refl
  missing (s ∷ ss) c h = missing_by (is_conn c s) (has (conns ss) c) (spot c ss) (length ss) (spot_le ss c) (missing ss c) h

  pub unplaced : (ss : List (Session T)) (c : ℕ) → position (is_conn c) ss ≡ None → has (conns ss) c ≡ false
  unplaced ss c h =
      let e : position_or_len (is_conn c) ss ≡ spot c ss = sym (is_position_or_len (spot c) (is_conn c) refl (λ x xs. refl) ss) in
      missing ss c (unplaced_by (spot c ss) (length ss) (nat_lt (spot c ss) (length ss)) (spot_le ss c) refl
      (ap (λ n. cond (nat_lt n (length ss)) (Some n) None) (sym e) ∙ h))

  at_spot_by : (s : Session T) (ss : List (Session T)) (c : ℕ) → (spot c ss < length ss → HasConn ss (spot c ss) c)
      → (b : Bool) → (s.conn == c) ≡ b → cond b 0 (1 + spot c ss) < suc (length ss) → HasConn (s ∷ ss) (cond b 0 (1 + spot c ss)) c
  at_spot_by s ss c f true e l = (s, (omega arith, refl), eqb-true s.conn c e)
  at_spot_by s ss c f false e l =
      let h = f (omega (arith, l)) in
      subst (λ n. HasConn (s ∷ ss) n c) (one_more (spot c ss)) (h.0, (omega (arith, h.1.0), h.1.1), h.2)

  at_spot : (ss : List (Session T)) (c : ℕ) → spot c ss < length ss → HasConn ss (spot c ss) c
  at_spot [] c l = absurd (omega (arith, l))
  at_spot (s ∷ ss) c l = at_spot_by s ss c (at_spot ss c) (s.conn == c) refl l

  pub placed : (ss : List (Session T)) (c i : ℕ) → position (is_conn c) ss ≡ Some i → (i < length ss) × HasConn ss i c
  placed ss c i h =
      let e : position_or_len (is_conn c) ss ≡ spot c ss = sym (is_position_or_len (spot c) (is_conn c) refl (λ x xs. refl) ss) in
      let k = some_of (spot c ss) (length ss) i (nat_lt (spot c ss) (length ss)) refl
      (ap (λ n. cond (nat_lt n (length ss)) (Some n) None) (sym e) ∙ h) in
      (omega (arith, k.0, k.1), subst (λ n. HasConn ss n c) k.1 (at_spot ss c k.0))

  -- what was read at a place stands there
  pub stands_at : (ss zs : List (Session T)) (i : ℕ) (s : Session T) → zs ≡ ss → i < length zs → s ≡ get_or ss i s → StandsAt ss i s
  stands_at ss zs i s e l h = (subst (λ (xs : List (Session T)). i < length xs) e l, sym h)

  one_at : (ss : List (Session T)) (i : ℕ) (s r : Session T) → StandsAt ss i s → StandsAt ss i r → r ≡ s
  one_at [] i s r h k = absurd (omega (arith, h.0))
  one_at (x ∷ xs) zero s r h k = sym k.1 ∙ h.1
  one_at (x ∷ xs) (suc i) s r h k = one_at xs i s r (omega (arith, h.0), h.1) (omega (arith, k.0), k.1)

  -- and has the connection that was looked for
  pub conn_at : (ss zs : List (Session T)) (i : ℕ) (s : Session T) (c : ℕ) → zs ≡ ss → HasConn zs i c → StandsAt ss i s → s.conn ≡ c
  conn_at ss zs i s c e h at =
      let there : StandsAt ss i h.0 = subst (λ (xs : List (Session T)). StandsAt xs i h.0) e h.1 in
      ap (λ (x : Session T). x.conn) (one_at ss i h.0 s there at) ∙ h.2

  -- the first place that passes a test
  abbrev spot_by : (Session T → Bool) → List (Session T) → ℕ
  spot_by p [] = 0
  spot_by p (s ∷ ss) = cond (p s) 0 (1 + spot_by p ss)

  spot_by_le : (p : Session T → Bool) (ss : List (Session T)) → spot_by p ss ≤ length ss
  spot_by_le p [] = omega arith
  spot_by_le p (s ∷ ss) = spot_le_by (p s) (spot_by p ss) (length ss) (spot_by_le p ss)

  at_spot_then : (p : Session T → Bool) (s : Session T) (ss : List (Session T)) → (spot_by p ss < length ss → (x : Session T) × (StandsAt ss (spot_by p ss) x) × (p x ≡ true))
      → (b : Bool) → p s ≡ b → cond b 0 (1 + spot_by p ss) < suc (length ss)
      → (x : Session T) × (StandsAt (s ∷ ss) (cond b 0 (1 + spot_by p ss)) x) × (p x ≡ true)
  at_spot_then p s ss f true e l = (s, (omega arith, refl), e)
  at_spot_then p s ss f false e l =
      let h = f (omega (arith, l)) in
      subst (λ n. (x : Session T) × (StandsAt (s ∷ ss) n x) × (p x ≡ true)) (one_more (spot_by p ss)) (h.0, (omega (arith, h.1.0), h.1.1), h.2)

  at_spot_by' : (p : Session T → Bool) (ss : List (Session T)) → spot_by p ss < length ss → (x : Session T) × (StandsAt ss (spot_by p ss) x) × (p x ≡ true)
  at_spot_by' p [] l = absurd (omega (arith, l))
  at_spot_by' p (s ∷ ss) l = at_spot_then p s ss (at_spot_by' p ss) (p s) refl l

  pub first_at : (p : Session T → Bool) (ss : List (Session T)) (i : ℕ) → position p ss ≡ Some i → (x : Session T) × (StandsAt ss i x) × (p x ≡ true)
  first_at p ss i h =
      let e : position_or_len p ss ≡ spot_by p ss = sym (is_position_or_len (spot_by p) p refl (λ x xs. refl) ss) in
      let k = some_of (spot_by p ss) (length ss) i (nat_lt (spot_by p ss) (length ss)) refl
      (ap (λ n. cond (nat_lt n (length ss)) (Some n) None) (sym e) ∙ h) in
      subst (λ n. (x : Session T) × (StandsAt ss n x) × (p x ≡ true)) k.1 (at_spot_by' p ss k.0)

  none_spot : (p : Session T → Bool) (ss : List (Session T)) → spot_by p ss ≡ length ss → Each (λ (s : Session T). p s ≡ false) ss
  none_spot p [] h = tt
  none_spot p (s ∷ ss) h = let k = none_by (p s) (spot_by p ss) (length ss) (spot_by_le p ss) h in (k.0, none_spot p ss k.1)

  pub none_passes : (p : Session T → Bool) (ss : List (Session T)) → position p ss ≡ None → Each (λ (s : Session T). p s ≡ false) ss
  none_passes p ss h =
      let e : position_or_len p ss ≡ spot_by p ss = sym (is_position_or_len (spot_by p) p refl (λ x xs. refl) ss) in
      none_spot p ss (unplaced_by (spot_by p ss) (length ss) (nat_lt (spot_by p ss) (length ss)) (spot_by_le p ss) refl
      (ap (λ n. cond (nat_lt n (length ss)) (Some n) None) (sym e) ∙ h))

  get_any : (ss : List (Session T)) (i : ℕ) (x d : Session T) → StandsAt ss i x → get_or ss i d ≡ x
  get_any [] i x d h = absurd (omega (arith, h.0))
  get_any (y ∷ ys) zero x d h = h.1
  get_any (y ∷ ys) (suc i) x d h = get_any ys i x d (omega (arith, h.0), h.1)

  -- a session that leaves does not stay
  pub stays_not : (ss : List (Session T)) (i : ℕ) (x d : Session T) → StandsAt ss i x → leaves x.disposition ≡ true → (get_or ss i d).disposition ≡ Stays → ⊥
  stays_not ss i x d h l s =
      let e : leaves x.disposition ≡ false = ap (λ (y : Session T). leaves y.disposition) (sym (get_any ss i x d h)) ∙ ap leaves s in
      let q : true ≡ false = sym l ∙ e in
      cc

  pub leaving_is : (ss : List (Session T)) (i : ℕ) (x d d' : Session T) (why : Reason) → StandsAt ss i x → (get_or ss i d').disposition ≡ Leaves why → IsLeaving ss i (get_or ss i d).conn why
  leaving_is ss i x d d' why h f =
      (x, h, sym (ap (λ (y : Session T). y.conn) (get_any ss i x d h)), ap (λ (y : Session T). y.disposition) (sym (get_any ss i x d' h)) ∙ f)

  pub all_stay : (ss : List (Session T)) → Each (λ (s : Session T). leaves s.disposition ≡ false) ss → Each StaysOn ss
  all_stay ss e = each_weaker (λ (s : Session T). leaves s.disposition ≡ false) StaysOn ss (λ s h. stays_is s.disposition h) e
