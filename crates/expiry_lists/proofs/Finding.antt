-- What is shown, against what each key's node has.
use Rattle.std.proofs.Common.{◌≡◌, ◌≤◌, Bool, true, false, ◌&&◌, ◌||◌, cond, List, [], ◌∷◌, length, find, Option, Some, None, option_map, is_some, refl, sym, ap, ◌∙◌, subst, arith}
use Rattle.std.specs.List.{AllByRecursion, IsDistinct, list_any}
use Rattle.std.specs.Map.{keys_of}
use Rattle.farm_history.specs.declared.keys.Key.{Key}
use Rattle.farm_history.specs.declared.keys.Mark.{Mark}
use Rattle.farm_history.specs.Plans.{same_key, AreApart}
use Rattle.farm_history.specs.Lists.{Each}
use Rattle.farm_history.proofs.Lists.{same_key-true, same_key-self, same_key-sym, each-map}
use Rattle.expiry_lists.specs.Marks.{Shown, shown_key, mark_of, dirtied_marks, clean_marks}
use Rattle.expiry_lists.specs.inner.Nodes.{Node, node_of, node_mark, is_clean, is_clean_at, has_node, shown_before, shown_of}
use Rattle.expiry_lists.proofs.Dirtying.{NoneOf, dirties_none, dirties_here, dirties_other}

-- no two of the table have one key
abbrev pub Distinct : List (Key × Node) → Type 0
Distinct es = IsDistinct same_key (keys_of es)

-- what has a node is a key of the list
pub there_listed : (k : Key) (es : List (Key × Node)) → has_node es k ≡ list_any (same_key k) (keys_of es)
there_listed k [] = refl
there_listed k (e ∷ es) = go (there_listed k es) (same_key k e.0)
  where
    go : has_node es k ≡ list_any (same_key k) (keys_of es) → (b : Bool) → is_some (cond b (Some e.1) (node_of es k)) ≡ (b || list_any (same_key k) (keys_of es))
    go ih true = refl
    go ih false = ih

-- what no key of the list is has no node
pub absent : (k : Key) (es : List (Key × Node)) → AllByRecursion (λ y. same_key k y ≡ false) (keys_of es) → node_of es k ≡ None
absent k [] none = refl
absent k (e ∷ es) none = rw none.0 (absent k es none.1)

-- what has a node is not the key that no key of the list is
there_apart : (k q : Key) (es : List (Key × Node)) → AllByRecursion (λ y. same_key k y ≡ false) (keys_of es) → has_node es q ≡ true → same_key q k ≡ false
there_apart k q es none there = go (same_key q k) refl
  where
    go : (b : Bool) → same_key q k ≡ b → same_key q k ≡ false
    go true same =
        let own : q ≡ k = same_key-true q k same in
        let gone : has_node es q ≡ false = ap (λ (x : Key). has_node es x) own ∙ ap is_some (absent k es none) in
        let never : true ≡ false = sym there ∙ gone in
        cc
    go false other = other

pub marked_there : (o : Option Node) (m : Mark) → node_mark o ≡ Some m → is_some o ≡ true
marked_there None m is = cc
marked_there (Some n) m is = refl

-- each that is shown is the mark of its key's node
abbrev pub Marked : List (Key × Node) → Shown → Type 0
Marked es s = node_mark (node_of es s.key) ≡ Some s.mark

module _ (e : Key × Node) (es : List (Key × Node)) (none : AllByRecursion (λ y. same_key e.0 y ≡ false) (keys_of es)) where
  later : (s : Shown) → Marked es s → Marked (e ∷ es) s
  later s is = let apart : same_key s.key e.0 ≡ false = there_apart e.0 s.key es none (marked_there (node_of es s.key) s.mark is) in rw apart is

  with_first : (o : Option Mark) → e.1.mark ≡ o → Each (Marked (e ∷ es)) (shown_of es) → Each (Marked (e ∷ es)) (shown_before e.0 o (shown_of es))
  with_first None is rest = rest
  with_first (Some m) is rest = (rw (same_key-self e.0) is, rest)

pub all_marked : (es : List (Key × Node)) → Distinct es → Each (Marked es) (shown_of es)
unfolding IsDistinct
all_marked [] apart = tt
all_marked (e ∷ es) apart = with_first e es apart.0 e.1.mark refl (each-map (Marked es) (Marked (e ∷ es)) (shown_of es) (later e es apart.0) (all_marked es apart.1))

-- the mark that is found among what is shown is that of the key's node
found_before : (k key : Key) (o : Option Mark) (rest : List Shown) → mark_of (shown_before key o rest) k ≡ cond (same_key k key && is_some o) o (mark_of rest k)
found_before k key None rest = go (same_key k key)
  where
    go : (b : Bool) → mark_of rest k ≡ cond (b && false) None (mark_of rest k)
    go true = refl
    go false = refl
found_before k key (Some m) rest = go (same_key k key)
  where
    go : (b : Bool) → option_map (λ (s : Shown). s.mark) (cond b (Some (record { key = key; mark = m })) (find (λ s. same_key k s.key) rest)) ≡ cond (b && true) (Some m) (mark_of rest k)
    go true = refl
    go false = refl

pub mark_found : (es : List (Key × Node)) → Distinct es → (k : Key) → mark_of (shown_of es) k ≡ node_mark (node_of es k)
unfolding IsDistinct
mark_found [] apart k = refl
mark_found (e ∷ es) apart k = found_before k e.0 e.1.mark (shown_of es) ∙ go (mark_found es apart.1 k) (same_key k e.0) refl e.1.mark refl
  where
    go : mark_of (shown_of es) k ≡ node_mark (node_of es k) → (b : Bool) → same_key k e.0 ≡ b → (o : Option Mark) → e.1.mark ≡ o → cond (b && is_some o) o (mark_of (shown_of es) k) ≡ node_mark (cond b (Some e.1) (node_of es k))
    go ih false other o is = ih
    go ih true same (Some m) is = sym is
    go ih true same None is =
        let own : k ≡ e.0 = same_key-true k e.0 same in
        ih ∙ (ap (λ (x : Key). node_mark (node_of es x)) own ∙ (ap node_mark (absent e.0 es apart.0) ∙ sym is))

-- a later key of the list is none of what is shown before it
shown_apart : (k : Key) (es : List (Key × Node)) → AllByRecursion (λ y. same_key k y ≡ false) (keys_of es) → Each (λ (s : Shown). same_key k s.key ≡ false) (shown_of es)
shown_apart k [] none = tt
shown_apart k (e ∷ es) none = go e.1.mark (shown_apart k es none.1)
  where
    go : (o : Option Mark) → Each (λ (s : Shown). same_key k s.key ≡ false) (shown_of es) → Each (λ (s : Shown). same_key k s.key ≡ false) (shown_before e.0 o (shown_of es))
    go None rest = rest
    go (Some m) rest = (none.0, rest)

-- keys apart
none_any : (k : Key) (ss : List Shown) → Each (λ (s : Shown). same_key k s.key ≡ false) ss → list_any (λ s. same_key s.key k) ss ≡ false
none_any k [] none = refl
none_any k (s ∷ ss) none = rw (same_key-sym s.key k, none.0) (none_any k ss none.1)

pub apart_shown : (es : List (Key × Node)) → Distinct es → AreApart shown_key (shown_of es)
unfolding IsDistinct
apart_shown [] apart = tt
apart_shown (e ∷ es) apart = go e.1.mark (apart_shown es apart.1)
  where
    go : (o : Option Mark) → AreApart shown_key (shown_of es) → AreApart shown_key (shown_before e.0 o (shown_of es))
    go None rest = rest
    go (Some m) rest = (none_any e.0 (shown_of es) (shown_apart e.0 es apart.0), rest)

-- no more are shown than have nodes
pub length-shown_of : (es : List (Key × Node)) → length (shown_of es) ≤ length es
length-shown_of [] = omega arith
length-shown_of (e ∷ es) = go e.1.mark (length-shown_of es)
  where
    go : (o : Option Mark) → length (shown_of es) ≤ length es → length (shown_before e.0 o (shown_of es)) ≤ length (e ∷ es)
    go None ih = omega arith
    go (Some m) ih = omega arith

-- one key is clean, or none
pub clean_marks-key : (es : List (Key × Node)) → Distinct es → (key : Key) → clean_marks (same_key key) (shown_of es) ≡ cond (is_clean_at es key) 1 0
unfolding IsDistinct
clean_marks-key [] apart key = refl
clean_marks-key (e ∷ es) apart key = go (clean_marks-key es apart.1 key) (same_key key e.0) refl e.1.mark refl
  where
    go : clean_marks (same_key key) (shown_of es) ≡ cond (is_clean_at es key) 1 0 → (b : Bool) → same_key key e.0 ≡ b → (o : Option Mark) → e.1.mark ≡ o →
        clean_marks (same_key key) (shown_before e.0 o (shown_of es)) ≡ cond (is_clean (node_mark (cond b (Some e.1) (node_of es key)))) 1 0
    go ih false other None is = ih
    go ih false other (Some m) is = sym (dirties_other (same_key key) (record { key = e.0; mark = m }) {xs = shown_of es} {ys = dirtied_marks (same_key key) (shown_of es)} other (record { marks = refl; counted = sym ih })).counted
    go ih true here o is = first o ∙ ap (λ p. cond (is_clean p) 1 0) (sym is)
      where
        key_is : key ≡ e.0
        key_is = same_key-true key e.0 here

        none : NoneOf (same_key key) (shown_of es)
        none = each-map _ _ (shown_of es) (λ s apart' clean. subst (λ (x : Key). same_key x s.key ≡ false) (sym key_is) apart') (shown_apart e.0 es apart.0)

        first : (o : Option Mark) → clean_marks (same_key key) (shown_before e.0 o (shown_of es)) ≡ cond (is_clean o) 1 0
        first None = sym (dirties_none (same_key key) (shown_of es) none).counted
        first (Some m) = sym (dirties_here (same_key key) (record { key = e.0; mark = m }) here (dirties_none (same_key key) (shown_of es) none)).counted
