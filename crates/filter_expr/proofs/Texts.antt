-- What a text says as a function is what the grammar says of it; and each text has one answer at most.
use Rattle.std.proofs.Common.{◌≡◌, ℕ, true, false, List, [], ◌∷◌, ◌++◌, ◌⊎◌, inl, inr, Result, Ok, Err, refl, sym, ap, ◌∙◌, subst, arith, append_assoc}
use Rattle.plain_filters.specs.declared.Expr.{Expr}
use Rattle.plain_filters.specs.Filters.{FilterTree, tree_of}
use Rattle.filter_expr.specs.declared.tokens.Token.{Token}
use Rattle.filter_expr.specs.declared.tokens.Token.TheVariants as token
use Rattle.filter_expr.specs.declared.tokens.PlacedToken.{PlacedToken}
use Rattle.filter_expr.specs.declared.faults.FilterFault.{FilterFault}
use Rattle.filter_expr.specs.declared.faults.FilterFault.TheVariants.{Bad, NumberRange, TooDeep, NoMemory}
use Rattle.filter_expr.specs.Spelling.{TokensOf}
use Rattle.filter_expr.specs.Lexing.{tokens_from}
use Rattle.filter_expr.specs.Reading.{Step, got, failed, whole_filter}
use Rattle.filter_expr.specs.Filters.{tokens, CanGoOn, FaultsAt, FilterOf, FaultOf, MayAnswer, AnswersTree, AnswersFault, SomeTokenList, OneTokenList, SomeAnswer, OneFilter, NotBoth, OneFault}
use Rattle.filter_expr.specs.FilterTexts.{verdict, filter_of, Says, SaysFilter, SaysFault, FilterSaid, FaultSaid}
use Rattle.filter_expr.specs.inner.Gives.{Answers}
use Rattle.filter_expr.proofs.Chains.{wrong}
use Rattle.filter_expr.proofs.Forms.{head_same, tail_same, looser}
use Rattle.filter_expr.proofs.Complete.{Fine, Is}
use Rattle.filter_expr.proofs.Final.{tokens_both, whole_read, IsAnswer, right}
use Rattle.filter_expr.proofs.Tokenised.{lexed_tokens, tokens_unique, tokens_stopped}

-- ---- tokens

pub some_tokens : SomeTokenList
some_tokens text = (tokens_from 0 0 text, lexed_tokens text)

pub one_token_list : OneTokenList
one_token_list text ts us a b = tokens_unique text ts a ∙ sym (tokens_unique text us b)

-- ---- the reading of a text

abbrev pub IsSaid : List ℕ → Step FilterTree → Type 0
IsSaid text (got t rest) = FilterOf text t
IsSaid text (failed f rest) = FaultOf text f

pub said : (text : List ℕ) → IsSaid text (whole_filter (tokens_from 0 0 text))
said text = by (whole_filter (tokens_from 0 0 text)) (right (tokens_from 0 0 text) (tokens_stopped (tokens_from 0 0 text) 0 text (lexed_tokens text)))
  where
    by : (r : Step FilterTree) → IsAnswer (tokens_from 0 0 text) r → IsSaid text r
    by (got t rest) a = (tokens_from 0 0 text, lexed_tokens text, a)
    by (failed f rest) a = (a.0, a.1, a.2, subst (TokensOf text) a.3 (lexed_tokens text), a.4, a.5)

pub says_filter : SaysFilter
unfolding filter_of
says_filter text t b =
    by (whole_filter (tokens_from 0 0 text)) (whole_read b.2.2 (tokens_from 0 0 text) (ap (λ l. tokens l) (sym (tokens_unique text b.0 b.1)) ∙ b.2.1))
  where
    by : (r : Step FilterTree) → Fine (Is t) false 64 64 (token.End ∷ []) r → verdict r ≡ Ok t
    by (got x rest) h = ap Ok h.0
    by (failed (Bad o) rest) h = absurd h
    by (failed (NumberRange o) rest) h = absurd (wrong h)
    by (failed (TooDeep o) rest) h = absurd (omega (arith, h))
    by (failed NoMemory rest) h = absurd h

-- ---- two faults

-- where numbers may be too great no fewer filters go on so
widened : (d : ℕ) (us : List Token) → CanGoOn false d us → CanGoOn true d us
widened d us c = (c.0, c.1, (c.2.0, c.2.1, looser (λ x. refl) (omega arith) (omega arith) c.2.2))

-- no filter within the limits goes on with a fault
stopped : (f : FilterFault) (us : List Token) (at : ℕ) → FaultsAt f us at → CanGoOn false 64 us → ⊥
stopped (Bad o) us at s c = s.1 64 (widened 64 us c)
stopped (NumberRange o) us at s c = s.2 64 c
stopped (TooDeep o) us at s c = s.2 c
stopped NoMemory us at s c = s

one_stop : (f g : FilterFault) (us : List Token) (at : ℕ) → FaultsAt f us at → FaultsAt g us at → f ≡ g
one_stop (Bad o) (Bad p) us at a b = ap Bad (a.0 ∙ sym b.0)
one_stop (Bad o) (NumberRange p) us at a b = absurd (a.1 b.1.0 b.1.1)
one_stop (Bad o) (TooDeep p) us at a b = absurd (a.1 b.1.0 (widened b.1.0 us b.1.1))
one_stop (NumberRange o) (Bad p) us at a b = absurd (b.1 a.1.0 a.1.1)
one_stop (NumberRange o) (NumberRange p) us at a b = ap NumberRange (a.0 ∙ sym b.0)
one_stop (NumberRange o) (TooDeep p) us at a b = absurd (a.2 b.1.0 b.1.1)
one_stop (TooDeep o) (Bad p) us at a b = absurd (b.1 a.1.0 (widened a.1.0 us a.1.1))
one_stop (TooDeep o) (NumberRange p) us at a b = absurd (b.2 a.1.0 a.1.1)
one_stop (TooDeep o) (TooDeep p) us at a b = ap TooDeep (a.0 ∙ sym b.0)
one_stop NoMemory g us at a b = absurd a
one_stop (Bad o) NoMemory us at a b = absurd b
one_stop (NumberRange o) NoMemory us at a b = absurd b
one_stop (TooDeep o) NoMemory us at a b = absurd b

-- where two splits of one list meet
abbrev Meet : List PlacedToken → List PlacedToken → PlacedToken → PlacedToken → Type 0
Meet xs ys x y = ((xs ≡ ys) × (x ≡ y)) ⊎ (((m : List PlacedToken) × (ys ≡ xs ++ x ∷ m)) ⊎ ((m : List PlacedToken) × (xs ≡ ys ++ y ∷ m)))

meet_more : (s : PlacedToken) (xs ys : List PlacedToken) (x y : PlacedToken) → Meet xs ys x y → Meet (s ∷ xs) (s ∷ ys) x y
meet_more s xs ys x y (inl e) = inl (ap (λ l. s ∷ l) e.0, e.1)
meet_more s xs ys x y (inr (inl e)) = inr (inl (e.0, ap (λ l. s ∷ l) e.1))
meet_more s xs ys x y (inr (inr e)) = inr (inr (e.0, ap (λ l. s ∷ l) e.1))

meet : (xs ys cs bs : List PlacedToken) (x y : PlacedToken) → xs ++ x ∷ cs ≡ ys ++ y ∷ bs → Meet xs ys x y
meet [] [] cs bs x y e = inl (refl, head_same x y cs bs e)
meet [] (t ∷ ys) cs bs x y e = inr (inl (ys, ap (λ s. s ∷ ys) (sym (head_same x t cs (ys ++ y ∷ bs) e))))
meet (s ∷ xs) [] cs bs x y e = inr (inr (xs, ap (λ t. t ∷ xs) (head_same s y (xs ++ x ∷ cs) bs e)))
meet (s ∷ xs) (t ∷ ys) cs bs x y e =
    subst (λ z. Meet (s ∷ xs) (z ∷ ys) x y) (head_same s t (xs ++ x ∷ cs) (ys ++ y ∷ bs) e) (meet_more s xs ys x y (meet xs ys cs bs x y (tail_same s t (xs ++ x ∷ cs) (ys ++ y ∷ bs) e)))

-- no filter within the limits goes on past a fault
not_past : (f : FilterFault) (before m us : List PlacedToken) (here : PlacedToken) → us ≡ before ++ here ∷ m → FaultsAt f (tokens before ++ here.token ∷ []) here.offset → CanGoOn false 64 (tokens us) → ⊥
not_past f before m us here e s c =
    stopped f (tokens before ++ here.token ∷ []) here.offset s
    (earlier (subst (CanGoOn false 64) (ap (λ l. tokens l) e ∙ tokens_both before (here ∷ m) ∙ sym (append_assoc (tokens before) (here.token ∷ []) (tokens m))) c))
  where
    earlier : CanGoOn false 64 ((tokens before ++ here.token ∷ []) ++ tokens m) → CanGoOn false 64 (tokens before ++ here.token ∷ [])
    earlier x = (x.0, tokens m ++ x.1, (x.2.0, sym (append_assoc (tokens before ++ here.token ∷ []) (tokens m) x.1) ∙ x.2.1, x.2.2))

-- ---- one answer

pub one_fault : OneFault
one_fault text f g a b = by (meet a.0 b.0 a.2 b.2 a.1 b.1 (one_token_list text (a.0 ++ a.1 ∷ a.2) (b.0 ++ b.1 ∷ b.2) a.3 b.3))
  where
    by : Meet a.0 b.0 a.1 b.1 → f ≡ g
    by (inl e) =
        one_stop f g (tokens a.0 ++ a.1.token ∷ []) a.1.offset a.5
        (subst (λ l. FaultsAt g (tokens l ++ a.1.token ∷ []) a.1.offset) (sym e.0) (subst (λ (h : PlacedToken). FaultsAt g (tokens b.0 ++ h.token ∷ []) h.offset) (sym e.1) b.5))
    by (inr (inl e)) = absurd (not_past f a.0 e.0 b.0 a.1 e.1 a.5 b.4)
    by (inr (inr e)) = absurd (not_past g b.0 e.0 a.0 b.1 e.1 b.5 a.4)

pub not_both_of : NotBoth
not_both_of text t f a b =
    let same : tokens (b.0 ++ b.1 ∷ b.2) ≡ tokens a.0 = ap (λ l. tokens l) (one_token_list text (b.0 ++ b.1 ∷ b.2) a.0 b.3 a.1) in
    stopped f (tokens b.0 ++ b.1.token ∷ []) b.1.offset b.5
    (t, tokens b.2, (a.2.0, append_assoc (tokens b.0) (b.1.token ∷ []) (tokens b.2) ∙ sym (tokens_both b.0 (b.1 ∷ b.2)) ∙ same ∙ a.2.1, a.2.2))

ok_same : (s t : FilterTree) → ◌≡◌ {A = Result FilterTree FilterFault} (Ok s) (Ok t) → s ≡ t
ok_same s t q = cc

err_same : (f g : FilterFault) → ◌≡◌ {A = Result FilterTree FilterFault} (Err f) (Err g) → f ≡ g
err_same f g q = cc

pub one_filter : OneFilter
one_filter text s t a b = ok_same s t (sym (says_filter text s a) ∙ says_filter text t b)

-- ---- what the function says

pub says_fault : SaysFault
unfolding filter_of
says_fault text f b = by (whole_filter (tokens_from 0 0 text)) (said text)
  where
    by : (r : Step FilterTree) → IsSaid text r → verdict r ≡ Err f
    by (got t rest) a = absurd (not_both_of text t f a b)
    by (failed g rest) a = ap Err (one_fault text g f a b)

pub filter_said : FilterSaid
unfolding filter_of
filter_said text t q = by (whole_filter (tokens_from 0 0 text)) (said text) q
  where
    by : (r : Step FilterTree) → IsSaid text r → verdict r ≡ Ok t → FilterOf text t
    by (got x rest) a e = subst (FilterOf text) (ok_same x t e) a
    by (failed f rest) a e = absurd (cc)

pub fault_said : FaultSaid
unfolding filter_of
fault_said text f q = by (whole_filter (tokens_from 0 0 text)) (said text) q
  where
    by : (r : Step FilterTree) → IsSaid text r → verdict r ≡ Err f → FaultOf text f
    by (got x rest) a e = absurd (cc)
    by (failed g rest) a e = subst (FaultOf text) (err_same g f e) a

pub some_answer : SomeAnswer
some_answer text = by (whole_filter (tokens_from 0 0 text)) (said text)
  where
    by : (r : Step FilterTree) → IsSaid text r → ((t : FilterTree) × FilterOf text t) ⊎ ((f : FilterFault) × FaultOf text f)
    by (got t rest) a = inl (t, a)
    by (failed f rest) a = inr (f, a)

-- ---- answers

-- the reading of the tokens is the answer
pub may_answer : (text : List ℕ) (r : Result Expr FilterFault) → Answers tree_of r (whole_filter (tokens_from 0 0 text)) → MayAnswer text r
may_answer text (Ok e) a = subst (IsSaid text) a.1 (said text)
may_answer text (Err (Bad o)) a = subst (IsSaid text) a.1 (said text)
may_answer text (Err (NumberRange o)) a = subst (IsSaid text) a.1 (said text)
may_answer text (Err (TooDeep o)) a = subst (IsSaid text) a.1 (said text)
may_answer text (Err NoMemory) a = tt

pub says : (text : List ℕ) (r : Result Expr FilterFault) → Answers tree_of r (whole_filter (tokens_from 0 0 text)) → Says (filter_of text) r
unfolding filter_of
says text (Ok e) a = ap verdict a.1
says text (Err (Bad o)) a = ap verdict a.1
says text (Err (NumberRange o)) a = ap verdict a.1
says text (Err (TooDeep o)) a = ap verdict a.1
says text (Err NoMemory) a = tt

pub answers_tree : (text : List ℕ) (r : Result Expr FilterFault) → MayAnswer text r → (t : FilterTree) → FilterOf text t → AnswersTree t r
answers_tree text (Ok d) a t b = one_filter text (tree_of d) t a b
answers_tree text (Err (Bad o)) a t b = not_both_of text t (Bad o) b a
answers_tree text (Err (NumberRange o)) a t b = not_both_of text t (NumberRange o) b a
answers_tree text (Err (TooDeep o)) a t b = not_both_of text t (TooDeep o) b a
answers_tree text (Err NoMemory) a t b = tt

pub answers_fault : (text : List ℕ) (r : Result Expr FilterFault) → MayAnswer text r → (f : FilterFault) → FaultOf text f → AnswersFault f r
answers_fault text (Ok d) a f b = not_both_of text (tree_of d) f a b
answers_fault text (Err (Bad o)) a f b = one_fault text (Bad o) f a b
answers_fault text (Err (NumberRange o)) a f b = one_fault text (NumberRange o) f a b
answers_fault text (Err (TooDeep o)) a f b = one_fault text (TooDeep o) f a b
answers_fault text (Err NoMemory) a f b = tt
