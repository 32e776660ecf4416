-- A gap, and what is read behind it.
use Rattle.std.proofs.Common.{◌≡◌, ℕ, ◌+◌, Bool, true, false, not, ◌&&◌, List, [], ◌∷◌, ◌++◌, Option, Some, None, refl, sym, ap, ◌∙◌, inl, inr, Result, Ok, Err, arith, append_assoc}
use Rattle.std.specs.Prelude.{if◌then◌else◌, ◌==◌, ◌⊎◌}
use Rattle.std.specs.Option.{option_map_or}
use Rattle.std.specs.List.{All, concat, list_all}
use Rattle.std.proofs.lemmas.Bool.{false≢true}
use Rattle.std.proofs.lemmas.Bool.Decides.{nat_tests}
use Rattle.std.proofs.lemmas.List.Elements.{All-nil, All-cons, All-head, All-tail}
use Rattle.plain_shapes.specs.Images.{Pixels}
use Rattle.plain_image.specs.PpmText.{is_whitespace, after_in_gap}
use Rattle.plain_image.specs.declared.reading.PpmFault.{PpmFault}
use Rattle.plain_image.specs.declared.reading.PpmFault.TheVariants.{Bad, TooLarge, NoMemory}
use Rattle.plain_image.specs.declared.reading.Gap.{Gap}
use Rattle.plain_image.specs.declared.reading.Gap.TheVariants.{Bare, Blank, Comment}
use Rattle.plain_image.specs.PpmGrammar.{IsBlank, IsGap}
use Rattle.plain_image.proofs.PpmParts.{Reader, BadAt, Knows, IsFirm, firm_ok, firm_large, firm_memory, bad_same, nil_cons, cons_parts, same_first}

-- ---- the words of a gap, by its places

-- a gap may end here
abbrev pub is_end : Gap → Bool
is_end Blank = true
is_end Bare = false
is_end Comment = false

-- the bytes go on from this place to a place where a gap may end
abbrev pub ends : Gap → List ℕ → Bool
ends p [] = is_end p
ends p (b ∷ t) = option_map_or (λ next. ends next t) (after_in_gap p b) false

-- ---- reading

-- what is read where the next byte is of no gap
abbrev pub end_then : Gap → Reader → Reader
end_then Blank k n t = k n t
end_then Bare k n t = Err (Bad n)
end_then Comment k n t = Err (Bad n)

abbrev pub gap_then : Gap → Reader → Reader
gap_then p k n [] = Err (Bad n)
gap_then p k n (b ∷ t) = option_map_or (λ next. gap_then next k (n + 1) t) (after_in_gap p b) (end_then p k n (b ∷ t))

-- what is read behind a gap does not begin as one
pub record Begins (k : Reader) : Type 0 where
  pub none : (n : ℕ) → k n [] ≡ Err (Bad n)
  pub wrong : (n b : ℕ) (t : List ℕ) (next : Gap) → after_in_gap Blank b ≡ Some next → k n (b ∷ t) ≡ Err (Bad n)

-- the rest of a gap from this place on, and behind it what holds there
pub record Gapped (p : Gap) (behind : List ℕ → Type 0) (text : List ℕ) : Type 0 where
  pub gap : List ℕ
  pub rest : List ℕ
  pub split : text ≡ gap ++ rest
  pub ending : ends p gap ≡ true
  pub holds : behind rest

pub gapped_map : (p : Gap) (P Q : List ℕ → Type 0) (text : List ℕ) → ((r : List ℕ) → P r → Q r) → Gapped p P text → Gapped p Q text
gapped_map p P Q text f g = record { gap = g.gap; rest = g.rest; split = g.split; ending = g.ending; holds = f g.rest g.holds }

gapped_more : (p next : Gap) (b : ℕ) (t : List ℕ) (P : List ℕ → Type 0) → after_in_gap p b ≡ Some next → Gapped next P t → Gapped p P (b ∷ t)
gapped_more p next b t P e g = record {
  gap = b ∷ g.gap;
  rest = g.rest;
  split = ap (λ x. b ∷ x) g.split;
  ending = ap (λ o. option_map_or (λ next. ends next g.gap) o false) e ∙ g.ending;
  holds = g.holds;
}

gap_next : (p next : Gap) (k : Reader) (n b : ℕ) (t : List ℕ) → after_in_gap p b ≡ Some next → gap_then p k n (b ∷ t) ≡ gap_then next k (n + 1) t
gap_next p next k n b t e = ap (λ o. option_map_or (λ next. gap_then next k (n + 1) t) o (end_then p k n (b ∷ t))) e

pub gap_stops : (p : Gap) (k : Reader) (n b : ℕ) (t : List ℕ) → after_in_gap p b ≡ None → gap_then p k n (b ∷ t) ≡ end_then p k n (b ∷ t)
gap_stops p k n b t e = ap (λ o. option_map_or (λ next. gap_then next k (n + 1) t) o (end_then p k n (b ∷ t))) e

gap_back : (p : Gap) (k : Reader) (n : ℕ) (t : List ℕ) (x : Result Pixels PpmFault) → IsFirm x → gap_then p k n t ≡ x → Gapped p (λ r. (m : ℕ) × (k m r ≡ x)) t
gap_back p k n [] x f h = absurd (f n (sym h))
gap_back p k n (b ∷ t) x f h = go (after_in_gap p b) refl h (λ next. gap_back next k (n + 1) t x f)
  where
    stop : (p : Gap) → end_then p k n (b ∷ t) ≡ x → Gapped p (λ r. (m : ℕ) × (k m r ≡ x)) (b ∷ t)
    stop Blank h = record { gap = []; rest = b ∷ t; split = refl; ending = refl; holds = (n, h) }
    stop Bare h = absurd (f n (sym h))
    stop Comment h = absurd (f n (sym h))

    go : (o : Option Gap) → after_in_gap p b ≡ o → option_map_or (λ next. gap_then next k (n + 1) t) o (end_then p k n (b ∷ t)) ≡ x
        → ((next : Gap) → gap_then next k (n + 1) t ≡ x → Gapped next (λ r. (m : ℕ) × (k m r ≡ x)) t) → Gapped p (λ r. (m : ℕ) × (k m r ≡ x)) (b ∷ t)
    go (Some next) e h ih = gapped_more p next b t (λ r. (m : ℕ) × (k m r ≡ x)) e (ih next h)
    go None e h ih = stop p h

-- at a place where a gap may end, what is read behind it is read
gap_ended : (k : Reader) → Begins k → (n : ℕ) (r : List ℕ) (x : Result Pixels PpmFault) → IsFirm x → k n r ≡ x → gap_then Blank k n r ≡ x
gap_ended k s n [] x f h = absurd (f n (sym h ∙ s.none n))
gap_ended k s n (b ∷ r) x f h = go (after_in_gap Blank b) refl
  where
    go : (o : Option Gap) → after_in_gap Blank b ≡ o → gap_then Blank k n (b ∷ r) ≡ x
    go (Some next) e = absurd (f n (sym h ∙ s.wrong n b r next e))
    go None e = gap_stops Blank k n b r e ∙ h

gap_runs : (k : Reader) → Begins k → (gap : List ℕ) (p : Gap) (n : ℕ) (r : List ℕ) (x : Result Pixels PpmFault) → IsFirm x
    → ends p gap ≡ true → ((m : ℕ) → k m r ≡ x) → gap_then p k n (gap ++ r) ≡ x
gap_runs k s [] Blank n r x f e h = gap_ended k s n r x f (h n)
gap_runs k s [] Bare n r x f e h = absurd (false≢true e)
gap_runs k s [] Comment n r x f e h = absurd (false≢true e)
gap_runs k s (b ∷ gap) p n r x f e h = go (after_in_gap p b) refl e (λ next q. gap_runs k s gap next (n + 1) r x f q h)
  where
    go : (o : Option Gap) → after_in_gap p b ≡ o → option_map_or (λ next. ends next gap) o false ≡ true
        → ((next : Gap) → ends next gap ≡ true → gap_then next k (n + 1) (gap ++ r) ≡ x) → gap_then p k n (b ∷ (gap ++ r)) ≡ x
    go (Some next) q e ih = gap_next p next k n b (gap ++ r) q ∙ ih next e
    go None q e ih = absurd (false≢true e)

gap_reads : (k : Reader) → Begins k → (p : Gap) (n : ℕ) (t : List ℕ) (x : Result Pixels PpmFault) → IsFirm x → Gapped p (λ r. (m : ℕ) → k m r ≡ x) t → gap_then p k n t ≡ x
gap_reads k s p n t x f g = ap (gap_then p k n) g.split ∙ gap_runs k s g.gap p n g.rest x f g.ending g.holds

-- a shortest end of a gap from each place
finish : Gap → List ℕ
finish Blank = []
finish Bare = 32 ∷ []
finish Comment = 10 ∷ []

finish_ends : (p : Gap) → ends p (finish p) ≡ true
unfolding finish
finish_ends Blank = refl
finish_ends Bare = refl
finish_ends Comment = refl

gap_bad : (k : Reader) (says : List ℕ → Pixels → Type 0) (large : List ℕ → Type 0) → Knows k says large
    → (p : Gap) (n : ℕ) (t : List ℕ) (m : ℕ) → gap_then p k n t ≡ Err (Bad m) → BadAt (gap_then p k) (λ t i. Gapped p (λ r. says r i) t) n t m
gap_bad k says large known p n [] m h = record {
  front = [];
  rest = [];
  more = finish p ++ known.some.0;
  image = known.some.1;
  split = refl;
  place = let e = bad_same n m h in omega (arith, e);
  goes = record { gap = finish p; rest = known.some.0; split = refl; ending = finish_ends p; holds = known.some.2 };
  stays = λ d q r e. absurd (nil_cons d q e);
}
gap_bad k says large known p n (b ∷ t) m h = go (after_in_gap p b) refl h (λ next. gap_bad k says large known next (n + 1) t m)
  where
    here : (p : Gap) → after_in_gap p b ≡ None → ((n : ℕ) (u : List ℕ) → end_then p k n u ≡ Err (Bad n)) → ◌≡◌ {A = Result Pixels PpmFault} (Err (Bad n)) (Err (Bad m))
        → BadAt (gap_then p k) (λ t i. Gapped p (λ r. says r i) t) n (b ∷ t) m
    here p e w h = record {
      front = [];
      rest = b ∷ t;
      more = finish p ++ known.some.0;
      image = known.some.1;
      split = refl;
      place = let q = bad_same n m h in omega (arith, q);
      goes = record { gap = finish p; rest = known.some.0; split = refl; ending = finish_ends p; holds = known.some.2 };
      stays = λ d q r s. gap_stops p k n d r (ap (after_in_gap p) (sym (cons_parts b d t q s).0) ∙ e) ∙ w n (d ∷ r) ∙ h;
    }

    stop : (p : Gap) → after_in_gap p b ≡ None → end_then p k n (b ∷ t) ≡ Err (Bad m) → BadAt (gap_then p k) (λ t i. Gapped p (λ r. says r i) t) n (b ∷ t) m
    stop Blank e h = let a = known.bad n (b ∷ t) m h in record {
      front = a.front;
      rest = a.rest;
      more = a.more;
      image = a.image;
      split = a.split;
      place = a.place;
      goes = record { gap = []; rest = a.front ++ a.more; split = refl; ending = refl; holds = a.goes };
      stays = λ d q r s. let f = same_first b t a.front a.rest d q r a.split s in
          ap (gap_then Blank k n) f.1 ∙ gap_stops Blank k n b f.0 e ∙ ap (k n) (sym f.1) ∙ a.stays d q r s;
    }
    stop Bare e h = here Bare e (λ _ _. refl) h
    stop Comment e h = here Comment e (λ _ _. refl) h

    go : (o : Option Gap) → after_in_gap p b ≡ o → option_map_or (λ next. gap_then next k (n + 1) t) o (end_then p k n (b ∷ t)) ≡ Err (Bad m)
        → ((next : Gap) → gap_then next k (n + 1) t ≡ Err (Bad m) → BadAt (gap_then next k) (λ t i. Gapped next (λ r. says r i) t) (n + 1) t m)
        → BadAt (gap_then p k) (λ t i. Gapped p (λ r. says r i) t) n (b ∷ t) m
    go (Some next) e h ih = let a = ih next h in record {
      front = b ∷ a.front;
      rest = a.rest;
      more = a.more;
      image = a.image;
      split = ap (λ x. b ∷ x) a.split;
      place = omega (arith, a.place);
      goes = gapped_more p next b (a.front ++ a.more) (λ r. says r a.image) e a.goes;
      stays = λ d q r s. gap_next p next k n b (a.front ++ d ∷ r) e ∙ a.stays d q r s;
    }
    go None e h ih = stop p e h

pub knows_gap : (k : Reader) (says : List ℕ → Pixels → Type 0) (large : List ℕ → Type 0) → Begins k → Knows k says large
    → (p : Gap) → Knows (gap_then p k) (λ t i. Gapped p (λ r. says r i) t) (Gapped p large)
knows_gap k says large s known p = record {
  some = (finish p ++ known.some.0, known.some.1, record { gap = finish p; rest = known.some.0; split = refl; ending = finish_ends p; holds = known.some.2 });
  sound = λ n t i h. gapped_map p (λ r. (m : ℕ) × (k m r ≡ Ok i)) (λ r. says r i) t (λ r q. known.sound q.0 r i q.1) (gap_back p k n t (Ok i) (firm_ok i) h);
  reads = λ n t i g. gap_reads k s p n t (Ok i) (firm_ok i) (gapped_map p (λ r. says r i) (λ r. (m : ℕ) → k m r ≡ Ok i) t (λ r q m. known.reads m r i q) g);
  over = λ n t h. gapped_map p (λ r. (m : ℕ) × (k m r ≡ Err TooLarge)) large t (λ r q. known.over q.0 r q.1) (gap_back p k n t (Err TooLarge) firm_large h);
  passes = λ n t g. gap_reads k s p n t (Err TooLarge) firm_large (gapped_map p large (λ r. (m : ℕ) → k m r ≡ Err TooLarge) t (λ r q m. known.passes m r q) g);
  bad = gap_bad k says large known p;
  never = λ n t h. let g = gap_back p k n t (Err NoMemory) firm_memory h in known.never g.holds.0 g.rest g.holds.1;
}

-- ---- the grammar of gaps

-- a comment ends at its newline
comment_ends : (words rest : List ℕ) → list_all (λ b. not (b == 10)) words ≡ true → ends Comment (words ++ 10 ∷ rest) ≡ ends Blank rest
comment_ends [] rest h = refl
comment_ends (b ∷ words) rest h = go (b == 10) refl h (comment_ends words rest)
  where
    go : (o : Bool) → (b == 10) ≡ o → (not o && list_all (λ b. not (b == 10)) words) ≡ true
        → (list_all (λ b. not (b == 10)) words ≡ true → ends Comment (words ++ 10 ∷ rest) ≡ ends Blank rest)
        → ends Comment (b ∷ (words ++ 10 ∷ rest)) ≡ ends Blank rest
    go true e h ih = absurd (false≢true h)
    go false e h ih = ap (λ o. option_map_or (λ next. ends next (words ++ 10 ∷ rest)) (if o then Some Blank else Some Comment) false) e ∙ ih h

-- a blank, or a comment with its newline
abbrev IsPiece : List ℕ → Type 0
IsPiece text = IsBlank text ⊎ ((words : List ℕ) × (text ≡ 35 ∷ (words ++ 10 ∷ [])) × (list_all (λ b. not (b == 10)) words ≡ true))

-- a piece leads from a place outside of comments to one where a gap may end
piece_ends : (p : Gap) → ((b : ℕ) → after_in_gap p b ≡ after_in_gap Bare b) → (piece rest : List ℕ) → IsPiece piece → ends p (piece ++ rest) ≡ ends Blank rest
piece_ends p like piece rest (inl (b, s, w)) =
    ap (λ t. ends p (t ++ rest)) s ∙ ap (λ o. option_map_or (λ next. ends next rest) o false) (like b)
    ∙ ap (λ o. option_map_or (λ next. ends next rest) (if o then Some Blank else (if b == 35 then Some Comment else None)) false) w
piece_ends p like piece rest (inr (words, s, w)) =
    ap (λ t. ends p (t ++ rest)) s ∙ ap (λ o. option_map_or (λ next. ends next (words ++ 10 ∷ [] ++ rest)) o false) (like 35)
    ∙ ap (ends Comment) (append_assoc words (10 ∷ []) rest) ∙ comment_ends words rest w

pieces_end : (pieces : List (List ℕ)) → All IsPiece pieces → ends Blank (concat pieces) ≡ true
pieces_end [] h = refl
pieces_end (piece ∷ pieces) h =
    piece_ends Blank (λ b. refl) piece (concat pieces) (All-head IsPiece piece pieces h) ∙ pieces_end pieces (All-tail IsPiece piece pieces h)

pub gap_ends : (gap : List ℕ) → IsGap gap → ends Bare gap ≡ true
gap_ends gap ([], s, some, each) = absurd (omega (arith, some))
gap_ends gap (piece ∷ pieces, s, some, each) =
    ap (ends Bare) s ∙ piece_ends Bare (λ b. refl) piece (concat pieces) (All-head IsPiece piece pieces each) ∙ pieces_end pieces (All-tail IsPiece piece pieces each)

-- what the bytes are from each place on
abbrev Rest : Gap → List ℕ → Type 0
Rest Bare text = IsGap text
Rest Blank text = (pieces : List (List ℕ)) × (text ≡ concat pieces) × All IsPiece pieces
Rest Comment text = (words : List ℕ) × (more : List (List ℕ)) × (text ≡ words ++ 10 ∷ concat more) × (list_all (λ b. not (b == 10)) words ≡ true) × All IsPiece more

-- a byte outside of comments begins a piece
begun : (b : ℕ) (t : List ℕ) → option_map_or (λ next. ends next t) (after_in_gap Bare b) false ≡ true → ((next : Gap) → ends next t ≡ true → Rest next t) → IsGap (b ∷ t)
begun b t h ih = blank (is_whitespace b) refl h
  where
    comment : (o : Bool) → (b == 35) ≡ o → option_map_or (λ next. ends next t) (if o then Some Comment else None) false ≡ true → IsGap (b ∷ t)
    comment true e h = let (words, more, s, w, each) = ih Comment h in
        let piece : List ℕ = 35 ∷ (words ++ 10 ∷ []) in
        let sharp : b ≡ 35 = grind (arith, nat_tests) in
        (piece ∷ more, ap (λ x. x ∷ t) sharp ∙ ap (λ x. 35 ∷ x) (s ∙ sym (append_assoc words (10 ∷ []) (concat more))), omega arith, All-cons IsPiece piece more (inr (words, refl, w)) each)
    comment false e h = absurd (false≢true h)

    blank : (o : Bool) → is_whitespace b ≡ o → option_map_or (λ next. ends next t) (if o then Some Blank else (if b == 35 then Some Comment else None)) false ≡ true → IsGap (b ∷ t)
    blank true e h = let (more, s, each) = ih Blank h in
        ((b ∷ []) ∷ more, ap (λ x. b ∷ x) s, omega arith, All-cons IsPiece (b ∷ []) more (inl (b, refl, e)) each)
    blank false e h = comment (b == 35) refl h

rest_of : (p : Gap) (t : List ℕ) → ends p t ≡ true → Rest p t
rest_of Blank [] h = ([], refl, All-nil IsPiece)
rest_of Bare [] h = absurd (false≢true h)
rest_of Comment [] h = absurd (false≢true h)
rest_of Blank (b ∷ t) h = let (pieces, s, some, each) = begun b t h (λ next. rest_of next t) in (pieces, s, each)
rest_of Bare (b ∷ t) h = begun b t h (λ next. rest_of next t)
rest_of Comment (b ∷ t) h = go (b == 10) refl h (λ next. rest_of next t)
  where
    go : (o : Bool) → (b == 10) ≡ o → option_map_or (λ next. ends next t) (if o then Some Blank else Some Comment) false ≡ true
        → ((next : Gap) → ends next t ≡ true → Rest next t) → Rest Comment (b ∷ t)
    go true e h ih = let (more, s, each) = ih Blank h in
        let line : b ≡ 10 = grind (arith, nat_tests) in
        ([], more, ap (λ x. x ∷ t) line ∙ ap (λ x. 10 ∷ x) s, refl, each)
    go false e h ih = let (words, more, s, w, each) = ih Comment h in
        (b ∷ words, more, ap (λ x. b ∷ x) s, ap (λ o. not o && list_all (λ b. not (b == 10)) words) e ∙ w, each)

pub ends_gap : (gap : List ℕ) → ends Bare gap ≡ true → IsGap gap
ends_gap gap h = rest_of Bare gap h
