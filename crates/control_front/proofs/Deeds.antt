-- Requests that are done one after another.
use Rattle.std.proofs.Common.{◌≡◌, ◌<◌, ◌+◌, ℕ, Bool, true, false, ◌||◌, cond, nat_lt, List, [], ◌∷◌, ◌++◌, length, take, drop, get_or, refl, sym, ap, subst, ◌∙◌, append_assoc, inr}
use Rattle.std.proofs.lemmas.Bool.{ne_eqb, and_from, or_from, or_left, and_parts}
use Rattle.std.proofs.lemmas.Grind.{take_at_read}
use Rattle.std.proofs.lemmas.List.{append-nil, take-append-drop}
use Rattle.std.proofs.Math.Bool.{or_assoc}
use Rattle.farm_base.specs.Limits.{most_control_bytes}
use Rattle.plain_world.specs.declared.world.Tile.{Tile}
use Rattle.farm_history.specs.Entries.{Entry}
use Rattle.front_loop.specs.declared.dispositions.Disposition.{Disposition}
use Rattle.front_loop.specs.declared.dispositions.Disposition.TheVariants.{Stays, Leaves}
use Rattle.front_loop.specs.declared.dispositions.Reason.TheVariants as reason
use Rattle.front_loop.specs.Rules.{Rules, Move, wants_of, answer_bytes, each_whole, any_starves}
use Rattle.front_loop.specs.Front.{keeps, does, EachFits, with_acts, Heard, HeardWhy}
use Rattle.control_front.specs.declared.acts.Line.{Line}
use Rattle.control_front.specs.declared.acts.Line.TheVariants as line
use Rattle.control_front.specs.declared.acts.Act.{Act}
use Rattle.control_front.specs.declared.hearing.ConnState.{ConnState}
use Rattle.control_front.specs.Lines.{is_long, requests_in, line_in}
use Rattle.control_front.specs.inner.Readings.{Reading, read_on, read_all, part_alone, wants, line_parts}
use Rattle.control_front.specs.Control.{control_rules, line_done}
use Rattle.control_front.specs.inner.Doing.{control_entries, act_text, act_fits, act_whole, act_starves, Says, Said, Lacks, Answers, Gives, Wants, Starves, DoneWhy, Did, LongWhy, as_done, Heeds, Knows}
use Rattle.std.specs.List.{list_any}
use Rattle.front_loop.proofs.Sitting.{clash}
use Rattle.control_front.proofs.Parts.{asked_same, long_same}
use Rattle.control_front.proofs.Streams.{read_both, read_more, read_shut, wants_more, wants_begin}

done_keeps : (disposition : Disposition) → keeps disposition ≡ true → keeps (as_done disposition) ≡ true
done_keeps Stays k = refl
done_keeps (Leaves reason.Unread) k = refl
done_keeps (Leaves reason.NoMemory) k = k
done_keeps (Leaves reason.Starved) k = k
done_keeps (Leaves reason.Ended) k = k
done_keeps (Leaves reason.Lost) k = k
done_keeps (Leaves reason.Cut) k = k
done_keeps (Leaves reason.Full) k = k
done_keeps (Leaves reason.SentWhole) k = k
done_keeps (Leaves reason.SendFailed) k = k

module _ (number : ℕ) (lists : List (List Tile)) (c : ℕ) where
  abbrev R : Rules Act Line
  R = control_rules number lists

  -- requests behind others
  asked_both : (acts before : List Act) → wants_of R (does (acts ++ before)) ≡ wants_of R (does before) ++ wants_of R (does acts)
  asked_both [] before = sym (append-nil (wants_of R (does before)))
  asked_both (a ∷ acts) before =
      ap (λ ls. ls ++ (line_done lists a).line ∷ []) (asked_both acts before) ∙ append_assoc (wants_of R (does before)) (wants_of R (does acts)) ((line_done lists a).line ∷ [])

  text_both : (acts before : List Act) → answer_bytes R (does (acts ++ before)) ≡ answer_bytes R (does before) ++ answer_bytes R (does acts)
  text_both [] before = sym (append-nil (answer_bytes R (does before)))
  text_both (a ∷ acts) before =
      ap (λ ls. ls ++ act_text lists a) (text_both acts before) ∙ append_assoc (answer_bytes R (does before)) (answer_bytes R (does acts)) (act_text lists a)

  entries_both : (acts before : List Act) (mine : List Entry) → with_acts R c (acts ++ before) mine ≡ with_acts R c acts (with_acts R c before mine)
  entries_both [] before mine = refl
  entries_both (a ∷ acts) before mine = ap (λ es. es ++ control_entries lists a) (entries_both acts before mine)

  fits_both : (acts before : List Act) → EachFits R acts [] → EachFits R before [] → EachFits R (acts ++ before) []
  fits_both [] before f g = g
  fits_both (a ∷ acts) before f g = (f.0, fits_both acts before f.1 g)

  starves_both : (acts before : List Act) → any_starves R (does (acts ++ before)) ≡ (any_starves R (does acts) || any_starves R (does before))
  starves_both [] before = refl
  starves_both (a ∷ acts) before =
      ap (λ b. act_starves lists a || b) (starves_both acts before) ∙ sym (or_assoc (act_starves lists a) (any_starves R (does acts)) (any_starves R (does before)))

  whole_both : (acts before : List Act) → each_whole R (does acts) ≡ true → each_whole R (does before) ≡ true → each_whole R (does (acts ++ before)) ≡ true
  whole_both [] before f g = g
  whole_both (a ∷ acts) before f g = and_from (act_whole lists a) (each_whole R (does (acts ++ before))) (and_parts (act_whole lists a) _ f).0 (whole_both acts before (and_parts (act_whole lists a) _ f).1 g)

  -- nothing is asked
  pub did_none : (mine : List Entry) (response : List ℕ) → Did number lists c [] mine mine response response Stays
  did_none mine response = record {
    acts = [];
    mine_is = refl;
    begins = ([], refl);
    fits = tt;
    why = refl;
    response_is = λ _. sym (append-nil response);
    asked_is = λ _. refl;
    whole = λ _. refl;
  }

  -- a turn was worn, and nothing was done
  pub did_worn : (lines : List Line) (mine mine' : List Entry) (response response' : List ℕ) → mine' ≡ mine → Did number lists c lines mine mine' response response' (Leaves reason.Starved)
  did_worn lines mine mine' response response' m = record {
    acts = [];
    mine_is = m;
    begins = (lines, refl);
    fits = tt;
    why = refl;
    response_is = λ k. clash (sym k);
    asked_is = λ k. clash (sym k);
    whole = λ k. clash (sym k);
  }

  -- a request was done, of which a turn was worn or the answer found no memory
  pub did_part : (a : Act) (mine mine' : List Entry) (response response' : List ℕ) → act_fits lists a ≡ true → mine' ≡ mine ++ control_entries lists a → act_starves lists a ≡ false
      → Did number lists c ((line_done lists a).line ∷ []) mine mine' response response' (Leaves reason.Starved)
  did_part a mine mine' response response' f m s = record {
    acts = a ∷ [];
    mine_is = m;
    begins = ([], refl);
    fits = (f, tt);
    why = or_from (act_starves lists a) false s refl;
    response_is = λ k. clash (sym k);
    asked_is = λ k. clash (sym k);
    whole = λ k. clash (sym k);
  }

  did_starved : (a : Act) (mine mine' : List Entry) (response response' : List ℕ) → act_fits lists a ≡ true → mine' ≡ mine ++ control_entries lists a → act_starves lists a ≡ true
      → Did number lists c ((line_done lists a).line ∷ []) mine mine' response response' (Leaves reason.NoMemory)
  did_starved a mine mine' response response' f m s = record {
    acts = a ∷ [];
    mine_is = m;
    begins = ([], refl);
    fits = (f, tt);
    why = or_left (act_starves lists a) false s;
    response_is = λ k. clash (sym k);
    asked_is = λ k. clash (sym k);
    whole = λ k. clash (sym k);
  }

  did_whole : (a : Act) (mine mine' : List Entry) (response response' : List ℕ) → act_fits lists a ≡ true → act_whole lists a ≡ true → mine' ≡ mine ++ control_entries lists a → act_starves lists a ≡ false
      → response' ≡ response ++ act_text lists a → Did number lists c ((line_done lists a).line ∷ []) mine mine' response response' Stays
  did_whole a mine mine' response response' f w m s e = record {
    acts = a ∷ [];
    mine_is = m;
    begins = ([], refl);
    fits = (f, tt);
    why = or_from (act_starves lists a) false s refl;
    response_is = λ _. e;
    asked_is = λ _. refl;
    whole = λ _. and_from (act_whole lists a) true w refl;
  }

  -- a request was done
  pub did_one : (a : Act) (mine mine' : List Entry) (response response' : List ℕ) (disposition : Disposition) → act_fits lists a ≡ true → act_whole lists a ≡ true → mine' ≡ mine ++ control_entries lists a
      → Answers lists a response response' disposition → Did number lists c ((line_done lists a).line ∷ []) mine mine' response response' disposition
  did_one a mine mine' response response' disposition f w m (Gives q s e) = subst (Did number lists c ((line_done lists a).line ∷ []) mine mine' response response') (sym q) (did_whole a mine mine' response response' f w m s e)
  did_one a mine mine' response response' disposition f w m (Wants q s) = subst (Did number lists c ((line_done lists a).line ∷ []) mine mine' response response') (sym q) (did_part a mine mine' response response' f m s)
  did_one a mine mine' response response' disposition f w m (Starves q s) = subst (Did number lists c ((line_done lists a).line ∷ []) mine mine' response response') (sym q) (did_starved a mine mine' response response' f m s)

  pub did_at : (l : Line) (a : Act) (mine mine' : List Entry) (response response' : List ℕ) (disposition : Disposition) → l ≡ (line_done lists a).line → act_fits lists a ≡ true → act_whole lists a ≡ true
      → mine' ≡ mine ++ control_entries lists a → Answers lists a response response' disposition → Did number lists c (l ∷ []) mine mine' response response' disposition
  did_at l a mine mine' response response' disposition e f w m s =
      subst (λ (k : Line). Did number lists c (k ∷ []) mine mine' response response' disposition) (sym e) (did_one a mine mine' response response' disposition f w m s)

  why_both : (acts before : List Act) (disposition : Disposition) → any_starves R (does before) ≡ false → DoneWhy number lists c acts disposition → DoneWhy number lists c (acts ++ before) disposition
  why_both acts before Stays n w = starves_both acts before ∙ or_from (any_starves R (does acts)) (any_starves R (does before)) w n
  why_both acts before (Leaves reason.Unread) n w = absurd w
  why_both acts before (Leaves reason.NoMemory) n w = starves_both acts before ∙ or_left (any_starves R (does acts)) (any_starves R (does before)) w
  why_both acts before (Leaves reason.Starved) n w = starves_both acts before ∙ or_from (any_starves R (does acts)) (any_starves R (does before)) w n
  why_both acts before (Leaves reason.Ended) n w = absurd w
  why_both acts before (Leaves reason.Lost) n w = absurd w
  why_both acts before (Leaves reason.Cut) n w = absurd w
  why_both acts before (Leaves reason.Full) n w = absurd w
  why_both acts before (Leaves reason.SentWhole) n w = absurd w
  why_both acts before (Leaves reason.SendFailed) n w = absurd w

  -- requests behind requests
  pub did_then : (xs ys : List Line) (mine mid mine' : List Entry) (response saying response' : List ℕ) (disposition : Disposition) → Did number lists c xs mine mid response saying Stays
      → Did number lists c ys mid mine' saying response' disposition → Did number lists c (xs ++ ys) mine mine' response response' disposition
  did_then xs ys mine mid mine' response saying response' disposition h k = record {
    acts = k.acts ++ h.acts;
    mine_is = k.mine_is ∙ ap (with_acts R c k.acts) h.mine_is ∙ sym (entries_both k.acts h.acts mine);
    begins = (
      k.begins.0,
      ap (λ ls. ls ++ ys) (h.asked_is refl) ∙ ap (λ ls. wants_of R (does h.acts) ++ ls) k.begins.1 ∙ sym (append_assoc (wants_of R (does h.acts)) (wants_of R (does k.acts)) k.begins.0)
          ∙ ap (λ ls. ls ++ k.begins.0) (sym (asked_both k.acts h.acts)),
    );
    fits = fits_both k.acts h.acts k.fits h.fits;
    why = why_both k.acts h.acts disposition h.why k.why;
    response_is = λ e. k.response_is e ∙ ap (λ xs. xs ++ answer_bytes R (does k.acts)) (h.response_is refl) ∙ append_assoc response (answer_bytes R (does h.acts)) (answer_bytes R (does k.acts))
        ∙ ap (λ xs. response ++ xs) (sym (text_both k.acts h.acts));
    asked_is = λ e. ap (λ ls. ls ++ ys) (h.asked_is refl) ∙ ap (λ ls. wants_of R (does h.acts) ++ ls) (k.asked_is e) ∙ sym (asked_both k.acts h.acts);
    whole = λ e. whole_both k.acts h.acts (k.whole e) (h.whole refl);
  }

  -- more requests that are not done
  did_cut : (xs ys : List Line) (mine mine' : List Entry) (response response' : List ℕ) (disposition : Disposition) → keeps disposition ≡ false → Did number lists c xs mine mine' response response' disposition
      → Did number lists c (xs ++ ys) mine mine' response response' disposition
  did_cut xs ys mine mine' response response' disposition n h = record {
    acts = h.acts;
    mine_is = h.mine_is;
    begins = (h.begins.0 ++ ys, ap (λ ls. ls ++ ys) h.begins.1 ∙ append_assoc (wants_of R (does h.acts)) h.begins.0 ys);
    fits = h.fits;
    why = h.why;
    response_is = λ k. clash (sym k ∙ n);
    asked_is = λ k. clash (sym k ∙ n);
    whole = λ k. clash (sym k ∙ n);
  }

  -- how a request leaves a session
  pub done_same : (lines : List Line) (mine mine' : List Entry) (response response' : List ℕ) (disposition : Disposition) → Did number lists c lines mine mine' response response' disposition
      → Did number lists c lines mine mine' response response' (as_done disposition)
  done_same lines mine mine' response response' Stays h = h
  done_same lines mine mine' response response' (Leaves reason.Unread) h = absurd h.why
  done_same lines mine mine' response response' (Leaves reason.NoMemory) h = h
  done_same lines mine mine' response response' (Leaves reason.Starved) h = h
  done_same lines mine mine' response response' (Leaves reason.Ended) h = h
  done_same lines mine mine' response response' (Leaves reason.Lost) h = h
  done_same lines mine mine' response response' (Leaves reason.Cut) h = h
  done_same lines mine mine' response response' (Leaves reason.Full) h = h
  done_same lines mine mine' response response' (Leaves reason.SentWhole) h = h
  done_same lines mine mine' response response' (Leaves reason.SendFailed) h = h

  pub not_long : (acts : List Act) (disposition : Disposition) → DoneWhy number lists c acts disposition → LongWhy false disposition
  not_long acts Stays h = refl
  not_long acts (Leaves reason.Unread) h = absurd h
  not_long acts (Leaves reason.NoMemory) h = tt
  not_long acts (Leaves reason.Starved) h = tt
  not_long acts (Leaves reason.Ended) h = absurd h
  not_long acts (Leaves reason.Lost) h = absurd h
  not_long acts (Leaves reason.Cut) h = absurd h
  not_long acts (Leaves reason.Full) h = absurd h
  not_long acts (Leaves reason.SentWhole) h = absurd h
  not_long acts (Leaves reason.SendFailed) h = absurd h

  pub too_long : (acts : List Act) (disposition : Disposition) → (disposition ≡ Stays → ⊥) → DoneWhy number lists c acts disposition → LongWhy true disposition
  too_long acts Stays n h = absurd (n refl)
  too_long acts (Leaves reason.Unread) n h = absurd h
  too_long acts (Leaves reason.NoMemory) n h = tt
  too_long acts (Leaves reason.Starved) n h = tt
  too_long acts (Leaves reason.Ended) n h = absurd h
  too_long acts (Leaves reason.Lost) n h = absurd h
  too_long acts (Leaves reason.Cut) n h = absurd h
  too_long acts (Leaves reason.Full) n h = absurd h
  too_long acts (Leaves reason.SentWhole) n h = absurd h
  too_long acts (Leaves reason.SendFailed) n h = absurd h

  -- ---- bytes

  pub heeds_none : (part : List ℕ) (mine : List Entry) (response : List ℕ) → Heeds number lists c part [] mine mine part response response Stays
  heeds_none part mine response = record { did = did_none mine response; why = refl; part_is = λ _. refl }

  -- bytes behind bytes
  pub heeds_then : (part mid part' xs ys : List ℕ) (mine min2 mine' : List Entry) (response saying response' : List ℕ) (disposition : Disposition) → Heeds number lists c part xs mine min2 mid response saying Stays
      → Heeds number lists c mid ys min2 mine' part' saying response' disposition → Heeds number lists c part (xs ++ ys) mine mine' part' response response' disposition
  heeds_then part mid part' xs ys mine min2 mine' response saying response' disposition h k =
      let r = read_on (part_alone part) xs in
      let s = read_on (part_alone mid) ys in
      let is : read_on (part_alone part) (xs ++ ys) ≡ read_on r ys = read_both (part_alone part) xs ys in
      let lines : wants (read_on (part_alone part) (xs ++ ys)) ≡ wants r ++ wants s =
      ap wants is ∙ wants_more r ys h.why ∙ ap (λ p. wants r ++ wants (read_on (part_alone p) ys)) (sym (h.part_is refl)) in
      let rest = is ∙ read_more r ys h.why in
      record {
        did = subst (λ ls. Did number lists c ls mine mine' response response' (as_done disposition)) (sym lines) (did_then (wants r) (wants s) mine min2 mine' response saying response' (as_done disposition) h.did k.did);
        why = subst (λ b. LongWhy b disposition) (sym (ap (λ (v : Reading). v.long) rest ∙ ap (λ p. (read_on (part_alone p) ys).long) (sym (h.part_is refl)))) k.why;
        part_is = λ e. k.part_is e ∙ sym (ap (λ (v : Reading). v.part) rest ∙ ap (λ p. (read_on (part_alone p) ys).part) (sym (h.part_is refl)));
      }

  heeds_cut : (part part' xs ys : List ℕ) (mine mine' : List Entry) (response response' : List ℕ) (disposition : Disposition) → keeps (as_done disposition) ≡ false → keeps disposition ≡ false → ((b : Bool) → LongWhy b disposition)
      → Heeds number lists c part xs mine mine' part' response response' disposition → Heeds number lists c part (xs ++ ys) mine mine' part' response response' disposition
  heeds_cut part part' xs ys mine mine' response response' disposition n m w h =
      let r = read_on (part_alone part) xs in
      let more = wants_begin r ys in
      record {
        did = subst (λ ls. Did number lists c ls mine mine' response response' (as_done disposition)) (sym (ap wants (read_both (part_alone part) xs ys) ∙ more.1)) (did_cut (wants r) more.0 mine mine' response response' (as_done disposition) n h.did);
        why = w (read_on (part_alone part) (xs ++ ys)).long;
        part_is = λ k. clash (sym k ∙ m);
      }

  heeds_long : (part part' xs ys : List ℕ) (mine mine' : List Entry) (response response' : List ℕ) → Heeds number lists c part xs mine mine' part' response response' (Leaves reason.Unread)
      → Heeds number lists c part (xs ++ ys) mine mine' part' response response' (Leaves reason.Unread)
  heeds_long part part' xs ys mine mine' response response' h =
      let r = read_on (part_alone part) xs in
      let is : read_on (part_alone part) (xs ++ ys) ≡ r = read_both (part_alone part) xs ys ∙ read_shut r ys h.why in
      record {
        did = subst (λ (v : Reading). Did number lists c (wants v) mine mine' response response' Stays) (sym is) h.did;
        why = ap (λ (v : Reading). v.long) is ∙ h.why;
        part_is = λ k. h.part_is k ∙ sym (ap (λ (v : Reading). v.part) is);
      }

  -- the bytes behind those at which a session was ended are not read
  pub heeds_rest : (part part' xs ys : List ℕ) (mine mine' : List Entry) (response response' : List ℕ) (disposition : Disposition) → (disposition ≡ Stays → ⊥) → Heeds number lists c part xs mine mine' part' response response' disposition
      → Heeds number lists c part (xs ++ ys) mine mine' part' response response' disposition
  heeds_rest part part' xs ys mine mine' response response' Stays n h = absurd (n refl)
  heeds_rest part part' xs ys mine mine' response response' (Leaves reason.Unread) n h = heeds_long part part' xs ys mine mine' response response' h
  heeds_rest part part' xs ys mine mine' response response' (Leaves reason.NoMemory) n h = heeds_cut part part' xs ys mine mine' response response' (Leaves reason.NoMemory) refl refl (λ b. tt) h
  heeds_rest part part' xs ys mine mine' response response' (Leaves reason.Starved) n h = heeds_cut part part' xs ys mine mine' response response' (Leaves reason.Starved) refl refl (λ b. tt) h
  heeds_rest part part' xs ys mine mine' response response' (Leaves reason.Ended) n h = absurd h.why
  heeds_rest part part' xs ys mine mine' response response' (Leaves reason.Lost) n h = absurd h.why
  heeds_rest part part' xs ys mine mine' response response' (Leaves reason.Cut) n h = absurd h.why
  heeds_rest part part' xs ys mine mine' response response' (Leaves reason.Full) n h = absurd h.why
  heeds_rest part part' xs ys mine mine' response response' (Leaves reason.SentWhole) n h = absurd h.why
  heeds_rest part part' xs ys mine mine' response response' (Leaves reason.SendFailed) n h = absurd h.why

  -- one byte behind a part of a line
  pub heeds_line : (part : List ℕ) (b : ℕ) (mine mine' : List Entry) (response response' : List ℕ) (disposition : Disposition) → b ≡ 10 → Did number lists c (line_in part ∷ []) mine mine' response response' disposition
      → Heeds number lists c part (b ∷ []) mine mine' [] response response' disposition
  heeds_line part b mine mine' response response' disposition e h =
      subst (λ x. Heeds number lists c part (x ∷ []) mine mine' [] response response' disposition) (sym e)
      (record { did = done_same (line_in part ∷ []) mine mine' response response' disposition h; why = not_long h.acts disposition h.why; part_is = λ _. refl })

  byte_long : (part : List ℕ) (b : ℕ) → (b ≡ 10 → ⊥) → nat_lt (length part) most_control_bytes ≡ false → read_on (part_alone part) (b ∷ []) ≡ record { lines = []; part = part; long = true }
  byte_long part b n l =
      ap (λ v. cond v (record { lines = part ∷ []; part = []; long = false }) (cond (nat_lt (length part) most_control_bytes) (record { lines = []; part = part ++ b ∷ []; long = false }) (record { lines = []; part = part; long = true })))
      (ne_eqb b 10 n)
      ∙ ap (λ v. cond v (record { lines = []; part = part ++ b ∷ []; long = false }) (record { lines = []; part = part; long = true })) l

  byte_more : (part : List ℕ) (b : ℕ) → (b ≡ 10 → ⊥) → nat_lt (length part) most_control_bytes ≡ true → read_on (part_alone part) (b ∷ []) ≡ part_alone (part ++ b ∷ [])
  byte_more part b n l =
      ap (λ v. cond v (record { lines = part ∷ []; part = []; long = false }) (cond (nat_lt (length part) most_control_bytes) (part_alone (part ++ b ∷ [])) (record { lines = []; part = part; long = true })))
      (ne_eqb b 10 n)
      ∙ ap (λ v. cond v (part_alone (part ++ b ∷ [])) (record { lines = []; part = part; long = true })) l

  pub heeds_end : (part : List ℕ) (b : ℕ) (mine : List Entry) (response response' : List ℕ) (disposition : Disposition) → (b ≡ 10 → ⊥) → nat_lt (length part) most_control_bytes ≡ false
      → Did number lists c (line.Bad ∷ []) mine mine response response' (as_done disposition) → LongWhy true disposition → Heeds number lists c part (b ∷ []) mine mine part response response' disposition
  heeds_end part b mine response response' disposition n l h w =
      let is = byte_long part b n l in
      record {
        did = subst (λ (v : Reading). Did number lists c (wants v) mine mine response response' (as_done disposition)) (sym is) h;
        why = subst (λ (v : Reading). LongWhy v.long disposition) (sym is) w;
        part_is = λ _. sym (ap (λ (v : Reading). v.part) is);
      }

  heeds_byte : (part : List ℕ) (b : ℕ) (mine : List Entry) (response : List ℕ) → (b ≡ 10 → ⊥) → nat_lt (length part) most_control_bytes ≡ true → Heeds number lists c part (b ∷ []) mine mine (part ++ b ∷ []) response response Stays
  heeds_byte part b mine response n l =
      let is = byte_more part b n l in
      record {
        did = subst (λ (v : Reading). Did number lists c (wants v) mine mine response response Stays) (sym is) (did_none mine response);
        why = ap (λ (v : Reading). v.long) is;
        part_is = λ _. sym (ap (λ (v : Reading). v.part) is);
      }

  pub heeds_lost : (part part' bytes : List ℕ) (mine : List Entry) (response response' : List ℕ) → Heeds number lists c part bytes mine mine part' response response' (Leaves reason.Starved)
  heeds_lost part part' bytes mine response response' =
      record { did = did_worn (wants (read_on (part_alone part) bytes)) mine mine response response' refl; why = tt; part_is = λ k. clash (sym k) }

  pub heeds_kept : (part part' : List ℕ) (b : ℕ) (mine : List Entry) (response : List ℕ) (disposition : Disposition) → (b ≡ 10 → ⊥) → nat_lt (length part) most_control_bytes ≡ true → Says (b ∷ []) part part' disposition
      → Heeds number lists c part (b ∷ []) mine mine part' response response disposition
  heeds_kept part part' b mine response disposition n l (Said q e) =
      subst (Heeds number lists c part (b ∷ []) mine mine part' response response) (sym q)
      (subst (λ p. Heeds number lists c part (b ∷ []) mine mine p response response Stays) (sym e) (heeds_byte part b mine response n l))
  heeds_kept part part' b mine response disposition n l (Lacks q same) =
      subst (Heeds number lists c part (b ∷ []) mine mine part' response response) (sym q) (heeds_lost part part' (b ∷ []) mine response response)

  -- one byte more of a piece
  pub heeds_on : (part mid part' piece : List ℕ) (i d : ℕ) (mine min2 mine' : List Entry) (response saying response' : List ℕ) (disposition : Disposition) → i < length piece
      → Heeds number lists c part (take i piece) mine min2 mid response saying Stays → Heeds number lists c mid (get_or piece i d ∷ []) min2 mine' part' saying response' disposition
      → Heeds number lists c part (take (i + 1) piece) mine mine' part' response response' disposition
  heeds_on part mid part' piece i d mine min2 mine' response saying response' disposition l h k =
      subst (λ xs. Heeds number lists c part xs mine mine' part' response response' disposition) (sym (take_at_read piece i d l).1)
      (heeds_then part mid part' (take i piece) (get_or piece i d ∷ []) mine min2 mine' response saying response' disposition h k)

  -- the last byte that is read of a piece
  pub heeds_stop : (part mid part' piece : List ℕ) (i d : ℕ) (mine min2 mine' : List Entry) (response saying response' : List ℕ) (disposition : Disposition) → i < length piece → (disposition ≡ Stays → ⊥)
      → Heeds number lists c part (take i piece) mine min2 mid response saying Stays → Heeds number lists c mid (get_or piece i d ∷ []) min2 mine' part' saying response' disposition
      → Heeds number lists c part piece mine mine' part' response response' disposition
  heeds_stop part mid part' piece i d mine min2 mine' response saying response' disposition l n h k =
      subst (λ xs. Heeds number lists c part xs mine mine' part' response response' disposition) (take-append-drop (i + 1) piece)
      (heeds_rest part part' (take (i + 1) piece) (drop (i + 1) piece) mine mine' response response' disposition n (heeds_on part mid part' piece i d mine min2 mine' response saying response' disposition l h k))

  -- ---- as the front is asked

  asked_front : (acts : List Act) (ms : List (Move Act)) → wants_of R (does acts ++ ms) ≡ wants_of R ms ++ wants_of R (does acts)
  asked_front [] ms = sym (append-nil (wants_of R ms))
  asked_front (a ∷ acts) ms = ap (λ ls. ls ++ (line_done lists a).line ∷ []) (asked_front acts ms) ∙ append_assoc (wants_of R ms) (wants_of R (does acts)) ((line_done lists a).line ∷ [])

  text_front : (acts : List Act) (ms : List (Move Act)) → answer_bytes R (does acts ++ ms) ≡ answer_bytes R ms ++ answer_bytes R (does acts)
  text_front [] ms = sym (append-nil (answer_bytes R ms))
  text_front (a ∷ acts) ms = ap (λ ls. ls ++ act_text lists a) (text_front acts ms) ∙ append_assoc (answer_bytes R ms) (answer_bytes R (does acts)) (act_text lists a)

  fits_front : (acts : List Act) (ms : List (Move Act)) → EachFits R acts [] → EachFits R acts ms
  fits_front [] ms f = tt
  fits_front (a ∷ acts) ms f = (f.0, fits_front acts ms f.1)

  whole_front : (acts : List Act) (ms : List (Move Act)) → each_whole R (does acts) ≡ true → each_whole R ms ≡ true → each_whole R (does acts ++ ms) ≡ true
  whole_front [] ms f g = g
  whole_front (a ∷ acts) ms f g = and_from (act_whole lists a) (each_whole R (does acts ++ ms)) (and_parts (act_whole lists a) _ f).0 (whole_front acts ms (and_parts (act_whole lists a) _ f).1 g)

  why_front : (long : Bool) (given : List ℕ) (acts : List Act) (disposition : Disposition) → list_any is_long (line_parts given) ≡ long → DoneWhy number lists c acts (as_done disposition) → LongWhy long disposition → HeardWhy R given (does acts) disposition
  why_front long given acts Stays e d l = (e ∙ l, d)
  why_front long given acts (Leaves reason.Unread) e d l = (e ∙ l, d)
  why_front long given acts (Leaves reason.NoMemory) e d l = d
  why_front long given acts (Leaves reason.Starved) e d l = d
  why_front long given acts (Leaves reason.Ended) e d l = absurd d
  why_front long given acts (Leaves reason.Lost) e d l = absurd d
  why_front long given acts (Leaves reason.Cut) e d l = absurd d
  why_front long given acts (Leaves reason.Full) e d l = absurd d
  why_front long given acts (Leaves reason.SentWhole) e d l = absurd d
  why_front long given acts (Leaves reason.SendFailed) e d l = absurd d

  pub heard_by : (piece : List ℕ) (mine mine' : List Entry) (conn_state conn_state' : ConnState) (response : List ℕ) (disposition : Disposition) (given : List ℕ) (ms : List (Move Act))
      → Heeds number lists c conn_state.part.items piece mine mine' conn_state'.part.items [] response disposition → Knows given ms conn_state → requests_in (line_parts given) ≡ wants_of R ms → each_whole R ms ≡ true
      → list_any is_long (line_parts given) ≡ false → Heard R Knows c piece mine mine' conn_state' response disposition given ms
  heard_by piece mine mine' conn_state conn_state' response disposition given ms h k asked v short =
      let w : wants (read_all given) ≡ wants_of R ms = asked_same given ∙ asked in
      let l : (read_all given).long ≡ false = long_same given ∙ short in
      let now : requests_in (line_parts (given ++ piece)) ≡ wants (read_all (given ++ piece)) = sym (asked_same (given ++ piece)) in
      let r = read_all given in
      let s = read_on (part_alone conn_state.part.items) piece in
      let is : read_all (given ++ piece) ≡ read_on r piece = read_both (part_alone []) given piece in
      let lines : wants (read_all (given ++ piece)) ≡ wants_of R ms ++ wants s =
      ap wants is ∙ wants_more r piece l ∙ ap (λ p. wants r ++ wants (read_on (part_alone p) piece)) (sym k) ∙ ap (λ ls. ls ++ wants s) w in
      let rest = is ∙ read_more r piece l in
      let long : (read_all (given ++ piece)).long ≡ s.long = ap (λ (v : Reading). v.long) rest ∙ ap (λ p. (read_on (part_alone p) piece).long) (sym k) in
      let part : (read_all (given ++ piece)).part ≡ s.part = ap (λ (v : Reading). v.part) rest ∙ ap (λ p. (read_on (part_alone p) piece).part) (sym k) in
      record {
        acts = h.did.acts;
        mine_is = h.did.mine_is;
        begins = inr (
          h.did.begins.0,
          now ∙ lines ∙ ap (λ ls. wants_of R ms ++ ls) h.did.begins.1 ∙ sym (append_assoc (wants_of R ms) (wants_of R (does h.did.acts)) h.did.begins.0)
              ∙ ap (λ ls. ls ++ h.did.begins.0) (sym (asked_front h.did.acts ms)),
        );
        fits = fits_front h.did.acts ms h.did.fits;
        why = why_front s.long (given ++ piece) h.did.acts disposition (sym (long_same (given ++ piece)) ∙ long) h.did.why h.why;
        response_is = λ e. text_front h.did.acts ms ∙ ap (λ xs. answer_bytes R ms ++ xs) (sym (h.did.response_is (done_keeps disposition e)));
        asked_is = λ e. now ∙ lines ∙ ap (λ ls. wants_of R ms ++ ls) (h.did.asked_is (done_keeps disposition e)) ∙ sym (asked_front h.did.acts ms);
        whole = λ e. whole_front h.did.acts ms (h.did.whole (done_keeps disposition e)) v;
        knows = λ e. h.part_is e ∙ sym part;
      }
