-- Each reply is one to an open ask; a reply Done is of a key that was stored after the ask.
use Rattle.std.proofs.Common.{◌≡◌, ℕ, Bool, true, false, ◌==◌, List, [], ◌∷◌, length, filter, refl, arith}
use Rattle.farm_history.specs.declared.keys.Key.{Key}
use Rattle.farm_history.specs.declared.queues.Outcome.{Outcome}
use Rattle.farm_history.specs.declared.queues.Reply.{Reply}
use Rattle.farm_history.specs.declared.answers.Finished.{Finished}
use Rattle.farm_history.specs.declared.answers.Finished.TheVariants.{Stored, PutFailed}
use Rattle.farm_history.specs.declared.answers.Collected.{Collected}
use Rattle.farm_history.specs.Entries.{Entry, Finish}
use Rattle.farm_history.specs.Past.{is_ended_after, Numbered, is_stopped, open_asks, is_end_of, outcome_of, reply_to, replies_to, due_replies}
use Rattle.farm_history.specs.Rules.{collect_from, collect_rule}
use Rattle.farm_history.specs.Laws.{is_stored_after}
use Rattle.farm_history.specs.Lists.{Each}
use Rattle.farm_history.proofs.Lists.{each-map, each-filter, each-passes, each-both, each-join, each-over}

-- a reply to an ask of which P holds and that has its End; a reply Done is of a key that was stored after the ask
pub record IsReplyIn (P : Numbered → Type 0) (h : List Entry) (r : Reply) : Type 0 where
  pub ask : Numbered
  pub holds : P ask
  pub conn_is : r.conn ≡ ask.conn
  pub number_is : r.ask ≡ ask.number
  pub is_ended : is_ended_after h (length ask.before) ask.key ≡ true
  pub is_stored : r.outcome ≡ Outcome.Done → is_stored_after h (length ask.before) ask.key ≡ true

-- what was stored after a place stays so
pub stored_still : (e : Entry) (g : List Entry) (place : ℕ) (k : Key) → is_stored_after g place k ≡ true → is_stored_after (e ∷ g) place k ≡ true
unfolding is_stored_after
stored_still (Finish t drawn (Stored clean)) g place k h = grind arith
stored_still (Finish t drawn _) g place k h = h
stored_still _ g place k h = h

-- and what was ended
pub ended_still : (e : Entry) (g : List Entry) (place : ℕ) (k : Key) → is_ended_after g place k ≡ true → is_ended_after (e ∷ g) place k ≡ true
unfolding is_ended_after
ended_still e g place k h = grind arith

still_reply : (P : Numbered → Type 0) (e : Entry) (g : List Entry) (r : Reply) → IsReplyIn P g r → IsReplyIn P (e ∷ g) r
still_reply P e g r i = record { ask = i.ask; holds = i.holds; conn_is = i.conn_is; number_is = i.number_is; is_ended = ended_still e g (length i.ask.before) i.ask.key i.is_ended; is_stored = λ d. stored_still e g (length i.ask.before) i.ask.key (i.is_stored d) }

-- an ask's End answers it
end_reply : (P : Numbered → Type 0) (t : ℕ) (drawn : Bool) (answer : Finished) (g : List Entry) (a : Numbered) → P a × (is_end_of g (Finish t drawn answer) a ≡ true) → IsReplyIn P (Finish t drawn answer ∷ g) (reply_to answer a)
unfolding is_stored_after is_ended_after
end_reply P t drawn answer g a h = record { ask = a; holds = h.0; conn_is = refl; number_is = refl; is_ended = grind (arith, h.1); is_stored = go answer h.1 }
  where
    go : (x : Finished) → is_end_of g (Finish t drawn x) a ≡ true → outcome_of x ≡ Outcome.Done → is_stored_after (Finish t drawn x ∷ g) (length a.before) a.key ≡ true
    go (Stored clean) is_end d = grind arith
    go PutFailed is_end d = cc
    go Finished.NoMemory is_end d = cc

-- each reply to asks of which P holds is such a one
pub replies_in : (P : Numbered → Type 0) (asks : List Numbered) (h : List Entry) → Each P asks → Each (IsReplyIn P h) (replies_to asks h)
unfolding replies_to
replies_in P asks [] each = tt
replies_in P asks (Finish t drawn answer ∷ g) each =
    each-join _ (replies_to asks g) _ (each-map _ _ (replies_to asks g) (still_reply P (Finish t drawn answer) g) (replies_in P asks g each))
    (each-over (reply_to answer) _ _ (filter (is_end_of g (Finish t drawn answer)) asks) (end_reply P t drawn answer g)
    (each-both P _ (filter (is_end_of g (Finish t drawn answer)) asks) (each-filter P (is_end_of g (Finish t drawn answer)) asks each) (each-passes (is_end_of g (Finish t drawn answer)) asks)))
replies_in P asks (e ∷ g) each = each-map _ _ (replies_to asks g) (still_reply P e g) (replies_in P asks g each)

-- what a Collect gives is a reply to an open ask
pub collected : (P : Numbered → Type 0) (g : List Entry) (front : ℕ) (r : Reply) → Each P (open_asks g) → Collected.Reply r ≡ collect_rule g front → IsReplyIn P g r
collected P g front r each is = go (due_replies g front) (is_stopped g) (replies_in P _ g (each-filter P (λ a. a.conn.front == front) (open_asks g) each)) is
  where
    go : (rs : List Reply) (stopped : Bool) → Each (IsReplyIn P g) rs → Collected.Reply r ≡ collect_from rs stopped → IsReplyIn P g r
    go [] true all same = cc
    go [] false all same = cc
    go (x ∷ xs) stopped all same = let first : r ≡ x = cc in rw first all.0
