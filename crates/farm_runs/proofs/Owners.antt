-- Which seats settle their tickets: those of fronts and the run's own give none, and those of workers end each that they give.
use Rattle.std.proofs.Common.{◌≡◌, ◌⊎◌, inl, inr, ℕ, Bool, true, false, ◌||◌, ◌==◌, List, [], ◌∷◌, Option, Some, None, refl, sym, ap, ap₂, ◌∙◌}
use Rattle.std.specs.List.{list_any, flat_map}
use Rattle.std.proofs.lemmas.List.Folds.{list_any-append}
use Rattle.farm_history.specs.declared.answers.Tally.{Tally as Totals}
use Rattle.farm_history.specs.Entries.{Entry, Claim, Stop}
use Rattle.farm_history.specs.Lists.{Each}
use Rattle.reactor_ports.specs.declared.ends.FrontEnd.{FrontEnd}
use Rattle.farm_shared.specs.Seats.{gives_ticket, ends_ticket}
use Rattle.render_workers.specs.declared.worker.WorkEnd.{WorkEnd}
use Rattle.render_workers.specs.Rounds.{Round, Drew, FoundNone, FoundMany, round_entries, LastEntries, WorkOf}
use Rattle.front_loop.specs.Kinds.{IsOfFront, AreOfFront}
use Rattle.farm_runs.specs.Actors.{WorkBy}
use Rattle.farm_runs.specs.Promise.{own_entries, is_worker_worn}
use Rattle.farm_runs.proofs.Settling.{gives, ends, Settled}

-- what gives no ticket settles all
pub quiet : (es : List Entry) → ((t : ℕ) → gives t es ≡ false) → Settled es
quiet es none t given = let never = sym given ∙ none t in cc

-- Fronts.

front_gives : (n t : ℕ) (e : Entry) → IsOfFront n e → gives_ticket e t ≡ false
front_gives n t (Claim worker answer) is = absurd is
front_gives n t e is = refl

fronts_give : (n t : ℕ) (es : List Entry) → Each (IsOfFront n) es → gives t es ≡ false
fronts_give n t [] each = refl
fronts_give n t (e ∷ es) each = ap₂ (λ a b. a || b) (front_gives n t e each.0) (fronts_give n t es each.1)

stop_gives : (t : ℕ) (stop : List Entry) (end : FrontEnd) → (stop ≡ []) ⊎ ((stop ≡ Stop ∷ []) × (end ≡ FrontEnd.Finished → ⊥)) → gives t stop ≡ false
stop_gives t stop end (inl none) = ap (gives t) none
stop_gives t stop end (inr one) = ap (gives t) one.0

pub front_settled : (n : ℕ) (es : List Entry) (end : FrontEnd) → AreOfFront n es end → Settled es
front_settled n es end a = quiet es (λ t. ap (gives t) a.are ∙ (list_any-append (λ e. gives_ticket e t) a.served a.stop ∙ ap₂ (λ x y. x || y) (fronts_give n t a.served a.kinds) (stop_gives t a.stop end a.may_stop)))

-- The run's own seat.

pub own_settled : (stopped : Bool) (tally : Option Totals) → Settled (own_entries stopped tally)
own_settled true (Some a) = quiet (own_entries true (Some a)) (λ t. refl)
own_settled true None = quiet (own_entries true None) (λ t. refl)
own_settled false (Some a) = quiet (own_entries false (Some a)) (λ t. refl)
own_settled false None = quiet (own_entries false None) (λ t. refl)

-- Workers.

round_settles : (w t : ℕ) (r : Round) → gives t (round_entries w r) ≡ ends t (round_entries w r)
round_settles w t (Drew ticket key version drawn answer) = go (ticket == t)
  where
    go : (b : Bool) → (b || (false || false)) ≡ (false || (b || false))
    go true = refl
    go false = refl
round_settles w t FoundNone = refl
round_settles w t FoundMany = refl

rounds_settle : (w t : ℕ) (rs : List Round) → gives t (flat_map (round_entries w) rs) ≡ ends t (flat_map (round_entries w) rs)
rounds_settle w t [] = refl
rounds_settle w t (r ∷ rs) =
    list_any-append (λ e. gives_ticket e t) (round_entries w r) (flat_map (round_entries w) rs)
    ∙ (ap₂ (λ a b. a || b) (round_settles w t r) (rounds_settle w t rs) ∙ sym (list_any-append (λ e. ends_ticket e t) (round_entries w r) (flat_map (round_entries w) rs)))

stopped_settled : (w : ℕ) (es : List Entry) → WorkOf w WorkEnd.Stopped es → Settled es
stopped_settled w es work t given =
    let split = list_any-append (λ e. gives_ticket e t) (flat_map (round_entries w) work.rounds) work.last in
    let last : gives t work.last ≡ false = ap (gives t) work.ended in
    let there : gives t (flat_map (round_entries w) work.rounds) ≡ true = settle (gives t (flat_map (round_entries w) work.rounds)) (gives t work.last) last (sym split ∙ (ap (gives t) (sym work.are) ∙ given)) in
    ap (ends t) work.are
    ∙ (list_any-append (λ e. ends_ticket e t) (flat_map (round_entries w) work.rounds) work.last
    ∙ ap (λ b. b || ends t work.last) (sym (rounds_settle w t work.rounds) ∙ there))
  where
    settle : (a b : Bool) → b ≡ false → (a || b) ≡ true → a ≡ true
    settle true b none is = refl
    settle false b none is = let never = sym is ∙ none in cc

pub worker_settled : (w : ℕ) (end : Option WorkEnd) (es : List Entry) → is_worker_worn end ≡ false → WorkBy w end es → Settled es
worker_settled w None es fine none = quiet es (λ t. ap (gives t) none)
worker_settled w (Some WorkEnd.Stopped) es fine work = stopped_settled w es work
worker_settled w (Some WorkEnd.Worn) es fine work = cc

-- A worker puts no Stop.

abbrev pub is_stop : Entry → Bool
is_stop Stop = true
is_stop _ = false

round_unstopped : (w : ℕ) (r : Round) → list_any is_stop (round_entries w r) ≡ false
round_unstopped w (Drew ticket key version drawn answer) = refl
round_unstopped w FoundNone = refl
round_unstopped w FoundMany = refl

rounds_unstopped : (w : ℕ) (rs : List Round) → list_any is_stop (flat_map (round_entries w) rs) ≡ false
rounds_unstopped w [] = refl
rounds_unstopped w (r ∷ rs) = list_any-append is_stop (round_entries w r) (flat_map (round_entries w) rs) ∙ ap₂ (λ a b. a || b) (round_unstopped w r) (rounds_unstopped w rs)

last_unstopped : (w : ℕ) (end : WorkEnd) (last : List Entry) → LastEntries w end last → list_any is_stop last ≡ false
last_unstopped w WorkEnd.Stopped last is = ap (list_any is_stop) is
last_unstopped w WorkEnd.Worn last (inl none) = ap (list_any is_stop) none
last_unstopped w WorkEnd.Worn last (inr (ticket, key, version, is)) = ap (list_any is_stop) is

pub worker_unstopped : (w : ℕ) (end : Option WorkEnd) (es : List Entry) → WorkBy w end es → list_any is_stop es ≡ false
worker_unstopped w None es none = ap (list_any is_stop) none
worker_unstopped w (Some end) es work =
    ap (list_any is_stop) work.are ∙ (list_any-append is_stop (flat_map (round_entries w) work.rounds) work.last ∙ ap₂ (λ a b. a || b) (rounds_unstopped w work.rounds) (last_unstopped w end work.last work.ended))
