-- That nothing is owed where a farm ended in order.
use Rattle.std.proofs.Common.{◌≡◌, ℕ, ◌⊎◌, inl, inr, Bool, List, [], ◌∷◌, ◌++◌, reverse, refl, ap, subst, ◌∙◌, append_assoc}
use Rattle.std.specs.Prelude.{Option}
use Rattle.std.proofs.lemmas.List.{reverse-append, map-append}
use Rattle.farm_laws.proofs.Sentences.{at_moment}
use Rattle.reactor_ports.specs.declared.ends.FrontEnd.{FrontEnd}
use Rattle.reactor_ports.specs.declared.ends.Rest.{Rest}
use Rattle.reactor_ports.specs.Told.{PortsTold}
use Rattle.farm_history.specs.declared.queues.Reply.{Reply}
use Rattle.farm_history.specs.declared.answers.Collected.{Collected}
use Rattle.farm_history.specs.Entries.{Entry, Collect}
use Rattle.farm_history.specs.Past.{due_replies, is_stopped}
use Rattle.farm_history.specs.Plans.{Plan}
use Rattle.farm_history.specs.Rules.{Fits, Legal, collect_from, collect_rule}
use Rattle.front_loop.specs.Rules.{EachSoFar, Rules}
use Rattle.front_loop.specs.Rounds.{FrontRound}
use Rattle.front_loop.specs.RoundRules.{RoundFits}
use Rattle.front_loop.specs.Serving.{EndHasCause, FrontRun, rests_of}
use Rattle.farm_shared.specs.Seats.{plain}
use Rattle.load_command.specs.Loads.{GivesNone}
use Rattle.farm_call.specs.Owing.{LastIsWhole, OwesNothing}

-- ---- replies

-- entries in their order, before and after one of them, as a history
pub split_back : (before after : List (ℕ × Entry)) (n : ℕ) (e : Entry) (first : List Entry)
    → plain (reverse (before ++ (n, e) ∷ after)) ++ first ≡ plain (reverse after) ++ e ∷ (plain (reverse before) ++ first)
split_back before after n e first =
    ap (λ (l : List (ℕ × Entry)). plain l ++ first) (
    reverse-append before ((n, e) ∷ after) ∙ ap (λ (l : List (ℕ × Entry)). l ++ reverse before) (reverse-append ((n, e) ∷ []) after)
    ∙ append_assoc (reverse after) ((n, e) ∷ []) (reverse before)
    )
    ∙ ap (λ (l : List Entry). l ++ first) (map-append (λ (x : ℕ × Entry). x.1) (reverse after) ((n, e) ∷ reverse before))
    ∙ append_assoc (plain (reverse after)) (e ∷ plain (reverse before)) first

none_due : (replies : List Reply) (stopped : Bool) (answer : Collected) → answer ≡ collect_from replies stopped → GivesNone answer → replies ≡ []
none_due [] stopped answer is none = refl
none_due (r ∷ rs) stopped answer is none = absurd (subst GivesNone is none)

fits_collect : (p : Plan) (told : Bool) (g : List Entry) (front : ℕ) (answer : Collected) → Fits p told g (Collect front answer) → answer ≡ collect_rule g front
unfolding Fits
fits_collect p told g front answer fits = fits

-- a Collect that gave no reply left none that had ended
pub none_left : (p : Plan) (told : Bool) (H before after : List (ℕ × Entry)) (first : List Entry) (n front : ℕ) (answer : Collected) → Legal p told (plain (reverse H) ++ first)
    → H ≡ before ++ (n, Collect front answer) ∷ after → GivesNone answer → due_replies (plain (reverse before) ++ first) front ≡ []
none_left p told H before after first n front answer legal is none =
    let past : List Entry = plain (reverse before) ++ first in
    let all : Legal p told (plain (reverse after) ++ Collect front answer ∷ past) =
    subst (Legal p told) (ap (λ (l : List (ℕ × Entry)). plain (reverse l) ++ first) is ∙ split_back before after n (Collect front answer) first) legal
    in
    let fits : Fits p told past (Collect front answer) = at_moment (Fits p told) (plain (reverse after)) (Collect front answer) past all in
    none_due (due_replies past front) (is_stopped past) answer (fits_collect p told past front answer fits) none

-- ---- the last round

module _ {A W : Type 0} (R : Rules A W) where
  sound_at : (later : List (FrontRound A)) (r : FrontRound A) (before : List (FrontRound A)) → EachSoFar (RoundFits R) (later ++ r ∷ before) → RoundFits R before r
  sound_at [] r before sound = sound.0
  sound_at (x ∷ later) r before sound = sound_at later r before sound.1

  nothing_owed : (rounds : List (FrontRound A)) (rests : List Rest) → EachSoFar (RoundFits R) rounds → LastIsWhole R rounds → rests ≡ rests_of R rounds → OwesNothing R rounds rests
  nothing_owed rounds rests sound whole are = record {
    whole = whole;
    gone = λ later before r is. (sound_at later r before (subst (EachSoFar (RoundFits R)) is sound)).left;
    answers = are;
  }

  finished_whole : (rounds : List (FrontRound A)) (stop : List Entry) (worn : Bool) → EndHasCause R FrontEnd.Finished rounds stop worn → LastIsWhole R rounds
  finished_whole [] stop worn h = h
  finished_whole (r ∷ rs) stop worn h = h.0

  stopped_whole : (rounds : List (FrontRound A)) (stop : List Entry) (worn : Bool) → EndHasCause R FrontEnd.Stopped rounds stop worn → LastIsWhole R rounds
  stopped_whole [] stop worn h = h
  stopped_whole (r ∷ rs) stop worn h = h.0

  -- a front that ended in order owes nothing
  pub paid_up : (start told : Option PortsTold) (mine : List Entry) (end : FrontEnd) (rests : List Rest) (starved : ℕ) (worn : Bool) (run : FrontRun R start told mine end rests starved worn)
      → (end ≡ FrontEnd.Finished) ⊎ (end ≡ FrontEnd.Stopped) → OwesNothing R run.rounds rests
  paid_up start told mine FrontEnd.Finished rests starved worn run ended = nothing_owed run.rounds rests run.sound (finished_whole run.rounds run.stop worn run.end_fits) (run.rests_fit (λ never. cc))
  paid_up start told mine FrontEnd.Stopped rests starved worn run ended = nothing_owed run.rounds rests run.sound (stopped_whole run.rounds run.stop worn run.end_fits) (run.rests_fit (λ never. cc))
  paid_up start told mine FrontEnd.Broken rests starved worn run ended = absurd (elim ended [ inl e ↦ cc | inr e ↦ cc ])
  paid_up start told mine FrontEnd.NoMemory rests starved worn run ended = absurd (elim ended [ inl e ↦ cc | inr e ↦ cc ])
  paid_up start told mine FrontEnd.Worn rests starved worn run ended = absurd (elim ended [ inl e ↦ cc | inr e ↦ cc ])
