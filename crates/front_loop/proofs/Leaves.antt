-- What is so of all that a front leaves: of which kinds its entries are, and where it ends worn; and that a front that was not begun leaves what it may.
use Rattle.std.proofs.Common.{◌≡◌, ◌≢◌, ◌⊎◌, inl, inr, ℕ, Bool, true, false, ◌==◌, cond, List, [], ◌∷◌, ◌++◌, Option, Some, None, IfSome, option_map, refl, sym, ◌∙◌, subst, append-nil}
use Rattle.std.proofs.lemmas.Bool.{eq-eqb}
use Rattle.farm_base.specs.Outside.{Outside}
use Rattle.farm_history.specs.declared.queues.Reply.{Reply}
use Rattle.farm_history.specs.declared.answers.Collected.TheVariants as collected
use Rattle.farm_history.specs.Entries.{Entry, Collect, Leave, Stop}
use Rattle.farm_history.specs.Lists.{Each}
use Rattle.reactor_ports.specs.declared.ends.FrontDone.{FrontDone}
use Rattle.reactor_ports.specs.declared.ends.FrontEnd.{FrontEnd}
use Rattle.reactor_ports.specs.declared.ends.Rest.{Rest}
use Rattle.reactor_ports.specs.Told.{PortsTold, heard}
use Rattle.front_loop.specs.Rules.{EachSoFar, Rules, Move, Does, Gets}
use Rattle.front_loop.specs.Rounds.{Gathered, Departure, FrontRound, in_turn, asked_by, with_last, own}
use Rattle.front_loop.specs.Conns.{brings, before, told_after}
use Rattle.front_loop.specs.RoundRules.{RoundFits}
use Rattle.front_loop.specs.Serving.{EndHasCause, TellsOf}
use Rattle.reactor_ports.specs.declared.events.PortEvent.{PortEvent}
use Rattle.reactor_ports.specs.declared.events.PortEvent.TheVariants as event
use Rattle.front_loop.specs.Kinds.{IsOfFront, AreOfFront, IsUnbegun}
use Rattle.front_loop.specs.Leaves.{FrontLeaves, IsFront}
use Rattle.farm_history.proofs.Lists.{each-join}

-- What is so of every front.

may_stop : {A W : Type 0} (R : Rules A W) (rs : List (FrontRound A)) (stop : List Entry) (worn : Bool) (end : FrontEnd) → EndHasCause R end rs stop worn → (stop ≡ []) ⊎ ((stop ≡ Stop ∷ []) × (end ≢ FrontEnd.Finished))
may_stop R (r ∷ rs) stop worn FrontEnd.Finished fits = inl fits.3
may_stop R (r ∷ rs) stop worn FrontEnd.Stopped fits = inr (fits.2, λ never. cc)
may_stop R [] stop worn FrontEnd.Finished fits = absurd fits
may_stop R [] stop worn FrontEnd.Stopped fits = absurd fits
may_stop R rs stop worn FrontEnd.Broken fits = inr (fits.1, λ never. cc)
may_stop R rs stop worn FrontEnd.NoMemory fits = inr (fits.1, λ never. cc)
may_stop R rs stop worn FrontEnd.Worn fits = inl fits.1

module _ {A W : Type 0} (R : Rules A W) where
  pub marked : (shown after : Outside PortsTold) (es : List Entry) (done : FrontDone) (worn : Bool) → FrontLeaves R shown after es done worn → done.end ≡ FrontEnd.Worn → worn ≡ true
  marked shown after es done worn left is = (subst (λ end. EndHasCause R end left.served.rounds left.served.stop worn) is left.served.end_fits).0

  -- the moves of the requests, if they are of this connection; and with the replies to it
  abbrev asks_on : PortEvent → List A → ℕ → List (Move A)
  asks_on e acts c = in_turn (λ a ms. cond (brings e c) (Does a ∷ ms) ms) acts []

  abbrev gets_on : List Gathered → ℕ → List (Move A) → List (Move A)
  gets_on gs c ms = in_turn (λ (g : Gathered) ms. cond (g.reply.conn.number == c) (Gets g.reply g.behind ∷ ms) ms) gs ms

  -- every move fits those before it
  abbrev AllFit : List (Move A) → Type 0
  AllFit ms = EachSoFar (λ ns m. R.fits ns m ≡ true) ms

  -- the replies of a round fit what came before them on their connection
  abbrev RepliesFit : PortEvent → List A → (ℕ → List (Move A)) → List Gathered → Type 0
  RepliesFit e acts old gs = (c : ℕ) → AllFit (gets_on gs c (asks_on e acts c) ++ old c)

  fewer : (b : Bool) (g : Gathered) (ms old : List (Move A)) → AllFit (cond b (Gets g.reply g.behind ∷ ms) ms ++ old) → AllFit (ms ++ old)
  fewer true g ms old h = h.1
  fewer false g ms old h = h

  first_fits : (b : Bool) (g : Gathered) (ms old : List (Move A)) → b ≡ true → AllFit (cond b (Gets g.reply g.behind ∷ ms) ms ++ old) → R.fits (ms ++ old) (Gets g.reply g.behind) ≡ true
  first_fits true g ms old is h = h.0
  first_fits false g ms old is h = cc

  -- the entries of each round are a front's
  module _ (n : ℕ) (acts : (c : ℕ) (a : A) → Each (IsOfFront n) (R.entries c a)) (behinds : (ms : List (Move A)) (r : Reply) (behind : List Entry) → R.fits ms (Gets r behind) ≡ true → Each (IsOfFront n) behind) where
    abbrev with_asked : PortEvent → List A → List Entry → List Entry
    with_asked e acted es = in_turn (λ (a : A) es. es ++ asked_by R e a) acted es

    abbrev with_replies : List Gathered → List Entry → List Entry
    with_replies gs es = in_turn (λ (g : Gathered) es. es ++ Collect R.number (collected.Reply g.reply) ∷ g.behind) gs es

    abbrev with_leaves : List Departure → List Entry → List Entry
    with_leaves ds es = in_turn (λ (d : Departure) es. es ++ Leave (record { front = R.number; number = d.conn }) d.asks ∷ []) ds es

    each_asked_by : (e : PortEvent) (a : A) → Each (IsOfFront n) (asked_by R e a)
    each_asked_by (event.Bytes c) a = acts c a
    each_asked_by _ a = tt

    each_asked : (e : PortEvent) (acted : List A) (es : List Entry) → Each (IsOfFront n) es → Each (IsOfFront n) (with_asked e acted es)
    each_asked e [] es h = h
    each_asked e (a ∷ acted) es h = each-join (IsOfFront n) (with_asked e acted es) (asked_by R e a) (each_asked e acted es h) (each_asked_by e a)

    each_reply : (e : PortEvent) (acted : List A) (old : ℕ → List (Move A)) (gs : List Gathered) (es : List Entry) → RepliesFit e acted old gs → Each (IsOfFront n) es → Each (IsOfFront n) (with_replies gs es)
    each_reply e acted old [] es fits h = h
    each_reply e acted old (g ∷ gs) es fits h =
        let c = g.reply.conn.number in
        each-join (IsOfFront n) (with_replies gs es) _ (each_reply e acted old gs es (λ d. fewer (c == d) g (gets_on gs d (asks_on e acted d)) (old d) (fits d)) h)
        (tt, behinds _ g.reply g.behind (first_fits (c == c) g (gets_on gs c (asks_on e acted c)) (old c) (eq-eqb c c refl) (fits c)))

    each_last : (last : Option Bool) (es : List Entry) → Each (IsOfFront n) es → Each (IsOfFront n) (with_last R last es)
    each_last None es h = h
    each_last (Some stopped) es h = each-join (IsOfFront n) es _ h (tt, tt)

    each_leave : (ds : List Departure) (es : List Entry) → Each (IsOfFront n) es → Each (IsOfFront n) (with_leaves ds es)
    each_leave [] es h = h
    each_leave (d ∷ ds) es h = each-join (IsOfFront n) (with_leaves ds es) _ (each_leave ds es h) (tt, tt)

    each_own : (rs : List (FrontRound A)) → EachSoFar (RoundFits R) rs → Each (IsOfFront n) (own R rs)
    each_own [] sound = tt
    each_own (r ∷ rs) sound =
        each_leave r.left _ (each_last r.last _ (each_reply r.event r.acts (λ c. (before rs r c).moves) r.replies _ sound.0.fits (each_asked r.event r.acts (own R rs) (each_own rs sound.1))))

    kinds_by : (shown after : Outside PortsTold) (es : List Entry) (done : FrontDone) (worn : Bool) → FrontLeaves R shown after es done worn → AreOfFront n es done.end
    kinds_by shown after es done worn left = record {
      served = own R left.served.rounds;
      stop = left.served.stop;
      are = left.served.entries;
      kinds = each_own left.served.rounds left.served.sound;
      may_stop = may_stop R left.served.rounds left.served.stop worn done.end left.served.end_fits;
    }

  -- and so are all entries that it leaves
  pub kinds : (n : ℕ) → IsFront n R → (shown after : Outside PortsTold) (es : List Entry) (done : FrontDone) (worn : Bool) → FrontLeaves R shown after es done worn → AreOfFront n es done.end
  kinds n front shown after es done worn left = kinds_by n front.acts front.behinds shown after es done worn left

  -- A front that was not begun.

  telling : (start : Option PortsTold) → start ≡ option_map (λ t. cond false (heard event.Broken [] t) t) (option_map (told_after R []) start)
  telling None = refl
  telling (Some t) = refl

  tells : (start : Option PortsTold) → IfSome start (λ t. (c : ℕ) → TellsOf R [] t c)
  tells None = tt
  tells (Some t) = λ c. (sym (append-nil (t.taken c)), λ closed. closed)

  -- it has made no round
  no_rounds : (shown : Outside PortsTold) (es stop : List Entry) (done : FrontDone) (worn : Bool) → es ≡ stop → EndHasCause R done.end [] stop worn → done.rests.items ≡ [] → done.end ≢ FrontEnd.Broken → done.starved ≡ 0 → FrontLeaves R shown shown es done worn
  no_rounds shown es stop done worn are fits rests whole none = record {
    served = record {
      rounds = [];
      broke = false;
      stop = stop;
      entries = are;
      telling = telling shown.told;
      sound = tt;
      tells = tells shown.told;
      end_fits = fits;
      broken = λ is. absurd (whole is);
      breaks = λ never. cc;
      handed = subst (Each (λ (r : Rest). r.front ≡ R.number)) (sym rests) tt;
      rests_fit = λ turned. rests;
      counted = none;
    };
    broken = λ is. absurd (whole is);
  }

  pub unbegun : (shown : Outside PortsTold) (es : List Entry) (done : FrontDone) (worn : Bool) → IsUnbegun es done worn → FrontLeaves R shown shown es done worn
  unbegun shown es done worn is = go is.ended
    where
      go : ((es ≡ Stop ∷ []) × (done.end ≡ FrontEnd.NoMemory)) ⊎ ((es ≡ []) × (done.end ≡ FrontEnd.Worn) × (worn ≡ true)) → FrontLeaves R shown shown es done worn
      go (inl a) =
          no_rounds shown es (Stop ∷ []) done worn a.0 (subst (λ end. EndHasCause R end [] (Stop ∷ []) worn) (sym a.1) (tt, refl)) is.no_rests
          (λ broken. let never = sym a.1 ∙ broken in cc) is.none_starved
      go (inr a) =
          no_rounds shown es [] done worn a.0 (subst (λ end. EndHasCause R end [] [] worn) (sym a.1) (a.2, refl)) is.no_rests
          (λ broken. let never = sym a.1 ∙ broken in cc) is.none_starved
