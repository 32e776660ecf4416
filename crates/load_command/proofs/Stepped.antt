-- A whole step, from its parts.
use Rattle.std.proofs.Common.{◌≡◌, ℕ, ◌+◌, ◌||◌, ◌⊎◌, inl, inr, Bool, true, false, List, [], ◌∷◌, ◌++◌, map, refl, sym, ap, ◌∙◌, append_assoc, arith}
use Rattle.std.specs.Prelude.{Result, Ok, Err, MatchBool}
use Rattle.std.proofs.Math.Bool.{or_assoc}
use Rattle.farm_base.specs.Outside.{Outside}
use Rattle.farm_base.specs.declared.memory.NoMemory.{NoMemory}
use Rattle.tile_store.specs.Stores.{StoreTold}
use Rattle.farm_history.specs.declared.queues.Reply.{Reply}
use Rattle.farm_history.specs.declared.asks.Spot.{Spot}
use Rattle.farm_history.specs.declared.asks.AskAnswer.{AskAnswer}
use Rattle.farm_history.specs.declared.asks.Cmd.TheVariants.{Render}
use Rattle.farm_history.specs.declared.answers.ClaimAnswer.{ClaimAnswer}
use Rattle.farm_history.specs.declared.answers.ClaimAnswer.TheVariants as claimed
use Rattle.farm_history.specs.declared.answers.Fetched.{Fetched}
use Rattle.farm_history.specs.declared.answers.Fetched.TheVariants as fetched
use Rattle.farm_history.specs.Entries.{Entry, Ask, Claim, Finish, Expire, Fetch, Collect}
use Rattle.farm_history.specs.Plans.{spot_tile}
use Rattle.farm_history.specs.Lists.{Each}
use Rattle.farm_history.proofs.Lists.{each-join}
use Rattle.farm_refinement.specs.Seen.{FarmSeen}
use Rattle.script_text.specs.ScriptTexts.{has_failed}
use Rattle.script_text.specs.inner.Steps.{is_failed_fetch}
use Rattle.work_gen.specs.declared.stepping.Step.{Step}
use Rattle.load_command.specs.declared.steps.StepSeen.{StepSeen}
use Rattle.load_command.specs.Loads.{EndsClaim, IsEventOf, clean_tiles, loader}
use Rattle.load_command.specs.inner.Progress.{Expires, collect_entry, weight, Grows, BreaksOff, Draws, CollectsAll, FetchesOne, Steps, clean_of}
use Rattle.load_command.proofs.Weights.{ask_weighs}

-- ---- what events leave of the sums

fetch_tiles : (spot : Spot) (answer : Fetched) (g : List Entry) → clean_tiles (Fetch spot answer ∷ g) ≡ clean_of answer ++ clean_tiles g
unfolding clean_tiles
fetch_tiles spot (fetched.Clean version bytes) g = refl
fetch_tiles spot (fetched.Dirty version bytes) g = refl
fetch_tiles spot fetched.Missing g = refl
fetch_tiles spot fetched.Unservable g = refl
fetch_tiles spot fetched.Gone g = refl
fetch_tiles spot (fetched.Spoilt fault) g = refl
fetch_tiles spot fetched.GetFailed g = refl
fetch_tiles spot fetched.NoMemory g = refl

fetch_noted : (spot : Spot) (answer : Fetched) (g : List Entry) → has_failed (Fetch spot answer ∷ g) ≡ (is_failed_fetch answer || has_failed g)
fetch_noted spot (fetched.Clean version bytes) g = refl
fetch_noted spot (fetched.Dirty version bytes) g = refl
fetch_noted spot fetched.Missing g = refl
fetch_noted spot fetched.Unservable g = refl
fetch_noted spot fetched.Gone g = refl
fetch_noted spot (fetched.Spoilt fault) g = refl
fetch_noted spot fetched.GetFailed g = refl
fetch_noted spot fetched.NoMemory g = refl

ask_tiles : (s : Step) (answer : AskAnswer) (g : List Entry) → clean_tiles (Ask loader Render s.spot answer ∷ g) ≡ clean_tiles g
unfolding clean_tiles
ask_tiles s answer g = refl

replies_tiles : (replies : List Reply) (g : List Entry) → clean_tiles (map collect_entry replies ++ g) ≡ clean_tiles g
unfolding clean_tiles
replies_tiles [] g = refl
replies_tiles (r ∷ rs) g = replies_tiles rs g

replies_noted : (replies : List Reply) (g : List Entry) → has_failed (map collect_entry replies ++ g) ≡ has_failed g
replies_noted [] g = refl
replies_noted (r ∷ rs) g = replies_noted rs g

collects_tiles : (g h : List Entry) → CollectsAll g h → clean_tiles h ≡ clean_tiles g
unfolding clean_tiles
collects_tiles g h c = ap clean_tiles c.3 ∙ replies_tiles c.0 g

collects_noted : (g h : List Entry) → CollectsAll g h → has_failed h ≡ has_failed g
collects_noted g h c = ap has_failed c.3 ∙ replies_noted c.0 g

ends_tiles : (answer : ClaimAnswer) (g h : List Entry) → EndsClaim answer (Claim 0 answer ∷ g) h → clean_tiles h ≡ clean_tiles g
unfolding clean_tiles
ends_tiles (claimed.Job ticket key version) g h e = ap clean_tiles e.2
ends_tiles claimed.Idle g h e = ap clean_tiles e
ends_tiles claimed.Crowded g h e = ap clean_tiles e
ends_tiles claimed.Stopped g h e = ap clean_tiles e

expires_by : (s : Step) (g h : List Entry) → Expires s g h → ((count : ℕ) × (h ≡ Expire (spot_tile s.spot) count ∷ g) × (s.expire ≡ true)) ⊎ (h ≡ g)
expires_by s g h e = go s.expire refl e
  where
    go : (b : Bool) → s.expire ≡ b → MatchBool b ((count : ℕ) × (h ≡ Expire (spot_tile s.spot) count ∷ g)) (h ≡ g) → ((count : ℕ) × (h ≡ Expire (spot_tile s.spot) count ∷ g) × (s.expire ≡ true)) ⊎ (h ≡ g)
    go true is x = inl (x.0, x.1, is)
    go false is same = inr same

expires_tiles : (s : Step) (g h : List Entry) → Expires s g h → clean_tiles h ≡ clean_tiles g
unfolding clean_tiles
expires_tiles s g h e = elim (expires_by s g h e) [ inl x ↦ ap clean_tiles x.1 | inr same ↦ ap clean_tiles same ]

expires_noted : (s : Step) (g h : List Entry) → Expires s g h → has_failed h ≡ has_failed g
expires_noted s g h e = elim (expires_by s g h e) [ inl x ↦ ap has_failed x.1 | inr same ↦ ap has_failed same ]

-- ---- the events of a step

broke_then : (s : Step) (a b c : List Entry) → BreaksOff s a b → BreaksOff s b c → BreaksOff s a c
broke_then s a b c first next = (
  next.0 ++ first.0,
  next.1 ∙ ap (λ (xs : List Entry). next.0 ++ xs) first.1 ∙ sym (append_assoc next.0 first.0 a),
  each-join (IsEventOf s) next.0 first.0 next.2 first.2,
)

ask_broke : (s : Step) (answer : AskAnswer) (g : List Entry) → BreaksOff s g (Ask loader Render s.spot answer ∷ g)
ask_broke s answer g = (Ask loader Render s.spot answer ∷ [], refl, ((refl, refl, refl), tt))

expires_broke : (s : Step) (g h : List Entry) → Expires s g h → BreaksOff s g h
expires_broke s g h e = elim (expires_by s g h e) [ inl x ↦ (Expire (spot_tile s.spot) x.0 ∷ [], x.1, ((x.2, refl), tt)) | inr same ↦ ([], same, tt) ]

ends_broke : (s : Step) (answer : ClaimAnswer) (g h : List Entry) → EndsClaim answer (Claim 0 answer ∷ g) h → BreaksOff s g h
ends_broke s (claimed.Job ticket key version) g h e = (Finish ticket true e.0 ∷ Claim 0 (claimed.Job ticket key version) ∷ [], e.2, (refl, (refl, tt)))
ends_broke s claimed.Idle g h e = (Claim 0 claimed.Idle ∷ [], e, (refl, tt))
ends_broke s claimed.Crowded g h e = (Claim 0 claimed.Crowded ∷ [], e, (refl, tt))
ends_broke s claimed.Stopped g h e = (Claim 0 claimed.Stopped ∷ [], e, (refl, tt))

replies_events : (s : Step) (replies : List Reply) → Each (IsEventOf s) (map collect_entry replies)
replies_events s [] = tt
replies_events s (r ∷ rs) = (refl, replies_events s rs)

collects_broke : (s : Step) (g h : List Entry) → CollectsAll g h → BreaksOff s g h
collects_broke s g h c = (Collect 0 c.1 ∷ map collect_entry c.0, c.3, (refl, replies_events s c.0))

-- ---- the whole step

module _ {D : Type 0} (state : D → Outside StoreTold) (told : Bool) (s : Step) (g : List Entry) (first : FarmSeen D) (e : Grows state told first (weight g + 1) (Expires s g)) (asked : AskAnswer) where
  abbrev asks : List Entry
  asks = Ask loader Render s.spot asked ∷ e.after

  -- it broke off in its drawing
  pub step_undrawn : (farm : FarmSeen D) (wanting other : NoMemory) → Grows state told farm (weight asks + 2) (Draws s asks (Err wanting)) → Grows state told farm (weight g + 7) (Steps s g (Err other))
  step_undrawn farm wanting other d = record {
    after = d.after;
    stands = d.stands;
    small = let a = e.small in let b = ask_weighs loader Render s.spot asked e.after in let c = d.small in omega (arith, a, b, c);
    held = broke_then s g asks d.after (broke_then s g e.after asks (expires_broke s g e.after e.held) (ask_broke s asked e.after)) d.held;
  }

  module _ (lost : Bool) (third fourth fifth : FarmSeen D) (d : Grows state told third (weight asks + 2) (Draws s asks (Ok lost))) (k : Grows state told fourth (weight d.after + 1) (CollectsAll d.after)) where
    -- it was run, or broke off in its fetch
    pub stepped : (result : Result StepSeen NoMemory) → Grows state told fifth (weight k.after + 1) (FetchesOne s.spot lost k.after result) → Grows state told fifth (weight g + 7) (Steps s g result)
    stepped result f = record {
      after = f.after;
      stands = f.stands;
      small = let a = e.small in let b = ask_weighs loader Render s.spot asked e.after in let c = d.small in let x = k.small in let y = f.small in omega (arith, a, b, c, x, y);
      held = held_of result f.after f.held;
    }
      where
        held_of : (r : Result StepSeen NoMemory) (h : List Entry) → FetchesOne s.spot lost k.after r h → Steps s g r h
        held_of (Ok seen) h o = (
          record {
            expired = e.after;
            expires = e.held;
            asked = asked;
            claimed = d.held.0;
            ended = d.after;
            ends = d.held.1;
            replies = k.held.0;
            last = k.held.1;
            is_last = k.held.2;
            fetched = seen.fetched;
            has_memory = o.1;
            after_is = o.0 ∙ ap (λ (x : List Entry). Fetch s.spot seen.fetched ∷ x) k.held.3;
          },
          ap clean_tiles o.0
              ∙ fetch_tiles s.spot seen.fetched k.after
              ∙ ap (λ (x : List (List ℕ)). clean_of seen.fetched ++ x) (collects_tiles d.after k.after k.held ∙ ends_tiles d.held.0 asks d.after d.held.1 ∙ ask_tiles s asked e.after ∙ expires_tiles s g e.after e.held),
          ap has_failed o.0
              ∙ fetch_noted s.spot seen.fetched k.after
              ∙ ap (λ (b : Bool). is_failed_fetch seen.fetched || b) (collects_noted d.after k.after k.held ∙ d.held.2 ∙ ap (λ (b : Bool). lost || b) (expires_noted s g e.after e.held))
              ∙ sym (or_assoc (is_failed_fetch seen.fetched) lost (has_failed g))
              ∙ ap (λ (b : Bool). b || has_failed g) (sym o.2),
        )
        held_of (Err wanting) h o =
            broke_then s g k.after h
            (broke_then s g d.after k.after
            (broke_then s g asks d.after (broke_then s g e.after asks (expires_broke s g e.after e.held) (ask_broke s asked e.after)) (ends_broke s d.held.0 asks d.after d.held.1))
            (collects_broke s d.after k.after k.held))
            (Fetch s.spot fetched.NoMemory ∷ [], o, (refl, tt))
