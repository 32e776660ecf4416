-- How many events there were and how many asks are open: a bound of how often a farm is called.
use Rattle.std.proofs.Common.{◌≡◌, ℕ, ◌+◌, ◌≤◌, Bool, true, false, not, cond, ◌==◌, List, [], ◌∷◌, ◌++◌, length, filter, refl, ap, ◌∙◌, arith}
use Rattle.std.specs.Prelude.{Option, Some, None}
use Rattle.std.specs.List.{list_any}
use Rattle.std.proofs.lemmas.Bool.Decides.{nat_tests}
use Rattle.std.proofs.lemmas.List.{length-map, length-append}
use Rattle.plain_world.specs.declared.world.Tile.{Tile}
use Rattle.farm_base.specs.Outside.{Outside}
use Rattle.tile_store.specs.Stores.{StoreTold}
use Rattle.farm_history.specs.declared.queues.Conn.{Conn}
use Rattle.farm_history.specs.declared.queues.Reply.{Reply}
use Rattle.farm_history.specs.declared.asks.Cmd.{Cmd}
use Rattle.farm_history.specs.declared.asks.Spot.{Spot}
use Rattle.farm_history.specs.declared.asks.AskAnswer.{AskAnswer}
use Rattle.farm_history.specs.declared.answers.Collected.{Collected}
use Rattle.farm_history.specs.declared.answers.ClaimAnswer.{ClaimAnswer}
use Rattle.farm_history.specs.declared.answers.Finished.{Finished}
use Rattle.farm_history.specs.declared.answers.Fetched.{Fetched}
use Rattle.farm_history.specs.Entries.{Entry, Ask, Claim, Finish, Expire, Fetch, Collect}
use Rattle.farm_history.specs.Plans.{Plan, key_of}
use Rattle.farm_history.specs.Past.{Numbered, number_in, with_ask, open_asks}
use Rattle.farm_history.specs.Rules.{Fits, Legal}
use Rattle.farm_history.specs.Seen.{waiting_asks, outbox}
use Rattle.farm_history.specs.Lists.{Each}
use Rattle.farm_history.proofs.Lists.{each-map}
use Rattle.farm_history.proofs.Replies.{collected}
use Rattle.farm_history.proofs.Unended.{open_split}
use Rattle.farm_refinement.specs.Seen.{FarmSeen}
use Rattle.farm_refinement.specs.Stands.{asked_of, StandsFor}
use Rattle.farm_refinement.proofs.Queueing.{count_all}
use Rattle.load_command.specs.Loads.{GivesNone}
use Rattle.load_command.specs.inner.Progress.{weight}

-- a list without what passes is shorter, where something passes
fewer : {X : Type 0} (q : X → Bool) (xs : List X) → list_any q xs ≡ true → length (filter (λ x. not (q x)) xs) + 1 ≤ length xs
fewer q [] some = absurd (cc)
fewer {X} q (x ∷ xs) some = go (q x) refl (fewer q xs)
  where
    most : (ys : List X) → length (filter (λ y. not (q y)) ys) ≤ length ys
    most [] = omega arith
    most (y ∷ ys) = at (q y) (most ys)
      where
        at : (b : Bool) → length (filter (λ z. not (q z)) ys) ≤ length ys → length (cond (not b) (y ∷ filter (λ z. not (q z)) ys) (filter (λ z. not (q z)) ys)) ≤ length (y ∷ ys)
        at true h = omega (arith, h)
        at false h = omega (arith, h)

    go : (b : Bool) → q x ≡ b → (list_any q xs ≡ true → length (filter (λ z. not (q z)) xs) + 1 ≤ length xs) → length (cond (not (q x)) (x ∷ filter (λ z. not (q z)) xs) (filter (λ z. not (q z)) xs)) + 1 ≤ length (x ∷ xs)
    go true is ih = let rest = most xs in rw is (omega (arith, rest))
    go false is ih = let rest = ih (grind (arith, is, some)) in rw is (omega (arith, rest))

-- each of the asks has a number of one of them
own_numbers : (asks : List Numbered) → Each (λ a. list_any (λ b. b.number == a.number) asks ≡ true) asks
own_numbers [] = tt
own_numbers (x ∷ xs) =
    let same : (x.number == x.number) ≡ true = grind (arith, nat_tests) in
    (grind (arith, same), each-map _ _ xs (λ a h. grind (arith, h)) (own_numbers xs))

-- a Collect that gives a reply closes an ask
pub reply_closes : (p : Plan) (told : Bool) (front : ℕ) (r : Reply) (g : List Entry) → Legal p told (Collect front (Collected.Reply r) ∷ g)
    → length (open_asks (Collect front (Collected.Reply r) ∷ g)) + 1 ≤ length (open_asks g)
unfolding open_asks Fits
reply_closes p told front r g legal =
    let given = collected (λ a. list_any (λ b. b.number == a.number) (open_asks g) ≡ true) g front r (own_numbers (open_asks g)) legal.0 in
    fewer (λ b. b.number == r.ask) (open_asks g) (rw given.number_is given.holds)

pub reply_lowers : (p : Plan) (told : Bool) (front : ℕ) (r : Reply) (g : List Entry) → Legal p told (Collect front (Collected.Reply r) ∷ g)
    → weight (Collect front (Collected.Reply r) ∷ g) ≤ weight g
reply_lowers p told front r g legal = let less = reply_closes p told front r g legal in omega (arith, less)

-- one that gives none leaves them
pub last_weighs : (front : ℕ) (last : Collected) (g : List Entry) → GivesNone last → weight (Collect front last ∷ g) ≤ weight g + 1
unfolding open_asks
last_weighs front (Collected.Reply r) g is = absurd is
last_weighs front Collected.Stopped g is = omega arith
last_weighs front Collected.Empty g is = omega arith

-- nor do these
pub expire_weighs : (tile : Tile) (count : ℕ) (g : List Entry) → weight (Expire tile count ∷ g) ≤ weight g + 1
unfolding open_asks
expire_weighs tile count g = omega arith

pub claim_weighs : (worker : ℕ) (answer : ClaimAnswer) (g : List Entry) → weight (Claim worker answer ∷ g) ≤ weight g + 1
unfolding open_asks
claim_weighs worker answer g = omega arith

pub finish_weighs : (ticket : ℕ) (drawn : Bool) (answer : Finished) (g : List Entry) → weight (Finish ticket drawn answer ∷ g) ≤ weight g + 1
unfolding open_asks
finish_weighs ticket drawn answer g = omega arith

pub fetch_weighs : (spot : Spot) (answer : Fetched) (g : List Entry) → weight (Fetch spot answer ∷ g) ≤ weight g + 1
unfolding open_asks
fetch_weighs spot answer g = omega arith

-- an ask opens one at most
pub ask_weighs : (conn : Conn) (command : Cmd) (spot : Spot) (answer : AskAnswer) (g : List Entry) → weight (Ask conn command spot answer ∷ g) ≤ weight g + 2
unfolding open_asks
ask_weighs conn command spot answer g = go (number_in answer)
  where
    go : (o : Option ℕ) → length (Ask conn command spot answer ∷ g) + length (with_ask o conn (key_of spot) g (open_asks g)) ≤ weight g + 2
    go None = omega arith
    go (Some n) = let more : length (open_asks g ++ record { conn = conn; number = n; key = key_of spot; before = g } ∷ []) ≡ length (open_asks g) + 1 = length-append (open_asks g) _ ∙ omega arith in omega (arith, more)

-- the tables of a farm have the open asks
pub open_kept : {D : Type 0} (state : D → Outside StoreTold) (told : Bool) (farm : FarmSeen D) (h : List Entry) → StandsFor state told farm h
    → length farm.queues.asks + length farm.queues.ended ≡ length (open_asks h)
open_kept state told farm h stands =
    let waiting : length farm.queues.asks ≡ length (waiting_asks h) = ap length stands.queues_are.asks_are ∙ length-map (waiting_asks h) asked_of in
    let over : length farm.queues.ended ≡ length (outbox h) = ap length stands.queues_are.ended_are in
    let split = open_split (λ c. true) h in
    let all = count_all (open_asks h) in
    let some = count_all (waiting_asks h) in
    let rest = count_all (outbox h) in
    omega (arith, waiting, over, split, all, some, rest)
