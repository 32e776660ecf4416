-- Where drawing is local and every update is made as a renew, what is sent as clean is drawn over the newest data.
use Rattle.std.proofs.Common.{◌≡◌, ℕ, ◌<◌, true, false, cond, nat_lt, List, [], ◌∷◌, ◌++◌, length, Some, refl, sym, ap, ◌∙◌, arith, length-append}
use Rattle.std.proofs.lemmas.Bool.Decides.{nat_tests}
use Rattle.farm_history.specs.declared.asks.Spot.{Spot}
use Rattle.farm_history.specs.declared.answers.ClaimAnswer.TheVariants.{Job}
use Rattle.farm_history.specs.declared.answers.Updated.{Updated}
use Rattle.farm_history.specs.declared.answers.Renewed.{Renewed}
use Rattle.farm_history.specs.declared.answers.Restyled.TheVariants.{Styled}
use Rattle.farm_history.specs.declared.answers.Fetched.{Fetched}
use Rattle.farm_history.specs.Entries.{Entry, Claim, Update, Renew, Restyle, Fetch}
use Rattle.farm_history.specs.Plans.{Plan, key_of, map_of, spot_tile, is_servable}
use Rattle.farm_history.specs.Past.{data_after, version, style_after, drawn_after, touches, is_touched_after}
use Rattle.farm_history.specs.Rules.{Fits, Legal}
use Rattle.farm_history.specs.Laws.{has_plain_update, IsLocal, LawNow}
use Rattle.farm_history.proofs.Sounds.{sent_clean, shown_drawn, IsSentClean}

-- an entry that doesn't touch the key of a servable spot, and is no plain update, doesn't change how its tile is drawn
drawn_step : (p : Plan) (spot : Spot) (e : Entry) (g : List Entry) → IsLocal p → is_servable p spot ≡ true → touches p g e (key_of spot) ≡ false → has_plain_update (e ∷ g) ≡ false → drawn_after p (e ∷ g) spot ≡ drawn_after p g spot
unfolding data_after style_after has_plain_update
drawn_step p spot (Update n (Updated.Version v)) g local servable untouched renewed = let never : true ≡ false = renewed in cc
drawn_step p spot (Update n _) g local servable untouched renewed = refl
drawn_step p spot (Renew n (Renewed.Version v count)) g local servable untouched renewed = local spot (style_after p g (map_of spot)) (data_after g) n servable untouched
drawn_step p spot (Renew n _) g local servable untouched renewed = refl
drawn_step p spot (Restyle n (Styled count)) g local servable untouched renewed =
    ap (λ b. p.drawing (map_of spot) (cond b (Some n) (style_after p g (map_of spot))) (spot_tile spot) (data_after g)) untouched
drawn_step p spot (Restyle n _) g local servable untouched renewed = refl
drawn_step p spot _ g local servable untouched renewed = refl

-- no plain update now, none before
renewed_before : (e : Entry) (g : List Entry) → has_plain_update (e ∷ g) ≡ false → has_plain_update g ≡ false
unfolding has_plain_update
renewed_before (Update n (Updated.Version v)) g h = let never : true ≡ false = h in cc
renewed_before (Update n _) g h = h
renewed_before _ g h = h

drawn_same : (p : Plan) (spot : Spot) (place : ℕ) (since before : List Entry) → IsLocal p → is_servable p spot ≡ true → place < length before → is_touched_after p (since ++ before) place (key_of spot) ≡ false → has_plain_update (since ++ before) ≡ false →
    drawn_after p (since ++ before) spot ≡ drawn_after p before spot
unfolding is_touched_after
drawn_same p spot place [] before local servable lt untouched renewed = refl
drawn_same p spot place (e ∷ since) before local servable lt untouched renewed =
    let later : nat_lt place (length (since ++ before)) ≡ true = let long = length-append since before in let far : place < length (since ++ before) = omega arith in grind (arith, nat_tests) in
    drawn_step p spot e (since ++ before) local servable (grind arith) renewed ∙ drawn_same p spot place since before local servable lt (grind arith) (renewed_before e (since ++ before) renewed)

now_fetch : (p : Plan) (g : List Entry) (spot : Spot) (v : ℕ) (bytes : List ℕ) → IsLocal p → has_plain_update g ≡ false → Legal p true g → IsSentClean p true g spot v bytes → bytes ≡ drawn_after p g spot
unfolding data_after style_after
now_fetch p g spot v bytes local renewed legal s =
    let d = shown_drawn p true g (key_of spot) s.before legal s.is_shown in
    s.bytes_are refl ∙ sym (ap (λ h. drawn_after p h spot) d.is_claim ∙ drawn_same p spot (length s.before) d.since (Claim d.worker (Job d.ticket (key_of spot) (version s.before)) ∷ s.before) local s.servable (omega arith) (rw (← d.is_claim) s.is_untouched) (rw (← d.is_claim) renewed))

pub now : LawNow
unfolding Fits
now p [] local renewed legal = tt
now p (Fetch spot (Fetched.Clean v bytes) ∷ g) local renewed legal =
    let before = renewed_before (Fetch spot (Fetched.Clean v bytes)) g renewed in
    (now_fetch p g spot v bytes local before legal.1 (sent_clean p true g spot v bytes legal.0), now p g local before legal.1)
now p (Fetch spot _ ∷ g) local renewed legal = (tt, now p g local (renewed_before _ g renewed) legal.1)
now p (e ∷ g) local renewed legal = (tt, now p g local (renewed_before e g renewed) legal.1)
