-- Where each update expires what it reaches, what is sent as clean is the plain drawing over the newest data.
use Rattle.std.proofs.Common.{◌≡◌, ℕ, true, List, [], ◌∷◌, Option, ap, ◌∙◌}
use Rattle.farm_history.specs.declared.asks.Spot.{Spot}
use Rattle.farm_history.specs.declared.answers.Fetched.{Fetched}
use Rattle.farm_history.specs.Entries.{Entry, Fetch, EachMoment}
use Rattle.farm_history.specs.Plans.{spot_tile, map_of, is_servable}
use Rattle.farm_history.specs.Past.{data_after, style_after, drawn_after}
use Rattle.farm_history.specs.Rules.{Fits, Legal}
use Rattle.farm_history.specs.Laws.{NowAt}
use Rattle.farm_history.proofs.Nows.{now}
use Rattle.farm_history.proofs.Sounds.{sent_clean}
use Rattle.farm_plan.specs.Plans.{MapPlan, FarmPlan, IsPlan}
use Rattle.farm_plan.specs.Drawings.{tile_in, data_of, plan_of}
use Rattle.farm_plan.proofs.Spots.{spot_of}
use Rattle.farm_laws.specs.Locality.{IsDrawnNow, IsSentNow, LawSentNow}
use Rattle.farm_laws.proofs.Local.{local}

drawn_now : (plan : FarmPlan) (g : List Entry) (spot : Spot) (bytes : List ℕ) → IsPlan plan → is_servable (plan_of plan) spot ≡ true → bytes ≡ drawn_after (plan_of plan) g spot → IsDrawnNow plan g spot bytes
unfolding plan_of
drawn_now plan g spot bytes valid servable e =
    let s = spot_of plan spot valid servable in
    record {
      map = s.map;
      is_map = s.is_map;
      bytes_are = e ∙ ap (λ (o : Option MapPlan). tile_in plan o (style_after (plan_of plan) g (map_of spot)) (spot_tile spot) (data_of plan (data_after g))) s.is_map;
    }

each_now : (plan : FarmPlan) (h : List Entry) → IsPlan plan → Legal (plan_of plan) true h → EachMoment (NowAt (plan_of plan)) h → EachMoment (IsSentNow plan) h
unfolding Fits
each_now plan [] valid legal nows = tt
each_now plan (Fetch spot (Fetched.Clean v bytes) ∷ g) valid legal nows =
    (drawn_now plan g spot bytes valid (sent_clean (plan_of plan) true g spot v bytes legal.0).servable nows.0, each_now plan g valid legal.1 nows.1)
each_now plan (Fetch spot _ ∷ g) valid legal nows = (tt, each_now plan g valid legal.1 nows.1)
each_now plan (e ∷ g) valid legal nows = (tt, each_now plan g valid legal.1 nows.1)

pub sent_now : LawSentNow
sent_now plan h valid ranged renewed legal = each_now plan h valid legal (now (plan_of plan) h (local plan valid ranged) renewed legal)
