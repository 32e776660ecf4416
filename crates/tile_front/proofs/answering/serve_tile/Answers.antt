use Rattle.std.proofs.Common.{◌≡◌, ◌⊎◌, ℕ, None, Some, refl, ap, inl, inr}
use Rattle.farm_history.specs.declared.asks.AskAnswer.{AskAnswer}
use Rattle.farm_history.specs.declared.asks.AskAnswer.TheVariants.{Queued, Joined, Lifted, Done, NotDone, Silent}
use Rattle.farm_history.specs.declared.asks.Why.{Why}
use Rattle.farm_history.specs.Past.{number_in}
use Rattle.tile_front.proofs.Says.{did_ask, did_fetch}
use Rattle.tile_front.proofs.answering.serve_tile.Goals as goal

numbered : (a : AskAnswer) (n : ℕ) → (a ≡ Queued n) ⊎ (a ≡ Joined n) ⊎ (a ≡ Lifted n) → number_in a ≡ Some n
numbered a n (inl e) = ap number_in e
numbered a n (inr (inl e)) = ap number_in e
numbered a n (inr (inr e)) = ap number_in e

unnumbered : (a : AskAnswer) → (a ≡ Done) ⊎ ((why : Why) × (a ≡ NotDone why)) ⊎ (a ≡ Silent) → number_in a ≡ None
unnumbered a (inl e) = ap number_in e
unnumbered a (inr (inl e)) = ap number_in e.1
unnumbered a (inr (inr e)) = ap number_in e

pub returns-in-Done-clause-does : goal.returns-in-Done-clause-does
returns-in-Done-clause-does g c =
    did_fetch c.args.conn c.args.spot c.in-Ok.answer _ _ _ _ _ _ (unnumbered _ c.in-Done.is) c.in-Ok.ensures.takes refl c.fetch_and_say.ensures.fetches

pub returns-in-Queued-clause-does : goal.returns-in-Queued-clause-does
returns-in-Queued-clause-does g c =
    did_ask c.args.conn c.args.spot c.in-Ok.answer c.in-Queued.number _ _ _ _ (numbered _ _ c.in-Queued.is) c.in-Ok.ensures.takes refl c.requires.empty

pub returns-in-Queued-2-clause-does : goal.returns-in-Queued-2-clause-does
returns-in-Queued-2-clause-does g c =
    did_ask c.args.conn c.args.spot c.in-Ok.answer c.in-Queued.number _ _ _ _ (numbered _ _ c.in-Queued.is) c.in-Ok.ensures.takes refl c.requires.empty

pub returns-in-Queued-3-clause-does : goal.returns-in-Queued-3-clause-does
returns-in-Queued-3-clause-does g c =
    did_ask c.args.conn c.args.spot c.in-Ok.answer c.in-Queued.number _ _ _ _ (numbered _ _ c.in-Queued.is) c.in-Ok.ensures.takes refl c.requires.empty
