-- What a front's first reply is, and the tables without it.
use Rattle.std.proofs.Common.{◌≡◌, ℕ, find, Option, Some, None, ap, ◌∙◌}
use Rattle.farm_history.specs.declared.queues.Reply.{Reply}
use Rattle.farm_history.specs.Lists.{without_first}
use Rattle.render_queues.specs.Tables.{Tables, is_of_front}
use Rattle.farm_core.specs.inner.Effects.{TakesFirst}
use Rattle.farm_core.proofs.Standing.{none_out}

pub takes_first : (old new : Tables) (front : ℕ) (o : Option Reply) → o ≡ find (is_of_front front) old.ended → new ≡ record old { ended = without_first (is_of_front front) old.ended } → TakesFirst old new front o
takes_first old new front None is same = let none : find (is_of_front front) old.ended ≡ None = cc in (none, same ∙ ap (λ rs. record old { ended = rs }) (none_out (is_of_front front) old.ended none))
takes_first old new front (Some r) is same = let found : find (is_of_front front) old.ended ≡ Some r = cc in (found, same)
