-- What is said of a move by its kind.
use Rattle.std.specs.Prelude.{List}
use Rattle.farm_history.specs.declared.queues.Reply.{Reply}
use Rattle.farm_history.specs.Entries.{Entry}
use Rattle.front_loop.specs.Rules.{Move, Does, Gets}

-- of a move, by whether it is a request that was done or a reply
abbrev pub by_move : {A B : Type 0} → (A → B) → (Reply → List Entry → B) → Move A → B
by_move does gets (Does a) = does a
by_move does gets (Gets r behind) = gets r behind
