use Rattle.meta_container.proofs.Drawn.{drawn_are_tiles, drawn_in_place, drawn_come_back}
use Rattle.meta_container.proofs.laws.law_drawn_container.Goals as goal

pub returns : goal.returns
returns c = record { tiles = drawn_are_tiles; place = drawn_in_place; back = drawn_come_back }
