use Rattle.ct_walk.specs.Laws.{IsWithin}
use Rattle.ct_walk.proofs.WalkFacts.{test_list_moves, walks_stay, walk_least, walk_least_within, parts_within}
use Rattle.ct_walk.proofs.laws.walks_stay.Goals as goal

pub returns-clause-moves : goal.returns-clause-moves
returns-clause-moves c = test_list_moves

pub returns-clause-stays : goal.returns-clause-stays
returns-clause-stays c = walks_stay

pub returns-clause-least : goal.returns-clause-least
returns-clause-least c = walk_least

pub returns-clause-within : goal.returns-clause-within
returns-clause-within c = λ i s g top ms moves heads. walk_least_within i s ms moves (IsWithin g top) (parts_within g top) heads
