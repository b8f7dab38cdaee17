use Rattle.ct_box.proofs.BoxWalks.{box_walk_least, box_walks_stay}
use Rattle.ct_box.proofs.laws.boxes_lead_to_the_least.Goals as goal

pub returns-clause-least : goal.returns-clause-least
returns-clause-least c = box_walk_least

pub returns-clause-stays : goal.returns-clause-stays
returns-clause-stays c = box_walks_stay
