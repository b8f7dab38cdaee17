use Rattle.ct_box.proofs.Completions.{box_begins, box_steps, box_fills, box_ends, done_names_full, done_walks}
use Rattle.ct_box.proofs.laws.completions_end_with_the_box.Goals as goal

pub returns-clause-begins : goal.returns-clause-begins
returns-clause-begins c = box_begins

pub returns-clause-steps : goal.returns-clause-steps
returns-clause-steps c = box_steps

pub returns-clause-fills : goal.returns-clause-fills
returns-clause-fills c = box_fills

pub returns-clause-ends : goal.returns-clause-ends
returns-clause-ends c = box_ends

pub returns-clause-full : goal.returns-clause-full
returns-clause-full c = done_names_full

pub returns-clause-walks : goal.returns-clause-walks
returns-clause-walks c = done_walks
