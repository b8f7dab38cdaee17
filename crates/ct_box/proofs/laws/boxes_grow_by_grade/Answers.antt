use Rattle.ct_box.proofs.BoxLists.{box_lists, box_is_whole}
use Rattle.ct_box.proofs.Openings.{box_starts, box_opens, box_grows}
use Rattle.ct_box.proofs.laws.boxes_grow_by_grade.Goals as goal

pub returns-clause-one : goal.returns-clause-one
returns-clause-one c = box_lists

pub returns-clause-starts : goal.returns-clause-starts
returns-clause-starts c = box_starts

pub returns-clause-opens : goal.returns-clause-opens
returns-clause-opens c = box_opens

pub returns-clause-grows : goal.returns-clause-grows
returns-clause-grows c = box_grows

pub returns-clause-whole : goal.returns-clause-whole
returns-clause-whole c = box_is_whole
