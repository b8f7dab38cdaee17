use Rattle.ct_session.proofs.Parts.{shown_rises, shown_parts, asks_take_words}
use Rattle.ct_session.proofs.laws.scripts_go_part_by_part.Goals as goal

pub returns-clause-parts : goal.returns-clause-parts
returns-clause-parts c = shown_parts

pub returns-clause-rises : goal.returns-clause-rises
returns-clause-rises c = shown_rises

pub returns-clause-words : goal.returns-clause-words
returns-clause-words c = asks_take_words
