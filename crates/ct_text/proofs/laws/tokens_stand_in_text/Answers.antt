use Rattle.ct_text.proofs.Standing.{stands_from_among, among_from_stands}
use Rattle.ct_text.proofs.laws.tokens_stand_in_text.Goals as goal

pub returns : goal.returns
returns c bytes token = (stands_from_among bytes token, among_from_stands bytes token)
