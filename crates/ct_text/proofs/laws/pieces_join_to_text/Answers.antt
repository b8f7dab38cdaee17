use Rattle.ct_text.proofs.Splits.{pieces_from_split, split_from_pieces}
use Rattle.ct_text.proofs.laws.pieces_join_to_text.Goals as goal

pub returns : goal.returns
returns c separator bytes pieces = (pieces_from_split separator bytes pieces, split_from_pieces separator bytes pieces)
