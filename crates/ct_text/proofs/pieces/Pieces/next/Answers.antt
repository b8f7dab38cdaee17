use Rattle.std.proofs.Common.{arith}
use Rattle.std.proofs.lemmas.List.{take_rest}
use Rattle.ct_text.proofs.Splits.{first_len-le, takes_last, takes_one}
use Rattle.ct_text.proofs.pieces.Pieces.next.Goals as goal

pub split_at-requires : goal.split_at-requires
split_at-requires c = omega (arith, first_len-le c.self.inside.separator c.self.inside.left.now, c.piece_len-len.ensures)

pub returns-in-empty : goal.returns-in-empty
returns-in-empty c = takes_last c.self.inside.separator c.piece_len-len.result c.self.inside.is_done c.self.inside.left.now c.split_at.result.0.now c.split_at.result.1.now c.args.self.now c.if-self.false c.self.view_is c.piece_len-len.ensures c.split_at.ensures.front c.split_at.ensures.back c.in-empty.len_below

pub returns-in-len1-up : goal.returns-in-len1-up
returns-in-len1-up c = takes_one c.self.inside.separator c.piece_len-len.result c.self.inside.is_done c.self.inside.left.now c.split_at.result.0.now c.split_at.result.1.now c.args.self.now c.if-self.false c.self.view_is c.piece_len-len.ensures c.split_at.ensures.front c.split_at.ensures.back
    _ c.in-len1-up.len_at_least (take_rest c.split_at.result.1.now 1)
