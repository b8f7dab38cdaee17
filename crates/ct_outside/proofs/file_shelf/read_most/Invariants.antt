use Rattle.ct_outside.proofs.Consumed.{HasRead}
use Rattle.ct_outside.proofs.file_shelf.read_most.Given as goal

abbrev pub invariant-loop : goal.invariant-loop
invariant-loop g l = HasRead (g.F.Read.remaining l.fn.file) (g.F.Read.remaining l.file) l.into.items l.most
