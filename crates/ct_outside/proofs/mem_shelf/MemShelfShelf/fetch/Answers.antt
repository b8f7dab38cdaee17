use Rattle.std.proofs.Common.{refl, arith}
use Rattle.ct_outside.proofs.Counted.{count_of-push_same, count_of-push_other, count_of-push_later}
use Rattle.ct_outside.proofs.mem_shelf.MemShelfShelf.fetch.Goals as goal

pub returns-in-Err-Failed-clause-cause : goal.returns-in-Err-Failed-clause-cause
returns-in-Err-Failed-clause-cause c = rw (c.in_ok-note.ensures.ok, ← c.self.view_is) (omega (arith, count_of-push_same c.self.inside.failed c.args.name.now))

pub returns-in-Err-Failed-clause-shelf : goal.returns-in-Err-Failed-clause-shelf
returns-in-Err-Failed-clause-shelf c = rw (c.in_ok-note.ensures.ok, ← c.self.view_is) record {
  kept = refl;
  later = count_of-push_later c.self.inside.failed c.args.name.now;
  others = count_of-push_other c.self.inside.failed c.args.name.now;
}
