use Rattle.std.proofs.Common.{refl, arith}
use Rattle.ct_outside.proofs.Counted.{count_of-push_same, count_of-push_other, count_of-push_later}
use Rattle.ct_outside.proofs.file_shelf.FileShelfShelf.fetch.Goals as goal

pub returns-in-Err-Failed-clause-cause : goal.returns-in-Err-Failed-clause-cause
returns-in-Err-Failed-clause-cause g c = rw c.in_ok-note.ensures.ok (omega (arith, count_of-push_same c.args.self.now.failed c.args.name.now))

pub returns-in-Err-Failed-clause-shelf : goal.returns-in-Err-Failed-clause-shelf
returns-in-Err-Failed-clause-shelf g c = rw c.in_ok-note.ensures.ok record {
  kept = refl;
  later = count_of-push_later c.args.self.now.failed c.args.name.now;
  others = count_of-push_other c.args.self.now.failed c.args.name.now;
}
