use Rattle.std.proofs.Common.{rules, true≢false, sym, refl}
use Rattle.ct_instance.specs.Versions.{coprime}
use Rattle.ct_jobs.proofs.JobEnds.{first_starts, second_starts, left_by_ends}
use Rattle.ct_jobs.proofs.reducing.reduce_job.Goals as goal

pub first_above-start-requires-clause-first_point : goal.first_above-start-requires-clause-first_point
first_above-start-requires-clause-first_point c =
    (first_starts c.args.moves.now c.instance.ensures.checked c.args.job c.requires.job c.requires.grade c.ends_into.new.first (search rules)).point

pub first_above-start-requires-clause-second_point : goal.first_above-start-requires-clause-second_point
first_above-start-requires-clause-second_point c =
    (second_starts c.args.moves.now c.instance.ensures.checked c.args.job c.requires.job c.requires.grade c.ends_into.new.second (search rules)).point

pub have_one_end-requires-clause-first_point : goal.have_one_end-requires-clause-first_point
have_one_end-requires-clause-first_point c =
    (first_starts c.args.moves.now c.instance.ensures.checked c.args.job c.requires.job c.requires.grade c.ends_into.new.first (search rules)).point

pub have_one_end-requires-clause-first_grade : goal.have_one_end-requires-clause-first_grade
have_one_end-requires-clause-first_grade c =
    (first_starts c.args.moves.now c.instance.ensures.checked c.args.job c.requires.job c.requires.grade c.ends_into.new.first (search rules)).grade

pub have_one_end-requires-clause-second_point : goal.have_one_end-requires-clause-second_point
have_one_end-requires-clause-second_point c =
    (second_starts c.args.moves.now c.instance.ensures.checked c.args.job c.requires.job c.requires.grade c.ends_into.new.second (search rules)).point

pub have_one_end-requires-clause-second_grade : goal.have_one_end-requires-clause-second_grade
have_one_end-requires-clause-second_grade c =
    (second_starts c.args.moves.now c.instance.ensures.checked c.args.job c.requires.job c.requires.grade c.ends_into.new.second (search rules)).grade

pub returns-then-coprime-clause-left : goal.returns-then-coprime-clause-left
returns-then-coprime-clause-left c = coprime (c.if-coprime.ensures.0 refl)

pub returns-clause-left : goal.returns-clause-left
returns-clause-left c =
    left_by_ends c.args.moves.now.instance c.args.moves.now.moves c.args.job c.have_one_end.new.first c.have_one_end.new.second c.ends_into.new.first c.ends_into.new.second
    c.have_one_end.result (search rules) (search rules) (λ h. true≢false (sym (c.if-coprime.ensures.1 h))) c.have_one_end.ensures.one_end.0 c.have_one_end.ensures.one_end.1
    c.have_one_end.ensures.two_ends
