use Rattle.std.proofs.Common.{ℕ, ◌≡◌, List, length, sym, ap, subst, ◌∙◌, arith}
use Rattle.std.proofs.lemmas.List.{take_at}
use Rattle.ct_vectors.specs.Vectors.{total, divides}
use Rattle.ct_instance.specs.Instance.{Problem, IsPoint, degree_of, grade_of}
use Rattle.ct_instance.specs.Jobs.{job_degree_of, job_grade_of}
use Rattle.ct_box.proofs.JobEnds.{are_ends}
use Rattle.ct_box.proofs.within.is_within.Goals as goal

pub degree_into-requires-clause-point : goal.degree_into-requires-clause-point
degree_into-requires-clause-point c =
    let e = are_ends c.args.moves.now c.instance-inst.ensures.checked c.args.job c.requires.job.job c.deref.result.now (c.deref.ensures ∙ c.instance-inst.ensures.instance) c.ends_into.new.first c.ends_into.new.second c.ends_into.ensures.first c.ends_into.ensures.second in
    subst (λ (i : Problem). IsPoint i c.ends_into.new.first) (sym (c.deref-3.ensures ∙ c.instance-inst.ensures.instance)) e.first

pub degree_into-requires-clause-limit : goal.degree_into-requires-clause-limit
degree_into-requires-clause-limit c =
    let e = are_ends c.args.moves.now c.instance-inst.ensures.checked c.args.job c.requires.job.job c.deref.result.now (c.deref.ensures ∙ c.instance-inst.ensures.instance) c.ends_into.new.first c.ends_into.new.second c.ends_into.ensures.first c.ends_into.ensures.second in
    let same : grade_of c.deref-3.result.now.columns c.ends_into.new.first ≡ job_grade_of c.args.moves.now.instance c.args.moves.now.moves c.args.job =
    ap (λ (i : Problem). grade_of i.columns c.ends_into.new.first) (c.deref-3.ensures ∙ c.instance-inst.ensures.instance) ∙ ap total e.degree in
    omega (arith, same, c.requires.job.grade)

pub returns-clause-within : goal.returns-clause-within
returns-clause-within c =
    let e = are_ends c.args.moves.now c.instance-inst.ensures.checked c.args.job c.requires.job.job c.deref.result.now (c.deref.ensures ∙ c.instance-inst.ensures.instance) c.ends_into.new.first c.ends_into.new.second c.ends_into.ensures.first c.ends_into.ensures.second in
    let degree : degree_of c.deref-3.result.now.columns c.ends_into.new.first ≡ job_degree_of c.args.moves.now.instance c.args.moves.now.moves c.args.job =
    ap (λ (i : Problem). degree_of i.columns c.ends_into.new.first) (c.deref-3.ensures ∙ c.instance-inst.ensures.instance) ∙ e.degree in
    let out : c.degree_into.new.out ≡ job_degree_of c.args.moves.now.instance c.args.moves.now.moves c.args.job = c.degree_into.ensures ∙ degree in
    let size : length c.degree_into.new.out ≡ c.rows-rows.result =
    ap length out ∙ e.right ∙ sym (c.rows-rows.ensures.rows ∙ ap (λ (i : Problem). i.rows) (c.deref-2.ensures ∙ c.instance-inst.ensures.instance)) in
    c.is_at_most.ensures ∙ ap (λ (d : List ℕ). divides d c.args.top.now) (take_at c.degree_into.new.out _ c.rows-rows.result size ∙ out)

pub returns-clause-first_stays_point : goal.returns-clause-first_stays_point
returns-clause-first_stays_point c =
    (are_ends c.args.moves.now c.instance-inst.ensures.checked c.args.job c.requires.job.job c.deref.result.now (c.deref.ensures ∙ c.instance-inst.ensures.instance) c.ends_into.new.first c.ends_into.new.second c.ends_into.ensures.first c.ends_into.ensures.second).first

pub returns-clause-second_stays_point : goal.returns-clause-second_stays_point
returns-clause-second_stays_point c =
    (are_ends c.args.moves.now c.instance-inst.ensures.checked c.args.job c.requires.job.job c.deref.result.now (c.deref.ensures ∙ c.instance-inst.ensures.instance) c.ends_into.new.first c.ends_into.new.second c.ends_into.ensures.first c.ends_into.ensures.second).second
