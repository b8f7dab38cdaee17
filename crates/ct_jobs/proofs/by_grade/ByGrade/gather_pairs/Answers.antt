use Rattle.std.proofs.Common.{◌≡◌, ◌++◌, [], OnOk, sym, ap, subst, ◌∙◌, append-nil}
use Rattle.ct_jobs.specs.GradedJobs.{of_grade}
use Rattle.ct_jobs.specs.PairsByGrade.{jobs_in}
use Rattle.ct_jobs.proofs.ByGradeFacts.{jobs_found, found_jobs}
use Rattle.ct_jobs.proofs.by_grade.ByGrade.gather_pairs.Goals as goal

pub returns-in-Some : goal.returns-in-Some
returns-in-Some c =
    let g = c.args.grade in
    let e : of_grade g c.args.self.now ≡ jobs_in c.in-Some.pairs.now =
    ap (of_grade g) (sym c.self.view_is) ∙ jobs_found g c.self.inside.map.entries c.len-grades.ensures.ordered ∙ ap found_jobs (sym c.in-Some.ensures.value) in
    subst (λ l. OnOk c.push_pairs.result (c.push_pairs.new.out.items ≡ c.args.out.now.items ++ l)) (sym e) c.push_pairs.ensures

pub returns-in-None : goal.returns-in-None
returns-in-None c =
    let g = c.args.grade in
    let e : of_grade g c.args.self.now ≡ [] =
    ap (of_grade g) (sym c.self.view_is) ∙ jobs_found g c.self.inside.map.entries c.len-grades.ensures.ordered ∙ ap found_jobs (sym c.in-None.ensures.value) in
    sym (ap (λ l. c.args.out.now.items ++ l) e ∙ append-nil c.args.out.now.items)
