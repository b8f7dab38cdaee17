use Rattle.std.proofs.Common.{sym, ap, ◌∙◌}
use Rattle.std.proofs.lemmas.Map.Iter.{rest_more, rest_all}
use Rattle.std.specs.Map.Iter.{deref_pair}
use Rattle.ct_jobs.specs.GradedJobs.{next_grade}
use Rattle.ct_jobs.proofs.ByGradeFacts.{next_is_first, first_key}
use Rattle.ct_jobs.proofs.by_grade.ByGrade.next_above.Goals as goal

pub returns-in-Some : goal.returns-in-Some
returns-in-Some c =
    sym (ap (next_grade c.args.above) (sym c.self.view_is) ∙ next_is_first c.args.above c.self.inside.map.entries c.range.ensures.ordered ∙
    ap first_key (sym (c.range.ensures.between _) ∙ rest_more deref_pair c.range.result c.next.new.self c.next.result (c.in-Some.grade, c.in-Some.field-0-1) c.in-Some.is c.next.ensures.steps))

pub returns-in-None : goal.returns-in-None
returns-in-None c =
    sym (ap (next_grade c.args.above) (sym c.self.view_is) ∙ next_is_first c.args.above c.self.inside.map.entries c.range.ensures.ordered ∙
    ap first_key (sym (c.range.ensures.between _) ∙ rest_all deref_pair c.range.result c.next.new.self c.next.result c.in-None.is c.next.ensures.steps))
