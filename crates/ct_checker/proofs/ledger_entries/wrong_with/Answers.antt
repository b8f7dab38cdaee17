use Rattle.std.proofs.Common.{ℕ, ◌≤◌, Option, true≢false, refl, List, Some, sym, subst, ap₂, ◌∙◌}
use Rattle.std.proofs.lemmas.Bool.{cond-true, cond-false}
use Rattle.ct_vectors.specs.declared.limits.TheConstants.{GRADE_LIMIT}
use Rattle.ct_instance.specs.Instance.{IsPoint, grade_of}
use Rattle.ct_instance.specs.Jobs.{first_end_of, second_end_of}
use Rattle.ct_checker.specs.Refusals.{is_coprime, end_of_steps, walks_reason}
use Rattle.ct_checker.specs.Accepted.{job_of}
use Rattle.ct_checker.specs.declared.verdicts.Reason.TheVariants.{Coprime}
use Rattle.ct_checker.proofs.Refusals.{coprime_test, coprime_false}
use Rattle.ct_checker.proofs.Entries.{walked_from, walks_wrong, same_from_ne}
use Rattle.ct_checker.proofs.ledger_entries.wrong_with.Goals as goal

pub returns-then-coprime-clause-reason : goal.returns-then-coprime-clause-reason
returns-then-coprime-clause-reason c =
    let i = c.args.inst.now in
    let ms = c.args.moves.now.moves in
    let rest = walks_reason (end_of_steps ms (first_end_of i ms c.args.job) c.in-Walks.one) (end_of_steps ms (second_end_of i ms c.args.job) c.in-Walks.other) in
    sym (walks_wrong i ms c.args.job c.in-Walks.field-0 c.args.entry.now c.in-Walks.one c.in-Walks.other c.in-Walks.is
    (same_from_ne c.args.job c.job_of.result (job_of c.args.entry.now) c.if-ne.ensures c.job_of.ensures) ∙
    cond-true (is_coprime ms c.args.job) (Some Coprime) rest ((coprime_test ms c.args.job).1 (c.if-coprime.ensures.0 refl)))

pub wrong_walks-requires-clause-first_point : goal.wrong_walks-requires-clause-first_point
wrong_walks-requires-clause-first_point c =
    let w = walked_from c.args.inst.now c.args.moves.now c.instance-inst.ensures.checked c.requires.instance c.args.job c.requires.job in
    subst (IsPoint c.args.moves.now.instance) (sym c.ends_into.ensures.first) w.0.0

pub wrong_walks-requires-clause-first_grade : goal.wrong_walks-requires-clause-first_grade
wrong_walks-requires-clause-first_grade c =
    let w = walked_from c.args.inst.now c.args.moves.now c.instance-inst.ensures.checked c.requires.instance c.args.job c.requires.job in
    subst (λ p. grade_of c.args.moves.now.instance.columns p ≤ GRADE_LIMIT) (sym c.ends_into.ensures.first) w.0.1

pub wrong_walks-requires-clause-second_point : goal.wrong_walks-requires-clause-second_point
wrong_walks-requires-clause-second_point c =
    let w = walked_from c.args.inst.now c.args.moves.now c.instance-inst.ensures.checked c.requires.instance c.args.job c.requires.job in
    subst (IsPoint c.args.moves.now.instance) (sym c.ends_into.ensures.second) w.1.0

pub wrong_walks-requires-clause-second_grade : goal.wrong_walks-requires-clause-second_grade
wrong_walks-requires-clause-second_grade c =
    let w = walked_from c.args.inst.now c.args.moves.now c.instance-inst.ensures.checked c.requires.instance c.args.job c.requires.job in
    subst (λ p. grade_of c.args.moves.now.instance.columns p ≤ GRADE_LIMIT) (sym c.ends_into.ensures.second) w.1.1

pub returns-else-coprime-clause-reason : goal.returns-else-coprime-clause-reason
returns-else-coprime-clause-reason c =
    let i = c.args.inst.now in
    let ms = c.args.moves.now.moves in
    let rest = λ (one other : Option (List ℕ)). walks_reason one other in
    c.wrong_walks.ensures.reason ∙
    ap₂ rest (ap₂ (end_of_steps ms) c.ends_into.ensures.first c.as_slice.ensures) (ap₂ (end_of_steps ms) c.ends_into.ensures.second c.as_slice-in-Walks.ensures) ∙
    sym (cond-false (is_coprime ms c.args.job) (Some Coprime)
    (walks_reason (end_of_steps ms (first_end_of i ms c.args.job) c.in-Walks.one) (end_of_steps ms (second_end_of i ms c.args.job) c.in-Walks.other))
    (coprime_false ms c.args.job (λ k. true≢false (sym (c.if-coprime.ensures.1 k))))) ∙
    sym (walks_wrong i ms c.args.job c.in-Walks.field-0 c.args.entry.now c.in-Walks.one c.in-Walks.other c.in-Walks.is
    (same_from_ne c.args.job c.job_of.result (job_of c.args.entry.now) c.if-ne.ensures c.job_of.ensures))
