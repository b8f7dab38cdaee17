use Rattle.std.proofs.Common.{[], ◌∷◌, sym, subst, ◌∙◌, refl, arith}
use Rattle.ct_completion.specs.declared.journals.Act.TheVariants.{Stored}
use Rattle.ct_completion.specs.Machine.{hands_out, stores}
use Rattle.ct_book.specs.Books.{BookSeen, IsCovered, IsHandedOut, Runs, entry_by}
use Rattle.ct_book.proofs.RunsOn.{IsTurned, run_none, run_more, turned, stored_shorter}
use Rattle.ct_book.proofs.completing.resolve_all.Goals as goal

pub loop-task-init : goal.loop-task-init
loop-task-init c = record { runs = run_none c.args.book.now; number = refl; unchanged = λ h. refl }

pub resolve-requires-clause-waits : goal.resolve-requires-clause-waits
resolve-requires-clause-waits c =
    let handed : IsHandedOut c.loop-task.book c.args.target c.in-Reduce.task c.next.new.self = rw c.in-Reduce.is at c.in_ok-settled.ensures.answer in
    (turned c.loop-task.book c.args.target c.in-Reduce.task c.next.new.self handed).listed

pub loop-task-preserved : goal.loop-task-preserved
loop-task-preserved c =
    let handed : IsHandedOut c.loop-task.book c.args.target c.in-Reduce.task c.next.new.self = rw c.in-Reduce.is at c.in_ok-settled.ensures.answer in
    let t : IsTurned c.loop-task.book c.in-Reduce.task c.next.new.self = turned c.loop-task.book c.args.target c.in-Reduce.task c.next.new.self handed in
    let stored = c.in_ok-resolve-in-Reduce.ensures.stored in
    let shorter = stored_shorter c.next.new.self c.in-Reduce.task.job (entry_by c.next.new.self c.args.by (Stored c.in-Reduce.task.job) ∷ []) c.resolve.new.book stored in
    record {
      runs = run_more c.args.book.now c.next.new.self c.resolve.new.book (stores c.in-Reduce.task.job) (entry_by c.next.new.self c.args.by (Stored c.in-Reduce.task.job) ∷ [])
          (run_more c.args.book.now c.loop-task.book c.next.new.self (hands_out c.in-Reduce.task.job) [] c.loop-task.invariant.runs handed.steps refl) stored refl;
      number = shorter.1 ∙ t.number ∙ c.loop-task.invariant.number;
      unchanged = λ h. absurd (handed.beyond (subst (λ (b : BookSeen). IsCovered b c.args.target) (sym (c.loop-task.invariant.unchanged h)) h));
    }

pub loop-task-smaller : goal.loop-task-smaller
loop-task-smaller c =
    let handed : IsHandedOut c.loop-task.book c.args.target c.in-Reduce.task c.next.new.self = rw c.in-Reduce.is at c.in_ok-settled.ensures.answer in
    let t : IsTurned c.loop-task.book c.in-Reduce.task c.next.new.self = turned c.loop-task.book c.args.target c.in-Reduce.task c.next.new.self handed in
    let shorter = stored_shorter c.next.new.self c.in-Reduce.task.job (entry_by c.next.new.self c.args.by (Stored c.in-Reduce.task.job) ∷ []) c.resolve.new.book c.in_ok-resolve-in-Reduce.ensures.stored in
    omega (arith, shorter.0, t.length)

pub returns-in_err-resolve-in-Reduce-clause-runs : goal.returns-in_err-resolve-in-Reduce-clause-runs
returns-in_err-resolve-in-Reduce-clause-runs c =
    let handed : IsHandedOut c.loop-task.book c.args.target c.in-Reduce.task c.next.new.self = rw c.in-Reduce.is at c.in_ok-settled.ensures.answer in
    subst (Runs c.args.book.now) (sym c.in_err-resolve-in-Reduce.ensures.refused)
    (run_more c.args.book.now c.loop-task.book c.next.new.self (hands_out c.in-Reduce.task.job) [] c.loop-task.invariant.runs handed.steps refl)
