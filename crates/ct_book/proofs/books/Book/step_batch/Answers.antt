use Rattle.std.proofs.Common.{◌≡◌, ◌∷◌, map, refl, ap, arith}
use Rattle.ct_completion.specs.Journal.{entries_of}
use Rattle.ct_book.specs.Tasks.{placed}
use Rattle.ct_book.specs.Books.{IsHandedOut}
use Rattle.ct_book.specs.Batches.{AreHandedOut}
use Rattle.ct_book.proofs.BatchRuns.{handed_keeps, handed_waits, handed_journal, still_beyond, beside_first, tasks_beside}
use Rattle.ct_book.proofs.books.Book.step_batch.Goals as goal

pub hand_out_beside-requires-clause-waits : goal.hand_out_beside-requires-clause-waits
hand_out_beside-requires-clause-waits c =
    let h : IsHandedOut c.args.self.now c.args.target c.in-Reduce.first c.step.new.self = rw c.in-Reduce.is at c.in_ok-step.ensures.answer in
    handed_waits c.args.self.now c.step.new.self (c.in-Reduce.first).job h.steps

pub hand_out_beside-requires-clause-grade : goal.hand_out_beside-requires-clause-grade
hand_out_beside-requires-clause-grade c =
    let h : IsHandedOut c.args.self.now c.args.target c.in-Reduce.first c.step.new.self = rw c.in-Reduce.is at c.in_ok-step.ensures.answer in
    (c.args.target, c.requires.target, still_beyond c.args.self.now c.step.new.self c.args.target (handed_keeps c.args.self.now c.step.new.self (c.in-Reduce.first).job h.steps).0 h.beyond)

pub returns-in-Reduce-clause-answer : goal.returns-in-Reduce-clause-answer
returns-in-Reduce-clause-answer c =
    let h : IsHandedOut c.args.self.now c.args.target c.in-Reduce.first c.step.new.self = rw c.in-Reduce.is at c.in_ok-step.ensures.answer in
    beside_first c.args.self.now c.step.new.self c.hand_out_beside.new.book c.args.target c.in-Reduce.first c.hand_out_beside.new.jobs.items h c.hand_out_beside.ensures.handed

pub returns-in-Reduce-clause-tasks : goal.returns-in-Reduce-clause-tasks
returns-in-Reduce-clause-tasks c =
    let h : IsHandedOut c.args.self.now c.args.target c.in-Reduce.first c.step.new.self = rw c.in-Reduce.is at c.in_ok-step.ensures.answer in
    tasks_beside c.args.self.now c.step.new.self c.args.target c.in-Reduce.first c.hand_out_beside.new.jobs.items h c.hand_out_beside.ensures.tasks

pub returns-in-Reduce-clause-counts : goal.returns-in-Reduce-clause-counts
returns-in-Reduce-clause-counts c =
    let h : IsHandedOut c.args.self.now c.args.target c.in-Reduce.first c.step.new.self = rw c.in-Reduce.is at c.in_ok-step.ensures.answer in
    let rises = rw c.in-Reduce.is at c.in_ok-step.ensures.counts in
    let all : AreHandedOut c.args.self.now c.args.target (c.in-Reduce.first ∷ map (placed (c.in-Reduce.first).version) c.hand_out_beside.new.jobs.items) c.hand_out_beside.new.book =
    beside_first c.args.self.now c.step.new.self c.hand_out_beside.new.book c.args.target c.in-Reduce.first c.hand_out_beside.new.jobs.items h c.hand_out_beside.ensures.handed in
    let same : c.hand_out_beside.new.book.journal ≡ c.args.self.now.journal =
    handed_journal c.args.self.now c.hand_out_beside.new.book c.args.target (c.in-Reduce.first ∷ map (placed (c.in-Reduce.first).version) c.hand_out_beside.new.jobs.items) all in
    (0, refl, (omega (arith, ap (entries_of c.args.by) same), λ pass ne. ap (entries_of pass) same))
