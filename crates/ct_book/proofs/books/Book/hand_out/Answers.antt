use Rattle.std.proofs.Common.{ℕ, List, [], drop, sym, subst}
use Rattle.std.specs.Arc.{arc_value}
use Rattle.ct_completion.specs.Machine.{hands_out}
use Rattle.ct_book.specs.Queues.{QueueSeen}
use Rattle.ct_book.specs.Tasks.{IsTask}
use Rattle.ct_book.specs.Books.{BookSeen, IsCovered, Steps, edition_of}
use Rattle.ct_book.specs.Insides.{Insides, book_in, IsBook}
use Rattle.ct_handing.proofs.Short.{short_of}
use Rattle.ct_book.proofs.Keeping.{inside_of, is_task, handed_kept}
use Rattle.ct_book.proofs.books.Book.hand_out.Goals as goal

pub invariant_of-self : goal.invariant_of-self
invariant_of-self c =
    let x : Insides = (inside_of (arc_value c.self.inside.version) c.self.inside.limit c.self.inside.full c.self.inside.levels.items c.self.inside.buckets.jobs c.self.inside.queue c.self.inside.log) in
    let rest : List ℕ = drop 1 (x.queue).order in
    let done = handed_kept x c.self.invariant c.hand_out-place.result.0 c.hand_out-place.result.1 rest c.hand_out-place.ensures.first c.hand_out-place.ensures.job in
    subst (λ (q : QueueSeen). IsBook (inside_of x.version x.limit x.full x.levels x.jobs q x.log)) (sym c.hand_out-place.ensures.turned) done.0

pub returns-clause-task : goal.returns-clause-task
returns-clause-task c =
    let x : Insides = (inside_of (arc_value c.self.inside.version) c.self.inside.limit c.self.inside.full c.self.inside.levels.items c.self.inside.buckets.jobs c.self.inside.queue c.self.inside.log) in
    let g : ℕ = c.requires.grade.0 in
    let beyond : IsCovered (book_in x) g → ⊥ = subst (λ (b : BookSeen). IsCovered b g → ⊥) (sym c.self.view_is) c.requires.grade.2 in
    let task : IsTask (record { version = x.version; place = c.hand_out-place.result.0; job = c.hand_out-place.result.1 }) =
    is_task x c.self.invariant g c.hand_out-place.result.0 c.hand_out-place.result.1 c.requires.grade.1 (short_of x.version g beyond) c.hand_out-place.ensures.job in
    subst (λ (b : BookSeen). IsTask (record { version = edition_of b; place = c.hand_out-place.result.0; job = c.hand_out-place.result.1 })) c.self.view_is task

pub returns-clause-steps : goal.returns-clause-steps
returns-clause-steps c =
    let x : Insides = (inside_of (arc_value c.self.inside.version) c.self.inside.limit c.self.inside.full c.self.inside.levels.items c.self.inside.buckets.jobs c.self.inside.queue c.self.inside.log) in
    let rest : List ℕ = drop 1 (x.queue).order in
    let done = handed_kept x c.self.invariant c.hand_out-place.result.0 c.hand_out-place.result.1 rest c.hand_out-place.ensures.first c.hand_out-place.ensures.job in
    subst (λ (b : BookSeen). Steps b (hands_out c.hand_out-place.result.1) [] (book_in (inside_of x.version x.limit x.full x.levels x.jobs c.hand_out-place.new.self x.log))) c.self.view_is
    (subst (λ (q : QueueSeen). Steps (book_in x) (hands_out c.hand_out-place.result.1) [] (book_in (inside_of x.version x.limit x.full x.levels x.jobs q x.log)))
    (sym c.hand_out-place.ensures.turned) done.1)
