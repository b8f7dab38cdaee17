use Rattle.std.proofs.Common.{◌≤◌, inr, subst, arith}
use Rattle.ct_completion.specs.declared.journals.Act.TheVariants.{MarkedFull}
use Rattle.ct_completion.specs.Machine.{marks_full}
use Rattle.ct_version.specs.Desks.{IsOfPlace}
use Rattle.ct_book.specs.declared.outcomes.Published.TheVariants.{Full}
use Rattle.ct_book.specs.Books.{BookSeen, place_of, IsPublished}
use Rattle.ct_book.proofs.StepAnswers.{published_mark, counts_rise}
use Rattle.ct_book.proofs.books.Book.step.Goals as goal

pub returns-in-Full-2-clause-answer : goal.returns-in-Full-2-clause-answer
returns-in-Full-2-clause-answer c =
    let looked = rw c.in-Publish.is at c.in_ok-helped.ensures.answer in
    let published : IsPublished c.args.self.now c.args.by c.publish.new.self (Full c.in-Full-2.mark) =
    subst (λ (b : BookSeen). IsPublished b c.args.by c.publish.new.self (Full c.in-Full-2.mark)) looked.2 (rw c.in-Full-2.is at c.in_ok-version-in-Publish.ensures.answer) in
    inr (
      looked.0,
      looked.1,
      published,
      published_mark c.args.self.now c.version-version.ensures.edition
          (subst (IsOfPlace (place_of c.args.self.now)) c.version-version.ensures.version c.version-version.ensures.place)
          c.args.by c.args.target looked.0 c.publish.new.self c.in-Full-2.mark published,
    )

pub returns-in-Full-2-clause-counts : goal.returns-in-Full-2-clause-counts
returns-in-Full-2-clause-counts c =
    let looked = rw c.in-Publish.is at c.in_ok-helped.ensures.answer in
    let published : IsPublished c.args.self.now c.args.by c.publish.new.self (Full c.in-Full-2.mark) =
    subst (λ (b : BookSeen). IsPublished b c.args.by c.publish.new.self (Full c.in-Full-2.mark)) looked.2 (rw c.in-Full-2.is at c.in_ok-version-in-Publish.ensures.answer) in
    (1, (let most : 1 ≤ 1 = omega arith in most), counts_rise c.args.self.now c.publish.new.self marks_full c.args.by (MarkedFull c.in-Full-2.mark.grade) published.2)
