use Rattle.std.proofs.Common.{◌≡◌, ◌<◌, sym, ap, subst, ◌∙◌, arith}
use Rattle.ct_completion.specs.Journal.{entries_of}
use Rattle.ct_book.specs.Books.{BookSeen}
use Rattle.ct_book.specs.Benches.{BenchPlace}
use Rattle.ct_host.proofs.Called.{Taken, taken, fits_here}
use Rattle.ct_host.proofs.locked.LockedBook.commit.Goals as goal

pub returns : goal.returns
returns c =
    let b = c.deref_mut.result.now in let after = c.commit-done.new.self in let same : b ≡ c.args.self.now = c.deref_mut.ensures.value ∙ c.self.view_is in
    let own : c.args.by < b.passes = subst (λ (x : BookSeen). c.args.by < x.passes) (sym same) c.requires.pass in
    let s : Taken c.args.self.now after c.args.by c.args.r c.commit-done.result =
    subst (λ (x : BookSeen). Taken x after c.args.by c.args.r c.commit-done.result) same
    (taken b after c.args.by c.args.r c.commit-done.result own c.commit-done.ensures.answer c.commit-done.ensures.count c.commit-done.ensures.others) in
    let entries : c.entries-entries.result ≡ entries_of c.args.by after.journal = c.entries-entries.ensures.entries ∙ ap (λ (x : BookSeen). entries_of c.args.by x.journal) c.deref.ensures in
    let passes : after.passes ≡ c.args.self.now.passes = ap (λ (p : BenchPlace). p.passes) s.place in
    record {
      place = s.place;
      answer = s.answer;
      grows = s.grows;
      fits = fits_here after c.args.by c.entries-entries.result _ (omega (arith, passes, c.requires.pass)) entries c.entries-entries.type_inv;
      count = s.count;
    }
