use Rattle.std.proofs.Common.{◌≡◌, ◌<◌, sym, ap, subst, ◌∙◌, arith}
use Rattle.ct_completion.specs.Journal.{entries_of}
use Rattle.ct_book.specs.Books.{BookSeen}
use Rattle.ct_book.specs.Benches.{BenchPlace}
use Rattle.ct_host.proofs.Called.{fits_here}
use Rattle.ct_host.proofs.BatchCalls.{BatchTaken, batch_taken}
use Rattle.ct_host.proofs.locked.LockedBook.commit_all.Goals as goal

pub entries-entries-requires : goal.entries-entries-requires
entries-entries-requires c =
    let b = c.deref_mut.result.now in let after = c.commit_all.new.self in let same : b ≡ c.args.self.now = c.deref_mut.ensures.value ∙ c.self.view_is in
    let own : c.args.by < b.passes = subst (λ (x : BookSeen). c.args.by < x.passes) (sym same) c.requires.pass in
    let s : BatchTaken b after c.args.by c.args.reduced.now.remainders = batch_taken b after c.args.by c.args.reduced.now.remainders own c.commit_all.ensures.committed in
    let passes : after.passes ≡ b.passes = ap (λ (p : BenchPlace). p.passes) s.place in
    omega (arith, own, passes, ap (λ (x : BookSeen). x.passes) c.deref.ensures)

pub returns : goal.returns
returns c =
    let b = c.deref_mut.result.now in let after = c.commit_all.new.self in let same : b ≡ c.args.self.now = c.deref_mut.ensures.value ∙ c.self.view_is in
    let own : c.args.by < b.passes = subst (λ (x : BookSeen). c.args.by < x.passes) (sym same) c.requires.pass in
    let s : BatchTaken c.args.self.now after c.args.by c.args.reduced.now.remainders =
    subst (λ (x : BookSeen). BatchTaken x after c.args.by c.args.reduced.now.remainders) same
    (batch_taken b after c.args.by c.args.reduced.now.remainders own c.commit_all.ensures.committed) in
    let entries : c.entries-entries.result ≡ entries_of c.args.by after.journal = c.entries-entries.ensures.entries ∙ ap (λ (x : BookSeen). entries_of c.args.by x.journal) c.deref.ensures in
    let passes : after.passes ≡ c.args.self.now.passes = ap (λ (p : BenchPlace). p.passes) s.place in
    record {
      place = s.place;
      grows = s.grows;
      fits = fits_here after c.args.by c.entries-entries.result _ (omega (arith, passes, c.requires.pass)) entries c.entries-entries.type_inv;
      committed = s.committed;
      none = c.commit_all.ensures.none;
    }
