use Rattle.std.proofs.Common.{◌≡◌, ◌<◌, sym, ap, subst, ◌∙◌, arith}
use Rattle.ct_completion.specs.Journal.{entries_of}
use Rattle.ct_book.specs.Books.{BookSeen, edition_of, place_of}
use Rattle.ct_book.specs.Benches.{BenchPlace}
use Rattle.ct_version.specs.Desks.{IsOfPlace}
use Rattle.ct_host.proofs.Called.{fits_here}
use Rattle.ct_host.proofs.BatchCalls.{BatchStepped, batch_stepped, passes_kept}
use Rattle.ct_host.proofs.locked.LockedBook.step_batch.Goals as goal

pub entries-entries-requires : goal.entries-entries-requires
entries-entries-requires c =
    let b = c.deref_mut.result.now in let after = c.step_batch-answer.new.self in let same : b ≡ c.args.self.now = c.deref_mut.ensures.value ∙ c.self.view_is in
    let own : c.args.by < b.passes = subst (λ (x : BookSeen). c.args.by < x.passes) (sym same) c.requires.pass in
    let passes : after.passes ≡ b.passes =
    passes_kept b after c.args.by c.args.target c.step_batch-answer.new.batch c.step_batch-answer.result c.step_batch-answer.ensures.answer c.step_batch-answer.ensures.refused in
    omega (arith, own, passes, ap (λ (x : BookSeen). x.passes) c.deref-2.ensures)

pub returns : goal.returns
returns c =
    let b = c.deref_mut.result.now in let after = c.step_batch-answer.new.self in let same : b ≡ c.args.self.now = c.deref_mut.ensures.value ∙ c.self.view_is in
    let own : c.args.by < b.passes = subst (λ (x : BookSeen). c.args.by < x.passes) (sym same) c.requires.pass in
    let placed : IsOfPlace (place_of after) (edition_of after) =
    subst (λ (x : BookSeen). IsOfPlace (place_of x) (edition_of x)) c.deref.ensures
    (subst (IsOfPlace (place_of c.deref.result.now)) c.version-version.ensures.version c.version-version.ensures.place) in
    let entries : c.entries-entries.result ≡ entries_of c.args.by after.journal = c.entries-entries.ensures.entries ∙ ap (λ (x : BookSeen). entries_of c.args.by x.journal) c.deref-2.ensures in
    let s : BatchStepped c.args.self.now after c.args.by c.args.target c.step_batch-answer.new.batch c.step_batch-answer.result =
    subst (λ (x : BookSeen). BatchStepped x after c.args.by c.args.target c.step_batch-answer.new.batch c.step_batch-answer.result) same
    (batch_stepped b after c.args.by c.args.target c.step_batch-answer.new.batch c.step_batch-answer.result own c.step_batch-answer.ensures.answer c.step_batch-answer.ensures.tasks c.step_batch-answer.ensures.refused c.step_batch-answer.ensures.counts placed) in
    let passes : after.passes ≡ c.args.self.now.passes = ap (λ (p : BenchPlace). p.passes) s.place in
    record {
      place = s.place;
      answer = s.answer;
      grows = s.grows;
      fits = fits_here after c.args.by c.entries-entries.result _ (omega (arith, passes, c.requires.pass)) entries c.entries-entries.type_inv;
      count = s.count;
      refused = s.refused;
      none = c.step_batch-answer.ensures.none;
    }
