use Rattle.std.proofs.Common.{◌≡◌, ◌<◌, sym, ap, subst, ◌∙◌, arith, slice_index}
use Rattle.ct_book.specs.Books.{BookSeen, counts_of}
use Rattle.ct_host.proofs.Counts.{length_counts, count_at}
use Rattle.ct_host.proofs.locked.LockedBookCounted.count.Goals as goal

pub entries-requires : goal.entries-requires
entries-requires c =
    let same : c.args.self.now ≡ c.deref.result.now = sym (c.deref.ensures ∙ c.self.view_is) in
    subst (λ (b : BookSeen). c.args.number < b.passes) same (let e = length_counts c.args.self.now in omega (arith, e, c.requires.known))

pub returns : goal.returns
returns c =
    let book = c.deref.result.now in let same : book ≡ c.args.self.now = c.deref.ensures ∙ c.self.view_is in
    let own : c.args.number < c.args.self.now.passes = (let e = length_counts c.args.self.now in omega (arith, e, c.requires.known)) in
    c.entries.ensures.entries ∙ (sym (count_at book c.args.number (subst (λ (b : BookSeen). c.args.number < b.passes) (sym same) own)) ∙ ap (λ (b : BookSeen). slice_index (counts_of b) c.args.number) same)
