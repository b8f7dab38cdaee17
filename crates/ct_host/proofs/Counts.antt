-- The counts of a book, by the numbers of its passes.
use Rattle.std.proofs.Common.{◌≡◌, ℕ, ◌<◌, [], length, get_or, set, slice_index, All, sym, ap, ◌∙◌, arith, ⊎_elim, length-set, get_or-set_same, get_or-set_other}
use Rattle.std.proofs.lemmas.Bool.{cases_eq}
use Rattle.std.proofs.lemmas.List.{get_or-map, length-map, ext_get_or, get_or_default}
use Rattle.ct_instance.specs.Made.{indices}
use Rattle.ct_instance.proofs.Entries.{length-indices, get_or-indices}
use Rattle.ct_completion.specs.Journal.{entries_of}
use Rattle.count_lock.specs.Pairs.{GrowsAt}
use Rattle.ct_book.specs.Books.{BookSeen, CountsRise, counts_of}

pub length_counts : (b : BookSeen) → length (counts_of b) ≡ b.passes
length_counts b = length-map (indices b.passes) (λ p. entries_of p b.journal) ∙ length-indices b.passes

pub count_at : (b : BookSeen) (k : ℕ) → k < b.passes → slice_index (counts_of b) k ≡ entries_of k b.journal
count_at b k within =
    let n = length-indices b.passes in
    get_or-map (λ p. entries_of p b.journal) (indices b.passes) k 0 0 (omega (arith, n)) ∙ ap (λ p. entries_of p b.journal) (get_or-indices b.passes k 0 within)

pub counts_grow : (b c : BookSeen) (by rise : ℕ) → by < b.passes → c.passes ≡ b.passes → CountsRise by rise b c → GrowsAt by (counts_of b) (counts_of c)
counts_grow b c by rise within same rises =
    let long : length (counts_of c) ≡ length (counts_of b) = length_counts c ∙ (same ∙ sym (length_counts b)) in
    let here : slice_index (counts_of c) by ≡ entries_of by c.journal = count_at c by (omega (arith, within, same)) in
    let there : slice_index (counts_of b) by ≡ entries_of by b.journal = count_at b by within in
    let most : length (counts_of b) ≡ b.passes = length_counts b in
    let all = length-set (counts_of b) by (slice_index (counts_of c) by) in
    record {
      others = ext_get_or 0 (counts_of c) (set (counts_of b) by (slice_index (counts_of c) by)) (long ∙ sym all)
          (λ k inside.
          let low : k < b.passes = omega (arith, inside, long, most) in
          ⊎_elim
          (λ (e : k ≡ by). ap (slice_index (counts_of c)) e ∙ (sym (get_or-set_same (counts_of b) by (slice_index (counts_of c) by) 0 (omega (arith, within, most))) ∙ ap (λ j. get_or (set (counts_of b) by (slice_index (counts_of c) by)) j 0) (sym e)))
          (λ ne. count_at c k (omega (arith, low, same)) ∙ (rises.1 k ne ∙ (sym (count_at b k low) ∙ sym (get_or-set_other (counts_of b) by k (slice_index (counts_of c) by) 0 ne))))
          (cases_eq k by));
      larger = omega (arith, here, there, rises.0);
    }

-- the counts of a book with an empty journal are 0
pub counts_fit : (b : BookSeen) (most : ℕ) → 0 < most → b.journal ≡ [] → All (λ n. n < most) (counts_of b)
counts_fit b most some empty k d low =
    let long : length (counts_of b) ≡ b.passes = length_counts b in
    let none : get_or (counts_of b) k d ≡ 0 = get_or_default (counts_of b) k d 0 low ∙ (count_at b k (omega (arith, low, long)) ∙ ap (entries_of k) empty) in
    omega (arith, none, some)
