-- What a step answers, from what `next` and `publish` do.
use Rattle.std.proofs.Common.{◌≡◌, ℕ, ◌+◌, ◌-◌, ◌≤◌, ◌<◌, Some, [], ◌∷◌, ◌++◌, length, sym, ap, subst, ◌∙◌, arith}
use Rattle.std.proofs.lemmas.Option.{same_Some}
use Rattle.ct_instance.specs.TestSet.{test_list}
use Rattle.ct_instance.specs.Versions.{upto, level_of, IsFullGrade}
use Rattle.ct_instance.specs.Reach.{grade_after}
use Rattle.ct_levels.proofs.Full.{opened_is_full, full_some}
use Rattle.ct_completion.specs.declared.journals.Act.{Act}
use Rattle.ct_completion.specs.Machine.{CompletionEvent}
use Rattle.ct_completion.specs.Journal.{entries_of}
use Rattle.ct_version.specs.declared.pins.FullMark.{FullMark}
use Rattle.ct_version.specs.Editions.{Edition, IsEdition}
use Rattle.ct_version.specs.Desks.{IsOfPlace, IsFullMark}
use Rattle.ct_book.specs.declared.outcomes.Published.TheVariants.{Full}
use Rattle.ct_book.specs.Books.{BookSeen, edition_of, place_of, IsCovered, IsPublished, Steps, entry_by, CountsRise}
use Rattle.ct_book.proofs.Logs.{entries_same, entries_other}
use Rattle.ct_handing.proofs.Short.{IsShortOf, short_of}
use Rattle.ct_book.proofs.Keeping.{opens_at_most}

pub published_mark : (b : BookSeen) → IsEdition (edition_of b) → IsOfPlace (place_of b) (edition_of b) → (by g : ℕ) → (IsCovered b g → ⊥) → (c : BookSeen) (m : FullMark) →
    IsPublished b by c (Full m) → IsFullMark (place_of b) g m
published_mark b h o by g beyond c m p =
    let short : IsShortOf (edition_of b) g = short_of (edition_of b) g beyond in
    let step = (p.2).step in
    let d : ℕ = step.0 in
    let same : m.grade ≡ d = same_Some m.grade d (sym p.1 ∙ (step.1).opened) in
    let above : short.level + 1 ≡ d = same_Some (short.level + 1) d (sym (ap grade_after short.same) ∙ (step.1).opened) in
    let more : b.limit < length (test_list b.instance (short.level + 1)) = subst (λ (e : ℕ). b.limit < length (test_list b.instance e)) (sym above) step.2 in
    let full : IsFullGrade b.instance b.limit (short.level + 1) = opened_is_full b.instance h.instance b.limit (b.state).number short.level o.version short.same o.most more in
    let most : d ≤ g = opens_at_most (edition_of b) g d short (step.1).opened in
    record {
      version = subst (IsOfPlace (place_of b)) (sym p.0) o;
      grade = (full_some b.instance b.limit g (short.level + 1)).1 (full, omega (arith, most, above)) ∙ ap Some (above ∙ sym same);
      finished = ap (λ (v : Edition). level_of b.instance v.number) p.0 ∙ short.same ∙ ap upto (let e : short.level ≡ m.grade - 1 = omega (arith, above, same) in e);
    }

pub counts_rise : (b c : BookSeen) (event : CompletionEvent) (by : ℕ) (act : Act) → Steps b event (entry_by b by act ∷ []) c → CountsRise by 1 b c
counts_rise b c event by act s =
    let same : c.journal ≡ b.journal ++ entry_by b by act ∷ [] = ap (λ (x : BookSeen). x.journal) s.kept in (
      ap (entries_of by) same ∙ entries_same b.journal (entry_by b by act),
      λ pass ne. ap (entries_of pass) same ∙ entries_other pass b.journal (entry_by b by act) (λ e. ne (sym e)),
    )
