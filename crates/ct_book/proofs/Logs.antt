-- One more entry of a journal, and its count.
use Rattle.std.proofs.Common.{◌≡◌, ℕ, ◌+◌, ◌≤◌, ◌<◌, ◌^◌, true, false, nat_eq, cond, List, [], ◌∷◌, ◌++◌, length, map, get_or, set, All, sym, ap, subst, ◌∙◌, refl, arith, eq-eqb, ⊎_elim}
use Rattle.std.specs.List.{AllByRecursion}
use Rattle.std.proofs.lemmas.Bool.{ne_eqb, cases_eq}
use Rattle.std.proofs.lemmas.Grind.{get_or-set_at}
use Rattle.std.proofs.lemmas.List.{length-set, get_or-set_other}
use Rattle.std.proofs.lemmas.List.Elements.{All-push}
use Rattle.std.proofs.lemmas.List.Sums.{sum_by-append, count_by-le-length}
use Rattle.ct_completion.specs.declared.journals.Act.{Act}
use Rattle.ct_completion.specs.declared.journals.Entry.{Entry}
use Rattle.ct_completion.specs.Journal.{entries_of}
use Rattle.ct_completion.proofs.Replay.{serials_grow}
use Rattle.ct_book.specs.Logs.{IsLog}

pub count-le : (entries : List Entry) (counts : List ℕ) → IsLog entries counts → (by : ℕ) → by < length counts → get_or counts by 0 ≤ length entries
count-le entries counts log by within =
    let counted : get_or counts by 0 ≡ entries_of by entries = log.counted by within in
    let most : entries_of by entries ≤ length entries = count_by-le-length (λ e. nat_eq e.pass by) entries in
    omega arith

-- an entry more of the pass `by` counts for that pass alone
pub entries_same : (entries : List Entry) (entry : Entry) → entries_of entry.pass (entries ++ entry ∷ []) ≡ entries_of entry.pass entries + 1
entries_same entries entry =
    let joined : entries_of entry.pass (entries ++ entry ∷ []) ≡ entries_of entry.pass entries + entries_of entry.pass (entry ∷ []) =
    sum_by-append (λ e. cond (nat_eq e.pass entry.pass) 1 0) entries (entry ∷ []) in
    let yes : nat_eq entry.pass entry.pass ≡ true = eq-eqb entry.pass entry.pass refl in
    let one : entries_of entry.pass (entry ∷ []) ≡ 1 = rw yes refl in
    omega arith

pub entries_other : (pass : ℕ) (entries : List Entry) (entry : Entry) → (entry.pass ≡ pass → ⊥) → entries_of pass (entries ++ entry ∷ []) ≡ entries_of pass entries
entries_other pass entries entry ne =
    let joined : entries_of pass (entries ++ entry ∷ []) ≡ entries_of pass entries + entries_of pass (entry ∷ []) =
    sum_by-append (λ e. cond (nat_eq e.pass pass) 1 0) entries (entry ∷ []) in
    let not_it : nat_eq entry.pass pass ≡ false = ne_eqb entry.pass pass ne in
    let none : entries_of pass (entry ∷ []) ≡ 0 = rw not_it refl in
    omega arith

abbrev entry_of : ℕ → ℕ → Act → Entry
entry_of by serial act = record { pass = by; serial = serial; act = act }

counted_more : (entries : List Entry) (counts : List ℕ) → IsLog entries counts → (by serial n : ℕ) (act : Act) → by < length counts →
    serial ≡ get_or counts by 0 → n ≡ serial + 1 → (pass : ℕ) → pass < length counts → get_or (set counts by n) pass 0 ≡ entries_of pass (entries ++ entry_of by serial act ∷ [])
counted_more entries counts log by serial n act within same more pass below = ⊎_elim its other (cases_eq by pass)
  where
    its : by ≡ pass → get_or (set counts by n) pass 0 ≡ entries_of pass (entries ++ entry_of by serial act ∷ [])
    its e =
        let at : get_or (set counts by n) pass 0 ≡ n = get_or-set_at counts by pass n 0 (sym e) within in
        let before : get_or counts by 0 ≡ entries_of by entries = log.counted by within in
        let one : entries_of by (entries ++ entry_of by serial act ∷ []) ≡ entries_of by entries + 1 = entries_same entries (entry_of by serial act) in
        at ∙ (let sum : n ≡ entries_of by entries + 1 = omega arith in sum) ∙ sym one ∙ ap (λ (p : ℕ). entries_of p (entries ++ entry_of by serial act ∷ [])) e

    other : (by ≡ pass → ⊥) → get_or (set counts by n) pass 0 ≡ entries_of pass (entries ++ entry_of by serial act ∷ [])
    other ne =
        get_or-set_other counts by pass n 0 (λ e. ne (sym e)) ∙ log.counted pass below ∙ sym (entries_other pass entries (entry_of by serial act) ne)

pub log_grows : (entries : List Entry) (counts : List ℕ) → IsLog entries counts → (by serial n : ℕ) (act : Act) → by < length counts →
    serial ≡ get_or counts by 0 → n ≡ serial + 1 → IsLog (entries ++ entry_of by serial act ∷ []) (set counts by n)
log_grows entries counts log by serial n act within same more =
    let wide : length (set counts by n) ≡ length counts = length-set counts by n in
    record {
      pass = subst (λ (k : ℕ). All (λ e. e.pass < k) (entries ++ entry_of by serial act ∷ [])) (sym wide)
          (All-push (λ e. e.pass < length counts) entries (entry_of by serial act) log.pass within);
      serials = serials_grow entries (entry_of by serial act) log.serials (same ∙ log.counted by within);
      counted = λ pass below. counted_more entries counts log by serial n act within same more pass (subst (λ (k : ℕ). pass < k) wide below);
    }

-- no count is greater than the number of entries
pub counts_small : (entries : List Entry) (passes : List ℕ) → length entries < 2 ^ 64 → AllByRecursion (λ n. n < 2 ^ 64) (map (λ p. entries_of p entries) passes)
counts_small entries [] small = tt
counts_small entries (p ∷ passes) small = (omega (arith, count_by-le-length (λ e. nat_eq e.pass p) entries), counts_small entries passes small)
