-- The first line with a reason is the first line that is refused.
use Rattle.std.proofs.Common.{ℕ, ◌+◌, ◌<◌, ◌≡◌, Option, Some, None, List, [], ◌∷◌, map, min, length, get_or, refl, sym, ap, ap₂, ◌∙◌, arith, suc}
use Rattle.std.specs.Prelude.{nat_eq, cond}
use Rattle.std.specs.Option.{option_or, option_map}
use Rattle.std.specs.List.{range_with_len}
use Rattle.std.proofs.Math.Dec.{eqb-zero-suc, eqb-suc-zero, eqb-suc-suc}
use Rattle.std.proofs.lemmas.Bool.{cond-false}
use Rattle.ct_instance.specs.declared.jobs.Job.{Job}
use Rattle.ct_instance.specs.declared.jobs.Job.TheVariants.{Generator}
use Rattle.ct_instance.specs.Instance.{Problem}
use Rattle.ct_instance.specs.TestSet.{Binomial}
use Rattle.ct_instance.specs.Jobs.{jobs_up_to}
use Rattle.ct_ledger.specs.declared.entries.LedgerEntry.{LedgerEntry}
use Rattle.ct_ledger.specs.declared.entries.LedgerEntry.TheVariants as entry
use Rattle.ct_ledger.specs.Parts.{LedgerParts}
use Rattle.ct_checker.specs.declared.verdicts.Reason.{Reason}
use Rattle.ct_checker.specs.declared.verdicts.Reason.TheVariants.{Entry}
use Rattle.ct_checker.specs.Accepted.{moves_of}
use Rattle.ct_checker.specs.Refusals.{entry_reason, refused_entry, refused_size, refused_move, first_refusal_of}
use Rattle.ct_checker.specs.Dockets.{DocketParts, docket_of, refused_before}
use Rattle.ct_batch.specs.Reasons.{reason_at, first_with_reason, first_wrong}

or_assoc : {X : Type 0} (a b c : Option X) → option_or a (option_or b c) ≡ option_or (option_or a b) c
or_assoc None b c = refl
or_assoc (Some x) b c = refl

-- ---- entry by entry

module _ (i : Problem) (ms : List Binomial) where
  -- what is wrong with each entry, up to the end of one of the lists
  abbrev reasons : List Job → List LedgerEntry → List (Option Reason)
  reasons [] es = []
  reasons (j ∷ js) [] = []
  reasons (j ∷ js) (e ∷ es) = entry_reason i ms j e ∷ reasons js es

  abbrev at_entry : ℕ → Option (ℕ × Reason)
  at_entry n = Some (n, Entry)

  abbrev end_of_one : ℕ → ℕ → ℕ → Option (ℕ × Reason)
  end_of_one n a b = cond (nat_eq a b) None (at_entry n)

  refused_by_reasons : (n : ℕ) (js : List Job) (es : List LedgerEntry) → refused_entry i ms n js es ≡ first_wrong n (reasons js es) (length js) (length es)
  refused_by_reasons n [] [] = refl
  refused_by_reasons n [] (e ∷ es) =
      let place : n ≡ n + 0 = omega arith in
      ap at_entry place ∙ sym (cond-false (nat_eq 0 (suc (length es))) None (at_entry (n + 0)) (eqb-zero-suc (length es)))
  refused_by_reasons n (j ∷ js) [] =
      let place : n ≡ n + 0 = omega arith in
      ap at_entry place ∙ sym (cond-false (nat_eq (suc (length js)) 0) None (at_entry (n + 0)) (eqb-suc-zero (length js)))
  refused_by_reasons n (j ∷ js) (e ∷ es) =
      let here = option_map {U = ℕ × Reason} (λ r. (n, r)) (entry_reason i ms j e) in
      let rest = first_with_reason (n + 1) (reasons js es) in
      let last : ℕ = n + suc (length (reasons js es)) in
      let place : n + 1 + length (reasons js es) ≡ last = omega arith in
      ap (option_or here) (refused_by_reasons (n + 1) js es ∙ ap (λ m. option_or rest (end_of_one m (length js) (length es))) place ∙
      ap (λ t. option_or rest (cond t None (at_entry last))) (sym (eqb-suc-suc (length js) (length es)))) ∙
      or_assoc here rest (end_of_one last (suc (length js)) (suc (length es)))

  -- the same by places
  placed : (js : List Job) (es : List LedgerEntry) (j : Job) (e : LedgerEntry) (k : ℕ) (f : ℕ → Option Reason) →
      ((m : ℕ) → m < length js → m < length es → f (k + m) ≡ entry_reason i ms (get_or js m j) (get_or es m e)) →
      map f (range_with_len k (min (length js) (length es))) ≡ reasons js es
  placed [] es d x k f h = ap (λ m. map f (range_with_len k m)) (let e : min 0 (length es) ≡ 0 = omega arith in e)
  placed (j ∷ js) [] d x k f h = ap (λ m. map f (range_with_len k m)) (let e : min (suc (length js)) 0 ≡ 0 = omega arith in e)
  placed (j ∷ js) (e ∷ es) d x k f h =
      let n = min (length js) (length es) in
      let count : min (suc (length js)) (suc (length es)) ≡ suc n = omega arith in
      let here : f k ≡ entry_reason i ms j e = ap f (let z : k ≡ k + 0 = omega arith in z) ∙ h 0 (omega arith) (omega arith) in
      ap (λ m. map f (range_with_len k m)) count ∙ ap₂ (λ r rs. r ∷ rs) here
      (placed js es d x (k + 1) f (λ m a b. ap f (let z : k + 1 + m ≡ k + suc m = omega arith in z) ∙ h (suc m) (omega arith) (omega arith)))

-- ---- of the whole ledger

by_entries : (i : Problem) (l : LedgerParts) → refused_before i l ≡ None →
    first_refusal_of i l ≡ refused_entry i (moves_of l) (4 + length l.moves) (jobs_up_to i (moves_of l) l.grade) l.entries
by_entries i l none =
    let rest = refused_entry i (moves_of l) (4 + length l.moves) (jobs_up_to i (moves_of l) l.grade) l.entries in
    or_assoc (refused_size i l) (refused_move i l.grade 4 (moves_of l)) rest ∙ ap (λ o. option_or o rest) none

-- where nothing is refused before the entries es, what is wrong with each decides
pub reasons_decide : (i : Problem) (l : LedgerParts) (d : DocketParts) (es : List LedgerEntry) (rs : List (Option Reason)) → es ≡ l.entries → d ≡ docket_of i l → refused_before i l ≡ None →
    rs ≡ map (reason_at d es) (range_with_len 0 (min (length d.jobs) (length es))) →
    first_refusal_of i l ≡ first_wrong (4 + length l.moves) rs (length d.jobs) (length es)
reasons_decide i l d es rs all is none each =
    let n = 4 + length l.moves in
    let in_order : rs ≡ reasons d.instance d.moves d.jobs es =
    each ∙ placed d.instance d.moves d.jobs es (Generator 0) (entry.Coprime (Generator 0)) 0 (reason_at d es)
    (λ m a b. ap (reason_at d es) (let z : 0 + m ≡ m = omega arith in z)) in
    by_entries i l none ∙ ap₂ (λ (x : DocketParts) (xs : List LedgerEntry). refused_entry x.instance x.moves n x.jobs xs) (sym is) (sym all) ∙
    refused_by_reasons d.instance d.moves n d.jobs es ∙ ap (λ xs. first_wrong n xs (length d.jobs) (length es)) (sym in_order)
