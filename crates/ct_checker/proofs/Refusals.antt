-- No line of a ledger is refused exactly where it is accepted.
use Rattle.std.proofs.Common.{ℕ, ◌+◌, ◌≡◌, ◌↔◌, Bool, true, false, true≢false, not, ◌&&◌, nat_le, nat_lt, nat_eq, cond, Decides, Option, Some, None, List, [], ◌∷◌, length, map, All, refl, sym, ap, ap₂, ◌∙◌, eqb-true, eq-eqb}
use Rattle.std.specs.Option.{option_or, option_map}
use Rattle.std.proofs.lemmas.Bool.{and_parts, and_from, false_from_ne_true, cond-true, cond-false, ltb-false, le-ltb, leb-true, le-leb}
use Rattle.std.proofs.lemmas.List.Elements.{All-nil, All-cons, All-head, All-tail}
use Rattle.ct_vectors.specs.Vectors.{scale, divides}
use Rattle.ct_vectors.proofs.Divisors.{Divides-from_test, test_from_Divides, Decides-disjoint, Decides-same_numbers}
use Rattle.ct_order.specs.Order.{refined_order}
use Rattle.ct_order.proofs.Order.{Less-from_test, test_from_Less}
use Rattle.ct_instance.specs.declared.jobs.Job.{Job}
use Rattle.ct_instance.specs.declared.jobs.Job.TheVariants.{Generator, Pair}
use Rattle.ct_instance.specs.Instance.{Problem, column_count, degree_of, grade_of}
use Rattle.ct_instance.specs.Fiber.{is_lower}
use Rattle.ct_instance.specs.TestSet.{Binomial}
use Rattle.ct_instance.specs.Walk.{moved}
use Rattle.ct_instance.specs.Jobs.{the_move, is_same_job, first_end_of, second_end_of, IsCoprime, jobs_up_to}
use Rattle.ct_instance.proofs.SameJobs.{same_job_test}
use Rattle.ct_walk.specs.Moves.{CanApply, Follows}
use Rattle.ct_checker.specs.declared.verdicts.Reason.{Reason}
use Rattle.ct_checker.specs.declared.verdicts.Reason.TheVariants.{Size, Grade, Degree, Order, Entry, Coprime, End}
use Rattle.ct_ledger.specs.declared.entries.LedgerEntry.{LedgerEntry}
use Rattle.ct_ledger.specs.declared.entries.LedgerEntry.TheVariants as entry
use Rattle.ct_ledger.specs.Parts.{LedgerParts}
use Rattle.ct_checker.specs.Accepted.{moves_of, job_of, IsLedgerMove, AreWalks, IsEntryRight, IsAccepted}
use Rattle.ct_checker.specs.Refusals.{same_numbers, is_coprime, can_apply, end_of_steps, move_reason, walks_reason, words_reason, entry_reason, refused_move, refused_entry, refused_size, first_refusal_of}

-- ---- the tests

pub coprime_test : (ms : List Binomial) (j : Job) → Decides (is_coprime ms j) (IsCoprime ms j)
coprime_test ms (Generator j) = (λ e. absurd (true≢false (sym e)), λ c. absurd c)
coprime_test ms (Pair a b) = Decides-disjoint (the_move ms a).head (the_move ms b).head

pub apply_test : (ms : List Binomial) (p : List ℕ) (step : ℕ × ℕ) → Decides (can_apply ms p step) (CanApply ms p step.0 step.1)
apply_test ms p step = (there, back)
  where
    fits : Bool
    fits = divides (scale step.1 (the_move ms step.0).head) p

    first : Bool
    first = nat_le 1 step.0

    within : Bool
    within = nat_le step.0 (length ms)

    some : Bool
    some = nat_le 1 step.1

    there : first && within && some && fits ≡ true → CanApply ms p step.0 step.1
    there e =
        let a = and_parts (first && within && some) fits e in
        let b = and_parts (first && within) some a.0 in
        let c = and_parts first within b.0 in
        record {
          number_some = leb-true 1 step.0 c.0;
          number_within = leb-true step.0 (length ms) c.1;
          some = leb-true 1 step.1 b.1;
          fits = Divides-from_test (scale step.1 (the_move ms step.0).head) p a.1;
        }

    back : CanApply ms p step.0 step.1 → first && within && some && fits ≡ true
    back c =
        and_from (first && within && some) fits
        (and_from (first && within) some (and_from first within (le-leb 1 step.0 c.number_some) (le-leb step.0 (length ms) c.number_within)) (le-leb 1 step.1 c.some))
        (test_from_Divides (scale step.1 (the_move ms step.0).head) p c.fits)

-- where the steps lead is where they are followed to
pub end_test : (ms : List Binomial) (p q : List ℕ) (steps : List (ℕ × ℕ)) → (end_of_steps ms p steps ≡ Some q) ↔ Follows ms p steps q
end_test ms p q [] = (λ e. let same : p ≡ q = cc in sym same, λ e. ap Some (sym e))
end_test ms p q (s ∷ steps) = more (end_test ms (moved (the_move ms s.0) s.1 p) q steps)
  where
    next : List ℕ
    next = moved (the_move ms s.0) s.1 p

    more : (end_of_steps ms next steps ≡ Some q) ↔ Follows ms next steps q → (end_of_steps ms p (s ∷ steps) ≡ Some q) ↔ Follows ms p (s ∷ steps) q
    more later = (there (can_apply ms p s) refl, λ f. cond-true (can_apply ms p s) (end_of_steps ms next steps) None ((apply_test ms p s).1 f.0) ∙ later.1 f.1)
      where
        there : (b : Bool) → can_apply ms p s ≡ b → cond b (end_of_steps ms next steps) None ≡ Some q → Follows ms p (s ∷ steps) q
        there true e f = ((apply_test ms p s).0 e, later.0 f)
        there false e f = absurd (cc)

-- ---- what is refused

module _ {R : Type 0} where
  refuses_none : (b : Bool) (r : R) (o : Option R) → cond b (Some r) o ≡ None → (b ≡ false) × (o ≡ None)
  refuses_none true r o e = absurd (cc)
  refuses_none false r o e = (refl, e)

  passes_none : (b : Bool) (r : R) (o : Option R) → cond b o (Some r) ≡ None → (b ≡ true) × (o ≡ None)
  passes_none true r o e = (refl, e)
  passes_none false r o e = absurd (cc)

  both_none : (a b : Option R) → option_or a b ≡ None → (a ≡ None) × (b ≡ None)
  both_none None b e = (refl, e)
  both_none (Some x) b e = absurd (cc)

abbrev placed : ℕ → Option Reason → Option (ℕ × Reason)
placed n o = option_map (λ r. (n, r)) o

none_placed : (n : ℕ) (o : Option Reason) → placed n o ≡ None → o ≡ None
none_placed n None e = refl
none_placed n (Some r) e = absurd (cc)

not_true : (b : Bool) → not b ≡ false → b ≡ true
not_true true e = refl
not_true false e = absurd (true≢false e)

module _ (i : Problem) (g : ℕ) where
  move_right : (m : Binomial) → (move_reason i g m ≡ None) ↔ IsLedgerMove i g m
  move_right m = (there, back)
    where
      above : Bool
      above = nat_lt g (grade_of i.columns m.head)

      same : Bool
      same = same_numbers (degree_of i.columns m.tail) (degree_of i.columns m.head)

      lower : Bool
      lower = is_lower i m.tail m.head

      there : move_reason i g m ≡ None → IsLedgerMove i g m
      there e =
          let a = refuses_none above Grade (cond (not same) (Some Degree) (cond (not lower) (Some Order) None)) e in
          let b = refuses_none (not same) Degree (cond (not lower) (Some Order) None) a.1 in
          let c = refuses_none (not lower) Order None b.1 in
          record {
            grade = ltb-false g (grade_of i.columns m.head) a.0;
            degree = (Decides-same_numbers (degree_of i.columns m.tail) (degree_of i.columns m.head)).0 (not_true same b.0);
            below = Less-from_test (refined_order (column_count i) i.cost_rows m.tail m.head) (not_true lower c.0);
          }

      back : IsLedgerMove i g m → move_reason i g m ≡ None
      back u =
          cond-false above (Some Grade) (cond (not same) (Some Degree) (cond (not lower) (Some Order) None)) (le-ltb g (grade_of i.columns m.head) u.grade) ∙
          cond-false (not same) (Some Degree) (cond (not lower) (Some Order) None)
          (ap not ((Decides-same_numbers (degree_of i.columns m.tail) (degree_of i.columns m.head)).1 u.degree)) ∙
          cond-false (not lower) (Some Order) None (ap not (test_from_Less (refined_order (column_count i) i.cost_rows m.tail m.head) u.below))

  moves_right : (n : ℕ) (ms : List Binomial) → (refused_move i g n ms ≡ None) ↔ All (IsLedgerMove i g) ms
  moves_right n [] = (λ e. All-nil (IsLedgerMove i g), λ a. refl)
  moves_right n (m ∷ ms) = (
    λ e.
        let b = both_none (placed n (move_reason i g m)) (refused_move i g (n + 1) ms) e in
        All-cons (IsLedgerMove i g) m ms ((move_right m).0 (none_placed n (move_reason i g m) b.0)) ((moves_right (n + 1) ms).0 b.1),
    λ a.
        ap₂ option_or (ap (placed n) ((move_right m).1 (All-head (IsLedgerMove i g) m ms a)))
        ((moves_right (n + 1) ms).1 (All-tail (IsLedgerMove i g) m ms a)),
  )

-- two walks that lead somewhere lead to one point
walks_meet : (first second : Option (List ℕ)) → walks_reason first second ≡ None → (p : List ℕ) × (first ≡ Some p) × (second ≡ Some p)
walks_meet None second e = absurd (cc)
walks_meet (Some p) None e = absurd (cc)
walks_meet (Some p) (Some q) e =
    let b = passes_none (same_numbers p q) End None e in
    (p, refl, ap Some (sym ((Decides-same_numbers p q).0 b.0)))

module _ (i : Problem) (ms : List Binomial) where
  words_right : (e : LedgerEntry) → (words_reason i ms e ≡ None) ↔ IsEntryRight i ms e
  words_right (entry.Coprime j) = (
    λ e. (coprime_test ms j).0 (passes_none (is_coprime ms j) Coprime None e).0,
    λ c. cond-true (is_coprime ms j) None (Some Coprime) ((coprime_test ms j).1 c),
  )
  words_right (entry.Walks j first second) = (there, back)
    where
      one : Option (List ℕ)
      one = end_of_steps ms (first_end_of i ms j) first

      other : Option (List ℕ)
      other = end_of_steps ms (second_end_of i ms j) second

      there : cond (is_coprime ms j) (Some Coprime) (walks_reason one other) ≡ None → IsEntryRight i ms (entry.Walks j first second)
      there e =
          let b = refuses_none (is_coprime ms j) Coprime (walks_reason one other) e in
          let m = walks_meet one other b.1 in (
            λ c. true≢false (sym ((coprime_test ms j).1 c) ∙ b.0),
            record {
              point = m.0;
              first_steps = (end_test ms (first_end_of i ms j) m.0 first).0 m.1;
              second_steps = (end_test ms (second_end_of i ms j) m.0 second).0 m.2;
            },
          )

      back : IsEntryRight i ms (entry.Walks j first second) → cond (is_coprime ms j) (Some Coprime) (walks_reason one other) ≡ None
      back u =
          let w : AreWalks i ms j first second = u.1 in
          cond-false (is_coprime ms j) (Some Coprime) (walks_reason one other)
          (false_from_ne_true (is_coprime ms j) (λ e. u.0 ((coprime_test ms j).0 e))) ∙
          ap₂ walks_reason ((end_test ms (first_end_of i ms j) w.point first).1 w.first_steps) ((end_test ms (second_end_of i ms j) w.point second).1 w.second_steps) ∙
          cond-true (same_numbers w.point w.point) None (Some End) ((Decides-same_numbers w.point w.point).1 refl)

  entries_right : (n : ℕ) (js : List Job) (es : List LedgerEntry) → (refused_entry i ms n js es ≡ None) ↔ ((map job_of es ≡ js) × All (IsEntryRight i ms) es)
  entries_right n [] [] = (λ e. (refl, All-nil (IsEntryRight i ms)), λ a. refl)
  entries_right n (j ∷ js) [] = (λ e. absurd (cc), λ a. let none : [] ≡ j ∷ js = a.0 in absurd (cc))
  entries_right n [] (e ∷ es) = (λ f. absurd (cc), λ a. let none : job_of e ∷ map job_of es ≡ [] = a.0 in absurd (cc))
  entries_right n (j ∷ js) (e ∷ es) = more (entries_right (n + 1) js es)
    where
      more : (refused_entry i ms (n + 1) js es ≡ None) ↔ ((map job_of es ≡ js) × All (IsEntryRight i ms) es) →
          (refused_entry i ms n (j ∷ js) (e ∷ es) ≡ None) ↔ ((map job_of (e ∷ es) ≡ j ∷ js) × All (IsEntryRight i ms) (e ∷ es))
      more later = (there, back)
        where
          there : refused_entry i ms n (j ∷ js) (e ∷ es) ≡ None → (map job_of (e ∷ es) ≡ j ∷ js) × All (IsEntryRight i ms) (e ∷ es)
          there f =
              let b = both_none (placed n (entry_reason i ms j e)) (refused_entry i ms (n + 1) js es) f in
              let c = passes_none (is_same_job j (job_of e)) Entry (words_reason i ms e) (none_placed n (entry_reason i ms j e) b.0) in
              let r = later.0 b.1 in
              (ap₂ (λ x y. x ∷ y) (sym ((same_job_test j (job_of e)).0 c.0)) r.0, All-cons (IsEntryRight i ms) e es ((words_right e).0 c.1) r.1)

          back : (map job_of (e ∷ es) ≡ j ∷ js) × All (IsEntryRight i ms) (e ∷ es) → refused_entry i ms n (j ∷ js) (e ∷ es) ≡ None
          back a =
              let whole : job_of e ∷ map job_of es ≡ j ∷ js = a.0 in
              let here : j ≡ job_of e = cc in
              let rest : map job_of es ≡ js = cc in
              ap₂ option_or
              (ap (placed n)
              (cond-true (is_same_job j (job_of e)) (words_reason i ms e) (Some Entry) ((same_job_test j (job_of e)).1 here) ∙ (words_right e).1 (All-head (IsEntryRight i ms) e es a.1)))
              (later.1 (rest, All-tail (IsEntryRight i ms) e es a.1))

-- ---- the whole ledger

pub no_refusal : (i : Problem) (l : LedgerParts) → (first_refusal_of i l ≡ None) ↔ IsAccepted i l
no_refusal i l = (there, back)
  where
    sized : Bool
    sized = nat_eq l.rows i.rows && nat_eq l.columns (column_count i)

    moves : Option (ℕ × Reason)
    moves = refused_move i l.grade 4 (moves_of l)

    entries : Option (ℕ × Reason)
    entries = refused_entry i (moves_of l) (4 + length l.moves) (jobs_up_to i (moves_of l) l.grade) l.entries

    there : option_or (refused_size i l) (option_or moves entries) ≡ None → IsAccepted i l
    there e =
        let a = both_none (refused_size i l) (option_or moves entries) e in
        let b = both_none moves entries a.1 in
        let size = and_parts (nat_eq l.rows i.rows) (nat_eq l.columns (column_count i)) (passes_none sized (2, Size) None a.0).0 in
        let r = (entries_right i (moves_of l) (4 + length l.moves) (jobs_up_to i (moves_of l) l.grade) l.entries).0 b.1 in
        record {
          rows = eqb-true l.rows i.rows size.0;
          columns = eqb-true l.columns (column_count i) size.1;
          moves = (moves_right i l.grade 4 (moves_of l)).0 b.0;
          jobs = r.0;
          right = r.1;
        }

    back : IsAccepted i l → option_or (refused_size i l) (option_or moves entries) ≡ None
    back a =
        ap₂ option_or
        (cond-true sized None (Some (2, Size)) (and_from (nat_eq l.rows i.rows) (nat_eq l.columns (column_count i)) (eq-eqb l.rows i.rows a.rows) (eq-eqb l.columns (column_count i) a.columns)))
        (ap₂ option_or ((moves_right i l.grade 4 (moves_of l)).1 a.moves)
        ((entries_right i (moves_of l) (4 + length l.moves) (jobs_up_to i (moves_of l) l.grade) l.entries).1 (a.jobs, a.right)))

-- a job that isn't a coprime pair fails the test
pub coprime_false : (ms : List Binomial) (j : Job) → (IsCoprime ms j → ⊥) → is_coprime ms j ≡ false
coprime_false ms j n = false_from_ne_true (is_coprime ms j) (λ e. n ((coprime_test ms j).0 e))
