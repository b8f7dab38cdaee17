-- The first line of a ledger that is refused, and why. Line 2 has the size, line 3 the grade; the moves follow from line 4,
-- then the entries, then the line `end`.
use Rattle.std.specs.Prelude.{ℕ, ◌+◌, Bool, false, not, ◌&&◌, nat_le, nat_lt, nat_eq, cond, Option, Some, None, List, [], ◌∷◌, length}
use Rattle.std.specs.Option.{option_or, option_map}
use Rattle.std.specs.Cmp.Lexicographic.{pointwise}
use Rattle.ct_vectors.specs.Vectors.{scale, divides, disjoint}
use Rattle.ct_instance.specs.declared.jobs.Job.{Job}
use Rattle.ct_instance.specs.declared.jobs.Job.TheVariants.{Generator, Pair}
use Rattle.ct_instance.specs.Instance.{Problem, column_count, degree_of, grade_of}
use Rattle.ct_instance.specs.Fiber.{is_lower}
use Rattle.ct_instance.specs.TestSet.{Binomial}
use Rattle.ct_instance.specs.Walk.{moved}
use Rattle.ct_instance.specs.Jobs.{the_move, is_same_job, first_end_of, second_end_of, jobs_up_to}
use Rattle.ct_checker.specs.declared.verdicts.Reason.{Reason}
use Rattle.ct_checker.specs.declared.verdicts.Reason.TheVariants.{Size, Grade, Degree, Order, Entry, Coprime, Step, End}
use Rattle.ct_ledger.specs.declared.entries.LedgerEntry.{LedgerEntry}
use Rattle.ct_ledger.specs.declared.entries.LedgerEntry.TheVariants as entry
use Rattle.ct_ledger.specs.Parts.{LedgerParts}
use Rattle.ct_checker.specs.Accepted.{moves_of, job_of}

abbrev pub same_numbers : List ℕ → List ℕ → Bool
same_numbers p q = pointwise nat_eq p q

-- the pair's heads share no variable, as a test
abbrev pub is_coprime : List Binomial → Job → Bool
is_coprime ms (Generator j) = false
is_coprime ms (Pair a b) = disjoint (the_move ms a).head (the_move ms b).head

-- the step applies at p, as a test
abbrev pub can_apply : List Binomial → List ℕ → ℕ × ℕ → Bool
can_apply ms p s = nat_le 1 s.0 && nat_le s.0 (length ms) && nat_le 1 s.1 && divides (scale s.1 (the_move ms s.0).head) p

-- where the steps lead, if each applies
abbrev pub end_of_steps : List Binomial → List ℕ → List (ℕ × ℕ) → Option (List ℕ)
end_of_steps ms p [] = Some p
end_of_steps ms p (s ∷ steps) = cond (can_apply ms p s) (end_of_steps ms (moved (the_move ms s.0) s.1 p) steps) None

-- what is wrong with a move, by the first that holds
abbrev pub move_reason : Problem → ℕ → Binomial → Option Reason
move_reason i g m =
    cond (nat_lt g (grade_of i.columns m.head)) (Some Grade)
    (cond (not (same_numbers (degree_of i.columns m.tail) (degree_of i.columns m.head))) (Some Degree)
    (cond (not (is_lower i m.tail m.head)) (Some Order) None))

-- what is wrong with where two walks lead
abbrev pub walks_reason : Option (List ℕ) → Option (List ℕ) → Option Reason
walks_reason None second = Some Step
walks_reason (Some p) None = Some Step
walks_reason (Some p) (Some q) = cond (same_numbers p q) None (Some End)

-- what is wrong with an entry's words on its job
abbrev pub words_reason : Problem → List Binomial → LedgerEntry → Option Reason
words_reason i ms (entry.Coprime j) = cond (is_coprime ms j) None (Some Coprime)
words_reason i ms (entry.Walks j first second) =
    cond (is_coprime ms j) (Some Coprime) (walks_reason (end_of_steps ms (first_end_of i ms j) first) (end_of_steps ms (second_end_of i ms j) second))

-- what is wrong with an entry where this job is next
abbrev pub entry_reason : Problem → List Binomial → Job → LedgerEntry → Option Reason
entry_reason i ms j e = cond (is_same_job j (job_of e)) (words_reason i ms e) (Some Entry)

-- the first refused line: of the moves that begin in line n
abbrev pub refused_move : Problem → ℕ → ℕ → List Binomial → Option (ℕ × Reason)
refused_move i g n [] = None
refused_move i g n (m ∷ ms) = option_or (option_map (λ r. (n, r)) (move_reason i g m)) (refused_move i g (n + 1) ms)

-- of the entries that begin in line n, where these jobs are next, and of the line after them
abbrev pub refused_entry : Problem → List Binomial → ℕ → List Job → List LedgerEntry → Option (ℕ × Reason)
refused_entry i ms n [] [] = None
refused_entry i ms n (j ∷ js) [] = Some (n, Entry)
refused_entry i ms n [] (e ∷ es) = Some (n, Entry)
refused_entry i ms n (j ∷ js) (e ∷ es) = option_or (option_map (λ r. (n, r)) (entry_reason i ms j e)) (refused_entry i ms (n + 1) js es)

abbrev pub refused_size : Problem → LedgerParts → Option (ℕ × Reason)
refused_size i l = cond (nat_eq l.rows i.rows && nat_eq l.columns (column_count i)) None (Some (2, Size))

-- of the whole ledger
abbrev pub first_refusal_of : Problem → LedgerParts → Option (ℕ × Reason)
first_refusal_of i l =
    option_or (refused_size i l) (option_or (refused_move i l.grade 4 (moves_of l))
    (refused_entry i (moves_of l) (4 + length l.moves) (jobs_up_to i (moves_of l) l.grade) l.entries))
