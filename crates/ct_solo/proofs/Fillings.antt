-- The loops that take in jobs.
use Rattle.std.proofs.Common.{ℕ, ◌+◌, ◌-◌, ◌≤◌, max, List, [], ◌∷◌, ◌++◌, map, flat_map, sym, ap, subst, ◌∙◌, append_assoc}
use Rattle.std.proofs.lemmas.List.{map-append}
use Rattle.ct_instance.specs.declared.jobs.Job.TheVariants.{Generator, Pair}
use Rattle.ct_instance.specs.Instance.{Problem}
use Rattle.ct_instance.specs.TestSet.{Binomial}
use Rattle.ct_instance.specs.Jobs.{numbers_after}
use Rattle.ct_jobs.specs.declared.graded.GradedJob.{GradedJob}
use Rattle.ct_jobs.specs.GradedJobs.{with_grade, row_from}
use Rattle.ct_jobs.proofs.Rows.{generators_push, row_push, rows_push}
use Rattle.ct_solo.specs.declared.agenda.Agenda.{Agenda}
use Rattle.ct_solo.specs.Agendas.{IsAgenda}

abbrev pub generators_to : Problem → ℕ → List GradedJob
generators_to i j = map (with_grade i []) (map Generator (numbers_after 0 j))

pub one_generator_more : (i : Problem) (j : ℕ) (a : Agenda) → IsAgenda [] (generators_to i j ++ with_grade i [] (Generator (j + 1)) ∷ []) a → IsAgenda [] (generators_to i (j + 1)) a
one_generator_more i j a h = subst (λ (js : List GradedJob). IsAgenda [] js a) (sym (generators_push i [] j)) h

abbrev pub row_to : Problem → List Binomial → ℕ → ℕ → ℕ → List GradedJob
row_to i ms from a n = map (with_grade i ms) (row_from from a n)

pub one_pair_more : (i : Problem) (ms : List Binomial) (from a k : ℕ) (js : List GradedJob) (b : Agenda) → max a (from - 1) ≤ k →
    IsAgenda ms ((js ++ row_to i ms from a k) ++ with_grade i ms (Pair a (k + 1)) ∷ []) b → IsAgenda ms (js ++ row_to i ms from a (k + 1)) b
one_pair_more i ms from a k js b low h =
    subst (λ (ks : List GradedJob). IsAgenda ms ks b)
    (append_assoc js (row_to i ms from a k) (with_grade i ms (Pair a (k + 1)) ∷ []) ∙
    ap (λ l. js ++ l) (sym (map-append (with_grade i ms) (row_from from a k) (Pair a (k + 1) ∷ [])) ∙ ap (map (with_grade i ms)) (sym (row_push from a k low)))) h

abbrev pub rows_to : Problem → List Binomial → ℕ → ℕ → ℕ → List GradedJob
rows_to i ms from n k = map (with_grade i ms) (flat_map (λ a. row_from from a n) (numbers_after 0 k))

pub one_row_more : (i : Problem) (ms : List Binomial) (from n k : ℕ) (js : List GradedJob) (b : Agenda) →
    IsAgenda ms ((js ++ rows_to i ms from n k) ++ row_to i ms from (k + 1) n) b → IsAgenda ms (js ++ rows_to i ms from n (k + 1)) b
one_row_more i ms from n k js b h =
    subst (λ (ks : List GradedJob). IsAgenda ms ks b)
    (append_assoc js (rows_to i ms from n k) (row_to i ms from (k + 1) n) ∙ ap (λ l. js ++ l) (sym (rows_push i ms from n k))) h
