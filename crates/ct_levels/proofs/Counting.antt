-- The number of the first version that covers a grade counts the grades of the jobs up to it.
use Rattle.std.proofs.Common.{ℕ, ◌+◌, ◌≤◌, ◌<◌, ◌≡◌, ⊎_elim, Some, List, [], ◌∷◌, ◌++◌, length, map, Contains, refl, sym, subst, ap, ◌∙◌, arith, zero, suc, length-append}
use Rattle.std.proofs.lemmas.Bool.{cases_lt}
use Rattle.std.proofs.lemmas.List.Elements.{All-get_or, Contains-append_left, Contains-append_right, Contains-append_cases}
use Rattle.ct_vectors.specs.Vectors.{total, lcm}
use Rattle.ct_vectors.proofs.Divisors.{Divides-lcm, length-lcm}
use Rattle.ct_instance.specs.declared.jobs.Job.{Job}
use Rattle.ct_instance.specs.declared.jobs.Job.TheVariants.{Generator, Pair}
use Rattle.ct_instance.specs.Instance.{Problem, IsInstance, IsColumn, grade_of}
use Rattle.ct_instance.specs.TestSet.{Binomial, test_list, IsTestList}
use Rattle.ct_instance.specs.Jobs.{IsJob, all_jobs, job_grade_of, jobs_up_to, the_move}
use Rattle.ct_instance.specs.Versions.{Level, upto, everything, Covers, least_above, level_of}
use Rattle.ct_instance.specs.Reach.{grade_after, opened_grade, last_opened, first_version_from}
use Rattle.ct_instance.proofs.Lists.{Contains-here, Contains-nil, Contains-cons_cases, Contains-map, map_gives}
use Rattle.ct_instance.proofs.Degree.{columns, total-le-grade, grade-divides}
use Rattle.ct_instance.proofs.TestHeads.{test_move_is_move}
use Rattle.ct_instance.proofs.TestList.{is_test_list, test_lists}
use Rattle.ct_instance.proofs.Ordered.{InOrder, InOrder-append, InOrder-from_pairs, InOrder-unique}
use Rattle.ct_instance.proofs.JobsList.{jobs_listed, jobs_up_to_listed}
use Rattle.ct_instance.proofs.Above.{least_above_some, least_above_none}
use Rattle.ct_walk.proofs.Steps.{head_positive}
use Rattle.ct_walk.proofs.Ends.{the_column_is}
use Rattle.ct_levels.specs.Levels.{job_grades, AreGradesOf}
use Rattle.ct_levels.proofs.Numbered.{the_test_move}
use Rattle.ct_levels.proofs.Levels.{last_opened_next}
use Rattle.ct_levels.proofs.Covering.{first_version_is, first_is_version}
use Rattle.ct_levels.proofs.Whole.{level_below_first, opened_of_whole}

-- ---- no job has the grade 0

job_positive : (i : Problem) → IsInstance i → (g : ℕ) (ms : List Binomial) → IsTestList i g ms → (j : Job) → IsJob i ms j → 1 ≤ job_grade_of i ms j
job_positive i s g ms t (Generator zero) b = absurd (omega (arith, b.0))
job_positive i s g ms t (Generator (suc j)) b =
    let c = All-get_or (IsColumn i.rows) i.columns j [] (omega (arith, b.1)) s.is_column in
    subst (λ x. 1 ≤ total x) (sym (the_column_is i j)) c.positive
job_positive i s g ms t (Pair a c) b =
    let first : 1 ≤ a = b.0 in
    let between : a < c = b.1 in
    let last : c ≤ length ms = b.2 in
    let m = the_test_move i g ms t a first (omega arith) in
    let n = the_test_move i g ms t c (omega arith) last in
    let h : List ℕ = (the_move ms a).head in
    let k : List ℕ = (the_move ms c).head in
    let below : grade_of i.columns h ≤ grade_of i.columns (lcm h k) =
    grade-divides i.columns h (lcm h k) (omega (arith, length-lcm h k)) (Divides-lcm h k) in
    let some : 1 ≤ total h = head_positive i s (the_move ms a) (test_move_is_move i (the_move ms a) m.0) in
    omega (arith, total-le-grade i.rows i.columns (columns i s) h)

-- ---- the grades that were opened

abbrev Rising : List ℕ → Type 0
Rising grades = InOrder (λ (d e : ℕ). d < e) grades

-- the grades that the versions before k opened
abbrev opened_before : Problem → ℕ → List ℕ
opened_before i zero = []
opened_before i (suc k) = opened_before i k ++ last_opened i (suc k) ∷ []

length-opened_before : (i : Problem) (k : ℕ) → length (opened_before i k) ≡ k
length-opened_before i zero = refl
length-opened_before i (suc k) = omega (arith, length-append (opened_before i k) (last_opened i (suc k) ∷ []), length-opened_before i k)

-- they are the job grades up to the one that was opened last
record AreOpened (i : Problem) (g k : ℕ) : Type 0 where
  rising : Rising (opened_before i k)
  only : (e : ℕ) → Contains (opened_before i k) e → Contains (job_grades i (test_list i g)) e × (e ≤ last_opened i k)
  all : (e : ℕ) → Contains (job_grades i (test_list i g)) e → e ≤ last_opened i k → Contains (opened_before i k) e

module _ (i : Problem) (s : IsInstance i) (g : ℕ) where
  grade_positive : (e : ℕ) → Contains (job_grades i (test_list i g)) e → 1 ≤ e
  grade_positive e c =
      let j = map_gives (job_grade_of i (test_list i g)) (all_jobs i (test_list i g)) e c in
      subst (λ x. 1 ≤ x) j.2 (job_positive i s g (test_list i g) (is_test_list i s g) j.0 (((jobs_listed i (test_list i g)).0 j.0).0 j.1))

  are_opened : (k : ℕ) → k ≤ first_version_from i g → AreOpened i g k
  are_opened zero l = record {
    rising = tt;
    only = λ e c. absurd (Contains-nil e c);
    all = λ e c m. absurd (omega (arith, grade_positive e c, m));
  }
  are_opened (suc k) l =
      let b = level_below_first i g k (omega arith) in
      let last : last_opened i (suc k) ≡ b.0 + 1 = last_opened_next i k b.0 b.1 in
      let next : least_above (last_opened i k) (job_grades i (test_list i g)) ≡ Some (last_opened i (suc k)) =
      sym (opened_of_whole i s g k (omega arith)) ∙ ap grade_after b.1 ∙ ap Some (sym last) in
      one_more (are_opened k (omega arith)) (least_above_some (last_opened i k) (job_grades i (test_list i g)) (last_opened i (suc k)) next)
    where
      one_more : AreOpened i g k →
          (last_opened i k < last_opened i (suc k)) × Contains (job_grades i (test_list i g)) (last_opened i (suc k)) ×
          ((h : ℕ) → Contains (job_grades i (test_list i g)) h → last_opened i k < h → last_opened i (suc k) ≤ h) → AreOpened i g (suc k)
      one_more o a =
          let x : ℕ = last_opened i (suc k) in
          record {
            rising = InOrder-append (λ (d e : ℕ). d < e) (opened_before i k) (x ∷ []) o.rising (λ y c. absurd (Contains-nil y c), tt)
                (λ y z c d. ⊎_elim (λ e. omega (arith, (o.only y c).1, a.0)) (λ e. absurd (Contains-nil z e)) (Contains-cons_cases x [] z d));
            only = λ e c. ⊎_elim (λ d. ((o.only e d).0, omega (arith, (o.only e d).1, a.0)))
                (λ d. ⊎_elim (λ q. (subst (Contains (job_grades i (test_list i g))) q a.1, omega arith)) (λ n. absurd (Contains-nil e n)) (Contains-cons_cases x [] e d))
                (Contains-append_cases (opened_before i k) (x ∷ []) e c);
            all = λ e c m. ⊎_elim
                (λ h. let q : x ≡ e = omega (arith, a.2 e c h) in
                Contains-append_right (opened_before i k) (x ∷ []) e (subst (Contains (x ∷ [])) q (Contains-here x [])))
                (λ h. Contains-append_left (opened_before i k) (x ∷ []) e (o.all e c h)) (cases_lt (last_opened i k) e);
          }

  -- the first version that covers g opened all of them that are at most g
  opened_last : (e : ℕ) → Contains (job_grades i (test_list i g)) e → e ≤ g → e ≤ last_opened i (first_version_from i g)
  opened_last e c m = from_level (level_of i k) refl
    where
      k : ℕ
      k = first_version_from i g

      next : opened_grade i k ≡ least_above (last_opened i k) (job_grades i (test_list i g))
      next = opened_of_whole i s g k (omega arith)

      from_level : (x : Level) → level_of i k ≡ x → e ≤ last_opened i k
      from_level everything q = least_above_none (last_opened i k) (job_grades i (test_list i g)) (sym next ∙ ap grade_after q) e c
      from_level (upto l) q =
          let a = least_above_some (last_opened i k) (job_grades i (test_list i g)) (l + 1) (sym next ∙ ap grade_after q) in
          let covered : g ≤ l = subst (λ x. Covers x g) q (first_version_is i g).covered in
          ⊎_elim (λ h. absurd (omega (arith, a.2 e c h))) (λ h. h) (cases_lt (last_opened i k) e)

  count_opened : (found : List ℕ) → AreGradesOf i (test_list i g) g found → length found ≡ first_version_from i g
  count_opened found a = ap length same ∙ length-opened_before i k
    where
      k : ℕ
      k = first_version_from i g

      ms : List Binomial
      ms = test_list i g

      o : AreOpened i g k
      o = are_opened k (omega arith)

      last_within : last_opened i k ≤ g
      last_within = (first_is_version i g k (first_version_is i g)).1

      there : (e : ℕ) → Contains found e → Contains (opened_before i k) e
      there e c =
          let j = map_gives (job_grade_of i ms) (jobs_up_to i ms g) e ((a.each e).0 c) in
          let b = ((jobs_up_to_listed i ms g).0 j.0).0 j.1 in
          let listed : Contains (job_grades i ms) e =
          subst (Contains (job_grades i ms)) j.2 (Contains-map (job_grade_of i ms) (all_jobs i ms) j.0 (((jobs_listed i ms).0 j.0).1 b.0)) in
          o.all e listed (opened_last e listed (omega (arith, b.1, j.2)))

      back : (e : ℕ) → Contains (opened_before i k) e → Contains found e
      back e c =
          let b = o.only e c in
          let j = map_gives (job_grade_of i ms) (all_jobs i ms) e b.0 in
          (a.each e).1 (subst (Contains (map (job_grade_of i ms) (jobs_up_to i ms g))) j.2
          (Contains-map (job_grade_of i ms) (jobs_up_to i ms g) j.0
          (((jobs_up_to_listed i ms g).0 j.0).1 (((jobs_listed i ms).0 j.0).0 j.1, omega (arith, j.2, b.1, last_within)))))

      same : found ≡ opened_before i k
      same =
          InOrder-unique (λ (d e : ℕ). d < e) (λ x l. omega arith) (λ x y z l h. omega arith) found (opened_before i k)
          (InOrder-from_pairs (λ (d e : ℕ). d < e) found a.rising) o.rising there back

pub grades_count : (i : Problem) → IsInstance i → (g : ℕ) (ms : List Binomial) → IsTestList i g ms → (grades : List ℕ) → AreGradesOf i ms g grades →
    length grades ≡ first_version_from i g
grades_count i s g ms t found a = count_opened i s g found (subst (λ (x : List Binomial). AreGradesOf i x g found) ((test_lists i s g ms).1 t) a)
