-- Up to the first version that covers a grade, what a version opens is told by the test list of that grade.
use Rattle.std.proofs.Common.{ℕ, ◌+◌, ◌-◌, ◌≤◌, ◌<◌, ◌≡◌, ⊎_elim, Option, Some, None, List, [], ◌++◌, length, get_or, Contains, sym, subst, ap, ◌∙◌, arith, zero, suc, length-append}
use Rattle.std.proofs.Math.Seq.{get_or-append_right}
use Rattle.std.proofs.lemmas.Bool.{cases_lt}
use Rattle.std.proofs.lemmas.Option.{unwrap_or-slice_get}
use Rattle.std.proofs.lemmas.List.Elements.{Contains-get_or}
use Rattle.ct_vectors.specs.Vectors.{add, subtract, lcm, Divides}
use Rattle.ct_vectors.proofs.Sums.{length-subtract, zeros-add}
use Rattle.ct_vectors.proofs.Divisors.{Divides-refl, Divides-lcm, Divides-lcm_right, length-lcm, add-subtract}
use Rattle.ct_instance.specs.declared.jobs.Job.{Job}
use Rattle.ct_instance.specs.declared.jobs.Job.TheVariants.{Generator, Pair}
use Rattle.ct_instance.specs.Instance.{Problem, IsInstance, IsPoint, grade_of}
use Rattle.ct_instance.specs.TestSet.{Binomial, IsTestHead, ComesBefore, test_list, IsTestList}
use Rattle.ct_instance.specs.Jobs.{IsJob, JobComesBefore, the_move, job_grade_of, all_jobs, jobs_at}
use Rattle.ct_instance.specs.Versions.{upto, Covers, least_above, level_of, version_list, IsVersion}
use Rattle.ct_instance.specs.Reach.{grade_after, opened_grade, last_opened, first_version_from}
use Rattle.ct_instance.proofs.Lists.{Contains-map, map_gives}
use Rattle.ct_instance.proofs.Degree.{columns, grade-add, zeros_from_grade}
use Rattle.ct_instance.proofs.TestHeads.{minimal_is}
use Rattle.ct_instance.proofs.Ordered.{InOrder-from_pairs, InOrder-unique}
use Rattle.ct_instance.proofs.TestList.{is_test_list, test_lists_grow, before_itself}
use Rattle.ct_instance.proofs.JobsList.{jobs_listed, jobs_of_grade_listed}
use Rattle.ct_instance.proofs.Above.{IsLeastAbove, least_above_is, least_above_some}
use Rattle.ct_walk.proofs.Steps.{normal_none}
use Rattle.ct_walk.proofs.Ends.{job_stays, grade_stays}
use Rattle.ct_walk.proofs.StrictJobs.{never_before_itself, before_chain}
use Rattle.ct_walk.proofs.WalkFacts.{later_heads}
use Rattle.ct_levels.specs.Levels.{job_grades, IsFirstVersion}
use Rattle.ct_levels.proofs.Numbered.{the_test_move, heads_in_turn}
use Rattle.ct_levels.proofs.Levels.{opened_is_next, version_before}
use Rattle.ct_levels.proofs.Covering.{first_version_is, first_is_version, test_list_of_first}
use Rattle.ct_levels.proofs.Full.{list_at_level}

-- ---- points of one grade

-- a point that divides another of no greater grade is that point
same_by_grade : (i : Problem) → IsInstance i → (h p : List ℕ) → IsPoint i h → IsPoint i p → Divides h p → grade_of i.columns p ≤ grade_of i.columns h → h ≡ p
same_by_grade i s h p e f d l =
    let c : List ℕ = subtract p h in
    let whole : add c h ≡ p = add-subtract p h (omega (arith, e, f)) d in
    let grades : grade_of i.columns (add c h) ≡ grade_of i.columns p = ap (grade_of i.columns) whole in
    let none : grade_of i.columns c ≡ 0 = omega (arith, grade-add i.columns c h) in
    sym (zeros-add (length c) h (omega (arith, length-subtract p h, e, f))) ∙ ap (λ r. add r h) (sym (zeros_from_grade i.rows i.columns (columns i s) c none)) ∙ whole

-- ---- the jobs of a test list, and of a longer one

module _ (i : Problem) (s : IsInstance i) (l g : ℕ) (ms more : List Binomial) (t : IsTestList i l ms) (u : IsTestList i g (ms ++ more)) where
  further : (k : ℕ) → length ms < k → k ≤ length (ms ++ more) → Contains more (the_move (ms ++ more) k)
  further zero a b = absurd (omega arith)
  further (suc k) a b =
      let none : Binomial = record { head = []; tail = [] } in
      let at : the_move (ms ++ more) (suc k) ≡ get_or more (k - length ms) none =
      unwrap_or-slice_get (ms ++ more) k none ∙ get_or-append_right ms more k none (omega arith) in
      subst (Contains more) (sym at) (Contains-get_or more (k - length ms) none (omega (arith, length-append ms more)))

  -- a further move has no pair with an earlier one up to the next grade: the lcm would be its head, which the other divides
  no_pair : (h : List ℕ) (n : Binomial) → IsTestHead i h → IsTestHead i n.head → Contains more n → ComesBefore i h n.head →
      grade_of i.columns (lcm h n.head) ≤ l + 1 → ⊥
  no_pair h n first second c before e =
      let p : List ℕ = lcm h n.head in
      let wide : IsPoint i p = omega (arith, length-lcm h n.head, first.point, second.point) in
      let above : l < grade_of i.columns n.head =
      ⊎_elim (λ m. m) (λ m. absurd (normal_none more n.head (later_heads i s l g ms more t u n.head second.point m) n c (Divides-refl n.head)))
      (cases_lt l (grade_of i.columns n.head)) in
      let same : n.head ≡ p = same_by_grade i s n.head p second.point wide (Divides-lcm_right h n.head) (omega arith) in
      let equal : h ≡ n.head = minimal_is i n.head h second first.point first.improvable (subst (Divides h) (sym same) (Divides-lcm h n.head)) in
      before_itself i h (subst (ComesBefore i h) (sym equal) before)

  -- a job of the longer list up to the next grade is one of the list
  old_job : (j : Job) → IsJob i (ms ++ more) j → job_grade_of i (ms ++ more) j ≤ l + 1 → IsJob i ms j
  old_job (Generator j) h e = h
  old_job (Pair a b) h e =
      let first : 1 ≤ a = h.0 in
      let between : a < b = h.1 in
      let last : b ≤ length (ms ++ more) = h.2 in
      let m = the_test_move i g (ms ++ more) u a first (omega arith) in
      let n = the_test_move i g (ms ++ more) u b (omega arith) last in (
        h.0,
        h.1,
        ⊎_elim (λ k. absurd (no_pair (the_move (ms ++ more) a).head (the_move (ms ++ more) b) (m.0).head (n.0).head (further b k last)
            (heads_in_turn i g (ms ++ more) u a b first between last) e)) (λ k. k) (cases_lt (length ms) b),
      )

  job_grade_stays : (j : Job) → IsJob i ms j → Contains (job_grades i (ms ++ more)) (job_grade_of i ms j)
  job_grade_stays j k =
      subst (Contains (job_grades i (ms ++ more))) (grade_stays i ms more j k)
      (Contains-map (job_grade_of i (ms ++ more)) (all_jobs i (ms ++ more)) j (((jobs_listed i (ms ++ more)).0 j).1 (job_stays i ms more j k)))

  old_job_grade : (j : Job) → IsJob i (ms ++ more) j → job_grade_of i (ms ++ more) j ≤ l + 1 → Contains (job_grades i ms) (job_grade_of i (ms ++ more) j)
  old_job_grade j k e =
      let old = old_job j k e in
      subst (Contains (job_grades i ms)) (sym (grade_stays i ms more j old)) (Contains-map (job_grade_of i ms) (all_jobs i ms) j (((jobs_listed i ms).0 j).1 old))

  -- where the next job grade of the list is the next grade, it is that of the longer list
  next_stays : (o : ℕ) → least_above o (job_grades i ms) ≡ Some (l + 1) → least_above o (job_grades i (ms ++ more)) ≡ Some (l + 1)
  next_stays o e = one (least_above o (job_grades i (ms ++ more))) (least_above_is o (job_grades i (ms ++ more)))
    where
      a : (o < l + 1) × Contains (job_grades i ms) (l + 1) × ((h : ℕ) → Contains (job_grades i ms) h → o < h → l + 1 ≤ h)
      a = least_above_some o (job_grades i ms) (l + 1) e

      listed : Contains (job_grades i (ms ++ more)) (l + 1)
      listed =
          let j = map_gives (job_grade_of i ms) (all_jobs i ms) (l + 1) a.1 in
          subst (Contains (job_grades i (ms ++ more))) j.2 (job_grade_stays j.0 (((jobs_listed i ms).0 j.0).0 j.1))

      least : (h : ℕ) → Contains (job_grades i (ms ++ more)) h → o < h → l + 1 ≤ h
      least h c above =
          let j = map_gives (job_grade_of i (ms ++ more)) (all_jobs i (ms ++ more)) h c in
          let k : IsJob i (ms ++ more) j.0 = ((jobs_listed i (ms ++ more)).0 j.0).0 j.1 in
          ⊎_elim (λ m. a.2 h (subst (Contains (job_grades i ms)) j.2 (old_job_grade j.0 k (omega (arith, j.2)))) above) (λ m. m) (cases_lt h (l + 1))

      one : (x : Option ℕ) → IsLeastAbove o (job_grades i (ms ++ more)) x → x ≡ Some (l + 1)
      one None n = let above : o < l + 1 = a.0 in absurd (omega (arith, n (l + 1) listed))
      one (Some x) n = ap Some (omega (arith, n.2 (l + 1) listed a.0, least x n.1 n.0))

  -- and so are the jobs of the next grade
  jobs_stay : jobs_at i ms (l + 1) ≡ jobs_at i (ms ++ more) (l + 1)
  jobs_stay =
      InOrder-unique JobComesBefore never_before_itself before_chain (jobs_at i ms (l + 1)) (jobs_at i (ms ++ more) (l + 1))
      (InOrder-from_pairs JobComesBefore (jobs_at i ms (l + 1)) (jobs_of_grade_listed i ms (l + 1)).1)
      (InOrder-from_pairs JobComesBefore (jobs_at i (ms ++ more) (l + 1)) (jobs_of_grade_listed i (ms ++ more) (l + 1)).1)
      (λ j c. let k = ((jobs_of_grade_listed i ms (l + 1)).0 j).0 c in
      ((jobs_of_grade_listed i (ms ++ more) (l + 1)).0 j).1 (job_stays i ms more j k.0, grade_stays i ms more j k.0 ∙ k.1))
      (λ j c. let k = ((jobs_of_grade_listed i (ms ++ more) (l + 1)).0 j).0 c in
      let old = old_job j k.0 (omega (arith, k.1)) in
      ((jobs_of_grade_listed i ms (l + 1)).0 j).1 (old, sym (grade_stays i ms more j old) ∙ k.1))

-- ---- versions before the first that covers a grade

earlier_version : (i : Problem) (j k : ℕ) → j ≤ k → IsVersion i k → IsVersion i j
earlier_version i j zero l v = subst (IsVersion i) (let e : 0 ≡ j = omega arith in e) v
earlier_version i j (suc k) l v =
    ⊎_elim (λ h. subst (IsVersion i) (let e : suc k ≡ j = omega arith in e) v) (λ h. earlier_version i j k h (version_before i k v)) (cases_lt k j)

-- its level is below that grade
pub level_below_first : (i : Problem) (g k : ℕ) → k < first_version_from i g → (l : ℕ) × (level_of i k ≡ upto l) × (l < g)
level_below_first i g k m =
    let first = first_version_is i g in
    let v : IsVersion i (suc k) = earlier_version i (suc k) (first_version_from i g) (omega arith) (first_is_version i g (first_version_from i g) first).0 in
    (v.0, v.1, ⊎_elim (λ l. l) (λ c. absurd (first.first k m (subst (λ x. Covers x g) (sym v.1) c))) (cases_lt v.0 g))

-- its list, which is a test list, and what the whole list has more
record IsFront (i : Problem) (g k : ℕ) : Type 0 where
  level : ℕ
  more : List Binomial
  opened : opened_grade i k ≡ Some (level + 1)
  next : least_above (last_opened i k) (job_grades i (version_list i k)) ≡ Some (level + 1)
  front : IsTestList i level (version_list i k)
  grown : test_list i g ≡ version_list i k ++ more
  whole : IsTestList i g (version_list i k ++ more)

front_of : (i : Problem) → IsInstance i → (g k : ℕ) → k < first_version_from i g → IsFront i g k
front_of i s g k m =
    let b = level_below_first i g k m in
    let v : IsVersion i k = version_before i k (b.0, b.1) in
    let same : version_list i k ≡ test_list i b.0 = list_at_level i s k b.0 v b.1 in
    let more = test_lists_grow i b.0 g (omega (arith, b.2)) in
    let grown : test_list i g ≡ version_list i k ++ more.0 = more.1 ∙ ap (λ x. x ++ more.0) (sym same) in
    record {
      level = b.0;
      more = more.0;
      opened = ap grade_after b.1;
      next = sym (opened_is_next i k v) ∙ ap grade_after b.1;
      front = subst (IsTestList i b.0) (sym same) (is_test_list i s b.0);
      grown = grown;
      whole = subst (IsTestList i g) grown (is_test_list i s g);
    }

at_first : (i : Problem) (g k : ℕ) → k ≤ first_version_from i g → first_version_from i g ≤ k → IsFirstVersion i g k
at_first i g k l h = subst (IsFirstVersion i g) (let e : first_version_from i g ≡ k = omega arith in e) (first_version_is i g)

-- up to that version the opened grades are the next job grades of the whole list
pub opened_of_whole : (i : Problem) → IsInstance i → (g k : ℕ) → k ≤ first_version_from i g → opened_grade i k ≡ least_above (last_opened i k) (job_grades i (test_list i g))
opened_of_whole i s g k l =
    ⊎_elim
    (λ m.
    let f = front_of i s g k m in
    f.opened ∙ sym (ap (λ ms. least_above (last_opened i k) (job_grades i ms)) f.grown ∙ next_stays i s f.level g (version_list i k) f.more f.front f.whole (last_opened i k) f.next))
    (λ h.
    let first = at_first i g k l h in
    opened_is_next i k (first_is_version i g k first).0 ∙ ap (λ ms. least_above (last_opened i k) (job_grades i ms)) (test_list_of_first i s g k first))
    (cases_lt k (first_version_from i g))

-- and the jobs of these grades are its jobs
pub jobs_of_whole : (i : Problem) → IsInstance i → (g k d : ℕ) → k ≤ first_version_from i g → opened_grade i k ≡ Some d → jobs_at i (version_list i k) d ≡ jobs_at i (test_list i g) d
jobs_of_whole i s g k d l e =
    ⊎_elim
    (λ m.
    let f = front_of i s g k m in
    let at : f.level + 1 ≡ d = let q : Some (f.level + 1) ≡ Some d = sym f.opened ∙ e in cc in
    subst (λ (x : ℕ). jobs_at i (version_list i k) x ≡ jobs_at i (test_list i g) x) at
    (jobs_stay i s f.level g (version_list i k) f.more f.front f.whole ∙ ap (λ ms. jobs_at i ms (f.level + 1)) (sym f.grown)))
    (λ h. ap (λ ms. jobs_at i ms d) (test_list_of_first i s g k (at_first i g k l h)))
    (cases_lt k (first_version_from i g))
