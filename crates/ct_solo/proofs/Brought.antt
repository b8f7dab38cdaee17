-- The moves that the jobs of a grade bring, and the version that they make.
use Rattle.std.proofs.Common.{◌≡◌, ◌⊎◌, ◌↔◌, inl, inr, ⊎_elim, ℕ, ◌+◌, ◌-◌, ◌≤◌, ◌<◌, Option, Some, None, Result, Ok, Err, IfOk, List, [], ◌++◌, length, get_or, All, AllPairs, Contains, sym, ap, ap₂, subst, subst₂, ◌∙◌, refl, arith, suc}
use Rattle.std.specs.Option.{unwrap_or}
use Rattle.std.proofs.lemmas.List.{get_or_default}
use Rattle.std.proofs.lemmas.List.Elements.{Contains-get_or}
use Rattle.std.proofs.lemmas.List.Sorted.{IsPermutation-refl, IsPermutation-sym, Contains-permutation}
use Rattle.ct_vectors.specs.declared.limits.TheConstants.{GRADE_LIMIT}
use Rattle.ct_vectors.specs.Vectors.{Disjoint}
use Rattle.ct_instance.specs.declared.jobs.Job.{Job}
use Rattle.ct_instance.specs.declared.jobs.Job.TheVariants.{Generator, Pair}
use Rattle.ct_instance.specs.Instance.{Problem, IsInstance}
use Rattle.ct_instance.specs.TestSet.{Binomial, ComesBefore}
use Rattle.ct_instance.specs.Walk.{AreMoves}
use Rattle.ct_instance.specs.Jobs.{IsJob, IsCoprime, job_grade_of, all_jobs, jobs_at}
use Rattle.ct_instance.specs.Versions.{Level, upto, everything, Covers, least_above, level_of, version_list, IsVersion}
use Rattle.ct_instance.specs.Reach.{grade_after, last_opened}
use Rattle.ct_instance.proofs.Lists.{Contains-nil, Contains-map, map_gives}
use Rattle.ct_instance.proofs.Above.{level_under, least_above_some}
use Rattle.ct_instance.proofs.JobsList.{jobs_listed, jobs_of_grade_listed}
use Rattle.ct_walk.specs.Moves.{MoveList}
use Rattle.ct_walk.proofs.Ends.{the_move_stays}
use Rattle.ct_walk.proofs.WalkFacts.{test_list_moves}
use Rattle.ct_levels.specs.Levels.{job_grades}
use Rattle.ct_levels.proofs.Levels.{last_opened_next, number_within, opened_is_next, level_is, covers_opened, list_zero}
use Rattle.ct_levels.proofs.Lists.{is_list_of}
use Rattle.ct_jobs.specs.declared.graded.GradedJob.{GradedJob}
use Rattle.ct_jobs.specs.GradedJobs.{AreJobsOf, graded_jobs, graded_pairs_from, with_grade, next_grade}
use Rattle.ct_jobs.proofs.Growing.{jobs_grow, next_grade_of_all}
use Rattle.ct_completion.specs.Machine.{opened_jobs}
use Rattle.ct_completion.specs.Remainders.{IsGroupMove}
use Rattle.ct_completion.proofs.Remainders.{opened_is}
use Rattle.ct_groups.specs.Groups.{IsSmallPoint}
use Rattle.ct_handing.proofs.LevelsSoFar.{under_is_below}
use Rattle.ct_handing.proofs.Points.{AreSmall, remainder_small, all_points}
use Rattle.ct_version.specs.Editions.{Edition, level_below}
use Rattle.ct_solo.specs.declared.agenda.Agenda.{Agenda}
use Rattle.ct_solo.specs.Agendas.{graded, look, jobs_of, IsAgenda}
use Rattle.ct_solo.specs.Leaving.{LeavesPoints, IsSmallJob}
use Rattle.ct_solo.specs.Insides.{HasAgenda}
use Rattle.ct_solo.proofs.AgendaFacts.{same_agenda, longer_agenda}
use Rattle.ct_solo.proofs.KeptJobs.{next_from_kept}

-- ---- a version whose agenda is kept

-- the version opens the grade after this level, up to the greatest
pub record IsOpen (v : Edition) (a : Agenda) : Type 0 where
  pub instance : IsInstance v.instance
  pub version : IsVersion v.instance v.number
  pub agenda : HasAgenda v a
  pub level : ℕ
  pub opens : level_of v.instance v.number ≡ upto level
  pub below : level < a.top
  pub top : a.top ≤ GRADE_LIMIT

module _ (v : Edition) (a : Agenda) (o : IsOpen v a) where
  abbrev ms : List Binomial
  ms = version_list v.instance v.number

  listed : (e : GradedJob) → Contains (graded_jobs v.instance ms) e → IsJob v.instance ms e.job × (job_grade_of v.instance ms e.job ≡ e.grade)
  listed e c =
      let m = map_gives (with_grade v.instance ms) (all_jobs v.instance ms) e c in
      let same : m.0 ≡ e.job = ap (λ (x : GradedJob). x.job) m.2 in (
        subst (IsJob v.instance ms) same ((((jobs_listed v.instance ms).0 m.0).0) m.1),
        ap (job_grade_of v.instance ms) (sym same) ∙ ap (λ (x : GradedJob). x.grade) m.2,
      )

  kept_from : (d : ℕ) (w : Option (List Job)) → look a d ≡ w → (j : Job) → Contains (unwrap_or w []) j → Contains (graded_jobs v.instance ms) (graded d j)
  kept_from d None e j c = absurd (Contains-nil j c)
  kept_from d (Some kept) e j c = (((o.agenda).jobs).entries d kept e).jobs j c

  -- a job that is kept of a grade is one of that grade
  kept_job : (d : ℕ) (j : Job) → Contains (jobs_of a d) j → IsJob v.instance ms j × (job_grade_of v.instance ms j ≡ d)
  kept_job d j c = listed (graded d j) (kept_from d (look a d) refl j c)

  pub small_jobs : (d : ℕ) → d ≡ o.level + 1 → All (IsSmallJob v.instance ms) (jobs_of a d)
  small_jobs d is k x l =
      let r = kept_job d (get_or (jobs_of a d) k x) (Contains-get_or (jobs_of a d) k x l) in
      record { job = r.0; grade = omega (arith, r.1, is, o.below, o.top) }

  are_moves : AreMoves v.instance ms
  are_moves =
      test_list_moves v.instance (last_opened v.instance v.number) ms
      (is_list_of v.instance o.instance v.number (last_opened v.instance v.number) o.version
      (let e : last_opened v.instance v.number ≤ last_opened v.instance v.number = omega arith in e) (covers_opened v.instance v.number o.version))

  pub small_points : (d : ℕ) → d ≡ o.level + 1 → (points : List (List ℕ)) → LeavesPoints v.instance ms (jobs_of a d) points → All (IsSmallPoint v.instance) points
  small_points d is points h =
      subst (All (IsSmallPoint v.instance)) (sym h.same)
      (all_points v.instance h.remainders (λ k x l.
      let m : k < length (jobs_of a d) = omega (arith, l, (h.are).count) in
      subst (AreSmall v.instance) (get_or_default h.remainders k None x l)
      (remainder_small v.instance o.instance ms are_moves (get_or (jobs_of a d) k (Generator 0)) (small_jobs d is k (Generator 0) m).job (small_jobs d is k (Generator 0) m).grade (get_or h.remainders k None) ((h.are).each k (Generator 0) m))))

  -- each job of the opened grade is kept, or a coprime pair
  kept_or_coprime : (d : ℕ) → d ≡ o.level + 1 → (j : Job) → IsJob v.instance ms j → job_grade_of v.instance ms j ≡ d → IsCoprime ms j ⊎ Contains (jobs_of a d) j
  kept_or_coprime d is j job grade =
      let c : Contains (graded_jobs v.instance ms) (with_grade v.instance ms j) =
      Contains-map (with_grade v.instance ms) (all_jobs v.instance ms) j ((((jobs_listed v.instance ms).0 j).1) job) in
      let low : a.opened < job_grade_of v.instance ms j = omega (arith, (o.agenda).opened, grade, is, opened_low) in
      let r = ((o.agenda).jobs).whole (with_grade v.instance ms j) c low (omega (arith, grade, is, o.below)) in
      let kept : jobs_of a d ≡ r.0 = ap (λ (w : Option (List Job)). unwrap_or w []) (ap (look a) (sym grade) ∙ r.1) in
      ⊎_elim (λ y. inl y) (λ y. inr (subst (λ (ks : List Job). Contains ks j) (sym kept) y)) r.2
    where
      opened_low : last_opened v.instance v.number ≤ o.level
      opened_low = subst (λ (l : Level). Covers l (last_opened v.instance v.number)) o.opens (covers_opened v.instance v.number o.version)

  opened_at : opened_jobs v.instance v.number ≡ jobs_at v.instance ms (o.level + 1)
  opened_at = opened_is v.instance v.number (o.level + 1) (ap grade_after o.opens)

  pub next_list : (d : ℕ) → d ≡ o.level + 1 → (points : List (List ℕ)) → LeavesPoints v.instance ms (jobs_of a d) points → (new : List Binomial) →
      ((m : Binomial) → Contains new m ↔ IsGroupMove v.instance points m) → AllPairs (λ m n. ComesBefore v.instance m.head n.head) new →
      ms ++ new ≡ version_list v.instance (suc v.number)
  next_list d is points h new exact order =
      next_from_kept v.instance o.instance v.number (o.level, o.opens) (jobs_of a d) points h
      (λ j c. let r = kept_job d j c in subst (λ (ks : List Job). Contains ks j) (sym opened_at) (((jobs_of_grade_listed v.instance ms (o.level + 1)).0 j).1 (r.0, r.1 ∙ is)))
      (λ j c. let r = ((jobs_of_grade_listed v.instance ms (o.level + 1)).0 j).0 (subst (λ (ks : List Job). Contains ks j) opened_at c) in kept_or_coprime d is j r.0 (r.1 ∙ sym is))
      new exact order

  -- ---- the next version

  -- no job has a grade between the one that was opened last and this
  pub none_between : (e : GradedJob) → Contains (graded_jobs v.instance ms) e → a.opened < e.grade → o.level + 1 ≤ e.grade
  none_between e c low =
      let r = listed e c in
      let next : least_above (last_opened v.instance v.number) (job_grades v.instance ms) ≡ Some (o.level + 1) = sym (opened_is_next v.instance v.number o.version) ∙ ap grade_after o.opens in
      let s = least_above_some (last_opened v.instance v.number) (job_grades v.instance ms) (o.level + 1) next in
      let at : Contains (job_grades v.instance ms) e.grade =
      subst (Contains (job_grades v.instance ms)) r.1 (Contains-map (job_grade_of v.instance ms) (all_jobs v.instance ms) e.job ((((jobs_listed v.instance ms).0 e.job).1) r.0)) in
      s.2 e.grade at (omega (arith, low, (o.agenda).opened))

  pub opened_below : a.opened ≤ o.level + 1
  opened_below = omega (arith, (o.agenda).opened, low)
    where
      low : last_opened v.instance v.number ≤ o.level
      low = subst (λ (l : Level). Covers l (last_opened v.instance v.number)) o.opens (covers_opened v.instance v.number o.version)

  coprime_stays : (new : List Binomial) (j : Job) → IsJob v.instance ms j → IsCoprime ms j → IsCoprime (ms ++ new) j
  coprime_stays new (Generator j) h c = c
  coprime_stays new (Pair p q) h c =
      subst₂ Disjoint (ap (λ (m : Binomial). m.head) (sym (the_move_stays ms new p h.0 (omega (arith, h.1, h.2))))) (ap (λ (m : Binomial). m.head) (sym (the_move_stays ms new q (omega (arith, h.0, h.1)) h.2))) c

  -- what the next version is
  pub record IsStep (after : MoveList) (new : List Binomial) : Type 0 where
    pub instance : after.instance ≡ v.instance
    pub moves : after.moves ≡ ms ++ new
    pub next : ms ++ new ≡ version_list v.instance (suc v.number)

  module _ (after : MoveList) (new : List Binomial) (n : IsStep after new) where
    pub next_is_version : IsVersion v.instance (suc v.number)
    next_is_version = (o.level, o.opens)

    pub next_opened : last_opened v.instance (suc v.number) ≡ o.level + 1
    next_opened = last_opened_next v.instance v.number o.level o.opens

    pub next_number : suc v.number ≤ GRADE_LIMIT
    next_number = omega (arith, number_within v.instance (suc v.number) next_is_version, next_opened, o.below, o.top)

    pub after_list : after.moves ≡ version_list v.instance (suc v.number)
    after_list = n.moves ∙ n.next

    -- the old jobs against the longer list, once the grade is closed
    pub agenda_closed : (b : Agenda) → IsAgenda ms (graded_jobs v.instance ms) b → IsAgenda after.moves (graded_jobs v.instance ms) b
    agenda_closed b h =
        subst (λ (ns : List Binomial). IsAgenda ns (graded_jobs v.instance ms) b) (sym n.moves)
        (longer_agenda ms (graded_jobs v.instance ms) b h (ms ++ new) (λ e c y. coprime_stays new e.job (listed e c).0 y))

    pub agenda_next : (b : Agenda) (from : ℕ) → from ≡ length ms + 1 → IsAgenda after.moves (graded_jobs v.instance ms ++ graded_pairs_from after.instance after.moves from) b →
        b.opened ≡ o.level + 1 → HasAgenda (record { instance = v.instance; number = suc v.number }) b
    agenda_next b from start h opened =
        let list : List Binomial = version_list v.instance (suc v.number) in
        let all : List GradedJob = graded_jobs v.instance ms ++ graded_pairs_from v.instance (ms ++ new) (length ms + 1) in
        let jobs : graded_jobs v.instance ms ++ graded_pairs_from after.instance after.moves from ≡ all =
        ap (λ (i : Problem). graded_jobs v.instance ms ++ graded_pairs_from i after.moves from) n.instance ∙
        ap₂ (λ (l : List Binomial) (f : ℕ). graded_jobs v.instance ms ++ graded_pairs_from v.instance l f) n.moves start in
        let grown : AreJobsOf v.instance list all = subst (λ (l : List Binomial). AreJobsOf v.instance l all) n.next (jobs_grow v.instance ms new (graded_jobs v.instance ms) (IsPermutation-refl (graded_jobs v.instance ms))) in
        record {
          opened = opened ∙ sym next_opened;
          jobs = same_agenda list all b (subst₂ (λ (l : List Binomial) (ks : List GradedJob). IsAgenda l ks b) after_list jobs h) (graded_jobs v.instance list)
              (λ e c. Contains-permutation all (graded_jobs v.instance list) e (IsPermutation-sym (graded_jobs v.instance list) all grown) c)
              (λ e c. Contains-permutation (graded_jobs v.instance list) all e grown c);
        }

-- ---- the level

-- the next grade of an agenda is the one that its version opens
pub level_from_agenda : (v : Edition) (a : Agenda) → IsVersion v.instance v.number → HasAgenda v a → (w : Option ℕ) →
    ((ns : List Binomial) (js : List GradedJob) → IsAgenda ns js a → w ≡ next_grade a.opened js) → level_below w ≡ level_of v.instance v.number
level_from_agenda v a version h w next =
    let list : List Binomial = version_list v.instance v.number in
    let js : List GradedJob = graded_jobs v.instance list in
    let is : w ≡ least_above (last_opened v.instance v.number) (job_grades v.instance list) =
    next list js h.jobs ∙ ap (λ (d : ℕ). next_grade d js) h.opened ∙ next_grade_of_all v.instance list js (last_opened v.instance v.number) (IsPermutation-refl js) in
    sym (level_is v.instance v.number version ∙ ap level_under (sym is) ∙ under_is_below w)

-- the agenda of the empty list
pub agenda_at_zero : (i : Problem) (a : Agenda) → IsAgenda [] (graded_jobs i []) a → a.opened ≡ 0 → HasAgenda (record { instance = i; number = 0 }) a
agenda_at_zero i a h opened = record {
  opened = opened;
  jobs = subst (λ (l : List Binomial). IsAgenda l (graded_jobs i l) a) (sym (list_zero i)) h;
}

-- ---- for one step

pub same_level : (a b : ℕ) → upto a ≡ upto b → a ≡ b
same_level a b e = ap grade_in e
  where
    grade_in : Level → ℕ
    grade_in (upto l) = l
    grade_in everything = 0

pub opened_is_next_grade : (v : Edition) (a : Agenda) (o : IsOpen v a) (d : ℕ) → level_of v.instance v.number ≡ upto (d - 1) → 1 ≤ d → d ≡ o.level + 1
opened_is_next_grade v a o d e some = let before : d - 1 ≡ o.level = same_level (d - 1) o.level (sym e ∙ o.opens) in omega (arith, before, some)

pub both_ok : {T E : Type 0} (r : Result T E) (P Q R : T → Type 0) → ((x : T) → P x → Q x → R x) → IfOk r P → IfOk r Q → IfOk r R
both_ok (Ok x) P Q R f p q = f x p q
both_ok (Err e) P Q R f p q = tt
