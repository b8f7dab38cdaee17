-- How levels follow from each other, and that they rise.
use Rattle.std.proofs.Common.{ℕ, ◌+◌, ◌≤◌, ◌<◌, ◌≡◌, Option, Some, None, List, [], map, length, get_or, Contains, unwrap_or, refl, sym, subst, ap, ◌∙◌, arith, zero, suc, ⊎_elim}
use Rattle.std.proofs.lemmas.Bool.{cases_lt}
use Rattle.std.proofs.lemmas.List.{get_or-map, length-map}
use Rattle.std.proofs.lemmas.List.Elements.{Contains-get_or}
use Rattle.ct_vectors.specs.Vectors.{total}
use Rattle.ct_instance.specs.declared.jobs.Job.{Job}
use Rattle.ct_instance.specs.declared.jobs.Job.TheVariants.{Generator, Pair}
use Rattle.ct_instance.specs.Instance.{Problem}
use Rattle.ct_instance.specs.TestSet.{Binomial, test_list}
use Rattle.ct_instance.specs.Jobs.{IsJob, all_jobs, job_grade_of}
use Rattle.ct_instance.specs.Versions.{Level, upto, everything, Covers, least_above, level_before, level_after, level_of, version_list, IsVersion}
use Rattle.ct_instance.specs.Reach.{grade_after, opened_grade, last_opened}
use Rattle.ct_instance.proofs.Lists.{Contains-map, map_gives}
use Rattle.ct_instance.proofs.JobsList.{jobs_listed}
use Rattle.ct_instance.proofs.Above.{least_above_some, least_above-same, level_under, level_before_is}
use Rattle.ct_walk.proofs.Ends.{the_column_is}
use Rattle.ct_levels.specs.Levels.{job_grades}

-- ---- from one version to the next

pub list_zero : (i : Problem) → version_list i 0 ≡ []
unfolding version_list
list_zero i = refl

pub list_next : (i : Problem) (k l : ℕ) → level_of i k ≡ upto l → version_list i (suc k) ≡ test_list i (l + 1)
unfolding version_list
list_next i k l e = rw e refl

level_zero : (i : Problem) → level_of i 0 ≡ level_before 0 (map total i.columns)
unfolding level_of
level_zero i = refl

pub level_next : (i : Problem) (k l : ℕ) → level_of i k ≡ upto l → level_of i (suc k) ≡ level_before (l + 1) (job_grades i (test_list i (l + 1)))
unfolding level_of level_after
level_next i k l e = rw e refl

level_stays : (i : Problem) (k : ℕ) → level_of i k ≡ everything → level_of i (suc k) ≡ everything
unfolding level_of
level_stays i k e = rw e refl

pub last_opened_next : (i : Problem) (k l : ℕ) → level_of i k ≡ upto l → last_opened i (suc k) ≡ l + 1
last_opened_next i k l e = ap (λ x. unwrap_or (grade_after x) 0) e

-- ---- the level is told by the grades of the version's jobs

-- the jobs of the empty list are the columns
jobs_of_nothing : (i : Problem) → least_above 0 (map total i.columns) ≡ least_above 0 (job_grades i [])
jobs_of_nothing i = least_above-same 0 (map total i.columns) (job_grades i []) to from
  where
    to : (g : ℕ) → Contains (map total i.columns) g → 0 < g → Contains (job_grades i []) g
    to g c l =
        let at : c.0 < length i.columns = omega (arith, c.1, length-map i.columns total) in
        let e : job_grade_of i [] (Generator (suc c.0)) ≡ g =
        ap total (the_column_is i c.0) ∙ sym (get_or-map total i.columns c.0 [] g at) ∙ c.2 in
        subst (Contains (job_grades i [])) e
        (Contains-map (job_grade_of i []) (all_jobs i []) (Generator (suc c.0)) (((jobs_listed i []).0 (Generator (suc c.0))).1 (omega arith, omega arith)))

    from : (g : ℕ) → Contains (job_grades i []) g → 0 < g → Contains (map total i.columns) g
    from g c l =
        let t = map_gives (job_grade_of i []) (all_jobs i []) g c in
        column t.0 (((jobs_listed i []).0 t.0).0 t.1) t.2
      where
        column : (j : Job) → IsJob i [] j → job_grade_of i [] j ≡ g → Contains (map total i.columns) g
        column (Generator zero) k e = absurd (omega (arith, k.0))
        column (Generator (suc j)) k e =
            subst (Contains (map total i.columns)) (ap total (sym (the_column_is i j)) ∙ e)
            (Contains-map total i.columns (get_or i.columns j []) (Contains-get_or i.columns j [] (omega (arith, k.1))))
        column (Pair a b) k e = absurd (omega (arith, k.0, k.1, k.2))

pub next_version : (i : Problem) (k : ℕ) → IsVersion i k → (d : ℕ) × (ms : List Binomial) × (last_opened i k ≡ d) × (version_list i k ≡ ms) × (level_of i k ≡ level_under (least_above d (job_grades i ms)))
next_version i zero v =
    (0, [], refl, list_zero i, level_zero i ∙ level_before_is 0 (map total i.columns) (least_above 0 (job_grades i [])) (jobs_of_nothing i))
next_version i (suc k) v =
    let l : ℕ = v.0 in
    let e : level_of i k ≡ upto l = v.1 in
    let ms : List Binomial = test_list i (l + 1) in
    (l + 1, ms, last_opened_next i k l e, list_next i k l e, level_next i k l e ∙ level_before_is (l + 1) (job_grades i ms) (least_above (l + 1) (job_grades i ms)) refl)

-- the level is under the least grade of a job of the version's list above the grade that was opened last
pub level_is : (i : Problem) (k : ℕ) → IsVersion i k → level_of i k ≡ level_under (least_above (last_opened i k) (job_grades i (version_list i k)))
level_is i k v =
    let n = next_version i k v in
    n.4 ∙ ap (λ d. level_under (least_above d (job_grades i n.1))) (sym n.2) ∙ ap (λ ms. level_under (least_above (last_opened i k) (job_grades i ms))) (sym n.3)

grade_after_under : (d : ℕ) (gs : List ℕ) → (o : Option ℕ) → least_above d gs ≡ o → grade_after (level_under o) ≡ o
grade_after_under d gs None e = refl
grade_after_under d gs (Some g) e = let m : d < g = (least_above_some d gs g e).0 in ap Some (omega arith)

-- and the grade that it opens is that least grade
pub opened_is_next : (i : Problem) (k : ℕ) → IsVersion i k → opened_grade i k ≡ least_above (last_opened i k) (job_grades i (version_list i k))
opened_is_next i k v =
    ap grade_after (level_is i k v) ∙
    grade_after_under (last_opened i k) (job_grades i (version_list i k)) (least_above (last_opened i k) (job_grades i (version_list i k))) refl

-- ---- levels rise

under_covers : (d : ℕ) (o : Option ℕ) (gs : List ℕ) → least_above d gs ≡ o → Covers (level_under o) d
under_covers d None gs e = tt
under_covers d (Some g) gs e = let m : d < g = (least_above_some d gs g e).0 in omega arith

before_covers : (d : ℕ) (gs : List ℕ) → Covers (level_before d gs) d
before_covers d gs = subst (λ x. Covers x d) (sym (level_before_is d gs (least_above d gs) refl)) (under_covers d (least_above d gs) gs refl)

pub Covers-le : (x : Level) (g h : ℕ) → g ≤ h → Covers x h → Covers x g
Covers-le (upto l) g h k c = omega (arith, c)
Covers-le everything g h k c = tt

-- opening covers one grade more at least
pub next_covers : (i : Problem) (k l : ℕ) → level_of i k ≡ upto l → Covers (level_of i (suc k)) (l + 1)
next_covers i k l e = subst (λ x. Covers x (l + 1)) (sym (level_next i k l e)) (before_covers (l + 1) (job_grades i (test_list i (l + 1))))

next_rises : (i : Problem) (k g : ℕ) → Covers (level_of i k) g → Covers (level_of i (suc k)) g
next_rises i k g c = rises (level_of i k) refl c
  where
    rises : (x : Level) → level_of i k ≡ x → Covers x g → Covers (level_of i (suc k)) g
    rises (upto l) e d = Covers-le (level_of i (suc k)) g (l + 1) (omega (arith, d)) (next_covers i k l e)
    rises everything e d = subst (λ x. Covers x g) (sym (level_stays i k e)) tt

-- what a version covers, each later one covers
pub levels_rise : (i : Problem) (j k g : ℕ) → j ≤ k → Covers (level_of i j) g → Covers (level_of i k) g
levels_rise i j zero g l c = subst (λ n. Covers (level_of i n) g) (let e : j ≡ 0 = omega arith in e) c
levels_rise i j (suc k) g l c =
    ⊎_elim (λ h. subst (λ n. Covers (level_of i n) g) (let e : j ≡ suc k = omega arith in e) c) (λ h. next_rises i k g (levels_rise i j k g h c))
    (cases_lt k j)

-- version k covers k
pub covers_number : (i : Problem) (k : ℕ) → Covers (level_of i k) k
covers_number i zero = least (level_of i 0)
  where
    least : (x : Level) → Covers x 0
    least (upto l) = omega arith
    least everything = tt
covers_number i (suc k) = more (level_of i k) refl (covers_number i k)
  where
    more : (x : Level) → level_of i k ≡ x → Covers x k → Covers (level_of i (suc k)) (suc k)
    more (upto l) e c = Covers-le (level_of i (suc k)) (suc k) (l + 1) (omega (arith, c)) (next_covers i k l e)
    more everything e c = subst (λ x. Covers x (suc k)) (sym (level_stays i k e)) tt

-- ---- the versions before

pub version_before : (i : Problem) (k : ℕ) → IsVersion i (suc k) → IsVersion i k
version_before i zero v = tt
version_before i (suc k) v = before (level_of i k) refl
  where
    before : (x : Level) → level_of i k ≡ x → (l : ℕ) × (level_of i k ≡ upto l)
    before (upto l) e = (l, e)
    before everything e = let no : everything ≡ upto v.0 = sym (level_stays i k e) ∙ v.1 in absurd (cc)

-- the number of a version is at most the grade that was opened last
pub number_within : (i : Problem) (k : ℕ) → IsVersion i k → k ≤ last_opened i k
number_within i zero v = omega arith
number_within i (suc k) v =
    let c : Covers (upto v.0) k = subst (λ x. Covers x k) v.1 (covers_number i k) in
    omega (arith, last_opened_next i k v.0 v.1, c)

-- which the version covers
pub covers_opened : (i : Problem) (k : ℕ) → IsVersion i k → Covers (level_of i k) (last_opened i k)
covers_opened i k v =
    subst (λ x. Covers x (last_opened i k)) (sym (level_is i k v))
    (under_covers (last_opened i k) (least_above (last_opened i k) (job_grades i (version_list i k))) (job_grades i (version_list i k)) refl)
