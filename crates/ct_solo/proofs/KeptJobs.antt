-- What the jobs that are kept of a grade leave gives the next list, since coprime pairs leave nothing.
use Rattle.std.proofs.Common.{ℕ, ◌+◌, ◌<◌, ◌≡◌, ◌⊎◌, ◌↔◌, inl, inr, ⊎_elim, Option, Some, None, List, [], ◌∷◌, ◌++◌, length, get_or, take, Contains, AllPairs, refl, sym, subst, ap, ◌∙◌, arith, zero, suc}
use Rattle.std.proofs.lemmas.Bool.{cases_lt}
use Rattle.std.proofs.lemmas.List.{get_or_append_left, get_or_push, length_push, take_more}
use Rattle.ct_instance.specs.declared.jobs.Job.{Job}
use Rattle.ct_instance.specs.Instance.{Problem, IsInstance, degree_of, grade_of}
use Rattle.ct_instance.specs.TestSet.{Binomial, IsTestList, IsTestMove, ComesBefore}
use Rattle.ct_instance.specs.Jobs.{IsJob, IsCoprime, job_grade_of, jobs_at}
use Rattle.ct_instance.specs.Versions.{version_list, IsVersion, IsRemainder, coprime}
use Rattle.ct_instance.specs.Reach.{grade_after}
use Rattle.ct_instance.proofs.Lists.{Contains-here, Contains-there, Contains-cons_cases, Contains-nil}
use Rattle.ct_instance.proofs.JobsList.{jobs_of_grade_listed}
use Rattle.ct_instance.proofs.TestList.{test_lists, move_is_sound, move_of_head}
use Rattle.ct_levels.proofs.Levels.{version_before}
use Rattle.ct_levels.proofs.Full.{list_at_level}
use Rattle.ct_completion.specs.Machine.{opened_jobs}
use Rattle.ct_completion.specs.Remainders.{AreRemainders, points_of, IsGroupMove}
use Rattle.ct_completion.proofs.Groups.{IsTestListWithin}
use Rattle.ct_completion.proofs.Remainders.{group_moves_within, opened_is, next_list_is}
use Rattle.ct_solo.specs.Leaving.{LeavesPoints}

-- ---- one job more

points_of-append : (rs ss : List (Option (List ℕ × List ℕ))) → points_of (rs ++ ss) ≡ points_of rs ++ points_of ss
points_of-append [] ss = refl
points_of-append (None ∷ rs) ss = points_of-append rs ss
points_of-append (Some p ∷ rs) ss = ap (λ (l : List (List ℕ)). p.0 ∷ p.1 ∷ l) (points_of-append rs ss)

module _ (i : Problem) (ms : List Binomial) where
  pub leaves_none : LeavesPoints i ms [] []
  leaves_none = record { remainders = []; are = record { count = refl; each = λ k j l. absurd (let m : k < 0 = l in omega arith) }; same = refl }

  leaves_push : (js : List Job) (ps : List (List ℕ)) (j : Job) (r : Option (List ℕ × List ℕ)) → LeavesPoints i ms js ps → IsRemainder i ms j r →
      LeavesPoints i ms (js ++ j ∷ []) (ps ++ points_of (r ∷ []))
  leaves_push js ps j r h rem =
      let rs = h.remainders in
      let count : length rs ≡ length js = (h.are).count in
      record {
        remainders = rs ++ r ∷ [];
        are = record {
          count = length_push rs r ∙ ap (λ (n : ℕ). n + 1) count ∙ sym (length_push js j);
          each = λ k x l.
              ⊎_elim
              (λ old.
              let fewer : k < length rs = omega (arith, old, count) in
              subst (λ (y : Job). IsRemainder i ms y (get_or (rs ++ r ∷ []) k None)) (sym (get_or_append_left js (j ∷ []) x k old))
              (subst (IsRemainder i ms (get_or js k x)) (sym (get_or_append_left rs (r ∷ []) None k fewer)) ((h.are).each k x old)))
              (λ new.
              let last : length js ≡ k = omega (arith, new, l, length_push js j) in
              subst (λ (y : Job). IsRemainder i ms y (get_or (rs ++ r ∷ []) k None)) (sym (get_or_push js j x k last))
              (subst (IsRemainder i ms j) (sym (get_or_push rs r None k (count ∙ last))) rem))
              (cases_lt k (length js));
        };
        same = ap (λ (l : List (List ℕ)). l ++ points_of (r ∷ [])) h.same ∙ sym (points_of-append rs (r ∷ []));
      }

  pub leaves_more : (js : List Job) (k : ℕ) (j : Job) (ps qs : List (List ℕ)) (r : Option (List ℕ × List ℕ)) → k < length js → j ≡ get_or js k j → LeavesPoints i ms (take k js) ps →
      IsRemainder i ms j r → qs ≡ ps ++ points_of (r ∷ []) → LeavesPoints i ms (take (k + 1) js) qs
  leaves_more js k j ps qs r within is h rem e =
      let longer : take (k + 1) js ≡ take k js ++ j ∷ [] = take_more js k j within ∙ ap (λ (x : Job). take k js ++ x ∷ []) (sym is) in
      subst (λ (l : List Job). LeavesPoints i ms l qs) (sym longer) (subst (LeavesPoints i ms (take k js ++ j ∷ [])) (sym e) (leaves_push (take k js) ps j r h rem))

  -- ---- with the jobs that aren't kept

  remainders_cons : (j : Job) (js : List Job) (r : Option (List ℕ × List ℕ)) (rs : List (Option (List ℕ × List ℕ))) → IsRemainder i ms j r → AreRemainders i ms js rs →
      AreRemainders i ms (j ∷ js) (r ∷ rs)
  remainders_cons j js r rs h are = record { count = ap suc are.count; each = each }
    where
      each : (k : ℕ) (x : Job) → k < length (j ∷ js) → IsRemainder i ms (get_or (j ∷ js) k x) (get_or (r ∷ rs) k None)
      each zero x l = h
      each (suc k) x l = are.each k x (omega (arith, l))

  -- jobs that leave the same points, all of the one list and these of the other
  record AreBeside (js all : List Job) (points : List (List ℕ)) : Type 0 where
    jobs : List Job
    leaves : LeavesPoints i ms jobs points
    from : (j : Job) → Contains jobs j → Contains js j ⊎ Contains all j
    keeps : (j : Job) → Contains js j → Contains jobs j
    has : (j : Job) → Contains all j → Contains jobs j

  module _ (js : List Job) (points : List (List ℕ)) (h : LeavesPoints i ms js points) where
    beside : (all : List Job) → ((j : Job) → Contains all j → IsCoprime ms j ⊎ Contains js j) → AreBeside js all points
    beside [] cases = record { jobs = js; leaves = h; from = λ j c. inl c; keeps = λ j c. c; has = λ j c. absurd (Contains-nil j c) }
    beside (x ∷ all) cases =
        let r : AreBeside js all points = beside all (λ j c. cases j (Contains-there x all j c)) in
        ⊎_elim
        (λ c. record {
          jobs = x ∷ r.jobs;
          leaves = record {
            remainders = None ∷ (r.leaves).remainders;
            are = remainders_cons x r.jobs None (r.leaves).remainders (coprime c) (r.leaves).are;
            same = (r.leaves).same;
          };
          from = λ j d. ⊎_elim (λ e. inr (subst (Contains (x ∷ all)) e (Contains-here x all))) (λ e. ⊎_elim (λ y. inl y) (λ y. inr (Contains-there x all j y)) (r.from j e)) (Contains-cons_cases x r.jobs j d);
          keeps = λ j d. Contains-there x r.jobs j (r.keeps j d);
          has = λ j d. ⊎_elim (λ e. subst (Contains (x ∷ r.jobs)) e (Contains-here x r.jobs)) (λ e. Contains-there x r.jobs j (r.has j e)) (Contains-cons_cases x all j d);
        })
        (λ c. record {
          jobs = r.jobs;
          leaves = r.leaves;
          from = λ j d. ⊎_elim (λ y. inl y) (λ y. inr (Contains-there x all j y)) (r.from j d);
          keeps = r.keeps;
          has = λ j d. ⊎_elim (λ e. subst (Contains r.jobs) e (r.keeps x c)) (λ e. r.has j e) (Contains-cons_cases x all j d);
        })
        (cases x (Contains-here x all))

    all_remainders : (all : List Job) → ((j : Job) → Contains all j → IsCoprime ms j ⊎ Contains js j) → (rs : List (Option (List ℕ × List ℕ))) × AreRemainders i ms all rs
    all_remainders [] cases = ([], record { count = refl; each = λ k j l. absurd (let m : k < 0 = l in omega arith) })
    all_remainders (x ∷ all) cases =
        let r = all_remainders all (λ j c. cases j (Contains-there x all j c)) in
        ⊎_elim
        (λ c. (None ∷ r.0, remainders_cons x all None r.0 (coprime c) r.1))
        (λ c.
        let left : Option (List ℕ × List ℕ) = get_or h.remainders c.0 None in
        let is : IsRemainder i ms x left = subst (λ (y : Job). IsRemainder i ms y left) c.2 ((h.are).each c.0 x c.1) in
        (left ∷ r.0, remainders_cons x all left r.0 is r.1))
        (cases x (Contains-here x all))

-- ---- the next list

abbrev Anywhere : List ℕ → Type 0
Anywhere b = Unit {0}

module _ (i : Problem) (s : IsInstance i) (l : ℕ) (ms : List Binomial) (t : IsTestList i l ms) where
  test : IsTestListWithin i Anywhere l ms
  test = record {
    sound = λ m c. let u = move_is_sound i l ms t m c in (u.0, u.1, tt);
    complete = λ p h g w. move_of_head i l ms t p h g;
  }

  grade_moves : (jobs : List Job) → ((j : Job) → Contains jobs j → IsJob i ms j × (job_grade_of i ms j ≡ suc l)) → ((j : Job) → Contains (jobs_at i ms (suc l)) j → Contains jobs j) →
      (rs : List (Option (List ℕ × List ℕ))) → AreRemainders i ms jobs rs → (m : Binomial) →
      (IsTestMove i m × (grade_of i.columns m.head ≡ suc l) × Anywhere (degree_of i.columns m.head)) ↔ IsGroupMove i (points_of rs) m
  grade_moves jobs only has rs are =
      group_moves_within i s Anywhere (λ x y w. tt) l ms test jobs (λ j c. let u = only j c in (u.0, u.1, tt)) (λ j k e w. has j (((jobs_of_grade_listed i ms (suc l)).0 j).1 (k, e))) rs are

  of_grade_is : (j : Job) → Contains (jobs_at i ms (suc l)) j → IsJob i ms j × (job_grade_of i ms j ≡ suc l)
  of_grade_is j c = ((jobs_of_grade_listed i ms (suc l)).0 j).0 c

  -- the moves of the groups are those of any remainders of all jobs
  pub same_moves : (js : List Job) (points : List (List ℕ)) → LeavesPoints i ms js points → ((j : Job) → Contains js j → Contains (jobs_at i ms (suc l)) j) →
      ((j : Job) → Contains (jobs_at i ms (suc l)) j → IsCoprime ms j ⊎ Contains js j) →
      (rs : List (Option (List ℕ × List ℕ))) × AreRemainders i ms (jobs_at i ms (suc l)) rs × ((m : Binomial) → IsGroupMove i points m ↔ IsGroupMove i (points_of rs) m)
  same_moves js points h only cases =
      let all : List Job = jobs_at i ms (suc l) in
      let r = all_remainders i ms js points h all cases in
      let b : AreBeside i ms js all points = beside i ms js points h all cases in
      let of_all = grade_moves all of_grade_is (λ j c. c) r.0 r.1 in
      let of_kept = grade_moves b.jobs (λ j c. of_grade_is j (⊎_elim (λ y. only j y) (λ y. y) (b.from j c))) b.has (b.leaves).remainders (b.leaves).are in (
        r.0,
        r.1,
        λ m. (
          λ g. (of_all m).0 ((of_kept m).1 (subst (λ (ps : List (List ℕ)). IsGroupMove i ps m) (b.leaves).same g)),
          λ g. subst (λ (ps : List (List ℕ)). IsGroupMove i ps m) (sym (b.leaves).same) ((of_kept m).0 ((of_all m).1 g)),
        ),
      )

pub next_from_kept : (i : Problem) → IsInstance i → (k : ℕ) → IsVersion i (suc k) → (js : List Job) (points : List (List ℕ)) → LeavesPoints i (version_list i k) js points →
    ((j : Job) → Contains js j → Contains (opened_jobs i k) j) → ((j : Job) → Contains (opened_jobs i k) j → IsCoprime (version_list i k) j ⊎ Contains js j) →
    (new : List Binomial) → ((m : Binomial) → Contains new m ↔ IsGroupMove i points m) → AllPairs (λ m n. ComesBefore i m.head n.head) new →
    version_list i k ++ new ≡ version_list i (suc k)
next_from_kept i s k v js points h only cases new exact order =
    let l : ℕ = v.0 in
    let ms : List Binomial = version_list i k in
    let list : IsTestList i l ms = (test_lists i s l ms).0 (list_at_level i s k l (version_before i k v) v.1) in
    let opened : opened_jobs i k ≡ jobs_at i ms (suc l) = opened_is i k (suc l) (ap grade_after v.1 ∙ ap Some (let same : l + 1 ≡ suc l = omega arith in same)) in
    let r = same_moves i s l ms list js points h (λ j c. subst (λ (ks : List Job). Contains ks j) opened (only j c)) (λ j c. cases j (subst (λ (ks : List Job). Contains ks j) (sym opened) c)) in
    next_list_is i s k v r.0 (subst (λ (ks : List Job). AreRemainders i ms ks r.0) (sym opened) r.1) new
    (λ m. (λ c. (r.2 m).0 ((exact m).0 c), λ g. (exact m).1 ((r.2 m).1 g))) order
