-- Remainders give the new moves: the moves of a grade's groups, put behind the test list of the grades before, make the
-- test list of the grade.
use Rattle.std.proofs.Common.{ℕ, ◌+◌, ◌≤◌, ◌<◌, ◌≡◌, ◌⊎◌, ◌↔◌, inl, inr, ⊎_elim, Option, Some, None, List, [], ◌∷◌, ◌++◌, length, map, get_or, Contains, AllPairs, refl, sym, subst, ap, ◌∙◌, arith, zero, suc}
use Rattle.std.proofs.lemmas.Bool.{cases_lt}
use Rattle.std.proofs.lemmas.List.Elements.{Contains-append_left, Contains-append_right, Contains-append_cases, Contains-get_or}
use Rattle.ct_vectors.specs.Vectors.{total, add}
use Rattle.ct_instance.specs.declared.jobs.Job.{Job}
use Rattle.ct_instance.specs.declared.jobs.Job.TheVariants.{Generator}
use Rattle.ct_instance.specs.Instance.{Problem, IsInstance, degree_of, grade_of}
use Rattle.ct_instance.specs.Fiber.{IsInFiber}
use Rattle.ct_instance.specs.TestSet.{Binomial, IsTestHead, IsTestMove, IsTestList, ComesBefore, test_list}
use Rattle.ct_instance.specs.Walk.{AreMoves, IsWalkEnd}
use Rattle.ct_instance.specs.Jobs.{IsJob, job_degree_of, job_grade_of, first_end_of, second_end_of, IsCoprime, jobs_at}
use Rattle.ct_instance.specs.Versions.{upto, level_of, version_list, IsVersion, IsRemainder, coprime, meet, differ}
use Rattle.ct_instance.specs.Reach.{grade_after, opened_grade}
use Rattle.ct_instance.proofs.Lists.{Contains-here, Contains-there, Contains-cons_cases, Contains-nil, Contains-map}
use Rattle.ct_instance.proofs.Ordered.{InOrder-append, InOrder-pairs, InOrder-from_pairs}
use Rattle.ct_instance.proofs.JobsList.{jobs_of_grade_listed}
use Rattle.ct_instance.proofs.TestList.{test_lists, is_test_list, move_is_sound, move_of_head, same_move}
use Rattle.ct_instance.proofs.TestHeads.{test_move_is_move}
use Rattle.ct_walk.proofs.Steps.{leads_down}
use Rattle.ct_walk.proofs.Runs.{leads_run}
use Rattle.ct_walk.proofs.Ends.{ends_in_fiber}
use Rattle.ct_walk.proofs.WalkFacts.{walk_leads, walk_normal}
use Rattle.ct_levels.proofs.Levels.{list_next, version_before}
use Rattle.ct_levels.proofs.Full.{list_at_level}
use Rattle.ct_completion.specs.Machine.{opened_jobs}
use Rattle.ct_completion.specs.Remainders.{AreRemainders, points_of, IsGroupMove}
use Rattle.ct_completion.proofs.Replay.{opened_level}
use Rattle.ct_completion.proofs.Groups.{IsTestListWithin, IsMark, IsLeft, test_move_in_group, group_move_tests}

-- ---- the points of remainders

points_has : (rs : List (Option (List ℕ × List ℕ))) (k : ℕ) (z : List ℕ × List ℕ) → k < length rs → get_or rs k None ≡ Some z →
    Contains (points_of rs) z.0 × Contains (points_of rs) z.1
points_has [] k z l e = absurd (omega arith)
points_has (None ∷ rs) zero z l e = absurd (cc)
points_has (None ∷ rs) (suc k) z l e = points_has rs k z (omega arith) e
points_has (Some y ∷ rs) zero z l e =
    let same : y ≡ z = cc in
    subst (λ (x : List ℕ × List ℕ). Contains (y.0 ∷ y.1 ∷ points_of rs) x.0 × Contains (y.0 ∷ y.1 ∷ points_of rs) x.1) same
    (Contains-here y.0 (y.1 ∷ points_of rs), Contains-there y.0 (y.1 ∷ points_of rs) y.1 (Contains-here y.1 (points_of rs)))
points_has (Some y ∷ rs) (suc k) z l e =
    let c = points_has rs k z (omega arith) e in
    (Contains-there y.0 (y.1 ∷ points_of rs) z.0 (Contains-there y.1 (points_of rs) z.0 c.0), Contains-there y.0 (y.1 ∷ points_of rs) z.1 (Contains-there y.1 (points_of rs) z.1 c.1))

-- the remainder that a point is one of
record IsOneOf (rs : List (Option (List ℕ × List ℕ))) (p : List ℕ) : Type 0 where
  place : ℕ
  both : List ℕ × List ℕ
  within : place < length rs
  at : get_or rs place None ≡ Some both
  one : (both.0 ≡ p) ⊎ (both.1 ≡ p)

points_gives : (rs : List (Option (List ℕ × List ℕ))) (p : List ℕ) → Contains (points_of rs) p → IsOneOf rs p
points_gives [] p c = absurd (Contains-nil p c)
points_gives (None ∷ rs) p c = let r = points_gives rs p c in record { place = suc r.place; both = r.both; within = omega (arith, r.within); at = r.at; one = r.one }
points_gives (Some y ∷ rs) p c =
    ⊎_elim (λ e. record { place = 0; both = y; within = omega arith; at = refl; one = inl e })
    (λ d. ⊎_elim (λ e. record { place = 0; both = y; within = omega arith; at = refl; one = inr e })
    (λ d. let r = points_gives rs p d in record { place = suc r.place; both = r.both; within = omega (arith, r.within); at = r.at; one = r.one })
    (Contains-cons_cases y.1 (points_of rs) p d))
    (Contains-cons_cases y.0 (y.1 ∷ points_of rs) p c)

abbrev RemainderCases : Problem → List Binomial → Job → Option (List ℕ × List ℕ) → Type 0
RemainderCases i ms j None = IsCoprime ms j ⊎ ((p : List ℕ) × IsWalkEnd ms (first_end_of i ms j) p × IsWalkEnd ms (second_end_of i ms j) p)
RemainderCases i ms j (Some z) = IsWalkEnd ms (first_end_of i ms j) z.0 × IsWalkEnd ms (second_end_of i ms j) z.1

remainder_cases : (i : Problem) (ms : List Binomial) (j : Job) (r : Option (List ℕ × List ℕ)) → IsRemainder i ms j r → RemainderCases i ms j r
remainder_cases i ms j r (coprime c) = inl c
remainder_cases i ms j r (meet p n a b) = inr (p, a, b)
remainder_cases i ms j r (differ p q n a b e) = (a, b)

-- ---- within a bound

module _ (i : Problem) (s : IsInstance i) (Within : List ℕ → Type 0) (parts : (a b : List ℕ) → Within (add a b) → Within b)
    (g : ℕ) (ms : List Binomial) (test : IsTestListWithin i Within g ms) (jobs : List Job)
    (only : (j : Job) → Contains jobs j → IsJob i ms j × (job_grade_of i ms j ≡ suc g) × Within (job_degree_of i ms j))
    (all : (j : Job) → IsJob i ms j → job_grade_of i ms j ≡ suc g → Within (job_degree_of i ms j) → Contains jobs j)
    (rs : List (Option (List ℕ × List ℕ))) (are : AreRemainders i ms jobs rs) where
  moves : AreMoves i ms
  moves k d l = test_move_is_move i (get_or ms k d) (test.sound (get_or ms k d) (Contains-get_or ms k d l)).0

  end_is_mark : (p z : List ℕ) → IsWalkEnd ms p z → (b : List ℕ) → IsInFiber i b p → total b ≡ suc g → Within b → IsMark i Within ms (suc g) z
  end_is_mark p z w b f e h =
      let down = leads_down i ms moves p z f.point (walk_leads ms p z w.steps w.walk) in
      let same : degree_of i.columns z ≡ b = (down.member).degree ∙ f.degree in
      record { point = (down.member).point; normal = walk_normal ms p z w.steps w.walk; grade = ap total same ∙ e; within = subst Within (sym same) h }

  marks : (z : List ℕ) → Contains (points_of rs) z → IsMark i Within ms (suc g) z
  marks z c = of (points_gives rs z c)
    where
      of : IsOneOf rs z → IsMark i Within ms (suc g) z
      of u = ⊎_elim (λ e. subst (IsMark i Within ms (suc g)) e (end_is_mark (first_end_of i ms job) u.both.0 ends.0 b fibers.0 (k.1) (k.2)))
          (λ e. subst (IsMark i Within ms (suc g)) e (end_is_mark (second_end_of i ms job) u.both.1 ends.1 b fibers.1 (k.1) (k.2))) u.one
        where
          place_within : u.place < length jobs
          place_within = omega (arith, are.count, u.within)

          job : Job
          job = get_or jobs u.place (Generator 0)

          k : IsJob i ms job × (job_grade_of i ms job ≡ suc g) × Within (job_degree_of i ms job)
          k = only job (Contains-get_or jobs u.place (Generator 0) place_within)

          b : List ℕ
          b = job_degree_of i ms job

          fibers : IsInFiber i b (first_end_of i ms job) × IsInFiber i b (second_end_of i ms job)
          fibers = ends_in_fiber i s ms moves job k.0

          ends : IsWalkEnd ms (first_end_of i ms job) u.both.0 × IsWalkEnd ms (second_end_of i ms job) u.both.1
          ends = remainder_cases i ms job (Some u.both) (subst (IsRemainder i ms job) u.at (are.each u.place (Generator 0) place_within))

  left : (j : Job) → IsJob i ms j → job_grade_of i ms j ≡ suc g → Within (job_degree_of i ms j) → (IsCoprime ms j → ⊥) → IsLeft i ms (points_of rs) j
  left j k e w n =
      let c = all j k e w in
      let r : IsRemainder i ms j (get_or rs c.0 None) = subst (λ (x : Job). IsRemainder i ms x (get_or rs c.0 None)) c.2 (are.each c.0 j c.1) in
      go c.0 (omega (arith, c.1, are.count)) (get_or rs c.0 None) refl (remainder_cases i ms j (get_or rs c.0 None) r)
    where
      fibers : IsInFiber i (job_degree_of i ms j) (first_end_of i ms j) × IsInFiber i (job_degree_of i ms j) (second_end_of i ms j)
      fibers = ends_in_fiber i s ms moves j k

      go : (place : ℕ) → place < length rs → (r : Option (List ℕ × List ℕ)) → get_or rs place None ≡ r → RemainderCases i ms j r → IsLeft i ms (points_of rs) j
      go place l None f u =
          ⊎_elim (λ c. absurd (n c))
          (λ v. record {
            first = v.0;
            second = v.0;
            first_run = leads_run i ms moves (first_end_of i ms j) v.0 (fibers.0).point (walk_leads ms (first_end_of i ms j) v.0 (v.1).steps (v.1).walk);
            second_run = leads_run i ms moves (second_end_of i ms j) v.0 (fibers.1).point (walk_leads ms (second_end_of i ms j) v.0 (v.2).steps (v.2).walk);
            left = inl refl;
          })
          u
      go place l (Some z) f u = record {
        first = z.0;
        second = z.1;
        first_run = leads_run i ms moves (first_end_of i ms j) z.0 (fibers.0).point (walk_leads ms (first_end_of i ms j) z.0 (u.0).steps (u.0).walk);
        second_run = leads_run i ms moves (second_end_of i ms j) z.1 (fibers.1).point (walk_leads ms (second_end_of i ms j) z.1 (u.1).steps (u.1).walk);
        left = inr (points_has rs place z l f);
      }

  pub group_moves_within : (m : Binomial) → (IsTestMove i m × (grade_of i.columns m.head ≡ suc g) × Within (degree_of i.columns m.head)) ↔ IsGroupMove i (points_of rs) m
  group_moves_within m = (
    λ t. test_move_in_group i s Within parts g ms test (points_of rs) marks left m t.0 t.1 t.2,
    group_move_tests i s Within parts g ms test (points_of rs) marks left m,
  )

-- ---- without a bound

abbrev Anywhere : List ℕ → Type 0
Anywhere b = Unit {0}

module _ (i : Problem) (s : IsInstance i) (g : ℕ) (ms : List Binomial) (t : IsTestList i g ms)
    (rs : List (Option (List ℕ × List ℕ))) (are : AreRemainders i ms (jobs_at i ms (suc g)) rs) where
  group_moves : (m : Binomial) → (IsTestMove i m × (grade_of i.columns m.head ≡ suc g)) ↔ IsGroupMove i (points_of rs) m
  group_moves m =
      let b = group_moves_within i s Anywhere (λ x y w. tt) g ms test (jobs_at i ms (suc g)) only all rs are m in
      (λ u. b.0 (u.0, u.1, tt), λ u. let v = b.1 u in (v.0, v.1))
    where
      test : IsTestListWithin i Anywhere g ms
      test = record {
        sound = λ m c. let u = move_is_sound i g ms t m c in (u.0, u.1, tt);
        complete = λ p h l w. move_of_head i g ms t p h l;
      }

      only : (j : Job) → Contains (jobs_at i ms (suc g)) j → IsJob i ms j × (job_grade_of i ms j ≡ suc g) × Anywhere (job_degree_of i ms j)
      only j c = let u = ((jobs_of_grade_listed i ms (suc g)).0 j).0 c in (u.0, u.1, tt)

      all : (j : Job) → IsJob i ms j → job_grade_of i ms j ≡ suc g → Anywhere (job_degree_of i ms j) → Contains (jobs_at i ms (suc g)) j
      all j k e w = ((jobs_of_grade_listed i ms (suc g)).0 j).1 (k, e)

  -- the moves of the grade in its test list are the moves of the groups
  pub remainders_give_moves : (m : Binomial) → (Contains (test_list i (suc g)) m × (grade_of i.columns m.head ≡ suc g)) ↔ IsGroupMove i (points_of rs) m
  remainders_give_moves m = (
    λ u. (group_moves m).0 ((move_is_sound i (suc g) (test_list i (suc g)) whole m u.0).0, u.1),
    λ u. listed ((group_moves m).1 u),
  )
    where
      whole : IsTestList i (suc g) (test_list i (suc g))
      whole = is_test_list i s (suc g)

      listed : IsTestMove i m × (grade_of i.columns m.head ≡ suc g) → Contains (test_list i (suc g)) m × (grade_of i.columns m.head ≡ suc g)
      listed v =
          let r = move_of_head i (suc g) (test_list i (suc g)) whole m.head (v.0).head (omega (arith, v.1)) in
          (subst (Contains (test_list i (suc g))) (same_move i r.0 m (move_is_sound i (suc g) (test_list i (suc g)) whole r.0 r.1).0 v.0 r.2) r.1, v.1)

  abbrev Before : Binomial → Binomial → Type 0
  Before m n = ComesBefore i m.head n.head

  -- put in order behind the list, they make the test list of the grade
  pub new_moves_follow : (new : List Binomial) → ((m : Binomial) → Contains new m ↔ IsGroupMove i (points_of rs) m) → AllPairs Before new → ms ++ new ≡ test_list i (suc g)
  new_moves_follow new exact order = (test_lists i s (suc g) (ms ++ new)).1 (record { sound = sound; complete = complete; ordered = ordered })
    where
      of_new : (m : Binomial) → Contains new m → IsTestMove i m × (grade_of i.columns m.head ≡ suc g)
      of_new m c = (group_moves m).1 ((exact m).0 c)

      is_sound : (m : Binomial) → Contains (ms ++ new) m → IsTestMove i m × (grade_of i.columns m.head ≤ suc g)
      is_sound m c =
          ⊎_elim (λ old. let u = move_is_sound i g ms t m old in (u.0, omega (arith, u.1))) (λ d. let u = of_new m d in (u.0, omega (arith, u.1))) (Contains-append_cases ms new m c)

      sound : (k : ℕ) (d : Binomial) → k < length (ms ++ new) → IsTestMove i (get_or (ms ++ new) k d) × (grade_of i.columns (get_or (ms ++ new) k d).head ≤ suc g)
      sound k d l = is_sound (get_or (ms ++ new) k d) (Contains-get_or (ms ++ new) k d l)

      complete : (p : List ℕ) → IsTestHead i p → grade_of i.columns p ≤ suc g → Contains (map (λ m. m.head) (ms ++ new)) p
      complete p h l =
          ⊎_elim
          (λ k.
          let r = move_of_head i g ms t p h (omega arith) in
          subst (Contains (map (λ m. m.head) (ms ++ new))) r.2 (Contains-map (λ m. m.head) (ms ++ new) r.0 (Contains-append_left ms new r.0 r.1)))
          (λ k.
          let r = move_of_head i (suc g) (test_list i (suc g)) (is_test_list i s (suc g)) p h l in
          let grade : grade_of i.columns (r.0).head ≡ suc g = ap (grade_of i.columns) r.2 ∙ (let e : grade_of i.columns p ≡ suc g = omega arith in e) in
          let c : Contains new r.0 = (exact r.0).1 ((remainders_give_moves r.0).0 (r.1, grade)) in
          subst (Contains (map (λ m. m.head) (ms ++ new))) r.2 (Contains-map (λ m. m.head) (ms ++ new) r.0 (Contains-append_right ms new r.0 c)))
          (cases_lt (grade_of i.columns p) (suc g))

      ordered : AllPairs Before (ms ++ new)
      ordered =
          InOrder-pairs Before (ms ++ new)
          (InOrder-append Before ms new (InOrder-from_pairs Before ms t.ordered) (InOrder-from_pairs Before new order)
          (λ m n c d. inl (omega (arith, (move_is_sound i g ms t m c).1, (of_new n d).1))))

-- ---- over versions

pub opened_is : (i : Problem) (k d : ℕ) → opened_grade i k ≡ Some d → opened_jobs i k ≡ jobs_at i (version_list i k) d
unfolding opened_jobs
opened_is i k d e = rw e refl

jobs_are_opened : (i : Problem) (k l : ℕ) → level_of i k ≡ upto l → opened_jobs i k ≡ jobs_at i (version_list i k) (suc l)
jobs_are_opened i k l e = opened_is i k (suc l) (ap grade_after e ∙ ap Some (let same : l + 1 ≡ suc l = omega arith in same))

is_list_at_level : (i : Problem) → IsInstance i → (k l : ℕ) → IsVersion i k → level_of i k ≡ upto l → IsTestList i l (version_list i k)
is_list_at_level i s k l v e = (test_lists i s l (version_list i k)).0 (list_at_level i s k l v e)

pub version_remainders : (i : Problem) → IsInstance i → (k d : ℕ) → IsVersion i k → opened_grade i k ≡ Some d →
    (rs : List (Option (List ℕ × List ℕ))) → AreRemainders i (version_list i k) (opened_jobs i k) rs →
    (m : Binomial) → (Contains (test_list i d) m × (grade_of i.columns m.head ≡ d)) ↔ IsGroupMove i (points_of rs) m
version_remainders i s k d v e rs are m =
    let o = opened_level (level_of i k) d e in
    let same : suc o.0 ≡ d = omega (arith, o.2) in
    subst (λ (g : ℕ). (Contains (test_list i g) m × (grade_of i.columns m.head ≡ g)) ↔ IsGroupMove i (points_of rs) m) same
    (remainders_give_moves i s o.0 (version_list i k) (is_list_at_level i s k o.0 v o.1) rs
    (subst (λ (jobs : List Job). AreRemainders i (version_list i k) jobs rs) (jobs_are_opened i k o.0 o.1) are) m)

pub next_list_is : (i : Problem) → IsInstance i → (k : ℕ) → IsVersion i (suc k) →
    (rs : List (Option (List ℕ × List ℕ))) → AreRemainders i (version_list i k) (opened_jobs i k) rs →
    (new : List Binomial) → ((m : Binomial) → Contains new m ↔ IsGroupMove i (points_of rs) m) → AllPairs (λ m n. ComesBefore i m.head n.head) new →
    version_list i k ++ new ≡ version_list i (suc k)
next_list_is i s k v rs are new exact order =
    let l : ℕ = v.0 in
    new_moves_follow i s l (version_list i k) (is_list_at_level i s k l (version_before i k v) v.1) rs
    (subst (λ (jobs : List Job). AreRemainders i (version_list i k) jobs rs) (jobs_are_opened i k l v.1) are) new exact order ∙
    ap (test_list i) (let same : suc l ≡ l + 1 = omega arith in same) ∙ sym (list_next i k l v.1)
