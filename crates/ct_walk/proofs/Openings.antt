-- A test list stays the test list up to the grade of its next job; and the same for other bounds on degrees.
use Rattle.std.proofs.Common.{ℕ, ◌≤◌, ◌<◌, ◌≡◌, ⊎_elim, Option, Some, None, List, [], map, Contains, refl, sym, subst, arith}
use Rattle.std.proofs.lemmas.Bool.{cases_lt}
use Rattle.std.proofs.lemmas.List.Elements.{All-weaker, All-nil}
use Rattle.ct_vectors.specs.Vectors.{total, add}
use Rattle.ct_instance.specs.declared.jobs.Job.{Job}
use Rattle.ct_instance.specs.Instance.{Problem, IsInstance, IsRight, degree_of, grade_of}
use Rattle.ct_instance.specs.Fiber.{IsLeast}
use Rattle.ct_instance.specs.TestSet.{Binomial, IsTestHead, IsTestMove, IsTestList}
use Rattle.ct_instance.specs.Walk.{first_dividing, AreMoves}
use Rattle.ct_instance.specs.Jobs.{IsJob, job_degree_of, job_grade_of, first_end_of, second_end_of, IsCoprime}
use Rattle.ct_instance.proofs.Lists.{Contains-map}
use Rattle.ct_instance.proofs.Degree.{columns, degree_is_right, total-le-grade}
use Rattle.ct_instance.proofs.Fiber.{in_own_fiber, below_positive, least_not_improvable}
use Rattle.ct_instance.proofs.TestHeads.{minimal_is}
use Rattle.ct_instance.proofs.TestList.{move_is_sound}
use Rattle.ct_walk.specs.Laws.{HasOneNormalPoint, AreJoined}
use Rattle.ct_walk.proofs.Steps.{move_at_listed, dividing_gives}
use Rattle.ct_walk.proofs.WalkFacts.{test_list_moves, joins_within, UpTo, parts_up_to}
use Rattle.ct_walk.proofs.Runs.{Meet, leads_run}
use Rattle.ct_walk.proofs.Ends.{ends_in_fiber}
use Rattle.ct_walk.proofs.Pairs.{one_normal_point}

-- no job of the list has a grade above d and up to g
abbrev pub NoJobBetween : Problem → List Binomial → ℕ → ℕ → Type 0
NoJobBetween i ms d g = (j : Job) → IsJob i ms j → d < job_grade_of i ms j → job_grade_of i ms j ≤ g → ⊥

-- ---- where a fiber has its one normal point

-- a test head of the fiber is a head of the list, where the list has only test heads
pub head_is_listed : (i : Problem) (ms : List Binomial) → ((m : Binomial) → Contains ms m → IsTestHead i m.head) → (p : List ℕ) → IsTestHead i p →
    HasOneNormalPoint i ms (degree_of i.columns p) → Contains (map (λ m. m.head) ms) p
head_is_listed i ms only p h one = found (first_dividing ms p) refl
  where
    found : (o : Option ℕ) → first_dividing ms p ≡ o → Contains (map (λ m. m.head) ms) p
    found None e =
        absurd (least_not_improvable i (degree_of i.columns p) p
        (subst (IsLeast i (degree_of i.columns p)) (sym (one.only p (in_own_fiber i p h.point) e)) one.least) h.improvable)
    found (Some n) e =
        let f = dividing_gives ms p n e in
        let c : Contains ms f.0 = move_at_listed ms n f.0 f.1 in
        let head : IsTestHead i f.0.head = only f.0 c in
        subst (Contains (map (λ m. m.head) ms)) (minimal_is i p f.0.head h head.point head.improvable f.2) (Contains-map (λ m. m.head) ms f.0 c)

-- ---- from one bound on degrees to another

-- Both bounds pass to parts. Where each test head within the first is a head of the list, the list has only test heads,
-- and each of its jobs within the second is within the first, it has each test head within the second.
module _ (i : Problem) (s : IsInstance i) (ms : List Binomial) (moves : AreMoves i ms) (Small Large : List ℕ → Type 0)
    (small_parts : (a b : List ℕ) → Small (add a b) → Small b) (large_parts : (a b : List ℕ) → Large (add a b) → Large b)
    (heads : (p : List ℕ) → IsTestHead i p → Small (degree_of i.columns p) → Contains (map (λ m. m.head) ms) p)
    (none_between : (j : Job) → IsJob i ms j → Large (job_degree_of i ms j) → Small (job_degree_of i ms j)) where
  -- each fiber within the second has its one normal point
  pub normal_within : (b : List ℕ) → IsRight i b → Large b → HasOneNormalPoint i ms b
  normal_within = one_normal_point i s ms moves Large large_parts meets
    where
      meets : (j : Job) → IsJob i ms j → Large (job_degree_of i ms j) → (IsCoprime ms j → ⊥) → Meet i ms (first_end_of i ms j) (second_end_of i ms j)
      meets j k l n =
          let fibers = ends_in_fiber i s ms moves j k in
          let joined : AreJoined ms (first_end_of i ms j) (second_end_of i ms j) =
          joins_within i s ms moves Small small_parts heads (job_degree_of i ms j) (first_end_of i ms j) (second_end_of i ms j) fibers.0 fibers.1 (none_between j k l) in
          record {
            point = joined.point;
            first = leads_run i ms moves (first_end_of i ms j) joined.point (fibers.0).point joined.first;
            second = leads_run i ms moves (second_end_of i ms j) joined.point (fibers.1).point joined.second;
          }

  pub heads_within : ((m : Binomial) → Contains ms m → IsTestHead i m.head) → (p : List ℕ) → IsTestHead i p → Large (degree_of i.columns p) →
      Contains (map (λ m. m.head) ms) p
  heads_within only p h l = head_is_listed i ms only p h (normal_within (degree_of i.columns p) (degree_is_right i s p h.point) l)

-- ---- from one grade to another

-- the test list of d is that of g, where no job of it has a grade in between
pub opening : (i : Problem) → IsInstance i → (d g : ℕ) (ms : List Binomial) → d ≤ g → IsTestList i d ms → NoJobBetween i ms d g → IsTestList i g ms
opening i s d g ms l t none = record {
  sound = All-weaker (λ m. IsTestMove i m × (grade_of i.columns m.head ≤ d)) (λ m. IsTestMove i m × (grade_of i.columns m.head ≤ g)) (λ m u. (u.0, omega (arith, u.1))) ms t.sound;
  complete = heads_within i s ms (test_list_moves i d ms t) (UpTo d) (UpTo g) (parts_up_to d) (parts_up_to g) t.complete between
      (λ m c. ((move_is_sound i d ms t m c).0).head);
  ordered = t.ordered;
}
  where
    between : (j : Job) → IsJob i ms j → total (job_degree_of i ms j) ≤ g → total (job_degree_of i ms j) ≤ d
    between j k u = ⊎_elim (λ h. absurd (none j k h u)) (λ h. h) (cases_lt d (total (job_degree_of i ms j)))

-- no test head has the grade 0
pub empty_at_zero : (i : Problem) → IsInstance i → IsTestList i 0 []
empty_at_zero i s = record {
  sound = All-nil (λ m. IsTestMove i m × (grade_of i.columns m.head ≤ 0));
  complete = λ p h l.
      let m = h.improvable in
      let some : 1 ≤ total p = below_positive i s p m.lower h.point (m.member).point (m.member).degree m.below in
      absurd (omega (arith, total-le-grade i.rows i.columns (columns i s) p));
  ordered = λ k j d l h. absurd (omega arith);
}
