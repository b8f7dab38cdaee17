-- The box from grade to grade: it is the same up to the next grade of a job within the bound, and grows there by the group
-- moves of the remainders.
use Rattle.std.proofs.Common.{ℕ, ◌≤◌, ◌<◌, ◌≡◌, ◌↔◌, inl, ⊎_elim, Option, List, [], ◌++◌, map, get_or, Contains, AllPairs, subst, arith, suc}
use Rattle.std.proofs.lemmas.Bool.{cases_lt}
use Rattle.std.proofs.lemmas.List.Elements.{All-nil, Contains-append_left, Contains-append_right, Contains-append_cases, Contains-get_or}
use Rattle.ct_vectors.specs.Vectors.{total, add, Divides, divides}
use Rattle.ct_vectors.proofs.Divisors.{Divides-from_test, test_from_Divides, Divides-trans, Divides-add, total-divides}
use Rattle.ct_instance.specs.declared.jobs.Job.{Job}
use Rattle.ct_instance.specs.Instance.{Problem, IsInstance, IsRight, degree_of, grade_of}
use Rattle.ct_instance.specs.TestSet.{Binomial, IsTestHead, IsTestMove, test_move}
use Rattle.ct_instance.specs.Walk.{AreMoves}
use Rattle.ct_instance.specs.Jobs.{IsJob, job_degree_of, job_grade_of, first_end_of, second_end_of, IsCoprime, jobs_at}
use Rattle.ct_instance.proofs.Lists.{Contains-filter, filter_gives, Contains-map}
use Rattle.ct_instance.proofs.Degree.{degree_is_right}
use Rattle.ct_instance.proofs.Fiber.{least_is_least}
use Rattle.ct_instance.proofs.Ordered.{InOrder-append, InOrder-pairs, InOrder-from_pairs}
use Rattle.ct_instance.proofs.JobsList.{jobs_of_grade_listed}
use Rattle.ct_walk.specs.Laws.{IsWithin, HasOneNormalPoint, AreJoined}
use Rattle.ct_walk.proofs.WalkFacts.{parts_within}
use Rattle.ct_walk.proofs.Openings.{heads_within, empty_at_zero}
use Rattle.ct_walk.proofs.Pairs.{graded_critical_pairs}
use Rattle.ct_completion.specs.Remainders.{AreRemainders, points_of, IsGroupMove}
use Rattle.ct_completion.proofs.Groups.{IsTestListWithin}
use Rattle.ct_completion.proofs.Remainders.{group_moves_within}
use Rattle.ct_box.specs.Box.{box_jobs_at, IsBoxList}
use Rattle.ct_box.specs.Laws.{NoBoxJobBetween}
use Rattle.ct_box.proofs.BoxLists.{Before, box_move_is_sound, box_move_of_head, box_moves}

-- ---- critical pairs

pub box_lemma : (i : Problem) → IsInstance i → (top : List ℕ) (ms : List Binomial) → AreMoves i ms →
    ((j : Job) → IsJob i ms j → Divides (job_degree_of i ms j) top → (IsCoprime ms j → ⊥) → AreJoined ms (first_end_of i ms j) (second_end_of i ms j)) →
    (b : List ℕ) → IsRight i b → Divides b top → HasOneNormalPoint i ms b
box_lemma i s top ms moves joins b right d =
    graded_critical_pairs i s ms moves (total top) top (λ j k w n. joins j k w.bound n) b right (record { grade = total-divides b top d; bound = d })

-- ---- up to the next grade

pub box_starts : (i : Problem) → IsInstance i → (top : List ℕ) → IsBoxList i top 0 []
box_starts i s top = record {
  sound = All-nil (λ m. IsTestMove i m × IsWithin 0 top (degree_of i.columns m.head));
  complete = λ p h w. (empty_at_zero i s).complete p h w.grade;
  ordered = λ k j d l h. absurd (omega arith);
}

pub box_opens : (i : Problem) → IsInstance i → (top : List ℕ) (d g : ℕ) (ms : List Binomial) → d ≤ g → IsBoxList i top d ms → NoBoxJobBetween i top ms d g → IsBoxList i top g ms
box_opens i s top d g ms l t none = record {
  sound = λ k e b. sound (get_or ms k e) (Contains-get_or ms k e b);
  complete = heads_within i s ms (box_moves i top d ms t) (IsWithin d top) (IsWithin g top) (parts_within d top) (parts_within g top) t.complete between
      (λ m c. ((box_move_is_sound i top d ms t m c).0).head);
  ordered = t.ordered;
}
  where
    sound : (m : Binomial) → Contains ms m → IsTestMove i m × IsWithin g top (degree_of i.columns m.head)
    sound m c =
        let u = box_move_is_sound i top d ms t m c in
        (u.0, record { grade = (let low : grade_of i.columns m.head ≤ d = (u.1).grade in omega (arith, low)); bound = (u.1).bound })

    between : (j : Job) → IsJob i ms j → IsWithin g top (job_degree_of i ms j) → IsWithin d top (job_degree_of i ms j)
    between j k w = ⊎_elim (λ h. absurd (none j k w.bound h w.grade)) (λ h. record { grade = h; bound = w.bound }) (cases_lt d (total (job_degree_of i ms j)))

-- ---- at the next grade

abbrev In : List ℕ → List ℕ → Type 0
In top b = Divides b top

in_parts : (top a b : List ℕ) → In top (add a b) → In top b
in_parts top a b d = Divides-trans b (add a b) top (Divides-add a b) d

module _ (i : Problem) (s : IsInstance i) (top : List ℕ) (g : ℕ) (ms : List Binomial) (t : IsBoxList i top g ms)
    (rs : List (Option (List ℕ × List ℕ))) (are : AreRemainders i ms (box_jobs_at i top ms (suc g)) rs) where
  test : IsTestListWithin i (In top) g ms
  test = record {
    sound = λ m c. let u = box_move_is_sound i top g ms t m c in (u.0, (u.1).grade, (u.1).bound);
    complete = λ p h l w. box_move_of_head i top g ms t p h (record { grade = l; bound = w });
  }

  only : (j : Job) → Contains (box_jobs_at i top ms (suc g)) j → IsJob i ms j × (job_grade_of i ms j ≡ suc g) × In top (job_degree_of i ms j)
  unfolding box_jobs_at
  only j c =
      let f = filter_gives (λ j. divides (job_degree_of i ms j) top) (jobs_at i ms (suc g)) j c in
      let u = ((jobs_of_grade_listed i ms (suc g)).0 j).0 f.0 in
      (u.0, u.1, Divides-from_test (job_degree_of i ms j) top f.1)

  all : (j : Job) → IsJob i ms j → job_grade_of i ms j ≡ suc g → In top (job_degree_of i ms j) → Contains (box_jobs_at i top ms (suc g)) j
  unfolding box_jobs_at
  all j k e w =
      Contains-filter (λ j. divides (job_degree_of i ms j) top) (jobs_at i ms (suc g)) j (((jobs_of_grade_listed i ms (suc g)).0 j).1 (k, e))
      (test_from_Divides (job_degree_of i ms j) top w)

  group_moves : (m : Binomial) → (IsTestMove i m × (grade_of i.columns m.head ≡ suc g) × In top (degree_of i.columns m.head)) ↔ IsGroupMove i (points_of rs) m
  group_moves = group_moves_within i s (In top) (in_parts top) g ms test (box_jobs_at i top ms (suc g)) only all rs are

  pub box_grows : (new : List Binomial) → ((m : Binomial) → Contains new m ↔ IsGroupMove i (points_of rs) m) → AllPairs (Before i) new → IsBoxList i top (suc g) (ms ++ new)
  box_grows new exact order = record { sound = λ k d l. sound (get_or (ms ++ new) k d) (Contains-get_or (ms ++ new) k d l); complete = complete; ordered = ordered }
    where
      of_new : (m : Binomial) → Contains new m → IsTestMove i m × (grade_of i.columns m.head ≡ suc g) × In top (degree_of i.columns m.head)
      of_new m c = (group_moves m).1 ((exact m).0 c)

      the_new : (p : List ℕ) → IsTestHead i p → grade_of i.columns p ≡ suc g → In top (degree_of i.columns p) → Contains new (test_move i p)
      the_new p h e d =
          (exact (test_move i p)).1
          ((group_moves (test_move i p)).0 (record { head = h; tail = least_is_least i s (degree_of i.columns p) (degree_is_right i s p h.point) }, e, d))

      sound : (m : Binomial) → Contains (ms ++ new) m → IsTestMove i m × IsWithin (suc g) top (degree_of i.columns m.head)
      sound m c =
          ⊎_elim
          (λ old.
          let u = box_move_is_sound i top g ms t m old in
          let low : grade_of i.columns m.head ≤ g = (u.1).grade in
          (u.0, record { grade = omega (arith, low); bound = (u.1).bound }))
          (λ d. let u = of_new m d in (u.0, record { grade = omega (arith, u.1); bound = u.2 }))
          (Contains-append_cases ms new m c)

      complete : (p : List ℕ) → IsTestHead i p → IsWithin (suc g) top (degree_of i.columns p) → Contains (map (λ m. m.head) (ms ++ new)) p
      complete p h w =
          ⊎_elim
          (λ k.
          let r = box_move_of_head i top g ms t p h (record { grade = (let low : grade_of i.columns p < suc g = k in omega (arith, low)); bound = w.bound }) in
          subst (Contains (map (λ m. m.head) (ms ++ new))) r.2 (Contains-map (λ m. m.head) (ms ++ new) r.0 (Contains-append_left ms new r.0 r.1)))
          (λ k.
          let low : grade_of i.columns p ≤ suc g = w.grade in
          let grade : grade_of i.columns p ≡ suc g = omega (arith, k) in
          Contains-map (λ m. m.head) (ms ++ new) (test_move i p) (Contains-append_right ms new (test_move i p) (the_new p h grade w.bound)))
          (cases_lt (grade_of i.columns p) (suc g))

      ordered : AllPairs (Before i) (ms ++ new)
      ordered =
          InOrder-pairs (Before i) (ms ++ new)
          (InOrder-append (Before i) ms new (InOrder-from_pairs (Before i) ms t.ordered) (InOrder-from_pairs (Before i) new order)
          (λ m n c d. inl (let low : grade_of i.columns m.head ≤ g = (box_move_is_sound i top g ms t m c).1.grade in omega (arith, low, (of_new n d).1))))
