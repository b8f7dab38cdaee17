-- From points to solutions of n numbers, and from a version to the k least.
use Rattle.std.proofs.Common.{ℕ, ℤ, refl, ◌≡◌, ⊎_elim, Bool, true, false, cond, nat_eq, List, [], take, map, Contains, All, sym, subst, ap, ◌∙◌, arith, eqb-true}
use Rattle.std.proofs.lemmas.List.{take_at, length-map}
use Rattle.std.proofs.lemmas.List.Elements.{All-map, Contains-append_left, Contains-get_or, All-contains}
use Rattle.ct_vectors.specs.Vectors.{zeros}
use Rattle.ct_order.specs.Order.{art_total_of}
use Rattle.ct_instance.specs.Instance.{Problem, IsInstance, IsRight, column_count}
use Rattle.ct_instance.specs.Fiber.{IsBelow, least_of}
use Rattle.ct_instance.specs.Answer.{IsSolution, optimum, infeasible, answer_of, costs_of}
use Rattle.ct_instance.specs.TestSet.{Binomial, test_list}
use Rattle.ct_instance.specs.Versions.{Covers, level_of, version_list, IsVersion}
use Rattle.ct_instance.proofs.Answer.{art_total_of_solution, solution_in_fiber, solution_of_point, answer_cases, short_has_no_solution}
use Rattle.ct_instance.proofs.Lists.{Contains-map, map_gives}
use Rattle.ct_instance.proofs.Ordered.{InOrder-pairs, InOrder-from_pairs, InOrder-map}
use Rattle.ct_levels.proofs.Lists.{list_begins}
use Rattle.ct_version.specs.declared.answers.AnswerKind.TheVariants.{Optimum as KindOptimum, Infeasible as KindInfeasible}
use Rattle.ct_version.specs.Answers.{kind_of}
use Rattle.ct_best.specs.Best.{point_of, IsSmaller, AreBest}
use Rattle.ct_best.specs.Search.{IsSolutionPoint, AreBestPoints}
use Rattle.ct_best.proofs.Points.{point_of_front}

solution_point : (i : Problem) (b z : List ℕ) → IsSolution i b z → IsSolutionPoint i b (point_of i z)
solution_point i b z s = record { member = (solution_in_fiber i b z).0 s; none = art_total_of_solution (column_count i) i.rows z s.numbers }

pub best_from_points : (i : Problem) (b : List ℕ) (k : ℕ) (ps : List (List ℕ)) → AreBestPoints i b k ps → AreBest i k b (map (take (column_count i)) ps)
best_from_points i b k ps a = record {
  solutions = All-map (IsSolution i b) (take (column_count i)) ps (λ n d l. let s : IsSolutionPoint i b _ = a.points n d l in solution_of_point i b _ s.member s.none);
  ordered = InOrder-pairs (IsSmaller i) (map (take (column_count i)) ps)
      (InOrder-map (IsBelow i) (IsSmaller i) (take (column_count i)) ps (λ p q c d r. smaller p q c d r) (InOrder-from_pairs (IsBelow i) ps a.ordered));
  most = omega (arith, a.most, length-map ps (take (column_count i)));
  left = λ z s n.
      let f = a.left (point_of i z) (solution_point i b z s) (λ c. n (subst (Contains (map (take (column_count i)) ps)) (take_at z (zeros i.rows) (column_count i) s.numbers) (Contains-map (take (column_count i)) ps (point_of i z) c))) in
      (omega (arith, f.0, length-map ps (take (column_count i))), λ m d l. under z f.1 _ (Contains-get_or (map (take (column_count i)) ps) m d l));
}
  where
    front : (p : List ℕ) → Contains ps p → p ≡ point_of i (take (column_count i) p)
    front p c = let s : IsSolutionPoint i b p = All-contains (IsSolutionPoint i b) ps p a.points c in point_of_front i b p s.member s.none

    smaller : (p q : List ℕ) → Contains ps p → Contains ps q → IsBelow i p q → IsSmaller i (take (column_count i) p) (take (column_count i) q)
    smaller p q c d r = subst (λ (w : List ℕ). IsBelow i w (point_of i (take (column_count i) q))) (front p c) (subst (IsBelow i p) (front q d) r)

    under : (z : List ℕ) → All (λ p. IsBelow i p (point_of i z)) ps → (x : List ℕ) → Contains (map (take (column_count i)) ps) x → IsSmaller i x z
    under z all x c =
        let t = map_gives (take (column_count i)) ps x c in
        subst (λ (w : List ℕ). IsSmaller i w z) t.2
        (subst (λ (w : List ℕ). IsBelow i w (point_of i z)) (front t.0 t.1) (All-contains (λ p. IsBelow i p (point_of i z)) ps t.0 all t.1))

-- no solutions
pub best_of_none : (i : Problem) → IsInstance i → (b : List ℕ) → IsRight i b → (k short : ℕ) → KindInfeasible short ≡ kind_of (answer_of i b) → AreBest i k b []
best_of_none i inst b right k short says = record {
  solutions = λ n d l. absurd (omega arith);
  ordered = λ n m d l h. absurd (omega arith);
  most = omega arith;
  left = λ z s n. absurd (none z s);
}
  where
    none : (z : List ℕ) → IsSolution i b z → ⊥
    none z s =
        ⊎_elim (λ c. let apart : KindInfeasible short ≡ kind_of (optimum c.0 c.1) = says ∙ ap kind_of c.2 in absurd (cc))
        (λ c. short_has_no_solution i b c.0 c.2 z s) (answer_cases i inst b right)

-- the least point is a solution's
pub least_is_solution : (i : Problem) (b : List ℕ) (costs : List ℤ) → KindOptimum costs ≡ kind_of (answer_of i b) → art_total_of (column_count i) (least_of i b) ≡ 0
least_is_solution i b costs says = by_test (nat_eq (art_total_of (column_count i) (least_of i b)) 0) refl says
  where
    p : List ℕ
    p = least_of i b

    by_test : (t : Bool) → nat_eq (art_total_of (column_count i) p) 0 ≡ t →
        KindOptimum costs ≡ kind_of (cond t (optimum (take (column_count i) p) (costs_of i (take (column_count i) p))) (infeasible (art_total_of (column_count i) p))) →
        art_total_of (column_count i) p ≡ 0
    by_test true e s = eqb-true (art_total_of (column_count i) p) 0 e
    by_test false e s = absurd (cc)

-- a version that covers the sum has the moves of its test list
pub version_has : (i : Problem) → IsInstance i → (k : ℕ) → IsVersion i k → (g : ℕ) → Covers (level_of i k) g → (ms : List Binomial) → ms ≡ version_list i k →
    (m : Binomial) → Contains (test_list i g) m → Contains ms m
version_has i inst k version g covers ms is m c =
    let more = list_begins i inst k g version covers in
    subst (λ (l : List Binomial). Contains l m) (sym (is ∙ more.1)) (Contains-append_left (test_list i g) more.0 m c)
