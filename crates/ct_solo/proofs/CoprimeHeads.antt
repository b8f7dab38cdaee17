-- Heads are coprime exactly where the grade of their least common multiple is the sum of their grades.
use Rattle.std.proofs.Common.{ℕ, ◌+◌, ◌-◌, ◌≤◌, ◌<◌, ◌≡◌, ◌↔◌, inl, inr, ⊎_elim, List, [], ◌∷◌, ◌++◌, length, map, get_or, refl, sym, ap, ◌∙◌, arith, suc}
use Rattle.std.proofs.lemmas.Bool.{cases_lt}
use Rattle.std.proofs.lemmas.List.{length-map, get_or-map, map-append}
use Rattle.ct_vectors.specs.declared.limits.TheConstants.{GRADE_LIMIT}
use Rattle.ct_vectors.specs.Vectors.{total, add, subtract, lcm, Disjoint}
use Rattle.ct_vectors.proofs.Sums.{cons_same}
use Rattle.ct_vectors.proofs.Divisors.{lcm-disjoint}
use Rattle.ct_instance.specs.declared.jobs.Job.TheVariants.{Pair}
use Rattle.ct_instance.specs.Instance.{Problem, grade_of}
use Rattle.ct_instance.specs.Made.{indices}
use Rattle.ct_instance.specs.TestSet.{Binomial}
use Rattle.ct_instance.specs.Jobs.{IsJob, IsCoprime, the_move, job_grade_of, numbers_after}
use Rattle.ct_instance.proofs.Degree.{AreColumns, columns, grade-add, total-le-grade}
use Rattle.ct_instance.proofs.Entries.{length-indices, get_or-indices}
use Rattle.ct_walk.specs.Moves.{MoveList, IsMoveList, IsSmallMove}
use Rattle.ct_jobs.proofs.GradesBySupport.{grade-lcm_is_sum}
use Rattle.ct_jobs.proofs.PairGrades.{small_move}
use Rattle.ct_jobs.proofs.Rows.{numbers_after-push}
use Rattle.ct_solo.specs.HeadGrades.{head_grade_of, grades_to}

-- ---- what two heads share

abbrev common : List ℕ → List ℕ → List ℕ
common [] q = []
common (x ∷ p) [] = []
common (x ∷ p) (y ∷ q) = (y - (y - x)) ∷ common p q

-- a head is what it has beyond another, and what they share
beyond_and_common : (p q : List ℕ) → length p ≡ length q → add (subtract q p) (common p q) ≡ q
beyond_and_common [] [] e = refl
beyond_and_common [] (y ∷ q) e = absurd (omega arith)
beyond_and_common (x ∷ p) [] e = absurd (omega arith)
beyond_and_common (x ∷ p) (y ∷ q) e = cons_same (omega arith) (beyond_and_common p q (omega arith))

none_shared : (p q : List ℕ) → total (common p q) ≡ 0 → Disjoint p q
none_shared [] q e = tt
none_shared (x ∷ p) [] e = tt
none_shared (x ∷ p) (y ∷ q) e =
    (⊎_elim (λ l. inr (omega arith)) (λ l. inl (omega arith)) (cases_lt 0 x), none_shared p q (omega arith))

coprime_by_grade : (m : ℕ) (cs : List (List ℕ)) → AreColumns m cs → (p q : List ℕ) → length p ≡ length q →
    (grade_of cs (lcm p q) ≡ grade_of cs p + grade_of cs q) ↔ Disjoint p q
coprime_by_grade m cs a p q e =
    let parts : grade_of cs q ≡ grade_of cs (subtract q p) + grade_of cs (common p q) =
    ap (grade_of cs) (sym (beyond_and_common p q e)) ∙ grade-add cs (subtract q p) (common p q) in (
      λ s. none_shared p q (omega (arith, s, parts, grade-lcm_is_sum cs p q e, total-le-grade m cs a (common p q))),
      λ d. ap (grade_of cs) (lcm-disjoint p q d) ∙ grade-add cs p q,
    )

module _ (l : MoveList) (h : IsMoveList l) where
  -- of a pair of the list
  pub coprime_pair : (a b : ℕ) → IsJob l.instance l.moves (Pair a b) →
      (job_grade_of l.instance l.moves (Pair a b) ≡ head_grade_of l.instance l.moves a + head_grade_of l.instance l.moves b) ↔ IsCoprime l.moves (Pair a b)
  coprime_pair a b j =
      let low : a < b = j.1 in
      let high : b ≤ length l.moves = j.2 in
      let x : IsSmallMove l.instance (the_move l.moves a) = small_move l h a j.0 (omega arith) in
      let y : IsSmallMove l.instance (the_move l.moves b) = small_move l h b (omega arith) j.2 in
      coprime_by_grade (l.instance).rows (l.instance).columns (columns l.instance h.instance) (the_move l.moves a).head (the_move l.moves b).head (x.move.head ∙ sym y.move.head)

  pub head_grade_limit : (k : ℕ) → 1 ≤ k → k ≤ length l.moves → head_grade_of l.instance l.moves k ≤ GRADE_LIMIT
  head_grade_limit k some within = (small_move l h k some within).grade

-- ---- the grades of heads

pub grades_push : (i : Problem) (ms : List Binomial) (n : ℕ) → grades_to i ms (n + 1) ≡ grades_to i ms n ++ head_grade_of i ms (n + 1) ∷ []
grades_push i ms n =
    let e : n + 1 ≡ suc n = omega arith in
    ap (grades_to i ms) e ∙ ap (map (head_grade_of i ms)) (numbers_after-push 0 n (omega arith)) ∙ map-append (head_grade_of i ms) (numbers_after 0 n) (suc n ∷ []) ∙
    ap (λ k. grades_to i ms n ++ head_grade_of i ms k ∷ []) (sym e)

pub length-grades : (i : Problem) (ms : List Binomial) (n : ℕ) → length (grades_to i ms n) ≡ n
length-grades i ms n =
    length-map (numbers_after 0 n) (head_grade_of i ms) ∙ length-map (indices (n - 0)) (λ k. 0 + suc k) ∙ omega (arith, length-indices (n - 0))

pub grade_at : (i : Problem) (ms : List Binomial) (n k : ℕ) → k < n → get_or (grades_to i ms n) k 0 ≡ head_grade_of i ms (k + 1)
grade_at i ms n k l =
    let wide : k < length (indices (n - 0)) = omega (arith, length-indices (n - 0)) in
    let all : k < length (numbers_after 0 n) = omega (arith, length-map (indices (n - 0)) (λ k. 0 + suc k)) in
    let e : 0 + suc k ≡ k + 1 = omega arith in
    get_or-map (head_grade_of i ms) (numbers_after 0 n) k 0 0 all ∙
    ap (head_grade_of i ms) (get_or-map (λ k. 0 + suc k) (indices (n - 0)) k 0 0 wide ∙ ap (λ n. 0 + suc n) (get_or-indices (n - 0) k 0 (omega arith)) ∙ e)

-- by the number of a move
pub grade_found : (l : MoveList) (gs : List ℕ) → gs ≡ grades_to l.instance l.moves (length l.moves) → (k : ℕ) → 1 ≤ k → k ≤ length l.moves →
    get_or gs (k - 1) 0 ≡ head_grade_of l.instance l.moves k
grade_found l gs e k some within =
    let same : (k - 1) + 1 ≡ k = omega arith in
    ap (λ hs. get_or hs (k - 1) 0) e ∙ grade_at l.instance l.moves (length l.moves) (k - 1) (omega arith) ∙ ap (head_grade_of l.instance l.moves) same
