-- The grade of a pair by the support of the later head, and where supports lie.
use Rattle.std.proofs.Common.{ℕ, ◌+◌, ◌-◌, ◌*◌, ◌≤◌, ◌<◌, ◌≡◌, cond, nat_lt, ⊎_elim, List, [], ◌∷◌, ◌++◌, map, filter, All, take, drop, length, length-drop, length-append, get_or, sum_by, refl, sym, subst, ap, ap₂, ◌∙◌, arith, zero, suc}
use Rattle.std.specs.List.{AllByRecursion}
use Rattle.std.proofs.Math.Seq.{drop-append_seam}
use Rattle.std.proofs.lemmas.Bool.{cases_lt, lt-ltb, le-ltb}
use Rattle.std.proofs.lemmas.List.{length-map, map-append, get_or-map, take_all, take-append-le, drop-append-le}
use Rattle.std.proofs.lemmas.List.Elements.{All-map, All-filter, filter-append, recursion_from_All}
use Rattle.std.proofs.lemmas.List.Sums.{sum_by-append}
use Rattle.ct_vectors.specs.declared.limits.TheConstants.{JOB_GRADE_LIMIT}
use Rattle.ct_vectors.specs.Vectors.{total, add, subtract, lcm}
use Rattle.ct_vectors.proofs.Sums.{cons_same, length-subtract}
use Rattle.ct_point.proofs.Places.{get_or-subtract}
use Rattle.ct_instance.specs.declared.jobs.Job.TheVariants.{Pair}
use Rattle.ct_instance.specs.Instance.{Problem, grade_of, weighted}
use Rattle.ct_instance.specs.Made.{indices}
use Rattle.ct_instance.specs.TestSet.{Binomial}
use Rattle.ct_instance.specs.Jobs.{the_move, job_grade_of, numbers_after}
use Rattle.ct_instance.proofs.Entries.{length-indices, get_or-indices}
use Rattle.ct_instance.proofs.Degree.{grade-add}
use Rattle.ct_instance.proofs.Grades.{grade_is_weighted}
use Rattle.ct_walk.specs.Moves.{MoveList, IsMoveList, IsSmallMove}
use Rattle.ct_jobs.specs.declared.supports.Part.{Part}
use Rattle.ct_jobs.specs.declared.supports.Span.{Span}
use Rattle.ct_jobs.proofs.PairGrades.{small_move, pair_grade_limit}
use Rattle.ct_jobs.proofs.Rows.{numbers_after-push}
use Rattle.ct_jobs.specs.Supports.{part_at, support_below, support, support_of, supports_between, excess_over, in_span, IsSpan}

-- ---- what a head adds beyond another

-- the least common multiple is the first and what the second has beyond it
lcm_is_sum : (p q : List ℕ) → length p ≡ length q → lcm p q ≡ add p (subtract q p)
lcm_is_sum [] [] e = refl
lcm_is_sum [] (y ∷ q) e = absurd (omega arith)
lcm_is_sum (x ∷ p) [] e = absurd (omega arith)
lcm_is_sum (x ∷ p) (y ∷ q) e = cons_same (omega arith) (lcm_is_sum p q (omega arith))

pub grade-lcm_is_sum : (cs : List (List ℕ)) (p q : List ℕ) → length p ≡ length q → grade_of cs (lcm p q) ≡ grade_of cs p + grade_of cs (subtract q p)
grade-lcm_is_sum cs p q e = ap (grade_of cs) (lcm_is_sum p q e) ∙ grade-add cs p (subtract q p)

sum_by-push : {X : Type 0} (f : X → ℕ) (xs : List X) (x : X) → sum_by f (xs ++ x ∷ []) ≡ sum_by f xs + f x
sum_by-push f xs x = omega (arith, sum_by-append f xs (x ∷ []))

-- a sum over indices, from the first on
sum_by-indices : (f : ℕ → ℕ) (n : ℕ) → sum_by f (indices (suc n)) ≡ f 0 + sum_by (λ c. f (suc c)) (indices n)
sum_by-indices f zero = omega arith
sum_by-indices f (suc n) =
    omega (arith, sum_by-indices f n, sum_by-push f (indices (suc n)) (suc n), sum_by-push (λ c. f (suc c)) (indices n) n)

-- the weighted sum place by place, with the weight 1 past the columns
weighted_by_places : (ss p : List ℕ) → sum_by (λ c. get_or ss c 1 * get_or p c 0) (indices (length p)) ≡ weighted ss p
weighted_by_places [] [] = refl
weighted_by_places (s ∷ ss) [] = refl
weighted_by_places [] (x ∷ p) =
    omega (arith, sum_by-indices (λ c. get_or [] c 1 * get_or (x ∷ p) c 0) (length p), weighted_by_places [] p)
weighted_by_places (s ∷ ss) (x ∷ p) =
    omega (arith, sum_by-indices (λ c. get_or (s ∷ ss) c 1 * get_or (x ∷ p) c 0) (length p), weighted_by_places ss p)

-- what isn't kept has nothing beyond a point
sum_kept : (q : List ℕ) (t : Part) → sum_by (excess_over q) (filter (λ (u : Part). nat_lt 0 u.value) (t ∷ [])) ≡ excess_over q t
sum_kept q t = ⊎_elim kept none (cases_lt 0 t.value)
  where
    kept : 0 < t.value → sum_by (excess_over q) (filter (λ (u : Part). nat_lt 0 u.value) (t ∷ [])) ≡ excess_over q t
    kept h = ap (λ b. sum_by (excess_over q) (cond b (t ∷ []) [])) (lt-ltb 0 t.value h) ∙ omega arith

    none : t.value ≤ 0 → sum_by (excess_over q) (filter (λ (u : Part). nat_lt 0 u.value) (t ∷ [])) ≡ excess_over q t
    none h =
        let e : t.value - get_or q t.place 0 ≡ 0 = omega arith in
        ap (λ b. sum_by (excess_over q) (cond b (t ∷ []) [])) (le-ltb 0 t.value h) ∙ omega (arith, ap (λ v. t.weight * v) e)

sum_over_support : (ss p q : List ℕ) (n : ℕ) → sum_by (excess_over q) (support_below ss p n) ≡ sum_by (λ c. excess_over q (part_at ss p c)) (indices n)
sum_over_support ss p q zero = refl
sum_over_support ss p q (suc n) =
    let f = excess_over q in
    let t = part_at ss p n in
    let kept = λ (u : Part). nat_lt 0 u.value in
    let split : support_below ss p (suc n) ≡ support_below ss p n ++ filter kept (t ∷ []) =
    ap (filter kept) (map-append (part_at ss p) (indices n) (n ∷ [])) ∙ filter-append kept (map (part_at ss p) (indices n)) (t ∷ []) in
    ap (sum_by f) split ∙ sum_by-append f (support_below ss p n) (filter kept (t ∷ [])) ∙
    ap₂ ◌+◌ (sum_over_support ss p q n) (sum_kept q t) ∙ sym (sum_by-push (λ c. f (part_at ss p c)) (indices n) n)

-- what the parts of a head have beyond a point is the grade of what the head has beyond it
pub grade_by_support : (cs : List (List ℕ)) (p q : List ℕ) → sum_by (excess_over q) (support (map total cs) p) ≡ grade_of cs (subtract p q)
grade_by_support cs p q =
    let ss = map total cs in
    sum_over_support ss p q (length p) ∙ same_sum (length p) ∙
    ap (λ n. sum_by (λ c. get_or ss c 1 * get_or (subtract p q) c 0) (indices n)) (sym (length-subtract p q)) ∙
    weighted_by_places ss (subtract p q) ∙ sym (grade_is_weighted cs (subtract p q))
  where
    same_sum : (n : ℕ) → sum_by (λ c. excess_over q (part_at (map total cs) p c)) (indices n) ≡ sum_by (λ c. get_or (map total cs) c 1 * get_or (subtract p q) c 0) (indices n)
    same_sum zero = refl
    same_sum (suc n) =
        sum_by-push (λ c. excess_over q (part_at (map total cs) p c)) (indices n) n ∙
        ap₂ ◌+◌ (same_sum n) (ap (λ x. get_or (map total cs) n 1 * x) (sym (get_or-subtract p q n))) ∙
        sym (sum_by-push (λ c. get_or (map total cs) c 1 * get_or (subtract p q) c 0) (indices n) n)

-- the grade of a pair of moves with heads of one width
pub pair_grade_by_support : (i : Problem) (ms : List Binomial) (a b : ℕ) → length (the_move ms a).head ≡ length (the_move ms b).head →
    grade_of i.columns (the_move ms a).head + sum_by (excess_over (the_move ms a).head) (support_of i ms b) ≡ job_grade_of i ms (Pair a b)
pair_grade_by_support i ms a b e =
    let p = (the_move ms a).head in
    let q = (the_move ms b).head in
    ap (λ x. grade_of i.columns p + x) (grade_by_support i.columns q p) ∙ sym (grade-lcm_is_sum i.columns p q e)

-- ---- places and numbers

-- a support lies within its head
pub support_within : (ss p : List ℕ) → All (λ (t : Part). t.place < length p) (support ss p)
support_within ss p =
    All-filter (λ (t : Part). nat_lt 0 t.value) (λ (t : Part). t.place < length p) (map (part_at ss p) (indices (length p)))
    (All-map (λ (t : Part). t.place < length p) (part_at ss p) (indices (length p)) (λ k d l. omega (arith, length-indices (length p), get_or-indices (length p) k d)))

pub length-supports : (i : Problem) (ms : List Binomial) (a b : ℕ) → length (supports_between i ms a b) ≡ b - a
length-supports i ms a b =
    length-map (numbers_after a b) (support_of i ms) ∙ length-map (indices (b - a)) (λ k. a + suc k) ∙ length-indices (b - a)

-- the support of the move with the number k + 1
pub support_at : (i : Problem) (ms : List Binomial) (a b k : ℕ) → a ≤ k → k < b → get_or (supports_between i ms a b) (k - a) [] ≡ support_of i ms (k + 1)
support_at i ms a b k low high =
    let place : k - a < b - a = omega arith in
    let wide : k - a < length (indices (b - a)) = omega (arith, length-indices (b - a)) in
    let all : k - a < length (numbers_after a b) = omega (arith, length-map (indices (b - a)) (λ k. a + suc k)) in
    let e : a + suc (k - a) ≡ k + 1 = omega arith in
    get_or-map (support_of i ms) (numbers_after a b) (k - a) 0 [] all ∙
    ap (support_of i ms) (get_or-map (λ k. a + suc k) (indices (b - a)) (k - a) 0 0 wide ∙ ap (λ n. a + suc n) (get_or-indices (b - a) (k - a) 0 place) ∙ e)

pub supports_push : (i : Problem) (ms : List Binomial) (a b : ℕ) → a ≤ b → supports_between i ms a (b + 1) ≡ supports_between i ms a b ++ support_of i ms (b + 1) ∷ []
supports_push i ms a b h =
    let e : b + 1 ≡ suc b = omega arith in
    ap (supports_between i ms a) e ∙ ap (map (support_of i ms)) (numbers_after-push a b h) ∙ map-append (support_of i ms) (numbers_after a b) (suc b ∷ []) ∙
    ap (λ k. supports_between i ms a b ++ support_of i ms k ∷ []) (sym e)

-- ---- spans

-- more parts at the end leave what lies in a span
in_span_stays : (ts more : List Part) (s : Span) → IsSpan (length ts) s → in_span (ts ++ more) s ≡ in_span ts s
in_span_stays ts more s h =
    let first : s.start ≤ length ts = omega (arith, h.ordered, h.within) in
    let rest : s.end - s.start ≤ length (drop s.start ts) = omega (arith, h.within, length-drop s.start ts) in
    ap (take (s.end - s.start)) (drop-append-le s.start ts more first) ∙ take-append-le (s.end - s.start) (drop s.start ts) more rest

in_spans_stay : (ts more : List Part) (ss : List Span) → All (IsSpan (length ts)) ss → map (in_span (ts ++ more)) ss ≡ map (in_span ts) ss
in_spans_stay ts more ss h = go ss (recursion_from_All (IsSpan (length ts)) ss h)
  where
    go : (ss : List Span) → AllByRecursion (IsSpan (length ts)) ss → map (in_span (ts ++ more)) ss ≡ map (in_span ts) ss
    go [] a = refl
    go (s ∷ ss) a = ap₂ ◌∷◌ (in_span_stays ts more s a.0) (go ss a.1)

in_last_span : (ts more : List Part) (n : ℕ) → n ≡ length (ts ++ more) → in_span (ts ++ more) (record { start = length ts; end = n }) ≡ more
in_last_span ts more n e = ap (take (n - length ts)) (drop-append_seam ts more) ∙ take_all (n - length ts) more (omega (arith, length-append ts more))

-- one support more
pub spans_push : (ts more all : List Part) (ss : List Span) (s : Span) → All (IsSpan (length ts)) ss → all ≡ ts ++ more → s.start ≡ length ts → s.end ≡ length all →
    map (in_span all) (ss ++ s ∷ []) ≡ map (in_span ts) ss ++ more ∷ []
spans_push ts more all ss s h e a b =
    ap (λ l. map (in_span l) (ss ++ s ∷ [])) e ∙ map-append (in_span (ts ++ more)) ss (s ∷ []) ∙
    ap₂ (λ l m. l ++ m ∷ []) (in_spans_stay ts more ss h)
    (ap₂ (λ x y. in_span (ts ++ more) (record { start = x; end = y })) a b ∙ in_last_span ts more (length all) (ap length e))

-- ---- a new pair

-- the grade of the head p of the move a, and what these parts have beyond it, make the grade of the pair of a and b
pub record MakesGrade (i : Problem) (ms : List Binomial) (a b own : ℕ) (p : List ℕ) (ts : List Part) : Type 0 where
  pub places : All (λ (t : Part). t.place < length p) ts
  pub sum : own + sum_by (excess_over p) ts ≡ job_grade_of i ms (Pair a b)
  pub limit : job_grade_of i ms (Pair a b) ≤ JOB_GRADE_LIMIT

support_makes_grade : (l : MoveList) → IsMoveList l → (a b : ℕ) → 1 ≤ a → a ≤ length l.moves → 1 ≤ b → b ≤ length l.moves →
    MakesGrade l.instance l.moves a b (grade_of l.instance.columns (the_move l.moves a).head) (the_move l.moves a).head (support_of l.instance l.moves b)
support_makes_grade l h a b some-a within-a some-b within-b =
    let i = l.instance in
    let x : IsSmallMove i (the_move l.moves a) = small_move l h a some-a within-a in
    let y : IsSmallMove i (the_move l.moves b) = small_move l h b some-b within-b in
    let wide : length (the_move l.moves a).head ≡ length (the_move l.moves b).head = x.move.head ∙ sym y.move.head in
    record {
      places = subst (λ n. All (λ (t : Part). t.place < n) (support_of i l.moves b)) (sym wide) (support_within (map total i.columns) (the_move l.moves b).head);
      sum = pair_grade_by_support i l.moves a b wide;
      limit = pair_grade_limit i (the_move l.moves a) (the_move l.moves b) x y;
    }

-- the parts that are looked up for the move with the number k + 1
pub found_makes_grade : (l : MoveList) → IsMoveList l → (i : Problem) → l.instance ≡ i → (known a k : ℕ) → 1 ≤ a → a ≤ k → known ≤ k → k < length l.moves →
    (own : ℕ) (p q : List ℕ) → p ≡ q → q ≡ (the_move l.moves a).head → own ≡ grade_of i.columns q →
    (all : List (List Part)) → all ≡ supports_between i l.moves known (length l.moves) → (ts : List Part) → ts ≡ get_or all (k - known) [] →
    MakesGrade i l.moves a (k + 1) own p ts
found_makes_grade l h i same known a k some low from high own p q slice head grade all supports ts found =
    let m = the_move l.moves a in
    let listed : support_of i l.moves (k + 1) ≡ ts = sym (found ∙ ap (λ s. get_or s (k - known) []) supports ∙ support_at i l.moves known (length l.moves) k from high) in
    subst (λ g. MakesGrade i l.moves a (k + 1) g p ts) (sym (grade ∙ ap (grade_of i.columns) head))
    (subst (λ r. MakesGrade i l.moves a (k + 1) (grade_of i.columns m.head) r ts) (sym (slice ∙ head))
    (subst (MakesGrade i l.moves a (k + 1) (grade_of i.columns m.head) m.head) listed
    (subst (λ j. MakesGrade j l.moves a (k + 1) (grade_of j.columns m.head) m.head (support_of j l.moves (k + 1))) same
    (support_makes_grade l h a (k + 1) some (omega arith) (omega arith) (omega arith)))))
