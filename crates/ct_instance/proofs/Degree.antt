-- Degrees and grades: they add up, and the grade is at least the total.
use Rattle.std.proofs.Common.{ℕ, ◌+◌, ◌*◌, ◌≤◌, ◌<◌, ◌≡◌, List, [], ◌∷◌, ◌++◌, length, get_or, refl, sym, subst, ap, ap₂, ◌∙◌, arith, zero, suc, mul-le-mul_left, length-append}
use Rattle.std.specs.List.{AllByRecursion}
use Rattle.std.proofs.lemmas.List.Elements.{recursion_from_All, All-from_recursion, All-get_or}
use Rattle.ct_vectors.specs.Vectors.{total, add, subtract, scale, lcm, zeros, unit, Divides}
use Rattle.ct_vectors.proofs.Sums.{cons_same, length-add_same, length-scale, length-zeros, add-nil, add-zeros, add_cross, scale_of_sum, scale-add, scale-one, scale-zero, zeros-add, total-add, total-scale, zeros_from_total}
use Rattle.ct_vectors.proofs.Divisors.{Divides-add, Divides-add_left, add-subtract, total-divides, lcm-divides, length-lcm}
use Rattle.ct_instance.specs.Instance.{Problem, IsColumn, IsInstance, IsPoint, IsRight, column_count, degree_of, grade_of, start_of}

scale-scale : (t x : ℕ) (c : List ℕ) → scale (t * x) c ≡ scale t (scale x c)
scale-scale t x [] = refl
scale-scale t x (y ∷ c) = cons_same (omega arith) (scale-scale t x c)

coordinate-le-total : (p : List ℕ) (k : ℕ) → get_or p k 0 ≤ total p
coordinate-le-total [] k = omega arith
coordinate-le-total (x ∷ p) zero = omega arith
coordinate-le-total (x ∷ p) (suc k) = omega (arith, coordinate-le-total p k)

-- columns of m numbers, none of them zero
abbrev pub AreColumns : ℕ → List (List ℕ) → Type 0
AreColumns m cs = AllByRecursion (IsColumn m) cs

pub columns : (i : Problem) → IsInstance i → AreColumns i.rows i.columns
columns i h = recursion_from_All (IsColumn i.rows) i.columns h.is_column

pub degree-add : (cs : List (List ℕ)) (p q : List ℕ) → degree_of cs (add p q) ≡ add (degree_of cs p) (degree_of cs q)
degree-add [] p q = refl
degree-add (c ∷ cs) [] q = refl
degree-add (c ∷ cs) (x ∷ p) [] = sym (add-nil (degree_of (c ∷ cs) (x ∷ p)))
degree-add (c ∷ cs) (x ∷ p) (y ∷ q) =
    ap₂ add (scale_of_sum x y c) (degree-add cs p q) ∙ add_cross (scale x c) (scale y c) (degree_of cs p) (degree_of cs q)

pub length-degree : (m : ℕ) (cs : List (List ℕ)) → AreColumns m cs → (p : List ℕ) → length p ≡ length cs + m → length (degree_of cs p) ≡ m
length-degree m [] a p e = omega arith
length-degree m (c ∷ cs) a [] e = absurd (omega arith)
length-degree m (c ∷ cs) a (x ∷ p) e =
    length-add_same (scale x c) (degree_of cs p) (length-scale x c ∙ (a.0).entries) (length-degree m cs a.1 p (omega arith))

pub total-le-grade : (m : ℕ) (cs : List (List ℕ)) → AreColumns m cs → (p : List ℕ) → total p ≤ grade_of cs p
total-le-grade m [] a p = omega arith
total-le-grade m (c ∷ cs) a [] = omega arith
total-le-grade m (c ∷ cs) a (x ∷ p) =
    let e : x * 1 ≤ x * total c = mul-le-mul_left x (a.0).positive in
    omega (arith, total-add (scale x c) (degree_of cs p), total-scale x c, total-le-grade m cs a.1 p)

pub grade-add : (cs : List (List ℕ)) (p q : List ℕ) → grade_of cs (add p q) ≡ grade_of cs p + grade_of cs q
grade-add cs p q = ap total (degree-add cs p q) ∙ total-add (degree_of cs p) (degree_of cs q)

-- a point of grade 0 is zero
pub zeros_from_grade : (m : ℕ) (cs : List (List ℕ)) → AreColumns m cs → (p : List ℕ) → grade_of cs p ≡ 0 → p ≡ zeros (length p)
zeros_from_grade m cs a p e = zeros_from_total p (omega (arith, total-le-grade m cs a p))

-- the artificials alone have themselves as degree
pub degree-artificials : (m : ℕ) (cs : List (List ℕ)) → AreColumns m cs → (b : List ℕ) → length b ≡ m → degree_of cs (zeros (length cs) ++ b) ≡ b
degree-artificials m [] a b e = refl
degree-artificials m (c ∷ cs) a b e =
    ap₂ add (scale-zero c) (degree-artificials m cs a.1 b e) ∙ zeros-add (length c) b (omega (arith, (a.0).entries))

pub degree-start : (i : Problem) → IsInstance i → (b : List ℕ) → IsRight i b → degree_of i.columns (start_of i b) ≡ b
degree-start i h b e = degree-artificials i.rows i.columns (columns i h) b e

pub start_is_point : (i : Problem) (b : List ℕ) → IsRight i b → IsPoint i (start_of i b)
start_is_point i b e = length-append (zeros (column_count i)) b ∙ ap₂ ◌+◌ (length-zeros (column_count i)) e

pub degree_is_right : (i : Problem) → IsInstance i → (p : List ℕ) → IsPoint i p → IsRight i (degree_of i.columns p)
degree_is_right i h p e = length-degree i.rows i.columns (columns i h) p e

pub degree-scale : (cs : List (List ℕ)) (t : ℕ) (p : List ℕ) → degree_of cs (scale t p) ≡ scale t (degree_of cs p)
degree-scale [] t p = refl
degree-scale (c ∷ cs) t [] = refl
degree-scale (c ∷ cs) t (x ∷ p) =
    ap₂ add (scale-scale t x c) (degree-scale cs t p) ∙ sym (scale-add t (scale x c) (degree_of cs p))

-- ---- parts of a point have parts of its degree

pub degree-divides : (cs : List (List ℕ)) (h p : List ℕ) → length h ≤ length p → Divides h p → Divides (degree_of cs h) (degree_of cs p)
degree-divides cs h p l d =
    subst (Divides (degree_of cs h)) (sym (degree-add cs (subtract p h) h) ∙ ap (degree_of cs) (add-subtract p h l d))
    (Divides-add (degree_of cs (subtract p h)) (degree_of cs h))

pub grade-divides : (cs : List (List ℕ)) (h p : List ℕ) → length h ≤ length p → Divides h p → grade_of cs h ≤ grade_of cs p
grade-divides cs h p l d = total-divides (degree_of cs h) (degree_of cs p) (degree-divides cs h p l d)

-- the grade of a least common multiple is at most the sum of the grades
pub grade-lcm : (cs : List (List ℕ)) (p q : List ℕ) → length p ≡ length q → grade_of cs (lcm p q) ≤ grade_of cs p + grade_of cs q
grade-lcm cs p q e =
    let wide : length (lcm p q) ≤ length (add p q) = omega (arith, length-lcm p q, length-add_same p q e refl) in
    let below : grade_of cs (lcm p q) ≤ grade_of cs (add p q) =
    grade-divides cs (lcm p q) (add p q) wide (lcm-divides p q (add p q) (Divides-add_left p q) (Divides-add p q)) in
    omega (arith, grade-add cs p q)

-- what one swap of a part for another of its degree leaves
pub degree_of_swap : (cs : List (List ℕ)) (rest h t : List ℕ) → degree_of cs t ≡ degree_of cs h → degree_of cs (add rest t) ≡ degree_of cs (add rest h)
degree_of_swap cs rest h t e = degree-add cs rest t ∙ ap (add (degree_of cs rest)) e ∙ sym (degree-add cs rest h)

pub coordinate-le-grade : (m : ℕ) (cs : List (List ℕ)) → AreColumns m cs → (p : List ℕ) (k : ℕ) → get_or p k 0 ≤ grade_of cs p
coordinate-le-grade m cs a p k = omega (arith, coordinate-le-total p k, total-le-grade m cs a p)

-- ---- the degree of one variable is its column

pub degree-zeros : (m : ℕ) (cs : List (List ℕ)) → AreColumns m cs → degree_of cs (zeros (length cs) ++ zeros m) ≡ zeros m
degree-zeros m cs a = degree-artificials m cs a (zeros m) (length-zeros m)

pub degree-unit : (m : ℕ) (cs : List (List ℕ)) → AreColumns m cs → (j : ℕ) → j < length cs → degree_of cs (unit (length cs) j ++ zeros m) ≡ get_or cs j []
degree-unit m [] a j l = absurd (omega arith)
degree-unit m (c ∷ cs) a zero l =
    ap₂ add (scale-one c) (degree-zeros m cs a.1) ∙ add-zeros c m (omega (arith, (a.0).entries))
degree-unit m (c ∷ cs) a (suc j) l =
    let k : j < length cs = omega arith in
    let wide : length (get_or cs j []) ≡ m = (All-get_or (IsColumn m) cs j [] k (All-from_recursion (IsColumn m) cs a.1)).entries in
    ap₂ add (scale-zero c) (degree-unit m cs a.1 j k) ∙ zeros-add (length c) (get_or cs j []) (omega (arith, (a.0).entries))

pub grade-zeros : (m : ℕ) (cs : List (List ℕ)) → AreColumns m cs → (p : List ℕ) → length p ≡ length cs + m → total p ≡ 0 → grade_of cs p ≡ 0
grade-zeros m [] a p e z = z
grade-zeros m (c ∷ cs) a [] e z = refl
grade-zeros m (c ∷ cs) a (x ∷ p) e z =
    let none : x ≡ 0 = omega arith in
    let step : total (scale x c) ≡ 0 = ap (λ y. total (scale y c)) none ∙ total-scale 0 c ∙ omega arith in
    omega (arith, total-add (scale x c) (degree_of cs p), grade-zeros m cs a.1 p (omega arith) (omega arith))
