-- Costs place by place, and how large they grow.
use Rattle.ct_vectors.specs.declared.limits.TheConstants.{ROW_LIMIT, COST_LIMIT, JOB_GRADE_LIMIT}
use Rattle.std.proofs.Common.{◌≡◌, ℕ, ℤ, pos, ◌+ℤ◌, ◌*ℤ◌, ◌+◌, ◌-◌, ◌*◌, ◌≤◌, ◌<◌, All, List, [], ◌∷◌, length, take, drop, get_or, refl, sym, ap, ◌∙◌, arith, nat_abs}
use Rattle.std.proofs.Math.IntN.{+ℤ_assoc}
use Rattle.std.proofs.lemmas.List.{drop_more, length-drop}
use Rattle.std.proofs.lemmas.List.Elements.{All-drop}
use Rattle.std.proofs.lemmas.Int.{ints, unsigned_abs-mul}
use Rattle.ct_vectors.specs.Vectors.{total}
use Rattle.ct_vectors.proofs.Sums.{total-limit}
use Rattle.ct_order.specs.Order.{cost_of}

abs-add : (a b : ℤ) → nat_abs (a +ℤ b) ≤ nat_abs a + nat_abs b
abs-add a b = omega (arith, ints)

mul_both : (a b m n : ℕ) → a ≤ m → b ≤ n → a * b ≤ m * n
mul_both a b m n h k = grind arith

-- one product more, within its limits
pub abs-product : (sum c : ℤ) (x i : ℕ) → nat_abs sum ≤ i * (COST_LIMIT * JOB_GRADE_LIMIT) → nat_abs c ≤ COST_LIMIT → x ≤ JOB_GRADE_LIMIT →
    nat_abs (sum +ℤ (c *ℤ pos x)) ≤ (i + 1) * (COST_LIMIT * JOB_GRADE_LIMIT)
abs-product sum c x i small c-limit x-limit =
    let split : nat_abs (sum +ℤ (c *ℤ pos x)) ≤ nat_abs sum + nat_abs (c *ℤ pos x) = abs-add sum (c *ℤ pos x) in
    let product : nat_abs (c *ℤ pos x) ≡ nat_abs c * x = unsigned_abs-mul c (pos x) in
    let limit : nat_abs c * x ≤ COST_LIMIT * JOB_GRADE_LIMIT = mul_both (nat_abs c) x COST_LIMIT JOB_GRADE_LIMIT c-limit x-limit in
    omega arith

-- the cost of what is left is the first product and the cost of the rest
pub cost_more : (sum : ℤ) (cs : List ℤ) (p : List ℕ) (i : ℕ) → i < length cs → i < length p →
    (sum +ℤ (get_or cs i (pos 0) *ℤ pos (get_or p i 0))) +ℤ cost_of (drop (i + 1) cs) (drop (i + 1) p) ≡ sum +ℤ cost_of (drop i cs) (drop i p)
cost_more sum cs p i in-cs in-p =
    +ℤ_assoc sum (get_or cs i (pos 0) *ℤ pos (get_or p i 0)) (cost_of (drop (i + 1) cs) (drop (i + 1) p)) ∙
    ap (λ z. sum +ℤ z) (sym (ap (λ l. cost_of l (drop i p)) (drop_more cs i (pos 0) in-cs) ∙
    ap (λ l. cost_of (get_or cs i (pos 0) ∷ drop (i + 1) cs) l) (drop_more p i 0 in-p)))

-- the cost is that of the first coordinates
pub cost_of-take : (row : List ℤ) (p : List ℕ) → cost_of row (take (length row) p) ≡ cost_of row p
cost_of-take [] p = refl
cost_of-take (c ∷ cs) [] = refl
cost_of-take (c ∷ cs) (x ∷ p) = rw (cost_of-take cs p)

-- the artificials of a point whose coordinates are within the limit
pub artificials-limit : (n : ℕ) (p : List ℕ) → length p ≤ n + ROW_LIMIT → All (λ x. x ≤ JOB_GRADE_LIMIT) p → total (drop n p) ≤ ROW_LIMIT * JOB_GRADE_LIMIT
artificials-limit n p l h =
    let limit : total (drop n p) ≤ length (drop n p) * JOB_GRADE_LIMIT = total-limit JOB_GRADE_LIMIT (drop n p) (All-drop (λ x. x ≤ JOB_GRADE_LIMIT) n p h) in
    let len : length (drop n p) ≡ length p - n = length-drop n p in
    let few : length (drop n p) ≤ ROW_LIMIT = omega arith in
    let most : length (drop n p) * JOB_GRADE_LIMIT ≤ ROW_LIMIT * JOB_GRADE_LIMIT = omega arith in
    omega arith
