-- The least common multiple of two heads, place by place.
use Rattle.std.proofs.Common.{ℕ, ◌+◌, ◌-◌, ◌*◌, ◌≤◌, ◌<◌, ◌≡◌, max, List, [], ◌∷◌, length, length-take, length-drop, take, drop, get_or, refl, sym, ap, ◌∙◌, arith, zero, suc}
use Rattle.std.proofs.lemmas.List.{drop_more, drop_all}
use Rattle.ct_vectors.specs.Vectors.{total, subtract, lcm}
use Rattle.ct_vectors.proofs.Sums.{cons_same, length-add_same, length-subtract}
use Rattle.ct_vectors.proofs.Divisors.{length-lcm}
use Rattle.ct_point.proofs.InPlace.{IsWritten}
use Rattle.ct_point.proofs.Places.{get_or-add, get_or-subtract, get_or-lcm}
use Rattle.ct_instance.specs.Instance.{weighted}
use Rattle.ct_instance.specs.TestSet.{Binomial}
use Rattle.ct_instance.proofs.Grades.{weighted_more}
use Rattle.ct_jobs.specs.Leaves.{left_of}

lcm-nil : (p : List ℕ) → lcm p [] ≡ p
lcm-nil [] = refl
lcm-nil (x ∷ p) = refl

pub drop-lcm : (n : ℕ) (p q : List ℕ) → drop n (lcm p q) ≡ lcm (drop n p) (drop n q)
drop-lcm zero p q = refl
drop-lcm (suc n) [] q = refl
drop-lcm (suc n) (x ∷ p) [] = sym (lcm-nil (drop n p))
drop-lcm (suc n) (x ∷ p) (y ∷ q) = drop-lcm n p q

-- one product more of the grade
pub lcm_weighted_more : (ss p q : List ℕ) (j : ℕ) → j < length ss → length ss ≤ length p → length p ≡ length q →
    weighted (drop j ss) (drop j (lcm p q)) ≡ get_or ss j 0 * max (get_or p j 0) (get_or q j 0) + weighted (drop (j + 1) ss) (drop (j + 1) (lcm p q))
lcm_weighted_more ss p q j l w e =
    weighted_more ss (lcm p q) j l (omega (arith, length-lcm p q)) ∙
    ap (λ x. get_or ss j 0 * x + weighted (drop (j + 1) ss) (drop (j + 1) (lcm p q))) (get_or-lcm p q j)

-- one number more of the sum
pub lcm_total_more : (p q : List ℕ) (j : ℕ) → j < length p → length p ≡ length q →
    total (drop j (lcm p q)) ≡ max (get_or p j 0) (get_or q j 0) + total (drop (j + 1) (lcm p q))
lcm_total_more p q j l e =
    ap total (drop_more (lcm p q) j 0 (omega (arith, length-lcm p q))) ∙
    ap (λ x. x + total (drop (j + 1) (lcm p q))) (get_or-lcm p q j)

-- what the least common multiple has more than the first is what the second has more
pub subtract-lcm : (h k : List ℕ) → length h ≡ length k → subtract (lcm h k) h ≡ subtract k h
subtract-lcm [] [] e = refl
subtract-lcm [] (y ∷ k) e = absurd (omega arith)
subtract-lcm (x ∷ h) [] e = absurd (omega arith)
subtract-lcm (x ∷ h) (y ∷ k) e = cons_same (omega arith) (subtract-lcm h k (omega arith))

pub length-left_of : (m other : Binomial) → length other.head ≡ length m.head → length m.tail ≡ length m.head → length (left_of m other) ≡ length m.head
length-left_of m other e f =
    length-add_same (subtract (lcm m.head other.head) m.head) m.tail (length-subtract (lcm m.head other.head) m.head ∙ length-lcm m.head other.head ∙ omega arith) f

pub get_or-left_of : (m other : Binomial) → length other.head ≡ length m.head → (c : ℕ) →
    get_or (left_of m other) c 0 ≡ get_or other.head c 0 - get_or m.head c 0 + get_or m.tail c 0
get_or-left_of m other e c =
    get_or-add (subtract (lcm m.head other.head) m.head) m.tail c ∙
    ap (λ x. x + get_or m.tail c 0) (ap (λ l. get_or l c 0) (subtract-lcm m.head other.head (sym e)) ∙ get_or-subtract other.head m.head c)

-- the sum is whole at the end
pub lcm_total_all : (p q : List ℕ) (j : ℕ) → length p ≤ j → length p ≡ length q → total (drop j (lcm p q)) ≡ 0
lcm_total_all p q j l e = ap total (drop_all j (lcm p q) (omega (arith, length-lcm p q)))

-- after the products of the columns the artificials are left
pub lcm_artificials : (ss p q : List ℕ) (j : ℕ) → j ≡ length ss → weighted (drop j ss) (drop j (lcm p q)) ≡ total (lcm (drop (length ss) p) (drop (length ss) q))
lcm_artificials ss p q j e =
    ap (λ k. weighted (drop k ss) (drop k (lcm p q))) e ∙ ap (λ l. weighted l (drop (length ss) (lcm p q))) (drop_all (length ss) ss (omega arith)) ∙
    ap total (drop-lcm (length ss) p q)

-- a list that is written place by place keeps its length
pub length-written : (end before now : List ℕ) (i : ℕ) → i ≤ length before → length end ≡ length before → IsWritten end before now i → length now ≡ length before
length-written end before now i l e w =
    let front : length (take i now) ≡ length (take i end) = ap length w.done in
    let back : length (drop i now) ≡ length (drop i before) = ap length w.left in
    omega (arith, front, back, length-take i now, length-take i end, length-drop i now, length-drop i before)
