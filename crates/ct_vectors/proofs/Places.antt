-- Points in parts, and the lists of numbers up to a bound.
use Rattle.std.proofs.Common.{ℕ, ◌+◌, ◌≤◌, ◌≡◌, List, [], ◌∷◌, ◌++◌, length, take, drop, Contains, refl, sym, subst, ap, ◌∙◌, ⊎_elim, arith, zero, suc}
use Rattle.std.proofs.lemmas.List.Elements.{Contains-append_left, Contains-push, Contains-push_cases}
use Rattle.std.proofs.lemmas.Bool.{cases_lt}
use Rattle.ct_vectors.specs.Vectors.{add, zeros, up_to}
use Rattle.ct_vectors.proofs.Sums.{cons_same, add-nil}

pub add-append : (p q r s : List ℕ) → length p ≡ length r → add (p ++ q) (r ++ s) ≡ add p r ++ add q s
add-append [] q [] s e = refl
add-append [] q (y ∷ r) s e = absurd (omega arith)
add-append (x ∷ p) q [] s e = absurd (omega arith)
add-append (x ∷ p) q (y ∷ r) s e = cons_same refl (add-append p q r s (omega arith))

pub drop-add : (n : ℕ) (p q : List ℕ) → drop n (add p q) ≡ add (drop n p) (drop n q)
drop-add zero p q = refl
drop-add (suc n) [] q = refl
drop-add (suc n) (x ∷ p) [] = sym (add-nil (drop n p))
drop-add (suc n) (x ∷ p) (y ∷ q) = drop-add n p q

pub take-add : (n : ℕ) (p q : List ℕ) → take n (add p q) ≡ add (take n p) (take n q)
take-add zero p q = refl
take-add (suc n) [] q = refl
take-add (suc n) (x ∷ p) [] = refl
take-add (suc n) (x ∷ p) (y ∷ q) = cons_same refl (take-add n p q)

pub zeros-append : (m n : ℕ) → zeros m ++ zeros n ≡ zeros (m + n)
zeros-append zero n = ap zeros (omega arith)
zeros-append (suc m) n =
    let e : suc m + n ≡ suc (m + n) = omega arith in
    cons_same refl (zeros-append m n) ∙ sym (ap zeros e)

-- the numbers up to n
pub Contains-up_to : (n k : ℕ) → k ≤ n → Contains (up_to n) k
Contains-up_to zero k h = (0, omega arith, omega arith)
Contains-up_to (suc n) k h =
    ⊎_elim (λ l. Contains-append_left (up_to n) (suc n ∷ []) k (Contains-up_to n k (omega arith)))
    (λ l. subst (Contains (up_to n ++ suc n ∷ [])) (let e : suc n ≡ k = omega arith in e) (Contains-push (up_to n) (suc n)))
    (cases_lt k (suc n))

pub le-up_to : (n k : ℕ) → Contains (up_to n) k → k ≤ n
le-up_to zero k h = ⊎_elim (λ l. absurd (omega arith)) (λ e. omega arith) (Contains-push_cases [] 0 k h)
le-up_to (suc n) k h = ⊎_elim (λ l. omega (arith, le-up_to n k l)) (λ e. omega arith) (Contains-push_cases (up_to n) (suc n) k h)
