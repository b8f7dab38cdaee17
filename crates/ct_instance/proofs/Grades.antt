-- The grade by the sums of the columns, and how degrees grow column by column.
use Rattle.std.proofs.Common.{◌≡◌, ℕ, ◌+◌, ◌*◌, ◌≤◌, ◌<◌, List, [], ◌∷◌, length, drop, get_or, map, refl, ap, ◌∙◌, arith, zero, suc}
use Rattle.std.proofs.lemmas.List.{drop_more}
use Rattle.ct_vectors.specs.Vectors.{total, add, scale}
use Rattle.ct_vectors.proofs.Sums.{total-add, total-scale}
use Rattle.ct_instance.specs.Instance.{degree_of, grade_of, weighted}

pub get_or-le-total : (p : List ℕ) (i : ℕ) → get_or p i 0 ≤ total p
get_or-le-total [] i = omega arith
get_or-le-total (x ∷ p) zero = omega arith
get_or-le-total (x ∷ p) (suc i) = let rest : get_or p i 0 ≤ total p = get_or-le-total p i in omega arith

-- the degree of what is left from column j on is the multiple of column j and the degree of the rest
pub degree_more : (cs : List (List ℕ)) (p : List ℕ) (j : ℕ) → j < length cs → j < length p →
    degree_of (drop j cs) (drop j p) ≡ add (scale (get_or p j 0) (get_or cs j [])) (degree_of (drop (j + 1) cs) (drop (j + 1) p))
degree_more cs p j in-cs in-p =
    ap (λ l. degree_of l (drop j p)) (drop_more cs j [] in-cs) ∙ ap (λ l. degree_of (get_or cs j [] ∷ drop (j + 1) cs) l) (drop_more p j 0 in-p)

-- what is left has no greater grade
pub grade-drop : (cs : List (List ℕ)) (p : List ℕ) (j : ℕ) → grade_of (drop j cs) (drop j p) ≤ grade_of cs p
grade-drop cs p zero = omega arith
grade-drop [] [] (suc j) = omega arith
grade-drop [] (x ∷ p) (suc j) = let rest : total (drop j p) ≤ total p = total-drop p j in omega arith
  where
    total-drop : (p : List ℕ) (j : ℕ) → total (drop j p) ≤ total p
    total-drop p zero = omega arith
    total-drop [] (suc j) = omega arith
    total-drop (x ∷ p) (suc j) = let rest : total (drop j p) ≤ total p = total-drop p j in omega arith
grade-drop (c ∷ cs) [] (suc j) = nothing (drop j cs)
  where
    nothing : (cs : List (List ℕ)) → grade_of cs [] ≤ 0
    nothing [] = omega arith
    nothing (c ∷ cs) = omega arith
grade-drop (c ∷ cs) (x ∷ p) (suc j) =
    let rest : grade_of (drop j cs) (drop j p) ≤ grade_of cs p = grade-drop cs p j in
    let sum : total (add (scale x c) (degree_of cs p)) ≡ total (scale x c) + total (degree_of cs p) = total-add (scale x c) (degree_of cs p) in
    omega arith

pub grade_is_weighted : (cs : List (List ℕ)) (p : List ℕ) → grade_of cs p ≡ weighted (map total cs) p
grade_is_weighted [] p = refl
grade_is_weighted (c ∷ cs) [] = refl
grade_is_weighted (c ∷ cs) (x ∷ p) =
    let sum : total (add (scale x c) (degree_of cs p)) ≡ total (scale x c) + total (degree_of cs p) = total-add (scale x c) (degree_of cs p) in
    let product : total (scale x c) ≡ x * total c = total-scale x c in
    let rest : grade_of cs p ≡ weighted (map total cs) p = grade_is_weighted cs p in
    omega arith

-- one product more
pub weighted_more : (ss p : List ℕ) (j : ℕ) → j < length ss → j < length p →
    weighted (drop j ss) (drop j p) ≡ get_or ss j 0 * get_or p j 0 + weighted (drop (j + 1) ss) (drop (j + 1) p)
weighted_more ss p j in-ss in-p =
    ap (λ l. weighted l (drop j p)) (drop_more ss j 0 in-ss) ∙ ap (λ l. weighted (get_or ss j 0 ∷ drop (j + 1) ss) l) (drop_more p j 0 in-p)

pub product-limit : (a b m n : ℕ) → a ≤ m → b ≤ n → a * b ≤ m * n
product-limit a b m n h k = grind arith
