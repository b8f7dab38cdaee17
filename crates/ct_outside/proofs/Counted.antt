-- How often a name stands in a list that has grown by one.
use Rattle.std.proofs.Common.{◌≡◌, ◌≢◌, ℕ, ◌+◌, ◌≤◌, List, [], ◌∷◌, ◌++◌, true, false, cond, refl, ap, ◌∙◌, add-zero, arith}
use Rattle.std.proofs.lemmas.Slice.Eq.{bytes_eq-Decides}
use Rattle.std.proofs.lemmas.Bool.{false_from_ne_true}
use Rattle.std.proofs.lemmas.List.Sums.{sum_by-append}
use Rattle.std.specs.Str.{bytes_eq}
use Rattle.ct_outside.specs.Faults.{count_of}

-- the name that was added stands once more
pub count_of-push_same : (names : List (List ℕ)) (name : List ℕ) → count_of (names ++ name ∷ []) name ≡ count_of names name + 1
count_of-push_same names name =
    let same : bytes_eq name name ≡ true = (bytes_eq-Decides name name).1 refl in
    sum_by-append (λ x. cond (bytes_eq name x) 1 0) names (name ∷ []) ∙ ap (λ b. count_of names name + (0 + cond b 1 0)) same

-- and every other as often as before
pub count_of-push_other : (names : List (List ℕ)) (name other : List ℕ) → other ≢ name → count_of (names ++ name ∷ []) other ≡ count_of names other
count_of-push_other names name other differs =
    let apart : bytes_eq other name ≡ false = false_from_ne_true _ (λ same. differs ((bytes_eq-Decides other name).0 same)) in
    sum_by-append (λ x. cond (bytes_eq other x) 1 0) names (name ∷ []) ∙ ap (λ b. count_of names other + (0 + cond b 1 0)) apart ∙ add-zero _

-- and none less often
pub count_of-push_later : (names : List (List ℕ)) (name other : List ℕ) → count_of names other ≤ count_of (names ++ name ∷ []) other
count_of-push_later names name other = omega (arith, sum_by-append (λ x. cond (bytes_eq other x) 1 0) names (name ∷ []))
