-- The columns of an equality form by their places.
use Rattle.std.proofs.Common.{ℕ, ◌+◌, ◌-◌, ◌≡◌, ◌<◌, append_assoc, List, [], ◌∷◌, ◌++◌, length, map, drop, get_or, set, Option, Some, None, refl, sym, ap, ap₂, ◌∙◌, arith, zero, suc}
use Rattle.std.proofs.lemmas.List.{drop_more, map-append}
use Rattle.ct_vectors.specs.Vectors.{zeros, unit}
use Rattle.ct_vectors.proofs.Sums.{length-zeros, length-unit}
use Rattle.ct_form.specs.declared.relation.Relation.{Relation}
use Rattle.ct_form.specs.declared.relation.Relation.TheVariants.{Eq, Le}
use Rattle.ct_form.specs.Forms.{given_in}
use Rattle.ct_form.specs.EqualityForms.{under, over, row_slacks, bound_parts, bound_slacks}
use Rattle.ct_form.specs.Made.{given_of, part_at, slack_at}

pub unit_set : (n j : ℕ) → j < n → set (zeros n) j 1 ≡ unit n j
unit_set zero j l = absurd (omega arith)
unit_set (suc n) zero l = refl
unit_set (suc n) (suc j) l = ap (λ (p : List ℕ). 0 ∷ p) (unit_set n j (omega arith))

-- ---- the parts in the rows of the bounds

abbrev pub parts_from : ℕ → ℕ → List (Option ℕ) → List (List ℕ)
parts_from k place [] = []
parts_from k place (u ∷ us) = part_at u k place ∷ parts_from k (place + given_of u) us

part_under : (u : Option ℕ) (k place : ℕ) → part_at u (suc k) (suc place) ≡ 0 ∷ part_at u k place
part_under None k place = refl
part_under (Some u) k place = refl

parts_under : (us : List (Option ℕ)) (k place : ℕ) → parts_from (suc k) (suc place) us ≡ under 0 (parts_from k place us)
parts_under [] k place = refl
parts_under (u ∷ us) k place =
    let next : suc place + given_of u ≡ suc (place + given_of u) = omega arith in
    ap₂ ◌∷◌ (part_under u k place) (ap (λ p. parts_from (suc k) p us) next ∙ parts_under us k (place + given_of u))

pub parts_are : (us : List (Option ℕ)) → parts_from (length (given_in us)) 0 us ≡ bound_parts us
parts_are [] = refl
parts_are (None ∷ us) = ap (λ (cs : List (List ℕ)). zeros (length (given_in us)) ∷ cs) (parts_are us)
parts_are (Some u ∷ us) =
    ap (λ (cs : List (List ℕ)). (1 ∷ zeros (length (given_in us))) ∷ cs) (parts_under us (length (given_in us)) 0 ∙ ap (under 0) (parts_are us))

pub given_more : (u : Option ℕ) (us : List (Option ℕ)) → length (given_in (u ∷ us)) ≡ given_of u + length (given_in us)
given_more None us = omega arith
given_more (Some u) us = omega arith

-- ---- the slacks of rows

abbrev pub slacks_from : ℕ → ℕ → List Relation → List (List ℕ)
slacks_from m i [] = []
slacks_from m i (r ∷ rs) = slack_at r m i ++ slacks_from m (i + 1) rs

slack_under : (r : Relation) (m i : ℕ) → slack_at r (suc m) (suc i) ≡ under 0 (slack_at r m i)
slack_under Eq m i = refl
slack_under Le m i = refl

slacks_under : (rs : List Relation) (m i : ℕ) → slacks_from (suc m) (suc i) rs ≡ under 0 (slacks_from m i rs)
slacks_under [] m i = refl
slacks_under (r ∷ rs) m i =
    let next : suc i + 1 ≡ suc (i + 1) = omega arith in
    ap₂ ◌++◌ (slack_under r m i) (ap (λ p. slacks_from (suc m) p rs) next ∙ slacks_under rs m (i + 1)) ∙
    sym (map-append (λ c. 0 ∷ c) (slack_at r m i) (slacks_from m (i + 1) rs))

pub slacks_are : (rs : List Relation) → slacks_from (length rs) 0 rs ≡ row_slacks rs
slacks_are [] = refl
slacks_are (Eq ∷ rs) = slacks_under rs (length rs) 0 ∙ ap (under 0) (slacks_are rs)
slacks_are (Le ∷ rs) = ap (λ (cs : List (List ℕ)). (1 ∷ zeros (length rs)) ∷ cs) (slacks_under rs (length rs) 0 ∙ ap (under 0) (slacks_are rs))

-- ---- the slacks of bounds

abbrev pub units_from : ℕ → ℕ → ℕ → List (List ℕ)
units_from k place zero = []
units_from k place (suc count) = unit k place ∷ units_from k (place + 1) count

units_under : (count k place : ℕ) → units_from (suc k) (suc place) count ≡ under 0 (units_from k place count)
units_under zero k place = refl
units_under (suc count) k place =
    let next : suc place + 1 ≡ suc (place + 1) = omega arith in
    ap (λ (cs : List (List ℕ)). (0 ∷ unit k place) ∷ cs) (ap (λ p. units_from (suc k) p count) next ∙ units_under count k (place + 1))

pub units_are : (k : ℕ) → units_from k 0 k ≡ bound_slacks k
units_are zero = refl
units_are (suc k) = ap (λ (cs : List (List ℕ)). (1 ∷ zeros k) ∷ cs) (units_under k k 0 ∙ ap (under 0) (units_are k))

-- ---- one step of a loop: what was made, and what is still to make

pub length-part_at : (u : Option ℕ) (k place : ℕ) → length (part_at u k place) ≡ k
length-part_at None k place = length-zeros k
length-part_at (Some u) k place = length-unit k place

pub columns_step : (made cs : List (List ℕ)) (us : List (Option ℕ)) (k place j : ℕ) (d : Option ℕ) (above below : List ℕ) → j < length cs → j < length us →
    above ≡ get_or cs j [] → below ≡ part_at (get_or us j d) k place →
    (made ++ (above ++ below) ∷ []) ++ over (drop (j + 1) cs) (parts_from k (place + given_of (get_or us j d)) (drop (j + 1) us)) ≡
    made ++ over (drop j cs) (parts_from k place (drop j us))
columns_step made cs us k place j d above below in-cs in-us a b =
    append_assoc made ((above ++ below) ∷ []) (over (drop (j + 1) cs) (parts_from k (place + given_of (get_or us j d)) (drop (j + 1) us))) ∙
    ap (λ (p : List ℕ). made ++ p ∷ over (drop (j + 1) cs) (parts_from k (place + given_of (get_or us j d)) (drop (j + 1) us))) (ap₂ ◌++◌ a b) ∙
    sym (ap₂ (λ (xs : List (List ℕ)) (ys : List (Option ℕ)). made ++ over xs (parts_from k place ys)) (drop_more cs j [] in-cs) (drop_more us j d in-us))

pub place_step : (us : List (Option ℕ)) (k place j : ℕ) (d : Option ℕ) → j < length us → place + length (given_in (drop j us)) ≡ k →
    place + given_of (get_or us j d) + length (given_in (drop (j + 1) us)) ≡ k
place_step us k place j d in-us so_far =
    let more : length (given_in (drop j us)) ≡ given_of (get_or us j d) + length (given_in (drop (j + 1) us)) =
    ap (λ (ys : List (Option ℕ)). length (given_in ys)) (drop_more us j d in-us) ∙ given_more (get_or us j d) (drop (j + 1) us) in
    omega (arith, more, so_far)

pub slacks_step : (made : List (List ℕ)) (f : List ℕ → List ℕ) (m i : ℕ) (rs : List Relation) (d : Relation) → i < length rs →
    (made ++ map f (slack_at (get_or rs i d) m i)) ++ map f (slacks_from m (i + 1) (drop (i + 1) rs)) ≡ made ++ map f (slacks_from m i (drop i rs))
slacks_step made f m i rs d in-rs =
    append_assoc made (map f (slack_at (get_or rs i d) m i)) (map f (slacks_from m (i + 1) (drop (i + 1) rs))) ∙
    ap (λ (p : List (List ℕ)). made ++ p) (sym (map-append f (slack_at (get_or rs i d) m i) (slacks_from m (i + 1) (drop (i + 1) rs)))) ∙
    sym (ap (λ (xs : List Relation). made ++ map f (slacks_from m i xs)) (drop_more rs i d in-rs))

pub units_step : (made : List (List ℕ)) (f : List ℕ → List ℕ) (k place : ℕ) → place < k →
    (made ++ f (unit k place) ∷ []) ++ map f (units_from k (place + 1) (k - (place + 1))) ≡ made ++ map f (units_from k place (k - place))
units_step made f k place l =
    let more : suc (k - (place + 1)) ≡ k - place = omega arith in
    append_assoc made (f (unit k place) ∷ []) (map f (units_from k (place + 1) (k - (place + 1)))) ∙
    ap (λ n. made ++ map f (units_from k place n)) more
