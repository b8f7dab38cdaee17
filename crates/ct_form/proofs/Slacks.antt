-- What the slack columns and the rows of the bounds sum up to.
use Rattle.std.proofs.Common.{ℕ, ◌+◌, ◌-◌, ◌*◌, ◌≤◌, ◌≡◌, List, [], ◌∷◌, length, Option, Some, None, refl, sym, ap, ap₂, ◌∙◌, arith, zero, suc}
use Rattle.std.proofs.lemmas.List.{length-map}
use Rattle.ct_vectors.specs.Vectors.{add, scale, zeros}
use Rattle.ct_vectors.proofs.Sums.{cons_same, cons_head, cons_tail, length-zeros, zeros-add}
use Rattle.ct_instance.specs.Answer.{weighted_sum}
use Rattle.ct_form.specs.declared.relation.Relation.{Relation}
use Rattle.ct_form.specs.declared.relation.Relation.TheVariants.{Eq, Le}
use Rattle.ct_form.specs.Forms.{given_in, AreHeld, AreBounded}
use Rattle.ct_form.specs.EqualityForms.{under, row_slacks, bound_parts, bound_slacks}
use Rattle.ct_form.proofs.Columns.{AreWide, wide-under, length-weighted, scale-zeros, weighted-under}

-- ---- sizes

pub wide_row_slacks : (rs : List Relation) → AreWide (length rs) (row_slacks rs)
wide_row_slacks [] = tt
wide_row_slacks (Eq ∷ rs) = wide-under (length rs) (row_slacks rs) (wide_row_slacks rs)
wide_row_slacks (Le ∷ rs) = (ap suc (length-zeros (length rs)), wide-under (length rs) (row_slacks rs) (wide_row_slacks rs))

pub wide_bound_parts : (us : List (Option ℕ)) → AreWide (length (given_in us)) (bound_parts us)
wide_bound_parts [] = tt
wide_bound_parts (None ∷ us) = (length-zeros (length (given_in us)), wide_bound_parts us)
wide_bound_parts (Some u ∷ us) = (ap suc (length-zeros (length (given_in us))), wide-under (length (given_in us)) (bound_parts us) (wide_bound_parts us))

pub wide_bound_slacks : (k : ℕ) → AreWide k (bound_slacks k)
wide_bound_slacks zero = tt
wide_bound_slacks (suc k) = (ap suc (length-zeros k), wide-under k (bound_slacks k) (wide_bound_slacks k))

pub length-bound_parts : (us : List (Option ℕ)) → length (bound_parts us) ≡ length us
length-bound_parts [] = refl
length-bound_parts (None ∷ us) = ap suc (length-bound_parts us)
length-bound_parts (Some u ∷ us) = ap suc (length-map (bound_parts us) (λ c. 0 ∷ c) ∙ length-bound_parts us)

pub length-bound_slacks : (k : ℕ) → length (bound_slacks k) ≡ k
length-bound_slacks zero = refl
length-bound_slacks (suc k) = ap suc (length-map (bound_slacks k) (λ c. 0 ∷ c) ∙ length-bound_slacks k)

-- ---- sums

-- a slack of each row `le`, and 0 in the others
abbrev pub spread : List Relation → List ℕ → List ℕ
spread [] s = []
spread (Eq ∷ rs) s = 0 ∷ spread rs s
spread (Le ∷ rs) [] = 0 ∷ spread rs []
spread (Le ∷ rs) (t ∷ s) = t ∷ spread rs s

spread-nil : (rs : List Relation) → spread rs [] ≡ zeros (length rs)
spread-nil [] = refl
spread-nil (Eq ∷ rs) = cons_same refl (spread-nil rs)
spread-nil (Le ∷ rs) = cons_same refl (spread-nil rs)

-- the numbers that have a bound
abbrev pub picked : List (Option ℕ) → List ℕ → List ℕ
picked [] x = []
picked (None ∷ us) [] = picked us []
picked (None ∷ us) (x ∷ xs) = picked us xs
picked (Some u ∷ us) [] = 0 ∷ picked us []
picked (Some u ∷ us) (x ∷ xs) = x ∷ picked us xs

picked-nil : (us : List (Option ℕ)) → picked us [] ≡ zeros (length (given_in us))
picked-nil [] = refl
picked-nil (None ∷ us) = picked-nil us
picked-nil (Some u ∷ us) = cons_same refl (picked-nil us)

-- a unit over columns under a 0
unit_over : (k t : ℕ) (cs : List (List ℕ)) (x : List ℕ) → AreWide k cs → add (scale t (1 ∷ zeros k)) (weighted_sum (suc k) (under 0 cs) x) ≡ t ∷ weighted_sum k cs x
unit_over k t cs x a =
    ap₂ (λ (p q : List ℕ). add (t * 1 ∷ p) q) (scale-zeros t k) (weighted-under k cs x) ∙
    cons_same (omega arith) (zeros-add k (weighted_sum k cs x) (omega (arith, length-weighted k cs x a)))

pub sum_row_slacks : (rs : List Relation) (s : List ℕ) → weighted_sum (length rs) (row_slacks rs) s ≡ spread rs s
sum_row_slacks [] s = refl
sum_row_slacks (Eq ∷ rs) s = weighted-under (length rs) (row_slacks rs) s ∙ cons_same refl (sum_row_slacks rs s)
sum_row_slacks (Le ∷ rs) [] = cons_same refl (sym (spread-nil rs))
sum_row_slacks (Le ∷ rs) (t ∷ s) = unit_over (length rs) t (row_slacks rs) s (wide_row_slacks rs) ∙ cons_same refl (sum_row_slacks rs s)

pub sum_bound_parts : (us : List (Option ℕ)) (x : List ℕ) → weighted_sum (length (given_in us)) (bound_parts us) x ≡ picked us x
sum_bound_parts [] x = refl
sum_bound_parts (None ∷ us) [] = sym (picked-nil us)
sum_bound_parts (None ∷ us) (x ∷ xs) =
    ap (λ (p : List ℕ). add p (weighted_sum (length (given_in us)) (bound_parts us) xs)) (scale-zeros x (length (given_in us))) ∙
    zeros-add (length (given_in us)) (weighted_sum (length (given_in us)) (bound_parts us) xs)
    (omega (arith, length-weighted (length (given_in us)) (bound_parts us) xs (wide_bound_parts us))) ∙
    sum_bound_parts us xs
sum_bound_parts (Some u ∷ us) [] = cons_same refl (sym (picked-nil us))
sum_bound_parts (Some u ∷ us) (x ∷ xs) = unit_over (length (given_in us)) x (bound_parts us) xs (wide_bound_parts us) ∙ cons_same refl (sum_bound_parts us xs)

pub sum_bound_slacks : (k : ℕ) (t : List ℕ) → length t ≡ k → weighted_sum k (bound_slacks k) t ≡ t
sum_bound_slacks zero [] e = refl
sum_bound_slacks zero (x ∷ t) e = absurd (omega arith)
sum_bound_slacks (suc k) [] e = absurd (omega arith)
sum_bound_slacks (suc k) (x ∷ t) e = unit_over k x (bound_slacks k) t (wide_bound_slacks k) ∙ cons_same refl (sum_bound_slacks k t (omega arith))

pub length-spread : (rs : List Relation) (s : List ℕ) → length (spread rs s) ≡ length rs
length-spread [] s = refl
length-spread (Eq ∷ rs) s = ap suc (length-spread rs s)
length-spread (Le ∷ rs) [] = ap suc (length-spread rs [])
length-spread (Le ∷ rs) (t ∷ s) = ap suc (length-spread rs s)

pub length-picked : (us : List (Option ℕ)) (x : List ℕ) → length (picked us x) ≡ length (given_in us)
length-picked [] x = refl
length-picked (None ∷ us) [] = length-picked us []
length-picked (None ∷ us) (x ∷ xs) = length-picked us xs
length-picked (Some u ∷ us) [] = ap suc (length-picked us [])
length-picked (Some u ∷ us) (x ∷ xs) = ap suc (length-picked us xs)

-- ---- the slacks of rows

-- how far each row `le` stays below its right-hand side
abbrev pub held_slack : List Relation → List ℕ → List ℕ → List ℕ
held_slack [] sums right = []
held_slack (Eq ∷ rs) [] right = held_slack rs [] []
held_slack (Eq ∷ rs) (a ∷ sums) [] = held_slack rs sums []
held_slack (Eq ∷ rs) (a ∷ sums) (b ∷ right) = held_slack rs sums right
held_slack (Le ∷ rs) [] right = 0 ∷ held_slack rs [] []
held_slack (Le ∷ rs) (a ∷ sums) [] = 0 ∷ held_slack rs sums []
held_slack (Le ∷ rs) (a ∷ sums) (b ∷ right) = (b - a) ∷ held_slack rs sums right

pub length-held_slack : (rs : List Relation) (sums right : List ℕ) → length (held_slack rs sums right) ≡ length (row_slacks rs)
length-held_slack [] sums right = refl
length-held_slack (Eq ∷ rs) [] right = length-held_slack rs [] [] ∙ sym (length-map (row_slacks rs) (λ c. 0 ∷ c))
length-held_slack (Eq ∷ rs) (a ∷ sums) [] = length-held_slack rs sums [] ∙ sym (length-map (row_slacks rs) (λ c. 0 ∷ c))
length-held_slack (Eq ∷ rs) (a ∷ sums) (b ∷ right) = length-held_slack rs sums right ∙ sym (length-map (row_slacks rs) (λ c. 0 ∷ c))
length-held_slack (Le ∷ rs) [] right = ap suc (length-held_slack rs [] [] ∙ sym (length-map (row_slacks rs) (λ c. 0 ∷ c)))
length-held_slack (Le ∷ rs) (a ∷ sums) [] = ap suc (length-held_slack rs sums [] ∙ sym (length-map (row_slacks rs) (λ c. 0 ∷ c)))
length-held_slack (Le ∷ rs) (a ∷ sums) (b ∷ right) = ap suc (length-held_slack rs sums right ∙ sym (length-map (row_slacks rs) (λ c. 0 ∷ c)))

pub held_to_slack : (rs : List Relation) (sums right : List ℕ) → AreHeld rs sums right → add sums (spread rs (held_slack rs sums right)) ≡ right
held_to_slack [] [] [] h = refl
held_to_slack [] [] (b ∷ right) h = absurd h
held_to_slack [] (a ∷ sums) right h = absurd h
held_to_slack (Eq ∷ rs) [] right h = absurd h
held_to_slack (Le ∷ rs) [] right h = absurd h
held_to_slack (Eq ∷ rs) (a ∷ sums) [] h = absurd h
held_to_slack (Le ∷ rs) (a ∷ sums) [] h = absurd h
held_to_slack (Eq ∷ rs) (a ∷ sums) (b ∷ right) h = cons_same (let e : a ≡ b = h.0 in omega arith) (held_to_slack rs sums right h.1)
held_to_slack (Le ∷ rs) (a ∷ sums) (b ∷ right) h = cons_same (let e : a ≤ b = h.0 in omega arith) (held_to_slack rs sums right h.1)

-- slacks that fill up the sums are these
pub held_from_slack : (rs : List Relation) (sums right s : List ℕ) → length sums ≡ length rs → length s ≡ length (row_slacks rs) →
    add sums (spread rs s) ≡ right → AreHeld rs sums right × (s ≡ held_slack rs sums right)
held_from_slack [] [] [] [] d l e = (tt, refl)
held_from_slack [] [] [] (t ∷ s) d l e = absurd (omega arith)
held_from_slack [] [] (b ∷ right) s d l e = absurd (cc)
held_from_slack [] (a ∷ sums) right s d l e = absurd (omega arith)
held_from_slack (Eq ∷ rs) [] right s d l e = absurd (omega arith)
held_from_slack (Le ∷ rs) [] right s d l e = absurd (omega arith)
held_from_slack (Eq ∷ rs) (a ∷ sums) [] s d l e = absurd (cc)
held_from_slack (Eq ∷ rs) (a ∷ sums) (b ∷ right) s d l e =
    let same : a + 0 ≡ b = cons_head e in
    let rest = held_from_slack rs sums right s (omega arith) (l ∙ length-map (row_slacks rs) (λ c. 0 ∷ c)) (cons_tail e) in
    ((omega arith, rest.0), rest.1)
held_from_slack (Le ∷ rs) (a ∷ sums) right [] d l e = absurd (omega arith)
held_from_slack (Le ∷ rs) (a ∷ sums) [] (t ∷ s) d l e = absurd (cc)
held_from_slack (Le ∷ rs) (a ∷ sums) (b ∷ right) (t ∷ s) d l e =
    let same : a + t ≡ b = cons_head e in
    let rest = held_from_slack rs sums right s (omega arith) (omega (arith, length-map (row_slacks rs) (λ c. 0 ∷ c))) (cons_tail e) in
    ((omega arith, rest.0), cons_same (omega arith) rest.1)

-- ---- the slacks of bounds

-- how far each number that has a bound stays below it
abbrev pub bounded_slack : List (Option ℕ) → List ℕ → List ℕ
bounded_slack [] x = []
bounded_slack (None ∷ us) [] = bounded_slack us []
bounded_slack (None ∷ us) (x ∷ xs) = bounded_slack us xs
bounded_slack (Some u ∷ us) [] = u ∷ bounded_slack us []
bounded_slack (Some u ∷ us) (x ∷ xs) = (u - x) ∷ bounded_slack us xs

pub length-bounded_slack : (us : List (Option ℕ)) (x : List ℕ) → length (bounded_slack us x) ≡ length (given_in us)
length-bounded_slack [] x = refl
length-bounded_slack (None ∷ us) [] = length-bounded_slack us []
length-bounded_slack (None ∷ us) (x ∷ xs) = length-bounded_slack us xs
length-bounded_slack (Some u ∷ us) [] = ap suc (length-bounded_slack us [])
length-bounded_slack (Some u ∷ us) (x ∷ xs) = ap suc (length-bounded_slack us xs)

pub bounded_to_slack : (us : List (Option ℕ)) (x : List ℕ) → AreBounded us x → add (picked us x) (bounded_slack us x) ≡ given_in us
bounded_to_slack [] [] h = refl
bounded_to_slack [] (x ∷ xs) h = absurd h
bounded_to_slack (None ∷ us) [] h = absurd h
bounded_to_slack (Some u ∷ us) [] h = absurd h
bounded_to_slack (None ∷ us) (x ∷ xs) h = bounded_to_slack us xs h
bounded_to_slack (Some u ∷ us) (x ∷ xs) h = cons_same (let e : x ≤ u = h.0 in omega arith) (bounded_to_slack us xs h.1)

pub bounded_from_slack : (us : List (Option ℕ)) (x t : List ℕ) → length x ≡ length us → length t ≡ length (given_in us) →
    add (picked us x) t ≡ given_in us → AreBounded us x × (t ≡ bounded_slack us x)
bounded_from_slack [] [] [] d l e = (tt, refl)
bounded_from_slack [] [] (y ∷ t) d l e = absurd (omega arith)
bounded_from_slack [] (x ∷ xs) t d l e = absurd (omega arith)
bounded_from_slack (None ∷ us) [] t d l e = absurd (omega arith)
bounded_from_slack (Some u ∷ us) [] t d l e = absurd (omega arith)
bounded_from_slack (None ∷ us) (x ∷ xs) t d l e = bounded_from_slack us xs t (omega arith) l e
bounded_from_slack (Some u ∷ us) (x ∷ xs) [] d l e = absurd (omega arith)
bounded_from_slack (Some u ∷ us) (x ∷ xs) (y ∷ t) d l e =
    let same : x + y ≡ u = cons_head e in
    let rest = bounded_from_slack us xs t (omega arith) (omega arith) (cons_tail e) in
    ((omega arith, rest.0), cons_same (omega arith) rest.1)
