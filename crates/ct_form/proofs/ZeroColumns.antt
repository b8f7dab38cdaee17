-- The first zero column of an equality form.
use Rattle.std.proofs.Common.{ℕ, ◌+◌, ◌≤◌, ◌≡◌, ⊎_elim, Bool, true, false, cond, not, nat_eq, ltb, List, [], ◌∷◌, ◌++◌, length, map, Option, Some, None, refl, sym, ap, ap₂, ◌∙◌, arith, zero, suc}
use Rattle.std.specs.Prelude.{position}
use Rattle.std.specs.List.{AllByRecursion, position_or_len, zip}
use Rattle.std.specs.Option.{option_map}
use Rattle.std.proofs.lemmas.Bool.{cases_lt, le-ltb, lt-ltb}
use Rattle.std.proofs.Math.Dec.{eqb-suc-zero}
use Rattle.ct_vectors.specs.Vectors.{total, zeros}
use Rattle.ct_vectors.proofs.Sums.{total-zeros}
use Rattle.ct_form.specs.declared.relation.Relation.{Relation}
use Rattle.ct_form.specs.declared.relation.Relation.TheVariants.{Eq, Le}
use Rattle.ct_form.specs.Forms.{Form, given_in}
use Rattle.ct_form.specs.EqualityForms.{under, over, row_slacks, bound_parts, bound_slacks, bound_count, slack_columns, equal_columns}
use Rattle.ct_form.specs.Kept.{is_free_zero, free_zero_of}
use Rattle.ct_form.proofs.Slacks.{length-bound_parts}

-- ---- the first place at which a test passes

ltb_step : (k l : ℕ) → ltb (1 + k) (suc l) ≡ ltb k l
ltb_step k l =
    ⊎_elim (λ h. lt-ltb (1 + k) (suc l) (omega arith) ∙ sym (lt-ltb k l h))
    (λ h. le-ltb (1 + k) (suc l) (omega arith) ∙ sym (le-ltb k l h)) (cases_lt k l)

position_cons : {X : Type 0} (p : X → Bool) (x : X) (xs : List X) → position p (x ∷ xs) ≡ cond (p x) (Some 0) (option_map (λ k. k + 1) (position p xs))
position_cons p x xs = go (p x)
  where
    k : ℕ
    k = position_or_len p xs

    l : ℕ
    l = length xs

    later : (t : Bool) → cond t (Some (1 + k)) None ≡ option_map (λ k. k + 1) (cond t (Some k) None)
    later true = ap Some (omega arith)
    later false = refl

    go : (t : Bool) → cond (ltb (cond (not t) (1 + k) 0) (suc l)) (Some (cond (not t) (1 + k) 0)) None ≡ cond t (Some 0) (option_map (λ k. k + 1) (cond (ltb k l) (Some k) None))
    go true = ap (λ t. cond t (Some 0) None) (lt-ltb 0 (suc l) (omega arith))
    go false = ap (λ t. cond t (Some (1 + k)) None) (ltb_step k l) ∙ later (ltb k l)

-- ---- zero columns

abbrev zero_in : List (List ℕ) → Option ℕ
zero_in cs = position (λ s. nat_eq s 0) (map total cs)

abbrev next_of : Bool → Option ℕ → Option ℕ
next_of t rest = cond t (Some 0) (option_map (λ k. k + 1) rest)

zero_cons : (c : List ℕ) (cs : List (List ℕ)) → zero_in (c ∷ cs) ≡ next_of (nat_eq (total c) 0) (zero_in cs)
zero_cons c cs = position_cons (λ s. nat_eq s 0) (total c) (map total cs)

not_zero : (s : ℕ) → 1 ≤ s → nat_eq s 0 ≡ false
not_zero zero h = absurd (omega arith)
not_zero (suc s) h = eqb-suc-zero s

none_zero : (cs : List (List ℕ)) → AllByRecursion (λ c. 1 ≤ total c) cs → zero_in cs ≡ None
none_zero [] a = refl
none_zero (c ∷ cs) a = zero_cons c cs ∙ ap₂ next_of (not_zero (total c) a.0) (none_zero cs a.1)

zero_append : (cs ds : List (List ℕ)) → zero_in ds ≡ None → zero_in (cs ++ ds) ≡ zero_in cs
zero_append [] ds none = none
zero_append (c ∷ cs) ds none =
    zero_cons c (cs ++ ds) ∙ ap (next_of (nat_eq (total c) 0)) (zero_append cs ds none) ∙ sym (zero_cons c cs)

total-append : (p q : List ℕ) → total (p ++ q) ≡ total p + total q
total-append [] q = omega arith
total-append (x ∷ p) q = omega (arith, total-append p q)

-- ---- slack columns aren't zero

abbrev ArePositive : List (List ℕ) → Type 0
ArePositive cs = AllByRecursion (λ c. 1 ≤ total c) cs

positive_under : (cs : List (List ℕ)) → ArePositive cs → ArePositive (under 0 cs)
positive_under [] a = tt
positive_under (c ∷ cs) a = (let h : 1 ≤ total c = a.0 in omega arith, positive_under cs a.1)

positive_row_slacks : (rs : List Relation) → ArePositive (row_slacks rs)
positive_row_slacks [] = tt
positive_row_slacks (Eq ∷ rs) = positive_under (row_slacks rs) (positive_row_slacks rs)
positive_row_slacks (Le ∷ rs) = (omega arith, positive_under (row_slacks rs) (positive_row_slacks rs))

positive_bound_slacks : (k : ℕ) → ArePositive (bound_slacks k)
positive_bound_slacks zero = tt
positive_bound_slacks (suc k) = (omega arith, positive_under (bound_slacks k) (positive_bound_slacks k))

positive_above : (k : ℕ) (cs : List (List ℕ)) → ArePositive cs → ArePositive (map (λ c. c ++ zeros k) cs)
positive_above k [] a = tt
positive_above k (c ∷ cs) a = (let h : 1 ≤ total c = a.0 in omega (arith, total-append c (zeros k)), positive_above k cs a.1)

positive_below : (m : ℕ) (cs : List (List ℕ)) → ArePositive cs → ArePositive (map (λ c. zeros m ++ c) cs)
positive_below m [] a = tt
positive_below m (c ∷ cs) a = (let h : 1 ≤ total c = a.0 in omega (arith, total-append (zeros m) c), positive_below m cs a.1)

positive_append : (cs ds : List (List ℕ)) → ArePositive cs → ArePositive ds → ArePositive (cs ++ ds)
positive_append [] ds a b = b
positive_append (c ∷ cs) ds a b = (a.0, positive_append cs ds a.1 b)

pub positive_slacks : (f : Form) → ArePositive (slack_columns f)
positive_slacks f =
    positive_append (map (λ c. c ++ zeros (bound_count f)) (row_slacks f.relations)) (map (λ c. zeros f.rows ++ c) (bound_slacks (bound_count f)))
    (positive_above (bound_count f) (row_slacks f.relations) (positive_row_slacks f.relations))
    (positive_below f.rows (bound_slacks (bound_count f)) (positive_bound_slacks (bound_count f)))

-- ---- the columns of A with their parts

totals_under : (cs ds : List (List ℕ)) → length cs ≡ length ds → map total (over cs (under 0 ds)) ≡ map total (over cs ds)
totals_under [] ds e = refl
totals_under (c ∷ cs) [] e = refl
totals_under (c ∷ cs) (d ∷ ds) e =
    ap₂ ◌∷◌ (omega (arith, total-append c (0 ∷ d), total-append c d)) (totals_under cs ds (omega arith))

zero_over : (cs : List (List ℕ)) (us : List (Option ℕ)) → length us ≡ length cs → zero_in (over cs (bound_parts us)) ≡ free_zero_of cs us
zero_over [] us e = refl
zero_over (c ∷ cs) [] e = absurd (omega arith)
zero_over (c ∷ cs) (None ∷ us) e =
    zero_cons (c ++ zeros (length (given_in us))) (over cs (bound_parts us)) ∙
    ap₂ next_of (ap (λ s. nat_eq s 0) (omega (arith, total-append c (zeros (length (given_in us))), total-zeros (length (given_in us))))) (zero_over cs us (omega arith)) ∙
    sym (position_cons is_free_zero (c, None) (zip cs us))
zero_over (c ∷ cs) (Some u ∷ us) e =
    zero_cons (c ++ (1 ∷ zeros (length (given_in us)))) (over cs (under 0 (bound_parts us))) ∙
    ap₂ next_of (not_zero (total (c ++ (1 ∷ zeros (length (given_in us))))) (omega (arith, total-append c (1 ∷ zeros (length (given_in us))))))
    (ap (position (λ s. nat_eq s 0)) (totals_under cs (bound_parts us) (sym (length-bound_parts us ∙ omega arith))) ∙ zero_over cs us (omega arith)) ∙
    sym (position_cons is_free_zero (c, Some u) (zip cs us))

pub zero_column_is_free : (f : Form) → length f.bounds ≡ length f.columns → position (λ s. nat_eq s 0) (map total (equal_columns f)) ≡ free_zero_of f.columns f.bounds
zero_column_is_free f e =
    zero_append (over f.columns (bound_parts f.bounds)) (slack_columns f) (none_zero (slack_columns f) (positive_slacks f)) ∙
    zero_over f.columns f.bounds e
