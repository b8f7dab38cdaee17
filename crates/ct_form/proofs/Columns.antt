-- Sums of columns that are joined, put over others, or put under a 0.
use Rattle.std.proofs.Common.{ℕ, ◌+◌, ◌*◌, ◌≡◌, List, [], ◌∷◌, ◌++◌, length, map, refl, sym, ap, ap₂, ◌∙◌, arith, zero, suc, length-append}
use Rattle.std.specs.List.{AllByRecursion}
use Rattle.ct_vectors.specs.Vectors.{add, scale, zeros}
use Rattle.ct_vectors.proofs.Sums.{cons_same, length-zeros, length-scale, length-add_same, add-zeros, zeros-add, add_assoc}
use Rattle.ct_vectors.proofs.Places.{add-append, zeros-append}
use Rattle.ct_instance.specs.Answer.{weighted_sum}
use Rattle.ct_form.specs.EqualityForms.{under, over}

-- columns of m numbers
abbrev pub AreWide : ℕ → List (List ℕ) → Type 0
AreWide m cs = AllByRecursion (λ c. length c ≡ m) cs

pub wide-append : (m : ℕ) (cs ds : List (List ℕ)) → AreWide m cs → AreWide m ds → AreWide m (cs ++ ds)
wide-append m [] ds a b = b
wide-append m (c ∷ cs) ds a b = (a.0, wide-append m cs ds a.1 b)

pub wide-under : (m : ℕ) (cs : List (List ℕ)) → AreWide m cs → AreWide (suc m) (under 0 cs)
wide-under m [] a = tt
wide-under m (c ∷ cs) a = (ap suc a.0, wide-under m cs a.1)

pub wide-over : (m k : ℕ) (cs ds : List (List ℕ)) → length cs ≡ length ds → AreWide m cs → AreWide k ds → AreWide (m + k) (over cs ds)
wide-over m k [] [] e a b = tt
wide-over m k [] (d ∷ ds) e a b = absurd (omega arith)
wide-over m k (c ∷ cs) [] e a b = absurd (omega arith)
wide-over m k (c ∷ cs) (d ∷ ds) e a b = (length-append c d ∙ ap₂ ◌+◌ a.0 b.0, wide-over m k cs ds (omega arith) a.1 b.1)

pub length-over : (cs ds : List (List ℕ)) → length cs ≡ length ds → length (over cs ds) ≡ length cs
length-over [] ds e = refl
length-over (c ∷ cs) [] e = refl
length-over (c ∷ cs) (d ∷ ds) e = ap suc (length-over cs ds (omega arith))

pub length-weighted : (m : ℕ) (cs : List (List ℕ)) (x : List ℕ) → AreWide m cs → length (weighted_sum m cs x) ≡ m
length-weighted m [] x a = length-zeros m
length-weighted m (c ∷ cs) [] a = length-zeros m
length-weighted m (c ∷ cs) (x ∷ xs) a = length-add_same (scale x c) (weighted_sum m cs xs) (length-scale x c ∙ a.0) (length-weighted m cs xs a.1)

scale-append : (t : ℕ) (p q : List ℕ) → scale t (p ++ q) ≡ scale t p ++ scale t q
scale-append t [] q = refl
scale-append t (x ∷ p) q = ap (λ (r : List ℕ). (t * x) ∷ r) (scale-append t p q)

pub scale-zeros : (t n : ℕ) → scale t (zeros n) ≡ zeros n
scale-zeros t zero = refl
scale-zeros t (suc n) = cons_same (omega arith) (scale-zeros t n)

-- no column counts
pub weighted-nil : (m : ℕ) (cs : List (List ℕ)) → weighted_sum m cs [] ≡ zeros m
weighted-nil m [] = refl
weighted-nil m (c ∷ cs) = refl

-- a list that is joined
pub weighted-append : (m : ℕ) (cs ds : List (List ℕ)) (x y : List ℕ) → AreWide m ds → length x ≡ length cs →
    weighted_sum m (cs ++ ds) (x ++ y) ≡ add (weighted_sum m cs x) (weighted_sum m ds y)
weighted-append m [] ds [] y b e = sym (zeros-add m (weighted_sum m ds y) (omega (arith, length-weighted m ds y b)))
weighted-append m [] ds (x ∷ xs) y b e = absurd (omega arith)
weighted-append m (c ∷ cs) ds [] y b e = absurd (omega arith)
weighted-append m (c ∷ cs) ds (x ∷ xs) y b e =
    ap (add (scale x c)) (weighted-append m cs ds xs y b (omega arith)) ∙ sym (add_assoc (scale x c) (weighted_sum m cs xs) (weighted_sum m ds y))

-- columns with others below them
pub weighted-over : (m k : ℕ) (cs ds : List (List ℕ)) (x : List ℕ) → length cs ≡ length ds → AreWide m cs → AreWide k ds →
    weighted_sum (m + k) (over cs ds) x ≡ weighted_sum m cs x ++ weighted_sum k ds x
weighted-over m k [] [] x e a b = sym (zeros-append m k)
weighted-over m k [] (d ∷ ds) x e a b = absurd (omega arith)
weighted-over m k (c ∷ cs) [] x e a b = absurd (omega arith)
weighted-over m k (c ∷ cs) (d ∷ ds) [] e a b = sym (zeros-append m k)
weighted-over m k (c ∷ cs) (d ∷ ds) (x ∷ xs) e a b =
    ap₂ add (scale-append x c d) (weighted-over m k cs ds xs (omega arith) a.1 b.1) ∙
    add-append (scale x c) (scale x d) (weighted_sum m cs xs) (weighted_sum k ds xs) (length-scale x c ∙ a.0 ∙ sym (length-weighted m cs xs a.1))

-- columns under a 0
pub weighted-under : (m : ℕ) (cs : List (List ℕ)) (x : List ℕ) → weighted_sum (suc m) (under 0 cs) x ≡ 0 ∷ weighted_sum m cs x
weighted-under m [] x = refl
weighted-under m (c ∷ cs) [] = refl
weighted-under m (c ∷ cs) (x ∷ xs) = ap (add (x * 0 ∷ scale x c)) (weighted-under m cs xs) ∙ cons_same (omega arith) refl

-- columns with zeros below them
pub weighted-above : (m k : ℕ) (cs : List (List ℕ)) (x : List ℕ) → AreWide m cs → weighted_sum (m + k) (map (λ c. c ++ zeros k) cs) x ≡ weighted_sum m cs x ++ zeros k
weighted-above m k [] x a = sym (zeros-append m k)
weighted-above m k (c ∷ cs) [] a = sym (zeros-append m k)
weighted-above m k (c ∷ cs) (x ∷ xs) a =
    ap₂ add (scale-append x c (zeros k) ∙ ap (λ (r : List ℕ). scale x c ++ r) (scale-zeros x k)) (weighted-above m k cs xs a.1) ∙
    add-append (scale x c) (zeros k) (weighted_sum m cs xs) (zeros k) (length-scale x c ∙ a.0 ∙ sym (length-weighted m cs xs a.1)) ∙
    ap (λ (r : List ℕ). add (scale x c) (weighted_sum m cs xs) ++ r) (add-zeros (zeros k) k (omega (arith, length-zeros k)))

-- columns with zeros above them
pub weighted-below : (m k : ℕ) (cs : List (List ℕ)) (x : List ℕ) → weighted_sum (m + k) (map (λ c. zeros m ++ c) cs) x ≡ zeros m ++ weighted_sum k cs x
weighted-below m k [] x = sym (zeros-append m k)
weighted-below m k (c ∷ cs) [] = sym (zeros-append m k)
weighted-below m k (c ∷ cs) (x ∷ xs) =
    ap₂ add (scale-append x (zeros m) c ∙ ap (λ (r : List ℕ). r ++ scale x c) (scale-zeros x m)) (weighted-below m k cs xs) ∙
    add-append (zeros m) (scale x c) (zeros m) (weighted_sum k cs xs) refl ∙
    ap (λ (r : List ℕ). r ++ add (scale x c) (weighted_sum k cs xs)) (add-zeros (zeros m) m (omega (arith, length-zeros m)))

pub wide-above : (m k : ℕ) (cs : List (List ℕ)) → AreWide m cs → AreWide (m + k) (map (λ c. c ++ zeros k) cs)
wide-above m k [] a = tt
wide-above m k (c ∷ cs) a = (length-append c (zeros k) ∙ ap₂ ◌+◌ a.0 (length-zeros k), wide-above m k cs a.1)

pub wide-below : (m k : ℕ) (cs : List (List ℕ)) → AreWide k cs → AreWide (m + k) (map (λ c. zeros m ++ c) cs)
wide-below m k [] a = tt
wide-below m k (c ∷ cs) a = (length-append (zeros m) c ∙ ap₂ ◌+◌ (length-zeros m) a.0, wide-below m k cs a.1)
