-- The fiber in the order in which the listing comes by its points.
use Rattle.std.proofs.Common.{◌≡◌, ℕ, ◌+◌, ◌-◌, ◌*◌, ◌≤◌, ◌<◌, ◌⊎◌, inl, inr, Bool, true, false, cond, All, List, [], ◌∷◌, ◌++◌, length, take, drop, get_or, set, map, filter, refl, sym, ap, ◌∙◌, subst, arith, zero, suc}
use Rattle.std.proofs.lemmas.List.{append-nil, append_assoc, map-append, map-id, drop_more, drop_all, take_more_set, get_or_default}
use Rattle.std.proofs.lemmas.List.Elements.{filter-append}
use Rattle.std.proofs.lemmas.List.Sums.{fold-append}
use Rattle.std.proofs.lemmas.Grind.{flat_map-append}
use Rattle.std.specs.List.{flat_map, best_of}
use Rattle.ct_vectors.specs.Vectors.{total, add, subtract, scale, up_to, Divides, divides}
use Rattle.ct_vectors.proofs.Sums.{scale_of_sum, scale-one, scale-zero, length-scale, add_comm, subtract-zeros}
use Rattle.ct_vectors.proofs.Divisors.{Divides-from_test, test_from_Divides, Divides-trans, Divides-scale, Divides-both, Divides-at, Divides-from_at, add-subtract, zeros-divide, times-le-total}
use Rattle.ct_point.proofs.Places.{get_or-scale, get_or-subtract}
use Rattle.ct_vectors.specs.declared.limits.TheConstants.{JOB_GRADE_LIMIT}
use Rattle.ct_instance.proofs.Grades.{get_or-le-total}
use Rattle.ct_instance.specs.Instance.{Problem, IsPoint}
use Rattle.ct_instance.specs.Fiber.{fiber_of, is_lower}

-- the points whose next number is below x: the front, then that number, then a point of what it leaves
pub seen : List ℕ → List ℕ → List (List ℕ) → List ℕ → ℕ → List (List ℕ)
seen front c cs b zero = []
seen front c cs b (suc x) = seen front c cs b x ++ map (λ q. (front ++ x ∷ []) ++ q) (fiber_of cs (subtract b (scale x c)))

pub seen_none : (front c : List ℕ) (cs : List (List ℕ)) (b : List ℕ) → seen front c cs b 0 ≡ []
unfolding seen
seen_none front c cs b = refl

pub seen_more : (front c : List ℕ) (cs : List (List ℕ)) (b : List ℕ) (x : ℕ) →
    seen front c cs b (x + 1) ≡ seen front c cs b x ++ map (λ q. (front ++ x ∷ []) ++ q) (fiber_of cs (subtract b (scale x c)))
unfolding seen
seen_more front c cs b x = ap (seen front c cs b) (add_one x)
  where
    add_one : (n : ℕ) → n + 1 ≡ suc n
    add_one n = omega arith

filter_fails : (t : ℕ → Bool) (x : ℕ) → t x ≡ false → filter t (x ∷ []) ≡ []
filter_fails t x e = ap (λ v. cond v (x ∷ []) []) e

filter_passes : (t : ℕ → Bool) (x : ℕ) → t x ≡ true → filter t (x ∷ []) ≡ x ∷ []
filter_passes t x e = ap (λ v. cond v (x ∷ []) []) e

filter_all : (t : ℕ → Bool) (k : ℕ) → ((x : ℕ) → x ≤ k → t x ≡ true) → filter t (up_to k) ≡ up_to k
filter_all t zero pass = filter_passes t 0 (pass 0 (omega arith))
filter_all t (suc k) pass =
    filter-append t (up_to k) (suc k ∷ []) ∙
    ap (λ l. l ++ filter t (suc k ∷ [])) (filter_all t k (λ x l. pass x (omega arith))) ∙
    ap (λ l. up_to k ++ l) (filter_passes t (suc k) (pass (suc k) (omega arith)))

-- a test that passes up to k and fails above it keeps the numbers up to k
filter_front : (t : ℕ → Bool) (k n : ℕ) → k ≤ n → ((x : ℕ) → x ≤ k → t x ≡ true) → ((x : ℕ) → k < x → t x ≡ false) → filter t (up_to n) ≡ up_to k
filter_front t zero zero l pass fail = filter_all t 0 pass
filter_front t (suc k) zero l pass fail = absurd (omega arith)
filter_front t k (suc n) l pass fail = by_place (either k n l) (λ m. filter_front t k n m pass fail)
  where
    either : (k n : ℕ) → k ≤ suc n → (k ≤ n) ⊎ (k ≡ suc n)
    either k n l = grind arith

    by_place : (k ≤ n) ⊎ (k ≡ suc n) → (k ≤ n → filter t (up_to n) ≡ up_to k) → filter t (up_to (suc n)) ≡ up_to k
    by_place (inl m) shorter =
        filter-append t (up_to n) (suc n ∷ []) ∙ ap (λ l. filter t (up_to n) ++ l) (filter_fails t (suc n) (fail (suc n) (omega arith))) ∙
        append-nil (filter t (up_to n)) ∙ shorter m
    by_place (inr e) shorter = subst (λ i. filter t (up_to i) ≡ up_to k) e (filter_all t k pass)

map-map : (front : List ℕ) (x : ℕ) (ps : List (List ℕ)) → map (λ q. front ++ q) (map (λ p. x ∷ p) ps) ≡ map (λ q. (front ++ x ∷ []) ++ q) ps
map-map front x [] = refl
map-map front x (p ∷ ps) = cons_both (sym (append_assoc front (x ∷ []) p)) (map-map front x ps)
  where
    cons_both : {p q : List ℕ} {ps qs : List (List ℕ)} → p ≡ q → ps ≡ qs → p ∷ ps ≡ q ∷ qs
    cons_both e f = cc

listed : (front c : List ℕ) (cs : List (List ℕ)) (b : List ℕ) (k : ℕ) →
    map (λ q. front ++ q) (flat_map (λ x. map (λ p. x ∷ p) (fiber_of cs (subtract b (scale x c)))) (up_to k)) ≡ seen front c cs b (suc k)
unfolding seen
listed front c cs b zero =
    ap (map (λ q. front ++ q)) (append-nil (map (λ p. 0 ∷ p) (fiber_of cs (subtract b (scale 0 c))))) ∙ map-map front 0 (fiber_of cs (subtract b (scale 0 c)))
listed front c cs b (suc k) =
    ap (map (λ q. front ++ q)) (flat_map-append (λ x. map (λ p. x ∷ p) (fiber_of cs (subtract b (scale x c)))) (up_to k) (suc k ∷ []) ∙
    ap (λ l. flat_map (λ x. map (λ p. x ∷ p) (fiber_of cs (subtract b (scale x c)))) (up_to k) ++ l) (append-nil (map (λ p. suc k ∷ p) (fiber_of cs (subtract b (scale (suc k) c)))))) ∙
    map-append (λ q. front ++ q) (flat_map (λ x. map (λ p. x ∷ p) (fiber_of cs (subtract b (scale x c)))) (up_to k)) (map (λ p. suc k ∷ p) (fiber_of cs (subtract b (scale (suc k) c)))) ∙
    ap (λ l. l ++ map (λ q. front ++ q) (map (λ p. suc k ∷ p) (fiber_of cs (subtract b (scale (suc k) c))))) (listed front c cs b k) ∙
    ap (λ l. seen front c cs b (suc k) ++ l) (map-map front (suc k) (fiber_of cs (subtract b (scale (suc k) c))))

not_divides : (h p : List ℕ) → (Divides h p → ⊥) → divides h p ≡ false
not_divides h p never = by (divides h p) refl
  where
    by : (v : Bool) → divides h p ≡ v → v ≡ false
    by true e = absurd (never (Divides-from_test h p e))
    by false e = refl

-- the fiber is what was seen when the next multiple of the column no longer fits
pub all_seen : (front c : List ℕ) (cs : List (List ℕ)) (b : List ℕ) (x : ℕ) → 1 ≤ total c → Divides (scale x c) b → (Divides (scale (x + 1) c) b → ⊥) →
    map (λ q. front ++ q) (fiber_of (c ∷ cs) b) ≡ seen front c cs b (x + 1)
unfolding fiber_of
all_seen front c cs b x pos fits never =
    ap (λ l. map (λ q. front ++ q) (flat_map (λ y. map (λ p. y ∷ p) (fiber_of cs (subtract b (scale y c)))) l))
    (filter_front (λ y. divides (scale y c) b) x (total b) (times-le-total x c b pos fits)
    (λ y l. test_from_Divides (scale y c) b (Divides-trans (scale y c) (scale x c) b (Divides-scale y x c l) fits))
    (λ y l. not_divides (scale y c) b (λ d. never (Divides-trans (scale (x + 1) c) (scale y c) b (Divides-scale (x + 1) y c (omega arith)) d)))) ∙
    listed front c cs b x ∙ ap (seen front c cs b) (add_one x)
  where
    add_one : (n : ℕ) → suc n ≡ n + 1
    add_one n = omega arith

-- the lowest of one list and then another
pub best_of-append : (beats : List ℕ → List ℕ → Bool) (a : List ℕ) (xs ys : List (List ℕ)) →
    best_of beats a (xs ++ ys) ≡ best_of beats (best_of beats a xs) ys
best_of-append beats a xs ys = fold-append (λ b x. cond (beats x b) x b) a xs ys

-- the state of the loop over the numbers of one column: what was seen, and what is left for the next number
pub record IsListing (i : Problem) (j : ℕ) (front rest column first : List ℕ) (x : ℕ) (point left best : List ℕ) : Type 0 where
  pub lowest : best ≡ best_of (is_lower i) first (seen (take j front) column (drop (j + 1) i.columns) rest x)
  pub same_front : take j point ≡ take j front
  pub fits : Divides (scale x column) rest
  pub remains : left ≡ subtract rest (scale x column)
  pub point_width : IsPoint i point
  pub best_width : IsPoint i best
  pub point_limit : All (λ y. y ≤ JOB_GRADE_LIMIT) point
  pub best_limit : All (λ y. y ≤ JOB_GRADE_LIMIT) best

-- where no column is left, the one point is the front with what is left as its artificials
pub last_point : (i : Problem) (j : ℕ) (front rest best : List ℕ) → length i.columns ≤ j →
    best_of (is_lower i) best (map (λ q. take j front ++ q) (fiber_of (drop j i.columns) rest)) ≡ cond (is_lower i (take j front ++ rest) best) (take j front ++ rest) best
unfolding fiber_of
last_point i j front rest best l =
    ap (λ cs. best_of (is_lower i) best (map (λ q. take j front ++ q) (fiber_of cs rest))) (drop_all j i.columns l)

subtract-subtract : (p a b : List ℕ) → subtract (subtract p a) b ≡ subtract p (add a b)
subtract-subtract [] a b = refl
subtract-subtract (x ∷ p) [] b = refl
subtract-subtract (x ∷ p) (y ∷ a) [] = refl
subtract-subtract (x ∷ p) (y ∷ a) (z ∷ b) =
    let first : x - y - z ≡ x - (y + z) = omega arith in
    let rest : subtract (subtract p a) b ≡ subtract p (add a b) = subtract-subtract p a b in
    cc

next_multiple : (x : ℕ) (c : List ℕ) → scale (x + 1) c ≡ add (scale x c) c
next_multiple x c = scale_of_sum x 1 c ∙ ap (add (scale x c)) (scale-one c)

-- one multiple more fits exactly where the column fits into what is left
pub next_fits : (x : ℕ) (c b : List ℕ) → length c ≡ length b → Divides (scale x c) b → Divides c (subtract b (scale x c)) → Divides (scale (x + 1) c) b
next_fits x c b len fits more =
    let widths : length (scale x c) ≤ length b = let e : length (scale x c) ≡ length c = length-scale x c in omega arith in
    subst (λ s. Divides s b) (sym (next_multiple x c))
    (subst (λ p. Divides (add (scale x c) c) p) (add_comm (scale x c) (subtract b (scale x c)) ∙ add-subtract b (scale x c) widths fits)
    (Divides-both (scale x c) c (subtract b (scale x c)) more))

pub fits_next : (x : ℕ) (c b : List ℕ) → length c ≡ length b → Divides (scale (x + 1) c) b → Divides c (subtract b (scale x c))
fits_next x c b len fits =
    Divides-from_at c (subtract b (scale x c)) (λ k.
    let at : get_or (scale (x + 1) c) k 0 ≤ get_or b k 0 = Divides-at (scale (x + 1) c) b fits k in
    let whole : get_or (scale (x + 1) c) k 0 ≡ (x + 1) * get_or c k 0 = get_or-scale (x + 1) c k in
    let part : get_or (scale x c) k 0 ≡ x * get_or c k 0 = get_or-scale x c k in
    let rest : get_or (subtract b (scale x c)) k 0 ≡ get_or b k 0 - get_or (scale x c) k 0 = get_or-subtract b (scale x c) k in
    one_more x (get_or c k 0) (get_or b k 0) at whole part rest)
  where
    one_more : (x a y : ℕ) {s r p : ℕ} → s ≤ y → s ≡ (x + 1) * a → p ≡ x * a → r ≡ y - p → a ≤ r
    one_more x a y h e f g = omega arith

pub next_remains : (x : ℕ) (c b left : List ℕ) → left ≡ subtract b (scale x c) → subtract left c ≡ subtract b (scale (x + 1) c)
next_remains x c b left e =
    ap (λ l. subtract l c) e ∙ subtract-subtract b (scale x c) c ∙ ap (subtract b) (sym (next_multiple x c))

-- the front with one number more
pub longer_front : (j x : ℕ) (point front : List ℕ) → j < length point → take j point ≡ take j front → take (j + 1) (set point j x) ≡ take j front ++ x ∷ []
longer_front j x point front l e = take_more_set point j x l ∙ ap (λ p. p ++ x ∷ []) e

-- what one turn of the loop adds
pub next_lowest : (i : Problem) (j : ℕ) (front rest column first : List ℕ) (x : ℕ) (point left best next : List ℕ) →
    IsListing i j front rest column first x point left best → j < length point →
    next ≡ best_of (is_lower i) best (map (λ q. take (j + 1) (set point j x) ++ q) (fiber_of (drop (j + 1) i.columns) left)) →
    next ≡ best_of (is_lower i) first (seen (take j front) column (drop (j + 1) i.columns) rest (x + 1))
next_lowest i j front rest column first x point left best next s l e =
    e ∙ ap (λ p. best_of (is_lower i) best (map (λ q. p ++ q) (fiber_of (drop (j + 1) i.columns) left))) (longer_front j x point front l s.same_front) ∙
    ap (λ r. best_of (is_lower i) best (map (λ q. (take j front ++ x ∷ []) ++ q) (fiber_of (drop (j + 1) i.columns) r))) s.remains ∙
    ap (λ a. best_of (is_lower i) a (map (λ q. (take j front ++ x ∷ []) ++ q) (fiber_of (drop (j + 1) i.columns) (subtract rest (scale x column))))) s.lowest ∙
    sym (best_of-append (is_lower i) first (seen (take j front) column (drop (j + 1) i.columns) rest x)
    (map (λ q. (take j front ++ x ∷ []) ++ q) (fiber_of (drop (j + 1) i.columns) (subtract rest (scale x column))))) ∙
    ap (best_of (is_lower i) first) (sym (seen_more (take j front) column (drop (j + 1) i.columns) rest x))

-- the loop ends where the column no longer fits: then the whole fiber was seen
pub whole_lowest : (i : Problem) (j : ℕ) (front rest column first : List ℕ) (x : ℕ) (next : List ℕ) → j < length i.columns → column ≡ get_or i.columns j [] →
    1 ≤ total column → Divides (scale x column) rest → (Divides (scale (x + 1) column) rest → ⊥) →
    next ≡ best_of (is_lower i) first (seen (take j front) column (drop (j + 1) i.columns) rest (x + 1)) →
    next ≡ best_of (is_lower i) first (map (λ q. take j front ++ q) (fiber_of (drop j i.columns) rest))
whole_lowest i j front rest column first x next l is pos fits never e =
    e ∙ ap (best_of (is_lower i) first) (sym (all_seen (take j front) column (drop (j + 1) i.columns) rest x pos fits never) ∙
    ap (λ cs. map (λ q. take j front ++ q) (fiber_of cs rest)) (ap (λ c. c ∷ drop (j + 1) i.columns) is ∙ sym (drop_more i.columns j [] l)))

-- a whole fiber is what follows an empty front
pub whole_fiber : (i : Problem) (b point first : List ℕ) →
    best_of (is_lower i) first (map (λ q. take 0 point ++ q) (fiber_of (drop 0 i.columns) b)) ≡ best_of (is_lower i) first (fiber_of i.columns b)
whole_fiber i b point first = ap (best_of (is_lower i) first) (map-id (fiber_of i.columns b))

pub listing_starts : (i : Problem) (j : ℕ) (point rest column best left : List ℕ) → left ≡ rest → IsPoint i point → IsPoint i best →
    All (λ y. y ≤ JOB_GRADE_LIMIT) point → All (λ y. y ≤ JOB_GRADE_LIMIT) best → IsListing i j point rest column best 0 point left best
listing_starts i j point rest column best left e pw bw pl bl = record {
  lowest = ap (best_of (is_lower i) best) (sym (seen_none (take j point) column (drop (j + 1) i.columns) rest));
  same_front = refl;
  fits = subst (λ s. Divides s rest) (sym (scale-zero column)) (zeros-divide (length column) rest);
  remains = e ∙ sym (ap (subtract rest) (scale-zero column) ∙ subtract-zeros rest (length column));
  point_width = pw;
  best_width = bw;
  point_limit = pl;
  best_limit = bl;
}

pub each-within-total : (k : ℕ) (p : List ℕ) → total p ≤ k → All (λ y. y ≤ k) p
each-within-total k p h i d l =
    let at : get_or p i 0 ≤ total p = get_or-le-total p i in
    let same : get_or p i d ≡ get_or p i 0 = get_or_default p i d 0 l in
    omega arith
