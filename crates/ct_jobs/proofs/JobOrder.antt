-- The derived order of jobs is the job order, and a list in that order is told by its elements.
use Rattle.std.proofs.Common.{ℕ, ◌+◌, ◌≤◌, ◌<◌, ◌≡◌, ◌⊎◌, inl, inr, ⊎_elim, Bool, true, false, true≢false, cond, nat_eq, nat_lt, List, [], ◌∷◌, length, get_or, Contains, AllPairs, IsSorted, sum_by, refl, sym, ap, ap₂, subst, ◌∙◌, arith, zero, suc, eq-eqb}
use Rattle.std.specs.declared.cmp.Ordering.TheVariants.{Less, Equal, Greater}
use Rattle.std.specs.Ordering.{is_lt, ordering_then}
use Rattle.std.proofs.lemmas.Bool.{cases_lt, lt-ltb}
use Rattle.std.proofs.lemmas.List.Sums.{sum_by-cons}
use Rattle.ct_instance.specs.declared.jobs.Job.{Job}
use Rattle.ct_instance.specs.declared.jobs.Job.TheVariants.{Generator, Pair}
use Rattle.ct_instance.specs.contracts.jobs.JobOrd.TheImpl as derived
use Rattle.ct_instance.specs.Jobs.{JobComesBefore, is_same_job}
use Rattle.ct_instance.proofs.Lists.{Contains-here, Contains-there, Contains-cons_cases}
use Rattle.ct_instance.proofs.SameJobs.{same_job_test}
use Rattle.ct_instance.proofs.Ordered.{InOrder, InOrder-from_pairs}
use Rattle.ct_jobs.specs.GradedJobs.{IsInJobOrder}

-- k does not come before j
abbrev pub NotAfter : Job → Job → Type 0
NotAfter j k = JobComesBefore k j → ⊥

-- ---- the derived comparison

compared_first : (p q r s : Bool) → p ≡ true → is_lt (ordering_then (cond p Less (cond q Equal Greater)) (cond r Less (cond s Equal Greater))) ≡ true
compared_first true q r s e = refl
compared_first false q r s e = absurd (true≢false (sym e))

compared_second : (p q r s : Bool) → q ≡ true → r ≡ true → is_lt (ordering_then (cond p Less (cond q Equal Greater)) (cond r Less (cond s Equal Greater))) ≡ true
compared_second true true true s e f = refl
compared_second false true true s e f = refl
compared_second p false r s e f = absurd (true≢false (sym e))
compared_second p true false s e f = absurd (true≢false (sym f))

less_alone : (p q : Bool) → p ≡ true → is_lt (cond p Less (cond q Equal Greater)) ≡ true
less_alone true q e = refl
less_alone false q e = absurd (true≢false (sym e))

compares_less : (j k : Job) → JobComesBefore j k → is_lt ((derived.ghosts).cmp j k) ≡ true
compares_less (Generator j) (Generator k) h = less_alone (nat_lt j k) (nat_eq j k) (lt-ltb j k h)
compares_less (Generator j) (Pair c d) h = refl
compares_less (Pair a b) (Generator k) h = absurd h
compares_less (Pair a b) (Pair c d) (inl h) = compared_first (nat_lt a c) (nat_eq a c) (nat_lt b d) (nat_eq b d) (lt-ltb a c h)
compares_less (Pair a b) (Pair c d) (inr h) = compared_second (nat_lt a c) (nat_eq a c) (nat_lt b d) (nat_eq b d) (eq-eqb a c h.0) (lt-ltb b d h.1)

-- ---- laws of the order

not_after_pair : (a b c d : ℕ) → NotAfter (Pair a b) (Pair c d) → (a ≤ c) × (c ≡ a → b ≤ d)
not_after_pair a b c d n =
    (⊎_elim (λ h. absurd (n (inl h))) (λ h. h) (cases_lt c a), λ e. ⊎_elim (λ h. absurd (n (inr (e, h)))) (λ h. h) (cases_lt d b))

not_after_generator : (j k : ℕ) → NotAfter (Generator j) (Generator k) → j ≤ k
not_after_generator j k n = ⊎_elim (λ h. absurd (n h)) (λ h. h) (cases_lt k j)

not_after_trans : (j k l : Job) → NotAfter j k → NotAfter k l → NotAfter j l
not_after_trans (Generator j) (Generator k) (Generator l) m n h =
    let u : j ≤ k = not_after_generator j k m in let v : k ≤ l = not_after_generator k l n in omega (arith, h)
not_after_trans (Generator j) (Generator k) (Pair e f) m n h = h
not_after_trans (Generator j) (Pair c d) (Generator l) m n h = n tt
not_after_trans (Generator j) (Pair c d) (Pair e f) m n h = h
not_after_trans (Pair a b) (Generator k) l m n h = m tt
not_after_trans (Pair a b) (Pair c d) (Generator l) m n h = n tt
not_after_trans (Pair a b) (Pair c d) (Pair e f) m n h = pairs h
  where
    pairs : (e < a) ⊎ ((e ≡ a) × (f < b)) → ⊥
    pairs (inl g) =
        let u : a ≤ c = (not_after_pair a b c d m).0 in let v : c ≤ e = (not_after_pair c d e f n).0 in omega arith
    pairs (inr g) =
        let s : e ≡ a = g.0 in
        let t : f < b = g.1 in
        let u : a ≤ c = (not_after_pair a b c d m).0 in
        let v : c ≤ e = (not_after_pair c d e f n).0 in
        let x : b ≤ d = (not_after_pair a b c d m).1 (omega arith) in
        let y : d ≤ f = (not_after_pair c d e f n).1 (omega arith) in
        omega arith

not_after_antisymm : (j k : Job) → NotAfter j k → NotAfter k j → j ≡ k
not_after_antisymm (Generator j) (Generator k) m n =
    let u : j ≤ k = not_after_generator j k m in let v : k ≤ j = not_after_generator k j n in ap Generator (omega arith)
not_after_antisymm (Generator j) (Pair c d) m n = absurd (n tt)
not_after_antisymm (Pair a b) (Generator k) m n = absurd (m tt)
not_after_antisymm (Pair a b) (Pair c d) m n =
    let u : a ≤ c = (not_after_pair a b c d m).0 in
    let v : c ≤ a = (not_after_pair c d a b n).0 in
    let x : b ≤ d = (not_after_pair a b c d m).1 (omega arith) in
    let y : d ≤ b = (not_after_pair c d a b n).1 (omega arith) in
    ap₂ Pair (omega arith) (omega arith)

before_one_way : (j k : Job) → JobComesBefore j k → NotAfter j k
before_one_way (Generator j) (Generator k) h n = let u : j < k = h in let v : k < j = n in omega arith
before_one_way (Generator j) (Pair c d) h n = n
before_one_way (Pair a b) (Generator k) h n = h
before_one_way (Pair a b) (Pair c d) h n = both h n
  where
    both : (a < c) ⊎ ((a ≡ c) × (b < d)) → (c < a) ⊎ ((c ≡ a) × (d < b)) → ⊥
    both (inl x) (inl y) = omega arith
    both (inl x) (inr y) = let e : c ≡ a = y.0 in omega arith
    both (inr x) (inl y) = let e : a ≡ c = x.0 in omega arith
    both (inr x) (inr y) = let e : b < d = x.1 in let f : d < b = y.1 in omega arith

-- ---- sorted lists

neighbours : (xs : List Job) → IsSorted ((derived.ghosts).cmp) xs → (k : ℕ) (d : Job) → k + 1 < length xs → NotAfter (get_or xs k d) (get_or xs (k + 1) d)
neighbours xs s k d l b = true≢false (sym (compares_less (get_or xs (k + 1) d) (get_or xs k d) b) ∙ s k d (omega arith) l)

far : (xs : List Job) → ((k : ℕ) (d : Job) → k + 1 < length xs → NotAfter (get_or xs k d) (get_or xs (k + 1) d)) →
    (i j : ℕ) (d : Job) → i < j → j < length xs → NotAfter (get_or xs i d) (get_or xs j d)
far xs up i zero d l h = absurd (omega arith)
far xs up i (suc j) d l h =
    let e : j + 1 ≡ suc j = omega arith in
    let next : NotAfter (get_or xs j d) (get_or xs (suc j) d) = subst (λ m. NotAfter (get_or xs j d) (get_or xs m d)) e (up j d (omega arith)) in
    ⊎_elim (λ s. not_after_trans (get_or xs i d) (get_or xs j d) (get_or xs (suc j) d) (far xs up i j d s (omega arith)) next)
    (λ s. let f : j ≡ i = omega arith in subst (λ m. NotAfter (get_or xs m d) (get_or xs (suc j) d)) f next) (cases_lt i j)

pub in_job_order : (xs : List Job) → IsSorted ((derived.ghosts).cmp) xs → IsInJobOrder xs
in_job_order xs s = far xs (neighbours xs s)

-- ---- one list in order has these elements

abbrev is_job : Job → Job → ℕ
is_job x j = cond (is_same_job x j) 1 0

counted : (x : Job) (ys : List Job) → 1 ≤ sum_by (is_job x) ys → Contains ys x
counted x [] h = absurd (omega arith)
counted x (y ∷ ys) h = go (is_same_job x y) refl (counted x ys)
  where
    go : (b : Bool) → is_same_job x y ≡ b → (1 ≤ sum_by (is_job x) ys → Contains ys x) → Contains (y ∷ ys) x
    go true e rest = subst (Contains (y ∷ ys)) (sym ((same_job_test x y).0 e)) (Contains-here y ys)
    go false e rest =
        let none : is_job x y ≡ 0 = ap (λ b. cond b 1 0) e in
        Contains-there y ys x (rest (omega (arith, sum_by-cons (is_job x) y ys)))

counts_itself : (x : Job) (xs : List Job) → 1 ≤ sum_by (is_job x) (x ∷ xs)
counts_itself x xs = let one : is_job x x ≡ 1 = ap (λ b. cond b 1 0) ((same_job_test x x).1 refl) in omega (arith, sum_by-cons (is_job x) x xs)

-- the lists have the same elements, each as often
abbrev pub HaveSame : List Job → List Job → Type 0
HaveSame xs ys = (f : Job → ℕ) → sum_by f xs ≡ sum_by f ys

pub same_in_order : (xs ys : List Job) → InOrder NotAfter xs → InOrder NotAfter ys → HaveSame xs ys → xs ≡ ys
same_in_order [] [] o u s = refl
same_in_order [] (y ∷ ys) o u s = let e : 0 ≡ sum_by (λ _. 1) (y ∷ ys) = s (λ _. 1) in absurd (omega (arith, sum_by-cons (λ (_ : Job). 1) y ys))
same_in_order (x ∷ xs) [] o u s = let e : sum_by (λ _. 1) (x ∷ xs) ≡ 0 = s (λ _. 1) in absurd (omega (arith, sum_by-cons (λ (_ : Job). 1) x xs))
same_in_order (x ∷ xs) (y ∷ ys) o u s =
    let there : Contains (y ∷ ys) x = counted x (y ∷ ys) (subst (λ n. 1 ≤ n) (s (is_job x)) (counts_itself x xs)) in
    let back : Contains (x ∷ xs) y = counted y (x ∷ xs) (subst (λ n. 1 ≤ n) (sym (s (is_job y))) (counts_itself y ys)) in
    let e : x ≡ y =
    ⊎_elim (λ p. sym p) (λ c. ⊎_elim (λ p. p) (λ d. not_after_antisymm x y (o.0 y d) (u.0 x c)) (Contains-cons_cases x xs y back)) (Contains-cons_cases y ys x there) in
    ap₂ ◌∷◌ e (same_in_order xs ys o.1 u.1 (λ f. let g : f x ≡ f y = ap f e in omega (arith, s f, sum_by-cons f x xs, sum_by-cons f y ys)))

pub weaken_order : (xs : List Job) → InOrder JobComesBefore xs → InOrder NotAfter xs
weaken_order [] o = tt
weaken_order (x ∷ xs) o = (λ y c. before_one_way x y (o.0 y c), weaken_order xs o.1)

-- a list in job order with the elements of a list in strict job order is that list
pub order_is_one : (xs ys : List Job) → IsInJobOrder xs → AllPairs JobComesBefore ys → HaveSame xs ys → xs ≡ ys
order_is_one xs ys o u s = same_in_order xs ys (InOrder-from_pairs NotAfter xs o) (weaken_order ys (InOrder-from_pairs JobComesBefore ys u)) s
