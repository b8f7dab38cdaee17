-- Lists of pairs: how often a number stands in them, and with what counts they agree.
use Rattle.std.proofs.Common.{◌≡◌, ◌≢◌, ℕ, suc, ◌+◌, ◌<◌, ◌≤◌, eqb, List, [], ◌∷◌, ◌++◌, set, length, refl, ap, ◌∙◌, subst, arith, cond, eq-eqb, ne_eqb, get_or-set_other, append_assoc, length-append}
use Rattle.std.proofs.Math.Seq.{get_or-append_seam}
use native.Mathlib.Decide.{ℕ_discrete}
use mathlib.Core.Logic.{dite}
use Rattle.count_lock.specs.Pairs.{Agree, times, numbered, recounted, last_pair, but_last, first_number}

abbrev hit : ℕ → ℕ → ℕ
hit a b = cond (eqb a b) 1 0

hit_same : (a b : ℕ) → a ≡ b → hit a b ≡ 1
hit_same a b e = ap (λ t. cond t 1 0) (eq-eqb a b e)

hit_other : (a b : ℕ) → a ≢ b → hit a b ≡ 0
hit_other a b e = ap (λ t. cond t 1 0) (ne_eqb a b e)

pub times_append : (p : ℕ) (xs ys : List (ℕ × ℕ)) → times p (xs ++ ys) ≡ times p xs + times p ys
times_append p [] ys = omega arith
times_append p (x ∷ xs) ys = let rest = times_append p xs ys in omega arith

-- the first pair's number stands there
pub times_first : (xs : List (ℕ × ℕ)) → 0 < length xs → 1 ≤ times (first_number xs) xs
times_first [] long = absurd (omega arith)
times_first (x ∷ xs) long = let here = hit_same x.0 x.0 refl in omega arith

pub agree_append : (counts : List ℕ) (xs ys : List (ℕ × ℕ)) → Agree counts xs → Agree counts ys → Agree counts (xs ++ ys)
agree_append counts [] ys a b = b
agree_append counts (x ∷ xs) ys a b = (a.0, agree_append counts xs ys a.1 b)

-- a change of one count leaves the pairs of other numbers
pub agree_others : (counts : List ℕ) (n c : ℕ) (xs : List (ℕ × ℕ)) → times n xs ≡ 0 → Agree counts xs → Agree (set counts n c) xs
agree_others counts n c [] none a = tt
agree_others counts n c (x ∷ xs) none a = (
  get_or-set_other counts n x.0 c 0 (λ e. let here = hit_same x.0 n e in absurd (omega arith)) ∙ a.0,
  agree_others counts n c xs (omega arith) a.1,
)

pub times_recounted : (p : ℕ) (counts : List ℕ) (xs : List (ℕ × ℕ)) → times p (recounted counts xs) ≡ times p xs
times_recounted p counts [] = refl
times_recounted p counts (x ∷ xs) = ap (λ n. cond (eqb x.0 p) 1 0 + n) (times_recounted p counts xs)

pub agree_recounted : (counts : List ℕ) (xs : List (ℕ × ℕ)) → Agree counts (recounted counts xs)
agree_recounted counts [] = tt
agree_recounted counts (x ∷ xs) = (refl, agree_recounted counts xs)

pub length_recounted : (counts : List ℕ) (xs : List (ℕ × ℕ)) → length (recounted counts xs) ≡ length xs
length_recounted counts [] = refl
length_recounted counts (x ∷ xs) = ap suc (length_recounted counts xs)

pub times_parted : (p : ℕ) (xs : List (ℕ × ℕ)) → times p (but_last xs) + times p (last_pair xs) ≡ times p xs
times_parted p [] = refl
times_parted p (x ∷ []) = omega arith
times_parted p (x ∷ y ∷ xs) = let rest = times_parted p (y ∷ xs) in omega arith

pub agree_but_last : (counts : List ℕ) (xs : List (ℕ × ℕ)) → Agree counts xs → Agree counts (but_last xs)
agree_but_last counts [] a = tt
agree_but_last counts (x ∷ []) a = tt
agree_but_last counts (x ∷ y ∷ xs) a = (a.0, agree_but_last counts (y ∷ xs) a.1)

pub agree_last : (counts : List ℕ) (xs : List (ℕ × ℕ)) → Agree counts xs → Agree counts (last_pair xs)
agree_last counts [] a = tt
agree_last counts (x ∷ []) a = a
agree_last counts (x ∷ y ∷ xs) a = agree_last counts (y ∷ xs) a.1

pub some_last : (xs : List (ℕ × ℕ)) → 0 < length xs → 0 < length (last_pair xs)
some_last [] long = long
some_last (x ∷ []) long = omega arith
some_last (x ∷ y ∷ xs) long = some_last (y ∷ xs) (omega arith)

pub some_but_last : (xs : List (ℕ × ℕ)) → 2 ≤ length xs → 0 < length (but_last xs)
some_but_last [] long = absurd (omega arith)
some_but_last (x ∷ []) long = absurd (omega arith)
some_but_last (x ∷ y ∷ xs) long = omega arith

pub times_below : (p from : ℕ) (cs : List ℕ) → p < from → times p (numbered from cs) ≡ 0
times_below p from [] low = refl
times_below p from (c ∷ cs) low = let here = hit_other from p (λ e. omega arith) in let rest = times_below p (from + 1) cs (omega arith) in omega arith

-- the numbers of the opening: each one from the first on, once
pub times_numbered : (p from : ℕ) (cs : List ℕ) → from ≤ p → p < from + length cs → times p (numbered from cs) ≡ 1
times_numbered p from [] low high = absurd (omega arith)
times_numbered p from (c ∷ cs) low high = dite (ℕ_discrete from p)
    (λ e. let here = hit_same from p e in let none = times_below p (from + 1) cs (omega arith) in omega arith)
    (λ ne. let here = hit_other from p ne in let rest = times_numbered p (from + 1) cs (omega arith) (omega arith) in omega arith)

pub times_above : (p from : ℕ) (cs : List ℕ) → from + length cs ≤ p → times p (numbered from cs) ≡ 0
times_above p from [] high = refl
times_above p from (c ∷ cs) high = let here = hit_other from p (λ e. omega arith) in let rest = times_above p (from + 1) cs (omega arith) in omega arith

length_snoc : (before : List ℕ) (c : ℕ) → length (before ++ c ∷ []) ≡ length before + 1
length_snoc before c = omega (arith, length-append before (c ∷ []))

-- each pair of the opening has the count of its number
agree_numbered : (before cs : List ℕ) → Agree (before ++ cs) (numbered (length before) cs)
agree_numbered before [] = tt
agree_numbered before (c ∷ cs) = (
  get_or-append_seam before c cs 0,
  subst (λ (x : List ℕ × ℕ). Agree x.0 (numbered x.1 cs)) (λ i. (append_assoc before (c ∷ []) cs i, length_snoc before c i)) (agree_numbered (before ++ c ∷ []) cs),
)

pub agree_opening : (cs : List ℕ) → Agree cs (numbered 0 cs)
agree_opening cs = agree_numbered [] cs

pub length_numbered : (from : ℕ) (cs : List ℕ) → length (numbered from cs) ≡ length cs
length_numbered from [] = refl
length_numbered from (c ∷ cs) = ap suc (length_numbered (from + 1) cs)
