-- What one step by a move does: it keeps the width and the degree, goes down, and can be taken beside any other point.
use Rattle.std.proofs.Common.{ℕ, ◌≤◌, ◌<◌, ◌≡◌, inl, inr, ⊎_elim, Bool, true, false, cond, Option, Some, None, List, [], ◌∷◌, ◌++◌, length, get_or, true≢false, Contains, refl, sym, subst, subst₂, ap, ap₂, ◌∙◌, arith, zero, suc}
use Rattle.std.specs.List.{slice_get}
use Rattle.std.specs.Option.{option_map}
use Rattle.std.proofs.lemmas.Option.{get_or_from_slice_get, slice_get_within}
use Rattle.std.proofs.lemmas.Bool.{false_from_ne_true, cases_lt}
use Rattle.std.proofs.lemmas.List.Elements.{All-contains}
use Rattle.ct_vectors.specs.Vectors.{total, add, subtract, scale, Divides, divides, IsTimes}
use Rattle.ct_vectors.proofs.Sums.{length-add_same, length-subtract, length-scale, length-add, add_right_comm, scale-one, scale-suc, scale-zero, subtract-add}
use Rattle.ct_vectors.proofs.Divisors.{Divides-from_test, test_from_Divides, dec_divides, Divides-trans, Divides-add_left, add-subtract, zeros-divide, times-le-total}
use Rattle.ct_order.proofs.Order.{below-add, below-add_left}
use Rattle.ct_instance.specs.Instance.{Problem, IsInstance, IsPoint, column_count, degree_of, grade_of}
use Rattle.ct_instance.specs.Fiber.{IsBelow}
use Rattle.ct_instance.specs.TestSet.{Binomial}
use Rattle.ct_instance.specs.Walk.{move_at, first_dividing, IsNormal, moved, IsMove, AreMoves, FreeStep, Leads, stay, step}
use Rattle.ct_instance.proofs.Lists.{Contains-here, Contains-there, Contains-cons_cases, Contains-nil}
use Rattle.ct_instance.proofs.Degree.{degree_of_swap, degree-scale, columns, coordinate-le-grade}
use Rattle.ct_instance.proofs.Fiber.{below_chain, below_positive}
use Rattle.ct_walk.specs.Laws.{GoesDown, StaysOrGoesDown}

-- ---- the move with a number

pub move_at_listed : (ms : List Binomial) (k : ℕ) (m : Binomial) → move_at ms k ≡ Some m → Contains ms m
move_at_listed ms zero m e = absurd (cc)
move_at_listed ms (suc k) m e = (k, slice_get_within ms k m e, get_or_from_slice_get ms k m m e)

pub move_at_within : (ms : List Binomial) (k : ℕ) (m : Binomial) → move_at ms k ≡ Some m → (1 ≤ k) × (k ≤ length ms)
move_at_within ms zero m e = absurd (cc)
move_at_within ms (suc k) m e = let l : k < length ms = slice_get_within ms k m e in (omega arith, omega arith)

pub move_is : (i : Problem) (ms : List Binomial) → AreMoves i ms → (k : ℕ) (m : Binomial) → move_at ms k ≡ Some m → IsMove i m
move_is i ms a k m e = All-contains (IsMove i) ms m a (move_at_listed ms k m e)

-- ---- the first move that divides

pub dividing_gives : (ms : List Binomial) (p : List ℕ) (k : ℕ) → first_dividing ms p ≡ Some k → (m : Binomial) × (move_at ms k ≡ Some m) × Divides m.head p
dividing_gives [] p k e = absurd (cc)
dividing_gives (m ∷ ms) p k e = go (divides m.head p) refl (first_dividing ms p) refl (dividing_gives ms p) e
  where
    later : (j : ℕ) → (n : Binomial) × (move_at ms j ≡ Some n) × Divides n.head p → (n : Binomial) × (move_at (m ∷ ms) (suc j) ≡ Some n) × Divides n.head p
    later zero r = let none : None ≡ Some r.0 = r.1 in absurd (cc)
    later (suc j) r = r

    go : (b : Bool) → divides m.head p ≡ b → (o : Option ℕ) → first_dividing ms p ≡ o →
        ((j : ℕ) → first_dividing ms p ≡ Some j → (n : Binomial) × (move_at ms j ≡ Some n) × Divides n.head p) → cond b (Some 1) (option_map suc o) ≡ Some k →
        (n : Binomial) × (move_at (m ∷ ms) k ≡ Some n) × Divides n.head p
    go true d o f rest s = let one : 1 ≡ k = cc in subst (λ (j : ℕ). (n : Binomial) × (move_at (m ∷ ms) j ≡ Some n) × Divides n.head p) one (m, refl, Divides-from_test m.head p d)
    go false d None f rest s = absurd (cc)
    go false d (Some j) f rest s =
        let next : suc j ≡ k = cc in
        subst (λ (j : ℕ). (n : Binomial) × (move_at (m ∷ ms) j ≡ Some n) × Divides n.head p) next (later j (rest j f))

pub normal_none : (ms : List Binomial) (p : List ℕ) → IsNormal ms p → (m : Binomial) → Contains ms m → Divides m.head p → ⊥
normal_none [] p e m c d = Contains-nil m c
normal_none (n ∷ ms) p e m c d = go (divides n.head p) refl (first_dividing ms p) refl (λ f u. normal_none ms p f m u d) e
  where
    go : (b : Bool) → divides n.head p ≡ b → (o : Option ℕ) → first_dividing ms p ≡ o → (first_dividing ms p ≡ None → Contains ms m → ⊥) →
        cond b (Some 1) (option_map suc o) ≡ None → ⊥
    go true t o f rest s = absurd (cc)
    go false t None f rest s =
        ⊎_elim (λ u. let yes : divides n.head p ≡ true = test_from_Divides n.head p (subst (λ (k : Binomial). Divides k.head p) (sym u) d) in true≢false (sym yes ∙ t))
        (rest f) (Contains-cons_cases n ms m c)
    go false t (Some k) f rest s = absurd (cc)

pub normal_from_none : (ms : List Binomial) (p : List ℕ) → ((m : Binomial) → Contains ms m → Divides m.head p → ⊥) → IsNormal ms p
normal_from_none [] p f = refl
normal_from_none (n ∷ ms) p f =
    ap₂ (λ (b : Bool) (o : Option ℕ). cond b (Some 1) (option_map suc o))
    (false_from_ne_true (divides n.head p) (λ t. f n (Contains-here n ms) (Divides-from_test n.head p t)))
    (normal_from_none ms p (λ m c. f m (Contains-there n ms m c)))

-- moves that don't divide p change nothing at the end of a list
pub dividing-append : (ms ns : List Binomial) (p : List ℕ) → IsNormal ns p → first_dividing (ms ++ ns) p ≡ first_dividing ms p
dividing-append [] ns p e = e
dividing-append (m ∷ ms) ns p e = ap (λ (o : Option ℕ). cond (divides m.head p) (Some 1) (option_map suc o)) (dividing-append ms ns p e)

pub move_at-append : (ms ns : List Binomial) (k : ℕ) (m : Binomial) → move_at ms k ≡ Some m → move_at (ms ++ ns) k ≡ Some m
move_at-append ms ns zero m e = absurd (cc)
move_at-append ms ns (suc k) m e = later ms k e
  where
    later : (ms : List Binomial) (k : ℕ) → slice_get ms k ≡ Some m → slice_get (ms ++ ns) k ≡ Some m
    later [] k e = absurd (cc)
    later (n ∷ ms) zero e = e
    later (n ∷ ms) (suc k) e = later ms k e

-- ---- how often a head fits

pub times_exist : (h p : List ℕ) → 1 ≤ total h → (t : ℕ) × IsTimes h p t
times_exist h p some = go (total p) (λ s d. times-le-total s h p some d)
  where
    go : (n : ℕ) → ((s : ℕ) → Divides (scale s h) p → s ≤ n) → (t : ℕ) × IsTimes h p t
    go zero most = (0, record { fits = subst (λ (z : List ℕ). Divides z p) (sym (scale-zero h)) (zeros-divide (length h) p); most = most })
    go (suc n) most =
        ⊎_elim (λ d. (suc n, record { fits = d; most = most }))
        (λ no. go n (λ s d. ⊎_elim (λ l. omega arith) (λ e. absurd (no (subst (λ (u : ℕ). Divides (scale u h) p) (let same : s ≡ suc n = omega (arith, most s d) in same) d))) (cases_lt s (suc n))))
        (dec_divides (scale (suc n) h) p)

pub times_one : (h p : List ℕ) (s t : ℕ) → IsTimes h p s → IsTimes h p t → s ≡ t
times_one h p s t a b = omega (arith, a.most t b.fits, b.most s a.fits)

-- ---- one move, some times

pub head_positive : (i : Problem) → IsInstance i → (m : Binomial) → IsMove i m → 1 ≤ total m.head
head_positive i h m a = below_positive i h m.head m.tail a.head a.tail a.degree a.below

pub scale_below : (i : Problem) (m : Binomial) → IsMove i m → (t : ℕ) → IsBelow i (scale (suc t) m.tail) (scale (suc t) m.head)
scale_below i m a zero = subst₂ (IsBelow i) (sym (scale-one m.tail)) (sym (scale-one m.head)) a.below
scale_below i m a (suc t) =
    subst₂ (IsBelow i) (sym (scale-suc (suc t) m.tail)) (sym (scale-suc (suc t) m.head))
    (below_chain i (add (scale (suc t) m.tail) m.tail) (add (scale (suc t) m.head) m.tail) (add (scale (suc t) m.head) m.head)
    (below-add (column_count i) i.cost_rows (scale (suc t) m.tail) (scale (suc t) m.head) m.tail (scale_below i m a t))
    (below-add_left (column_count i) i.cost_rows (scale (suc t) m.head) m.tail m.head a.below))

-- what remains beside the head, and the point from it
pub rest_and_head : (i : Problem) (m : Binomial) → IsMove i m → (t : ℕ) (p : List ℕ) → IsPoint i p → Divides (scale t m.head) p →
    add (subtract p (scale t m.head)) (scale t m.head) ≡ p
rest_and_head i m a t p e d = add-subtract p (scale t m.head) (omega (arith, length-scale t m.head, a.head, e)) d

pub moved_is_point : (i : Problem) (m : Binomial) → IsMove i m → (t : ℕ) (p : List ℕ) → IsPoint i p → IsPoint i (moved m t p)
moved_is_point i m a t p e =
    length-add_same (subtract p (scale t m.head)) (scale t m.tail) (length-subtract p (scale t m.head) ∙ e) (length-scale t m.tail ∙ a.tail)

pub moved_degree : (i : Problem) (m : Binomial) → IsMove i m → (t : ℕ) (p : List ℕ) → IsPoint i p → Divides (scale t m.head) p →
    degree_of i.columns (moved m t p) ≡ degree_of i.columns p
moved_degree i m a t p e d =
    degree_of_swap i.columns (subtract p (scale t m.head)) (scale t m.head) (scale t m.tail)
    (degree-scale i.columns t m.tail ∙ ap (scale t) a.degree ∙ sym (degree-scale i.columns t m.head)) ∙
    ap (degree_of i.columns) (rest_and_head i m a t p e d)

pub moved_below : (i : Problem) (m : Binomial) → IsMove i m → (t : ℕ) (p : List ℕ) → 1 ≤ t → IsPoint i p → Divides (scale t m.head) p → IsBelow i (moved m t p) p
moved_below i m a zero p l e d = absurd (omega arith)
moved_below i m a (suc t) p l e d =
    subst (IsBelow i (moved m (suc t) p)) (rest_and_head i m a (suc t) p e d)
    (below-add_left (column_count i) i.cost_rows (subtract p (scale (suc t) m.head)) (scale (suc t) m.tail) (scale (suc t) m.head) (scale_below i m a t))

pub subtract_of_sum : (p r h : List ℕ) → length h ≤ length p → Divides h p → subtract (add p r) h ≡ add (subtract p h) r
subtract_of_sum p r h l d =
    ap (λ s. subtract (add s r) h) (sym (add-subtract p h l d)) ∙ ap (λ s. subtract s h) (add_right_comm (subtract p h) h r) ∙
    subtract-add (add (subtract p h) r) h (omega (arith, length-add (subtract p h) r, length-subtract p h))

pub moved_of_sum : (i : Problem) (m : Binomial) → IsMove i m → (t : ℕ) (p r : List ℕ) → IsPoint i p → Divides (scale t m.head) p →
    moved m t (add p r) ≡ add (moved m t p) r
moved_of_sum i m a t p r e d =
    ap (λ s. add s (scale t m.tail)) (subtract_of_sum p r (scale t m.head) (omega (arith, length-scale t m.head, a.head, e)) d) ∙
    add_right_comm (subtract p (scale t m.head)) r (scale t m.tail)

-- ---- free steps

pub free_step_down : (i : Problem) (ms : List Binomial) → AreMoves i ms → (p q : List ℕ) → IsPoint i p → FreeStep ms p q → GoesDown i p q
free_step_down i ms a p q e f =
    let m : IsMove i f.move = move_is i ms a f.number f.move f.at in
    subst (GoesDown i p) (sym f.gives)
    (record {
      member = record { point = moved_is_point i f.move m f.times p e; degree = moved_degree i f.move m f.times p e f.fits };
      below = moved_below i f.move m f.times p f.some e f.fits;
    })

pub free_step_of_sum : (i : Problem) (ms : List Binomial) → AreMoves i ms → (p q r : List ℕ) → IsPoint i p → FreeStep ms p q → FreeStep ms (add p r) (add q r)
free_step_of_sum i ms a p q r e f = record {
  number = f.number;
  move = f.move;
  times = f.times;
  at = f.at;
  some = f.some;
  fits = Divides-trans (scale f.times f.move.head) p (add p r) f.fits (Divides-add_left p r);
  gives = ap (λ s. add s r) f.gives ∙ sym (moved_of_sum i f.move (move_is i ms a f.number f.move f.at) f.times p r e f.fits);
}

pub leads_down : (i : Problem) (ms : List Binomial) → AreMoves i ms → (p q : List ℕ) → IsPoint i p → Leads ms p q → StaysOrGoesDown i p q
leads_down i ms a p q e (stay s) = record { member = record { point = e; degree = refl }; down = inl refl }
leads_down i ms a p r e (step s q t f l) =
    let d = free_step_down i ms a p q e f in
    let u = leads_down i ms a q r (d.member).point l in
    record {
      member = record { point = (u.member).point; degree = (u.member).degree ∙ (d.member).degree };
      down = inr (⊎_elim (λ s. subst (λ (x : List ℕ). IsBelow i x p) (sym s) d.below) (λ b. below_chain i r q p b d.below) u.down);
    }

pub leads_of_sum : (i : Problem) (ms : List Binomial) → AreMoves i ms → (p q r : List ℕ) → IsPoint i p → Leads ms p q → Leads ms (add p r) (add q r)
leads_of_sum i ms a p q r e (stay s) = stay (add p r)
leads_of_sum i ms a p s r e (step t q u f l) =
    step (add p r) (add q r) (add s r) (free_step_of_sum i ms a p q r e f)
    (leads_of_sum i ms a q s r ((free_step_down i ms a p q e f).member).point l)

pub coordinates_within : (i : Problem) → IsInstance i → (ms : List Binomial) → AreMoves i ms → (p q : List ℕ) → IsPoint i p → Leads ms p q → (k : ℕ) → get_or q k 0 ≤ grade_of i.columns p
coordinates_within i h ms a p q e l k =
    let same : grade_of i.columns q ≡ grade_of i.columns p = ap total ((leads_down i ms a p q e l).member).degree in
    omega (arith, same, coordinate-le-grade i.rows i.columns (columns i h) q k)
