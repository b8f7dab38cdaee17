-- Single moves and runs of them, said without subtraction; and what two moves leave of one point.
use Rattle.std.proofs.Common.{ℕ, ◌<◌, ◌≡◌, ◌⊎◌, inl, inr, ⊎_elim, Some, List, refl, sym, subst, subst₂, ap, ◌∙◌, arith, zero, suc}
use Rattle.ct_vectors.specs.Vectors.{add, subtract, scale, zeros, lcm, Divides, Disjoint}
use Rattle.ct_vectors.proofs.Sums.{length-add_same, length-subtract, length-scale, add_comm, add_assoc, add_right_comm, add_right_cancel, scale-suc, scale-zero}
use Rattle.ct_vectors.proofs.Divisors.{Divides-add, Divides-lcm, Divides-lcm_right, lcm-divides, length-lcm, lcm-disjoint, add-subtract}
use Rattle.ct_order.proofs.Order.{below-add_left}
use Rattle.ct_instance.specs.Instance.{Problem, IsInstance, IsPoint, column_count}
use Rattle.ct_instance.specs.Fiber.{IsBelow}
use Rattle.ct_instance.specs.TestSet.{Binomial}
use Rattle.ct_instance.specs.Walk.{move_at, IsNormal, IsMove, AreMoves, FreeStep, Leads, stay, step}
use Rattle.ct_instance.proofs.Degree.{degree_of_swap}
use Rattle.ct_instance.proofs.Fiber.{rank_of, rank_falls, below_chain}
use Rattle.ct_walk.specs.Laws.{GoesDown, StaysOrGoesDown}
use Rattle.ct_walk.proofs.Steps.{move_at_listed, move_is, normal_none, rest_and_head}

-- one move, once: its head, beside some rest, becomes its tail
pub record IsSwap (i : Problem) (ms : List Binomial) (p q : List ℕ) : Type 0 where
  pub number : ℕ
  pub move : Binomial
  pub rest : List ℕ
  pub at : move_at ms number ≡ Some move
  pub wide : IsPoint i rest
  pub before : p ≡ add rest move.head
  pub after : q ≡ add rest move.tail

-- single moves lead from p to q
pub data Runs (i : Problem) (ms : List Binomial) : List ℕ → List ℕ → Type 0 where
  halt : (p : List ℕ) → Runs i ms p p
  swap : (p q r : List ℕ) → IsSwap i ms p q → Runs i ms q r → Runs i ms p r

-- p and q run to one point
pub record Meet (i : Problem) (ms : List Binomial) (p q : List ℕ) : Type 0 where
  pub point : List ℕ
  pub first : Runs i ms p point
  pub second : Runs i ms q point

pub meet_flip : (i : Problem) (ms : List Binomial) (p q : List ℕ) → Meet i ms p q → Meet i ms q p
meet_flip i ms p q m = record { point = m.point; first = m.second; second = m.first }

pub meet_itself : (i : Problem) (ms : List Binomial) (p : List ℕ) → Meet i ms p p
meet_itself i ms p = record { point = p; first = halt p; second = halt p }

-- ---- one swap

pub swap_down : (i : Problem) (ms : List Binomial) → AreMoves i ms → (p q : List ℕ) → IsSwap i ms p q → IsPoint i p × GoesDown i p q
swap_down i ms a p q s =
    let m : IsMove i s.move = move_is i ms a s.number s.move s.at in (
      subst (IsPoint i) (sym s.before) (length-add_same s.rest s.move.head s.wide m.head),
      subst₂ (GoesDown i) (sym s.before) (sym s.after)
          (record {
            member = record { point = length-add_same s.rest s.move.tail s.wide m.tail; degree = degree_of_swap i.columns s.rest s.move.head s.move.tail m.degree };
            below = below-add_left (column_count i) i.cost_rows s.rest s.move.tail s.move.head m.below;
          }),
    )

pub swap_rank : (i : Problem) → IsInstance i → (ms : List Binomial) → AreMoves i ms → (p q : List ℕ) → IsSwap i ms p q → rank_of i q < rank_of i p
swap_rank i h ms a p q s =
    let d = swap_down i ms a p q s in
    let g : GoesDown i p q = d.1 in
    rank_falls i h p q d.0 (g.member).point (g.member).degree g.below

pub swap_of_sum : (i : Problem) (ms : List Binomial) (c p q : List ℕ) → IsPoint i c → IsSwap i ms p q → IsSwap i ms (add c p) (add c q)
swap_of_sum i ms c p q e s = record {
  number = s.number;
  move = s.move;
  rest = add c s.rest;
  at = s.at;
  wide = length-add_same c s.rest e s.wide;
  before = ap (add c) s.before ∙ sym (add_assoc c s.rest s.move.head);
  after = ap (add c) s.after ∙ sym (add_assoc c s.rest s.move.tail);
}

-- no swap begins where no head divides
pub normal_halts : (i : Problem) (ms : List Binomial) (p q : List ℕ) → IsNormal ms p → IsSwap i ms p q → ⊥
normal_halts i ms p q n s =
    normal_none ms p n s.move (move_at_listed ms s.number s.move s.at) (subst (Divides s.move.head) (sym s.before) (Divides-add s.rest s.move.head))

-- where a head divides, a swap begins
pub swap_from_divides : (i : Problem) (ms : List Binomial) → AreMoves i ms → (p : List ℕ) → IsPoint i p → (k : ℕ) (m : Binomial) → move_at ms k ≡ Some m → Divides m.head p →
    IsSwap i ms p (add (subtract p m.head) m.tail)
swap_from_divides i ms a p e k m at d =
    let u : IsMove i m = move_is i ms a k m at in
    record {
      number = k;
      move = m;
      rest = subtract p m.head;
      at = at;
      wide = length-subtract p m.head ∙ e;
      before = sym (add-subtract p m.head (omega (arith, u.head, e)) d);
      after = refl;
    }

-- ---- runs

pub run_cases : (i : Problem) (ms : List Binomial) (p r : List ℕ) → Runs i ms p r → (r ≡ p) ⊎ ((q : List ℕ) × IsSwap i ms p q × Runs i ms q r)
run_cases i ms p r (halt s) = inl refl
run_cases i ms p r (swap s q t u l) = inr (q, u, l)

pub run_on : (i : Problem) (ms : List Binomial) (p q r : List ℕ) → Runs i ms p q → Runs i ms q r → Runs i ms p r
run_on i ms p q r (halt s) k = k
run_on i ms p q r (swap s t u w l) k = swap p t r w (run_on i ms t q r l k)

pub run_of_sum : (i : Problem) (ms : List Binomial) (c p q : List ℕ) → IsPoint i c → Runs i ms p q → Runs i ms (add c p) (add c q)
run_of_sum i ms c p q e (halt s) = halt (add c p)
run_of_sum i ms c p r e (swap s q t w l) = swap (add c p) (add c q) (add c r) (swap_of_sum i ms c p q e w) (run_of_sum i ms c q r e l)

pub meet_of_sum : (i : Problem) (ms : List Binomial) (c p q : List ℕ) → IsPoint i c → Meet i ms p q → Meet i ms (add c p) (add c q)
meet_of_sum i ms c p q e m = record { point = add c m.point; first = run_of_sum i ms c p m.point e m.first; second = run_of_sum i ms c q m.point e m.second }

pub run_down : (i : Problem) (ms : List Binomial) → AreMoves i ms → (p q : List ℕ) → IsPoint i p → Runs i ms p q → StaysOrGoesDown i p q
run_down i ms a p q e (halt s) = record { member = record { point = e; degree = refl }; down = inl refl }
run_down i ms a p r e (swap s q t w l) =
    let d : GoesDown i p q = (swap_down i ms a p q w).1 in
    let u = run_down i ms a q r (d.member).point l in
    record {
      member = record { point = (u.member).point; degree = (u.member).degree ∙ (d.member).degree };
      down = inr (⊎_elim (λ s. subst (λ (x : List ℕ). IsBelow i x p) (sym s) d.below) (λ b. below_chain i r q p b d.below) u.down);
    }

pub run_from_normal : (i : Problem) (ms : List Binomial) (p q : List ℕ) → IsNormal ms p → Runs i ms p q → q ≡ p
run_from_normal i ms p q n r = ⊎_elim (λ e. e) (λ s. absurd (normal_halts i ms p s.0 n s.1)) (run_cases i ms p q r)

-- ---- a free step is a run

-- some times a move, beside c
pub times_run : (i : Problem) (ms : List Binomial) → AreMoves i ms → (k : ℕ) (m : Binomial) → move_at ms k ≡ Some m → (t : ℕ) (c : List ℕ) → IsPoint i c →
    Runs i ms (add c (scale t m.head)) (add c (scale t m.tail))
times_run i ms a k m at zero c e =
    let u : IsMove i m = move_is i ms a k m at in
    subst (λ (s : List ℕ). Runs i ms (add c (scale 0 m.head)) (add c s)) (scale-zero m.head ∙ ap zeros (u.head ∙ sym u.tail) ∙ sym (scale-zero m.tail)) (halt (add c (scale 0 m.head)))
times_run i ms a k m at (suc t) c e =
    let u : IsMove i m = move_is i ms a k m at in
    swap (add c (scale (suc t) m.head)) (add (add c (scale t m.head)) m.tail) (add c (scale (suc t) m.tail))
    (record {
      number = k;
      move = m;
      rest = add c (scale t m.head);
      at = at;
      wide = length-add_same c (scale t m.head) e (length-scale t m.head ∙ u.head);
      before = ap (add c) (scale-suc t m.head) ∙ sym (add_assoc c (scale t m.head) m.head);
      after = refl;
    })
    (subst₂ (Runs i ms) (add_right_comm c m.tail (scale t m.head))
    (add_assoc c m.tail (scale t m.tail) ∙ ap (add c) (add_comm m.tail (scale t m.tail) ∙ sym (scale-suc t m.tail)))
    (times_run i ms a k m at t (add c m.tail) (length-add_same c m.tail e u.tail)))

pub free_step_run : (i : Problem) (ms : List Binomial) → AreMoves i ms → (p q : List ℕ) → IsPoint i p → FreeStep ms p q → Runs i ms p q
free_step_run i ms a p q e f =
    subst₂ (Runs i ms) (rest_and_head i f.move (move_is i ms a f.number f.move f.at) f.times p e f.fits) (sym f.gives)
    (times_run i ms a f.number f.move f.at f.times (subtract p (scale f.times f.move.head)) (length-subtract p (scale f.times f.move.head) ∙ e))

pub leads_run : (i : Problem) (ms : List Binomial) → AreMoves i ms → (p q : List ℕ) → IsPoint i p → Leads ms p q → Runs i ms p q
leads_run i ms a p q e (stay s) = halt p
leads_run i ms a p r e (step s q t f l) =
    let u = free_step_run i ms a p q e f in
    run_on i ms p q r u (leads_run i ms a q r ((run_down i ms a p q e u).member).point l)

-- ---- the peak: what two moves leave of one point

-- what the first of two moves leaves of the least common multiple of their heads
abbrev pub pair_end : Binomial → Binomial → List ℕ
pair_end m n = add (subtract (lcm m.head n.head) m.head) m.tail

abbrev pub pair_end_second : Binomial → Binomial → List ℕ
pair_end_second m n = add (subtract (lcm m.head n.head) n.head) n.tail

pub record IsPeak (i : Problem) (p q r : List ℕ) (m n : Binomial) : Type 0 where
  pub beside : List ℕ
  pub wide : IsPoint i beside
  pub whole : p ≡ add beside (lcm m.head n.head)
  pub first : q ≡ add beside (pair_end m n)
  pub second : r ≡ add beside (pair_end_second m n)

-- where one point is c + l and rest + h, and h is a part of l, the rest is c and what h leaves of l
rest_is : (i : Problem) (c l rest h : List ℕ) → IsPoint i c → IsPoint i l → IsPoint i rest → IsPoint i h → add rest h ≡ add c l → Divides h l → rest ≡ add c (subtract l h)
rest_is i c l rest h e f g k s d =
    add_right_cancel rest (add c (subtract l h)) h (g ∙ sym (length-add_same c (subtract l h) e (length-subtract l h ∙ f)))
    (s ∙ ap (add c) (sym (add-subtract l h (omega (arith, k, f)) d)) ∙ sym (add_assoc c (subtract l h) h))

pub peak : (i : Problem) (ms : List Binomial) → AreMoves i ms → (p q r : List ℕ) (s : IsSwap i ms p q) (t : IsSwap i ms p r) → IsPeak i p q r s.move t.move
peak i ms a p q r s t = record {
  beside = c;
  wide = c_wide;
  whole = sym whole;
  first = s.after ∙ ap (λ u. add u s.move.tail) (rest_is i c l s.rest s.move.head c_wide l_wide s.wide m.head (sym s.before ∙ sym whole) (Divides-lcm s.move.head t.move.head)) ∙
      add_assoc c (subtract l s.move.head) s.move.tail;
  second = t.after ∙ ap (λ u. add u t.move.tail) (rest_is i c l t.rest t.move.head c_wide l_wide t.wide n.head (sym t.before ∙ sym whole) (Divides-lcm_right s.move.head t.move.head)) ∙
      add_assoc c (subtract l t.move.head) t.move.tail;
}
  where
    m : IsMove i s.move
    m = move_is i ms a s.number s.move s.at

    n : IsMove i t.move
    n = move_is i ms a t.number t.move t.at

    l : List ℕ
    l = lcm s.move.head t.move.head

    c : List ℕ
    c = subtract p l

    p_wide : IsPoint i p
    p_wide = (swap_down i ms a p q s).0

    l_wide : IsPoint i l
    l_wide = omega (arith, length-lcm s.move.head t.move.head, m.head, n.head)

    c_wide : IsPoint i c
    c_wide = length-subtract p l ∙ p_wide

    whole : add c l ≡ p
    whole =
        add-subtract p l (omega (arith, l_wide, p_wide))
        (lcm-divides s.move.head t.move.head p (subst (Divides s.move.head) (sym s.before) (Divides-add s.rest s.move.head))
        (subst (Divides t.move.head) (sym t.before) (Divides-add t.rest t.move.head)))

-- two moves whose heads share no variable leave points that meet
pub coprime_meet : (i : Problem) (ms : List Binomial) → AreMoves i ms → (j k : ℕ) (m n : Binomial) → move_at ms j ≡ Some m → move_at ms k ≡ Some n → Disjoint m.head n.head →
    Meet i ms (pair_end m n) (pair_end_second m n)
coprime_meet i ms a j k m n at bt d = record {
  point = add n.tail m.tail;
  first = subst (λ (x : List ℕ). Runs i ms x (add n.tail m.tail)) (sym first_end) (one_swap k n bt m.tail (move_is i ms a j m at).tail);
  second = subst₂ (Runs i ms) (sym second_end) (add_comm m.tail n.tail) (one_swap j m at n.tail (move_is i ms a k n bt).tail);
}
  where
    u : IsMove i m
    u = move_is i ms a j m at

    v : IsMove i n
    v = move_is i ms a k n bt

    l : List ℕ
    l = lcm m.head n.head

    l_wide : IsPoint i l
    l_wide = omega (arith, length-lcm m.head n.head, u.head, v.head)

    -- the head of a move becomes its tail, beside t
    one_swap : (k : ℕ) (n : Binomial) → move_at ms k ≡ Some n → (t : List ℕ) → IsPoint i t → Runs i ms (add n.head t) (add n.tail t)
    one_swap k n at t e =
        swap (add n.head t) (add n.tail t) (add n.tail t)
        (record { number = k; move = n; rest = t; at = at; wide = e; before = add_comm n.head t; after = add_comm n.tail t }) (halt (add n.tail t))

    whole : l ≡ add m.head n.head
    whole = lcm-disjoint m.head n.head d

    -- what one head leaves is the other head
    left : subtract l m.head ≡ n.head
    left =
        add_right_cancel (subtract l m.head) n.head m.head (length-subtract l m.head ∙ l_wide ∙ sym v.head)
        (add-subtract l m.head (omega (arith, u.head, l_wide)) (Divides-lcm m.head n.head) ∙ whole ∙ add_comm m.head n.head)

    right : subtract l n.head ≡ m.head
    right =
        add_right_cancel (subtract l n.head) m.head n.head (length-subtract l n.head ∙ l_wide ∙ sym u.head)
        (add-subtract l n.head (omega (arith, v.head, l_wide)) (Divides-lcm_right m.head n.head) ∙ whole)

    first_end : pair_end m n ≡ add n.head m.tail
    first_end = ap (λ x. add x m.tail) left

    second_end : pair_end_second m n ≡ add m.head n.tail
    second_end = ap (λ x. add x n.tail) right
