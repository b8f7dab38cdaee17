-- The loops of the search: how the list grows, and that at the end it has the k least.
use Rattle.std.proofs.Common.{ℕ, ◌+◌, ◌-◌, ◌≤◌, ◌<◌, ◌≡◌, ◌⊎◌, inl, inr, ⊎_elim, List, [], ◌∷◌, length, get_or, take, drop, Contains, All, AllPairs, refl, sym, subst, ap, ◌∙◌, arith, zero, suc}
use Rattle.std.specs.List.{insert}
use Rattle.std.proofs.lemmas.Bool.{cases_lt}
use Rattle.std.proofs.lemmas.List.{get_or_default, take_more, take_all, drop_more, drop_all, length-take-le, length-drop, get_or-take, get_or-drop}
use Rattle.std.proofs.lemmas.List.Elements.{All-contains, Contains-get_or, Contains-append_cases}
use Rattle.ct_vectors.specs.Vectors.{total, add, subtract}
use Rattle.ct_order.specs.Order.{art_total_of}
use Rattle.ct_vectors.specs.declared.limits.TheConstants.{GRADE_LIMIT}
use Rattle.ct_instance.specs.Instance.{Problem, IsInstance, IsPoint, IsRight, column_count, grade_of}
use Rattle.ct_instance.specs.Jobs.{the_move}
use Rattle.ct_walk.specs.Moves.{IsSmallMove}
use Rattle.ct_walk.proofs.SlabFacts.{the_move_get}
use Rattle.ct_instance.specs.Fiber.{IsInFiber, IsBelow, least_of}
use Rattle.ct_instance.specs.TestSet.{Binomial, test_list}
use Rattle.ct_instance.specs.Walk.{IsMove}
use Rattle.ct_instance.proofs.Fiber.{below_chain, points_cases, least_below, least_in_fiber, rank_of, rank_falls}
use Rattle.ct_instance.proofs.Lists.{Contains-cons_cases, Contains-nil}
use Rattle.ct_instance.proofs.Ordered.{InOrder, InOrder-pairs, InOrder-from_pairs}
use Rattle.ct_best.specs.Search.{IsSolutionPoint, AreBestPoints, CanStepUp, IsStepUp, IsReached, IsFrontier, IsPutIn}
use Rattle.ct_best.proofs.Points.{Below, point_below}
use Rattle.ct_best.proofs.Closed.{all_reached, put_ordered, put_members, put_most, put_longer, put_stays, put_reached, put_keeps}
use Rattle.ct_best.proofs.Backwards.{step_up_is_solution, step_up_is_above}

-- ---- putting in

-- s is there, or as many as there may be are below it
pub nothing_put : (i : Problem) (k : ℕ) (xs : List (List ℕ)) (s : List ℕ) → AllPairs (IsBelow i) xs → length xs ≤ k → IsReached i k xs s → IsPutIn i k xs s xs
nothing_put i k xs s ordered most reached = record {
  members = λ x c. inl c;
  ordered = ordered;
  longer = omega arith;
  most = most;
  stays = λ t l d. refl;
  kept = λ z r. r;
  reached = reached;
}

-- all of k are below
pub all_below : (i : Problem) (k at : ℕ) (xs : List (List ℕ)) (s : List ℕ) → length xs ≤ k → at ≤ length xs → ((t : ℕ) → t < at → IsBelow i (get_or xs t []) s) → at ≡ k → IsReached i k xs s
all_below i k at xs s most within before e =
    inr (omega arith, λ x c. subst (λ y. IsBelow i y s) (get_or_default xs c.0 [] x c.1 ∙ c.2) (before c.0 (omega (arith, c.1))))

pub is_there : (i : Problem) (k at : ℕ) (xs : List (List ℕ)) (s : List ℕ) → at < length xs → get_or xs at [] ≡ s → IsReached i k xs s
is_there i k at xs s l e = inl (subst (Contains xs) e (Contains-get_or xs at [] l))

-- what stands behind a place is above what stands at it
behind : (i : Problem) (at : ℕ) (xs : List (List ℕ)) → AllPairs (IsBelow i) xs → at < length xs → (x : List ℕ) → Contains (drop (at + 1) xs) x → IsBelow i (get_or xs at []) x
behind i at xs pairs l x c =
    let far : at + 1 + c.0 < length xs = omega (arith, c.1, length-drop (at + 1) xs) in
    subst (IsBelow i (get_or xs at [])) (sym (get_or-drop (at + 1) xs c.0 []) ∙ get_or_default (drop (at + 1) xs) c.0 [] x c.1 ∙ c.2)
    (pairs at (at + 1 + c.0) [] (omega arith) far)

equal_or_less : (t at : ℕ) → at ≤ t → (t ≡ at) ⊎ (at < t)
equal_or_less t at h = ⊎_elim (λ l. inr l) (λ l. inl (omega arith)) (cases_lt at t)

-- what stands before a point that is below s, and the point itself, are below s
pub below_upto : (i : Problem) (xs : List (List ℕ)) (s : List ℕ) (at t : ℕ) (x : List ℕ) → AllPairs (IsBelow i) xs → at < length xs → x ≡ get_or xs at x → IsBelow i x s → t < at + 1 →
    IsBelow i (get_or xs t []) s
below_upto i xs s at t x pairs l is below before =
    let here : IsBelow i (get_or xs at []) s = subst (λ y. IsBelow i y s) (is ∙ get_or_default xs at x [] l) below in
    ⊎_elim (λ e. subst (λ n. IsBelow i (get_or xs n []) s) e here)
    (λ less. below_chain i (get_or xs t []) (get_or xs at []) s (pairs t at [] less l) here) (equal_or_less at t (omega arith))

-- s goes in before the first that isn't below it
pub put_at : (i : Problem) (k at : ℕ) (xs : List (List ℕ)) (s : List ℕ) → All (IsPoint i) xs → IsPoint i s → AllPairs (IsBelow i) xs → length xs ≤ k → at ≤ length xs →
    ((t : ℕ) → t < at → IsBelow i (get_or xs t []) s) → (at < length xs → IsBelow i (get_or xs at []) s → ⊥) → (at ≡ k → ⊥) → ((at < length xs) × (get_or xs at [] ≡ s) → ⊥) →
    IsPutIn i k xs s (take k (insert xs at s))
put_at i k at xs s points point pairs most within before not_below not_full absent = record {
  members = put_members (IsBelow i) (below_chain i) k at xs s ordered most low within below above;
  ordered = InOrder-pairs (IsBelow i) (take k (insert xs at s)) (put_ordered (IsBelow i) (below_chain i) k at xs s ordered most low within below above);
  longer = put_longer (IsBelow i) (below_chain i) k at xs s ordered most low within below above;
  most = put_most (IsBelow i) (below_chain i) k at xs s ordered most low within below above;
  stays = λ t l d. put_stays (IsBelow i) (below_chain i) k at xs s ordered most low within below above t [] (stays_before t l d);
  kept = put_keeps (IsBelow i) (below_chain i) k at xs s ordered most low within below above;
  reached = put_reached (IsBelow i) (below_chain i) k at xs s ordered most low within below above;
}
  where
    ordered : InOrder (IsBelow i) xs
    ordered = InOrder-from_pairs (IsBelow i) xs pairs

    low : at < k
    low = ⊎_elim (λ l. l) (λ l. absurd (not_full (omega arith))) (cases_lt at k)

    below : (x : List ℕ) → Contains (take at xs) x → IsBelow i x s
    below x c =
        let early : c.0 < at = omega (arith, c.1, length-take-le at xs within) in
        subst (λ y. IsBelow i y s) (sym (get_or-take at xs c.0 [] early) ∙ get_or_default (take at xs) c.0 [] x c.1 ∙ c.2) (before c.0 early)

    above : (x : List ℕ) → Contains (drop at xs) x → IsBelow i s x
    above x c = ⊎_elim there (λ l. absurd (Contains-nil x (subst (λ (l : List (List ℕ)). Contains l x) (drop_all at xs l) c))) (cases_lt at (length xs))
      where
        next : List ℕ
        next = get_or xs at []

        there : at < length xs → IsBelow i s x
        there l =
            let first : IsBelow i s next =
            ⊎_elim (λ d. absurd (not_below l d)) (λ r. ⊎_elim (λ e. absurd (absent (l, e))) (λ d. d) r) (points_cases i next s (points at [] l) point) in
            ⊎_elim (λ e. subst (IsBelow i s) e first) (λ d. below_chain i s next x first (behind i at xs pairs l x d))
            (Contains-cons_cases next (drop (at + 1) xs) x (subst (λ (l : List (List ℕ)). Contains l x) (drop_more xs at [] l) c))

    stays_before : (t : ℕ) → t < length xs → IsBelow i (get_or xs t []) s → t < at
    stays_before t l d = ⊎_elim (λ h. h) (λ h. absurd (not_later t l d h)) (cases_lt t at)
      where
        not_later : (t : ℕ) → t < length xs → IsBelow i (get_or xs t []) s → at ≤ t → ⊥
        not_later t l d h =
            ⊎_elim (λ same. not_below (omega arith) (subst (λ n. IsBelow i (get_or xs n []) s) same d))
            (λ less. not_below (omega arith) (below_chain i (get_or xs at []) (get_or xs t []) s (pairs at t [] less l) d))
            (equal_or_less t at h)

-- ---- turns

-- the first turn begins with the least point alone
pub frontier_starts : (i : Problem) → IsInstance i → (b : List ℕ) → IsRight i b → (k : ℕ) → 1 ≤ k → (ms : List Binomial) (p : List ℕ) → p ≡ least_of i b →
    art_total_of (column_count i) p ≡ 0 → IsFrontier i b k ms (p ∷ []) 0 0
frontier_starts i inst b right k some ms p is none = record {
  points = first;
  ordered = λ n m d l h. absurd (omega arith);
  some = omega arith;
  most = some;
  least = is;
  done = λ t l. absurd (omega arith);
  now = λ l m c. absurd (Contains-nil m c);
}
  where
    first : (n : ℕ) (d : List ℕ) → n < 1 → IsSolutionPoint i b (get_or (p ∷ []) n d)
    first zero d l = record { member = subst (IsInFiber i b) (sym is) (least_in_fiber i inst b right); none = none }
    first (suc n) d l = absurd (omega arith)

-- among the first j + 1 moves is one of the first j, or the next
one_more : (ms : List Binomial) (j : ℕ) (m o : Binomial) → j < length ms → m ≡ get_or ms j m → Contains (take (j + 1) ms) o → Contains (take j ms) o ⊎ (m ≡ o)
one_more ms j m o l is c =
    ⊎_elim (λ d. inl d) (λ d. ⊎_elim (λ e. inr (is ∙ e)) (λ e. absurd (Contains-nil o e)) (Contains-cons_cases (get_or ms j m) [] o d))
    (Contains-append_cases (take j ms) (get_or ms j m ∷ []) o (subst (λ (l : List Binomial). Contains l o) (take_more ms j m l) c))

-- the next move doesn't lead up
pub frontier_passes : (i : Problem) (b : List ℕ) (k : ℕ) (ms : List Binomial) (xs : List (List ℕ)) (n j : ℕ) (m : Binomial) → IsFrontier i b k ms xs n j → j < length ms →
    m ≡ get_or ms j m → (CanStepUp i m (get_or xs n []) → ⊥) → IsFrontier i b k ms xs n (j + 1)
frontier_passes i b k ms xs n j m f l is cannot = record {
  points = f.points;
  ordered = f.ordered;
  some = f.some;
  most = f.most;
  least = f.least;
  done = f.done;
  now = λ w o c s u. ⊎_elim (λ d. f.now w o d s u) (λ e. absurd (cannot (subst (λ (v : Binomial). CanStepUp i v (get_or xs n [])) (sym e) u.can))) (one_more ms j m o l is c);
}

-- what it leads up to is put in
pub frontier_grows : (i : Problem) (b : List ℕ) (k : ℕ) (ms : List Binomial) (xs ys : List (List ℕ)) (n j : ℕ) (m : Binomial) (s : List ℕ) → IsFrontier i b k ms xs n j → j < length ms →
    m ≡ get_or ms j m → n < length xs → IsMove i m → IsStepUp i m (get_or xs n []) s → IsPutIn i k xs s ys → IsFrontier i b k ms ys n (j + 1)
frontier_grows i b k ms xs ys n j m s f l is within move up put = record {
  points = λ t d w. point _ (Contains-get_or ys t d w);
  ordered = put.ordered;
  some = omega (arith, put.longer, f.some);
  most = put.most;
  least = stays 0 (omega arith) ∙ f.least;
  done = λ t w v o c r u. put.kept r (f.done t w (omega arith) o c r (subst (λ (p : List ℕ). IsStepUp i o p r) (stays t (omega arith)) u));
  now = λ w o c r u. here o r (subst (λ (p : List ℕ). IsStepUp i o p r) (stays n (omega arith)) u) (one_more ms j m o l is c);
}
  where
    from : IsSolutionPoint i b (get_or xs n [])
    from = f.points n [] within

    above : IsBelow i (get_or xs n []) s
    above = step_up_is_above i m move b (get_or xs n []) s from up

    point : (x : List ℕ) → Contains ys x → IsSolutionPoint i b x
    point x c =
        ⊎_elim (λ d. All-contains (IsSolutionPoint i b) xs x f.points d) (λ e. subst (IsSolutionPoint i b) e (step_up_is_solution i m move b (get_or xs n []) s from up)) (put.members x c)

    stays : (t : ℕ) → t ≤ n → get_or ys t [] ≡ get_or xs t []
    stays t h =
        put.stays t (omega arith)
        (⊎_elim (λ e. subst (λ v. IsBelow i (get_or xs v []) s) e above) (λ w. below_chain i (get_or xs t []) (get_or xs n []) s (f.ordered t n [] w within) above) (equal_or_less n t h))

    here : (o : Binomial) (r : List ℕ) → IsStepUp i o (get_or xs n []) r → Contains (take j ms) o ⊎ (m ≡ o) → IsReached i k ys r
    here o r u (inl c) = put.kept r (f.now within o c r u)
    here o r u (inr e) = subst (IsReached i k ys) (up.gives ∙ ap (λ (v : Binomial). add (subtract (get_or xs n []) v.tail) v.head) e ∙ sym u.gives) put.reached

-- the turn of the n-th is over
pub frontier_turns : (i : Problem) (b : List ℕ) (k : ℕ) (ms : List Binomial) (xs : List (List ℕ)) (n j : ℕ) → IsFrontier i b k ms xs n j → length ms ≤ j → IsFrontier i b k ms xs (n + 1) 0
frontier_turns i b k ms xs n j f all = record {
  points = f.points;
  ordered = f.ordered;
  some = f.some;
  most = f.most;
  least = f.least;
  done = λ t w v m c s u. ⊎_elim (λ less. f.done t less v m c s u) (λ l. at_n t w v m c s u l) (cases_lt t n);
  now = λ w m c. absurd (Contains-nil m c);
}
  where
    at_n : (t : ℕ) → t < n + 1 → t < length xs → (m : Binomial) → Contains ms m → (s : List ℕ) → IsStepUp i m (get_or xs t []) s → n ≤ t → IsReached i k xs s
    at_n t w v m c s u l =
        let same : t ≡ n = omega arith in
        f.now (omega arith) m (subst (λ (l : List Binomial). Contains l m) (sym (take_all j ms all)) c) s (subst (λ (a : ℕ). IsStepUp i m (get_or xs a []) s) same u)

-- there is no n-th
pub frontier_rests : (i : Problem) (b : List ℕ) (k : ℕ) (ms : List Binomial) (xs : List (List ℕ)) (n : ℕ) → IsFrontier i b k ms xs n 0 → length xs ≤ n → IsFrontier i b k ms xs (n + 1) 0
frontier_rests i b k ms xs n f none = record {
  points = f.points;
  ordered = f.ordered;
  some = f.some;
  most = f.most;
  least = f.least;
  done = λ t w v m c s u. f.done t (omega arith) v m c s u;
  now = λ w m c. absurd (Contains-nil m c);
}

-- while the n-th is looked at: the list, and the point that is written over
pub record Expanding (i : Problem) (b : List ℕ) (k : ℕ) (ms : List Binomial) (xs : List (List ℕ)) (n j : ℕ) (scratch : List ℕ) : Type 0 where
  pub frontier : IsFrontier i b k ms xs n j
  pub within : n < length xs
  pub point : IsPoint i scratch

-- between two turns
pub record Turning (i : Problem) (b : List ℕ) (k : ℕ) (ms : List Binomial) (xs : List (List ℕ)) (n : ℕ) (scratch : List ℕ) : Type 0 where
  pub frontier : IsFrontier i b k ms xs n 0
  pub point : IsPoint i scratch

-- the grade of a solution's point is the sum of the right-hand side
pub solution_grade : (i : Problem) (b p : List ℕ) → IsSolutionPoint i b p → total b ≤ GRADE_LIMIT → grade_of i.columns p ≤ GRADE_LIMIT
solution_grade i b p s small = subst (λ (d : List ℕ). total d ≤ GRADE_LIMIT) (sym s.member.degree) small

-- a move of the list at the point that is looked at; the code reads the instance anew
pub record Looks (i j : Problem) (ms : List Binomial) (xs : List (List ℕ)) (n t : ℕ) (m : Binomial) (p : List ℕ) : Type 0 where
  pub instance : j ≡ i
  pub move : IsSmallMove i m
  pub in_list : t < length ms
  pub number : m ≡ the_move ms (t + 1)
  pub at : p ≡ get_or xs n p

looks_at : (i j : Problem) (ms : List Binomial) (xs : List (List ℕ)) (n t : ℕ) (m : Binomial) (p : List ℕ) → n < length xs → Looks i j ms xs n t m p → p ≡ get_or xs n []
looks_at i j ms xs n t m p l k = k.at ∙ get_or_default xs n p [] l

looks_move : (i j : Problem) (ms : List Binomial) (xs : List (List ℕ)) (n t : ℕ) (m : Binomial) (p : List ℕ) → Looks i j ms xs n t m p → m ≡ get_or ms t m
looks_move i j ms xs n t m p k =
    let number : t + 1 - 1 ≡ t = omega arith in
    k.number ∙ the_move_get ms (t + 1) m (omega arith) (omega (arith, k.in_list)) ∙ ap (λ a. get_or ms a m) number

pub expanding_up : (i j : Problem) (b : List ℕ) (k : ℕ) (ms : List Binomial) (xs : List (List ℕ)) (n t : ℕ) (old : List ℕ) (m : Binomial) (p s : List ℕ) →
    Expanding i b k ms xs n t old → Looks i j ms xs n t m p → IsStepUp j m p s → IsSolutionPoint i b s
expanding_up i j b k ms xs n t old m p s e l up =
    step_up_is_solution i m l.move.move b (get_or xs n []) s (e.frontier.points n [] e.within)
    (subst (λ (q : List ℕ). IsStepUp i m q s) (looks_at i j ms xs n t m p e.within l) (subst (λ (a : Problem). IsStepUp a m p s) l.instance up))

pub expanding_grows : (i j o : Problem) (b : List ℕ) (k : ℕ) (ms : List Binomial) (xs ys : List (List ℕ)) (n t : ℕ) (old : List ℕ) (m : Binomial) (p s : List ℕ) →
    Expanding i b k ms xs n t old → Looks i j ms xs n t m p → IsStepUp j m p s → o ≡ i → IsPutIn o k xs s ys → IsPoint j s → Expanding i b k ms ys n (t + 1) s
expanding_grows i j o b k ms xs ys n t old m p s e l up same put point = record {
  frontier = frontier_grows i b k ms xs ys n t m s e.frontier l.in_list (looks_move i j ms xs n t m p l) e.within l.move.move
      (subst (λ (q : List ℕ). IsStepUp i m q s) (looks_at i j ms xs n t m p e.within l) (subst (λ (a : Problem). IsStepUp a m p s) l.instance up)) into;
  within = omega (arith, into.longer, e.within);
  point = subst (λ (a : Problem). IsPoint a s) l.instance point;
}
  where
    into : IsPutIn i k xs s ys
    into = subst (λ (a : Problem). IsPutIn a k xs s ys) same put

pub expanding_passes : (i j : Problem) (b : List ℕ) (k : ℕ) (ms : List Binomial) (xs : List (List ℕ)) (n t : ℕ) (old : List ℕ) (m : Binomial) (p s : List ℕ) →
    Expanding i b k ms xs n t old → Looks i j ms xs n t m p → (CanStepUp j m p → ⊥) → IsPoint j s → Expanding i b k ms xs n (t + 1) s
expanding_passes i j b k ms xs n t old m p s e l cannot point = record {
  frontier = frontier_passes i b k ms xs n t m e.frontier l.in_list (looks_move i j ms xs n t m p l)
      (λ c. cannot (subst (λ (a : Problem). CanStepUp a m p) (sym l.instance) (subst (CanStepUp i m) (sym (looks_at i j ms xs n t m p e.within l)) c)));
  within = e.within;
  point = subst (λ (a : Problem). IsPoint a s) l.instance point;
}

-- ---- the end

-- all turns are over: the list has the k least
pub frontier_ends : (i : Problem) → IsInstance i → (b : List ℕ) → IsRight i b → (k : ℕ) (ms : List Binomial) → ((m : Binomial) → Contains (test_list i (total b)) m → Contains ms m) →
    (xs : List (List ℕ)) (n : ℕ) → k ≤ n → IsFrontier i b k ms xs n 0 → AreBestPoints i b k xs
frontier_ends i inst b right k ms listed xs n over f = record {
  points = f.points;
  ordered = f.ordered;
  most = f.most;
  left = λ q s m. ⊎_elim (λ c. absurd (m c)) (λ r. (r.0, λ t d l. r.1 _ (Contains-get_or xs t d l)))
      (all_reached (IsBelow i) (below_chain i) (IsSolutionPoint i b) (rank_of i) k xs step q s);
}
  where
    step : (z : List ℕ) → IsSolutionPoint i b z →
        Contains xs z ⊎ ((y : List ℕ) × IsSolutionPoint i b y × IsBelow i y z × (rank_of i y < rank_of i z) × (Contains xs y → IsReached i k xs z))
    step z s = ⊎_elim (λ e. inl (subst (Contains xs) (f.least ∙ e) (Contains-get_or xs 0 [] f.some))) (λ d. inr (from_below (point_below i inst b z (least_of i b) s.member s.none (least_in_fiber i inst b right) d)))
        (least_below i inst b z s.member)
      where
        from_below : Below i b z → (y : List ℕ) × IsSolutionPoint i b y × IsBelow i y z × (rank_of i y < rank_of i z) × (Contains xs y → IsReached i k xs z)
        from_below r = (
          r.from,
          record { member = r.member; none = r.none },
          r.below,
          rank_falls i inst z r.from (s.member).point (r.member).point ((r.member).degree ∙ sym (s.member).degree) r.below,
          λ c.
              let up : IsStepUp i r.move r.from z = record { can = record { fits = r.up.fits; none = r.up.none }; gives = r.up.gives } in
              let at : get_or xs c.0 [] ≡ r.from = get_or_default xs c.0 [] r.from c.1 ∙ c.2 in
              f.done c.0 (omega (arith, c.1, f.most)) c.1 r.move (listed r.move r.listed) z (subst (λ (p : List ℕ). IsStepUp i r.move p z) (sym at) up),
        )
