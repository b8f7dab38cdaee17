-- Walks: each point has one, it is a run of free steps, and a walk by a test list that covers the point's grade ends at
-- the least point and stays the same by each later test list.
use Rattle.std.proofs.Common.{ℕ, ◌≤◌, ◌<◌, ◌≡◌, ◌⊎◌, ◌↔◌, inl, inr, ⊎_elim, Option, Some, None, List, [], ◌∷◌, ◌++◌, get_or, map, Contains, refl, sym, subst, ap, ap₂, ◌∙◌, arith, zero, suc}
use Rattle.std.proofs.lemmas.List.Elements.{Contains-append_right}
use Rattle.ct_vectors.specs.Vectors.{total, add, subtract, Divides, IsTimes}
use Rattle.ct_vectors.proofs.Sums.{scale-one, total-add}
use Rattle.ct_vectors.proofs.Divisors.{Divides-add, Divides-trans, add-subtract}
use Rattle.ct_instance.specs.Instance.{Problem, IsInstance, IsPoint, degree_of, grade_of}
use Rattle.ct_instance.specs.Fiber.{least_of, IsInFiber, IsLeast}
use Rattle.ct_instance.specs.TestSet.{Binomial, IsImprovable, IsTestHead, IsTestMove, IsTestList, ComesBefore}
use Rattle.ct_instance.specs.Walk.{move_at, first_dividing, IsNormal, moved, IsMove, AreMoves, FreeStep, Leads, stay, step, IsStep, IsWalk, ends, walks, IsWalkEnd}
use Rattle.ct_instance.proofs.Lists.{Contains-cons_cases, Contains-nil, map_gives}
use Rattle.ct_instance.proofs.Degree.{degree-add, grade-divides}
use Rattle.ct_instance.proofs.Fiber.{is_least_of, in_own_fiber, rank_of, rank_falls, least_or_improvable, least_not_improvable}
use Rattle.ct_instance.proofs.TestHeads.{has_test_head}
use Rattle.ct_instance.proofs.Ordered.{InOrder, InOrder-from_pairs}
use Rattle.ct_instance.proofs.TestList.{test_lists, test_lists_grow, move_of_head, move_is_sound, before_itself}
use Rattle.ct_walk.specs.Laws.{IsWithin, AreJoined}
use Rattle.ct_walk.proofs.Steps.{dividing_gives, normal_none, normal_from_none, dividing-append, move_at-append, move_is, times_exist, times_one, head_positive, free_step_down, leads_down}

-- ---- the walk of a point

pub step_some : (ms : List Binomial) (p q : List ℕ) (number times : ℕ) → IsStep ms p number times q → 1 ≤ times
step_some ms p q number times s =
    let d = dividing_gives ms p number s.first in
    let same : d.0 ≡ s.move = let e : Some d.0 ≡ Some s.move = sym d.1 ∙ s.at in cc in
    s.count.most 1 (subst (λ (h : List ℕ). Divides h p) (ap (λ (m : Binomial). m.head) same ∙ sym (scale-one s.move.head)) d.2)

pub step_is_free : (ms : List Binomial) (p q : List ℕ) (number times : ℕ) → IsStep ms p number times q → FreeStep ms p q
step_is_free ms p q number times s = record {
  number = number;
  move = s.move;
  times = times;
  at = s.at;
  some = step_some ms p q number times s;
  fits = s.count.fits;
  gives = s.gives;
}

pub walk_leads : (ms : List Binomial) (p q : List ℕ) (steps : List (ℕ × ℕ)) → IsWalk ms p steps q → Leads ms p q
walk_leads ms p q steps (ends s n) = stay p
walk_leads ms p r steps (walks t q u number times others s w) = step p q r (step_is_free ms p q number times s) (walk_leads ms q r others w)

pub walk_normal : (ms : List Binomial) (p q : List ℕ) (steps : List (ℕ × ℕ)) → IsWalk ms p steps q → IsNormal ms q
walk_normal ms p q steps (ends s n) = n
walk_normal ms p r steps (walks t q u number times others s w) = walk_normal ms q r others w

pub walk_exists : (i : Problem) → IsInstance i → (ms : List Binomial) → AreMoves i ms → (p : List ℕ) → IsPoint i p →
    (steps : List (ℕ × ℕ)) × (q : List ℕ) × IsWalk ms p steps q
walk_exists i h ms a p e = go (suc (rank_of i p)) p (omega arith) e
  where
    go : (n : ℕ) (p : List ℕ) → rank_of i p < n → IsPoint i p → (steps : List (ℕ × ℕ)) × (q : List ℕ) × IsWalk ms p steps q
    go zero p l e = absurd (omega arith)
    go (suc n) p l e = first (first_dividing ms p) refl (go n)
      where
        first : (o : Option ℕ) → first_dividing ms p ≡ o → ((q : List ℕ) → rank_of i q < n → IsPoint i q → (steps : List (ℕ × ℕ)) × (r : List ℕ) × IsWalk ms q steps r) →
            (steps : List (ℕ × ℕ)) × (q : List ℕ) × IsWalk ms p steps q
        first None f later = ([], p, ends p f)
        first (Some k) f later =
            let d = dividing_gives ms p k f in
            let t = times_exist d.0.head p (head_positive i h d.0 (move_is i ms a k d.0 d.1)) in
            let q : List ℕ = moved d.0 t.0 p in
            let s : IsStep ms p k t.0 q = record { move = d.0; first = f; at = d.1; count = t.1; gives = refl } in
            let down = free_step_down i ms a p q e (step_is_free ms p q k t.0 s) in
            let w = later q (omega (arith, rank_falls i h p q e (down.member).point (down.member).degree down.below)) (down.member).point in
            ((k, t.0) ∷ w.0, w.1, walks p q w.1 k t.0 w.0 s w.2)

-- ---- the only walk

abbrev Ending : List Binomial → List ℕ → List (ℕ × ℕ) → List ℕ → Type 0
Ending ms p steps q = IsNormal ms p × (steps ≡ []) × (q ≡ p)

pub record Going (ms : List Binomial) (p : List ℕ) (steps : List (ℕ × ℕ)) (r : List ℕ) : Type 0 where
  pub next : List ℕ
  pub number : ℕ
  pub times : ℕ
  pub others : List (ℕ × ℕ)
  pub taken : IsStep ms p number times next
  pub rest : IsWalk ms next others r
  pub steps_are : steps ≡ (number, times) ∷ others

walk_cases : (ms : List Binomial) (p q : List ℕ) (steps : List (ℕ × ℕ)) → IsWalk ms p steps q → Ending ms p steps q ⊎ Going ms p steps q
walk_cases ms p q steps (ends s n) = inl (n, refl, refl)
walk_cases ms p r steps (walks t q u number times others s w) =
    inr (record { next = q; number = number; times = times; others = others; taken = s; rest = w; steps_are = refl })

same_step : (ms : List Binomial) (p q r : List ℕ) (k t l u : ℕ) → IsStep ms p k t q → IsStep ms p l u r → (k ≡ l) × (t ≡ u) × (q ≡ r)
same_step ms p q r k t l u a b =
    let number : k ≡ l = let e : Some k ≡ Some l = sym a.first ∙ b.first in cc in
    let move : a.move ≡ b.move = let e : Some a.move ≡ Some b.move = sym a.at ∙ ap (move_at ms) number ∙ b.at in cc in
    let times : t ≡ u = times_one b.move.head p t u (subst (λ (m : Binomial). IsTimes m.head p t) move a.count) b.count in
    (number, times, a.gives ∙ ap₂ (λ (m : Binomial) (n : ℕ). moved m n p) move times ∙ sym b.gives)

pub walk_one : (ms : List Binomial) (p q r : List ℕ) (steps others : List (ℕ × ℕ)) → IsWalk ms p steps q → IsWalk ms p others r → (steps ≡ others) × (q ≡ r)
walk_one ms p q r steps others (ends s n) v =
    ⊎_elim (λ c. (sym c.1, sym c.2)) (λ c. let no : None ≡ Some c.number = sym n ∙ c.taken.first in absurd (cc)) (walk_cases ms p r others v)
walk_one ms p z r steps others (walks x q y number times more s w) v =
    ⊎_elim (λ c. let no : None ≡ Some number = sym c.0 ∙ s.first in absurd (cc))
    (λ c.
    let same = same_step ms p q c.next number times c.number c.times s c.taken in
    let rest = walk_one ms q z r more c.others w (subst (λ (x : List ℕ). IsWalk ms x c.others r) (sym same.2) c.rest) in
    (ap₂ (λ (m : ℕ × ℕ) (l : List (ℕ × ℕ)). m ∷ l) (ap₂ (λ (k t : ℕ). (k, t)) same.0 same.1) rest.0 ∙ sym c.steps_are, rest.1))
    (walk_cases ms p r others v)

-- ---- walks by test lists

pub test_list_moves : (i : Problem) (g : ℕ) (ms : List Binomial) → IsTestList i g ms → AreMoves i ms
test_list_moves i g ms t k d l = move_from_test (get_or ms k d) ((t.sound k d l).0)
  where
    move_from_test : (m : Binomial) → IsTestMove i m → IsMove i m
    move_from_test m u = record {
      head = u.head.point;
      tail = u.tail.member.point;
      degree = u.tail.member.degree;
      below = u.tail.below m.head (in_own_fiber i m.head u.head.point) (λ e. least_not_improvable i (degree_of i.columns m.head) m.head (subst (IsLeast i (degree_of i.columns m.head)) (sym e) u.tail) u.head.improvable);
    }

-- the walk by a longer list, at points that no further head divides
pub walk_by_longer : (i : Problem) (ms ns : List Binomial) → AreMoves i (ms ++ ns) → (b : List ℕ) →
    ((p : List ℕ) → IsInFiber i b p → IsNormal ns p) →
    (p q : List ℕ) (steps : List (ℕ × ℕ)) → IsInFiber i b p → IsWalk (ms ++ ns) p steps q → IsWalk ms p steps q
walk_by_longer i ms ns a b none p q steps f (ends s n) = ends p (sym (dividing-append ms ns p (none p f)) ∙ n)
walk_by_longer i ms ns a b none p r steps f (walks x q y number times more s w) =
    let first : first_dividing ms p ≡ Some number = sym (dividing-append ms ns p (none p f)) ∙ s.first in
    let d = dividing_gives ms p number first in
    let same : d.0 ≡ s.move = let e : Some d.0 ≡ Some s.move = sym (move_at-append ms ns number d.0 d.1) ∙ s.at in cc in
    let down = free_step_down i (ms ++ ns) a p q f.point (step_is_free (ms ++ ns) p q number times s) in
    walks p q r number times more
    (record { move = s.move; first = first; at = d.1 ∙ ap Some same; count = s.count; gives = s.gives })
    (walk_by_longer i ms ns a b none q r more (record { point = (down.member).point; degree = (down.member).degree ∙ f.degree }) w)

pub walk_by_front : (i : Problem) (ms ns : List Binomial) → AreMoves i (ms ++ ns) → (b : List ℕ) →
    ((p : List ℕ) → IsInFiber i b p → IsNormal ns p) →
    (p q : List ℕ) (steps : List (ℕ × ℕ)) → IsInFiber i b p → IsWalk ms p steps q → IsWalk (ms ++ ns) p steps q
walk_by_front i ms ns a b none p q steps f (ends s n) = ends p (dividing-append ms ns p (none p f) ∙ n)
walk_by_front i ms ns a b none p r steps f (walks x q y number times more s w) =
    let t : IsStep (ms ++ ns) p number times q = record {
      move = s.move;
      first = dividing-append ms ns p (none p f) ∙ s.first;
      at = move_at-append ms ns number s.move s.at;
      count = s.count;
      gives = s.gives;
    } in
    let down = free_step_down i (ms ++ ns) a p q f.point (step_is_free (ms ++ ns) p q number times t) in
    walks p q r number times more t
    (walk_by_front i ms ns a b none q r more (record { point = (down.member).point; degree = (down.member).degree ∙ f.degree }) w)

pub front_before : (R : Binomial → Binomial → Type 0) (ms more : List Binomial) → InOrder R (ms ++ more) → (m n : Binomial) → Contains ms m → Contains more n → R m n
front_before R [] more o m n c d = absurd (Contains-nil m c)
front_before R (x ∷ ms) more o m n c d =
    ⊎_elim (λ e. subst (λ (y : Binomial). R y n) e (o.0 n (Contains-append_right ms more n d))) (λ c. front_before R ms more o.1 m n c d)
    (Contains-cons_cases x ms m c)

-- the further heads of a later test list divide no point of a grade that the earlier one covers
pub later_heads : (i : Problem) → IsInstance i → (g h : ℕ) (ms more : List Binomial) → IsTestList i g ms → IsTestList i h (ms ++ more) →
    (p : List ℕ) → IsPoint i p → grade_of i.columns p ≤ g → IsNormal more p
later_heads i s g h ms more t u p e l = normal_from_none more p none
  where
    none : (m : Binomial) → Contains more m → Divides m.head p → ⊥
    none m c d =
        let head : IsTestHead i m.head = ((move_is_sound i h (ms ++ more) u m (Contains-append_right ms more m c)).0).head in
        let small : grade_of i.columns m.head ≤ g = omega (arith, grade-divides i.columns m.head p (omega (arith, head.point, e)) d) in
        let r = move_of_head i g ms t m.head head small in
        before_itself i m.head (subst (λ (x : List ℕ). ComesBefore i x m.head) r.2
        (front_before (λ (m n : Binomial). ComesBefore i m.head n.head) ms more (InOrder-from_pairs (λ (m n : Binomial). ComesBefore i m.head n.head) (ms ++ more) u.ordered) r.0 m r.1 c))

pub walks_stay : (i : Problem) → IsInstance i → (g h : ℕ) → g ≤ h → (ms ns : List Binomial) → IsTestList i g ms → IsTestList i h ns →
    (p : List ℕ) → IsPoint i p → grade_of i.columns p ≤ g → (steps : List (ℕ × ℕ)) (q : List ℕ) → IsWalk ns p steps q ↔ IsWalk ms p steps q
walks_stay i s g h l ms ns t u p e k steps q =
    let grown = test_lists_grow i g h l in
    let same : ms ++ grown.0 ≡ ns = ap (λ x. x ++ grown.0) ((test_lists i s g ms).1 t) ∙ sym grown.1 ∙ sym ((test_lists i s h ns).1 u) in
    subst (λ (x : List Binomial). IsWalk x p steps q ↔ IsWalk ms p steps q) same
    (by_front grown.0 (subst (IsTestList i h) (sym same) u))
  where
    by_front : (more : List Binomial) → IsTestList i h (ms ++ more) → IsWalk (ms ++ more) p steps q ↔ IsWalk ms p steps q
    by_front more v = (
      walk_by_longer i ms more (test_list_moves i h (ms ++ more) v) (degree_of i.columns p) none p q steps (record { point = e; degree = refl }),
      walk_by_front i ms more (test_list_moves i h (ms ++ more) v) (degree_of i.columns p) none p q steps (record { point = e; degree = refl }),
    )
      where
        none : (r : List ℕ) → IsInFiber i (degree_of i.columns p) r → IsNormal more r
        none r f = later_heads i s g h ms more t v r f.point (let same : grade_of i.columns r ≡ grade_of i.columns p = ap total f.degree in omega arith)

-- ---- walks within a bound

-- A bound on degrees that passes to parts. Where each test head within it is a head of the list, points within it walk
-- to the least point of their fiber.
module _ (i : Problem) (s : IsInstance i) (ms : List Binomial) (moves : AreMoves i ms) (Within : List ℕ → Type 0)
    (parts : (a b : List ℕ) → Within (add a b) → Within b)
    (heads : (p : List ℕ) → IsTestHead i p → Within (degree_of i.columns p) → Contains (map (λ m. m.head) ms) p) where
  pub walk_least_within : (p q : List ℕ) → IsPoint i p → Within (degree_of i.columns p) → IsWalkEnd ms p q → IsLeast i (degree_of i.columns p) q
  walk_least_within p q e within w =
      let down = leads_down i ms moves p q e (walk_leads ms p q w.steps w.walk) in
      subst (λ (b : List ℕ). IsLeast i b q) (down.member).degree
      (⊎_elim (λ least. least) (λ m. absurd (still (down.member).point (subst Within (sym (down.member).degree) within) m)) (least_or_improvable i s q (down.member).point))
    where
      still : IsPoint i q → Within (degree_of i.columns q) → IsImprovable i q → ⊥
      still f l m =
          let r = has_test_head i s q f m in
          let rest : List ℕ = subtract q r.0 in
          let whole : add (degree_of i.columns rest) (degree_of i.columns r.0) ≡ degree_of i.columns q =
          sym (degree-add i.columns rest r.0) ∙ ap (degree_of i.columns) (add-subtract q r.0 (omega (arith, (r.1).point, f)) r.2) in
          let n = map_gives (λ m. m.head) ms r.0 (heads r.0 r.1 (parts (degree_of i.columns rest) (degree_of i.columns r.0) (subst Within (sym whole) l))) in
          normal_none ms q (walk_normal ms p q w.steps w.walk) n.0 n.1 (subst (λ (h : List ℕ). Divides h q) (sym n.2) r.2)

  -- so free steps lead there
  pub leads_to_least_within : (b p : List ℕ) → IsInFiber i b p → Within b → Leads ms p (least_of i b)
  leads_to_least_within b p f within =
      let w = walk_exists i s ms moves p f.point in
      let least : IsLeast i b w.1 =
      subst (λ (d : List ℕ). IsLeast i d w.1) f.degree (walk_least_within p w.1 f.point (subst Within (sym f.degree) within) (record { steps = w.0; walk = w.2 })) in
      subst (Leads ms p) (is_least_of i s b w.1 least) (walk_leads ms p w.1 w.0 w.2)

  -- and two points of one degree are led to one point
  pub joins_within : (b p q : List ℕ) → IsInFiber i b p → IsInFiber i b q → Within b → AreJoined ms p q
  joins_within b p q f k within = record { point = least_of i b; first = leads_to_least_within b p f within; second = leads_to_least_within b q k within }

-- ---- the same for a test list, which has each test head up to its grade

abbrev pub UpTo : ℕ → List ℕ → Type 0
UpTo g b = total b ≤ g

pub parts_up_to : (g : ℕ) (a b : List ℕ) → UpTo g (add a b) → UpTo g b
parts_up_to g a b l = omega (arith, total-add a b)

pub parts_within : (g : ℕ) (top a b : List ℕ) → IsWithin g top (add a b) → IsWithin g top b
parts_within g top a b u = record { grade = omega (arith, total-add a b, u.grade); bound = Divides-trans b (add a b) top (Divides-add a b) u.bound }

pub walk_least : (i : Problem) → IsInstance i → (g : ℕ) (ms : List Binomial) → IsTestList i g ms → (p q : List ℕ) → IsPoint i p → grade_of i.columns p ≤ g →
    IsWalkEnd ms p q → IsLeast i (degree_of i.columns p) q
walk_least i s g ms t = walk_least_within i s ms (test_list_moves i g ms t) (UpTo g) (parts_up_to g) t.complete

-- two points of one degree that a test list covers are led to one point
pub test_list_joins : (i : Problem) → IsInstance i → (g : ℕ) (ms : List Binomial) → IsTestList i g ms → (b p q : List ℕ) → IsInFiber i b p → IsInFiber i b q → total b ≤ g → AreJoined ms p q
test_list_joins i s g ms t = joins_within i s ms (test_list_moves i g ms t) (UpTo g) (parts_up_to g) t.complete
