-- Two walks: one of two points steps, both are measured by their ranks, and walks that share a point have one end.
use Rattle.std.proofs.Common.{ℕ, ◌+◌, ◌≤◌, ◌<◌, ◌≡◌, All, List, [], ◌∷◌, ◌++◌, get_or, sym, subst, ap, ◌∙◌, arith}
use Rattle.std.proofs.lemmas.List.{get_or_default}
use Rattle.ct_vectors.specs.Vectors.{total}
use Rattle.ct_vectors.specs.declared.limits.TheConstants.{GRADE_LIMIT}
use Rattle.ct_instance.specs.Instance.{Problem, IsInstance, IsPoint, degree_of, grade_of}
use Rattle.ct_instance.specs.TestSet.{Binomial}
use Rattle.ct_instance.specs.Walk.{IsStep, IsWalkEnd}
use Rattle.ct_instance.proofs.Degree.{columns, total-le-grade}
use Rattle.ct_instance.proofs.Fiber.{rank_of}
use Rattle.ct_instance.proofs.Grades.{get_or-le-total}
use Rattle.ct_walk.specs.Moves.{MoveList, IsMoveList, HaveOneEnd, OneSteps, first_steps, second_steps}
use Rattle.ct_walk.proofs.Steps.{free_step_down, leads_down}
use Rattle.ct_walk.proofs.WalkFacts.{walk_exists, walk_one, walk_leads, step_is_free}
use Rattle.ct_walk.proofs.MoveFacts.{are_moves}
use Rattle.ct_walk.proofs.Loops.{WalkingOn, step_rank, walked_more}

-- no coordinate is above the grade
pub coordinates_within : (i : Problem) → IsInstance i → (p : List ℕ) → grade_of i.columns p ≤ GRADE_LIMIT → All (λ x. x ≤ GRADE_LIMIT) p
coordinates_within i h p g k d l =
    let sum : total p ≤ grade_of i.columns p = total-le-grade i.rows i.columns (columns i h) p in
    let at : get_or p k 0 ≤ total p = get_or-le-total p k in
    let default : get_or p k d ≡ get_or p k 0 = get_or_default p k d 0 l in
    omega arith

-- ---- one step of one of both

stepped : (l : MoveList) → IsMoveList l → (p x u : List ℕ) (number times : ℕ) → WalkingOn l p x → IsStep l.moves x number times u → WalkingOn l p u
stepped l h p x u number times w s =
    let down = free_step_down l.instance l.moves (are_moves l h) x u w.walking.point (step_is_free l.moves x u number times s) in record {
      done = w.done ++ (number, times) ∷ [];
      walking = record {
        walked = walked_more l.moves p x u w.done number times w.walking.walked s;
        point = (down.member).point;
        grade = grade_kept (down.member).degree ∙ w.walking.grade;
      };
    }
  where
    grade_kept : degree_of l.instance.columns u ≡ degree_of l.instance.columns x → grade_of l.instance.columns u ≡ grade_of l.instance.columns x
    grade_kept e = ap total e

-- both walks go on
pub record WalkingBoth (l : MoveList) (p q x y : List ℕ) : Type 0 where
  pub first : WalkingOn l p x
  pub second : WalkingOn l q y

pub both_on : (l : MoveList) → IsMoveList l → (p q x y u v : List ℕ) → WalkingBoth l p q x y → OneSteps l.moves x y u v → WalkingBoth l p q u v
both_on l h p q x y u v w (first_steps number times s e) = record {
  first = stepped l h p x u number times w.first s;
  second = subst (WalkingOn l q) (sym e) w.second;
}
both_on l h p q x y u v w (second_steps number times s e) = record {
  first = subst (WalkingOn l p) (sym e) w.first;
  second = stepped l h q y v number times w.second s;
}

pub ranks_fall : (l : MoveList) → IsMoveList l → (p q x y u v : List ℕ) → WalkingBoth l p q x y → OneSteps l.moves x y u v →
    rank_of l.instance u + rank_of l.instance v < rank_of l.instance x + rank_of l.instance y
ranks_fall l h p q x y u v w (first_steps number times s e) =
    let less : rank_of l.instance u < rank_of l.instance x = step_rank l.instance h.instance l.moves (are_moves l h) x u number times (w.first).walking.point s in
    let same : rank_of l.instance v ≡ rank_of l.instance y = ap (rank_of l.instance) e in
    omega arith
ranks_fall l h p q x y u v w (second_steps number times s e) =
    let less : rank_of l.instance v < rank_of l.instance y = step_rank l.instance h.instance l.moves (are_moves l h) y v number times (w.second).walking.point s in
    let same : rank_of l.instance u ≡ rank_of l.instance x = ap (rank_of l.instance) e in
    omega arith

-- ---- where both stop

-- what the walk on ends at, the walk from the start ends at
pub ends_on : (l : MoveList) (p x z : List ℕ) → WalkingOn l p x → IsWalkEnd l.moves x z → IsWalkEnd l.moves p z
ends_on l p x z w e = record { steps = w.done ++ e.steps; walk = w.walking.walked.on e.steps z e.walk }

-- they share a point
pub shared_point : (l : MoveList) → IsMoveList l → (p q x y : List ℕ) → WalkingBoth l p q x y → x ≡ y → HaveOneEnd l.moves p q
shared_point l h p q x y w e =
    let on = walk_exists l.instance h.instance l.moves (are_moves l h) x (w.first).walking.point in
    let ends : IsWalkEnd l.moves x on.1 = record { steps = on.0; walk = on.2 } in record {
      end = on.1;
      first = ends_on l p x on.1 w.first ends;
      second = ends_on l q y on.1 w.second (subst (λ (r : List ℕ). IsWalkEnd l.moves r on.1) e ends);
    }

-- both have come to their ends
pub one_end : (ms : List Binomial) (p q x y : List ℕ) → IsWalkEnd ms p x → IsWalkEnd ms q y → x ≡ y → HaveOneEnd ms p q
one_end ms p q x y a b e = record { end = x; first = a; second = subst (IsWalkEnd ms q) (sym e) b }

pub ends_agree : (ms : List Binomial) (p q x y : List ℕ) → IsWalkEnd ms p x → IsWalkEnd ms q y → HaveOneEnd ms p q → x ≡ y
ends_agree ms p q x y a b one =
    (walk_one ms p x one.end a.steps (one.first).steps a.walk (one.first).walk).1 ∙
    sym (walk_one ms q y one.end b.steps (one.second).steps b.walk (one.second).walk).1

pub end_is_point : (l : MoveList) → IsMoveList l → (p q : List ℕ) → IsPoint l.instance p → IsWalkEnd l.moves p q → IsPoint l.instance q
end_is_point l h p q e w = ((leads_down l.instance l.moves (are_moves l h) p q e (walk_leads l.moves p q w.steps w.walk)).member).point

-- neither takes a step
pub both_stay : (l : MoveList) (p q x y u v : List ℕ) → WalkingBoth l p q x y → u ≡ x → v ≡ y → WalkingBoth l p q u v
both_stay l p q x y u v w e f = record {
  first = subst (WalkingOn l p) (sym e) w.first;
  second = subst (WalkingOn l q) (sym f) w.second;
}
