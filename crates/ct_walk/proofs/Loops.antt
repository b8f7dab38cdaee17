-- For the loops: the scan for the first move that divides, and the walk step by step.
use Rattle.std.proofs.Common.{ℕ, ◌+◌, ◌<◌, ◌≡◌, Bool, true, false, cond, Option, Some, None, List, [], ◌∷◌, ◌++◌, length, get_or, take, refl, sym, subst, ap, ap₂, ◌∙◌, arith, zero, suc, append_assoc, append-nil}
use Rattle.std.specs.Option.{option_map}
use Rattle.ct_vectors.specs.Vectors.{divides}
use Rattle.ct_instance.specs.Instance.{Problem, IsInstance, IsPoint, grade_of}
use Rattle.ct_instance.specs.TestSet.{Binomial}
use Rattle.ct_instance.specs.Walk.{first_dividing, IsNormal, AreMoves, FreeStep, IsStep, IsWalk, ends, walks}
use Rattle.ct_instance.proofs.Fiber.{rank_of, rank_falls}
use Rattle.ct_walk.specs.Moves.{MoveList, Follows}
use Rattle.ct_walk.proofs.Steps.{free_step_down}
use Rattle.ct_walk.proofs.WalkFacts.{step_is_free}

-- ---- the scan from the front

normal_tail : (m : Binomial) (ms : List Binomial) (p : List ℕ) → IsNormal (m ∷ ms) p → (divides m.head p ≡ false) × IsNormal ms p
normal_tail m ms p e = go (divides m.head p) refl (first_dividing ms p) refl e
  where
    go : (b : Bool) → divides m.head p ≡ b → (o : Option ℕ) → first_dividing ms p ≡ o → cond b (Some 1) (option_map suc o) ≡ None → (divides m.head p ≡ false) × IsNormal ms p
    go true d o f s = absurd (cc)
    go false d None f s = (d, f)
    go false d (Some k) f s = absurd (cc)

-- the move with the index k divides, and none before it
pub first_dividing_here : (ms : List Binomial) (p : List ℕ) (k : ℕ) (d : Binomial) → k < length ms → IsNormal (take k ms) p → divides (get_or ms k d).head p ≡ true →
    first_dividing ms p ≡ Some (k + 1)
first_dividing_here [] p k d l n t = absurd (omega arith)
first_dividing_here (m ∷ ms) p zero d l n t = ap (λ (b : Bool). cond b (Some 1) (option_map suc (first_dividing ms p))) t
first_dividing_here (m ∷ ms) p (suc k) d l n t =
    let r = normal_tail m (take k ms) p n in
    let e : suc (k + 1) ≡ suc k + 1 = omega arith in
    ap₂ (λ (b : Bool) (o : Option ℕ). cond b (Some 1) (option_map suc o)) r.0 (first_dividing_here ms p k d (omega arith) r.1 t) ∙ ap Some e

-- ---- the walk step by step

-- a step lowers the rank
pub free_step_rank : (i : Problem) → IsInstance i → (ms : List Binomial) → AreMoves i ms → (p q : List ℕ) → IsPoint i p → FreeStep ms p q → rank_of i q < rank_of i p
free_step_rank i h ms a p q e f =
    let d = free_step_down i ms a p q e f in
    rank_falls i h p q e (d.member).point (d.member).degree d.below

pub step_rank : (i : Problem) → IsInstance i → (ms : List Binomial) → AreMoves i ms → (p q : List ℕ) (number times : ℕ) → IsPoint i p → IsStep ms p number times q → rank_of i q < rank_of i p
step_rank i h ms a p q number times e s = free_step_rank i h ms a p q e (step_is_free ms p q number times s)

-- the steps done lead from p to q: with each walk of q they are a walk of p
pub record Walked (ms : List Binomial) (p : List ℕ) (done : List (ℕ × ℕ)) (q : List ℕ) : Type 0 where
  pub on : (rest : List (ℕ × ℕ)) (r : List ℕ) → IsWalk ms q rest r → IsWalk ms p (done ++ rest) r

pub walked_more : (ms : List Binomial) (p q r : List ℕ) (done : List (ℕ × ℕ)) (number times : ℕ) → Walked ms p done q → IsStep ms q number times r → Walked ms p (done ++ (number, times) ∷ []) r
walked_more ms p q r done number times w s = record {
  on = λ rest z v. subst (λ (x : List (ℕ × ℕ)). IsWalk ms p x z) (sym (append_assoc done ((number, times) ∷ []) rest)) (w.on ((number, times) ∷ rest) z (walks q r z number times rest s v));
}

pub walked_whole : (ms : List Binomial) (p q : List ℕ) (done : List (ℕ × ℕ)) → Walked ms p done q → IsNormal ms q → IsWalk ms p done q
walked_whole ms p q done w n = subst (λ (x : List (ℕ × ℕ)). IsWalk ms p x q) (append-nil done) (w.on [] q (ends q n))

-- the state of the loop of a walk: the steps done lead on, and the point keeps its width and its grade
pub record Walking (l : MoveList) (p : List ℕ) (done : List (ℕ × ℕ)) (q : List ℕ) : Type 0 where
  pub walked : Walked l.moves p done q
  pub point : IsPoint l.instance q
  pub grade : grade_of l.instance.columns q ≡ grade_of l.instance.columns p

-- the same where the steps aren't kept
pub record WalkingOn (l : MoveList) (p q : List ℕ) : Type 0 where
  pub done : List (ℕ × ℕ)
  pub walking : Walking l p done q

-- the state of the loop over steps that a caller names
pub record Following (l : MoveList) (p : List ℕ) (done : List (ℕ × ℕ)) (q : List ℕ) : Type 0 where
  pub follows : Follows l.moves p done q
  pub point : IsPoint l.instance q
  pub grade : grade_of l.instance.columns q ≡ grade_of l.instance.columns p
