-- What the code that makes moves rests on: no coordinate overflows, and steps that a caller names.
use Rattle.std.proofs.Common.{ℕ, ◌≤◌, ◌<◌, ◌^◌, ◌≡◌, All, Some, List, [], ◌∷◌, ◌++◌, length, get_or, subst, ap, arith}
use Rattle.ct_vectors.specs.declared.limits.TheConstants.{GRADE_LIMIT}
use Rattle.std.proofs.lemmas.List.{get_or_default}
use Rattle.std.proofs.lemmas.List.Elements.{All-weaker}
use Rattle.ct_vectors.specs.Vectors.{total, scale, Divides, IsTimes}
use Rattle.ct_vectors.proofs.Divisors.{Divides-trans, Divides-scale}
use Rattle.ct_instance.specs.Instance.{Problem, IsInstance, IsPoint, grade_of}
use Rattle.ct_instance.specs.TestSet.{Binomial}
use Rattle.ct_instance.specs.Walk.{IsMove, AreMoves, IsStep, first_dividing, moved}
use Rattle.ct_instance.specs.Jobs.{the_move}
use Rattle.ct_instance.proofs.Degree.{columns, total-le-grade}
use Rattle.ct_instance.proofs.Grades.{get_or-le-total}
use Rattle.ct_walk.specs.Moves.{MoveList, IsMoveList, IsSmallMove, CanApply, Follows}
use Rattle.ct_walk.proofs.Steps.{moved_degree, dividing_gives, move_at_within}
use Rattle.ct_walk.proofs.Ends.{the_move_at}

pub are_moves : (l : MoveList) → IsMoveList l → AreMoves l.instance l.moves
are_moves l h = All-weaker (IsSmallMove l.instance) (IsMove l.instance) (λ m s. s.move) l.moves h.moves

pub moved_grade : (i : Problem) (m : Binomial) → IsMove i m → (t : ℕ) (p : List ℕ) → IsPoint i p → Divides (scale t m.head) p →
    grade_of i.columns (moved m t p) ≡ grade_of i.columns p
moved_grade i m a t p e fits = ap total (moved_degree i m a t p e fits)

pub moved_within : (i : Problem) → IsInstance i → (m : Binomial) → IsMove i m → (t : ℕ) (p : List ℕ) → IsPoint i p → Divides (scale t m.head) p →
    grade_of i.columns p ≤ GRADE_LIMIT → All (λ x. x < 2 ^ 64) (moved m t p)
moved_within i h m a t p e fits g k d l =
    let same : grade_of i.columns (moved m t p) ≡ grade_of i.columns p = moved_grade i m a t p e fits in
    let sum : total (moved m t p) ≤ grade_of i.columns (moved m t p) = total-le-grade i.rows i.columns (columns i h) (moved m t p) in
    let at : get_or (moved m t p) k 0 ≤ total (moved m t p) = get_or-le-total (moved m t p) k in
    let default : get_or (moved m t p) k d ≡ get_or (moved m t p) k 0 = get_or_default (moved m t p) k d 0 l in
    omega arith

pub first_within : (ms : List Binomial) (p : List ℕ) (k : ℕ) → first_dividing ms p ≡ Some k → (1 ≤ k) × (k ≤ length ms)
first_within ms p k e = let d = dividing_gives ms p k e in move_at_within ms k d.0 d.1

pub step_from : (ms : List Binomial) (p q : List ℕ) (k t : ℕ) → first_dividing ms p ≡ Some k → IsTimes (the_move ms k).head p t → q ≡ moved (the_move ms k) t p →
    IsStep ms p k t q
step_from ms p q k t first count gives =
    let w = first_within ms p k first in
    record { move = the_move ms k; first = first; at = the_move_at ms k w.0 w.1; count = count; gives = gives }

-- a count applies exactly where it is at most the greatest
pub fits_up_to : (h p : List ℕ) (s t : ℕ) → IsTimes h p t → s ≤ t → Divides (scale s h) p
fits_up_to h p s t c l = Divides-trans (scale s h) (scale t h) p (Divides-scale s t h l) c.fits

-- one step more at the end
pub Follows-more : (ms : List Binomial) (p q : List ℕ) (steps : List (ℕ × ℕ)) (number times : ℕ) → Follows ms p steps q → CanApply ms q number times →
    Follows ms p (steps ++ (number, times) ∷ []) (moved (the_move ms number) times q)
Follows-more ms p q [] number times f c = (subst (λ r. CanApply ms r number times) f c, ap (moved (the_move ms number) times) f)
Follows-more ms p q (s ∷ steps) number times f c = (f.0, Follows-more ms (moved (the_move ms s.0) s.1 p) q steps number times f.1 c)
