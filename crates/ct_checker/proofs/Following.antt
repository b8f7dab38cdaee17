-- Steps that are followed in code, against where they lead.
use Rattle.std.proofs.Common.{ℕ, ◌<◌, ◌≡◌, Some, None, List, [], ◌∷◌, length, take, subst, ◌∙◌, arith, zero, suc, refl}
use Rattle.std.specs.List.{slice_get}
use Rattle.std.proofs.lemmas.Bool.{cond-true, cond-false, false_from_ne_true}
use Rattle.ct_instance.specs.Instance.{IsPoint}
use Rattle.ct_instance.specs.TestSet.{Binomial}
use Rattle.ct_instance.specs.Walk.{moved}
use Rattle.ct_instance.specs.Jobs.{the_move}
use Rattle.ct_walk.specs.Moves.{MoveList, IsMoveList, CanApply, Follows, IsRefused}
use Rattle.ct_walk.proofs.Steps.{leads_down}
use Rattle.ct_walk.proofs.MoveFacts.{are_moves}
use Rattle.ct_walk.proofs.Followed.{follows_leads}
use Rattle.ct_checker.specs.Refusals.{can_apply, end_of_steps}
use Rattle.ct_checker.proofs.Refusals.{apply_test, end_test}

-- where a step is refused, the steps lead nowhere
refused_at : (ms : List Binomial) (p : List ℕ) (steps : List (ℕ × ℕ)) (k : ℕ) (q : List ℕ) → k < length steps → Follows ms p (take k steps) q →
    ((number times : ℕ) → slice_get steps k ≡ Some (number, times) → CanApply ms q number times → ⊥) → end_of_steps ms p steps ≡ None
refused_at ms p [] k q l f r = absurd (omega arith)
refused_at ms p (s ∷ steps) zero q l f r =
    cond-false (can_apply ms p s) (end_of_steps ms (moved (the_move ms s.0) s.1 p) steps) None
    (false_from_ne_true (can_apply ms p s) (λ t. r s.0 s.1 refl (subst (λ x. CanApply ms x s.0 s.1) (back f) ((apply_test ms p s).0 t))))
  where
    back : q ≡ p → p ≡ q
    back e = cc
refused_at ms p (s ∷ steps) (suc k) q l f r =
    cond-true (can_apply ms p s) (end_of_steps ms (moved (the_move ms s.0) s.1 p) steps) None ((apply_test ms p s).1 f.0) ∙
    refused_at ms (moved (the_move ms s.0) s.1 p) steps k q (omega arith) f.1 r

pub refused_nowhere : (ms : List Binomial) (p : List ℕ) (steps : List (ℕ × ℕ)) (k : ℕ) (q : List ℕ) → IsRefused ms p steps k q → end_of_steps ms p steps ≡ None
refused_nowhere ms p steps k q r = refused_at ms p steps k q r.within r.before r.refused

pub followed_to : (ms : List Binomial) (p : List ℕ) (steps : List (ℕ × ℕ)) (q : List ℕ) → Follows ms p steps q → end_of_steps ms p steps ≡ Some q
followed_to ms p steps q f = (end_test ms p q steps).1 f

-- what is followed to is a point
pub followed_point : (l : MoveList) → IsMoveList l → (p : List ℕ) (steps : List (ℕ × ℕ)) (q : List ℕ) → IsPoint l.instance p → Follows l.moves p steps q → IsPoint l.instance q
followed_point l h p steps q e f = ((leads_down l.instance l.moves (are_moves l h) p q e (follows_leads l.moves p q steps f)).member).point

pub refused_point : (l : MoveList) → IsMoveList l → (p : List ℕ) (steps : List (ℕ × ℕ)) (k : ℕ) (q : List ℕ) → IsPoint l.instance p → IsRefused l.moves p steps k q → IsPoint l.instance q
refused_point l h p steps k q e r = followed_point l h p (take k steps) q e r.before
