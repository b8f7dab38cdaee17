-- What is put into the ledger of a test list is within the limits of a ledger.
use Rattle.std.proofs.Common.{ℕ, ◌+◌, ◌≤◌, ◌<◌, ◌≡◌, List, [], ◌∷◌, ◌++◌, length, map, take, get_or, refl, sym, ap, ◌∙◌, arith, suc}
use Rattle.std.proofs.lemmas.List.{get_or_default, map-append, take_more}
use Rattle.std.proofs.lemmas.Option.{unwrap_or-slice_get}
use Rattle.std.proofs.lemmas.List.Elements.{All-nil, All-cons}
use Rattle.ct_vectors.specs.Vectors.{total}
use Rattle.ct_vectors.specs.declared.limits.TheConstants.{GRADE_LIMIT, MOVE_LIMIT}
use Rattle.ct_vectors.proofs.Divisors.{times-le-total}
use Rattle.ct_instance.specs.Instance.{Problem, IsInstance, IsPoint, column_count, grade_of}
use Rattle.ct_instance.specs.TestSet.{Binomial}
use Rattle.ct_instance.specs.Walk.{IsMove, AreMoves, IsWalk, moved}
use Rattle.ct_instance.specs.Jobs.{the_move}
use Rattle.ct_instance.proofs.Degree.{columns, total-le-grade, coordinate-le-grade}
use Rattle.ct_walk.specs.Moves.{MoveList, IsMoveList, IsSmallMove, CanApply, Follows}
use Rattle.ct_walk.proofs.Steps.{head_positive, move_is, moved_is_point}
use Rattle.ct_walk.proofs.MoveFacts.{are_moves, moved_grade}
use Rattle.ct_walk.proofs.Followed.{walk_follows}
use Rattle.ct_walk.proofs.Ends.{the_move_at}
use Rattle.ct_checker.specs.Certified.{pair_of}
use Rattle.ct_checker.specs.Checking.{as_move}
use Rattle.ct_ledger.specs.Parts.{IsLedgerPoint, AreSteps, IsNumber}

-- a point of at most the greatest grade has coordinates within the limit
pub small_point : (i : Problem) → IsInstance i → (p : List ℕ) → IsPoint i p → grade_of i.columns p ≤ GRADE_LIMIT → IsLedgerPoint (column_count i) i.rows p
small_point i s p e l = record { numbers = e; limit = within }
  where
    within : (k d : ℕ) → k < length p → get_or p k d ≤ GRADE_LIMIT
    within k d h =
        let same : get_or p k d ≡ get_or p k 0 = get_or_default p k d 0 h in
        let small : get_or p k 0 ≤ grade_of i.columns p = coordinate-le-grade i.rows i.columns (columns i s) p k in
        omega arith

pub small_head : (i : Problem) → IsInstance i → (m : Binomial) → IsSmallMove i m → IsLedgerPoint (column_count i) i.rows m.head
small_head i s m u = small_point i s m.head (u.move).head u.grade

pub small_tail : (i : Problem) → IsInstance i → (m : Binomial) → IsSmallMove i m → IsLedgerPoint (column_count i) i.rows m.tail
small_tail i s m u = small_point i s m.tail (u.move).tail (let same : grade_of i.columns m.tail ≡ grade_of i.columns m.head = ap total (u.move).degree in omega (arith, u.grade))

-- steps that apply in turn from a point of at most the greatest grade are within the limits
steps_within : (i : Problem) → IsInstance i → (ms : List Binomial) → AreMoves i ms → length ms ≤ MOVE_LIMIT → (p q : List ℕ) → IsPoint i p → grade_of i.columns p ≤ GRADE_LIMIT →
    (steps : List (ℕ × ℕ)) → Follows ms p steps q → AreSteps steps
steps_within i s ms a few p q e l [] f = All-nil (λ t. IsNumber t.0 × ((1 ≤ t.1) × (t.1 ≤ GRADE_LIMIT)))
steps_within i s ms a few p q e l (t ∷ steps) f =
    let c : CanApply ms p t.0 t.1 = f.0 in
    let m : IsMove i (the_move ms t.0) = move_is i ms a t.0 (the_move ms t.0) (the_move_at ms t.0 c.number_some c.number_within) in
    let times : t.1 ≤ total p = times-le-total t.1 (the_move ms t.0).head p (head_positive i s (the_move ms t.0) m) c.fits in
    let same : grade_of i.columns (moved (the_move ms t.0) t.1 p) ≡ grade_of i.columns p = moved_grade i (the_move ms t.0) m t.1 p e c.fits in
    All-cons (λ t. IsNumber t.0 × ((1 ≤ t.1) × (t.1 ≤ GRADE_LIMIT))) t steps
    ((c.number_some, omega (arith, c.number_within, few)), (c.some, omega (arith, times, total-le-grade i.rows i.columns (columns i s) p, l)))
    (steps_within i s ms a few (moved (the_move ms t.0) t.1 p) q (moved_is_point i (the_move ms t.0) m t.1 p e) (omega (arith, same, l)) steps f.1)

pub walk_within : (l : MoveList) → IsMoveList l → (p q : List ℕ) → IsPoint l.instance p → grade_of l.instance.columns p ≤ GRADE_LIMIT → (steps : List (ℕ × ℕ)) → IsWalk l.moves p steps q → AreSteps steps
walk_within l h p q e g steps w = steps_within l.instance h.instance l.moves (are_moves l h) h.most p q e g steps (walk_follows l.moves p q steps w)

-- one more move of a list that is put in as pairs
pub pairs_more : (ms : List Binomial) (k : ℕ) (m : Binomial) → k < length ms → m ≡ the_move ms (k + 1) → map pair_of (take k ms) ++ pair_of m ∷ [] ≡ map pair_of (take (k + 1) ms)
pairs_more ms k m l e =
    let none : Binomial = record { head = []; tail = [] } in
    let same : get_or ms k none ≡ m =
    sym (unwrap_or-slice_get ms k none) ∙ ap (the_move ms) (let n : suc k ≡ k + 1 = omega arith in n) ∙ sym e in
    ap (λ x. map pair_of (take k ms) ++ pair_of x ∷ []) (sym same) ∙ sym (map-append pair_of (take k ms) (get_or ms k none ∷ [])) ∙ ap (map pair_of) (sym (take_more ms k none l))

-- what was put in as pairs are the moves
pub moves_back : (ms : List Binomial) → map as_move (map pair_of ms) ≡ ms
moves_back [] = refl
moves_back (m ∷ ms) = ap (λ l. m ∷ l) (moves_back ms)
