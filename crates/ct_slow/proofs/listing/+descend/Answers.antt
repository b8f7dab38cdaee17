use Rattle.std.proofs.Common.{◌≡◌, ℕ, ◌+◌, ◌≤◌, ◌<◌, ◌++◌, [], ◌∷◌, List, All, take, drop, set, get_or, length, map, cond, Option, None, Some, IsSome, IfSome, is_some, unwrap_or, slice_get, ◌↔◌, true, false, refl, zero, suc, add-one, sym, ap, ◌∙◌, subst, arith, rules}
use Rattle.std.proofs.lemmas.List.{take-take, take-set, length-set}
use Rattle.std.proofs.lemmas.List.Elements.{All-set}
use Rattle.std.specs.List.{best_of}
use Rattle.ct_vectors.proofs.Sums.{length-subtract}
use Rattle.ct_vectors.specs.Vectors.{total, subtract, scale, Divides}
use Rattle.ct_vectors.proofs.Divisors.{times-le-total, total-divides, subtract-divides}
use Rattle.ct_vectors.specs.declared.limits.TheConstants.{JOB_GRADE_LIMIT}
use Rattle.ct_instance.specs.Instance.{Problem, column_count}
use Rattle.ct_instance.specs.Jobs.{the_column}
use Rattle.ct_instance.specs.Fiber.{is_lower, fiber_of}
use Rattle.ct_slow.proofs.Fibers
use Rattle.ct_slow.proofs.listing.+descend.Goals as goal

no_more : {P : Type 0} (d : Option (List ℕ)) → d ≡ None → IsSome d ↔ P → P → ⊥
no_more d none same p = let yes : is_some d ≡ true = same.1 p in
    let not : is_some d ≡ false = ap is_some none in
    cc

one_more : {P : Type 0} {q : List ℕ} (d : Option (List ℕ)) (less : List ℕ) → d ≡ Some less → IsSome d ↔ P → IfSome d (λ p. p ≡ q) → P × (less ≡ q)
one_more {P} {q} d less some same difference =
    (same.0 (subst (λ o. IsSome o) (sym some) refl), subst (λ o. IfSome o (λ p. p ≡ q)) some difference)

column_at : (column : List ℕ) (i : Problem) (j : ℕ) → column ≡ the_column i (j + 1) → j < column_count i → column ≡ get_or i.columns j []
column_at column i j e l = e ∙ ap (the_column i) (add-one j) ∙ read i.columns j l
  where
    read : (cs : List (List ℕ)) (j : ℕ) → j < length cs → unwrap_or (slice_get cs j) [] ≡ get_or cs j []
    read [] j l = absurd (omega arith)
    read (c ∷ cs) zero l = refl
    read (c ∷ cs) (suc j) l = read cs j (omega arith)

same_front : (j x : ℕ) (front point written ended : List ℕ) → written ≡ set point j x → take (j + 1) ended ≡ take (j + 1) written → take j point ≡ take j front → take j ended ≡ take j front
same_front j x front point written ended e f g =
    sym (take-take j (j + 1) ended (omega arith)) ∙ ap (take j) f ∙ take-take j (j + 1) written (omega arith) ∙ ap (take j) e ∙ take-set point j x ∙ g

pub returns-then-j-columns-clause-lowest : goal.returns-then-j-columns-clause-lowest
returns-then-j-columns-clause-lowest t c =
    let j-is : c.args.j ≡ column_count c.args.inst.now = c.if-j-columns.true ∙ c.columns.ensures.columns in
    let ended : c.end_with.new.point ≡ take c.args.j c.args.point.now ++ c.args.rest.now =
    c.end_with.ensures.ended ∙ ap (λ n. take n c.args.point.now ++ c.args.rest.now) (sym j-is) in
    c.end_with.ensures.lowest ∙ ap (λ p. cond (is_lower c.args.inst.now p c.args.best.now) p c.args.best.now) ended ∙
    sym (Fibers.last_point c.args.inst.now c.args.j c.args.point.now c.args.rest.now c.args.best.now (omega arith))

pub loop-x-init : goal.loop-x-init
loop-x-init t c =
    Fibers.listing_starts c.args.inst.now c.args.j c.args.point.now c.args.rest.now c.column-column.result.now c.args.best.now c.in_ok-left.left c.in_ok-left.ensures
    c.requires.point_width c.requires.best_width c.requires.point_limit c.requires.best_limit

pub descend-requires : goal.descend-requires
descend-requires t c =
    let more : c.args.j < column_count c.args.inst.now = omega (arith, c.columns.ensures.columns) in
    let len-set : length (set c.loop-x.point c.args.j c.loop-x.x) ≡ length c.loop-x.point = length-set c.loop-x.point c.args.j c.loop-x.x in
    let count : c.loop-x.x ≤ total c.args.rest.now = times-le-total c.loop-x.x c.column-column.result.now c.args.rest.now c.column-column.ensures.positive c.loop-x.invariant.fits in
    let part : total (subtract c.args.rest.now (scale c.loop-x.x c.column-column.result.now)) ≤ total c.args.rest.now =
    total-divides (subtract c.args.rest.now (scale c.loop-x.x c.column-column.result.now)) c.args.rest.now (subtract-divides c.args.rest.now (scale c.loop-x.x c.column-column.result.now)) in
    let left-total : total c.loop-x.left ≡ total (subtract c.args.rest.now (scale c.loop-x.x c.column-column.result.now)) = ap total c.loop-x.invariant.remains in
    let left-width : length c.loop-x.left ≡ length c.args.rest.now = ap length c.loop-x.invariant.remains ∙ length-subtract c.args.rest.now (scale c.loop-x.x c.column-column.result.now) in (
      search rules,
      (
        omega arith,
        (
          ap length c.set.ensures ∙ len-set ∙ c.loop-x.invariant.point_width,
          (
            c.loop-x.invariant.best_width,
            (
              left-width ∙ c.requires.rest_width,
              (
                omega arith,
                (
                  subst (λ l. All (λ y. y ≤ JOB_GRADE_LIMIT) l) (sym c.set.ensures)
                      (All-set (λ y. y ≤ JOB_GRADE_LIMIT) c.loop-x.point c.args.j c.loop-x.x (omega arith) c.loop-x.invariant.point_limit),
                  c.loop-x.invariant.best_limit,
                ),
              ),
            ),
          ),
        ),
      ),
    )

pub sub_checked-requires : goal.sub_checked-requires
sub_checked-requires t c =
    let left-width : length c.loop-x.left ≡ length c.args.rest.now = ap length c.loop-x.invariant.remains ∙ length-subtract c.args.rest.now (scale c.loop-x.x c.column-column.result.now) in
    record { width = left-width ∙ c.requires.rest_width ∙ sym c.column-column.ensures.rows }

pub returns-in-None-clause-lowest : goal.returns-in-None-clause-lowest
returns-in-None-clause-lowest t c =
    let more : c.args.j < column_count c.args.inst.now = omega (arith, c.columns.ensures.columns) in
    let in-point : c.args.j < length c.loop-x.point = omega (arith, c.loop-x.invariant.point_width) in
    let widths : length c.column-column.result.now ≡ length c.args.rest.now = c.column-column.ensures.rows ∙ sym c.requires.rest_width in
    let next : c.descend.new.best ≡ best_of (is_lower c.args.inst.now) c.loop-x.best
    (map (λ q. take (c.args.j + 1) (set c.loop-x.point c.args.j c.loop-x.x) ++ q) (fiber_of (drop (c.args.j + 1) c.args.inst.now.columns) c.loop-x.left)) =
    subst (λ p. c.descend.new.best ≡ best_of (is_lower c.args.inst.now) c.loop-x.best (map (λ q. take (c.args.j + 1) p ++ q) (fiber_of (drop (c.args.j + 1) c.args.inst.now.columns) c.loop-x.left)))
    c.set.ensures c.in_ok-descend.ensures.lowest in
    let none : c.in_ok-less.field-0 ≡ None = c.in-None.is in
    let never : Divides c.column-column.result.now c.loop-x.left → ⊥ = no_more c.in_ok-less.field-0 none c.in_ok-less.ensures.nowhere_negative in
    Fibers.whole_lowest c.args.inst.now c.args.j c.args.point.now c.args.rest.now c.column-column.result.now c.args.best.now c.loop-x.x c.descend.new.best
    more (column_at c.column-column.result.now c.args.inst.now c.args.j c.column-column.ensures.column more) c.column-column.ensures.positive c.loop-x.invariant.fits
    (λ d. never (subst (λ l. Divides c.column-column.result.now l) (sym c.loop-x.invariant.remains) (Fibers.fits_next c.loop-x.x c.column-column.result.now c.args.rest.now widths d)))
    (Fibers.next_lowest c.args.inst.now c.args.j c.args.point.now c.args.rest.now c.column-column.result.now c.args.best.now c.loop-x.x c.loop-x.point c.loop-x.left c.loop-x.best
    c.descend.new.best c.loop-x.invariant in-point next)

pub returns-in-None-clause-front : goal.returns-in-None-clause-front
returns-in-None-clause-front t c =
    same_front c.args.j c.loop-x.x c.args.point.now c.loop-x.point c.set.new.self c.descend.new.point c.set.ensures c.in_ok-descend.ensures.front c.loop-x.invariant.same_front

pub loop-x-preserved : goal.loop-x-preserved
loop-x-preserved t c =
    let in-point : c.args.j < length c.loop-x.point = omega (arith, c.loop-x.invariant.point_width, c.columns.ensures.columns) in
    let widths : length c.column-column.result.now ≡ length c.args.rest.now = c.column-column.ensures.rows ∙ sym c.requires.rest_width in
    let next : c.descend.new.best ≡ best_of (is_lower c.args.inst.now) c.loop-x.best
    (map (λ q. take (c.args.j + 1) (set c.loop-x.point c.args.j c.loop-x.x) ++ q) (fiber_of (drop (c.args.j + 1) c.args.inst.now.columns) c.loop-x.left)) =
    subst (λ p. c.descend.new.best ≡ best_of (is_lower c.args.inst.now) c.loop-x.best (map (λ q. take (c.args.j + 1) p ++ q) (fiber_of (drop (c.args.j + 1) c.args.inst.now.columns) c.loop-x.left)))
    c.set.ensures c.in_ok-descend.ensures.lowest in
    let some : c.in_ok-less.field-0 ≡ Some c.in-Some.less = c.in-Some.is in
    let more : Divides c.column-column.result.now c.loop-x.left × (c.in-Some.less ≡ subtract c.loop-x.left c.column-column.result.now) =
    one_more c.in_ok-less.field-0 c.in-Some.less some c.in_ok-less.ensures.nowhere_negative c.in_ok-less.ensures.difference in
    record {
      lowest = Fibers.next_lowest c.args.inst.now c.args.j c.args.point.now c.args.rest.now c.column-column.result.now c.args.best.now c.loop-x.x c.loop-x.point c.loop-x.left c.loop-x.best
          c.descend.new.best c.loop-x.invariant in-point next;
      same_front = same_front c.args.j c.loop-x.x c.args.point.now c.loop-x.point c.set.new.self c.descend.new.point c.set.ensures c.in_ok-descend.ensures.front c.loop-x.invariant.same_front;
      fits = Fibers.next_fits c.loop-x.x c.column-column.result.now c.args.rest.now widths c.loop-x.invariant.fits
          (subst (λ l. Divides c.column-column.result.now l) c.loop-x.invariant.remains more.0);
      remains = more.1 ∙ Fibers.next_remains c.loop-x.x c.column-column.result.now c.args.rest.now c.loop-x.left c.loop-x.invariant.remains;
      point_width = c.in_ok-descend.ensures.point_stays;
      best_width = c.in_ok-descend.ensures.best_stays;
      point_limit = c.in_ok-descend.ensures.point_within;
      best_limit = c.in_ok-descend.ensures.best_within;
    }

pub returns-clause-lowest : goal.returns-clause-lowest
returns-clause-lowest t c =
    let count : c.loop-x.x ≤ total c.args.rest.now = times-le-total c.loop-x.x c.column-column.result.now c.args.rest.now c.column-column.ensures.positive c.loop-x.invariant.fits in
    absurd (omega arith)
