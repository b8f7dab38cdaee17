-- What a walk within the box tells.
use Rattle.std.proofs.Common.{ℕ, ◌≤◌, ◌<◌, ◌≡◌, nat_le, Bool, true, false, true≢false, cond, Option, Some, None, Result, Ok, Err, IfOk, List, All, refl, sym, ap, subst, ◌∙◌, arith, le-leb}
use Rattle.std.proofs.lemmas.Bool.{leb-false, lt-leb}
use Rattle.ct_vectors.specs.declared.limits.TheConstants.{RIGHT_LIMIT, GRADE_LIMIT}
use Rattle.ct_vectors.specs.Vectors.{total, Divides}
use Rattle.ct_instance.specs.Instance.{Problem, IsInstance, IsRight, IsPoint, degree_of, grade_of, start_of}
use Rattle.ct_instance.specs.Fiber.{least_of}
use Rattle.ct_instance.specs.TestSet.{Binomial}
use Rattle.ct_instance.specs.Answer.{answer_of}
use Rattle.ct_instance.specs.Walk.{IsWalk}
use Rattle.ct_instance.proofs.Degree.{degree-start, start_is_point}
use Rattle.ct_box.specs.Box.{box_list, box_full_grade}
use Rattle.ct_box.specs.Completing.{IsBoxDone}
use Rattle.ct_box.proofs.Completions.{done_names_full, done_walks}
use Rattle.ct_box.proofs.BoxWalks.{box_walk_least}
use Rattle.ct_box_report.specs.BoxReport.{if_within}

-- a grade that isn't within another is above it
past : (g f : ℕ) → if_within g (Some f) ≡ None → g < f
past g f e = of (nat_le f g) refl e
  where
    of : (b : Bool) → nat_le f g ≡ b → cond b (Some f) None ≡ None → g < f
    of true h k = absurd (cc)
    of false h k = leb-false f g h

pub within_some : (g f : ℕ) → f ≤ g → if_within g (Some f) ≡ Some f
within_some g f low = ap (λ b. cond b (Some f) None) (le-leb f g low)

pub within_none : (g f : ℕ) → g < f → if_within g (Some f) ≡ None
within_none g f high = ap (λ b. cond b (Some f) None) (lt-leb f g high)

pub ok_weaker : {A E : Type 0} (P Q : A → Type 0) (r : Result A E) → ((x : A) → P x → Q x) → IfOk r P → IfOk r Q
ok_weaker P Q (Ok x) weaker holds = weaker x holds
ok_weaker P Q (Err e) weaker holds = tt

-- the walk by the moves that there are, of a right-hand side within the bound and below the box full grade
pub record IsBoxWalk (i : Problem) (top b : List ℕ) (steps : List (ℕ × ℕ)) (q : List ℕ) : Type 0 where
  pub walk : IsWalk (box_list i top) (start_of i b) steps q
  pub least : q ≡ least_of i b

pub box_walked : (i : Problem) → IsInstance i → (top : List ℕ) (limit : ℕ) (ms : List Binomial) (full : Option ℕ) → IsBoxDone i top limit ms full →
    (b : List ℕ) → IsRight i b → Divides b top → if_within (total b) (box_full_grade i top limit) ≡ None →
    (start : List ℕ) → start ≡ start_of i b → (steps : List (ℕ × ℕ)) (q : List ℕ) → IsWalk ms start steps q → IsBoxWalk i top b steps q
box_walked i s top limit ms full done b right within room start is steps q walk =
    let grade : grade_of i.columns (start_of i b) ≡ total b = ap total (degree-start i s b right) in
    let below : (f : ℕ) → full ≡ Some f → grade_of i.columns (start_of i b) < f =
    λ f e. (let low : total b < f = past (total b) f (ap (if_within (total b)) (sym e ∙ done_names_full i s top limit ms full done) ∙ room) in omega (arith, low, grade)) in
    let by_box : IsWalk (box_list i top) (start_of i b) steps q =
    (done_walks i s top limit ms full done (start_of i b) (start_is_point i b right) below steps q).0 (subst (λ (p : List ℕ). IsWalk ms p steps q) is walk) in
    record { walk = by_box; least = box_walk_least i s top b right within q (record { steps = steps; walk = by_box }) }
