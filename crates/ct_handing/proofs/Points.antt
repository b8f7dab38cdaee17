-- The points of what the jobs of a grade leave.
use Rattle.std.proofs.Common.{ℕ, ◌≤◌, ◌<◌, Option, None, Some, List, [], ◌∷◌, All, sym, subst, ◌∙◌, arith, suc}
use Rattle.std.proofs.lemmas.List.Elements.{All-cons}
use Rattle.ct_vectors.specs.declared.limits.TheConstants.{GRADE_LIMIT}
use Rattle.ct_vectors.specs.Vectors.{total}
use Rattle.ct_instance.specs.declared.jobs.Job.{Job}
use Rattle.ct_instance.specs.Instance.{Problem, IsInstance}
use Rattle.ct_instance.specs.Fiber.{IsInFiber}
use Rattle.ct_instance.specs.TestSet.{Binomial}
use Rattle.ct_instance.specs.Walk.{AreMoves, IsWalkEnd}
use Rattle.ct_instance.specs.Jobs.{IsJob, job_degree_of, job_grade_of, first_end_of, second_end_of}
use Rattle.ct_instance.specs.Versions.{IsRemainder, coprime, meet, differ}
use Rattle.ct_walk.specs.Laws.{StaysOrGoesDown}
use Rattle.ct_walk.proofs.Ends.{ends_in_fiber}
use Rattle.ct_walk.proofs.Steps.{leads_down}
use Rattle.ct_walk.proofs.WalkFacts.{walk_leads}
use Rattle.ct_completion.specs.Remainders.{points_of}
use Rattle.ct_groups.specs.Groups.{IsSmallPoint}

abbrev pub AreSmall : Problem → Option (List ℕ × List ℕ) → Type 0
AreSmall i None = Unit {0}
AreSmall i (Some p) = IsSmallPoint i p.0 × IsSmallPoint i p.1

walked_small : (i : Problem) → IsInstance i → (ms : List Binomial) → AreMoves i ms → (b p q : List ℕ) → total b ≤ GRADE_LIMIT → IsInFiber i b p → IsWalkEnd ms p q → IsSmallPoint i q
walked_small i h ms a b p q most f w =
    let d : StaysOrGoesDown i p q = leads_down i ms a p q f.point (walk_leads ms p q w.steps w.walk) in
    record {
      point = (d.member).point;
      grade = subst (λ (c : List ℕ). total c ≤ GRADE_LIMIT) (sym ((d.member).degree ∙ f.degree)) most;
    }

pub remainder_small : (i : Problem) → IsInstance i → (ms : List Binomial) → AreMoves i ms → (j : Job) → IsJob i ms j → job_grade_of i ms j ≤ GRADE_LIMIT →
    (r : Option (List ℕ × List ℕ)) → IsRemainder i ms j r → AreSmall i r
remainder_small i h ms a j job most r (coprime c) = tt
remainder_small i h ms a j job most r (meet p n first second) = tt
remainder_small i h ms a j job most r (differ p q n first second apart) =
    let ends = ends_in_fiber i h ms a j job in
    (walked_small i h ms a (job_degree_of i ms j) (first_end_of i ms j) p most ends.0 first, walked_small i h ms a (job_degree_of i ms j) (second_end_of i ms j) q most ends.1 second)

pub all_points : (i : Problem) (rs : List (Option (List ℕ × List ℕ))) → All (AreSmall i) rs → All (IsSmallPoint i) (points_of rs)
all_points i [] all = λ k d l. absurd (let m : k < 0 = l in omega arith)
all_points i (None ∷ rs) all = all_points i rs (λ k d l. all (suc k) d (omega arith))
all_points i (Some p ∷ rs) all =
    let here : IsSmallPoint i p.0 × IsSmallPoint i p.1 = all 0 None (omega arith) in
    All-cons (IsSmallPoint i) p.0 (p.1 ∷ points_of rs) here.0 (All-cons (IsSmallPoint i) p.1 (points_of rs) here.1 (all_points i rs (λ k d l. all (suc k) d (omega arith))))
