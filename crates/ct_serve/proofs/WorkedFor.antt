-- The grades that requests work for.
use Rattle.std.proofs.Common.{ℕ, ◌≡◌, ◌++◌, max, false, List, [], ◌∷◌, map, refl, ap, ap₂}
use Rattle.std.specs.List.{flat_map}
use Rattle.ct_vectors.specs.Vectors.{total}
use Rattle.ct_input.specs.declared.script.Request.{Request}
use Rattle.ct_input.specs.declared.script.Request.TheVariants.{Ask, Solve}
use Rattle.ct_input.specs.declared.script.Phase.{Phase}
use Rattle.ct_version.specs.Desks.{Place}
use Rattle.ct_legal.specs.Scripts.{solved_sum, greatest, grade_after}
use Rattle.ct_answer.specs.declared.options.Options.{Options}
use Rattle.ct_answer.specs.Told.{worked_for, all_worked_for}
use Rattle.ct_serve.specs.Served.{case_from}

solved_sums : (p : Place) (o : Options) (opened : ℕ) (requests : List Request) → map (solved_sum (case_from p o opened)) requests ≡ map (worked_for false) requests
solved_sums p o opened [] = refl
solved_sums p o opened (Ask b ∷ requests) = ap (λ ns. 0 ∷ ns) (solved_sums p o opened requests)
solved_sums p o opened (Solve b ∷ requests) = ap (λ ns. total b ∷ ns) (solved_sums p o opened requests)

solved_in : (p : Place) (o : Options) (opened : ℕ) (sessions : List (List Request)) →
    flat_map (λ requests. map (solved_sum (case_from p o opened)) requests) sessions ≡ all_worked_for false sessions
solved_in p o opened [] = refl
solved_in p o opened (requests ∷ sessions) = ap₂ (λ ns ms. ns ++ ms) (solved_sums p o opened requests) (solved_in p o opened sessions)

pub grade_worked : (p : Place) (o : Options) (opened grade : ℕ) (phase : Phase) →
    grade_after (case_from p o opened) grade phase ≡ max grade (max phase.target (greatest (all_worked_for false phase.sessions)))
grade_worked p o opened grade phase = ap (λ ns. max grade (max phase.target (greatest ns))) (solved_in p o opened phase.sessions)
